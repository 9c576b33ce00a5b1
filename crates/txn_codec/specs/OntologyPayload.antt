-- The payload of an ontology.
use Rattle.std.specs.Prelude.{◌≡◌, ℕ, zero, suc, ◌≤◌, List, [], ◌∷◌, length, Contains, ◌==◌, cond}
use Rattle.grammar.specs.Grammar.{Grammar, literal}
use Rattle.dl_base.specs.Ontology.{Terminology, IsTerminology}
use Rattle.dl_base.specs.declared.concept.Basic.{Basic}
use Rattle.dl_base.specs.declared.concept.Basic.TheVariants as basic
use Rattle.dl_base.specs.declared.concept.Head.{Head}
use Rattle.dl_base.specs.declared.concept.Head.TheVariants as heads
use Rattle.dl_base.specs.declared.concept.Inclusion.{Inclusion}
use Rattle.txn_codec.specs.Pieces.{number, spelled_name}
use Rattle.txn_codec.specs.Checked.{Checked, plain, spoiled, ◌>>=◌, ◌>>◌, gives, exactly_checked}

-- a number of 2 bytes that is at most this
abbrev pub count_to : ℕ → Grammar ℕ
count_to most text value = number 2 text value × (value ≤ most)

-- one byte within these bounds
abbrev pub byte_within : ℕ → ℕ → Grammar ℕ
byte_within least most text value = (text ≡ value ∷ []) × (least ≤ value) × (value ≤ most)

-- a name; where it stands earlier in its list, the byte behind its length is a flaw
abbrev pub new_name : List (List ℕ) → Checked (List ℕ)
new_name earlier = spoiled spelled_name 1 (Contains earlier)

-- at most so many names, behind their number in two bytes
abbrev pub names : ℕ → Checked (List (List ℕ))
names most = do
  n ← plain (count_to most)
  exactly_checked n spelled_name (λ earlier. (new_name earlier).flaw)

-- any number of 2 bytes; where it isn't below the limit, its first byte is a flaw
abbrev pub place_below : ℕ → Checked ℕ
place_below limit = spoiled (number 2) 0 (λ n. limit ≤ n)

-- tag 1 is a concept, tag 2 whatever has a successor by a role, and tag 3 whatever has one by its inverse
abbrev pub limit_of : ℕ → ℕ → ℕ → ℕ
limit_of concepts roles tag = cond (tag == 1) concepts roles

abbrev pub basic_of : ℕ → ℕ → Basic
basic_of tag n = cond (tag == 1) (basic.Concept n) (basic.Exists (record { name = n; inverse = tag == 3 }))

abbrev pub tagged : ℕ → ℕ → ℕ → Checked Basic
tagged concepts roles tag = do
  n ← place_below (limit_of concepts roles tag)
  gives (basic_of tag n)

-- a member of a body: a tag, and the place in two bytes
abbrev pub member : ℕ → ℕ → Checked Basic
member concepts roles = do
  tag ← plain (byte_within 1 3)
  tagged concepts roles tag

-- tag 0 is nothing, with number 0
abbrev pub tagged_head : ℕ → ℕ → ℕ → Checked Head
tagged_head concepts roles zero = do
  plain (literal (0 ∷ 0 ∷ []))
  gives heads.Nothing
tagged_head concepts roles (suc t) = do
  b ← tagged concepts roles (suc t)
  gives (heads.Basic b)

-- the head of an inclusion, as a member or nothing
abbrev pub some_head : ℕ → ℕ → Checked Head
some_head concepts roles = do
  tag ← plain (byte_within 0 3)
  tagged_head concepts roles tag

-- the number of members in one byte, the members, and the head
abbrev pub inclusion : ℕ → ℕ → Checked Inclusion
inclusion concepts roles = do
  n ← plain (byte_within 1 8)
  body ← exactly_checked n (member concepts roles).loose (λ _. (member concepts roles).flaw)
  head ← some_head concepts roles
  gives (record { body = body; head = head })

-- the inclusions, behind their number in two bytes
abbrev pub inclusions : ℕ → ℕ → Checked (List Inclusion)
inclusions concepts roles = do
  n ← plain (count_to 4096)
  exactly_checked n (inclusion concepts roles).loose (λ _. (inclusion concepts roles).flaw)

-- the concept names, the role names and the inclusions
abbrev pub ontology : Checked Terminology
ontology = do
  concepts ← names 512
  roles ← names 256
  is ← inclusions (length concepts) (length roles)
  gives (record { concepts = concepts; roles = roles; inclusions = is })

-- a loose text of an ontology: its names are distinct, and its places in range; nothing follows
abbrev pub ontology_payload : Grammar Terminology
ontology_payload text o = ontology.loose text o × IsTerminology o
