-- Reading the payload of an ontology from left to right.
use Rattle.std.specs.Prelude.{ℕ, zero, suc, ◌+◌, ◌-◌, ◌*◌, ◌&&◌, ◌==◌, nat_le, nat_lt, List, [], ◌∷◌, ◌++◌, length, Ok, Err, cond}
use Rattle.std.specs.List.{list_any}
use Rattle.std.specs.Str.{bytes_eq}
use Rattle.grammar.specs.Reading.{Outcome, ◌>>=◌, expect_at}
use Rattle.dl_base.specs.Ontology.{Terminology}
use Rattle.dl_base.specs.declared.concept.Basic.{Basic}
use Rattle.dl_base.specs.declared.concept.Head.{Head}
use Rattle.dl_base.specs.declared.concept.Head.TheVariants as heads
use Rattle.dl_base.specs.declared.concept.Inclusion.{Inclusion}
use Rattle.txn_codec.specs.PiecesReading.{number_at, spelled_name_at}
use Rattle.txn_codec.specs.OntologyPayload.{limit_of, basic_of}

-- a number of 2 bytes that is at most this; a first byte that goes too far is a fault itself
unfoldable pub count_at : ℕ → List ℕ → Outcome ℕ
count_at most [] = Err 0
count_at most (high ∷ []) = cond (nat_lt most (high * 256)) (Err 1) (Err 0)
count_at most (high ∷ low ∷ rest) = cond (nat_lt most (high * 256)) (Err (length (high ∷ low ∷ rest)))
    (cond (nat_lt most (high * 256 + low)) (Err (length (low ∷ rest))) (Ok (high * 256 + low, rest)))

unfoldable pub byte_at : ℕ → ℕ → List ℕ → Outcome ℕ
byte_at least most [] = Err 0
byte_at least most (c ∷ cs) = cond (nat_le least c && nat_le c most) (Ok (c, cs)) (Err (length (c ∷ cs)))

-- so many values, one behind the other; how one is read may depend on those before it
unfoldable pub each_at : {V : Type 0} → (List V → List ℕ → Outcome V) → List V → ℕ → List ℕ → Outcome (List V)
each_at step earlier zero text = Ok ([], text)
each_at step earlier (suc n) text = do
  first ← step earlier text
  others ← each_at step (earlier ++ first.0 ∷ []) n first.1
  Ok (first.0 ∷ others.0, others.1)

unfoldable pub new_name_at : List (List ℕ) → List ℕ → Outcome (List ℕ)
new_name_at earlier text = do
  name ← spelled_name_at text
  cond (list_any (bytes_eq name.0) earlier) (Err (length text - 1)) (Ok name)

unfoldable pub names_at : ℕ → List ℕ → Outcome (List (List ℕ))
names_at most text = do
  n ← count_at most text
  each_at new_name_at [] n.0 n.1

unfoldable pub place_at : ℕ → List ℕ → Outcome ℕ
place_at limit text = do
  n ← number_at 2 text
  cond (nat_le limit n.0) (Err (length text)) (Ok n)

unfoldable pub tagged_at : ℕ → ℕ → ℕ → List ℕ → Outcome Basic
tagged_at concepts roles tag text = do
  n ← place_at (limit_of concepts roles tag) text
  Ok (basic_of tag n.0, n.1)

unfoldable pub member_at : ℕ → ℕ → List ℕ → Outcome Basic
member_at concepts roles text = do
  tag ← byte_at 1 3 text
  tagged_at concepts roles tag.0 tag.1

unfoldable pub tagged_head_at : ℕ → ℕ → ℕ → List ℕ → Outcome Head
tagged_head_at concepts roles tag text = cond (tag == 0)
    (do
      z ← expect_at (0 ∷ 0 ∷ []) text
      Ok (heads.Nothing, z.1))
    (do
      b ← tagged_at concepts roles tag text
      Ok (heads.Basic b.0, b.1))

unfoldable pub head_at : ℕ → ℕ → List ℕ → Outcome Head
head_at concepts roles text = do
  tag ← byte_at 0 3 text
  tagged_head_at concepts roles tag.0 tag.1

unfoldable pub inclusion_at : ℕ → ℕ → List ℕ → Outcome Inclusion
inclusion_at concepts roles text = do
  n ← byte_at 1 8 text
  body ← each_at (λ _. member_at concepts roles) [] n.0 n.1
  head ← head_at concepts roles body.1
  Ok (record { body = body.0; head = head.0 }, head.1)

unfoldable pub inclusions_at : ℕ → ℕ → List ℕ → Outcome (List Inclusion)
inclusions_at concepts roles text = do
  n ← count_at 4096 text
  each_at (λ _. inclusion_at concepts roles) [] n.0 n.1

unfoldable pub ontology_at : List ℕ → Outcome Terminology
ontology_at text = do
  concepts ← names_at 512 text
  roles ← names_at 256 concepts.1
  inclusions ← inclusions_at (length concepts.0) (length roles.0) roles.1
  Ok (record { concepts = concepts.0; roles = roles.0; inclusions = inclusions.0 }, inclusions.1)
