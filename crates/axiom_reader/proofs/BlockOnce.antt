-- A block of lines comes to one thing.
use Rattle.std.proofs.Common.{◌≡◌, ◌≢◌, ℕ, zero, suc, ◌+◌, ◌<◌, Bool, true, false, List, [], ◌∷◌, ◌++◌, length, get_or, Result, Ok, Err, AllPairs, refl, sym, ap, subst, ◌∙◌, arith, inl, inr, ◌⊎◌, Some, None, length-append}
use Rattle.std.specs.Prelude.{◌==◌}
use Rattle.std.specs.List.{AllZip, list_any}
use Rattle.std.specs.Str.{bytes_eq}
use Rattle.std.proofs.lemmas.Bool.{or_parts}
use Rattle.std.proofs.lemmas.Slice.Eq.{bytes_eq-Decides}
use Rattle.std.proofs.lemmas.List.Quantifiers.{all_pairs_push}
use Rattle.grammar.specs.Bytes.{is_blank}
use Rattle.grammar.specs.Reading.{next_is, whole}
use Rattle.grammar.proofs.Exact.{SameHead-refl, IsFault, IsWhole, Anything, exact_whole}
use Rattle.grammar.proofs.Parts.{Every, Every-middle, alike, shorter, longer, cut_of}
use Rattle.dl_base.specs.Ontology.{Terminology}
use Rattle.dl_base.specs.Axiom.{Statement, Numbers, NumbersHead, NumbersInclusion, IsExtended, with_name, with_names}
use Rattle.dl_base.specs.declared.axiom.NamedBasic.{NamedBasic}
use Rattle.dl_base.specs.declared.axiom.NamedBasic.TheVariants as named
use Rattle.dl_base.specs.declared.axiom.NamedHead.{NamedHead}
use Rattle.dl_base.specs.declared.axiom.NamedHead.TheVariants as named_head
use Rattle.dl_base.specs.declared.axiom.NamedInclusion.{NamedInclusion}
use Rattle.dl_base.specs.declared.concept.Basic.{Basic}
use Rattle.dl_base.specs.declared.concept.Basic.TheVariants as basic
use Rattle.dl_base.specs.declared.concept.Head.{Head}
use Rattle.dl_base.specs.declared.concept.Head.TheVariants as head
use Rattle.dl_base.specs.declared.concept.Inclusion.{Inclusion}
use Rattle.dl_base.proofs.PlaceLemmas.{one_place}
use Rattle.axiom_reader.specs.AxiomGrammar.{axiom_text}
use Rattle.axiom_reader.specs.AxiomMeaning.{meaning}
use Rattle.axiom_reader.specs.AxiomReading.{tree_at, property_at}
use Rattle.axiom_reader.specs.Block.{Line, IsSkipped, padded_axiom, LeadsTo, LineOffends, AllLead, LinesGive, IsFirstOffence, ComesTo, IsCutOff, BlockGives, no_names}
use Rattle.axiom_reader.specs.BlockReading.{line_at}
use Rattle.axiom_reader.specs.declared.tree.AxiomTree.{AxiomTree}
use Rattle.axiom_reader.specs.declared.block.BlockCause.{BlockCause}
use Rattle.axiom_reader.specs.declared.block.BlockCause.TheVariants as cause
use Rattle.axiom_reader.specs.declared.block.BlockError.{BlockError}
use Rattle.axiom_reader.proofs.FormRules.{reads_axiom, first_axiom}
use Rattle.axiom_reader.proofs.BlockRules.{reads_line}

-- ---- an ontology and an axiom make one ontology

abbrev Distinct : List (List ℕ) → Type 0
Distinct names = AllPairs (λ x y. x ≢ y) names

not_any : (p : List ℕ → Bool) (xs : List (List ℕ)) (k : ℕ) (d : List ℕ) → k < length xs → list_any p xs ≡ false → p (get_or xs k d) ≡ false
not_any p [] k d lt e = absurd (omega (arith, lt))
not_any p (x ∷ xs) zero d lt e = (or_parts (p x) (list_any p xs) e).0
not_any p (x ∷ xs) (suc k) d lt e = not_any p xs k d (omega (arith, lt)) (or_parts (p x) (list_any p xs) e).1

distinct_more : (names : List (List ℕ)) (name : List ℕ) → Distinct names → Distinct (with_name names name)
distinct_more names name d = by (list_any (bytes_eq name) names) refl
  where
    by : (b : Bool) → list_any (bytes_eq name) names ≡ b → Distinct (with_name names name)
    by true e = rw e d
    by false e = rw e (all_pairs_push (λ x y. x ≢ y) names name d (λ k other lt same.
        let yes : bytes_eq name (get_or names k other) ≡ true = (bytes_eq-Decides name (get_or names k other)).1 (sym same) in
        let no : bytes_eq name (get_or names k other) ≡ false = not_any (bytes_eq name) names k other lt e in
        cc))

distinct_all : (names more : List (List ℕ)) → Distinct names → Distinct (with_names names more)
distinct_all names [] d = d
distinct_all names (x ∷ xs) d = distinct_all (with_name names x) xs (distinct_more names x d)

zip_once : {A B : Type 0} (R : A → B → Type 0) → ((a : A) (b c : B) → R a b → R a c → b ≡ c) → (xs : List A) (ys zs : List B) → AllZip R xs ys → AllZip R xs zs → ys ≡ zs
zip_once R once [] [] [] p q = refl
zip_once R once [] [] (z ∷ zs) p q = absurd q
zip_once R once [] (y ∷ ys) zs p q = absurd p
zip_once R once (x ∷ xs) [] zs p q = absurd p
zip_once R once (x ∷ xs) (y ∷ ys) [] p q = absurd q
zip_once {A} {B} R once (x ∷ xs) (y ∷ ys) (z ∷ zs) p q = ap (λ (b : B). b ∷ ys) (once x y z p.0 q.0) ∙ ap (λ (l : List B). z ∷ l) (zip_once R once xs ys zs p.1 q.1)

module _ (cs rs : List (List ℕ)) (dc : Distinct cs) (dr : Distinct rs) where
  numbers_once : (n : NamedBasic) (b c : Basic) → Numbers cs rs n b → Numbers cs rs n c → b ≡ c
  numbers_once (named.Concept name) (basic.Concept b) (basic.Concept c) p q = ap basic.Concept (one_place cs b c name dc p q)
  numbers_once (named.Concept name) (basic.Concept b) (basic.Exists s) p q = absurd q
  numbers_once (named.Concept name) (basic.Exists s) c p q = absurd p
  numbers_once (named.Exists r) (basic.Concept b) c p q = absurd p
  numbers_once (named.Exists r) (basic.Exists s) (basic.Concept c) p q = absurd q
  numbers_once (named.Exists r) (basic.Exists s) (basic.Exists t) p q =
      let name : s.name ≡ t.name = one_place rs s.name t.name r.name dr p.0 q.0 in
      let inverse : s.inverse ≡ t.inverse = p.1 ∙ sym q.1 in
      ap basic.Exists (λ j. record { name = name j; inverse = inverse j })

  head_once : (n : NamedHead) (b c : Head) → NumbersHead cs rs n b → NumbersHead cs rs n c → b ≡ c
  head_once (named_head.Basic n) (head.Basic b) (head.Basic c) p q = ap head.Basic (numbers_once n b c p q)
  head_once (named_head.Basic n) (head.Basic b) head.Nothing p q = absurd q
  head_once (named_head.Basic n) head.Nothing c p q = absurd p
  head_once named_head.Nothing (head.Basic b) c p q = absurd p
  head_once named_head.Nothing head.Nothing (head.Basic c) p q = absurd q
  head_once named_head.Nothing head.Nothing head.Nothing p q = refl

  inclusion_once : (n : NamedInclusion) (i k : Inclusion) → NumbersInclusion cs rs n i → NumbersInclusion cs rs n k → i ≡ k
  inclusion_once n i k p q =
      let body = zip_once (Numbers cs rs) numbers_once n.body i.body k.body p.body q.body in
      let heads = head_once n.head i.head k.head p.head q.head in
      λ j. record { body = body j; head = heads j }

extended_once : (o : Terminology) (a : Statement) (n m : Terminology) → Distinct o.concepts → Distinct o.roles → IsExtended o a n → IsExtended o a m → n ≡ m
extended_once o a n m dc dr x y =
    let concepts : n.concepts ≡ m.concepts = x.concepts ∙ sym y.concepts in
    let roles : n.roles ≡ m.roles = x.roles ∙ sym y.roles in
    let dcn : Distinct n.concepts = subst Distinct (sym x.concepts) (distinct_all o.concepts a.concepts dc) in
    let drn : Distinct n.roles = subst Distinct (sym x.roles) (distinct_all o.roles a.roles dr) in
    let each : AllZip (NumbersInclusion n.concepts n.roles) a.inclusions y.inclusions.added =
    subst (λ (cs : List (List ℕ)). AllZip (NumbersInclusion cs n.roles) a.inclusions y.inclusions.added) (sym concepts)
    (subst (λ (rs : List (List ℕ)). AllZip (NumbersInclusion m.concepts rs) a.inclusions y.inclusions.added) (sym roles) y.inclusions.each) in
    let added : x.inclusions.added ≡ y.inclusions.added = zip_once (NumbersInclusion n.concepts n.roles) (inclusion_once n.concepts n.roles dcn drn) a.inclusions x.inclusions.added y.inclusions.added x.inclusions.each each in
    let inclusions : n.inclusions ≡ m.inclusions = x.inclusions.last ∙ ap (λ (l : List Inclusion). o.inclusions ++ l) added ∙ sym y.inclusions.last in
    λ j. record { concepts = concepts j; roles = roles j; inclusions = inclusions j }

-- ---- a line that is skipped holds no axiom

tree_once : (text : List ℕ) (r : Result AxiomTree ℕ) → IsWhole padded_axiom text r → (t u : AxiomTree) → padded_axiom text t → padded_axiom text u → t ≡ u
tree_once text (Ok v) is t u x y = is.only t x ∙ sym (is.only u y)
tree_once text (Err left) is t u x y = absurd (is.fault.outside (t, x))

same_tree : (text : List ℕ) (t u : AxiomTree) → padded_axiom text t → padded_axiom text u → t ≡ u
same_tree text = tree_once text (whole (line_at text)) (exact_whole padded_axiom text (line_at text) (reads_line {text = text}).is)

no_empty_axiom : (tree : AxiomTree) → axiom_text [] tree → ⊥
unfolding tree_at property_at
no_empty_axiom tree s =
    let f : IsFault axiom_text Anything [] 0 = (reads_axiom {F = Anything} {text = []}).is in
    f.never [] tree [] f.rest s tt f.parts (SameHead-refl f.rest)

not_skipped : (text front core back : List ℕ) (tree : AxiomTree) → text ≡ front ++ (core ++ back) → Every is_blank front → axiom_text core tree → IsSkipped text → ⊥
not_skipped text front [] back tree parts blank s skipped = no_empty_axiom tree s
not_skipped text front (c ∷ cs) back tree parts blank s (inl all) =
    let no : is_blank c ≡ false = (first_axiom {p = is_blank} {F = Anything} refl refl refl refl refl refl).is (c ∷ cs) tree [] s tt in
    let yes : is_blank c ≡ true = Every-middle is_blank front c (cs ++ back) (subst (λ (l : List ℕ). Every is_blank l) parts all) in
    cc
not_skipped text front (c ∷ cs) back tree parts blank s (inr comment) =
    let no : is_blank c ≡ false = (first_axiom {p = is_blank} {F = Anything} refl refl refl refl refl refl).is (c ∷ cs) tree [] s tt in
    let other : (c == 35) ≡ false = (first_axiom {p = λ b. b == 35} {F = Anything} refl refl refl refl refl refl).is (c ∷ cs) tree [] s tt in
    elim (cut_of front (c ∷ (cs ++ back)) comment.0 (35 ∷ comment.1) (sym parts ∙ comment.2)) [
      | alike a b ↦ (let same : c ≡ 35 = cc in let yes : (c == 35) ≡ true = ap (λ (n : ℕ). n == 35) same in absurd (cc))
      | shorter d m a b ↦
          let blank_d : is_blank d ≡ true = Every-middle is_blank front d m (subst (λ (l : List ℕ). Every is_blank l) a comment.3) in
          let same : c ≡ d = cc in
          absurd (let yes : is_blank c ≡ true = ap is_blank same ∙ blank_d in cc)
      | longer d m a b ↦
          let blank_d : is_blank d ≡ true = Every-middle is_blank comment.0 d m (subst (λ (l : List ℕ). Every is_blank l) a blank) in
          let same : 35 ≡ d = cc in
          absurd (let yes : is_blank 35 ≡ true = ap is_blank same ∙ blank_d in cc)
    ]

skip_or_axiom : (text : List ℕ) (tree : AxiomTree) → IsSkipped text → padded_axiom text tree → ⊥
skip_or_axiom text tree skipped s =
    let u = s.in_second in
    not_skipped text s.front u.front u.back u.met (s.parts ∙ ap (λ (l : List ℕ). s.front ++ l) u.parts) s.in_first.0 u.in_first skipped

-- ---- a line leads to one ontology, or offends for one cause

pub record HasDistinct (o : Terminology) : Type 0 where
  pub concepts : Distinct o.concepts
  pub roles : Distinct o.roles

leads_once : (o : Terminology) (line : Line) (n m : Terminology) → HasDistinct o → LeadsTo o line n → LeadsTo o line m → n ≡ m
leads_once o None n m d x y = absurd x
leads_once o (Some text) n m d (inl x) (inl y) = x.1 ∙ sym y.1
leads_once o (Some text) n m d (inl x) (inr y) = absurd (skip_or_axiom text y.0 x.0 y.1)
leads_once o (Some text) n m d (inr x) (inl y) = absurd (skip_or_axiom text x.0 y.0 x.1)
leads_once o (Some text) n m d (inr x) (inr y) =
    extended_once o (meaning x.0) n m d.concepts d.roles x.2 (subst (λ (t : AxiomTree). IsExtended o (meaning t) m) (same_tree text y.0 x.0 y.1 x.1) y.2)

leads_distinct : (o : Terminology) (line : Line) (n : Terminology) → HasDistinct o → LeadsTo o line n → HasDistinct n
leads_distinct o None n d x = absurd x
leads_distinct o (Some text) n d (inl x) = subst HasDistinct (sym x.1) d
leads_distinct o (Some text) n d (inr x) = record {
  concepts = subst Distinct (sym x.2.concepts) (distinct_all o.concepts (meaning x.0).concepts d.concepts);
  roles = subst Distinct (sym x.2.roles) (distinct_all o.roles (meaning x.0).roles d.roles);
}

leads_or_offends : (o : Terminology) (line : Line) (n : Terminology) (why : BlockCause) → LeadsTo o line n → LineOffends o line why → ⊥
leads_or_offends o None n why x y = x
leads_or_offends o (Some text) n cause.Syntax (inl x) y = y.0 x.0
leads_or_offends o (Some text) n cause.Syntax (inr x) y = y.1 (x.0, x.1)
leads_or_offends o (Some text) n cause.Limit (inl x) y = skip_or_axiom text y.0 x.0 y.2
leads_or_offends o (Some text) n cause.Limit (inr x) y = (subst (λ (t : AxiomTree). IsExtended o (meaning t) n) (same_tree text x.0 y.0 x.1 y.2) x.2).passes_none y.1 y.3.0
leads_or_offends o (Some text) n cause.Length x y = y

offends_once : (o : Terminology) (line : Line) (why other : BlockCause) → LineOffends o line why → LineOffends o line other → why ≡ other
offends_once o None why other x y = x ∙ sym y
offends_once o (Some text) cause.Syntax cause.Syntax x y = refl
offends_once o (Some text) cause.Syntax cause.Limit x y = absurd (x.1 (y.0, y.2))
offends_once o (Some text) cause.Syntax cause.Length x y = absurd y
offends_once o (Some text) cause.Limit cause.Syntax x y = absurd (y.1 (x.0, x.2))
offends_once o (Some text) cause.Limit cause.Limit x y = refl
offends_once o (Some text) cause.Limit cause.Length x y = absurd y
offends_once o (Some text) cause.Length other x y = absurd x

-- ---- all lines

all_once : (lines : List Line) (o n m : Terminology) → HasDistinct o → AllLead o lines n → AllLead o lines m → n ≡ m
all_once [] o n m d x y = x ∙ sym y
all_once (line ∷ lines) o n m d x y =
    all_once lines x.0 n m (leads_distinct o line x.0 d x.1) x.2 (subst (λ (t : Terminology). AllLead t lines m) (leads_once o line y.0 x.0 d y.1 x.1) y.2)

all_or_offence : (before after : List Line) (line : Line) (o n p : Terminology) (why : BlockCause) → HasDistinct o → AllLead o (before ++ line ∷ after) n → AllLead o before p → LineOffends p line why → ⊥
all_or_offence [] after line o n p why d x y z = leads_or_offends o line x.0 why x.1 (subst (λ (t : Terminology). LineOffends t line why) y z)
all_or_offence (first ∷ before) after line o n p why d x y z =
    all_or_offence before after line x.0 n p why (leads_distinct o first x.0 d x.1) x.2 (subst (λ (t : Terminology). AllLead t before p) (leads_once o first y.0 x.0 d y.1 x.1) y.2) z

offence_once : (before before' after after' : List Line) (line line' : Line) (o p p' : Terminology) (why why' : BlockCause) → HasDistinct o → before ++ line ∷ after ≡ before' ++ line' ∷ after'
    → AllLead o before p → AllLead o before' p' → LineOffends p line why → LineOffends p' line' why' → (length before ≡ length before') × (why ≡ why')
offence_once [] [] after after' line line' o p p' why why' d e x x' y y' =
    let same : line ≡ line' = cc in
    (refl, offends_once o line why why' (subst (λ (t : Terminology). LineOffends t line why) x y) (subst (λ (l : Line). LineOffends o l why') (sym same) (subst (λ (t : Terminology). LineOffends t line' why') x' y')))
offence_once [] (l ∷ before') after after' line line' o p p' why why' d e x x' y y' =
    let same : line ≡ l = cc in
    absurd (leads_or_offends o l x'.0 why x'.1 (subst (λ (k : Line). LineOffends o k why) same (subst (λ (t : Terminology). LineOffends t line why) x y)))
offence_once (l ∷ before) [] after after' line line' o p p' why why' d e x x' y y' =
    let same : line' ≡ l = cc in
    absurd (leads_or_offends o l x.0 why' x.1 (subst (λ (k : Line). LineOffends o k why') same (subst (λ (t : Terminology). LineOffends t line' why') x' y')))
offence_once (l ∷ before) (k ∷ before') after after' line line' o p p' why why' d e x x' y y' =
    let same : k ≡ l = cc in
    let tails : before ++ line ∷ after ≡ before' ++ line' ∷ after' = cc in
    let leads : LeadsTo o l x'.0 = subst (λ (m : Line). LeadsTo o m x'.0) same x'.1 in
    let rest = offence_once before before' after after' line line' x.0 p p' why why' (leads_distinct o l x.0 d x.1) tails x.2 (subst (λ (t : Terminology). AllLead t before' p') (leads_once o l x'.0 x.0 d leads x.1) x'.2) y y' in
    (ap suc rest.0, rest.1)

none_named : HasDistinct no_names
none_named = record { concepts = λ i j d lt below. absurd (omega (arith, below)); roles = λ i j d lt below. absurd (omega (arith, below)) }

first_once : (lines : List Line) (e f : BlockError) → IsFirstOffence lines e → IsFirstOffence lines f → e ≡ f
first_once lines e f x y =
    let both = offence_once x.before y.before x.after y.after x.line y.line no_names x.o y.o e.cause f.cause none_named (sym x.cut ∙ y.cut) x.gives y.gives x.offends y.offends in
    let place : e.line ≡ f.line = x.place ∙ ap (λ (n : ℕ). n + 1) both.0 ∙ sym y.place in
    λ j. record { line = place j; cause = both.1 j }

given_or_offence : (lines : List Line) (o : Terminology) (e : BlockError) → LinesGive lines o → IsFirstOffence lines e → ⊥
given_or_offence lines o e x y =
    all_or_offence y.before y.after y.line no_names o y.o e.cause none_named (subst (λ (l : List Line). AllLead no_names l o) y.cut x) y.gives y.offends

comes_once : (lines : List Line) (r s : Result Terminology BlockError) → ComesTo lines r → ComesTo lines s → r ≡ s
comes_once lines (Ok o) (Ok p) x y = ap (λ (t : Terminology). Ok t) (all_once lines no_names o p none_named x y)
comes_once lines (Ok o) (Err e) x y = absurd (given_or_offence lines o e x y)
comes_once lines (Err e) (Ok o) x y = absurd (given_or_offence lines o e y x)
comes_once lines (Err e) (Err f) x y = ap (λ (t : BlockError). Err t) (first_once lines e f x y)

cut_once : (lines : List Line) (e f : BlockError) → IsFirstOffence lines e ⊎ IsCutOff lines e → IsFirstOffence lines f ⊎ IsCutOff lines f → e ≡ f
cut_once lines e f (inl x) (inl y) = first_once lines e f x y
cut_once lines e f (inl x) (inr y) = absurd (given_or_offence lines y.0 e y.1 x)
cut_once lines e f (inr x) (inl y) = absurd (given_or_offence lines x.0 f x.1 y)
cut_once lines e f (inr x) (inr y) = x.2 ∙ sym y.2

pub block_gives_once : (lines : List Line) (whole : Bool) (r s : Result Terminology BlockError) → BlockGives lines whole r → BlockGives lines whole s → r ≡ s
block_gives_once lines true r s x y = comes_once lines r s x y
block_gives_once lines false (Ok o) s x y = absurd x
block_gives_once lines false (Err e) (Ok o) x y = absurd y
block_gives_once lines false (Err e) (Err f) x y = ap (λ (t : BlockError). Err t) (cut_once lines e f x y)
