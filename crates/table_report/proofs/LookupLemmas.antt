-- What is found where all parts of it are.
use Rattle.std.proofs.Common.{◌≡◌, ◌↔◌, ℕ, ◌+◌, ◌*◌, ◌<◌, Bool, true, false, if◌then◌else◌, List, length, slice_get, Option, Some, None, option_map, refl, sym, ◌∙◌, subst, arith}
use Rattle.std.proofs.lemmas.Option.{slice_get_within}
use Rattle.dl_base.specs.Ontology.{Terminology}
use Rattle.dl_base.specs.Sets.{role_place}
use Rattle.dl_base.specs.Tables.{TableRow}
use Rattle.dl_base.specs.declared.concept.Role.{Role}
use Rattle.dl_base.proofs.SetLemmas.{role_place-same}
use Rattle.witness_book.specs.Witnesses.{Witnesses, generation_of}
use Rattle.table_report.specs.TableLines.{Member, Entry, WitnessEntry, ConceptEntry, RoleEntry, role_by_name}
use Rattle.table_report.specs.Gathered.{both, elem_member, IsOfLive, IsOfConcept, IsOfRole}

-- what a map gives is given from something
pub mapped : {A B : Type 0} (f : A → B) (x : Option A) (y : B) → option_map f x ≡ Some y → (a : A) × (x ≡ Some a) × (y ≡ f a)
mapped f None y e = absurd cc
mapped f (Some a) y e = (a, refl, let back : f a ≡ y = cc in sym back)

-- and so is what two things give
pub both_parts : {A B C : Type 0} (f : A → B → C) (x : Option A) (y : Option B) (z : C) → both f x y ≡ Some z → (a : A) × (b : B) × (x ≡ Some a) × (y ≡ Some b) × (z ≡ f a b)
both_parts f None y z e = absurd cc
both_parts f (Some a) None z e = absurd cc
both_parts f (Some a) (Some b) z e = (a, b, refl, refl, let back : f a b ≡ z = cc in sym back)

-- what a row gives has its name in the ontology
pub concept_within : (o : Terminology) (names : List (List ℕ)) (table : List TableRow) (k : ℕ) (x : Entry) → IsOfConcept o names table k x → k < length o.concepts
concept_within o names table k x (e, there, is) =
    let parts = both_parts ConceptEntry (slice_get o.concepts k) (elem_member o names e) x is in
    slice_get_within o.concepts k parts.0 parts.2

pub role_within : (o : Terminology) (names : List (List ℕ)) (table : List TableRow) (p : ℕ) (x : Entry) → IsOfRole o names table p x → p < length o.roles
role_within o names table p x (e, (f, there, is)) =
    let parts = both_parts (λ (role : List ℕ) (ends : Member × Member). RoleEntry role ends.0 ends.1) (slice_get o.roles p) (both (λ (m n : Member). (m, n)) (elem_member o names e) (elem_member o names f)) x is in
    slice_get_within o.roles p parts.0 parts.2

-- the entry is of the live role at the place
abbrev pub IsAtPlace : Terminology → Witnesses → ℕ → Entry → Type 0
IsAtPlace o book place x = (r : Role) × (role_place r ≡ place) × IsOfLive o book r x

-- what is found of the role at the place is all that is there
pub place_entries : (o : Terminology) (book : Witnesses) (place : ℕ) (r : Role) (found : Option Entry) (x : Entry) → role_place r ≡ place → ((y : Entry) → (found ≡ Some y) ↔ IsOfLive o book r y)
    → (found ≡ Some x) ↔ IsAtPlace o book place x
place_entries o book place r found x at each = (
  λ e. (r, at, (each x).0 e),
  λ there. (each x).1 (subst (λ (s : Role). IsOfLive o book s x) (role_place-same there.0 r (there.1 ∙ sym at)) there.2),
)

pub place_within : (o : Terminology) (book : Witnesses) (place : ℕ) (x : Entry) → IsAtPlace o book place x → place < 2 * length o.roles
place_within o book place x (r, at, (live, is)) =
    let named = mapped (λ n. WitnessEntry n (generation_of book r)) (role_by_name o r) x is in
    let name = mapped (λ (name : List ℕ). record { name = name; inverse = r.inverse }) (slice_get o.roles r.name) named.0 named.1 in
    let within : r.name < length o.roles = slice_get_within o.roles r.name name.0 name.1 in
    below r.inverse at within
  where
    below : (inverse : Bool) → 2 * r.name + (if inverse then 1 else 0) ≡ place → r.name < length o.roles → place < 2 * length o.roles
    below true e within = omega arith
    below false e within = omega arith
