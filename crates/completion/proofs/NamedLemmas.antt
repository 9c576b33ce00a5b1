-- What rows by numbers say is what the rows by names say that they stand for.
use Rattle.std.proofs.Common.{◌≡◌, ℕ, ◌↔◌, inl, inr, Bool, true, false, List, slice_get, All, Contains, Some, refl, sym, ◌∙◌, ap, subst}
use Rattle.std.proofs.lemmas.List.Elements.{All-contains_itself, All-weaker}
use Rattle.std.proofs.lemmas.Option.{slice_get_within}
use Rattle.assert_tables.specs.Rows.{IsNamedIn}
use Rattle.dl_base.specs.Numbers.{NumbersRow, StandFor}
use Rattle.completion.specs.Numbered.{GivesBasic, HoldsBy, IsLiveRole, IsRowNamed, IsRowOf, PointsTo}
use Rattle.dl_base.specs.Completion.{IndividualPoints, IsLive}
use Rattle.dl_base.specs.Completion as completion
use Rattle.dl_base.specs.Ontology.{Terminology, IsTerminology}
use Rattle.dl_base.specs.Rows.{Held, IsIndividual, Names, row_of}
use Rattle.dl_base.specs.declared.concept.Basic.{Basic}
use Rattle.dl_base.specs.declared.concept.Basic.TheVariants as basic
use Rattle.dl_base.specs.declared.concept.Role.{Role}
use Rattle.dl_base.specs.declared.row.NamedRow.{NamedRow}
use Rattle.dl_base.specs.declared.row.NamedRow.TheVariants as named
use Rattle.dl_base.specs.declared.row.Row.{Row}
use Rattle.dl_base.specs.declared.row.Row.TheVariants as row
use Rattle.dl_base.proofs.DerivationLemmas.{monotone}
use Rattle.dl_base.proofs.PlaceLemmas.{one_place, some_same}
use Rattle.role_graph.specs.Reached.{first, next}

row_placed : (o : Terminology) (names : List (List ℕ)) (r : NamedRow) (n : Row) → NumbersRow o names r n → IsRowOf o n
row_placed o names (named.Concept c a) (row.Concept d k) is = slice_get_within o.concepts d c is.0
row_placed o names (named.Role p a b) (row.Role q k m) is = slice_get_within o.roles q p is.0
row_placed o names (named.Concept c a) (row.Role q k m) is = absurd is
row_placed o names (named.Role p a b) (row.Concept d k) is = absurd is

-- rows that stand for some are of the ontology
pub rows_placed : (o : Terminology) (names : List (List ℕ)) (rows : List Row) (these : List NamedRow) → StandFor o names rows these → All (IsRowOf o) rows
rows_placed o names rows these stand = All-weaker (Contains rows) (IsRowOf o) (λ n there. (let found = stand.only n there in row_placed o names found.0 n found.2)) rows (All-contains_itself rows)

module _ (o : Terminology) (names : List (List ℕ)) (rows : List Row) (these : List NamedRow) (within : IsTerminology o) (stand : StandFor o names rows these) where
  -- ---- individuals

  -- an individual of a numbered row has a name, and it is an individual by it
  named_by : (n : ℕ) (r : Row) (q : NamedRow) → Contains these q → NumbersRow o names q r → IsNamedIn n r → (a : List ℕ) × (slice_get names n ≡ Some a) × IsIndividual these a
  named_by n (row.Concept d m) (named.Concept c a) there numbers (inl e) = (a, subst (λ (k : ℕ). slice_get names k ≡ Some a) (sym e) numbers.1, (named.Concept c a, there, refl))
  named_by n (row.Concept d m) (named.Concept c a) there numbers (inr e) = (a, subst (λ (k : ℕ). slice_get names k ≡ Some a) (sym e) numbers.1, (named.Concept c a, there, refl))
  named_by n (row.Role q k m) (named.Role p a b) there numbers (inl e) = (a, subst (λ (j : ℕ). slice_get names j ≡ Some a) (sym e) numbers.1, (named.Role p a b, there, inl refl))
  named_by n (row.Role q k m) (named.Role p a b) there numbers (inr e) = (b, subst (λ (j : ℕ). slice_get names j ≡ Some b) (sym e) numbers.2, (named.Role p a b, there, inr refl))
  named_by n (row.Concept d m) (named.Role p a b) there numbers e = absurd numbers
  named_by n (row.Role q k m) (named.Concept c a) there numbers e = absurd numbers

  pub name_of : (n : ℕ) → IsRowNamed rows n → (a : List ℕ) × (slice_get names n ≡ Some a) × IsIndividual these a
  name_of n (r, there, named_in) = let found = stand.only r there in named_by n r found.0 found.1 found.2 named_in

  numbered_by : (a : List ℕ) (q : NamedRow) (r : Row) → Contains rows r → NumbersRow o names q r → Names a q → (n : ℕ) × (slice_get names n ≡ Some a) × IsRowNamed rows n
  numbered_by a (named.Concept c x) (row.Concept d m) there numbers e = (m, subst (λ (b : List ℕ). slice_get names m ≡ Some b) (sym e) numbers.1, (row.Concept d m, there, inl refl))
  numbered_by a (named.Role p x y) (row.Role q k m) there numbers (inl e) = (k, subst (λ (b : List ℕ). slice_get names k ≡ Some b) (sym e) numbers.1, (row.Role q k m, there, inl refl))
  numbered_by a (named.Role p x y) (row.Role q k m) there numbers (inr e) = (m, subst (λ (b : List ℕ). slice_get names m ≡ Some b) (sym e) numbers.2, (row.Role q k m, there, inr refl))
  numbered_by a (named.Concept c x) (row.Role q k m) there numbers e = absurd numbers
  numbered_by a (named.Role p x y) (row.Concept d m) there numbers e = absurd numbers

  pub number_of : (a : List ℕ) → IsIndividual these a → (n : ℕ) × (slice_get names n ≡ Some a) × IsRowNamed rows n
  number_of a (q, there, names_it) = let found = stand.each q there in numbered_by a q found.0 found.1 found.2 names_it

  pub one_number : (n m : ℕ) (a : List ℕ) → slice_get names n ≡ Some a → slice_get names m ≡ Some a → n ≡ m
  one_number n m a at_n at_m = one_place names n m a stand.distinct at_n at_m

  pub named_individual : (n : ℕ) (a : List ℕ) → slice_get names n ≡ Some a → IsIndividual these a → IsRowNamed rows n
  named_individual n a at is = let found = number_of a is in subst (IsRowNamed rows) (one_number found.0 n a found.1 at) found.2

  -- ---- what is held

  module _ (n : ℕ) (a : List ℕ) (at : slice_get names n ≡ Some a) where
    same_name : (m : ℕ) (b : List ℕ) → m ≡ n → slice_get names m ≡ Some b → b ≡ a
    same_name m b same at_m = some_same (sym at_m ∙ (ap (λ (k : ℕ). slice_get names k) same ∙ at))

    by_row : (r : Row) (q : NamedRow) (b : Basic) → Contains these q → NumbersRow o names q r → GivesBasic r n b → Held o these a b
    by_row (row.Concept d m) (named.Concept c x) b there numbers gives =
        subst (Held o these a) (sym gives.1)
        (record { name = c; named = numbers.0; there = subst (λ (y : List ℕ). Contains these (named.Concept c y)) (same_name m x gives.0 numbers.1) there })
    by_row (row.Role q k m) (named.Role p x y) b there numbers (inl gives) =
        subst (Held o these a) (sym gives.1)
        (y, record { name = p; named = numbers.0; there = subst (λ (z : List ℕ). Contains these (named.Role p z y)) (same_name k x gives.0 numbers.1) there })
    by_row (row.Role q k m) (named.Role p x y) b there numbers (inr gives) =
        subst (Held o these a) (sym gives.1)
        (x, record { name = p; named = numbers.0; there = subst (λ (z : List ℕ). Contains these (named.Role p x z)) (same_name m y gives.0 numbers.2) there })
    by_row (row.Concept d m) (named.Role p x y) b there numbers gives = absurd numbers
    by_row (row.Role q k m) (named.Concept c x) b there numbers gives = absurd numbers

    pub holds_held : (b : Basic) → HoldsBy rows n b → Held o these a b
    holds_held b (r, there, gives) = let found = stand.only r there in by_row r found.0 b found.1 found.2 gives

    concept_given : (c : ℕ) (name : List ℕ) (r : Row) → slice_get o.concepts c ≡ Some name → Contains rows r → NumbersRow o names (named.Concept name a) r → HoldsBy rows n (basic.Concept c)
    concept_given c name (row.Concept d m) at_c there numbers =
        (row.Concept d m, there, (one_number m n a numbers.1 at, ap basic.Concept (one_place o.concepts c d name within.distinct_concepts at_c numbers.0)))
    concept_given c name (row.Role q k m) at_c there numbers = absurd numbers

    role_at : (p q : ℕ) (name : List ℕ) (inverse : Bool) → slice_get o.roles p ≡ Some name → slice_get o.roles q ≡ Some name → basic.Exists (record { name = p; inverse = inverse }) ≡ basic.Exists (record { name = q; inverse = inverse })
    role_at p q name inverse at_p at_q = ap (λ (k : ℕ). basic.Exists (record { name = k; inverse = inverse })) (one_place o.roles p q name within.distinct_roles at_p at_q)

    role_given : (inverse : Bool) (p : ℕ) (name b : List ℕ) (r : Row) → slice_get o.roles p ≡ Some name → Contains rows r → NumbersRow o names (row_of name inverse a b) r
        → HoldsBy rows n (basic.Exists (record { name = p; inverse = inverse }))
    role_given false p name b (row.Role q k m) at_p there numbers = (row.Role q k m, there, inl (one_number k n a numbers.1 at, role_at p q name false at_p numbers.0))
    role_given true p name b (row.Role q k m) at_p there numbers = (row.Role q k m, there, inr (one_number m n a numbers.2 at, role_at p q name true at_p numbers.0))
    role_given false p name b (row.Concept d m) at_p there numbers = absurd numbers
    role_given true p name b (row.Concept d m) at_p there numbers = absurd numbers

    pub held_holds : (b : Basic) → Held o these a b → HoldsBy rows n b
    held_holds (basic.Concept c) h = let found = stand.each (named.Concept h.name a) h.there in concept_given c h.name found.0 h.named found.1 found.2
    held_holds (basic.Exists r) (b, h) = let found = stand.each (row_of h.name r.inverse a b) h.there in role_given r.inverse r.name h.name b found.0 h.named found.1 found.2

    pub same_held : (b : Basic) → HoldsBy rows n b ↔ Held o these a b
    same_held b = (holds_held b, held_holds b)

    -- ---- points

    pub points_named : (r : Role) → IsIndividual these a → PointsTo o rows n r → IndividualPoints o these a r
    points_named r is points = record {
      individual = is;
      derived = monotone o.inclusions (HoldsBy rows n) (Held o these a) holds_held points.derived;
      no_row = λ b has. points.no_row (held_holds (basic.Exists r) (b, has));
    }

    pub points_numbered : (r : Role) → IndividualPoints o these a r → PointsTo o rows n r
    points_numbered r points = record {
      derived = monotone o.inclusions (Held o these a) (HoldsBy rows n) held_holds points.derived;
      no_row = λ holds. (let h = holds_held (basic.Exists r) holds in points.no_row h.0 h.1);
    }

  pub live_named : {r : Role} → IsLiveRole o rows r → IsLive o these r
  live_named {r} (first p) = let found = name_of p.0 p.1 in completion.first found.0 (points_named p.0 found.0 found.1 r found.2 p.2)
  live_named {r} (next before points) = completion.next (live_named before) points

  pub live_numbered : {r : Role} → IsLive o these r → IsLiveRole o rows r
  live_numbered {r} (completion.first a points) = let found = number_of a points.individual in first (found.0, found.2, points_numbered found.0 a found.1 r points)
  live_numbered {r} (completion.next before points) = next (live_numbered before) points
