-- Laws of numbering: the terms and atoms that are numbered are those of a layout.
use Rattle.std.proofs.Common.{◌≡◌, ◌≢◌, ℕ, ◌+◌, ◌*◌, min, ◌<◌, ◌≤◌, ◌⊎◌, inl, inr, List, [], ◌∷◌, ◌++◌, length, get_or, take, Some, slice_get, All, AllPairs, Contains, refl, sym, ◌∙◌, ap, subst, arith, false, append_assoc, length-append, Option, None}
use Rattle.std.specs.List.{AllZip}
use Rattle.std.specs.Prelude.{flat_map}
use Rattle.std.proofs.lemmas.List.{append-nil, take_more, take_all, get_or_default, length-take}
use Rattle.std.proofs.lemmas.List.Elements.{All-contains, All-nil, All-cons, Contains-append_left, Contains-push, Contains-append_cases, Contains-push_cases}
use Rattle.std.proofs.lemmas.List.Quantifiers.{all_pairs_push}
use Rattle.std.proofs.lemmas.Grind.{flat_map-append}
use Rattle.std.proofs.lemmas.Option.{slice_get_within, slice_get-get_or}
use Rattle.dl_base.specs.Ontology.{Terminology}
use Rattle.dl_base.specs.Query.{Question, IsQuery, terms, terms_of}
use Rattle.dl_base.specs.declared.concept.Role.{Role}
use Rattle.dl_base.specs.declared.query.Term.{Term}
use Rattle.dl_base.specs.declared.query.Atom.{Atom}
use Rattle.dl_base.specs.declared.query.Atom.TheVariants as atom
use Rattle.dl_base.proofs.RisingLemmas.{contains_cases, contains_later, contains_first}
use Rattle.query_shape.specs.Shape.{AreFirsts, no_item, known_item, new_item, NumbersAtom, IsShapeOf, Layout, IsLayout, IsTermOf, IsBelow}
use Rattle.query_shape.specs.ShapeFault.{IsKnown, IsAtomFault, IsFirstFault, IsShapeFault}
use Rattle.query_shape.specs.Numbering.{IsWith, NumbersTerm, IsNumberedAtom}
use Rattle.query_shape.specs.declared.layout.ShapeAtom.{ShapeAtom}
use Rattle.query_shape.specs.declared.numbering.ShapeError.{ShapeError}
use Rattle.query_shape.specs.declared.numbering.ShapeError.TheVariants as errors
use Rattle.query_shape.specs.declared.layout.ShapeAtom.TheVariants as shape
use Rattle.dl_base.proofs.PlaceLemmas.{member_at, none_past, place_stays, last_place, one_place, no_more, zip_push, zip_weaker, zip_length}

-- ---- one term

pub numbered_known : (old new : List Term) (t : Term) (n : ℕ) → new ≡ old → slice_get old n ≡ Some t → NumbersTerm old t new n
numbered_known old new t n same at = record { with_it = inl (same, member_at old n t at); there = rw same at }

pub numbered_new : (old new : List Term) (t : Term) → new ≡ old ++ t ∷ [] → (Contains old t → ⊥) → NumbersTerm old t new (length old)
numbered_new old new t is absent = record { with_it = inr (is, absent); there = rw is (last_place old t) }

firsts_with : (all old new : List Term) (t : Term) → IsWith old t new → AreFirsts all old → AreFirsts (all ++ t ∷ []) new
firsts_with all old new t (inl (same, there)) o = rw same (known_item t o there)
firsts_with all old new t (inr (is, absent)) o = rw is (new_item t o absent)

added_with : (old new : List Term) (t : Term) → IsWith old t new → (added : List Term) × (new ≡ old ++ added)
added_with old new t (inl (same, there)) = ([], same ∙ sym (append-nil old))
added_with old new t (inr (is, absent)) = (t ∷ [], is)

-- ---- one atom

pub numbered_concept : (o : Terminology) (old new : List Term) (name : List ℕ) (t : Term) (c n : ℕ) → slice_get o.concepts c ≡ Some name → NumbersTerm old t new n
    → IsNumberedAtom o old (atom.Concept name t) new (shape.Concept c n)
numbered_concept o old new name t c n at i =
    let added = added_with old new t i.with_it in
    record { added = added.0; last = added.1; occur = λ all before. firsts_with all old new t i.with_it before; numbers = (at, i.there) }

pub numbered_role : (o : Terminology) (old mid new : List Term) (name : List ℕ) (t u : Term) (r : Role) (n m : ℕ) → slice_get o.roles r.name ≡ Some name → r.inverse ≡ false
    → NumbersTerm old t mid n → NumbersTerm mid u new m → IsNumberedAtom o old (atom.Role name t u) new (shape.Role r n m)
numbered_role o old mid new name t u r n m at direct i j =
    let first = added_with old mid t i.with_it in
    let second = added_with mid new u j.with_it in
    let stays : slice_get new n ≡ Some t = rw second.1 (place_stays mid second.0 n t i.there) in
    let last : new ≡ old ++ (first.0 ++ second.0) = second.1 ∙ (ap (λ (ts : List Term). ts ++ second.0) first.1 ∙ append_assoc old first.0 second.0) in
    record {
      added = first.0 ++ second.0;
      last = last;
      occur = λ all before. subst (λ (ts : List Term). AreFirsts ts new) (append_assoc all (t ∷ []) (u ∷ [])) (firsts_with (all ++ t ∷ []) mid new u j.with_it (firsts_with all old mid t i.with_it before));
      numbers = (at, direct, stays, j.there);
    }

-- ---- the atoms so far

numbers_more : (o : Terminology) (ts added : List Term) (a : Atom) (s : ShapeAtom) → NumbersAtom o ts a s → NumbersAtom o (ts ++ added) a s
numbers_more o ts added (atom.Concept name t) (shape.Concept c n) h = (h.0, place_stays ts added n t h.1)
numbers_more o ts added (atom.Role name t u) (shape.Role r n m) h = (h.0, h.1, place_stays ts added n t h.2, place_stays ts added m u h.3)
numbers_more o ts added (atom.Concept name t) (shape.Role r n m) h = absurd h
numbers_more o ts added (atom.Role name t u) (shape.Concept c n) h = absurd h

terms_more : (atoms : List Atom) (k : ℕ) (d : Atom) → k < length atoms → flat_map terms_of (take (k + 1) atoms) ≡ flat_map terms_of (take k atoms) ++ terms_of (get_or atoms k d)
terms_more atoms k d below =
    ap (λ (as' : List Atom). flat_map terms_of as') (take_more atoms k d below)
    ∙ flat_map-append terms_of (take k atoms) (get_or atoms k d ∷ [])
    ∙ ap (λ (ts : List Term). flat_map terms_of (take k atoms) ++ ts) (append-nil (terms_of (get_or atoms k d)))

-- the shape of the query's first atoms
abbrev pub IsShapeUpTo : Terminology → List Atom → ℕ → List Term → List ShapeAtom → Type 0
IsShapeUpTo o atoms k ts ss = IsShapeOf o (record { answers = []; atoms = take k atoms }) (record { terms = ts; atoms = ss })

pub shape_none : (o : Terminology) (atoms : List Atom) → IsShapeUpTo o atoms 0 [] []
shape_none o atoms = record { terms_are = no_item; atoms_are = tt }

pub shape_more : (o : Terminology) (atoms : List Atom) (k : ℕ) (a : Atom) (ts new : List Term) (ss : List ShapeAtom) (s : ShapeAtom) → k < length atoms → a ≡ get_or atoms k a
    → IsShapeUpTo o atoms k ts ss → IsNumberedAtom o ts a new s → IsShapeUpTo o atoms (k + 1) new (ss ++ s ∷ [])
shape_more o atoms k a ts new ss s below at so_far i =
    let with_last : take (k + 1) atoms ≡ take k atoms ++ a ∷ [] = take_more atoms k a below ∙ ap (λ (b : Atom). take k atoms ++ b ∷ []) (sym at) in
    let all : flat_map terms_of (take (k + 1) atoms) ≡ flat_map terms_of (take k atoms) ++ terms_of a =
    terms_more atoms k a below ∙ ap (λ (b : Atom). flat_map terms_of (take k atoms) ++ terms_of b) (sym at) in
    let kept : AllZip (NumbersAtom o new) (take k atoms) ss =
    rw i.last (zip_weaker (NumbersAtom o ts) (NumbersAtom o (ts ++ i.added)) (λ b t h. numbers_more o ts i.added b t h) (take k atoms) ss so_far.atoms_are) in
    record {
      terms_are = rw all (i.occur (flat_map terms_of (take k atoms)) so_far.terms_are);
      atoms_are = rw with_last (zip_push (NumbersAtom o new) (take k atoms) ss a s kept i.numbers);
    }

pub shape_all : (o : Terminology) (q : Question) (k : ℕ) (ts : List Term) (ss : List ShapeAtom) → length q.atoms ≤ k → IsShapeUpTo o q.atoms k ts ss
    → IsShapeOf o q (record { terms = ts; atoms = ss })
shape_all o q k ts ss past h =
    let all : take k q.atoms ≡ q.atoms = take_all k q.atoms past in
    record { terms_are = rw all at h.terms_are; atoms_are = rw all at h.atoms_are }

-- ---- how many terms there are

firsts_length : {X : Type 0} {all distinct : List X} → AreFirsts all distinct → length distinct ≤ length all
firsts_length no_item = omega arith
firsts_length (known_item {all = before} {distinct = kept} t o there) =
    let few : length kept ≤ length before = firsts_length o in rw length-append (omega arith)
firsts_length (new_item {all = before} {distinct = kept} t o absent) =
    let few : length kept ≤ length before = firsts_length o in rw (length-append before (t ∷ []), length-append kept (t ∷ [])) (omega arith)

two_terms : (a : Atom) → length (terms_of a) ≤ 2
two_terms (atom.Concept name t) = omega arith
two_terms (atom.Role name t u) = omega arith

pub terms_length : (atoms : List Atom) → length (flat_map terms_of atoms) ≤ 2 * length atoms
terms_length [] = omega arith
terms_length (a ∷ as') =
    let one : length (terms_of a) ≤ 2 = two_terms a in
    let rest : length (flat_map terms_of as') ≤ 2 * length as' = terms_length as' in
    rw length-append (omega arith)

pub few_terms : (o : Terminology) (atoms : List Atom) (k : ℕ) (ts : List Term) (ss : List ShapeAtom) → IsShapeUpTo o atoms k ts ss → length ts ≤ 2 * length atoms
few_terms o atoms k ts ss h =
    let few : length ts ≤ length (flat_map terms_of (take k atoms)) = firsts_length h.terms_are in
    let double : length (flat_map terms_of (take k atoms)) ≤ 2 * length (take k atoms) = terms_length (take k atoms) in
    let cut : length (take k atoms) ≡ min k (length atoms) = length-take k atoms in
    omega arith

-- ---- members

pub firsts_from : {X : Type 0} {all distinct : List X} → AreFirsts all distinct → (t : X) → Contains distinct t → Contains all t
firsts_from no_item t c = c
firsts_from {X = X} (known_item {all = before} {distinct = kept} u o there) t c = Contains-append_left before (u ∷ []) t (firsts_from o t c)
firsts_from {X = X} (new_item {all = before} {distinct = kept} u o absent) t c = by (Contains-push_cases kept u t c) (λ d. firsts_from o t d)
  where
    by : Contains kept t ⊎ (u ≡ t) → (Contains kept t → Contains before t) → Contains (before ++ u ∷ []) t
    by (inl d) rec = Contains-append_left before (u ∷ []) t (rec d)
    by (inr e) rec = subst (λ (v : X). Contains (before ++ u ∷ []) v) e (Contains-push before u)

pub firsts_into : {X : Type 0} {all distinct : List X} → AreFirsts all distinct → (t : X) → Contains all t → Contains distinct t
firsts_into no_item t c = c
firsts_into {X = X} (known_item {all = before} {distinct = kept} u o there) t c = by (Contains-push_cases before u t c) (λ d. firsts_into o t d)
  where
    by : Contains before t ⊎ (u ≡ t) → (Contains before t → Contains kept t) → Contains kept t
    by (inl d) rec = rec d
    by (inr e) rec = subst (λ (v : X). Contains kept v) e there
firsts_into {X = X} (new_item {all = before} {distinct = kept} u o absent) t c = by (Contains-push_cases before u t c) (λ d. firsts_into o t d)
  where
    by : Contains before t ⊎ (u ≡ t) → (Contains before t → Contains kept t) → Contains (kept ++ u ∷ []) t
    by (inl d) rec = Contains-append_left kept (u ∷ []) t (rec d)
    by (inr e) rec = subst (λ (v : X). Contains (kept ++ u ∷ []) v) e (Contains-push kept u)

-- no item comes twice
pub firsts_distinct : {X : Type 0} {all distinct : List X} → AreFirsts all distinct → AllPairs (λ t u. t ≢ u) distinct
firsts_distinct no_item = λ i j d lt below. absurd (omega (arith, below))
firsts_distinct (known_item {all = before} {distinct = kept} u o there) = firsts_distinct o
firsts_distinct (new_item {all = before} {distinct = kept} u o absent) =
    all_pairs_push (λ t v. t ≢ v) kept u (firsts_distinct o) (λ k d below e. absent (k, below, get_or_default kept k u d below ∙ e))

-- the shape atom of an atom in which the term is has its number
number_in : (o : Terminology) (ts : List Term) (a : Atom) (s : ShapeAtom) (t : Term) (k : ℕ) → AllPairs (λ t u. t ≢ u) ts → NumbersAtom o ts a s → Contains (terms_of a) t → slice_get ts k ≡ Some t
    → IsTermOf k s
number_in o ts (atom.Concept name u) (shape.Concept c n) t k distinct h there at = by (contains_cases u [] t there)
  where
    by : (t ≡ u) ⊎ Contains [] t → k ≡ n
    by (inl e) = one_place ts k n t distinct at (h.1 ∙ ap Some (sym e))
    by (inr d) = absurd (omega (arith, d.1))
number_in o ts (atom.Role name u v) (shape.Role r n m) t k distinct h there at = by (contains_cases u (v ∷ []) t there)
  where
    last : (t ≡ v) ⊎ Contains [] t → (k ≡ n) ⊎ (k ≡ m)
    last (inl e) = inr (one_place ts k m t distinct at (h.3 ∙ ap Some (sym e)))
    last (inr d) = absurd (omega (arith, d.1))

    by : (t ≡ u) ⊎ Contains (v ∷ []) t → (k ≡ n) ⊎ (k ≡ m)
    by (inl e) = inl (one_place ts k n t distinct at (h.2 ∙ ap Some (sym e)))
    by (inr d) = last (contains_cases v [] t d)
number_in o ts (atom.Concept name u) (shape.Role r n m) t k distinct h there at = absurd h
number_in o ts (atom.Role name u v) (shape.Concept c n) t k distinct h there at = absurd h

used_in : (o : Terminology) (ts : List Term) (atoms : List Atom) (ss : List ShapeAtom) (t : Term) (k : ℕ) → AllPairs (λ t u. t ≢ u) ts → AllZip (NumbersAtom o ts) atoms ss → slice_get ts k ≡ Some t
    → Contains (flat_map terms_of atoms) t → (s : ShapeAtom) × Contains ss s × IsTermOf k s
used_in o ts [] ss t k distinct all at there = absurd (omega (arith, there.1))
used_in o ts (a ∷ as') [] t k distinct all at there = absurd all
used_in o ts (a ∷ as') (s ∷ ss) t k distinct all at there = by (Contains-append_cases (terms_of a) (flat_map terms_of as') t there) (used_in o ts as' ss t k distinct all.1 at)
  where
    by : Contains (terms_of a) t ⊎ Contains (flat_map terms_of as') t → (Contains (flat_map terms_of as') t → (u : ShapeAtom) × Contains ss u × IsTermOf k u)
        → (u : ShapeAtom) × Contains (s ∷ ss) u × IsTermOf k u
    by (inl here) rec = (s, contains_first s ss, number_in o ts a s t k distinct all.0 here at)
    by (inr later) rec = let found : (u : ShapeAtom) × Contains ss u × IsTermOf k u = rec later in (found.0, contains_later s ss found.0 found.1, found.2)

below_of : (o : Terminology) (ts : List Term) (a : Atom) (s : ShapeAtom) → NumbersAtom o ts a s → IsBelow (length ts) s
below_of o ts (atom.Concept name u) (shape.Concept c n) h = slice_get_within ts n u h.1
below_of o ts (atom.Role name u v) (shape.Role r n m) h = (slice_get_within ts n u h.2, slice_get_within ts m v h.3)
below_of o ts (atom.Concept name u) (shape.Role r n m) h = absurd h
below_of o ts (atom.Role name u v) (shape.Concept c n) h = absurd h

all_below : (o : Terminology) (ts : List Term) (atoms : List Atom) (ss : List ShapeAtom) → AllZip (NumbersAtom o ts) atoms ss → All (IsBelow (length ts)) ss
all_below o ts [] [] all = All-nil (IsBelow (length ts))
all_below o ts [] (s ∷ ss) all = absurd all
all_below o ts (a ∷ as') [] all = absurd all
all_below o ts (a ∷ as') (s ∷ ss) all = All-cons (IsBelow (length ts)) s ss (below_of o ts a s all.0) (all_below o ts as' ss all.1)

-- a query's shape is a layout
pub layout_of : (o : Terminology) (q : Question) (s : Layout) → IsQuery q → IsShapeOf o q s → IsLayout s
layout_of o q s is h =
    let same : length s.atoms ≡ length q.atoms = zip_length (NumbersAtom o s.terms) q.atoms s.atoms h.atoms_are in
    let distinct : AllPairs (λ t u. t ≢ u) s.terms = firsts_distinct h.terms_are in
    let few : length s.terms ≤ length is.distinct.few =
    no_more s.terms is.distinct.few distinct (λ t c. All-contains (Contains is.distinct.few) (terms q) t is.distinct.each (firsts_from h.terms_are t c)) in
    record {
      some = omega (arith, is.some);
      atoms = omega (arith, is.atoms);
      terms = omega (arith, is.distinct.count);
      distinct = distinct;
      below = all_below o s.terms q.atoms s.atoms h.atoms_are;
      used = λ k below. used k below (slice_get s.terms k) refl;
    }
  where
    found : (k : ℕ) (t : Term) → slice_get s.terms k ≡ Some t → (a : ShapeAtom) × Contains s.atoms a × IsTermOf k a
    found k t at = used_in o s.terms q.atoms s.atoms t k (firsts_distinct h.terms_are) h.atoms_are at (firsts_from h.terms_are t (member_at s.terms k t at))

    used : (k : ℕ) → k < length s.terms → (r : Option Term) → slice_get s.terms k ≡ r → (a : ShapeAtom) × Contains s.atoms a × IsTermOf k a
    used k below (Some t) at = found k t at
    used k below None at = absurd (omega (arith, none_past s.terms k at))

-- ---- names that the ontology has

known_of : (o : Terminology) (ts : List Term) (a : Atom) (s : ShapeAtom) → NumbersAtom o ts a s → IsKnown o a
known_of o ts (atom.Concept name u) (shape.Concept c n) h = member_at o.concepts c name h.0
known_of o ts (atom.Role name u v) (shape.Role r n m) h = member_at o.roles r.name name h.0
known_of o ts (atom.Concept name u) (shape.Role r n m) h = absurd h
known_of o ts (atom.Role name u v) (shape.Concept c n) h = absurd h

all_known : (o : Terminology) (ts : List Term) (atoms : List Atom) (ss : List ShapeAtom) → AllZip (NumbersAtom o ts) atoms ss → All (IsKnown o) atoms
all_known o ts [] [] all = All-nil (IsKnown o)
all_known o ts [] (s ∷ ss) all = absurd all
all_known o ts (a ∷ as') [] all = absurd all
all_known o ts (a ∷ as') (s ∷ ss) all = All-cons (IsKnown o) a as' (known_of o ts a s all.0) (all_known o ts as' ss all.1)

-- the ontology knows the names of a query that has a shape in it
pub shape_known : (o : Terminology) (q : Question) (s : Layout) → IsShapeOf o q s → All (IsKnown o) q.atoms
shape_known o q s is = all_known o s.terms q.atoms s.atoms is.atoms_are

-- ---- names that the ontology lacks

-- the fault of an atom behind atoms that are numbered
pub first_fault : (o : Terminology) (q : Question) (k : ℕ) (a : Atom) (ts : List Term) (ss : List ShapeAtom) (e : ShapeError) → k < length q.atoms → a ≡ get_or q.atoms k a
    → IsShapeUpTo o q.atoms k ts ss → IsAtomFault o a e → IsShapeFault o q e
first_fault o q k a ts ss e below at h fault = by e fault
  where
    first : (f : ShapeError) → IsAtomFault o a f → IsFirstFault o q.atoms f
    first f its = record {
      place = k;
      atom = a;
      there = slice_get-get_or q.atoms k a below ∙ ap Some (sym at);
      fault = its;
      before = all_known o ts (take k q.atoms) ss h.atoms_are;
    }

    by : (f : ShapeError) → IsAtomFault o a f → IsShapeFault o q f
    by (errors.UnknownConcept name) its = first (errors.UnknownConcept name) its
    by (errors.UnknownRole name) its = first (errors.UnknownRole name) its
    by errors.NoMemory its = tt
