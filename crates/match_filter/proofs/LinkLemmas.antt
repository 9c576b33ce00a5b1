-- The links of atoms, one after another.
use Rattle.std.proofs.Common.{◌≡◌, ◌≢◌, ◌+◌, ◌<◌, ◌≤◌, ℕ, zero, suc, ◌⊎◌, inl, inr, List, [], ◌∷◌, length, set, Option, Some, None, slice_get, MatchOption, refl, sym, ◌∙◌, ap, subst, arith}
use Rattle.std.proofs.lemmas.List.{length-set}
use Rattle.std.proofs.lemmas.Option.{same_Some, slice_get_within}
use Rattle.dl_base.specs.declared.element.Elem.{Elem}
use Rattle.query_shape.specs.declared.layout.ShapeAtom.{ShapeAtom}
use Rattle.query_shape.specs.declared.layout.ShapeAtom.TheVariants as shape
use Rattle.dl_base.proofs.PlaceLemmas.{member_at, place_of, none_past}
use Rattle.match_filter.specs.Links.{IsLinkOf, IsLink, Linked, AreLinks}
use Rattle.match_filter.specs.declared.link.Link.{Link}

-- the parent and child of this atom, or none where it has none
abbrev pub IsGiven : List Elem → ShapeAtom → Option Link → Type 0
IsGiven images a found = MatchOption found ((p c : ℕ) → IsLinkOf images a p c → ⊥) (λ l. IsLinkOf images a l.parent l.child)

-- those of the first so many atoms, and none behind them
pub record AreFilled (images : List Elem) (atoms : List ShapeAtom) (done : ℕ) (links : List (Option Link)) : Type 0 where
  pub count : length links ≡ 24
  pub given : (k : ℕ) (a : ShapeAtom) → k < done → slice_get atoms k ≡ Some a → (found : Option Link) × (slice_get links k ≡ Some found) × IsGiven images a found
  pub ahead : (k : ℕ) (found : Option Link) → done ≤ k → slice_get links k ≡ Some found → found ≡ None

abbrev pub nones : ℕ → List (Option Link)
nones zero = []
nones (suc n) = None ∷ nones n

nones_none : (n k : ℕ) (found : Option Link) → slice_get (nones n) k ≡ Some found → found ≡ None
nones_none zero k found at = absurd cc
nones_none (suc n) zero found at = sym (same_Some None found at)
nones_none (suc n) (suc k) found at = nones_none n k found at

-- none are given at first
pub none_filled : (images : List Elem) (atoms : List ShapeAtom) → AreFilled images atoms 0 (nones 24)
none_filled images atoms = record { count = refl; given = λ k a lt at. absurd (omega arith); ahead = λ k found le at. nones_none 24 k found at }

-- what stands at the place that was written, and at the others
get_written : {X : Type 0} (xs : List X) (i : ℕ) (x : X) → i < length xs → slice_get (set xs i x) i ≡ Some x
get_written [] i x lt = absurd (omega arith)
get_written (y ∷ ys) zero x lt = refl
get_written (y ∷ ys) (suc i) x lt = get_written ys i x (omega arith)

get_unwritten : {X : Type 0} (xs : List X) (i k : ℕ) (x : X) → k ≢ i → slice_get (set xs i x) k ≡ slice_get xs k
get_unwritten [] i k x other = refl
get_unwritten (y ∷ ys) zero zero x other = absurd (other refl)
get_unwritten (y ∷ ys) zero (suc k) x other = refl
get_unwritten (y ∷ ys) (suc i) zero x other = refl
get_unwritten (y ∷ ys) (suc i) (suc k) x other = get_unwritten ys i k x (λ e. other (ap suc e))

-- one more
pub filled_more : (images : List Elem) (atoms : List ShapeAtom) (i : ℕ) (links : List (Option Link)) (a : ShapeAtom) (found : Option Link)
    → i < 24 → slice_get atoms i ≡ Some a → IsGiven images a found → AreFilled images atoms i links → AreFilled images atoms (i + 1) (set links i found)
filled_more images atoms i links a found few at_i is filled = record { count = length-set links i found ∙ filled.count; given = given; ahead = ahead }
  where
    lt : i < length links
    lt = omega (arith, filled.count)

    by : (k : ℕ) (b : ShapeAtom) → slice_get atoms k ≡ Some b → (k < i) ⊎ (k ≡ i) → (x : Option Link) × (slice_get (set links i found) k ≡ Some x) × IsGiven images b x
    by k b at (inl before) = let old = filled.given k b before at in (old.0, get_unwritten links i k found (omega arith) ∙ old.1, old.2)
    by k b at (inr here) =
        let same : a ≡ b = same_Some a b (sym at_i ∙ (ap (slice_get atoms) (sym here) ∙ at)) in
        (found, ap (slice_get (set links i found)) here ∙ get_written links i found lt, subst (λ (x : ShapeAtom). IsGiven images x found) same is)

    given : (k : ℕ) (b : ShapeAtom) → k < i + 1 → slice_get atoms k ≡ Some b → (x : Option Link) × (slice_get (set links i found) k ≡ Some x) × IsGiven images b x
    given k b less at = by k b at (grind arith)

    ahead : (k : ℕ) (x : Option Link) → i + 1 ≤ k → slice_get (set links i found) k ≡ Some x → x ≡ None
    ahead k x le at = filled.ahead k x (omega arith) (sym (get_unwritten links i k found (omega arith)) ∙ at)

-- an atom has one parent and child
pub one_link : (images : List Elem) (a : ShapeAtom) (p c q d : ℕ) → IsLinkOf images a p c → IsLinkOf images a q d → (p ≡ q) × (c ≡ d)
one_link images (shape.Concept x n) p c q d l m = absurd l
one_link images (shape.Role r n m) p c q d (inl l) (inl k) = (l.0 ∙ sym k.0, l.1 ∙ sym k.1)
one_link images (shape.Role r n m) p c q d (inl l) (inr k) = absurd (k.2 l.2)
one_link images (shape.Role r n m) p c q d (inr l) (inl k) = absurd (l.2 k.2)
one_link images (shape.Role r n m) p c q d (inr l) (inr k) = (l.0 ∙ sym k.0, l.1 ∙ sym k.1)

-- and all are given at last
pub all_filled : (images : List Elem) (atoms : List ShapeAtom) (done : ℕ) (links : List (Option Link)) → done ≡ length atoms → AreFilled images atoms done links → AreLinks images atoms links
all_filled images atoms done links end filled p c = (into, back)
  where
    link : Link
    link = record { parent = p; child = c }

    -- the atom behind a place of the links
    atom_at : (k : ℕ) → slice_get links k ≡ Some (Some link) → (r : Option ShapeAtom) → slice_get atoms k ≡ r → IsLink images atoms p c
    atom_at k at None past =
        let after : length atoms ≤ k = none_past atoms k past in
        let none : Some link ≡ None = filled.ahead k (Some link) (omega arith) at in
        absurd cc
    atom_at k at (Some a) there =
        let before : k < length atoms = slice_get_within atoms k a there in
        let found = filled.given k a (omega arith) there in
        let same : found.0 ≡ Some link = same_Some found.0 (Some link) (sym found.1 ∙ at) in
        (a, member_at atoms k a there, subst (IsGiven images a) same found.2)

    into : Linked links p c → IsLink images atoms p c
    into l = let at : slice_get links l.0 ≡ Some (Some link) = place_of links (Some link) l in atom_at l.0 at (slice_get atoms l.0) refl

    is_here : (k : ℕ) (a : ShapeAtom) → IsLinkOf images a p c → (found : Option Link) → slice_get links k ≡ Some found → IsGiven images a found → Linked links p c
    is_here k a l None at none = absurd (none p c l)
    is_here k a l (Some m) at is =
        let same = one_link images a m.parent m.child p c is l in
        member_at links k (Some link) (at ∙ (λ i. Some (Some (record { parent = same.0 i; child = same.1 i }))))

    back : IsLink images atoms p c → Linked links p c
    back (a, there, l) =
        let found = filled.given there.0 a (omega (arith, there.1)) (place_of atoms a there) in
        is_here there.0 a l found.0 found.1 found.2
