-- How many elements of a list are above one, which bounds how often a search may go on.
use Rattle.std.proofs.Common.{◌≡◌, ◌≤◌, ◌+◌, ℕ, zero, suc, ◌⊎◌, inl, inr, List, [], ◌∷◌, ◌++◌, Option, Some, None, length, Contains, slice_get, refl, sym, subst, arith, append_assoc, true, false}
use Rattle.std.specs.declared.cmp.Ordering.{Ordering}
use Rattle.std.specs.declared.cmp.Ordering.TheVariants.{Less, Equal, Greater}
use Rattle.std.proofs.lemmas.Cmp.{tied_itself}
use Rattle.std.proofs.lemmas.List.Elements.{Contains-append_right}
use Rattle.dl_base.specs.Tables.{TableRow, ConceptRow, RoleRow, edge_row, turned_row, IsAbove, elem_cmp}
use Rattle.dl_base.specs.declared.concept.Role.{Role}
use Rattle.dl_base.specs.declared.element.Elem.{Elem}
use Rattle.dl_base.specs.declared.element.Elem.TheVariants as elem
use Rattle.dl_base.proofs.ElemLemmas.{elem_total}
use Rattle.dl_base.proofs.RisingLemmas.{contains_cases, contains_later, contains_first}
use Rattle.join_ops.specs.Levels.{Offers}
use Rattle.join_ops.specs.declared.level.Level.{Level}
use Rattle.join_ops.specs.declared.source.Source.{Source}
use Rattle.join_ops.specs.declared.source.Source.TheVariants as source

-- the elements of rows
pub elems : List TableRow → List Elem
elems [] = []
elems (ConceptRow c e ∷ rows) = e ∷ elems rows
elems (RoleRow p e f ∷ rows) = e ∷ f ∷ elems rows

pub concept_elem : (rows : List TableRow) (c : ℕ) (e : Elem) → Contains rows (ConceptRow c e) → Contains (elems rows) e
unfolding elems
concept_elem [] c e h = absurd (omega arith)
concept_elem (ConceptRow d f ∷ rows) c e h = by (contains_cases (ConceptRow d f) rows (ConceptRow c e) h) (concept_elem rows c e)
  where
    by : (ConceptRow c e ≡ ConceptRow d f) ⊎ Contains rows (ConceptRow c e) → (Contains rows (ConceptRow c e) → Contains (elems rows) e) → Contains (f ∷ elems rows) e
    by (inl q) more = let same : e ≡ f = cc in subst (λ z. Contains (z ∷ elems rows) e) same (contains_first e (elems rows))
    by (inr k) more = contains_later f (elems rows) e (more k)
concept_elem (RoleRow p f g ∷ rows) c e h = by (contains_cases (RoleRow p f g) rows (ConceptRow c e) h) (concept_elem rows c e)
  where
    by : (ConceptRow c e ≡ RoleRow p f g) ⊎ Contains rows (ConceptRow c e) → (Contains rows (ConceptRow c e) → Contains (elems rows) e) → Contains (f ∷ g ∷ elems rows) e
    by (inl q) more = absurd (cc)
    by (inr k) more = contains_later f (g ∷ elems rows) e (contains_later g (elems rows) e (more k))

pub role_elems : (rows : List TableRow) (p : ℕ) (x y : Elem) → Contains rows (RoleRow p x y) → Contains (elems rows) x × Contains (elems rows) y
unfolding elems
role_elems [] p x y h = absurd (omega arith)
role_elems (ConceptRow d f ∷ rows) p x y h = by (contains_cases (ConceptRow d f) rows (RoleRow p x y) h) (role_elems rows p x y)
  where
    by : (RoleRow p x y ≡ ConceptRow d f) ⊎ Contains rows (RoleRow p x y) → (Contains rows (RoleRow p x y) → Contains (elems rows) x × Contains (elems rows) y)
        → Contains (f ∷ elems rows) x × Contains (f ∷ elems rows) y
    by (inl q) more = absurd (cc)
    by (inr k) more = let both = more k in (contains_later f (elems rows) x both.0, contains_later f (elems rows) y both.1)
role_elems (RoleRow q f g ∷ rows) p x y h = by (contains_cases (RoleRow q f g) rows (RoleRow p x y) h) (role_elems rows p x y)
  where
    by : (RoleRow p x y ≡ RoleRow q f g) ⊎ Contains rows (RoleRow p x y) → (Contains rows (RoleRow p x y) → Contains (elems rows) x × Contains (elems rows) y)
        → Contains (f ∷ g ∷ elems rows) x × Contains (f ∷ g ∷ elems rows) y
    by (inl e) more =
        let from : x ≡ f = cc in
        let to : y ≡ g = cc in
        (subst (λ z. Contains (z ∷ g ∷ elems rows) x) from (contains_first x (g ∷ elems rows)), contains_later f (g ∷ elems rows) y (subst (λ z. Contains (z ∷ elems rows) y) to (contains_first y (elems rows))))
    by (inr k) more =
        let both = more k in
        (contains_later f (g ∷ elems rows) x (contains_later g (elems rows) x both.0), contains_later f (g ∷ elems rows) y (contains_later g (elems rows) y both.1))

pub edge_elems : (rows : List TableRow) (r : Role) (x y : Elem) → Contains rows (edge_row r x y) → Contains (elems rows) x × Contains (elems rows) y
edge_elems rows r x y h = by r.inverse h
  where
    by : (b : _) → Contains rows (turned_row b r.name x y) → Contains (elems rows) x × Contains (elems rows) y
    by false h = role_elems rows r.name x y h
    by true h = let both = role_elems rows r.name y x h in (both.1, both.0)

-- the one individual that a source gives
pub named_by : Source → List Elem
named_by (source.Named n) = elem.Named n ∷ []
named_by (source.Concept c) = []
named_by (source.Outgoing r) = []
named_by (source.Edge g) = []
named_by (source.Twin g t) = []

-- all that a source may give
pub known_by : List TableRow → Source → List Elem
known_by rows s = named_by s ++ elems rows

pub offered_known : (rows : List TableRow) (s : Source) (front : List Elem) (e : Elem) → Offers rows s front e → Contains (known_by rows s) e
unfolding known_by named_by
offered_known rows (source.Named n) front e h = subst (λ z. Contains (elem.Named n ∷ elems rows) z) (sym h) (contains_first (elem.Named n) (elems rows))
offered_known rows (source.Concept c) front e h = concept_elem rows c e h
offered_known rows (source.Outgoing r) front e h = (edge_elems rows r e h.0 h.1).0
offered_known rows (source.Edge g) front e h = (edge_elems rows g.role h.0 e h.2).1
offered_known rows (source.Twin g t) front e h = (edge_elems rows g.role h.0.0 e h.0.2).1

-- all that levels may give
named_all : List Level → List Elem
named_all [] = []
named_all (l ∷ levels) = named_by l.source ++ named_all levels

pub known_all : List TableRow → List Level → List Elem
known_all rows levels = named_all levels ++ elems rows

widen : (xs ys zs : List Elem) (e : Elem) → Contains (xs ++ zs) e → Contains ((xs ++ ys) ++ zs) e
widen [] ys zs e h = Contains-append_right ys zs e h
widen (x ∷ xs) ys zs e h = by (contains_cases x (xs ++ zs) e h) (widen xs ys zs e)
  where
    by : (e ≡ x) ⊎ Contains (xs ++ zs) e → (Contains (xs ++ zs) e → Contains ((xs ++ ys) ++ zs) e) → Contains (x ∷ ((xs ++ ys) ++ zs)) e
    by (inl q) more = subst (λ z. Contains (z ∷ ((xs ++ ys) ++ zs)) e) q (contains_first e ((xs ++ ys) ++ zs))
    by (inr k) more = contains_later x ((xs ++ ys) ++ zs) e (more k)

named_more : (levels : List Level) (k : ℕ) (l : Level) (rest : List Elem) (e : Elem) → slice_get levels k ≡ Some l → Contains (named_by l.source ++ rest) e → Contains (named_all levels ++ rest) e
unfolding named_all
named_more [] k l rest e at h = absurd cc
named_more (m ∷ levels) zero l rest e at h =
    let same : m ≡ l = cc in
    let P : Level → Type 0 = λ x. Contains ((named_by x.source ++ named_all levels) ++ rest) e in
    subst P (sym same) (widen (named_by l.source) (named_all levels) rest e h)
named_more (m ∷ levels) (suc k) l rest e at h =
    let later = named_more levels k l rest e at h in
    rw append_assoc (Contains-append_right (named_by m.source) (named_all levels ++ rest) e later)

known_is : (rows : List TableRow) (s : Source) (e : Elem) → Contains (known_by rows s) e → Contains (named_by s ++ elems rows) e
unfolding known_by
known_is rows s e h = h

pub offered_known_all : (rows : List TableRow) (levels : List Level) (k : ℕ) (l : Level) (front : List Elem) (e : Elem) → slice_get levels k ≡ Some l → Offers rows l.source front e → Contains (known_all rows levels) e
unfolding known_all
offered_known_all rows levels k l front e at h = named_more levels k l (elems rows) e at (known_is rows l.source e (offered_known rows l.source front e h))

one_if_less : Ordering → ℕ
one_if_less Less = 1
one_if_less Equal = 0
one_if_less Greater = 0

above : List Elem → Elem → ℕ
above [] a = 0
above (x ∷ xs) a = one_if_less (elem_cmp a x) + above xs a

-- how many of these are above, and one more where none is to be below
pub room : List Elem → Option Elem → ℕ
room known None = suc (length known)
room known (Some a) = above known a

most_one : (r : Ordering) → one_if_less r ≤ 1
unfolding one_if_less
most_one Less = omega arith
most_one Equal = omega arith
most_one Greater = omega arith

one_more : (a b x : Elem) → elem_cmp a b ≡ Less → one_if_less (elem_cmp b x) ≤ one_if_less (elem_cmp a x)
unfolding one_if_less
one_more a b x e = by (elem_cmp b x) refl
  where
    by : (r : Ordering) → elem_cmp b x ≡ r → one_if_less r ≤ one_if_less (elem_cmp a x)
    by Less f = let g : elem_cmp a x ≡ Less = elem_total.trans a b x e f in rw g (omega arith)
    by Equal f = omega arith
    by Greater f = omega arith

above_most : (xs : List Elem) (a : Elem) → above xs a ≤ length xs
unfolding above
above_most [] a = omega arith
above_most (x ∷ xs) a = omega (arith, most_one (elem_cmp a x), above_most xs a)

above_less : (xs : List Elem) (a b : Elem) → elem_cmp a b ≡ Less → above xs b ≤ above xs a
unfolding above
above_less [] a b e = omega arith
above_less (x ∷ xs) a b e = omega (arith, one_more a b x e, above_less xs a b e)

one_at : (a b : Elem) → elem_cmp a b ≡ Less → suc (one_if_less (elem_cmp b b)) ≤ one_if_less (elem_cmp a b)
unfolding one_if_less
one_at a b e = let self : elem_cmp b b ≡ Equal = tied_itself elem_total b in rw (self, e) (omega arith)

above_falls : (xs : List Elem) (a b : Elem) → elem_cmp a b ≡ Less → Contains xs b → suc (above xs b) ≤ above xs a
unfolding above
above_falls [] a b e c = absurd (omega arith)
above_falls (x ∷ xs) a b e c = by (contains_cases x xs b c) (above_falls xs a b e)
  where
    by : (b ≡ x) ⊎ Contains xs b → (Contains xs b → suc (above xs b) ≤ above xs a)
        → suc (one_if_less (elem_cmp b x) + above xs b) ≤ one_if_less (elem_cmp a x) + above xs a
    by (inl q) more =
        let P : Elem → Type 0 = λ z. suc (one_if_less (elem_cmp b z)) ≤ one_if_less (elem_cmp a z) in
        let here : suc (one_if_less (elem_cmp b x)) ≤ one_if_less (elem_cmp a x) = subst P q (one_at a b e) in
        omega (arith, here, above_less xs a b e)
    by (inr d) more = omega (arith, one_more a b x e, more d)

pub room_falls : (known : List Elem) (after : Option Elem) (e : Elem) → IsAbove after e → Contains known e → suc (room known (Some e)) ≤ room known after
unfolding room
room_falls known None e h c = omega (arith, above_most known e)
room_falls known (Some a) e h c = above_falls known a e h c

pub room_none : (known : List Elem) → room known None ≡ suc (length known)
unfolding room
room_none known = refl
