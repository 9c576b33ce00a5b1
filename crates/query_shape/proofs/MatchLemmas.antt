-- Matches of a query and of its shape.
use Rattle.std.proofs.Common.{◌≡◌, ◌≢◌, ℕ, ◌⊎◌, inl, inr, Bool, true, false, List, [], ◌∷◌, ◌++◌, length, map, Some, slice_get, AllPairs, Contains, refl, sym, ◌∙◌, ap, subst, arith, codes, if◌then◌else◌}
use Rattle.std.specs.List.{AllZip}
use Rattle.std.specs.Str.{bytes_eq}
use Rattle.std.proofs.lemmas.Slice.Eq.{bytes_eq-Decides}
use Rattle.std.proofs.lemmas.List.{length-map, same_from_push}
use Rattle.std.proofs.lemmas.Option.{slice_get-map, same_Some}
use Rattle.std.specs.Option.{option_map}
use Rattle.dl_base.specs.Ontology.{Terminology}
use Rattle.dl_base.specs.Tables.{TableRow, ConceptRow, RoleRow}
use Rattle.dl_base.specs.Matches.{IsMatch, IsRowAt}
use Rattle.dl_base.specs.declared.element.Elem.{Elem}
use Rattle.dl_base.specs.declared.element.Elem.TheVariants as elem
use Rattle.dl_base.specs.declared.query.Term.{Term}
use Rattle.dl_base.specs.declared.query.Term.TheVariants as term
use Rattle.dl_base.specs.declared.query.Atom.{Atom}
use Rattle.dl_base.specs.declared.query.Atom.TheVariants as atom
use Rattle.dl_base.proofs.RisingLemmas.{contains_cases, contains_later, contains_first}
use Rattle.query_shape.specs.Shape.{AreFirsts, no_item, known_item, new_item, NumbersAtom, IsShapeMatch, HoldsAt}
use Rattle.query_shape.specs.ShapeLaws.{SameMatches, EachPlacing, ShapeOnce, XIsFirst}
use Rattle.query_shape.specs.declared.layout.ShapeAtom.{ShapeAtom}
use Rattle.query_shape.specs.declared.layout.ShapeAtom.TheVariants as shape
use Rattle.query_shape.proofs.NumberingLemmas.{firsts_distinct}
use Rattle.dl_base.proofs.PlaceLemmas.{one_place, zip_left, zip_right, distinct_head, distinct_tail}

-- ---- rows at the images of terms

pub image_at : (place : Term → Elem) (ts : List Term) (n : ℕ) (t : Term) → slice_get ts n ≡ Some t → slice_get (map place ts) n ≡ Some (place t)
image_at place ts n t at = slice_get-map place ts n ∙ ap (option_map place) at

pub image_is : (place : Term → Elem) (ts : List Term) (n : ℕ) (t : Term) (e : Elem) → slice_get ts n ≡ Some t → slice_get (map place ts) n ≡ Some e → e ≡ place t
image_is place ts n t e at image = same_Some e (place t) (sym image ∙ image_at place ts n t at)

module _ (o : Terminology) (table : List TableRow) (place : Term → Elem) (ts : List Term) (concepts : AllPairs (λ x y. x ≢ y) o.concepts) (roles : AllPairs (λ x y. x ≢ y) o.roles) where
  holds_at : (a : Atom) (s : ShapeAtom) → NumbersAtom o ts a s → IsRowAt o table place a → HoldsAt table (map place ts) s
  holds_at (atom.Concept name t) (shape.Concept c n) h (d, named, row) =
      let same : d ≡ c = one_place o.concepts d c name concepts named h.0 in
      (place t, image_at place ts n t h.1, subst (λ (k : ℕ). Contains table (ConceptRow k (place t))) same row)
  holds_at (atom.Role name t u) (shape.Role r n m) h (p, named, row) =
      let same : p ≡ r.name = one_place o.roles p r.name name roles named h.0 in
      (place t, place u, image_at place ts n t h.2, image_at place ts m u h.3, rw h.1 (subst (λ (k : ℕ). Contains table (RoleRow k (place t) (place u))) same row))
  holds_at (atom.Concept name t) (shape.Role r n m) h row = absurd h
  holds_at (atom.Role name t u) (shape.Concept c n) h row = absurd h

  row_at : (a : Atom) (s : ShapeAtom) → NumbersAtom o ts a s → HoldsAt table (map place ts) s → IsRowAt o table place a
  row_at (atom.Concept name t) (shape.Concept c n) h (e, image, row) =
      (c, h.0, subst (λ (f : Elem). Contains table (ConceptRow c f)) (image_is place ts n t e h.1 image) row)
  row_at (atom.Role name t u) (shape.Role r n m) h (e, f, first, second, row) =
      let from : e ≡ place t = image_is place ts n t e h.2 first in
      let to : f ≡ place u = image_is place ts m u f h.3 second in
      let direct : Contains table (RoleRow r.name e f) = rw h.1 at row in
      (r.name, h.0, subst (λ (x : Elem). Contains table (RoleRow r.name x (place u))) from (subst (λ (y : Elem). Contains table (RoleRow r.name e y)) to direct))
  row_at (atom.Concept name t) (shape.Role r n m) h row = absurd h
  row_at (atom.Role name t u) (shape.Concept c n) h row = absurd h

pub same_matches : SameMatches
same_matches o table q s place concepts roles is = (into, back)
  where
    into : IsMatch o table q place → IsShapeMatch table s (map place s.terms)
    into m = record {
      count = length-map s.terms place;
      atoms = λ a there. let of = zip_right (NumbersAtom o s.terms) q.atoms s.atoms is.atoms_are a there in holds_at o table place s.terms concepts roles of.0 a of.2 (m of.0 of.1);
    }

    back : IsShapeMatch table s (map place s.terms) → IsMatch o table q place
    back m = λ a there. let of = zip_left (NumbersAtom o s.terms) q.atoms s.atoms is.atoms_are a there in row_at o table place s.terms concepts roles a of.0 of.2 (m.atoms of.0 of.1)

-- ---- placings

pub same_term : Term → Term → Bool
same_term (term.Var a) (term.Var b) = bytes_eq a b
same_term (term.Named a) (term.Named b) = bytes_eq a b
same_term (term.Var a) (term.Named b) = false
same_term (term.Named a) (term.Var b) = false

pub same_itself : (t : Term) → same_term t t ≡ true
unfolding same_term
same_itself (term.Var a) = (bytes_eq-Decides a a).1 refl
same_itself (term.Named a) = (bytes_eq-Decides a a).1 refl

pub same_is : (t u : Term) → same_term t u ≡ true → t ≡ u
unfolding same_term
same_is (term.Var a) (term.Var b) e = ap term.Var ((bytes_eq-Decides a b).0 e)
same_is (term.Named a) (term.Named b) e = ap term.Named ((bytes_eq-Decides a b).0 e)
same_is (term.Var a) (term.Named b) e = absurd cc
same_is (term.Named a) (term.Var b) e = absurd cc

-- each term at its own image
placing : List Term → List Elem → Term → Elem
placing [] es t = elem.Named 0
placing (u ∷ us) [] t = elem.Named 0
placing (u ∷ us) (e ∷ es) t = if same_term t u then e else placing us es t

map_agree : {X Y : Type 0} (f g : X → Y) (xs : List X) → ((x : X) → Contains xs x → f x ≡ g x) → map f xs ≡ map g xs
map_agree f g [] agree = refl
map_agree f g (x ∷ xs) agree =
    let head : f x ≡ g x = agree x (contains_first x xs) in
    let tail : map f xs ≡ map g xs = map_agree f g xs (λ y c. agree y (contains_later x xs y c)) in
    cc

placed_there : (ts : List Term) (images : List Elem) → AllPairs (λ t u. t ≢ u) ts → length images ≡ length ts → map (placing ts images) ts ≡ images
unfolding placing
placed_there [] [] distinct same = refl
placed_there [] (e ∷ es) distinct same = absurd (omega arith)
placed_there (u ∷ us) [] distinct same = absurd (omega arith)
placed_there (u ∷ us) (e ∷ es) distinct same =
    let tail : map (placing us es) us ≡ es = placed_there us es (distinct_tail u us distinct) (omega arith) in
    λ i. head i ∷ (rest ∙ tail) i
  where
    head : (if same_term u u then e else placing us es u) ≡ e
    head = rw (same_itself u) refl

    other : (t : Term) → Contains us t → (b : Bool) → same_term t u ≡ b → (if b then e else placing us es t) ≡ placing us es t
    other t there true f = absurd (distinct_head u us distinct t there (same_is t u f))
    other t there false f = refl

    rest : map (placing (u ∷ us) (e ∷ es)) us ≡ map (placing us es) us
    rest = map_agree (placing (u ∷ us) (e ∷ es)) (placing us es) us (λ t there. other t there (same_term t u) refl)

pub each_placing : EachPlacing
each_placing ts images distinct same = (placing ts images, placed_there ts images distinct same)

-- ---- one shape

not_empty : {X : Type 0} (xs : List X) (x : X) → xs ++ x ∷ [] ≡ [] → ⊥
not_empty [] x e = cc
not_empty (y ∷ xs) x e = cc

firsts_once : {X : Type 0} {all distinct : List X} → AreFirsts all distinct → {every others : List X} → AreFirsts every others → all ≡ every → distinct ≡ others
firsts_once no_item no_item e = refl
firsts_once no_item (known_item {all = before} u p there) e = absurd (not_empty before u (sym e))
firsts_once no_item (new_item {all = before} u p absent) e = absurd (not_empty before u (sym e))
firsts_once {X = X} (known_item {all = before} t o there) no_item e = absurd (not_empty before t e)
firsts_once {X = X} (new_item {all = before} t o absent) no_item e = absurd (not_empty before t e)
firsts_once {X = X} (known_item {all = before} {distinct = kept} t o there) (known_item {all = first} {distinct = others} u p also) e =
    let parts = same_from_push before first t u e in firsts_once o p parts.0
firsts_once {X = X} (known_item {all = before} {distinct = kept} t o there) (new_item {all = first} {distinct = others} u p absent) e =
    let parts = same_from_push before first t u e in
    let same : kept ≡ others = firsts_once o p parts.0 in
    absurd (absent (subst (λ (v : X). Contains others v) parts.1 (subst (λ (ts : List X). Contains ts t) same there)))
firsts_once {X = X} (new_item {all = before} {distinct = kept} t o absent) (known_item {all = first} {distinct = others} u p there) e =
    let parts = same_from_push before first t u e in
    let same : kept ≡ others = firsts_once o p parts.0 in
    absurd (absent (subst (λ (v : X). Contains kept v) (sym parts.1) (subst (λ (ts : List X). Contains ts u) (sym same) there)))
firsts_once {X = X} (new_item {all = before} {distinct = kept} t o absent) (new_item {all = first} {distinct = others} u p also) e =
    let parts = same_from_push before first t u e in
    let same : kept ≡ others = firsts_once o p parts.0 in
    λ i. same i ++ parts.1 i ∷ []

module _ (o : Terminology) (ts : List Term) (concepts : AllPairs (λ x y. x ≢ y) o.concepts) (roles : AllPairs (λ x y. x ≢ y) o.roles) (distinct : AllPairs (λ t u. t ≢ u) ts) where
  atom_once : (a : Atom) (s other : ShapeAtom) → NumbersAtom o ts a s → NumbersAtom o ts a other → s ≡ other
  atom_once (atom.Concept name t) (shape.Concept c n) (shape.Concept d m) h k =
      let concept = one_place o.concepts c d name concepts h.0 k.0 in
      let number = one_place ts n m t distinct h.1 k.1 in
      λ i. shape.Concept (concept i) (number i)
  atom_once (atom.Role name t u) (shape.Role r n m) (shape.Role p x y) h k =
      let role = one_place o.roles r.name p.name name roles h.0 k.0 in
      let direct : r.inverse ≡ p.inverse = h.1 ∙ sym k.1 in
      let from = one_place ts n x t distinct h.2 k.2 in
      let to = one_place ts m y u distinct h.3 k.3 in
      λ i. shape.Role (record { name = role i; inverse = direct i }) (from i) (to i)
  atom_once (atom.Concept name t) (shape.Concept c n) (shape.Role p x y) h k = absurd k
  atom_once (atom.Concept name t) (shape.Role r n m) other h k = absurd h
  atom_once (atom.Role name t u) (shape.Role r n m) (shape.Concept d x) h k = absurd k
  atom_once (atom.Role name t u) (shape.Concept c n) other h k = absurd h

  atoms_once : (atoms : List Atom) (ss others : List ShapeAtom) → AllZip (NumbersAtom o ts) atoms ss → AllZip (NumbersAtom o ts) atoms others → ss ≡ others
  atoms_once [] [] [] h k = refl
  atoms_once [] [] (x ∷ others) h k = absurd k
  atoms_once [] (s ∷ ss) others h k = absurd h
  atoms_once (a ∷ as') [] others h k = absurd h
  atoms_once (a ∷ as') (s ∷ ss) [] h k = absurd k
  atoms_once (a ∷ as') (s ∷ ss) (x ∷ others) h k =
      let head = atom_once a s x h.0 k.0 in
      let tail = atoms_once as' ss others h.1 k.1 in
      λ i. head i ∷ tail i

pub shape_once : ShapeOnce
shape_once o q s other concepts roles is too =
    let same : s.terms ≡ other.terms = firsts_once is.terms_are too.terms_are refl in
    let also : AllZip (NumbersAtom o s.terms) q.atoms other.atoms = rw same too.atoms_are in
    let atoms : s.atoms ≡ other.atoms = atoms_once o s.terms concepts roles (firsts_distinct is.terms_are) q.atoms s.atoms other.atoms is.atoms_are also in
    λ i. record { terms = same i; atoms = atoms i }

-- ---- a small shape

x : Term
x = term.Var (codes "x")

y : Term
y = term.Var (codes "y")

different : (a b : ℕ) → a ≢ b → term.Var (a ∷ []) ≡ term.Var (b ∷ []) → ⊥
different a b apart e = let same : a ≡ b = cc in apart same

y_is_new : Contains (x ∷ []) y → ⊥
unfolding x y
y_is_new c = by (contains_cases x [] y c)
  where
    by : (y ≡ x) ⊎ Contains [] y → ⊥
    by (inl e) = absurd (different 121 120 (omega arith) e)
    by (inr d) = absurd (omega (arith, d.1))

x_is_known : Contains (x ∷ y ∷ []) x
x_is_known = (0, omega arith, refl)

pub x_is_first : XIsFirst
unfolding x y
x_is_first = record {
  terms_are = known_item x (new_item y (new_item x no_item (λ c. absurd (omega (arith, c.1)))) y_is_new) x_is_known;
  atoms_are = ((refl, refl), ((refl, refl, refl, refl), tt));
}
