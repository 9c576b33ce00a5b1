-- Laws of rows by numbers, and of the rows by names that they stand for.
use Rattle.std.proofs.Common.{◌≡◌, ◌≢◌, ℕ, suc, ◌≤◌, ◌⊎◌, inl, inr, Bool, true, false, List, [], ◌∷◌, ◌++◌, length, get_or, slice_get, AllPairs, Contains, Some, refl, sym, ◌∙◌, ap, subst, arith, if◌then◌else◌}
use Rattle.std.specs.List.{list_any}
use Rattle.std.specs.Str.{bytes_eq}
use Rattle.std.proofs.lemmas.List.Kept.{AllPairs-cons}
use Rattle.std.proofs.lemmas.Option.{slice_get-get_or}
use Rattle.dl_base.specs.Axiom.{with_name, with_names}
use Rattle.dl_base.specs.Book.{Interns}
use Rattle.dl_base.specs.Numbers.{NumbersRow, names_in}
use Rattle.dl_base.specs.Ontology.{Terminology, IsTerminology}
use Rattle.dl_base.specs.Rows.{Names}
use Rattle.dl_base.specs.declared.row.NamedRow.{NamedRow}
use Rattle.dl_base.specs.declared.row.NamedRow.TheVariants as named
use Rattle.dl_base.specs.declared.row.Row.{Row}
use Rattle.dl_base.specs.declared.row.Row.TheVariants as row
use Rattle.dl_base.proofs.RisingLemmas.{contains_cases, contains_first, contains_later}
use Rattle.dl_base.proofs.RowLemmas.{contains_cut}
use Rattle.dl_base.proofs.ExtendLemmas.{name_there, interned_is, name_stays}
use Rattle.dl_base.proofs.PlaceLemmas.{member_at, place_stays, one_place, distinct_head, distinct_tail, no_more, some_same}

-- ---- partners in another list

-- each member of xs has a partner in ys, which no other has
pub record HavePartners {X Y : Type 0} (R : X → Y → Type 0) (xs : List X) (ys : List Y) : Type 0 where
  pub partner : (x : X) → Contains xs x → (y : Y) × Contains ys y × R x y
  pub once : (x z : X) (y : Y) → R x y → R z y → x ≡ z

pub record Partners {X Y : Type 0} (R : X → Y → Type 0) (xs : List X) (ys : List Y) : Type 0 where
  pub list : List Y
  pub length_is : length list ≡ length xs
  pub distinct : AllPairs (λ y z. y ≢ z) list
  pub within : (y : Y) → Contains list y → Contains ys y
  pub whose : (y : Y) → Contains list y → (x : X) × Contains xs x × R x y

partners : {X Y : Type 0} (R : X → Y → Type 0) (xs : List X) (ys : List Y) → AllPairs (λ x z. x ≢ z) xs → HavePartners R xs ys → Partners R xs ys
partners R [] ys distinct have = record { list = []; length_is = refl; distinct = λ i j d lt below. absurd (omega arith); within = λ y c. absurd (omega (arith, c.1)); whose = λ y c. absurd (omega (arith, c.1)) }
partners {X} {Y} R (x ∷ xs) ys distinct have =
    let found : (y : Y) × Contains ys y × R x y = have.partner x (contains_first x xs) in
    let rest : Partners R xs ys = partners R xs ys (distinct_tail x xs distinct) (record { partner = λ z c. have.partner z (contains_later x xs z c); once = have.once }) in
    by found rest
  where
    other : (found : (y : Y) × Contains ys y × R x y) (rest : Partners R xs ys) (z : Y) → Contains rest.list z → found.0 ≢ z
    other found rest z c e =
        let w : (x' : X) × Contains xs x' × R x' z = rest.whose z c in
        distinct_head x xs distinct w.0 w.1 (have.once w.0 x z w.2 (subst (R x) e found.2))

    by : (found : (y : Y) × Contains ys y × R x y) → Partners R xs ys → Partners R (x ∷ xs) ys
    by found rest = record {
      list = found.0 ∷ rest.list;
      length_is = ap suc rest.length_is;
      distinct = AllPairs-cons (λ y z. y ≢ z) found.0 rest.list (λ k d below. other found rest (get_or rest.list k d) (member_at rest.list k (get_or rest.list k d) (slice_get-get_or rest.list k d below))) rest.distinct;
      within = λ y c. elim (contains_cases found.0 rest.list y c) [ inl e ↦ subst (Contains ys) (sym e) found.1 | inr d ↦ rest.within y d ];
      whose = λ y c. elim (contains_cases found.0 rest.list y c) [
        | inl e ↦ (x, contains_first x xs, subst (R x) (sym e) found.2)
        | inr d ↦ let w : (x' : X) × Contains xs x' × R x' y = rest.whose y d in (w.0, contains_later x xs w.0 w.1, w.2)
      ];
    }

-- distinct items with partners of their own are no more than these
pub no_more_than : {X Y : Type 0} (R : X → Y → Type 0) (xs : List X) (ys : List Y) → AllPairs (λ x z. x ≢ z) xs → HavePartners R xs ys → length xs ≤ length ys
no_more_than R xs ys distinct have =
    let p : Partners R xs ys = partners R xs ys distinct have in
    let few : length p.list ≤ length ys = no_more p.list ys p.distinct p.within in
    omega (arith, p.length_is)

-- ---- names with more

pub name_keeps_place : (names : List (List ℕ)) (more : List ℕ) (k : ℕ) (x : List ℕ) → slice_get names k ≡ Some x → slice_get (with_name names more) k ≡ Some x
name_keeps_place names more k x at = by (list_any (bytes_eq more) names)
  where
    by : (b : Bool) → slice_get (if b then names else names ++ more ∷ []) k ≡ Some x
    by true = at
    by false = place_stays names (more ∷ []) k x at

pub names_keep_place : (names more : List (List ℕ)) (k : ℕ) (x : List ℕ) → slice_get names k ≡ Some x → slice_get (with_names names more) k ≡ Some x
names_keep_place names [] k x at = at
names_keep_place names (y ∷ ys) k x at = names_keep_place (with_name names y) ys k x (name_keeps_place names y k x at)

name_cases : (names : List (List ℕ)) (more x : List ℕ) → Contains (with_name names more) x → (x ≡ more) ⊎ Contains names x
name_cases names more x = by (list_any (bytes_eq more) names)
  where
    by : (b : Bool) → Contains (if b then names else names ++ more ∷ []) x → (x ≡ more) ⊎ Contains names x
    by true c = inr c
    by false c = contains_cut names more x c

-- a name is the row's, or was there
pub names_cases : (names : List (List ℕ)) (r : NamedRow) (x : List ℕ) → Contains (with_names names (names_in r)) x → Names x r ⊎ Contains names x
names_cases names (named.Concept c a) x there = name_cases names a x there
names_cases names (named.Role p a b) x there = elim (name_cases (with_name names a) b x there) [
  | inl e ↦ inl (inr e)
  | inr d ↦ elim (name_cases names a x d) [ inl e ↦ inl (inl e) | inr old ↦ inr old ]
]

pub names_old : (names : List (List ℕ)) (r : NamedRow) (x : List ℕ) → Contains names x → Contains (with_names names (names_in r)) x
names_old names (named.Concept c a) x old = name_stays names a x old
names_old names (named.Role p a b) x old = name_stays (with_name names a) b x (name_stays names a x old)

pub names_new : (names : List (List ℕ)) (r : NamedRow) (x : List ℕ) → Names x r → Contains (with_names names (names_in r)) x
names_new names (named.Concept c a) x e = subst (Contains (with_name names a)) (sym e) (name_there names a)
names_new names (named.Role p a b) x (inl e) = name_stays (with_name names a) b x (subst (Contains (with_name names a)) (sym e) (name_there names a))
names_new names (named.Role p a b) x (inr e) = subst (Contains (with_name (with_name names a) b)) (sym e) (name_there (with_name names a) b)

-- what two names leave, one after the other
pub names_two : (old mid new : List (List ℕ)) (a b : List ℕ) (n m : ℕ) → Interns old a mid n → Interns mid b new m → new ≡ with_names old (a ∷ b ∷ [])
names_two old mid new a b n m first second = interned_is mid new b m second ∙ ap (λ (xs : List (List ℕ)). with_name xs b) (interned_is old mid a n first)

-- ---- rows by name and by number

-- a role row by the numbers that its individuals were given one after the other
pub numbered_role : (o : Terminology) (old mid new : List (List ℕ)) (p a b : List ℕ) (place n m : ℕ) → Interns old a mid n → Interns mid b new m → slice_get o.roles place ≡ Some p
    → NumbersRow o new (named.Role p a b) (row.Role place n m)
numbered_role o old mid new p a b place n m first second at =
    (at, subst (λ (xs : List (List ℕ)). slice_get xs n ≡ Some a) (sym (interned_is mid new b m second)) (name_keeps_place mid b n a first.there), second.there)

same_item : {X : Type 0} (xs : List X) (k : ℕ) (x y : X) → slice_get xs k ≡ Some x → slice_get xs k ≡ Some y → x ≡ y
same_item xs k x y e f = some_same (sym e ∙ f)

-- a row by number is of one row by name
pub one_name : (o : Terminology) (names : List (List ℕ)) (r s : NamedRow) (n : Row) → NumbersRow o names r n → NumbersRow o names s n → r ≡ s
one_name o names (named.Concept c a) (named.Concept d b) (row.Concept k n) e f =
    let g = same_item o.concepts k c d e.0 f.0 in
    let h = same_item names n a b e.1 f.1 in
    λ j. named.Concept (g j) (h j)
one_name o names (named.Role p a b) (named.Role q x y) (row.Role k n m) e f =
    let g = same_item o.roles k p q e.0 f.0 in
    let h = same_item names n a x e.1 f.1 in
    let i = same_item names m b y e.2 f.2 in
    λ j. named.Role (g j) (h j) (i j)
one_name o names (named.Concept c a) s (row.Role k n m) e f = absurd e
one_name o names (named.Role p a b) s (row.Concept k n) e f = absurd e
one_name o names (named.Concept c a) (named.Role q x y) (row.Concept k n) e f = absurd f
one_name o names (named.Role p a b) (named.Concept d x) (row.Role k n m) e f = absurd f

-- and a row by name has one number
pub one_number : (o : Terminology) (names : List (List ℕ)) (r : NamedRow) (n m : Row) → IsTerminology o → AllPairs (λ x y. x ≢ y) names
    → NumbersRow o names r n → NumbersRow o names r m → n ≡ m
one_number o names (named.Concept c a) (row.Concept k n) (row.Concept l m) is distinct e f =
    let g = one_place o.concepts k l c is.distinct_concepts e.0 f.0 in
    let h = one_place names n m a distinct e.1 f.1 in
    λ j. row.Concept (g j) (h j)
one_number o names (named.Role p a b) (row.Role k n m) (row.Role l i j) is distinct e f =
    let g = one_place o.roles k l p is.distinct_roles e.0 f.0 in
    let h = one_place names n i a distinct e.1 f.1 in
    let u = one_place names m j b distinct e.2 f.2 in
    λ t. row.Role (g t) (h t) (u t)
one_number o names (named.Concept c a) (row.Role k n m) y is distinct e f = absurd e
one_number o names (named.Role p a b) (row.Concept k n) y is distinct e f = absurd e
one_number o names (named.Concept c a) (row.Concept k n) (row.Role l i j) is distinct e f = absurd f
one_number o names (named.Role p a b) (row.Role k n m) (row.Concept l i) is distinct e f = absurd f

-- where the names keep their places, so does the row
pub number_stays : (o : Terminology) (old new : List (List ℕ)) (r : NamedRow) (n : Row)
    → ((k : ℕ) (x : List ℕ) → slice_get old k ≡ Some x → slice_get new k ≡ Some x) → NumbersRow o old r n → NumbersRow o new r n
number_stays o old new (named.Concept c a) (row.Concept k n) keep e = (e.0, keep n a e.1)
number_stays o old new (named.Role p a b) (row.Role k n m) keep e = (e.0, keep n a e.1, keep m b e.2)
number_stays o old new (named.Concept c a) (row.Role k n m) keep e = absurd e
number_stays o old new (named.Role p a b) (row.Concept k n) keep e = absurd e
