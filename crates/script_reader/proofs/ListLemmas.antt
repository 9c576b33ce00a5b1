-- Lists: their first items, and what holds of all items.
use Rattle.std.proofs.Common.{◌≡◌, List, [], ◌∷◌, ◌++◌, get_or, sym, ap, subst}
use Rattle.std.specs.List.{AllByRecursion}

pub same_head : {A : Type 0} (x y : A) (xs ys : List A) → x ∷ xs ≡ y ∷ ys → x ≡ y
same_head x y xs ys same = ap (λ l. get_or l 0 x) same

abbrev behind_first : {A : Type 0} → List A → List A
behind_first [] = []
behind_first (x ∷ xs) = xs

pub same_tail : {A : Type 0} (x y : A) (xs ys : List A) → x ∷ xs ≡ y ∷ ys → xs ≡ ys
same_tail x y xs ys same = ap (λ l. behind_first l) same

pub all_joined : {X : Type 0} (P : X → Type 0) (xs ys : List X) → AllByRecursion P xs → AllByRecursion P ys → AllByRecursion P (xs ++ ys)
all_joined P [] ys front behind = behind
all_joined P (x ∷ xs) ys front behind = (front.0, all_joined P xs ys front.1 behind)

pub all_push : {X : Type 0} (P : X → Type 0) (xs : List X) (x : X) → AllByRecursion P xs → P x → AllByRecursion P (xs ++ x ∷ [])
all_push P xs x all p = all_joined P xs (x ∷ []) all (p, tt)

-- two first items of a list of which P doesn't hold are one
pub first_once : {X : Type 0} (P : X → Type 0) (front front' : List X) (x y : X) (more more' : List X) → front ++ x ∷ more ≡ front' ++ y ∷ more'
    → AllByRecursion P front → AllByRecursion P front' → (P x → ⊥) → (P y → ⊥) → x ≡ y
first_once P [] [] x y more more' same all all' not not' = same_head x y more more' same
first_once P [] (z ∷ front') x y more more' same all all' not not' = absurd (not (subst P (sym (same_head x z more (front' ++ y ∷ more') same)) all'.0))
first_once P (z ∷ front) [] x y more more' same all all' not not' = absurd (not' (subst P (same_head z y (front ++ x ∷ more) more' same) all.0))
first_once P (z ∷ front) (w ∷ front') x y more more' same all all' not not' =
    first_once P front front' x y more more' (same_tail z w (front ++ x ∷ more) (front' ++ y ∷ more') same) all.1 all'.1 not not'
