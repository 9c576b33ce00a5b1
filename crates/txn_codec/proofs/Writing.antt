-- What is written, a piece behind the other.
use Rattle.std.proofs.Common.{◌≡◌, ℕ, ◌+◌, ◌<◌, ◌≤◌, List, [], ◌∷◌, ◌++◌, length, get_or, take, sym, ap, subst, ◌∙◌, arith, append_assoc, length-append, flat_map, All}
use Rattle.std.proofs.lemmas.List.{take_more, append-nil}
use Rattle.std.proofs.lemmas.List.Folds.{length-flat_map-take}
use Rattle.std.proofs.lemmas.List.Elements.{All-more}
use Rattle.std.proofs.lemmas.Grind.{flat_map-append}
use Rattle.std.specs.Global.{Vec}
use Rattle.txn_codec.specs.Room.{Appends}

-- one item more
pub flat_more : {X : Type 0} (f : X → List ℕ) (xs : List X) (i : ℕ) (x : X) → i < length xs → x ≡ get_or xs i x
    → flat_map f (take (i + 1) xs) ≡ flat_map f (take i xs) ++ f x
flat_more f xs i x lt is =
    ap (flat_map f) (take_more xs i x lt) ∙ flat_map-append f (take i xs) (get_or xs i x ∷ [])
    ∙ ap (λ (a : List ℕ). flat_map f (take i xs) ++ a) (append-nil (f (get_or xs i x)) ∙ ap f (sym is))

pub length-flat_more : {X : Type 0} (f : X → List ℕ) (xs : List X) (i : ℕ) (x : X) → i < length xs → x ≡ get_or xs i x
    → length (flat_map f (take (i + 1) xs)) ≡ length (flat_map f (take i xs)) + length (f x)
length-flat_more f xs i x lt is = ap (λ (a : List ℕ). length a) (flat_more f xs i x lt is) ∙ length-append (flat_map f (take i xs)) (f x)

-- what is left to be written has room
pub item_fits : {X : Type 0} (f : X → List ℕ) (xs : List X) (i : ℕ) (x : X) → i < length xs → x ≡ get_or xs i x
    → length (flat_map f (take i xs)) + length (f x) ≤ length (flat_map f xs)
item_fits f xs i x lt is = omega (arith, length-flat_map-take f xs i x lt, ap (λ (a : _). length (f a)) is)

pub appends_more : {a b c : Vec ℕ} (s t : List ℕ) → Appends a b s → Appends b c t → Appends a c (s ++ t)
appends_more {a} {b} {c} s t p q = record {
  items = q.items ∙ ap (λ (x : List ℕ). x ++ t) p.items ∙ append_assoc a.items s t;
  len = omega (arith, p.len, q.len, length-append s t);
  capacity = omega (arith, p.capacity, q.capacity);
}

-- one item more behind what stands in front of all items
pub appends_item : {X : Type 0} {a b c : Vec ℕ} (head : List ℕ) (f : X → List ℕ) (xs : List X) (i : ℕ) (x : X) → i < length xs → x ≡ get_or xs i x
    → Appends a b (head ++ flat_map f (take i xs)) → Appends b c (f x) → Appends a c (head ++ flat_map f (take (i + 1) xs))
appends_item {X} {a} {b} {c} head f xs i x lt is p q =
    let whole = appends_more (head ++ flat_map f (take i xs)) (f x) p q in
    let text : (head ++ flat_map f (take i xs)) ++ f x ≡ head ++ flat_map f (take (i + 1) xs) =
    append_assoc head (flat_map f (take i xs)) (f x) ∙ ap (λ (s : List ℕ). head ++ s) (sym (flat_more f xs i x lt is)) in
    rw (← text) whole

pub all_more : {X : Type 0} (P : X → Type 0) (xs : List X) (i : ℕ) (x : X) → i < length xs → x ≡ get_or xs i x → All P (take i xs) → P x → All P (take (i + 1) xs)
all_more P xs i x lt is all one = All-more P xs i x lt all (subst P is one)
