-- Names that are added one behind the other.
use Rattle.std.proofs.Common.{Bool, true, false, ◌≡◌, ℕ, ◌+◌, ◌<◌, List, [], ◌∷◌, ◌++◌, length, get_or, drop, refl, sym, ap, ◌∙◌}
use Rattle.std.specs.List.{flat_map, list_any}
use Rattle.std.specs.Str.{bytes_eq}
use Rattle.std.proofs.lemmas.Slice.Eq.{bytes_eq-Decides}
use Rattle.std.proofs.lemmas.Grind.{fold-append}
use Rattle.std.proofs.lemmas.List.{at_drop_more}
use Rattle.dl_base.specs.Axiom.{with_name, with_names}
use Rattle.axiom_reader.specs.declared.vocabulary.Vocabulary.{Vocabulary}
use Rattle.axiom_reader.specs.Vocabulary.{AddsNames}

-- ---- one name

eq_swapped : (x y : List ℕ) → bytes_eq x y ≡ bytes_eq y x
eq_swapped x y = by (bytes_eq x y) (bytes_eq y x) refl refl
  where
    by : (a b : Bool) → bytes_eq x y ≡ a → bytes_eq y x ≡ b → a ≡ b
    by true true p q = refl
    by false false p q = refl
    by true false p q = absurd (let e : bytes_eq y x ≡ true = (bytes_eq-Decides y x).1 (sym ((bytes_eq-Decides x y).0 p)) in cc)
    by false true p q = absurd (let e : bytes_eq x y ≡ true = (bytes_eq-Decides x y).1 (sym ((bytes_eq-Decides y x).0 q)) in cc)

any_swapped : (names : List (List ℕ)) (name : List ℕ) → list_any (λ y. bytes_eq y name) names ≡ list_any (bytes_eq name) names
any_swapped [] name = refl
any_swapped (x ∷ xs) name = rw (eq_swapped x name, any_swapped xs name) refl

pub known_name : (names : List (List ℕ)) (name : List ℕ) → list_any (λ y. bytes_eq y name) names ≡ true → with_name names name ≡ names
known_name names name e =
    let test : list_any (bytes_eq name) names ≡ true = sym (any_swapped names name) ∙ e in
    rw test refl

pub new_name : (names : List (List ℕ)) (name : List ℕ) → list_any (λ y. bytes_eq y name) names ≡ false → with_name names name ≡ names ++ name ∷ []
new_name names name e =
    let test : list_any (bytes_eq name) names ≡ false = sym (any_swapped names name) ∙ e in
    rw test refl

pub ruleset known_or_new = (known_name, new_name)

-- ---- lists of names

-- what is still to be added to what the loop has leads to the same names
pub record AddsAlong {X : Type 0} (f g : X → List (List ℕ)) (xs : List X) (old now : Vocabulary) (i : ℕ) : Type 0 where
  pub concepts : with_names now.concepts (flat_map f (drop i xs)) ≡ with_names old.concepts (flat_map f xs)
  pub roles : with_names now.roles (flat_map g (drop i xs)) ≡ with_names old.roles (flat_map g xs)

along : {X : Type 0} (f : X → List (List ℕ)) (xs : List X) (total now new : List (List ℕ)) (i : ℕ) (d : X) → i < length xs → new ≡ with_names now (f (get_or xs i d))
    → with_names now (flat_map f (drop i xs)) ≡ total → with_names new (flat_map f (drop (i + 1) xs)) ≡ total
along {X} f xs total now new i d lt e so_far =
    ap (λ (o : List (List ℕ)). with_names o (flat_map f (drop (i + 1) xs))) e
    ∙ sym (fold-append with_name now (f (get_or xs i d)) (flat_map f (drop (i + 1) xs)))
    ∙ sym (at_drop_more (λ (ys : List X). with_names now (flat_map f ys)) xs i d lt)
    ∙ so_far

pub adds_more : {X : Type 0} (f g : X → List (List ℕ)) (xs : List X) (old now new : Vocabulary) (i : ℕ) (d : X) → i < length xs
    → AddsNames now (f (get_or xs i d)) (g (get_or xs i d)) new → AddsAlong f g xs old now i → AddsAlong f g xs old new (i + 1)
adds_more f g xs old now new i d lt a so_far = record {
  concepts = along f xs (with_names old.concepts (flat_map f xs)) now.concepts new.concepts i d lt a.concepts so_far.concepts;
  roles = along g xs (with_names old.roles (flat_map g xs)) now.roles new.roles i d lt a.roles so_far.roles;
}
