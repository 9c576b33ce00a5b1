-- Lists that are compared item by item.
use Rattle.std.proofs.Common.{◌≡◌, ℕ, zero, suc, ◌<◌, ◌≤◌, List, [], ◌∷◌, length, drop, refl, sym, ◌∙◌, arith}
use Rattle.std.specs.Cmp.Lexicographic.{slice_cmp}
use Rattle.std.specs.declared.cmp.Ordering.{Ordering}
use Rattle.std.specs.Ordering.{nat_cmp}
use Rattle.std.proofs.lemmas.Bool.Decides.{nat_tests}
use Rattle.role_graph.proofs.ClashLemmas.{nat_suc}

-- where one of the lists has ended, the shorter one comes first
pub both_ended : {X : Type 0} (cmp : X → X → Ordering) (i : ℕ) (xs ys : List X) → i ≤ length xs → i ≤ length ys → (i < length xs → i < length ys → ⊥) → slice_cmp cmp (drop i xs) (drop i ys) ≡ nat_cmp (length xs) (length ys)
both_ended cmp zero [] [] a b c = refl
both_ended cmp zero [] (y ∷ ys) a b c = sym (grind (arith, nat_tests))
both_ended cmp zero (x ∷ xs) [] a b c = sym (grind (arith, nat_tests))
both_ended cmp zero (x ∷ xs) (y ∷ ys) a b c = absurd (c (omega arith) (omega arith))
both_ended cmp (suc i) [] ys a b c = absurd (omega arith)
both_ended cmp (suc i) (x ∷ xs) [] a b c = absurd (omega arith)
both_ended cmp (suc i) (x ∷ xs) (y ∷ ys) a b c = both_ended cmp i xs ys (omega arith) (omega arith) (λ h k. c (omega arith) (omega arith)) ∙ sym (nat_suc (length xs) (length ys))
