-- What the tests of lists of roles tell.
use Rattle.std.proofs.Common.{◌≡◌, ◌-◌, ◌≤◌, inl, inr, ◌==◌, ◌&&◌, Bool, false, List, [], ◌∷◌, length, get_or, take, drop, IsTrue, sym, ◌∙◌, ap, arith}
use Rattle.std.specs.Prelude.{◌↔◌}
use Rattle.std.specs.Bool.{Decides}
use Rattle.std.specs.Cmp.{booleans_Decides}
use Rattle.std.proofs.Math.Bool.{beq}
use Rattle.std.proofs.lemmas.List.{take_all}
use Rattle.std.proofs.lemmas.Bool.Decides.{Decides-and, Decides-eqb}
use Rattle.dl_base.specs.Derivation.{inverse}
use Rattle.dl_base.specs.declared.concept.Role.{Role}
use Rattle.tree_witness.specs.Trees.{IsStep}

abbrev pub no_role : Role
no_role = record { name = 0; inverse = false }

-- what stands behind the first
abbrev pub rest_of : List Role → List Role
rest_of xs = take (length xs - 1) (drop 1 xs)

rest_is : (x : Role) (xs : List Role) → rest_of (x ∷ xs) ≡ xs
rest_is x xs = let count : length (x ∷ xs) - 1 ≡ length xs = omega arith in rw count (take_all (length xs) xs (omega arith))

-- `==` of roles
pub roles_same : (r q : Role) → Decides ((r.name == q.name) && beq r.inverse q.inverse) (r ≡ q)
roles_same r q =
    let both = Decides-and (r.name == q.name) (beq r.inverse q.inverse) (Decides-eqb r.name q.name) (booleans_Decides r.inverse q.inverse) in
    (λ t. let parts = both.0 t in λ i. record { name = parts.0 i; inverse = parts.1 i }, λ is. both.1 (ap (λ (p : Role). p.name) is, ap (λ (p : Role). p.inverse) is))

-- where the first one is that role, the whole is told by what is behind it
pub behind_tells : (first : Role) (roles found : List Role) (d : Role) (r : Bool) → 1 ≤ length found → get_or found 0 d ≡ first → Decides r (rest_of found ≡ roles) → IsTrue r ↔ (found ≡ first ∷ roles)
behind_tells first roles [] d r some is tells = absurd (omega arith)
behind_tells first roles (x ∷ xs) d r some is tells =
    (λ yes. let rest : xs ≡ roles = sym (rest_is x xs) ∙ tells.0 yes in λ i. is i ∷ rest i, λ same. tells.1 (rest_is x xs ∙ (sym (rest_is x xs) ∙ (ap rest_of same ∙ rest_is first roles))))

-- where an atom goes back along the last role, the step is told by what is before it
pub back_tells : (root : Role) (roles : List Role) (by : Role) (found : List Role) (d : Role) (r : Bool) → 1 ≤ length roles → by ≡ inverse (get_or roles 0 d) → Decides r (found ≡ rest_of roles)
    → IsTrue r ↔ IsStep root roles by found
back_tells root [] by found d r some is tells = absurd (omega arith)
back_tells root (x ∷ xs) by found d r some is tells = (λ yes. inl (is, tells.0 yes ∙ rest_is x xs), λ step. back step)
  where
    back : IsStep root (x ∷ xs) by found → IsTrue r
    back (inl (same, rest)) = tells.1 (rest ∙ sym (rest_is x xs))
    back (inr (other, more)) = absurd (other is)
