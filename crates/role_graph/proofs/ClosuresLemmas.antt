-- The closures behind the first so many role names.
use Rattle.std.proofs.Common.{◌≡◌, ℕ, ◌+◌, inl, inr, Bool, List, [], ◌∷◌, ◌++◌, length, length-append, sym, ◌∙◌, subst, arith}
use Rattle.dl_base.specs.Derivation.{HeldBehind}
use Rattle.dl_base.specs.declared.concept.Inclusion.{Inclusion}
use Rattle.horn_closure.specs.Closure.{IsClosure}
use Rattle.dl_base.proofs.PlaceLemmas.{got_pushed}
use Rattle.role_graph.specs.Behind.{AreClosures, side}
use Rattle.role_graph.specs.declared.closures.BothWays.{BothWays}

pub closures_more : (inclusions : List Inclusion) (name : ℕ) (closed more : List BothWays) (s : BothWays) → more ≡ closed ++ s ∷ [] → ((inverse : Bool) → IsClosure inclusions (HeldBehind (record { name = name; inverse = inverse })) (side s inverse))
    → AreClosures inclusions name closed → AreClosures inclusions (name + 1) more
closures_more inclusions name closed more s is behind are = subst (AreClosures inclusions (name + 1)) (sym is) (record {
  each = rw length-append (let each : length closed ≡ name = are.each in omega arith);
  closures = λ r t at. elim (got_pushed closed s t r.name at) [
    | inl old ↦ are.closures r t old
    | inr (last, same) ↦ subst (λ (x : ℕ × BothWays). IsClosure inclusions (HeldBehind (record { name = x.0; inverse = r.inverse })) (side x.1 r.inverse)) (λ j. (sym (last ∙ are.each) j, sym same j)) (behind r.inverse)
  ];
})
