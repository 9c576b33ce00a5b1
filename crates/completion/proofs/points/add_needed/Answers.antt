use Rattle.std.proofs.Common.{◌≡◌, ◌+◌, ◌⊎◌, ◌↔◌, ℕ, true, false, List, subst, arith}
use Rattle.dl_base.specs.Sets.{HasRole}
use Rattle.dl_base.specs.declared.concept.Role.{Role}
use Rattle.completion.proofs.NeededLemmas.{AddsBelow, adds_both, adds_none}
use Rattle.completion.specs.Points.{IsNeeded}
use Rattle.completion.proofs.points.add_needed.Goals as goal

pub loop-name-init : goal.loop-name-init
loop-name-init c = record {
  one = adds_none (IsNeeded c.args.closed.now.derived c.args.held.now) c.args.one.now;
  other = adds_none (IsNeeded c.args.closed.now.derived c.args.held.now) c.args.other.now;
}

-- one of the sets, after both roles of a name
more : (P : Role → Type 0) (name : ℕ) (turned : Role) (old now half new : List ℕ) → turned ≡ record { name = name; inverse = true }
    → ((t : Role) → HasRole half t ↔ (((t ≡ record { name = name; inverse = false }) × P (record { name = name; inverse = false })) ⊎ HasRole now t))
    → ((t : Role) → HasRole new t ↔ (((t ≡ turned) × P turned) ⊎ HasRole half t))
    → AddsBelow P name old now → AddsBelow P (name + 1) old new
more P name turned old now half new is first second far =
    adds_both P name old now half new first (subst (λ (r : Role). (t : Role) → HasRole new t ↔ (((t ≡ r) × P r) ⊎ HasRole half t)) is second) far

pub loop-name-preserved : goal.loop-name-preserved
loop-name-preserved c =
    let needed = IsNeeded c.args.closed.now.derived c.args.held.now in
    let turned = c.inverted.result in
    record {
      one = more needed c.loop-name.name turned c.args.one.now c.loop-name.one c.add_if_needed.new.one c.add_if_needed-in-loop-name.new.one c.inverted.ensures
          c.add_if_needed.ensures.one c.add_if_needed-in-loop-name.ensures.one c.loop-name.invariant.one;
      other = more needed c.loop-name.name turned c.args.other.now c.loop-name.other c.add_if_needed.new.other c.add_if_needed-in-loop-name.new.other c.inverted.ensures
          c.add_if_needed.ensures.other c.add_if_needed-in-loop-name.ensures.other c.loop-name.invariant.other;
    }

pub returns-clause-one : goal.returns-clause-one
returns-clause-one c =
    let same : c.loop-name.name ≡ c.args.roles = (let a = c.loop-name.auto.name-end in let b = c.loop-name-test.false in omega arith) in
    (subst (λ (n : ℕ). AddsBelow (IsNeeded c.args.closed.now.derived c.args.held.now) n c.args.one.now c.loop-name.one) same c.loop-name.invariant.one).each

pub returns-clause-other : goal.returns-clause-other
returns-clause-other c =
    let same : c.loop-name.name ≡ c.args.roles = (let a = c.loop-name.auto.name-end in let b = c.loop-name-test.false in omega arith) in
    (subst (λ (n : ℕ). AddsBelow (IsNeeded c.args.closed.now.derived c.args.held.now) n c.args.other.now c.loop-name.other) same c.loop-name.invariant.other).each
