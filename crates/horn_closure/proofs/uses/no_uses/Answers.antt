use Rattle.std.proofs.Common.{◌≡◌, [], List, ℕ, length, slice_index_or, length-append, arith, ap, ◌∙◌}
use Rattle.horn_closure.proofs.UsesLemmas.{still_empty}
use Rattle.horn_closure.proofs.uses.no_uses.Goals as goal

pub loop-init : goal.loop-init
loop-init c = record { places = ap length c.new-uses.ensures.items; each = λ p. ap (λ (xs : List (List ℕ)). slice_index_or xs p []) c.new-uses.ensures.items }

pub loop-preserved : goal.loop-preserved
loop-preserved c = record {
  places = rw c.in_ok-push.ensures.items (rw length-append (let before : length c.loop.uses.items ≡ c.loop.counter = c.loop.invariant.places in omega arith));
  each = λ p. rw (c.in_ok-push.ensures.items, c.new.ensures) (still_empty c.loop.uses.items p c.loop.invariant.each);
}

pub returns-clause-places : goal.returns-clause-places
returns-clause-places c = c.loop.invariant.places ∙ (omega arith)

pub returns-clause-each : goal.returns-clause-each
returns-clause-each c = c.loop.invariant.each
