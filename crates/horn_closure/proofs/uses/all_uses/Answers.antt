use Rattle.std.proofs.Common.{◌≡◌, ◌++◌, [], take, drop, length, get_or, slice_get, Some, slice_index_or, arith, ap, ◌∙◌}
use Rattle.std.proofs.lemmas.Option.{slice_get-get_or}
use Rattle.dl_base.specs.declared.concept.Inclusion.{Inclusion}
use Rattle.horn_closure.proofs.UsesLemmas.{below_first, below_more_uses, below_all, written_back}
use Rattle.horn_closure.proofs.uses.all_uses.Goals as goal

pub loop-i-init : goal.loop-i-init
loop-i-init c = record { places = c.in_ok-uses.ensures.places; each = λ p below. below_first _ p _ (c.in_ok-uses.ensures.each p) }

pub loop-i-preserved : goal.loop-i-preserved
loop-i-preserved c =
    let same : c.as_mut_slice.result.now ≡ c.loop-i.uses.items = c.as_mut_slice.ensures.value in
    let kept : length c.add_uses.new.uses ≡ length c.as_mut_slice.result.now = c.add_uses.auto.uses in
    let long : length c.as_mut_slice.result.now ≡ length c.loop-i.uses.items = ap length same in
    let many : c.loop-i.uses.len ≡ length c.loop-i.uses.items = (let long_is = c.as_mut_slice.ensures.len in omega arith) in
    let places : length c.loop-i.uses.items ≡ 1024 = c.loop-i.invariant.places in
    let whole : take c.loop-i.uses.len (c.add_uses.new.uses ++ drop (length c.add_uses.new.uses) c.loop-i.uses.items) ≡ c.add_uses.new.uses = written_back _ _ c.loop-i.uses.len (omega arith) many in
    let at : slice_get c.args.inclusions.now c.loop-i.i ≡ Some (get_or c.args.inclusions.now c.loop-i.i c.index-inclusions-i.result) = slice_get-get_or _ _ c.index-inclusions-i.result c.loop-i-test.true in
    let body : c.items.result.now ≡ (get_or c.args.inclusions.now c.loop-i.i c.index-inclusions-i.result).body = c.items.ensures ∙ ap (λ (x : Inclusion). x.body) c.index-inclusions-i.is in
    rw whole (record {
      places = omega arith;
      each = λ p below. below_more_uses c.args.inclusions.now p c.loop-i.i _ (slice_index_or c.loop-i.uses.items p []) _ c.loop-i-test.true at (rw (← body, ← same) (c.in_ok-add_uses.ensures p below)) (c.loop-i.invariant.each p below);
    })

pub returns-clause-each : goal.returns-clause-each
returns-clause-each c = λ p below. below_all _ _ c.loop-i.i _ c.loop-i-test.false (c.loop-i.invariant.each p below)
