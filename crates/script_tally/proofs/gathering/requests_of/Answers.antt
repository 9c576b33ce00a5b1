use Rattle.std.proofs.Common.{◌≡◌, ◌==◌, ◌++◌, ℕ, List, [], length, take, true, None, refl, sym, ap, subst, arith, length-append}
use Rattle.script_reader.specs.declared.request.Request.{Request}
use Rattle.script_reader.proofs.InputLemmas.{nothing_left, split_more}
use Rattle.script_tally.specs.Gathering.{GathersAll, GathersBytes}
use Rattle.script_tally.proofs.GatherLemmas.{none_gathered}
use Rattle.script_tally.proofs.gathering.requests_of.Goals as goal

pub loop-rest-init : goal.loop-rest-init
loop-rest-init c = ([], refl, subst (λ (requests : List Request). GathersBytes [] c.in_ok-lines.lines requests None) (sym c.new-requests.ensures) (none_gathered c.in_ok-lines.lines c.in_ok-lines.ensures.value))

pub loop-rest-preserved : goal.loop-rest-preserved
loop-rest-preserved c =
    let i = c.loop-rest.invariant in (
      i.0 ++ take c.in_ok-begun.count c.loop-rest.rest.now,
      split_more c.args.script.now i.0 c.loop-rest.rest.now c.in_ok-begun.count i.1,
      c.in_ok-begun.ensures.gathers i.0 (omega (arith, c.requires, ap length i.1, length-append i.0 c.loop-rest.rest.now)) i.2,
    )

pub returns : goal.returns
returns c =
    let i = c.loop-rest.invariant in
    let empty : (length c.loop-rest.rest.now == 0) ≡ true = cc in
    let all = nothing_left c.args.script.now i.0 c.loop-rest.rest.now i.1 empty in
    subst (λ (bytes : List ℕ). GathersAll bytes c.gather_last.new.requests) all (c.in_ok-gather_last.ensures i.0 (omega (arith, c.requires, ap length i.1, length-append i.0 c.loop-rest.rest.now)) i.2)
