use Rattle.std.proofs.Common.{◌≤◌, ◌∷◌, ◌++◌, [], length, sym, ◌∙◌, arith}
use Rattle.std.proofs.lemmas.List.{take_all, take_more}
use Rattle.std.proofs.lemmas.Option.{slice_get_within, get_or_from_slice_get}
use Rattle.horn_closure.proofs.rules.copy_names.Goals as goal

pub loop-id-preserved : goal.loop-id-preserved
loop-id-preserved c =
    let names = c.args.book.now in
    let i = c.loop-id.id in
    let name = c.name.result.now in
    let more = take_more names i name (slice_get_within names i name c.name.ensures) in
    let read = get_or_from_slice_get names i name name c.name.ensures in
    c.in_ok-push.ensures.ok ∙ (λ j. c.loop-id.invariant j ++ (c.in_ok-copy.ensures ∙ sym read) j ∷ []) ∙ sym more

pub returns : goal.returns
returns c =
    let all : length c.args.book.now ≤ c.loop-id.id = (let n = c.len-id-end.ensures.len in omega arith) in
    c.loop-id.invariant ∙ take_all c.loop-id.id c.args.book.now all
