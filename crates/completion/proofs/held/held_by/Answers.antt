use Rattle.std.proofs.Common.{◌≡◌, Contains, List, subst, sym, ◌∙◌}
use Rattle.std.proofs.lemmas.List.Elements.{All-contains}
use Rattle.assert_tables.proofs.NamingLemmas.{all_came, comes_of}
use Rattle.dl_base.specs.declared.row.Row.{Row}
use Rattle.completion.proofs.HeldLemmas.{AreHeld, held_all, held_more}
use Rattle.completion.specs.Numbered.{IsRowWithin}
use Rattle.completion.proofs.held.held_by.Goals as goal

pub hold-requires : goal.hold-requires
hold-requires c =
    let there = comes_of c.loop-row.yielded c.into_iter-row-iterator.result c.loop-row.row-iterator c.next.new.self c.in-Some.row c.loop-row.yielded_by c.in-Some.ensures.steps in
    let of_these = subst (λ (rows : List Row). Contains rows c.in-Some.row) c.into_iter-row-iterator.ensures.into_iter_gives there in
    All-contains (IsRowWithin 512 256) c.args.rows.now c.in-Some.row c.requires ((c.rows_naming-row-items.ensures.each c.in-Some.row).0 of_these).0

pub loop-row-preserved : goal.loop-row-preserved
loop-row-preserved c = held_more c.loop-row.yielded c.args.individual c.in-Some.row c.loop-row.held c.hold.new.held c.hold.ensures c.loop-row.invariant

pub returns : goal.returns
returns c =
    let all = all_came c.loop-row.yielded c.into_iter-row-iterator.result c.loop-row.row-iterator c.loop-row.yielded_by c.in-None.ensures.steps.0 in
    let these : c.rows_naming-row-items.result ≡ c.loop-row.yielded = sym c.into_iter-row-iterator.ensures.into_iter_gives ∙ all in
    held_all c.args.rows.now c.rows_naming-row-items.result c.args.individual c.loop-row.held c.rows_naming-row-items.ensures
    (subst (λ (rows : List Row). AreHeld rows c.args.individual c.loop-row.held) (sym these) c.loop-row.invariant)
