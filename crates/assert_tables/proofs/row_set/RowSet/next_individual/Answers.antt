use Rattle.std.proofs.Common.{Some, None, subst}
use Rattle.std.specs.declared.ops.Bound.{Bound}
use Rattle.assert_tables.specs.Mentions.{IsLeastFrom}
use Rattle.assert_tables.specs.declared.row_set.Mention.{Mention}
use Rattle.assert_tables.proofs.SearchLemmas.{none_above, none_individual, some_individual}
use Rattle.assert_tables.proofs.row_set.RowSet.next_individual.Goals as goal

pub returns-in_err-least : goal.returns-in_err-least
returns-in_err-least c = rw (c.from_residual-in_err-least.ensures, ← c.self.view_is) (none_above c.self.inside.mentions c.args.after c.in_ok-greatest.field-0.now c.self.invariant c.in_ok-greatest.ensures.greatest c.in_err-least.ensures.none)

pub returns-in_err-next : goal.returns-in_err-next
returns-in_err-next c = rw (c.from_residual-in_err-next.ensures, ← c.self.view_is) (none_individual c.self.inside.mentions.keys c.args.after c.in_ok-least.least c.self.invariant c.in_ok-least.ensures.found
    (subst (λ (start : Bound Mention). IsLeastFrom c.self.inside.mentions.keys start None) c.start_of.ensures c.in_err-next.ensures))

pub returns : goal.returns
returns c = rw (← c.self.view_is) (some_individual c.self.inside.mentions.keys c.args.after c.in_ok-least.least c.in_ok-next.next c.self.invariant c.in_ok-least.ensures.found
    (subst (λ (start : Bound Mention). IsLeastFrom c.self.inside.mentions.keys start (Some c.in_ok-next.next)) c.start_of.ensures c.in_ok-next.ensures))
