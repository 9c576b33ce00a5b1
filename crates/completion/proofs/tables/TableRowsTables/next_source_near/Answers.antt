use Rattle.std.proofs.Common.{Contains}
use Rattle.completion.proofs.LeastLemmas.{least_as, least_of_none}
use Rattle.completion.specs.TableRows.{table_of}
use Rattle.dl_base.specs.Tables.{HasEdge}
use Rattle.completion.proofs.tables.TableRowsTables.next_source_near.Goals as goal

pub returns-in-Some : goal.returns-in-Some
returns-in-Some c =
    least_as (Contains c.in-Some.sources.now) (HasEdge (table_of c.args.self.now) c.args.role) c.args.after c.next_near.result
    (λ e there. (c.in-Some.ensures e).1 there) (λ e has. (c.in-Some.ensures e).0 has) c.next_near.ensures

pub returns-in-None : goal.returns-in-None
returns-in-None c = least_of_none (HasEdge (table_of c.args.self.now) c.args.role) c.args.after c.in-None.ensures
