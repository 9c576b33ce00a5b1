use Rattle.std.proofs.Common.{◌≡◌, ◌<◌, length, arith}
use Rattle.completion.proofs.AtLemmas.{points_placed}
use Rattle.completion.proofs.BookLemmas.{book_of, live_after, pointed_is, set_again}
use Rattle.completion.proofs.CompletedLemmas.{named_completion}
use Rattle.completion.specs.TableRows.{table_of}
use Rattle.dl_base.specs.Sets.{HasRole}
use Rattle.dl_base.specs.declared.concept.Role.{Role}
use Rattle.role_graph.specs.Graph.{HasNode}
use Rattle.completion.proofs.completed.renewed.Goals as goal

pub set_live-requires-clause-within : goal.set_live-requires-clause-within
set_live-requires-clause-within g c = λ r has.
    let o = c.args.rules.now in
    let each : length c.args.graph.now.closed ≡ length o.roles = c.requires.graph.closures.each in
    let inside = λ (s : Role) (there : HasRole c.at_individuals.new.pointed s).
    let points = pointed_is o c.args.rows.now c.new-pointed.result c.at_individuals.new.pointed c.live-live.result c.new-pointed.ensures c.in_ok-individuals.ensures.pointed
    (c.live-live.ensures.reached o c.requires.graph) s there in
    let below : s.name < length o.roles = points_placed o c.args.rows.now c.requires.graph.within c.requires.within points.0 s points.2 in
    let node : HasNode c.args.graph.now s = omega (arith, below, each) in
    node in
    let below : r.name < length c.args.graph.now.closed = c.live-live.ensures.inside o c.requires.graph inside r has in
    let roles = c.requires.roles in
    omega (arith, below, roles, each)

pub table_rows-requires-clause-live : goal.table_rows-requires-clause-live
table_rows-requires-clause-live g c =
    live_after c.args.rules.now c.args.rows.now c.new-pointed.result c.at_individuals.new.pointed c.live-live.result c.new-pointed.ensures c.in_ok-individuals.ensures.pointed
    (c.live-live.ensures.reached c.args.rules.now c.requires.graph) c.args.before c.set_live.new.self c.set_live.ensures

pub returns-clause-completion : goal.returns-clause-completion
returns-clause-completion g c = record {
  individuals = c.in_ok-individuals.ensures.each;
  book = book_of c.args.rules.now c.args.rows.now c.args.before c.set_live.new.self
      (live_after c.args.rules.now c.args.rows.now c.new-pointed.result c.at_individuals.new.pointed c.live-live.result c.new-pointed.ensures c.in_ok-individuals.ensures.pointed
      (c.live-live.ensures.reached c.args.rules.now c.requires.graph) c.args.before c.set_live.new.self c.set_live.ensures)
      (set_again c.args.before c.live-live.result c.set_live.new.self c.set_live.ensures) c.requires.roles;
  table = c.in_ok-table.ensures;
}

pub returns-clause-book : goal.returns-clause-book
returns-clause-book g c = set_again c.args.before c.live-live.result c.set_live.new.self c.set_live.ensures

pub returns-clause-named : goal.returns-clause-named
returns-clause-named g c = λ names these stand. named_completion c.args.rules.now names c.args.rows.now these c.requires.graph.within stand
    (record { individuals = c.in_ok-individuals.individuals.entries; book = c.set_live.new.self; rows = table_of c.in_ok-table.table }) (returns-clause-completion g c)
