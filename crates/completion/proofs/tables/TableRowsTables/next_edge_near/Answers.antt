use Rattle.std.proofs.Common.{◌⊎◌, Contains, Some, subst}
use Rattle.completion.proofs.KeptLemmas.{IsKeptEdge, edge_kept, row_first}
use Rattle.completion.proofs.LeastLemmas.{least_as, least_of_both, least_of_first, least_of_second}
use Rattle.completion.specs.TableRows.{IsRowFrom, PointsHere, table_of}
use Rattle.dl_base.specs.Derivation.{inverse}
use Rattle.dl_base.specs.Tables.{IsLeastAbove, edge_row}
use Rattle.dl_base.specs.declared.concept.Role.{Role}
use Rattle.dl_base.specs.declared.element.Elem.{Elem}
use Rattle.completion.proofs.tables.TableRowsTables.next_edge_near.Goals as goal

pub returns-in-Some : goal.returns-in-Some
returns-in-Some c =
    let k = c.args.self.now in
    let r = c.args.role in
    let from = c.args.from in
    let target = c.in-Some.target in
    let all = least_of_first (IsRowFrom k r from) (λ (e : Elem). PointsHere k r from e ⊎ PointsHere k (inverse r) e from) c.args.after target c.in-Some.ensures (row_first k r from target c.in-Some.ensures.0) in
    least_as (IsKeptEdge k r from) (λ (e : Elem). Contains (table_of k) (edge_row r from e)) c.args.after (Some target) (λ e kept. (edge_kept k r from e).1 kept) (λ e row. (edge_kept k r from e).0 row) all

pub returns-in-None : goal.returns-in-None
returns-in-None c =
    let k = c.args.self.now in
    let r = c.args.role in
    let from = c.args.from in
    let back = subst (λ (s : Role). IsLeastAbove (λ (e : Elem). PointsHere k s e from) c.args.after c.next_pointing-pointing.result) c.inverted.ensures c.next_pointing-pointing.ensures in
    let both = least_of_both (PointsHere k r from) (λ (e : Elem). PointsHere k (inverse r) e from) c.args.after c.next_witness-witness.result c.next_pointing-pointing.result c.lesser.result c.next_witness-witness.ensures back c.lesser.ensures in
    let all = least_of_second (IsRowFrom k r from) (λ (e : Elem). PointsHere k r from e ⊎ PointsHere k (inverse r) e from) c.args.after c.lesser.result c.in-None.ensures both in
    least_as (IsKeptEdge k r from) (λ (e : Elem). Contains (table_of k) (edge_row r from e)) c.args.after c.lesser.result (λ e kept. (edge_kept k r from e).1 kept) (λ e row. (edge_kept k r from e).0 row) all
