use Rattle.std.proofs.Common.{◌↔◌, Contains, sym, subst}
use Rattle.completion.proofs.GatherLemmas.{are_sources, live_placed, table_rows_are}
use Rattle.completion.specs.Edges.{IsTableRow}
use Rattle.completion.specs.TableRows.{KeptRows, table_of}
use Rattle.dl_base.specs.Tables.{TableRow}
use Rattle.witness_book.specs.Witnesses.{generation_of}
use Rattle.completion.proofs.fill.table_rows.Goals as goal

pub concept_lists-requires-clause-live : goal.concept_lists-requires-clause-live
concept_lists-requires-clause-live c = λ r live.
    live_placed c.args.rules.now c.args.rows.now c.requires.graph.within c.requires.within c.args.individuals.now.entries c.requires.individuals c.args.book.now c.requires.live ((c.requires.live r).0 live)

pub lists_of_names-requires-clause-live : goal.lists_of_names-requires-clause-live
lists_of_names-requires-clause-live c = λ r live.
    live_placed c.args.rules.now c.args.rows.now c.requires.graph.within c.requires.within c.args.individuals.now.entries c.requires.individuals c.args.book.now c.requires.live ((c.requires.live r).0 live)

pub new-requires-2 : goal.new-requires-2
new-requires-2 c =
    are_sources c.args.rules.now c.args.rows.now c.requires.graph.within c.requires.within c.args.individuals.now.entries c.requires.individuals c.args.book.now c.requires.live
    (record { concepts = c.in_ok-concepts.concepts.items; roles = c.in_ok-roles.roles.items; edges = c.in_ok-edges.edges }) c.in_ok-concepts.ensures c.in_ok-roles.ensures
    (λ x. (λ there. (c.in_ok-role_rows.ensures x).0 ((c.in_ok-edges.ensures x).0 there), λ row. (c.in_ok-edges.ensures x).1 ((c.in_ok-role_rows.ensures x).1 row)))

pub returns : goal.returns
returns c =
    subst (λ (k : KeptRows). (row : TableRow) → Contains (table_of k) row ↔ IsTableRow c.args.rules.now c.args.rows.now (generation_of c.args.book.now) row) (sym c.new-2.ensures)
    (table_rows_are c.args.rules.now c.args.rows.now c.requires.graph.within c.requires.within c.args.individuals.now.entries c.requires.individuals c.args.book.now c.requires.live
    (record { concepts = c.in_ok-concepts.concepts.items; roles = c.in_ok-roles.roles.items; edges = c.in_ok-edges.edges }) c.in_ok-concepts.ensures c.in_ok-roles.ensures
    (λ x. (λ there. (c.in_ok-role_rows.ensures x).0 ((c.in_ok-edges.ensures x).0 there), λ row. (c.in_ok-edges.ensures x).1 ((c.in_ok-role_rows.ensures x).1 row))))
