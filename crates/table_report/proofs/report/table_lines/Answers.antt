use Rattle.std.proofs.Common.{List, IfOk, map, ◌≡◌, subst}
use Rattle.table_report.specs.Gathered.{entry_of}
use Rattle.table_report.specs.TableLines.{entry_text}
use Rattle.table_report.specs.declared.entry.EntryRef.{EntryRef}
use Rattle.table_report.proofs.EntryLemmas.{table_lines}
use Rattle.table_report.proofs.report.table_lines.Goals as goal

pub returns : goal.returns
returns c = λ rows are.
    table_lines c.args.ontology.now c.args.individuals.now rows c.args.tables.now are c.in_ok-gathered.field-0.items c.in_order-entries.result.items c.lines.result c.in_ok-gathered.ensures c.in_order-entries.ensures.rising
    c.in_order-entries.ensures.same
    (subst (λ (entries : List EntryRef). IfOk c.lines.result (λ lines. lines ≡ map entry_text (map entry_of entries))) c.as_slice.ensures.value c.lines.ensures)
