use Rattle.table_report.proofs.AddsLemmas.{gathers}
use Rattle.table_report.proofs.gather.gathered.Goals as goal

pub returns : goal.returns
returns c =
    gathers _ _ _ c.new-entries.result.items c.add_witnesses.new.entries.items c.add_concepts.new.entries.items c.add_roles.new.entries.items c.new-entries.ensures.items c.in_ok-add_witnesses.ensures c.in_ok-add_concepts.ensures
    c.in_ok-add_roles.ensures
