use Rattle.std.proofs.Common.{sym, ◌∙◌}
use Rattle.script_reader.proofs.LineRules.{axiom_fault, fact_fault, ask_fault, nothing_said, blank_text, comment_text}
use Rattle.script_reader.proofs.doc_line.read_text.Goals as goal
use Rattle.script_reader.proofs.doc_line.read_text.Goals.{then-is_empty-via-then-is_empty, then-is_empty-via-else-is_empty+then-next_is_byte}

pub returns-then-is_empty-clause-found : goal.returns-then-is_empty-clause-found
returns-then-is_empty-clause-found c = elim c.then-is_empty.branch [
  | then-is_empty-via-then-is_empty w ↦ blank_text c.args.text.now (sym c.is_empty.ensures ∙ w.if-is_empty.true)
  | then-is_empty-via-else-is_empty+then-next_is_byte w ↦ comment_text c.args.text.now (sym w.next_is_byte.ensures ∙ w.if-next_is_byte.true)
]

pub returns-in-Some-clause-fault : goal.returns-in-Some-clause-fault
returns-in-Some-clause-fault c = axiom_fault c.args.text.now c.in-Some.rest.now c.read_axiom_text.result c.in-Some.ensures c.read_axiom_text.ensures.fault

pub returns-in-Some-behind-clause-fault : goal.returns-in-Some-behind-clause-fault
returns-in-Some-behind-clause-fault c = fact_fault c.args.text.now c.in-Some-behind.rest.now c.read_fact.result c.in-Some-behind.ensures c.read_fact.ensures.fault

pub returns-in-Some-behind-2-clause-fault : goal.returns-in-Some-behind-2-clause-fault
returns-in-Some-behind-2-clause-fault c = ask_fault c.args.text.now c.in-Some-behind-2.rest.now c.read_ask.result c.in-Some-behind-2.ensures c.read_ask.ensures.fault

pub returns-in-None-clause-fault : goal.returns-in-None-clause-fault
returns-in-None-clause-fault c = nothing_said c.args.text.now (sym c.is_empty.ensures ∙ c.if-is_empty.false) (sym c.next_is_byte.ensures ∙ c.if-next_is_byte.false) c.in_default.ensures c.in_default-behind.ensures c.in-None.ensures
