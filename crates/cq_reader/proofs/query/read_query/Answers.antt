use Rattle.std.proofs.Common.{refl}
use Rattle.dl_base.specs.Query.{Question}
use Rattle.grammar.proofs.Rules.{found, fault}
use Rattle.cq_reader.specs.QueryReading.{query_at}
use Rattle.cq_reader.proofs.QueryRules.{reads_query}
use Rattle.cq_reader.proofs.LimitRules.{means_of, some_atoms, passes, refuses}
use Rattle.cq_reader.proofs.VariableRules.{bare_variables}
use Rattle.cq_reader.proofs.query.read_query.Goals as goal

pub fitting-requires : goal.fitting-requires
fitting-requires c =
    let q : Question = c.in-Ok.draft in
    let is = (found q reads_query (c.in-Ok.ensures (query_at c.args.text.now) c.read_listed.ensures)).is in
    record { some = some_atoms c.args.text.now q is; variables = bare_variables c.args.text.now q is }

pub overflow_sub-result : goal.overflow_sub-result
overflow_sub-result c =
    rw c.in-Err-Fault.field-0-is (fault c.in-Err-Fault.left reads_query (rw c.in-Err-Fault.field-0-is at (c.in-Err-Fault.ensures (query_at c.args.text.now) c.read_listed.ensures))).within

pub returns-in-Ok-clause-found : goal.returns-in-Ok-clause-found
returns-in-Ok-clause-found c =
    let q : Question = c.in-Ok.draft in
    passes c.args.text.now q c.fitting.result (means_of (found q reads_query (c.in-Ok.ensures (query_at c.args.text.now) c.read_listed.ensures))) c.fitting.ensures.found

pub returns-in-Ok-clause-refused : goal.returns-in-Ok-clause-refused
returns-in-Ok-clause-refused c =
    let q : Question = c.in-Ok.draft in
    refuses c.args.text.now q c.fitting.result (means_of (found q reads_query (c.in-Ok.ensures (query_at c.args.text.now) c.read_listed.ensures))) c.fitting.ensures.refused

pub returns-in-Err-Fault-clause-refused : goal.returns-in-Err-Fault-clause-refused
returns-in-Err-Fault-clause-refused c =
    rw c.in-Err-Fault.field-0-is (_, refl, (fault c.in-Err-Fault.left reads_query (rw c.in-Err-Fault.field-0-is at (c.in-Err-Fault.ensures (query_at c.args.text.now) c.read_listed.ensures))).fault)
