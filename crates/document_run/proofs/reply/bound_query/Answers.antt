use Rattle.document_run.proofs.AnswerLemmas.{only_memory}
use Rattle.document_run.proofs.reply.bound_query.Goals as goal

pub want_of_memory-requires : goal.want_of_memory-requires
want_of_memory-requires c = only_memory c.args.ontology.now c.args.asked.now c.in-Err.error c.requires c.in-Err.ensures.err
