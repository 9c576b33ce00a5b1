use Rattle.std.proofs.Common.{refl}
use Rattle.witness_book.specs.Witnesses.{generation_of}
use Rattle.document_run.proofs.reply.certain_answers.Goals as goal

pub returns : goal.returns
returns c = λ rows within query are. (
  c.in_ok-keys.keys,
  c.in_ok-keys.ensures c.args.ontology.now rows (generation_of c.args.tables.now.book) c.args.asked.now within query c.in_ok-bound.ensures are.tables,
  refl,
)
