use Rattle.kept_base.proofs.LoadedBases.{reasoner_of}
use Rattle.kept_base.proofs.opening.counted.Goals as goal

pub returns : goal.returns
returns g c = reasoner_of c.args.ontology c.args.rows.now c.new.result c.new.ensures.ontology c.new.ensures.tables c.new.ensures.first c.new.ensures.named
