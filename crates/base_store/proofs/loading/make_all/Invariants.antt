use Rattle.base_store.proofs.Following.{AreMade}
use Rattle.base_store.proofs.loading.make_all.Given as goal

abbrev pub invariant-loop-change : goal.invariant-loop-change
invariant-loop-change l = AreMade l.ontology l.fn.changes l.change-iterator l.fn.individuals l.fn.rows l.individuals l.rows
