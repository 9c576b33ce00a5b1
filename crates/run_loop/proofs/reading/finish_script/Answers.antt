use Rattle.std.proofs.Common.{inl, inr, subst, sym}
use Rattle.run_loop.specs.Run.{IsEndingOf}
use Rattle.run_loop.specs.declared.ending.Ending.{Ending}
use Rattle.run_loop.proofs.reading.finish_script.Goals.{in-Ok, in-Err}
use Rattle.run_loop.proofs.reading.finish_script.Goals as goal

pub returns-clause-takes : goal.returns-clause-takes
returns-clause-takes g c = λ start a read few t. elim c.match-finish.branch [
  | in-Ok w ↦ inl (w.result-is, w.in-Ok.ensures.takes start a read few t)
  | in-Err w ↦ inr (w.in-Err.fault, subst (λ (e : Ending). IsEndingOf e w.in-Err.fault) (sym w.result-is) w.ending.ensures.of, w.in-Err.ensures.takes start a read few t)
]
