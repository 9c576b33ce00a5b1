use Rattle.std.proofs.Common.{◌≡◌, take, slice_get, Some}
use Rattle.std.specs.List.{AllZip}
use Rattle.dl_base.specs.declared.query.Term.TheVariants as term
use Rattle.answer_core.proofs.bound.variable_numbers.Given as goal

abbrev pub invariant-loop-var : goal.invariant-loop-var
invariant-loop-var l = AllZip (λ v n. slice_get l.shape.terms n ≡ Some (term.Var v)) (take l.var-index l.vars) l.numbers
