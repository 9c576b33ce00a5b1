use Rattle.std.proofs.Common.{◌≡◌}
use Rattle.dl_base.specs.declared.query.Term.TheVariants as term
use Rattle.answer_core.proofs.TermLemmas.{AllBefore}
use Rattle.answer_core.proofs.bound.variable_number.Given as goal

abbrev pub invariant-loop-number : goal.invariant-loop-number
invariant-loop-number l = AllBefore (λ t. t ≡ term.Var l.var → ⊥) l.shape.terms l.number
