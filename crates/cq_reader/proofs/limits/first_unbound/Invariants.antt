use Rattle.std.proofs.Common.{◌≤◌, All, Contains, length, take}
use Rattle.dl_base.specs.declared.query.Term.TheVariants.{Var}
use Rattle.cq_reader.proofs.limits.first_unbound.Given as goal

abbrev pub invariant-loop-place : goal.invariant-loop-place
invariant-loop-place l = (l.place ≤ length l.answers) × All (λ v. Contains l.terms (Var v)) (take l.place l.answers)
