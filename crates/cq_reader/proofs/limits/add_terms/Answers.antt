use Rattle.std.proofs.Common.{[], ◌∷◌, ◌++◌}
use Rattle.cq_reader.proofs.LimitRules.{ok_more, distinct_two}
use Rattle.cq_reader.proofs.limits.add_terms.Goals as goal

pub returns-in-Concept : goal.returns-in-Concept
returns-in-Concept c = rw c.in-Concept.is c.add_term.ensures

pub returns-in_ok-add_term-in-Role : goal.returns-in_ok-add_term-in-Role
returns-in_ok-add_term-in-Role c =
    rw c.in-Role.is
    (ok_more c.add_term-in-Role-2.result
    (λ x e all a. distinct_two all c.add_term-in-Role-2.new.found c.in-Role.from c.in-Role.to (e (all ++ c.in-Role.from ∷ []) (c.in_ok-add_term-in-Role.ensures all a)))
    c.add_term-in-Role-2.ensures)
