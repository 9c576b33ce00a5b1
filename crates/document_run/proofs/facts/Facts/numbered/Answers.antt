use Rattle.dl_base.proofs.ExtendLemmas.{interned_is}
use Rattle.dl_base.proofs.NumberedRowLemmas.{names_two, numbered_role}
use Rattle.document_run.proofs.facts.Facts.numbered.Goals as goal

pub returns-in_ok-intern-in-Concept-clause-names : goal.returns-in_ok-intern-in-Concept-clause-names
returns-in_ok-intern-in-Concept-clause-names c = rw c.in-Concept.is (interned_is _ _ _ _ c.in_ok-intern-in-Concept.ensures.ok)

pub returns-in_ok-intern-in-Role-2-clause-names : goal.returns-in_ok-intern-in-Role-2-clause-names
returns-in_ok-intern-in-Role-2-clause-names c = rw c.in-Role.is (names_two _ _ _ _ _ _ _ c.in_ok-intern-in-Role.ensures.ok c.in_ok-intern-in-Role-2.ensures.ok)

pub returns-in_ok-intern-in-Role-2-clause-numbers : goal.returns-in_ok-intern-in-Role-2-clause-numbers
returns-in_ok-intern-in-Role-2-clause-numbers c = rw c.in-Role.is
    (λ o place. numbered_role o _ _ _ _ _ _ _ _ _ c.in_ok-intern-in-Role.ensures.ok c.in_ok-intern-in-Role-2.ensures.ok place)
