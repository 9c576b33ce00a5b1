use Rattle.dl_base.proofs.ExtendLemmas.{interned_is}
use Rattle.dl_base.proofs.NumberedRowLemmas.{names_two, numbered_role}
use Rattle.base_store.proofs.Bytes.{two_longer}
use Rattle.base_store.proofs.loading.number.Goals as goal

pub returns-in_ok-intern-in-Concept-clause-names : goal.returns-in_ok-intern-in-Concept-clause-names
returns-in_ok-intern-in-Concept-clause-names c = rw c.in-Concept.is (interned_is _ _ _ _ c.in_ok-intern-in-Concept.ensures)

pub returns-in_ok-intern-in-Role-2-clause-names : goal.returns-in_ok-intern-in-Role-2-clause-names
returns-in_ok-intern-in-Role-2-clause-names c = rw c.in-Role.is (names_two _ _ _ _ _ _ _ c.in_ok-intern-in-Role.ensures c.in_ok-intern-in-Role-2.ensures)

pub returns-in_ok-intern-in-Role-2-clause-few : goal.returns-in_ok-intern-in-Role-2-clause-few
returns-in_ok-intern-in-Role-2-clause-few c = two_longer _ _ _ _ _ _ _ c.in_ok-intern-in-Role.ensures c.in_ok-intern-in-Role-2.ensures

pub returns-in_ok-intern-in-Role-2-clause-numbers : goal.returns-in_ok-intern-in-Role-2-clause-numbers
returns-in_ok-intern-in-Role-2-clause-numbers c = rw c.in-Role.is
    (λ o place. numbered_role o _ _ _ _ _ _ _ _ _ c.in_ok-intern-in-Role.ensures c.in_ok-intern-in-Role-2.ensures place)
