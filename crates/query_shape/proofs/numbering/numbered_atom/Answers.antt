use Rattle.query_shape.proofs.NumberingLemmas.{numbered_concept, numbered_role}
use Rattle.query_shape.proofs.numbering.numbered_atom.Goals as goal

pub returns-in_ok-term-in-Concept-clause-ok : goal.returns-in_ok-term-in-Concept-clause-ok
returns-in_ok-term-in-Concept-clause-ok c =
    rw c.in-Concept.is (numbered_concept c.args.o.now _ _ c.in-Concept.name c.in-Concept.term _ _ c.in_ok-concept-in-Concept.ensures.ok c.in_ok-term-in-Concept.ensures)

pub returns-in_ok-to-in-Role-clause-ok : goal.returns-in_ok-to-in-Role-clause-ok
returns-in_ok-to-in-Role-clause-ok c =
    let role = c.in_ok-role-in-Role.ensures.ok in
    rw c.in-Role.is (numbered_role c.args.o.now _ c.number-in-Role.new.terms _ c.in-Role.name c.in-Role.from c.in-Role.to c.in_ok-role-in-Role.role _ _ role.0 role.1
    c.in_ok-from-in-Role.ensures c.in_ok-to-in-Role.ensures)
