use Rattle.kept_base.proofs.DecidedRefusals.{has_role, lacks_concept, lacks_role}
use Rattle.kept_base.proofs.commands.unknown_name.Goals as goal

pub returns-in_ok-copy-in-None : goal.returns-in_ok-copy-in-None
returns-in_ok-copy-in-None c = lacks_concept c.args.ontology.now c.args.row.now c.concepts.result.now c.bytes.result.now c.in-Concept.concept c.in-Concept.individual c.in_ok-copy-in-None.field-0
    c.in-Concept.is c.concepts.ensures.names c.bytes.ensures.bytes c.in-None.ensures c.in_ok-copy-in-None.ensures

pub returns-in-Some-find : goal.returns-in-Some-find
returns-in-Some-find c = has_role c.args.ontology.now c.args.row.now c.roles.result.now c.bytes-in-Role.result.now c.in-Role.role c.in-Role.from c.in-Role.to c.in-Some-find.field-0
    c.in-Role.is c.roles.ensures.names c.bytes-in-Role.ensures.bytes c.in-Some-find.ensures

pub returns-in_ok-copy-in-None-find : goal.returns-in_ok-copy-in-None-find
returns-in_ok-copy-in-None-find c = lacks_role c.args.ontology.now c.args.row.now c.roles.result.now c.bytes-in-Role.result.now c.in-Role.role c.in-Role.from c.in-Role.to c.in_ok-copy-in-None-find.field-0
    c.in-Role.is c.roles.ensures.names c.bytes-in-Role.ensures.bytes c.in-None-find.ensures c.in_ok-copy-in-None-find.ensures
