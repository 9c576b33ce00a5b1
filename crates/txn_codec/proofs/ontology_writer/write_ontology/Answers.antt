use Rattle.std.proofs.Common.{All, List, ℕ, subst}
use Rattle.dl_base.specs.Names.{IsName}
use Rattle.txn_codec.proofs.SpelledOntology.{spelled_ontology}
use Rattle.txn_codec.proofs.ontology_writer.write_ontology.Goals as goal

pub returns-clause-payload : goal.returns-clause-payload
returns-clause-payload c =
    spelled_ontology c.args.o.now c.concepts.ensures.within
    (subst (λ (l : List (List ℕ)). All IsName l) c.concepts.ensures.names c.put_names.ensures.names)
    (subst (λ (l : List (List ℕ)). All IsName l) c.roles.ensures.names c.put_names-2.ensures.names)
