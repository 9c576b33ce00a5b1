use Rattle.std.proofs.Common.{◌≡◌}
use Rattle.dl_base.specs.Axiom.{Statement}
use Rattle.dl_base.proofs.ExtendLemmas.{adds_err_as}
use Rattle.dl_base.proofs.ontology.Ontology.extend.Goals as goal

pub returns-in-Err : goal.returns-in-Err
returns-in-Err c =
    let parts : Statement = record { concepts = c.concepts.result.now; roles = c.roles.result.now; inclusions = c.inclusions.result.now } in
    let same : parts ≡ c.args.added.now = λ j. record { concepts = c.concepts.ensures.names j; roles = c.roles.ensures j; inclusions = c.inclusions.ensures j } in
    adds_err_as _ _ parts _ _ c.in-Err.error c.self.view_is same c.in-Err.ensures
