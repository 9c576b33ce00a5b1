use Rattle.std.proofs.Common.{subst}
use Rattle.kept_base.specs.Base.{base_of}
use Rattle.kept_base.specs.Committing.{IsMade}
use Rattle.kept_base.specs.declared.contents.Outcome.{Outcome}
use Rattle.kept_base.proofs.CommittedBases.{made_sound}
use Rattle.kept_base.proofs.base.Base.made.Goals as goal

pub invariant_of-result-in-Made : goal.invariant_of-result-in-Made
invariant_of-result-in-Made g c =
    let old = base_of c.self.inside.contents c.self.inside.store in
    let new = base_of c.make.new.self c.self.inside.store in
    let makes = subst (λ (o : Outcome). IsMade old c.args.session o new) c.in-Made.is c.in_ok-refusal.ensures.made in
    made_sound old new c.args.session c.in-Made.added c.in-Made.removed c.in-Made.changes c.self.invariant makes
