use Rattle.std.proofs.Common.{subst, sym}
use Rattle.std.proofs.lemmas.Bool.{OnTrue_at, OnTrue_from}
use Rattle.join_ops.specs.Levels.{HoldsByOffer}
use Rattle.join_ops.proofs.LevelLemmas.{gives_twins}
use Rattle.join_ops.proofs.source.Source.gives.Goals as goal

pub returns-then-twins-level : goal.returns-then-twins-level
returns-then-twins-level c = OnTrue_from _ _ (λ yes.
    subst (HoldsByOffer c.args.self c.args.level) (sym c.in-Twins.is) (gives_twins c.args.self c.in-Twins.twins c.args.level (OnTrue_at yes c.is_twin.ensures) c.if-twins-level.true))
