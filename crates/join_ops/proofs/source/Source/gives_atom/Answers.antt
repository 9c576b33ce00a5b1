use Rattle.std.proofs.Common.{subst, sym}
use Rattle.std.proofs.lemmas.Bool.{OnTrue_at, OnTrue_from}
use Rattle.dl_base.specs.declared.concept.Role.{Role}
use Rattle.query_shape.specs.declared.layout.ShapeAtom.{ShapeAtom}
use Rattle.join_ops.specs.Levels.{HoldsByOffer, IsAlong}
use Rattle.join_ops.specs.declared.condition.Condition.TheVariants as condition
use Rattle.join_ops.proofs.LevelLemmas.{gives_back}
use Rattle.join_ops.proofs.source.Source.gives_atom.Goals as goal

pub returns-then-from-level : goal.returns-then-from-level
returns-then-from-level c = OnTrue_from _ _ (λ yes.
    let at = c.in-Role in
    let along = subst (λ (r : Role). IsAlong (record { role = r; from = at.to }) c.args.self) c.inverted.ensures (OnTrue_at yes c.is_along-then-from-level.ensures) in
    subst (λ (a : ShapeAtom). HoldsByOffer c.args.self c.args.level (condition.Atom a)) (sym at.is) (gives_back c.args.self at.role at.from at.to c.args.level along c.if-from-level.true))
