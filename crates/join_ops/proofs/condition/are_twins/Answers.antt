use Rattle.std.proofs.Common.{◌++◌, [], ◌∷◌, sym, ◌∙◌, arith}
use Rattle.join_ops.proofs.LevelLemmas.{length_more, twins_apart}
use Rattle.join_ops.proofs.condition.are_twins.Goals as goal

pub returns-then-not-is_witness_of : goal.returns-then-not-is_witness_of
returns-then-not-is_witness_of c =
    let elements = c.args.front.now ++ c.args.e ∷ [] in
    let long = length_more c.args.front.now c.args.e in (
      λ _. twins_apart c.args.twins elements c.element.result (omega (arith, c.requires.parent, long)) (omega (arith, c.requires.twin, long)) c.element.ensures
          (λ witness. let both = sym c.if-not-is_witness_of.true ∙ c.is_witness_of.ensures.1 witness in cc),
      λ _. let apart = c.if-not-is_witness_of.true in cc,
    )
