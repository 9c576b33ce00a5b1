use Rattle.std.proofs.Common.{◌≡◌, ◌↔◌, inl, inr, true, false, Contains, IsTrue, subst, sym, ◌∙◌}
use Rattle.completion.proofs.KeptLemmas.{edge_kept}
use Rattle.completion.specs.TableRows.{PointsHere, table_of}
use Rattle.dl_base.specs.Tables.{RoleRow}
use Rattle.dl_base.specs.declared.concept.Role.{Role}
use Rattle.completion.proofs.tables.TableRowsTables.has_role.Goals.{then-has_edge, else-has_edge}
use Rattle.completion.proofs.tables.TableRowsTables.has_role.Goals as goal

pub returns-then-points : goal.returns-then-points
returns-then-points c =
    let k = c.args.self.now in
    let direct : Role = record { name = c.args.role; inverse = false } in
    let kept = edge_kept k direct c.args.from c.args.to in
    let row : Contains (table_of k) (RoleRow c.args.role c.args.from c.args.to) = elim c.if-has_edge.branch [
      | then-has_edge w ↦ kept.1 (inl (c.has_edge.ensures.0 w.if-has_edge.true))
      | else-has_edge w ↦ kept.1 (inr (inl (w.points.ensures.0 (sym w.value-is ∙ c.if-points.true))))
    ] in
    (λ yes. row, λ there. c.if-points.true)

pub returns-else-points : goal.returns-else-points
returns-else-points c =
    let k = c.args.self.now in
    let direct : Role = record { name = c.args.role; inverse = false } in
    let kept = edge_kept k direct c.args.from c.args.to in
    let says = subst (λ (r : Role). IsTrue c.points-else-points.result ↔ PointsHere k r c.args.to c.args.from) c.inverted.ensures c.points-else-points.ensures in
    let off : c.if-has_edge.value ≡ true → IsTrue c.points-else-points.result = λ on. absurd (let no : c.if-has_edge.value ≡ false = c.if-points.false in cc) in (
      λ yes. kept.1 (inr (inr (says.0 yes))),
      λ there. elim (kept.0 there) [
        | inl row ↦ elim c.if-has_edge.branch [
          | then-has_edge w ↦ off (w.value-is ∙ w.if-has_edge.true)
          | else-has_edge w ↦ absurd (let on : c.has_edge.result ≡ true = c.has_edge.ensures.1 row in let no : c.has_edge.result ≡ false = w.if-has_edge.false in cc)
        ]
        | inr rest ↦ elim rest [
          | inl forth ↦ elim c.if-has_edge.branch [
            | then-has_edge w ↦ off (w.value-is ∙ w.if-has_edge.true)
            | else-has_edge w ↦ off (w.value-is ∙ w.points.ensures.1 forth)
          ]
          | inr back ↦ says.1 back
        ]
      ],
    )
