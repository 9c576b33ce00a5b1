-- What is replied to a query and to `check`.
use Rattle.std.specs.Prelude.{ℕ, List, All, None, Some}
use Rattle.dl_base.specs.Answers.{AreAnswers}
use Rattle.dl_base.specs.Clashes.{IsFirstClash, Place}
use Rattle.dl_base.specs.Ontology.{Terminology}
use Rattle.dl_base.specs.Query.{Question}
use Rattle.dl_base.specs.declared.clash.Clash.{Clash}
use Rattle.dl_base.specs.declared.row.NamedRow.{NamedRow}
use Rattle.clash_report.specs.Report.{IsNamedClash}
use Rattle.query_shape.specs.ShapeFault.{IsKnown}
use Rattle.reply_text.specs.declared.reply.Refusal.{Refusal}
use Rattle.reply_text.specs.declared.reply.Reply.{Reply}
use Rattle.reply_text.specs.declared.reply.Reply.TheVariants as reply
use Rattle.base_engine.specs.Refusals.{LacksNameIn}

-- The first atom whose name the ontology lacks is told, or the first clash, or the answers.
pub data IsReplyToQuery (o : Terminology) (rows : List NamedRow) (q : Question) : Reply → Type 0 where
  lacks : {e : Refusal} → LacksNameIn o q e → IsReplyToQuery o rows q (reply.Error e)
  clashes : {c : Clash} (place : Place) → All (IsKnown o) q.atoms → IsFirstClash o rows (Some place) → IsNamedClash o place c → IsReplyToQuery o rows q (reply.Inconsistent c)
  answers : {keys : List (List (List ℕ))} → All (IsKnown o) q.atoms → IsFirstClash o rows None → AreAnswers o rows q keys → IsReplyToQuery o rows q (reply.Answers keys)

-- The first clash is told, or that there is none.
pub data IsReplyToCheck (o : Terminology) (rows : List NamedRow) : Reply → Type 0 where
  consistent : IsFirstClash o rows None → IsReplyToCheck o rows reply.Consistent
  clashes : {c : Clash} (place : Place) → IsFirstClash o rows (Some place) → IsNamedClash o place c → IsReplyToCheck o rows (reply.Inconsistent c)
