-- Names that an ontology has, and replies by what was found.
use Rattle.std.proofs.Common.{ℕ, List, All, Some, None}
use Rattle.answer_core.specs.Binding.{BoundQuery, IsBoundTo}
use Rattle.clash_report.specs.Report.{IsReported}
use Rattle.dl_base.specs.Answers.{AreAnswers}
use Rattle.dl_base.specs.Ontology.{Terminology}
use Rattle.dl_base.specs.Query.{Question}
use Rattle.dl_base.specs.declared.clash.Clash.{Clash}
use Rattle.dl_base.specs.declared.row.NamedRow.{NamedRow}
use Rattle.query_shape.proofs.NumberingLemmas.{shape_known}
use Rattle.query_shape.specs.ShapeFault.{IsKnown}
use Rattle.reply_text.specs.declared.reply.Reply.TheVariants as reply
use Rattle.base_reasoner.specs.Questions.{IsReplyToCheck, IsReplyToQuery}

-- ---- names that the ontology has

-- the ontology knows the names of a query that is bound to it
pub bound_known : (o : Terminology) (q : Question) (b : BoundQuery) → IsBoundTo o q b → All (IsKnown o) q.atoms
bound_known o q b is = shape_known o q b.shape is.shape

-- ---- replies

pub check_consistent : (o : Terminology) (rows : List NamedRow) → IsReported o rows None → IsReplyToCheck o rows reply.Consistent
check_consistent o rows none = IsReplyToCheck.consistent none

pub check_clash : (o : Terminology) (rows : List NamedRow) (c : Clash) → IsReported o rows (Some c) → IsReplyToCheck o rows (reply.Inconsistent c)
check_clash o rows c (place, first, named) = IsReplyToCheck.clashes place first named

pub query_clash : (o : Terminology) (rows : List NamedRow) (q : Question) (c : Clash) → All (IsKnown o) q.atoms → IsReported o rows (Some c) → IsReplyToQuery o rows q (reply.Inconsistent c)
query_clash o rows q c known (place, first, named) = IsReplyToQuery.clashes place known first named

pub query_answers : (o : Terminology) (rows : List NamedRow) (q : Question) (keys : List (List (List ℕ))) → All (IsKnown o) q.atoms → IsReported o rows None → AreAnswers o rows q keys
    → IsReplyToQuery o rows q (reply.Answers keys)
query_answers o rows q keys known none answers = IsReplyToQuery.answers known none answers
