-- What a base replies to a query.
use Rattle.std.specs.Prelude.{ℕ, List, Some, None}
use Rattle.dl_base.specs.Ontology.{Terminology}
use Rattle.dl_base.specs.Query.{Question}
use Rattle.dl_base.specs.Answers.{AreAnswers}
use Rattle.dl_base.specs.Clashes.{Place, IsFirstClash}
use Rattle.dl_base.specs.declared.row.NamedRow.{NamedRow}

-- keys, or a clash in place of them
pub data Replied : Type 0 where
  Answers : List (List (List ℕ)) → Replied
  Inconsistent : Place → Replied

-- the first clash where there is one, else the answers
abbrev pub IsReply : Terminology → List NamedRow → Question → Replied → Type 0
IsReply o rows q (Answers keys) = IsFirstClash o rows None × AreAnswers o rows q keys
IsReply o rows q (Inconsistent c) = IsFirstClash o rows (Some c)
