-- The texts of replies.
use Rattle.std.specs.Prelude.{ℕ, List, [], ◌∷◌, ◌++◌, length, codes, true, false, Bool, map}
use Rattle.std.specs.List.{flat_map}
use Rattle.std.specs.Fmt.{decimal}
use Rattle.dl_base.specs.declared.axiom.NamedRole.{NamedRole}
use Rattle.dl_base.specs.declared.clash.Clash.{Clash}
use Rattle.gen_arena.specs.declared.handle.Handle.{Handle}
use Rattle.axiom_reader.specs.declared.block.BlockCause.{BlockCause}
use Rattle.axiom_reader.specs.declared.block.BlockCause.TheVariants as cause
use Rattle.reply_text.specs.declared.reply.Refusal.{Refusal}
use Rattle.reply_text.specs.declared.reply.Refusal.TheVariants as refusal
use Rattle.reply_text.specs.declared.reply.Reply.{Reply}
use Rattle.reply_text.specs.declared.reply.Reply.TheVariants as reply

-- words, each behind a space
abbrev pub behind_spaces : List (List ℕ) → List ℕ
behind_spaces words = flat_map (λ word. 32 ∷ word) words

-- a word, others each behind a space, and the line's end
abbrev pub spaced_line : List ℕ → List (List ℕ) → List ℕ
spaced_line first others = first ++ behind_spaces others ++ 10 ∷ []

-- ---- answers

-- `answer`, and each name of the key
abbrev pub key_line : List (List ℕ) → List ℕ
key_line key = spaced_line (codes "answer") key

-- `end`, and the number of lines before it
abbrev pub end_count_line : ℕ → List ℕ
end_count_line count = spaced_line (codes "end") (decimal count ∷ [])

-- a line for each key, and one with their number
abbrev pub answers_text : List (List (List ℕ)) → List ℕ
answers_text keys = flat_map key_line keys ++ end_count_line (length keys)

-- ---- tables

-- a line with its end
abbrev pub ended_line : List ℕ → List ℕ
ended_line line = line ++ 10 ∷ []

-- the lines, and one with their number
abbrev pub table_text : List (List ℕ) → List ℕ
table_text lines = flat_map ended_line lines ++ end_count_line (length lines)

-- ---- handles

-- the number of the slot and the generation, with a point between them
abbrev pub handle_text : Handle → List ℕ
handle_text h = decimal h.slot ++ codes "." ++ decimal h.generation

abbrev pub prepared_text : Handle → List ℕ
prepared_text h = spaced_line (codes "prepared") (handle_text h ∷ [])

-- ---- clashes

-- the role's name, or `Inv(name)`
abbrev pub role_text : NamedRole → List ℕ
role_text r = by r.inverse
  where
    by : Bool → List ℕ
    by false = r.name
    by true = codes "Inv(" ++ r.name ++ codes ")"

-- `via` and each role, where there is one
abbrev pub path_words : List NamedRole → List (List ℕ)
path_words [] = []
path_words (r ∷ rs) = codes "via" ∷ map role_text (r ∷ rs)

abbrev pub clash_text : Clash → List ℕ
clash_text c = spaced_line (codes "inconsistent") (decimal c.inclusion ∷ c.name ∷ path_words c.path)

-- ---- refusals

abbrev pub error_number : Refusal → ℕ
error_number (refusal.Syntax place) = 1
error_number refusal.LineTooLong = 2
error_number refusal.NoOntology = 3
error_number refusal.OntologyThere = 4
error_number (refusal.Block e) = 5
error_number (refusal.UnknownConcept name) = 6
error_number (refusal.UnknownRole name) = 7
error_number refusal.NotOpen = 8
error_number refusal.AlreadyOpen = 9
error_number refusal.Pending = 10
error_number refusal.Crowded = 11
error_number refusal.LogFull = 12
error_number refusal.NeverGiven = 13
error_number (refusal.Dropped last) = 14
error_number refusal.NoSlot = 15
error_number refusal.QueryTooLarge = 16
error_number (refusal.UnsafeVariable v) = 17

abbrev pub cause_word : BlockCause → List ℕ
cause_word cause.Syntax = codes "syntax"
cause_word cause.Limit = codes "limit"
cause_word cause.Length = codes "length"

-- what stands behind the number
abbrev pub error_words : Refusal → List (List ℕ)
error_words (refusal.Syntax place) = decimal place ∷ []
error_words refusal.LineTooLong = []
error_words refusal.NoOntology = []
error_words refusal.OntologyThere = []
error_words (refusal.Block e) = decimal e.line ∷ cause_word e.cause ∷ []
error_words (refusal.UnknownConcept name) = name ∷ []
error_words (refusal.UnknownRole name) = name ∷ []
error_words refusal.NotOpen = []
error_words refusal.AlreadyOpen = []
error_words refusal.Pending = []
error_words refusal.Crowded = []
error_words refusal.LogFull = []
error_words refusal.NeverGiven = []
error_words (refusal.Dropped last) = decimal last ∷ []
error_words refusal.NoSlot = []
error_words refusal.QueryTooLarge = []
error_words (refusal.UnsafeVariable v) = (63 ∷ v) ∷ []

abbrev pub error_text : Refusal → List ℕ
error_text e = spaced_line (codes "error") (decimal (error_number e) ∷ error_words e)

-- ---- replies

abbrev pub text_of_reply : Reply → List ℕ
text_of_reply reply.Done = codes "ok\n"
text_of_reply (reply.Committed number added removed) = spaced_line (codes "ok") (decimal number ∷ decimal added ∷ decimal removed ∷ [])
text_of_reply (reply.Loaded inclusions) = spaced_line (codes "ok ontology") (decimal inclusions ∷ [])
text_of_reply (reply.Reopened transactions) = spaced_line (codes "ok reopen") (decimal transactions ∷ [])
text_of_reply (reply.Prepared h) = prepared_text h
text_of_reply (reply.Answers keys) = answers_text keys
text_of_reply reply.Consistent = codes "consistent\n"
text_of_reply (reply.Inconsistent c) = clash_text c
text_of_reply (reply.Table lines) = table_text lines
text_of_reply (reply.Error e) = error_text e

-- a reply that tells that something was done
abbrev pub IsAcknowledgement : Reply → Type 0
IsAcknowledgement reply.Done = Unit {0}
IsAcknowledgement (reply.Committed number added removed) = Unit {0}
IsAcknowledgement (reply.Loaded inclusions) = Unit {0}
IsAcknowledgement (reply.Reopened transactions) = Unit {0}
IsAcknowledgement (reply.Prepared h) = ⊥
IsAcknowledgement (reply.Answers keys) = ⊥
IsAcknowledgement reply.Consistent = ⊥
IsAcknowledgement (reply.Inconsistent c) = ⊥
IsAcknowledgement (reply.Table lines) = ⊥
IsAcknowledgement (reply.Error e) = ⊥
