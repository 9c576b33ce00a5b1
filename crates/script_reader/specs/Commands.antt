-- The lines of a script, as their format writes them, and what each of them asks.
use Rattle.std.specs.Prelude.{◌≡◌, ℕ, ◌+◌, ◌-◌, ◌^◌, List, codes, true, Option, Some, None}
use Rattle.grammar.specs.Grammar.{Grammar, ◌>>=◌, ◌>>◌, means, ◌∣◌, literal, bytes_of_kind, IsFaultAt}
use Rattle.grammar.specs.Blanks.{blanks, some_blanks}
use Rattle.grammar.specs.Numbers.{number}
use Rattle.dl_base.specs.Query.{Question, IsQuery}
use Rattle.dl_base.specs.declared.row.NamedRow.{NamedRow}
use Rattle.gen_arena.specs.declared.handle.Handle.{Handle}
use Rattle.cq_reader.specs.QueryText.{query_and_blanks}
use Rattle.cq_reader.specs.QueryLimits.{IsSmall, IsTooLarge, IsFirstUnbound}
use Rattle.cq_reader.specs.declared.query.QueryError.{QueryError}
use Rattle.cq_reader.specs.declared.query.QueryError.TheVariants as fault
use Rattle.script_reader.specs.DocLines.{row_text}
use Rattle.script_reader.specs.declared.command_tree.CommandTree.{CommandTree}
use Rattle.script_reader.specs.declared.command_tree.CommandTree.TheVariants as tree
use Rattle.script_reader.specs.declared.command.Command.{Command}
use Rattle.script_reader.specs.declared.command.Command.TheVariants as command

-- ---- the forms, each with any blanks behind it

abbrev pub row_and_blanks : Grammar NamedRow
row_and_blanks = do
  row ← row_text
  blanks
  means row

-- a word
abbrev pub word_and_blanks : List ℕ → Grammar (Unit {0})
word_and_blanks word = do
  literal word
  blanks
  means tt

-- a word and a session, which is a number from 0 to 15
abbrev pub session_and_blanks : List ℕ → Grammar ℕ
session_and_blanks word = do
  literal word
  some_blanks
  session ← number 15
  blanks
  means session

-- a word, a session and a row
abbrev pub session_and_row : List ℕ → Grammar (ℕ × NamedRow)
session_and_row word = do
  literal word
  some_blanks
  session ← number 15
  some_blanks
  row ← row_and_blanks
  means (session, row)

-- a word and a query
abbrev pub word_and_query : List ℕ → Grammar Question
word_and_query word = do
  literal word
  some_blanks
  query_and_blanks

-- a word and a handle, which is the number of a slot and a generation with a point between them
abbrev pub handle_and_blanks : List ℕ → Grammar Handle
handle_and_blanks word = do
  literal word
  some_blanks
  slot ← number (2 ^ 32 - 1)
  literal (codes ".")
  generation ← number (2 ^ 64 - 1)
  blanks
  means (record { slot = slot; generation = generation })

abbrev pub alone : List ℕ → CommandTree → Grammar CommandTree
alone word c = do
  word_and_blanks word
  means c

abbrev pub with_session : List ℕ → (ℕ → CommandTree) → Grammar CommandTree
with_session word c = do
  session ← session_and_blanks word
  means (c session)

abbrev pub with_row : List ℕ → (ℕ → NamedRow → CommandTree) → Grammar CommandTree
with_row word c = do
  x ← session_and_row word
  means (c x.0 x.1)

abbrev pub with_query : List ℕ → (Question → CommandTree) → Grammar CommandTree
with_query word c = do
  q ← word_and_query word
  means (c q)

abbrev pub with_handle : List ℕ → (Handle → CommandTree) → Grammar CommandTree
with_handle word c = do
  handle ← handle_and_blanks word
  means (c handle)

-- `#` and any bytes
abbrev pub script_comment : Grammar CommandTree
script_comment = do
  literal (codes "#")
  bytes_of_kind (λ c. true)
  means tree.Blank

-- the commands, by their first letters
abbrev pub a_command : Grammar CommandTree
a_command = with_row (codes "add") tree.Add ∣ (with_session (codes "abort") tree.Abort ∣ with_query (codes "ask") tree.Ask)

abbrev pub c_command : Grammar CommandTree
c_command = with_session (codes "commit") tree.Commit ∣ alone (codes "check") tree.Check

abbrev pub d_command : Grammar CommandTree
d_command = with_row (codes "del") tree.Del ∣ with_handle (codes "drop") tree.Drop

abbrev pub r_command : Grammar CommandTree
r_command = with_handle (codes "run") tree.Run ∣ alone (codes "reopen") tree.Reopen

abbrev pub t_command : Grammar CommandTree
t_command = alone (codes "tables") tree.Tables ∣ alone (codes "tidy") tree.Tidy

abbrev pub command_text : Grammar CommandTree
command_text =
    a_command ∣ (with_session (codes "begin") tree.Begin ∣ (c_command ∣ (d_command ∣
    (alone (codes "ontology") tree.Ontology ∣ (with_query (codes "prepare") tree.Prepare ∣ (r_command ∣ t_command))))))

-- a line: blanks, and then nothing, a comment or a command
abbrev pub script_line : Grammar CommandTree
script_line = do
  blanks
  means tree.Blank ∣ (script_comment ∣ command_text)

-- ---- what is asked

-- the command of a line
abbrev pub command_of : CommandTree → Command
command_of tree.Blank = command.Blank
command_of tree.Ontology = command.Ontology
command_of (tree.Begin session) = command.Begin session
command_of (tree.Add session row) = command.Add session row
command_of (tree.Del session row) = command.Del session row
command_of (tree.Commit session) = command.Commit session
command_of (tree.Abort session) = command.Abort session
command_of (tree.Ask q) = command.Ask q
command_of (tree.Prepare q) = command.Prepare q
command_of (tree.Run handle) = command.Run handle
command_of (tree.Drop handle) = command.Drop handle
command_of tree.Check = command.Check
command_of tree.Tables = command.Tables
command_of tree.Tidy = command.Tidy
command_of tree.Reopen = command.Reopen

-- the query of a line
abbrev pub query_of : CommandTree → Option Question
query_of tree.Blank = None
query_of tree.Ontology = None
query_of (tree.Begin session) = None
query_of (tree.Add session row) = None
query_of (tree.Del session row) = None
query_of (tree.Commit session) = None
query_of (tree.Abort session) = None
query_of (tree.Ask q) = Some q
query_of (tree.Prepare q) = Some q
query_of (tree.Run handle) = None
query_of (tree.Drop handle) = None
query_of tree.Check = None
query_of tree.Tables = None
query_of tree.Tidy = None
query_of tree.Reopen = None

-- the line asks this: its query, where it has one, is within the limits
pub record AsksCommand (text : List ℕ) (c : Command) : Type 0 where
  pub said : CommandTree
  pub says : script_line text said
  pub fits : (q : Question) → query_of said ≡ Some q → IsQuery q
  pub is : c ≡ command_of said

-- the line has this query, of `ask` or of `prepare`
pub record HasQuery (text : List ℕ) (q : Question) : Type 0 where
  pub said : CommandTree
  pub says : script_line text said
  pub is : query_of said ≡ Some q

-- Why a line is refused: it is no line of a script, and the place, counted from 1, is the one where none goes on; or its
-- query is too large; or an answer variable of it is in no atom. Memory may run out at any line.
abbrev pub IsRefusedLine : List ℕ → QueryError → Type 0
IsRefusedLine text (fault.Syntax place) = (at : ℕ) × (place ≡ at + 1) × IsFaultAt script_line text at
IsRefusedLine text fault.TooLarge = (q : Question) × HasQuery text q × IsTooLarge q
IsRefusedLine text (fault.Unsafe v) = (q : Question) × HasQuery text q × IsSmall q × IsFirstUnbound q v
IsRefusedLine text fault.NoMemory = Unit {0}

-- why what a line says isn't asked: its query is too large; or an answer variable of it is in no atom
abbrev pub IsUnfitTree : CommandTree → QueryError → Type 0
IsUnfitTree said (fault.Syntax place) = ⊥
IsUnfitTree said fault.TooLarge = (q : Question) × (query_of said ≡ Some q) × IsTooLarge q
IsUnfitTree said (fault.Unsafe v) = (q : Question) × (query_of said ≡ Some q) × IsSmall q × IsFirstUnbound q v
IsUnfitTree said fault.NoMemory = Unit {0}
