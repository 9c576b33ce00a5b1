-- Reading a line of a script from left to right.
use Rattle.std.specs.Prelude.{ℕ, ◌-◌, ◌^◌, true, List, [], length, codes, Ok, cond, ◌==◌}
use Rattle.grammar.specs.Reading.{Outcome, ◌>>=◌, next_is, expect_at, blanks_at, some_blanks_at}
use Rattle.grammar.specs.Numbers.{number_at}
use Rattle.dl_base.specs.Query.{Question}
use Rattle.dl_base.specs.NameReading.{name_at}
use Rattle.dl_base.specs.declared.row.NamedRow.{NamedRow}
use Rattle.gen_arena.specs.declared.handle.Handle.{Handle}
use Rattle.dl_base.specs.declared.row.NamedRow.TheVariants as row
use Rattle.cq_reader.specs.QueryReading.{query_and_blanks_at}
use Rattle.script_reader.specs.declared.command_tree.CommandTree.{CommandTree}
use Rattle.script_reader.specs.declared.command_tree.CommandTree.TheVariants as tree

-- ---- rows

-- the third name of a row, where one stands behind two names and blanks, and the blanks at the end
unfoldable pub third_and_blanks_at : List ℕ → List ℕ → List ℕ → Outcome NamedRow
third_and_blanks_at first second text = do
  a ← blanks_at text
  cond (length a.0 == 0) (Ok (row.Concept first second, a.1))
      (cond (next_is (λ c. true) a.1)
      (do
        third ← name_at a.1
        b ← blanks_at third.1
        Ok (row.Role first second third.0, b.1))
      (Ok (row.Concept first second, a.1)))

unfoldable pub row_and_blanks_at : List ℕ → Outcome NamedRow
row_and_blanks_at text = do
  first ← name_at text
  a ← some_blanks_at first.1
  second ← name_at a.1
  third_and_blanks_at first.0 second.0 second.1

-- ---- the forms

unfoldable pub word_and_blanks_at : List ℕ → List ℕ → Outcome (Unit {0})
word_and_blanks_at word text = do
  a ← expect_at word text
  b ← blanks_at a.1
  Ok (tt, b.1)

-- a word and a session
unfoldable pub session_at : List ℕ → List ℕ → Outcome ℕ
session_at word text = do
  a ← expect_at word text
  b ← some_blanks_at a.1
  number_at 15 b.1

unfoldable pub session_and_blanks_at : List ℕ → List ℕ → Outcome ℕ
session_and_blanks_at word text = do
  session ← session_at word text
  a ← blanks_at session.1
  Ok (session.0, a.1)

unfoldable pub session_and_row_at : List ℕ → List ℕ → Outcome (ℕ × NamedRow)
session_and_row_at word text = do
  session ← session_at word text
  a ← some_blanks_at session.1
  row ← row_and_blanks_at a.1
  Ok ((session.0, row.0), row.1)

unfoldable pub word_and_query_at : List ℕ → List ℕ → Outcome Question
word_and_query_at word text = do
  a ← expect_at word text
  b ← some_blanks_at a.1
  query_and_blanks_at b.1

unfoldable pub handle_and_blanks_at : List ℕ → List ℕ → Outcome Handle
handle_and_blanks_at word text = do
  a ← expect_at word text
  b ← some_blanks_at a.1
  slot ← number_at (2 ^ 32 - 1) b.1
  d ← expect_at (codes ".") slot.1
  generation ← number_at (2 ^ 64 - 1) d.1
  e ← blanks_at generation.1
  Ok (record { slot = slot.0; generation = generation.0 }, e.1)

abbrev pub alone_at : List ℕ → CommandTree → List ℕ → Outcome CommandTree
alone_at word c text = do
  a ← word_and_blanks_at word text
  Ok (c, a.1)

abbrev pub with_session_at : List ℕ → (ℕ → CommandTree) → List ℕ → Outcome CommandTree
with_session_at word c text = do
  session ← session_and_blanks_at word text
  Ok (c session.0, session.1)

abbrev pub with_row_at : List ℕ → (ℕ → NamedRow → CommandTree) → List ℕ → Outcome CommandTree
with_row_at word c text = do
  x ← session_and_row_at word text
  Ok (c x.0.0 x.0.1, x.1)

abbrev pub with_query_at : List ℕ → (Question → CommandTree) → List ℕ → Outcome CommandTree
with_query_at word c text = do
  q ← word_and_query_at word text
  Ok (c q.0, q.1)

abbrev pub with_handle_at : List ℕ → (Handle → CommandTree) → List ℕ → Outcome CommandTree
with_handle_at word c text = do
  handle ← handle_and_blanks_at word text
  Ok (c handle.0, handle.1)

-- ---- the commands, by their first letters

unfoldable pub a_command_at : List ℕ → Outcome CommandTree
a_command_at text = do
  a ← expect_at (codes "a") text
  cond (next_is (λ c. c == 100) a.1) (with_row_at (codes "dd") tree.Add a.1)
      (cond (next_is (λ c. c == 98) a.1) (with_session_at (codes "bort") tree.Abort a.1) (with_query_at (codes "sk") tree.Ask a.1))

unfoldable pub c_command_at : List ℕ → Outcome CommandTree
c_command_at text = do
  a ← expect_at (codes "c") text
  cond (next_is (λ c. c == 111) a.1) (with_session_at (codes "ommit") tree.Commit a.1) (alone_at (codes "heck") tree.Check a.1)

unfoldable pub d_command_at : List ℕ → Outcome CommandTree
d_command_at text = do
  a ← expect_at (codes "d") text
  cond (next_is (λ c. c == 101) a.1) (with_row_at (codes "el") tree.Del a.1) (with_handle_at (codes "rop") tree.Drop a.1)

unfoldable pub r_command_at : List ℕ → Outcome CommandTree
r_command_at text = do
  a ← expect_at (codes "r") text
  cond (next_is (λ c. c == 117) a.1) (with_handle_at (codes "un") tree.Run a.1) (alone_at (codes "eopen") tree.Reopen a.1)

unfoldable pub t_command_at : List ℕ → Outcome CommandTree
t_command_at text = do
  a ← expect_at (codes "t") text
  cond (next_is (λ c. c == 97) a.1) (alone_at (codes "ables") tree.Tables a.1) (alone_at (codes "idy") tree.Tidy a.1)

unfoldable pub command_at : List ℕ → Outcome CommandTree
command_at text =
    cond (next_is (λ c. c == 97) text) (a_command_at text)
    (cond (next_is (λ c. c == 98) text) (with_session_at (codes "begin") tree.Begin text)
    (cond (next_is (λ c. c == 99) text) (c_command_at text)
    (cond (next_is (λ c. c == 100) text) (d_command_at text)
    (cond (next_is (λ c. c == 111) text) (alone_at (codes "ontology") tree.Ontology text)
    (cond (next_is (λ c. c == 112) text) (with_query_at (codes "prepare") tree.Prepare text)
    (cond (next_is (λ c. c == 114) text) (r_command_at text) (t_command_at text)))))))

unfoldable pub comment_at : List ℕ → Outcome CommandTree
comment_at text = do
  a ← expect_at (codes "#") text
  Ok (tree.Blank, [])

unfoldable pub script_line_at : List ℕ → Outcome CommandTree
script_line_at text = do
  a ← blanks_at text
  cond (next_is (λ c. true) a.1) (cond (next_is (λ c. c == 35) a.1) (comment_at a.1) (command_at a.1)) (Ok (tree.Blank, a.1))
