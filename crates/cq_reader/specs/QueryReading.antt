-- Reading terms, atoms and queries from left to right.
use Rattle.std.specs.Prelude.{ℕ, ◌+◌, true, List, [], ◌∷◌, length, Option, Some, None, Ok, cond, codes, ◌==◌}
use Rattle.grammar.specs.Reading.{Outcome, ◌>>=◌, next_is, until_at, expect_at, blanks_at}
use Rattle.dl_base.specs.NameReading.{name_at, variable_at}
use Rattle.dl_base.specs.Query.{Question}
use Rattle.dl_base.specs.declared.query.Term.{Term}
use Rattle.dl_base.specs.declared.query.Term.TheVariants as terms
use Rattle.dl_base.specs.declared.query.Atom.{Atom}
use Rattle.dl_base.specs.declared.query.Atom.TheVariants as atoms

unfoldable pub term_at : List ℕ → Outcome Term
term_at text = cond (next_is (λ c. c == 63) text)
    (do
      v ← variable_at text
      Ok (terms.Var v.0, v.1))
    (do
      n ← name_at text
      Ok (terms.Named n.0, n.1))

unfoldable pub atom_at : List ℕ → Outcome Atom
atom_at text = do
  n ← name_at text
  a ← expect_at (codes "(") n.1
  b ← blanks_at a.1
  t ← term_at b.1
  c ← blanks_at t.1
  cond (next_is (λ c. c == 44) c.1)
      (do
        d ← expect_at (codes ",") c.1
        e ← blanks_at d.1
        u ← term_at e.1
        f ← blanks_at u.1
        g ← expect_at (codes ")") f.1
        Ok (atoms.Role n.0 t.0 u.0, g.1))
      (do
        d ← expect_at (codes ")") c.1
        Ok (atoms.Concept n.0 t.0, d.1))

-- behind an answer variable: another one, or the closing bracket
unfoldable pub more_answers_at : List ℕ → Outcome (Option (List ℕ))
more_answers_at text = do
  a ← blanks_at text
  cond (next_is (λ c. c == 44) a.1)
      (do
        b ← expect_at (codes ",") a.1
        d ← blanks_at b.1
        v ← variable_at d.1
        Ok (Some v.0, v.1))
      (do
        b ← expect_at (codes ")") a.1
        Ok (None, b.1))

-- the answer variables and the closing bracket
unfoldable pub answers_at : List ℕ → Outcome (List (List ℕ))
answers_at text = cond (next_is (λ c. c == 63) text)
    (do
      first ← variable_at text
      others ← until_at (λ n. more_answers_at) (length first.1 + 1) 0 first.1
      Ok (first.0 ∷ others.0, others.1))
    (do
      a ← expect_at (codes ")") text
      Ok ([], a.1))

-- behind an atom: another one, or the end of the text
unfoldable pub more_atoms_at : List ℕ → Outcome (Option Atom)
more_atoms_at text = cond (next_is (λ c. true) text)
    (do
      a ← blanks_at text
      b ← expect_at (codes ",") a.1
      c ← blanks_at b.1
      v ← atom_at c.1
      Ok (Some v.0, v.1))
    (Ok (None, text))

-- behind an atom: another one, or the blanks at the end of the text
unfoldable pub more_atoms_or_blanks_at : List ℕ → Outcome (Option Atom)
more_atoms_or_blanks_at text = do
  a ← blanks_at text
  cond (next_is (λ c. c == 44) a.1)
      (do
        b ← expect_at (codes ",") a.1
        c ← blanks_at b.1
        v ← atom_at c.1
        Ok (Some v.0, v.1))
      (Ok (None, a.1))

-- a query whose atoms go on in this way behind the first
unfoldable pub question_at : (ℕ → List ℕ → Outcome (Option Atom)) → List ℕ → Outcome Question
question_at another text = do
  a ← expect_at (codes "q(") text
  b ← blanks_at a.1
  answers ← answers_at b.1
  c ← blanks_at answers.1
  d ← expect_at (codes ":-") c.1
  e ← blanks_at d.1
  first ← atom_at e.1
  others ← until_at another (length first.1 + 1) 0 first.1
  Ok (record { answers = answers.0; atoms = first.0 ∷ others.0 }, others.1)

abbrev pub query_at : List ℕ → Outcome Question
query_at = question_at (λ n. more_atoms_at)

abbrev pub query_and_blanks_at : List ℕ → Outcome Question
query_and_blanks_at = question_at (λ n. more_atoms_or_blanks_at)
