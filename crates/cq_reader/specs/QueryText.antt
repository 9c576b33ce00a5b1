-- Queries, as the format writes them.
use Rattle.std.specs.Prelude.{ℕ, List, [], ◌∷◌, codes}
use Rattle.grammar.specs.Grammar.{Grammar, ◌>>=◌, ◌>>◌, means, ◌∣◌, literal, many}
use Rattle.grammar.specs.Blanks.{blanks}
use Rattle.dl_base.specs.Names.{name, variable}
use Rattle.dl_base.specs.Query.{Question}
use Rattle.dl_base.specs.declared.query.Term.{Term}
use Rattle.dl_base.specs.declared.query.Term.TheVariants as terms
use Rattle.dl_base.specs.declared.query.Atom.{Atom}
use Rattle.dl_base.specs.declared.query.Atom.TheVariants as atoms

-- T = VAR | NAME
abbrev pub variable_term : Grammar Term
variable_term = do
  v ← variable
  means (terms.Var v)

abbrev pub named_term : Grammar Term
named_term = do
  n ← name
  means (terms.Named n)

abbrev pub term : Grammar Term
term = variable_term ∣ named_term

-- ATOM = NAME "(" _ T _ ")" | NAME "(" _ T _ "," _ T _ ")"
abbrev pub concept_atom : Grammar Atom
concept_atom = do
  concept ← name
  literal (codes "(")
  blanks
  t ← term
  blanks
  literal (codes ")")
  means (atoms.Concept concept t)

abbrev pub role_atom : Grammar Atom
role_atom = do
  role ← name
  literal (codes "(")
  blanks
  from ← term
  blanks
  literal (codes ",")
  blanks
  to ← term
  blanks
  literal (codes ")")
  means (atoms.Role role from to)

abbrev pub atom : Grammar Atom
atom = concept_atom ∣ role_atom

-- _ "," _ and a text of the grammar
abbrev pub listed : {V : Type 0} → Grammar V → Grammar V
listed grammar = do
  blanks
  literal (codes ",")
  blanks
  grammar

-- VAR followed by any number of ( _ "," _ VAR )
abbrev pub some_answers : Grammar (List (List ℕ))
some_answers = do
  first ← variable
  others ← many (listed variable)
  means (first ∷ others)

-- QUERY = "q(" _ [ VAR followed by any number of ( _ "," _ VAR ) ] _ ")" _ ":-" _
--         ATOM followed by any number of ( _ "," _ ATOM )
abbrev pub query : Grammar Question
query = do
  literal (codes "q(")
  blanks
  answers ← some_answers ∣ means []
  blanks
  literal (codes ")")
  blanks
  literal (codes ":-")
  blanks
  first ← atom
  others ← many (listed atom)
  means (record { answers = answers; atoms = first ∷ others })

-- a query, and any blanks behind it
abbrev pub query_and_blanks : Grammar Question
query_and_blanks = do
  q ← query
  blanks
  means q
