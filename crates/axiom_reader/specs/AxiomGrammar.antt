-- Axioms, as the format writes them. Their values are syntax trees.
use Rattle.std.specs.Prelude.{List, [], ◌∷◌, true, false, codes}
use Rattle.grammar.specs.Grammar.{Grammar, ◌>>=◌, ◌>>◌, means, ◌∣◌, literal, times}
use Rattle.grammar.specs.Blanks.{blanks, some_blanks}
use Rattle.dl_base.specs.Names.{name}
use Rattle.dl_base.specs.declared.axiom.NamedRole.{NamedRole}
use Rattle.dl_base.specs.declared.axiom.NamedBasic.{NamedBasic}
use Rattle.dl_base.specs.declared.axiom.NamedBasic.TheVariants.{Concept, Exists}
use Rattle.axiom_reader.specs.declared.tree.RightSide.{RightSide}
use Rattle.axiom_reader.specs.declared.tree.RightSide.TheVariants.{Members, Nothing}
use Rattle.axiom_reader.specs.declared.tree.AxiomTree.{AxiomTree}
use Rattle.axiom_reader.specs.declared.tree.AxiomTree.TheVariants.{SubClassOf, Equivalent, Disjoint, Domain, Range, Class, Property}

-- R = NAME | "Inv(" _ NAME _ ")"
abbrev pub named_role : Grammar NamedRole
named_role = do
  n ← name
  means (record { name = n; inverse = false })

abbrev pub inverse_role : Grammar NamedRole
inverse_role = do
  literal (codes "Inv(")
  blanks
  n ← name
  blanks
  literal (codes ")")
  means (record { name = n; inverse = true })

abbrev pub role : Grammar NamedRole
role = named_role ∣ inverse_role

-- B = NAME | "Some(" _ R _ ")"
abbrev pub named_concept : Grammar NamedBasic
named_concept = do
  n ← name
  means (Concept n)

abbrev pub exists : Grammar NamedBasic
exists = do
  literal (codes "Some(")
  blanks
  r ← role
  blanks
  literal (codes ")")
  means (Exists r)

abbrev pub basic : Grammar NamedBasic
basic = named_concept ∣ exists

-- __ and a text of the grammar
abbrev pub another : {V : Type 0} → Grammar V → Grammar V
another grammar = do
  some_blanks
  grammar

-- L = B | "And(" _ B followed by 1 to 7 times ( __ B ) _ ")". The value is the list of its members.
abbrev pub one_member : Grammar (List NamedBasic)
one_member = do
  b ← basic
  means (b ∷ [])

abbrev pub conjunction : Grammar (List NamedBasic)
conjunction = do
  literal (codes "And(")
  blanks
  first ← basic
  others ← times 1 7 (another basic)
  blanks
  literal (codes ")")
  means (first ∷ others)

abbrev pub left : Grammar (List NamedBasic)
left = one_member ∣ conjunction

-- H = L | "nothing"
abbrev pub right_members : Grammar RightSide
right_members = do
  l ← left
  means (Members l)

abbrev pub nothing : Grammar RightSide
nothing = do
  literal (codes "nothing")
  means Nothing

abbrev pub right : Grammar RightSide
right = right_members ∣ nothing

-- the seven forms of AXIOM
abbrev pub sub_class_of : Grammar AxiomTree
sub_class_of = do
  literal (codes "SubClassOf(")
  blanks
  l ← left
  some_blanks
  h ← right
  blanks
  literal (codes ")")
  means (SubClassOf l h)

abbrev pub equivalent : Grammar AxiomTree
equivalent = do
  literal (codes "Equivalent(")
  blanks
  l ← left
  some_blanks
  m ← left
  blanks
  literal (codes ")")
  means (Equivalent l m)

abbrev pub disjoint : Grammar AxiomTree
disjoint = do
  literal (codes "Disjoint(")
  blanks
  first ← left
  others ← times 1 7 (another left)
  blanks
  literal (codes ")")
  means (Disjoint (first ∷ others))

abbrev pub domain : Grammar AxiomTree
domain = do
  literal (codes "Domain(")
  blanks
  r ← role
  some_blanks
  h ← right
  blanks
  literal (codes ")")
  means (Domain r h)

abbrev pub range : Grammar AxiomTree
range = do
  literal (codes "Range(")
  blanks
  r ← role
  some_blanks
  h ← right
  blanks
  literal (codes ")")
  means (Range r h)

abbrev pub class : Grammar AxiomTree
class = do
  literal (codes "Class(")
  blanks
  c ← name
  blanks
  literal (codes ")")
  means (Class c)

abbrev pub property : Grammar AxiomTree
property = do
  literal (codes "Property(")
  blanks
  p ← name
  blanks
  literal (codes ")")
  means (Property p)

-- AXIOM
unfoldable pub axiom_text : Grammar AxiomTree
axiom_text = sub_class_of ∣ equivalent ∣ disjoint ∣ domain ∣ range ∣ class ∣ property
