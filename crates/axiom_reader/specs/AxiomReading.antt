-- Reading axioms from left to right.
use Rattle.std.specs.Prelude.{ℕ, ◌+◌, List, [], ◌∷◌, length, Option, Some, None, Ok, Err, true, false, cond, codes, ◌==◌, ◌||◌, nat_le}
use Rattle.std.specs.Str.{bytes_eq}
use Rattle.grammar.specs.declared.bytes.Kind.TheVariants.{Starting}
use Rattle.grammar.specs.Bytes.{is_kind}
use Rattle.grammar.specs.Reading.{Outcome, ◌>>=◌, next_is, until_at, expect_at, blanks_at, some_blanks_at}
use Rattle.dl_base.specs.NameReading.{is_reserved, word_at, angled_at, name_at}
use Rattle.dl_base.specs.declared.axiom.NamedRole.{NamedRole}
use Rattle.dl_base.specs.declared.axiom.NamedBasic.{NamedBasic}
use Rattle.dl_base.specs.declared.axiom.NamedBasic.TheVariants.{Concept, Exists}
use Rattle.axiom_reader.specs.declared.tree.RightSide.{RightSide}
use Rattle.axiom_reader.specs.declared.tree.RightSide.TheVariants.{Members, Nothing}
use Rattle.axiom_reader.specs.declared.tree.AxiomTree.{AxiomTree}
use Rattle.axiom_reader.specs.declared.tree.AxiomTree.TheVariants.{SubClassOf, Equivalent, Disjoint, Domain, Range, Class, Property}

abbrev pub direct : List ℕ → NamedRole
direct n = record { name = n; inverse = false }

-- ---- roles

-- behind `Inv`
unfoldable pub inverse_at : List ℕ → Outcome NamedRole
inverse_at text = do
  a ← expect_at (codes "(") text
  b ← blanks_at a.1
  n ← name_at b.1
  c ← blanks_at n.1
  d ← expect_at (codes ")") c.1
  Ok (record { name = n.0; inverse = true }, d.1)

unfoldable pub role_at : List ℕ → Outcome NamedRole
role_at text = cond (next_is (is_kind Starting) text)
    (do
      w ← word_at text
      cond (bytes_eq w.0 (codes "Inv")) (inverse_at w.1) (cond (is_reserved w.0) (Err (length w.1)) (Ok (direct w.0, w.1))))
    (do
      n ← angled_at text
      Ok (direct n.0, n.1))

-- ---- basic concepts

-- behind `Some`
unfoldable pub exists_at : List ℕ → Outcome NamedBasic
exists_at text = do
  a ← expect_at (codes "(") text
  b ← blanks_at a.1
  r ← role_at b.1
  c ← blanks_at r.1
  d ← expect_at (codes ")") c.1
  Ok (Exists r.0, d.1)

unfoldable pub basic_behind_at : List ℕ → List ℕ → Outcome NamedBasic
basic_behind_at word text = cond (bytes_eq word (codes "Some")) (exists_at text) (cond (is_reserved word) (Err (length text)) (Ok (Concept word, text)))

unfoldable pub basic_at : List ℕ → Outcome NamedBasic
basic_at text = cond (next_is (is_kind Starting) text)
    (do
      w ← word_at text
      basic_behind_at w.0 w.1)
    (do
      n ← angled_at text
      Ok (Concept n.0, n.1))

-- ---- lists of two to eight

-- behind so many items after the first: another, or the closing bracket
unfoldable pub another_at : {V : Type 0} → (List ℕ → Outcome V) → ℕ → List ℕ → Outcome (Option V)
another_at item n text = cond (n == 0)
    (do
      a ← some_blanks_at text
      v ← item a.1
      Ok (Some v.0, v.1))
    (do
      a ← blanks_at text
      cond (nat_le 7 n || length a.0 == 0 || next_is (λ c. c == 41) a.1)
          (do
            b ← expect_at (codes ")") a.1
            Ok (None, b.1))
          (do
            v ← item a.1
            Ok (Some v.0, v.1)))

-- ---- sides

-- behind `And`
unfoldable pub conjunction_at : List ℕ → Outcome (List NamedBasic)
conjunction_at text = do
  a ← expect_at (codes "(") text
  b ← blanks_at a.1
  first ← basic_at b.1
  others ← until_at (another_at basic_at) (length first.1 + 1) 0 first.1
  Ok (first.0 ∷ others.0, others.1)

unfoldable pub left_behind_at : List ℕ → List ℕ → Outcome (List NamedBasic)
left_behind_at word text = cond (bytes_eq word (codes "And")) (conjunction_at text)
    (do
      b ← basic_behind_at word text
      Ok (b.0 ∷ [], b.1))

unfoldable pub left_at : List ℕ → Outcome (List NamedBasic)
left_at text = cond (next_is (is_kind Starting) text)
    (do
      w ← word_at text
      left_behind_at w.0 w.1)
    (do
      n ← angled_at text
      Ok (Concept n.0 ∷ [], n.1))

unfoldable pub right_behind_at : List ℕ → List ℕ → Outcome RightSide
right_behind_at word text = cond (bytes_eq word (codes "nothing")) (Ok (Nothing, text))
    (do
      l ← left_behind_at word text
      Ok (Members l.0, l.1))

unfoldable pub right_at : List ℕ → Outcome RightSide
right_at text = cond (next_is (is_kind Starting) text)
    (do
      w ← word_at text
      right_behind_at w.0 w.1)
    (do
      n ← angled_at text
      Ok (Members (Concept n.0 ∷ []), n.1))

-- ---- forms

unfoldable pub sub_class_of_at : List ℕ → Outcome AxiomTree
sub_class_of_at text = do
  a ← expect_at (codes "SubClassOf(") text
  b ← blanks_at a.1
  l ← left_at b.1
  c ← some_blanks_at l.1
  h ← right_at c.1
  d ← blanks_at h.1
  e ← expect_at (codes ")") d.1
  Ok (SubClassOf l.0 h.0, e.1)

unfoldable pub equivalent_at : List ℕ → Outcome AxiomTree
equivalent_at text = do
  a ← expect_at (codes "Equivalent(") text
  b ← blanks_at a.1
  l ← left_at b.1
  c ← some_blanks_at l.1
  m ← left_at c.1
  d ← blanks_at m.1
  e ← expect_at (codes ")") d.1
  Ok (Equivalent l.0 m.0, e.1)

-- behind the `D` of `Disjoint`
unfoldable pub disjoint_behind_at : List ℕ → Outcome AxiomTree
disjoint_behind_at text = do
  a ← expect_at (codes "isjoint(") text
  b ← blanks_at a.1
  first ← left_at b.1
  others ← until_at (another_at left_at) (length first.1 + 1) 0 first.1
  Ok (Disjoint (first.0 ∷ others.0), others.1)

-- behind the `D` of `Domain`
unfoldable pub domain_behind_at : List ℕ → Outcome AxiomTree
domain_behind_at text = do
  a ← expect_at (codes "omain(") text
  b ← blanks_at a.1
  r ← role_at b.1
  c ← some_blanks_at r.1
  h ← right_at c.1
  d ← blanks_at h.1
  e ← expect_at (codes ")") d.1
  Ok (Domain r.0 h.0, e.1)

unfoldable pub range_at : List ℕ → Outcome AxiomTree
range_at text = do
  a ← expect_at (codes "Range(") text
  b ← blanks_at a.1
  r ← role_at b.1
  c ← some_blanks_at r.1
  h ← right_at c.1
  d ← blanks_at h.1
  e ← expect_at (codes ")") d.1
  Ok (Range r.0 h.0, e.1)

unfoldable pub class_at : List ℕ → Outcome AxiomTree
class_at text = do
  a ← expect_at (codes "Class(") text
  b ← blanks_at a.1
  c ← name_at b.1
  d ← blanks_at c.1
  e ← expect_at (codes ")") d.1
  Ok (Class c.0, e.1)

unfoldable pub property_at : List ℕ → Outcome AxiomTree
property_at text = do
  a ← expect_at (codes "Property(") text
  b ← blanks_at a.1
  p ← name_at b.1
  d ← blanks_at p.1
  e ← expect_at (codes ")") d.1
  Ok (Property p.0, e.1)

unfoldable pub behind_d_at : List ℕ → Outcome AxiomTree
behind_d_at text = do
  a ← expect_at (codes "D") text
  cond (next_is (λ c. c == 105) a.1) (disjoint_behind_at a.1) (domain_behind_at a.1)

-- the first byte tells which form it is
unfoldable pub tree_at : List ℕ → Outcome AxiomTree
tree_at text =
    cond (next_is (λ c. c == 83) text) (sub_class_of_at text)
    (cond (next_is (λ c. c == 69) text) (equivalent_at text)
    (cond (next_is (λ c. c == 68) text) (behind_d_at text)
    (cond (next_is (λ c. c == 82) text) (range_at text)
    (cond (next_is (λ c. c == 67) text) (class_at text)
    (property_at text)))))
