-- Laws of the definitions, and small bases that show what they say.
use Rattle.std.specs.Prelude.{◌≡◌, ◌↔◌, ℕ, List, [], ◌∷◌, codes, Contains, false, true, Option, Some, None}
use Rattle.dl_base.specs.Tables.{RoleRow}
use Rattle.dl_base.specs.Completion.{IsLive, IsCompletedRow, RolePoints}
use Rattle.dl_base.specs.Matches.{IsCompletedMatch}
use Rattle.dl_base.specs.Ontology.{Terminology, IsTerminology, IsWellFormed}
use Rattle.dl_base.specs.Derivation.{Derives, inverse}
use Rattle.dl_base.specs.Query.{Question}
use Rattle.dl_base.specs.Rows.{IsIndividual, Held}
use Rattle.dl_base.specs.Unfolding.{Element, Named, Next, Exists}
use Rattle.dl_base.specs.Answers.{IsCertain, AreAnswers}
use Rattle.dl_base.specs.Clashes.{Place, IsClash, IsFirstClash, individual_of, path_of}
use Rattle.dl_base.specs.Replies.{Replied, Inconsistent, IsReply}
use Rattle.dl_base.specs.ShortUnfolding.{IsShort}
use Rattle.dl_base.specs.Lifting.{IsShortPlacing, IsFoldOf, Lifts}
use Rattle.dl_base.specs.ShortAnswers.{IsShortlyCertain}
use Rattle.dl_base.specs.Paths.{ClashesAfter}
use Rattle.dl_base.specs.Structure.{HoldInUnfolding}
use Rattle.dl_base.specs.declared.concept.Role.{Role}
use Rattle.dl_base.specs.declared.concept.Basic.{Basic}
use Rattle.dl_base.specs.declared.concept.Basic.TheVariants as basic
use Rattle.dl_base.specs.declared.concept.Head.{Head}
use Rattle.dl_base.specs.declared.concept.Head.TheVariants as head
use Rattle.dl_base.specs.declared.concept.Inclusion.{Inclusion}
use Rattle.dl_base.specs.declared.element.Elem.{Elem}
use Rattle.dl_base.specs.declared.element.Elem.TheVariants as elem
use Rattle.dl_base.specs.declared.row.NamedRow.{NamedRow}
use Rattle.dl_base.specs.declared.row.NamedRow.TheVariants as row
use Rattle.dl_base.specs.declared.query.Term.{Term}
use Rattle.dl_base.specs.declared.query.Term.TheVariants as term
use Rattle.dl_base.specs.declared.query.Atom.{Atom}
use Rattle.dl_base.specs.declared.query.Atom.TheVariants as atom

-- where each member of one set is derived from another, so is whatever is derived from the first
abbrev pub DerivesThrough : Type 0
DerivesThrough = (inclusions : List Inclusion) (few many : List Basic)
    → ((b : Basic) → Contains few b → Derives inclusions (Contains many) b)
    → (b : Basic) → Derives inclusions (Contains few) b → Derives inclusions (Contains many) b

-- from more, more is derived
abbrev pub DerivesMore : Type 0
DerivesMore = (inclusions : List Inclusion) (few many : List Basic)
    → ((b : Basic) → Contains few b → Contains many b)
    → (b : Basic) → Derives inclusions (Contains few) b → Derives inclusions (Contains many) b

-- where an element exists, so does the one that it extends
abbrev pub ExistsBefore : Type 0
ExistsBefore = (o : Terminology) (rows : List NamedRow) (e : Element) (r : Role) → Exists o rows (Next e r) → Exists o rows e

-- the answers of a base are one list and no other
abbrev pub AnswersOnce : Type 0
AnswersOnce = (o : Terminology) (rows : List NamedRow) (q : Question) (keys others : List (List (List ℕ)))
    → AreAnswers o rows q keys → AreAnswers o rows q others → keys ≡ others

-- the first clash of a base is one and no other, or there is none
abbrev pub FirstClashOnce : Type 0
FirstClashOnce = (o : Terminology) (rows : List NamedRow) (c d : Option Place)
    → IsTerminology o → IsFirstClash o rows c → IsFirstClash o rows d → c ≡ d

-- a base replies one thing to a query
abbrev pub RepliesOnce : Type 0
RepliesOnce = (o : Terminology) (rows : List NamedRow) (q : Question) (reply other : Replied)
    → IsTerminology o → IsReply o rows q reply → IsReply o rows q other → reply ≡ other

-- no role points back along itself
abbrev pub NoWayBack : Type 0
NoWayBack = (o : Terminology) (r : Role) → RolePoints o r (inverse r) → ⊥

-- the keys that are certain are those that are certain by a placing on short elements
abbrev pub Collapses : Type 0
Collapses = (o : Terminology) (rows : List NamedRow) (q : Question) (key : List (List ℕ)) → IsCertain o rows q key ↔ IsShortlyCertain o rows q key

-- the last role of a short element is live
abbrev pub LastIsLive : Type 0
LastIsLive = (o : Terminology) (rows : List NamedRow) (e : Element) (r : Role) → IsShort o rows (Next e r) → IsLive o rows r

-- A placing on short elements folds to a match in the completed rows: whatever images it folds to are one, and there are such images
-- where each individual has a number.
abbrev pub FoldsToMatch : Type 0
FoldsToMatch = (o : Terminology) (rows : List NamedRow) (names : List (List ℕ)) (generation : Role → ℕ) (q : Question) (place : Term → Element) → IsShortPlacing o rows q place
    → ((images : Term → Elem) → IsFoldOf names generation q place images → IsCompletedMatch o rows names generation q images)
    × (((a : List ℕ) → IsIndividual rows a → Contains names a) → (images : Term → Elem) × IsFoldOf names generation q place images)

-- Where there is no clash, each inclusion holds in the structure of the existing elements, and each row whose name the ontology has.
abbrev pub UnfoldingIsModel : Type 0
UnfoldingIsModel = (o : Terminology) (rows : List NamedRow) → IsWellFormed o → IsFirstClash o rows None → HoldInUnfolding o rows

-- a clash is an individual, and roles that may follow there to an end where the inclusion is violated
abbrev pub ClashesAlongRoles : Type 0
ClashesAlongRoles = (o : Terminology) (rows : List NamedRow) (c : Place) → IsClash o rows c
    ↔ (IsIndividual rows (individual_of c.element) × ClashesAfter o.inclusions (Held o rows (individual_of c.element)) (path_of c.element) c.inclusion)

-- professors are staff
abbrev pub staff : Terminology
staff = record {
  concepts = codes "Prof" ∷ codes "Staff" ∷ [];
  roles = [];
  inclusions = record { body = basic.Concept 0 ∷ []; head = head.Basic (basic.Concept 1) } ∷ [];
}

-- ann is a professor
abbrev pub ann_is_a_professor : List NamedRow
ann_is_a_professor = row.Concept (codes "Prof") (codes "ann") ∷ []

-- who is staff?
abbrev pub who_is_staff : Question
who_is_staff = record { answers = codes "x" ∷ []; atoms = atom.Concept (codes "Staff") (term.Var (codes "x")) ∷ [] }

-- ann is, and no one else
abbrev pub AnnIsStaff : Type 0
AnnIsStaff = AreAnswers staff ann_is_a_professor who_is_staff ((codes "ann" ∷ []) ∷ [])

-- whatever is in A has a successor by r
abbrev pub successors : Terminology
successors = record {
  concepts = codes "A" ∷ [];
  roles = codes "r" ∷ [];
  inclusions = record { body = basic.Concept 0 ∷ []; head = head.Basic (basic.Exists (record { name = 0; inverse = false })) } ∷ [];
}

-- a variable at no answer place may stand on an element that no row names
abbrev pub WitnessServes : Type 0
WitnessServes = IsCertain successors (row.Concept (codes "A") (codes "a") ∷ [])
    (record { answers = codes "x" ∷ []; atoms = atom.Role (codes "r") (term.Var (codes "x")) (term.Var (codes "z")) ∷ [] }) (codes "a" ∷ [])

-- the witness of r in its first generation
abbrev pub witness_of_r : Elem
witness_of_r = elem.Shared (record { role = record { name = 0; inverse = false }; generation = 1 })

-- a is in A, so the completed tables lead from it to the witness of r
abbrev pub WitnessStands : Type 0
WitnessStands = IsCompletedRow successors (row.Concept (codes "A") (codes "a") ∷ []) (codes "a" ∷ []) (λ r. 1) (RoleRow 0 (elem.Named 0) witness_of_r)

-- beside a named successor there is no witness
abbrev pub NoWitnessBeside : Type 0
NoWitnessBeside = IsCompletedRow successors (row.Concept (codes "A") (codes "a") ∷ row.Role (codes "r") (codes "a") (codes "b") ∷ [])
    (codes "a" ∷ codes "b" ∷ []) (λ r. 1) (RoleRow 0 (elem.Named 0) witness_of_r) → ⊥

-- the role name at a place, and its inverse
abbrev pub direct_at : ℕ → Role
direct_at p = record { name = p; inverse = false }

abbrev pub inverted_at : ℕ → Role
inverted_at p = record { name = p; inverse = true }

abbrev pub implies : Basic → Head → Inclusion
implies b h = record { body = b ∷ []; head = h }

-- whatever is in A has a successor by the inverse of r
abbrev pub predecessors : Terminology
predecessors = record {
  concepts = codes "A" ∷ [];
  roles = codes "r" ∷ [];
  inclusions = implies (basic.Concept 0) (head.Basic (basic.Exists (inverted_at 0))) ∷ [];
}

-- the witness of the inverse of r in its first generation
abbrev pub witness_of_inverse : Elem
witness_of_inverse = elem.Shared (record { role = inverted_at 0; generation = 1 })

-- a is in A, so r leads from that witness to a in the completed tables, and not from a to it
abbrev pub InverseWitnessLeads : Type 0
InverseWitnessLeads = IsCompletedRow predecessors (row.Concept (codes "A") (codes "a") ∷ []) (codes "a" ∷ []) (λ r. 1) (RoleRow 0 witness_of_inverse (elem.Named 0))
    × (IsCompletedRow predecessors (row.Concept (codes "A") (codes "a") ∷ []) (codes "a" ∷ []) (λ r. 1) (RoleRow 0 (elem.Named 0) witness_of_inverse) → ⊥)

-- whatever r leads to has a successor by r
abbrev pub endless : Terminology
endless = record {
  concepts = [];
  roles = codes "r" ∷ [];
  inclusions = implies (basic.Exists (inverted_at 0)) (head.Basic (basic.Exists (direct_at 0))) ∷ [];
}

-- so the role points to itself
abbrev pub PointsToItself : Type 0
PointsToItself = RolePoints endless (direct_at 0) (direct_at 0)

-- Whatever is in A has a successor by p and one by q. Behind p there is one by s, and one by p again, and so on without an end; behind
-- q there is one by r. But nothing may be behind r, nor behind s, which is said twice; and nothing may be in B.
abbrev pub clashing : Terminology
clashing = record {
  concepts = codes "A" ∷ codes "B" ∷ [];
  roles = codes "s" ∷ codes "q" ∷ codes "p" ∷ codes "r" ∷ [];
  inclusions = implies (basic.Concept 0) (head.Basic (basic.Exists (direct_at 2)))
      ∷ implies (basic.Concept 0) (head.Basic (basic.Exists (direct_at 1)))
      ∷ implies (basic.Exists (inverted_at 2)) (head.Basic (basic.Exists (direct_at 0)))
      ∷ implies (basic.Exists (inverted_at 2)) (head.Basic (basic.Exists (direct_at 2)))
      ∷ implies (basic.Exists (inverted_at 1)) (head.Basic (basic.Exists (direct_at 3)))
      ∷ implies (basic.Exists (inverted_at 3)) head.Nothing
      ∷ implies (basic.Exists (inverted_at 0)) head.Nothing
      ∷ implies (basic.Exists (inverted_at 0)) head.Nothing
      ∷ implies (basic.Concept 1) head.Nothing
      ∷ [];
}

-- a is in A, and b in B
abbrev pub a_and_b : List NamedRow
a_and_b = row.Concept (codes "A") (codes "a") ∷ row.Concept (codes "B") (codes "b") ∷ []

-- behind a by p and s, by the first inclusion that says so
abbrev pub first_of_all : Place
first_of_all = record { element = Next (Next (Named (codes "a")) (direct_at 2)) (direct_at 0); inclusion = 7 }

-- That is the first clash. That at b has a shorter list and is behind it by name; those by p, p and s, by p, p, p and s, and so on are behind it by
-- length; that by q and r is behind it by role order; and that of the same element by inclusion 8 is behind it by number.
abbrev pub ClashesInOrder : Type 0
ClashesInOrder = IsFirstClash clashing a_and_b (Some first_of_all)

-- so it is what the base replies, whatever is asked
abbrev pub RepliesClash : Type 0
RepliesClash = (q : Question) → IsReply clashing a_and_b q (Inconsistent first_of_all)

-- a is in A
abbrev pub only_a : List NamedRow
only_a = row.Concept (codes "A") (codes "a") ∷ []

-- what is behind a by r and back again exists, but isn't short
abbrev pub BackIsNotShort : Type 0
BackIsNotShort = Exists successors only_a (Next (Next (Named (codes "a")) (direct_at 0)) (inverted_at 0))
    × (IsShort successors only_a (Next (Next (Named (codes "a")) (direct_at 0)) (inverted_at 0)) → ⊥)

-- a and b are in A
abbrev pub both_in_a : List NamedRow
both_in_a = row.Concept (codes "A") (codes "a") ∷ row.Concept (codes "A") (codes "b") ∷ []

abbrev pub names_of_both : List (List ℕ)
names_of_both = codes "a" ∷ codes "b" ∷ []

-- which two have a successor by r in common?
abbrev pub lead_to_one : Question
lead_to_one = record {
  answers = codes "x" ∷ codes "y" ∷ [];
  atoms = atom.Role (codes "r") (term.Var (codes "x")) (term.Var (codes "z")) ∷ atom.Role (codes "r") (term.Var (codes "y")) (term.Var (codes "z")) ∷ [];
}

-- That a and b lead to one witness is a match in the completed rows, but it doesn't lift: each has its own in the unfolding.
abbrev pub SharedWitnessIsNoJoin : Type 0
SharedWitnessIsNoJoin = (images : Term → Elem) → images (term.Var (codes "x")) ≡ elem.Named 0 → images (term.Var (codes "y")) ≡ elem.Named 1 → images (term.Var (codes "z")) ≡ witness_of_r
    → IsCompletedMatch successors both_in_a names_of_both (λ r. 1) lead_to_one images
    × (Lifts successors both_in_a names_of_both (λ r. 1) lead_to_one images → ⊥)

-- whatever is in A has a successor by r, and so has whatever r leads to
abbrev pub repeating : Terminology
repeating = record {
  concepts = codes "A" ∷ [];
  roles = codes "r" ∷ [];
  inclusions = implies (basic.Concept 0) (head.Basic (basic.Exists (direct_at 0))) ∷ implies (basic.Exists (inverted_at 0)) (head.Basic (basic.Exists (direct_at 0))) ∷ [];
}

-- the atom by which r leads from one variable to another
abbrev pub r_leads : List ℕ → List ℕ → Atom
r_leads v w = atom.Role (codes "r") (term.Var v) (term.Var w)

-- does r lead from anything to itself?
abbrev pub is_there_a_loop : Question
is_there_a_loop = record { answers = []; atoms = r_leads (codes "x") (codes "x") ∷ [] }

-- does r lead on three times from anything?
abbrev pub are_there_three_steps : Question
are_there_three_steps = record { answers = []; atoms = r_leads (codes "x") (codes "y") ∷ r_leads (codes "y") (codes "z") ∷ r_leads (codes "z") (codes "u") ∷ [] }

-- r leads from its witness to itself in the completed rows. No loop is certain for all that, but three steps are.
abbrev pub NoLoopYetThreeSteps : Type 0
NoLoopYetThreeSteps = IsCompletedRow repeating only_a (codes "a" ∷ []) (λ r. 1) (RoleRow 0 witness_of_r witness_of_r)
    × (IsCertain repeating only_a is_there_a_loop [] → ⊥)
    × IsCertain repeating only_a are_there_three_steps []

-- whatever is in A has a successor by r, and whatever r leads to has one by s
abbrev pub two_roles : Terminology
two_roles = record {
  concepts = codes "A" ∷ [];
  roles = codes "r" ∷ codes "s" ∷ [];
  inclusions = implies (basic.Concept 0) (head.Basic (basic.Exists (direct_at 0))) ∷ implies (basic.Exists (inverted_at 0)) (head.Basic (basic.Exists (direct_at 1))) ∷ [];
}

-- which two reach one thing by r and then s?
abbrev pub reach_one : Question
reach_one = record {
  answers = codes "x" ∷ codes "y" ∷ [];
  atoms = r_leads (codes "x") (codes "u")
      ∷ atom.Role (codes "s") (term.Var (codes "u")) (term.Var (codes "v"))
      ∷ atom.Role (codes "s") (term.Var (codes "w")) (term.Var (codes "v"))
      ∷ r_leads (codes "y") (codes "w")
      ∷ [];
}

-- a and b do, each with itself: two steps on and two steps back end where they began
abbrev pub TwoStepsBack : Type 0
TwoStepsBack = AreAnswers two_roles both_in_a reach_one ((codes "a" ∷ codes "a" ∷ []) ∷ (codes "b" ∷ codes "b" ∷ []) ∷ [])

-- a is in A, and r leads from it to b
abbrev pub a_has_b : List NamedRow
a_has_b = row.Concept (codes "A") (codes "a") ∷ row.Role (codes "r") (codes "a") (codes "b") ∷ []

-- to what does r lead from a?
abbrev pub successors_of_a : Question
successors_of_a = record { answers = codes "y" ∷ []; atoms = atom.Role (codes "r") (term.Named (codes "a")) (term.Var (codes "y")) ∷ [] }

-- to b, and to nothing else that has a name
abbrev pub NamedSuccessor : Type 0
NamedSuccessor = AreAnswers successors a_has_b successors_of_a ((codes "b" ∷ []) ∷ [])
