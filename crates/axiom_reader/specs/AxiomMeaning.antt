-- What an axiom brings to an ontology: its names, and its inclusions.
use Rattle.std.specs.Prelude.{ℕ, ◌≤◌, List, [], ◌∷◌, ◌++◌, length, map, not, All}
use Rattle.std.specs.List.{flat_map}
use Rattle.dl_base.specs.Axiom.{Statement, with_names}
use Rattle.dl_base.specs.declared.axiom.NamedRole.{NamedRole}
use Rattle.dl_base.specs.declared.axiom.NamedBasic.{NamedBasic}
use Rattle.dl_base.specs.declared.axiom.NamedBasic.TheVariants.{Concept, Exists}
use Rattle.dl_base.specs.declared.axiom.NamedHead.TheVariants as head
use Rattle.dl_base.specs.declared.axiom.NamedInclusion.{NamedInclusion}
use Rattle.axiom_reader.specs.declared.tree.RightSide.{RightSide}
use Rattle.axiom_reader.specs.declared.tree.RightSide.TheVariants.{Members, Nothing}
use Rattle.axiom_reader.specs.declared.tree.AxiomTree.{AxiomTree}
use Rattle.axiom_reader.specs.declared.tree.AxiomTree.TheVariants.{SubClassOf, Equivalent, Disjoint, Domain, Range, Class, Property}

-- ---- the inclusions, in order

abbrev pub inverse_of : NamedRole → NamedRole
inverse_of r = record { name = r.name; inverse = not r.inverse }

-- the members of the left side imply each member of the right side, or nothing
abbrev pub sub_class : List NamedBasic → RightSide → List NamedInclusion
sub_class l (Members m) = map (λ b. record { body = l; head = head.Basic b }) m
sub_class l Nothing = record { body = l; head = head.Nothing } ∷ []

-- nothing is in the side and in one of the others
abbrev pub apart_from_each : List NamedBasic → List (List NamedBasic) → List NamedInclusion
apart_from_each l others = map (λ m. record { body = l ++ m; head = head.Nothing }) others

-- each side with each one that comes after it
abbrev pub apart : List (List NamedBasic) → List NamedInclusion
apart [] = []
apart (l ∷ later) = apart_from_each l later ++ apart later

abbrev pub inclusions_of : AxiomTree → List NamedInclusion
inclusions_of (SubClassOf l h) = sub_class l h
inclusions_of (Equivalent l m) = sub_class l (Members m) ++ sub_class m (Members l)
inclusions_of (Disjoint sides) = apart sides
inclusions_of (Domain r h) = sub_class (Exists r ∷ []) h
inclusions_of (Range r h) = sub_class (Exists (inverse_of r) ∷ []) h
inclusions_of (Class c) = []
inclusions_of (Property p) = []

-- ---- the names, in order of the text

abbrev pub concept_names_of : NamedBasic → List (List ℕ)
concept_names_of (Concept n) = n ∷ []
concept_names_of (Exists r) = []

abbrev pub role_names_of : NamedBasic → List (List ℕ)
role_names_of (Concept n) = []
role_names_of (Exists r) = r.name ∷ []

-- those of the basic concepts, where each has some
abbrev pub in_members : (NamedBasic → List (List ℕ)) → List NamedBasic → List (List ℕ)
in_members names_of members = flat_map names_of members

abbrev pub in_right : (NamedBasic → List (List ℕ)) → RightSide → List (List ℕ)
in_right names_of (Members m) = in_members names_of m
in_right names_of Nothing = []

-- the concept names of an axiom, each as often as it occurs
abbrev pub concepts_in : AxiomTree → List (List ℕ)
concepts_in (SubClassOf l h) = in_members concept_names_of l ++ in_right concept_names_of h
concepts_in (Equivalent l m) = in_members concept_names_of l ++ in_members concept_names_of m
concepts_in (Disjoint sides) = flat_map (in_members concept_names_of) sides
concepts_in (Domain r h) = in_right concept_names_of h
concepts_in (Range r h) = in_right concept_names_of h
concepts_in (Class c) = c ∷ []
concepts_in (Property p) = []

-- its role names, each as often as it occurs
abbrev pub roles_in : AxiomTree → List (List ℕ)
roles_in (SubClassOf l h) = in_members role_names_of l ++ in_right role_names_of h
roles_in (Equivalent l m) = in_members role_names_of l ++ in_members role_names_of m
roles_in (Disjoint sides) = flat_map (in_members role_names_of) sides
roles_in (Domain r h) = r.name ∷ in_right role_names_of h
roles_in (Range r h) = r.name ∷ in_right role_names_of h
roles_in (Class c) = []
roles_in (Property p) = p ∷ []

-- each name once, in order of first occurrence
abbrev pub each_once : List (List ℕ) → List (List ℕ)
each_once names = with_names [] names

-- ---- what the axiom means

unfoldable pub meaning : AxiomTree → Statement
meaning tree = record { concepts = each_once (concepts_in tree); roles = each_once (roles_in tree); inclusions = inclusions_of tree }

-- each left side of the axiom has a member
abbrev pub HasMembers : AxiomTree → Type 0
HasMembers (SubClassOf l h) = 1 ≤ length l
HasMembers (Equivalent l m) = (1 ≤ length l) × (1 ≤ length m)
HasMembers (Disjoint sides) = All (λ l. 1 ≤ length l) sides
HasMembers (Domain r h) = Unit {0}
HasMembers (Range r h) = Unit {0}
HasMembers (Class c) = Unit {0}
HasMembers (Property p) = Unit {0}
