-- The lines of the completed tables of a base.
use Rattle.std.specs.Prelude.{◌≡◌, ◌↔◌, ℕ, List, [], ◌∷◌, ◌++◌, codes, map, slice_get, Option, Some, option_map, Contains}
use Rattle.std.specs.Fmt.{decimal}
use Rattle.std.specs.List.Sorted.{IsStrictlySortedBy}
use Rattle.std.specs.declared.cmp.Ordering.{Ordering}
use Rattle.std.specs.declared.cmp.Ordering.TheVariants.{Less, Greater}
use Rattle.std.specs.Ordering.{nat_cmp, ordering_then}
use Rattle.dl_base.specs.Clashes.{inverse_cmp}
use Rattle.dl_base.specs.Completion.{Node, Individual, WitnessOf, IsNode, IsLive, DerivedAtNode, RoleLeads}
use Rattle.dl_base.specs.Ontology.{Terminology}
use Rattle.dl_base.specs.Rows.{name_cmp}
use Rattle.dl_base.specs.declared.axiom.NamedRole.{NamedRole}
use Rattle.dl_base.specs.declared.concept.Basic.TheVariants as basic
use Rattle.dl_base.specs.declared.concept.Role.{Role}
use Rattle.dl_base.specs.declared.row.NamedRow.{NamedRow}
use Rattle.reply_text.specs.ReplyText.{behind_spaces, role_text}

-- an individual by its name, or the witness of a role by the role's name
pub data Member : Type 0 where
  NamedIndividual : List ℕ → Member
  WitnessBy : NamedRole → Member

-- A role is live and has this generation, a concept is derived at a member, or a role name leads from one member to another.
pub data Entry : Type 0 where
  WitnessEntry : NamedRole → ℕ → Entry
  ConceptEntry : List ℕ → Member → Entry
  RoleEntry : List ℕ → Member → Member → Entry

-- ---- the order of entries

-- role order: by the bytes of the names, direct before inverse
abbrev pub named_role_cmp : NamedRole → NamedRole → Ordering
named_role_cmp r s = ordering_then (name_cmp r.name s.name) (inverse_cmp r.inverse s.inverse)

-- individuals by the bytes of their names, before all witnesses; these in role order
abbrev pub member_cmp : Member → Member → Ordering
member_cmp (NamedIndividual a) (NamedIndividual b) = name_cmp a b
member_cmp (NamedIndividual a) (WitnessBy s) = Less
member_cmp (WitnessBy r) (NamedIndividual b) = Greater
member_cmp (WitnessBy r) (WitnessBy s) = named_role_cmp r s

-- witnesses before concepts before roles, then from left to right
abbrev pub entry_cmp : Entry → Entry → Ordering
entry_cmp (WitnessEntry r g) (WitnessEntry s h) = ordering_then (named_role_cmp r s) (nat_cmp g h)
entry_cmp (WitnessEntry r g) (ConceptEntry d n) = Less
entry_cmp (WitnessEntry r g) (RoleEntry q n k) = Less
entry_cmp (ConceptEntry c m) (WitnessEntry s h) = Greater
entry_cmp (ConceptEntry c m) (ConceptEntry d n) = ordering_then (name_cmp c d) (member_cmp m n)
entry_cmp (ConceptEntry c m) (RoleEntry q n k) = Less
entry_cmp (RoleEntry p x y) (WitnessEntry s h) = Greater
entry_cmp (RoleEntry p x y) (ConceptEntry d n) = Greater
entry_cmp (RoleEntry p x y) (RoleEntry q n k) = ordering_then (name_cmp p q) (ordering_then (member_cmp x n) (member_cmp y k))

-- ---- the entries of a base

-- the role by its name, where the ontology has it
abbrev pub role_by_name : Terminology → Role → Option NamedRole
role_by_name o r = option_map (λ name. record { name = name; inverse = r.inverse }) (slice_get o.roles r.name)

-- an individual, or a witness by the name of its role
abbrev pub node_member : Terminology → Node → Option Member
node_member o (Individual a) = Some (NamedIndividual a)
node_member o (WitnessOf r) = option_map WitnessBy (role_by_name o r)

-- the role of this name is live, in this generation
pub record IsLiveAt (o : Terminology) (rows : List NamedRow) (generation : Role → ℕ) (named : NamedRole) (g : ℕ) : Type 0 where
  pub role : Role
  pub name : role_by_name o role ≡ Some named
  pub live : IsLive o rows role
  pub generation_is : g ≡ generation role

-- the member is a node at which the concept of this name is derived
pub record IsInConcept (o : Terminology) (rows : List NamedRow) (concept : List ℕ) (m : Member) : Type 0 where
  pub place : ℕ
  pub name : slice_get o.concepts place ≡ Some concept
  pub node : Node
  pub is : node_member o node ≡ Some m
  pub there : IsNode o rows node
  pub derived : DerivedAtNode o rows node (basic.Concept place)

-- the members are nodes between which the role of this name leads
pub record AreLinked (o : Terminology) (rows : List NamedRow) (role : List ℕ) (x y : Member) : Type 0 where
  pub place : ℕ
  pub name : slice_get o.roles place ≡ Some role
  pub from : Node
  pub to : Node
  pub from_is : node_member o from ≡ Some x
  pub to_is : node_member o to ≡ Some y
  pub leads : RoleLeads o rows place from to

-- the entry holds of the completed tables of the base, each witness in the generation of its role
abbrev pub HoldsEntry : Terminology → List NamedRow → (Role → ℕ) → Entry → Type 0
HoldsEntry o rows generation (WitnessEntry r g) = IsLiveAt o rows generation r g
HoldsEntry o rows generation (ConceptEntry c m) = IsInConcept o rows c m
HoldsEntry o rows generation (RoleEntry p x y) = AreLinked o rows p x y

-- ---- the lines

-- an individual's name, or a star and the witness's role
abbrev pub member_text : Member → List ℕ
member_text (NamedIndividual a) = a
member_text (WitnessBy r) = codes "*" ++ role_text r

-- a word that says of what kind the entry is, and its parts from left to right, with single spaces between them
abbrev pub entry_text : Entry → List ℕ
entry_text (WitnessEntry r g) = codes "witness" ++ behind_spaces (role_text r ∷ decimal g ∷ [])
entry_text (ConceptEntry c m) = codes "concept" ++ behind_spaces (c ∷ member_text m ∷ [])
entry_text (RoleEntry p x y) = codes "role" ++ behind_spaces (p ∷ member_text x ∷ member_text y ∷ [])

-- the texts of the entries that hold, in their order, each once
pub record AreTableLines (o : Terminology) (rows : List NamedRow) (generation : Role → ℕ) (lines : List (List ℕ)) : Type 0 where
  pub entries : List Entry
  pub rising : IsStrictlySortedBy entry_cmp entries
  pub each : (e : Entry) → Contains entries e ↔ HoldsEntry o rows generation e
  pub texts : lines ≡ map entry_text entries
