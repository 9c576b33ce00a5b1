-- Entries as they are gathered: by the numbers of a table's rows, with names that are borrowed.
use Rattle.std.specs.Prelude.{◌≡◌, ◌≢◌, ◌↔◌, ◌⊎◌, ℕ, List, map, slice_get, Option, Some, None, option_map, Contains}
use Rattle.std.specs.declared.cmp.Ordering.TheVariants.{Greater}
use Rattle.dl_base.specs.Ontology.{Terminology}
use Rattle.dl_base.specs.Sets.{HasRole}
use Rattle.dl_base.specs.Tables.{TableRow, ConceptRow, RoleRow, elem_cmp}
use Rattle.dl_base.specs.declared.axiom.NamedRole.{NamedRole}
use Rattle.dl_base.specs.declared.concept.Role.{Role}
use Rattle.dl_base.specs.declared.element.Elem.{Elem}
use Rattle.dl_base.specs.declared.element.Elem.TheVariants as elem
use Rattle.witness_book.specs.Witnesses.{Witnesses, generation_of}
use Rattle.table_report.specs.TableLines.{Member, NamedIndividual, WitnessBy, Entry, WitnessEntry, ConceptEntry, RoleEntry, role_by_name}
use Rattle.table_report.specs.declared.entry.RoleRef.{RoleRef}
use Rattle.table_report.specs.declared.entry.MemberRef.{MemberRef}
use Rattle.table_report.specs.declared.entry.MemberRef.TheVariants as member
use Rattle.table_report.specs.declared.entry.EntryRef.{EntryRef}
use Rattle.table_report.specs.declared.entry.EntryRef.TheVariants as entry

-- what is borrowed as it is read
abbrev pub role_read : RoleRef → NamedRole
role_read r = record { name = r.name.now; inverse = r.inverse }

abbrev pub member_of : MemberRef → Member
member_of (member.Individual name) = NamedIndividual name.now
member_of (member.Witness r) = WitnessBy (role_read r)

abbrev pub entry_of : EntryRef → Entry
entry_of (entry.Witness r generation) = WitnessEntry (role_read r) generation
entry_of (entry.Concept c m) = ConceptEntry c.now (member_of m)
entry_of (entry.Role p x y) = RoleEntry p.now (member_of x) (member_of y)

-- what two things give, where both are there
abbrev pub both : {A B C : Type 0} → (A → B → C) → Option A → Option B → Option C
both f None y = None
both f (Some a) None = None
both f (Some a) (Some b) = Some (f a b)

-- the individual that has the number in the list of names, or the witness by its role's name
abbrev pub elem_member : Terminology → List (List ℕ) → Elem → Option Member
elem_member o names (elem.Named n) = option_map NamedIndividual (slice_get names n)
elem_member o names (elem.Shared w) = option_map WitnessBy (role_by_name o w.role)

-- the entry of a row, where its numbers stand for names
abbrev pub row_entry : Terminology → List (List ℕ) → TableRow → Option Entry
row_entry o names (ConceptRow c e) = both ConceptEntry (slice_get o.concepts c) (elem_member o names e)
row_entry o names (RoleRow p e f) = both (λ (role : List ℕ) (ends : Member × Member). RoleEntry role ends.0 ends.1) (slice_get o.roles p) (both (λ (x y : Member). (x, y)) (elem_member o names e) (elem_member o names f))

-- the entry of the role's witness, where the ontology has the role's name
abbrev pub witness_entry : Terminology → Witnesses → Role → Option Entry
witness_entry o book r = option_map (λ named. WitnessEntry named (generation_of book r)) (role_by_name o r)

-- the entry is that of a live role
abbrev pub IsOfLive : Terminology → Witnesses → Role → Entry → Type 0
IsOfLive o book r x = HasRole book.live r × (witness_entry o book r ≡ Some x)

-- it is that of a row of the concept, or of the role
abbrev pub IsOfConcept : Terminology → List (List ℕ) → List TableRow → ℕ → Entry → Type 0
IsOfConcept o names table c x = (e : Elem) × Contains table (ConceptRow c e) × (row_entry o names (ConceptRow c e) ≡ Some x)

abbrev pub IsOfSource : Terminology → List (List ℕ) → List TableRow → ℕ → Elem → Entry → Type 0
IsOfSource o names table p e x = (f : Elem) × Contains table (RoleRow p e f) × (row_entry o names (RoleRow p e f) ≡ Some x)

abbrev pub IsOfRole : Terminology → List (List ℕ) → List TableRow → ℕ → Entry → Type 0
IsOfRole o names table p x = (e : Elem) × IsOfSource o names table p e x

-- it is that of a live role or of a row
abbrev pub IsGathered : Terminology → List (List ℕ) → Witnesses → List TableRow → Entry → Type 0
IsGathered o names book table x = ((r : Role) × IsOfLive o book r x) ⊎ ((c : ℕ) × IsOfConcept o names table c x) ⊎ ((p : ℕ) × IsOfRole o names table p x)

-- all of these come to the list, and nothing else changes
pub record AddsAll (these : Entry → Type 0) (old new : List EntryRef) : Type 0 where
  pub each : (x : Entry) → Contains (map entry_of new) x ↔ (these x ⊎ Contains (map entry_of old) x)

-- the element isn't above that one; nothing is up to none
abbrev pub IsGoneOver : Option Elem → Elem → Type 0
IsGoneOver None e = ⊥
IsGoneOver (Some last) e = elem_cmp e last ≢ Greater

-- the entry is of an element up to that one
pub record IsOfGoneOver (elements : Elem → Type 0) (gives : Elem → Entry → Type 0) (last : Option Elem) (x : Entry) : Type 0 where
  pub element : Elem
  pub one : elements element
  pub upto : IsGoneOver last element
  pub given : gives element x
