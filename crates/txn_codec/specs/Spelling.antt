-- The bytes that are written.
use Rattle.std.specs.Prelude.{ℕ, Bool, true, false, List, [], ◌∷◌, ◌++◌, length}
use Rattle.std.specs.List.{flat_map}
use Rattle.byteorder.specs.Endian.{big_bytes}
use Rattle.dl_base.specs.Names.{IsName}
use Rattle.dl_base.specs.Ontology.{Terminology}
use Rattle.dl_base.specs.declared.concept.Basic.{Basic}
use Rattle.dl_base.specs.declared.concept.Basic.TheVariants as basic
use Rattle.dl_base.specs.declared.concept.Head.{Head}
use Rattle.dl_base.specs.declared.concept.Head.TheVariants as heads
use Rattle.dl_base.specs.declared.concept.Inclusion.{Inclusion}
use Rattle.dl_base.specs.declared.row.NamedRow.{NamedRow}
use Rattle.dl_base.specs.declared.row.NamedRow.TheVariants as rows
use Rattle.dl_base.specs.declared.row.NamedChange.{NamedChange}

abbrev pub name_bytes : List ℕ → List ℕ
name_bytes name = length name ∷ name

abbrev pub sign_byte : Bool → ℕ
sign_byte true = 1
sign_byte false = 0

abbrev pub row_bytes : NamedRow → List ℕ
row_bytes (rows.Concept c a) = 2 ∷ (name_bytes c ++ name_bytes a)
row_bytes (rows.Role p a b) = 3 ∷ (name_bytes p ++ (name_bytes a ++ name_bytes b))

abbrev pub change_bytes : NamedChange → List ℕ
change_bytes c = sign_byte c.add ∷ row_bytes c.row

abbrev pub changes_bytes : List NamedChange → List ℕ
changes_bytes changes = big_bytes 4 (length changes) ++ flat_map change_bytes changes

-- the number of names in two bytes, and the names
abbrev pub names_bytes : List (List ℕ) → List ℕ
names_bytes names = big_bytes 2 (length names) ++ flat_map name_bytes names

abbrev pub role_tag : Bool → ℕ
role_tag false = 2
role_tag true = 3

-- a tag, and the place in two bytes
abbrev pub basic_bytes : Basic → List ℕ
basic_bytes (basic.Concept c) = 1 ∷ big_bytes 2 c
basic_bytes (basic.Exists r) = role_tag r.inverse ∷ big_bytes 2 r.name

abbrev pub inclusion_head_bytes : Head → List ℕ
inclusion_head_bytes (heads.Basic b) = basic_bytes b
inclusion_head_bytes heads.Nothing = 0 ∷ 0 ∷ 0 ∷ []

abbrev pub inclusion_bytes : Inclusion → List ℕ
inclusion_bytes i = length i.body ∷ (flat_map basic_bytes i.body ++ inclusion_head_bytes i.head)

abbrev pub inclusions_bytes : List Inclusion → List ℕ
inclusions_bytes is = big_bytes 2 (length is) ++ flat_map inclusion_bytes is

abbrev pub ontology_bytes : Terminology → List ℕ
ontology_bytes o = names_bytes o.concepts ++ (names_bytes o.roles ++ inclusions_bytes o.inclusions)

-- each name of the row is a NAME
abbrev pub HasNames : NamedRow → Type 0
HasNames (rows.Concept c a) = IsName c × IsName a
HasNames (rows.Role p a b) = IsName p × IsName a × IsName b
