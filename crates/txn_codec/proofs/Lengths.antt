-- How many bytes a payload has.
use Rattle.std.proofs.Common.{◌≡◌, ⊎_elim, Bool, ℕ, zero, suc, ◌+◌, List, [], ◌∷◌, ◌++◌, length, sym, ◌∙◌, ap, arith, length-append}
use Rattle.std.specs.List.{flat_map}
use Rattle.grammar.specs.Grammar.{Grammar, many}
use Rattle.dl_base.specs.Ontology.{Terminology}
use Rattle.dl_base.specs.declared.concept.Basic.{Basic}
use Rattle.dl_base.specs.declared.concept.Head.{Head}
use Rattle.dl_base.specs.declared.concept.Head.TheVariants as heads
use Rattle.dl_base.specs.declared.concept.Inclusion.{Inclusion}
use Rattle.dl_base.specs.declared.row.NamedRow.{NamedRow}
use Rattle.dl_base.specs.declared.row.NamedRow.TheVariants as rows
use Rattle.dl_base.specs.declared.row.NamedChange.{NamedChange}
use Rattle.txn_codec.specs.Pieces.{spelled_name}
use Rattle.txn_codec.specs.Changes.{change, concept_row, role_row, row, sign}
use Rattle.txn_codec.specs.Spelling.{basic_bytes, change_bytes, inclusion_bytes, inclusions_bytes, name_bytes, names_bytes, ontology_bytes, row_bytes}
use Rattle.txn_codec.specs.OntologyPayload.{inclusion, inclusions, member, names, tagged, tagged_head}
use Rattle.txn_codec.specs.Laws.{ChangesHaveTheirLength, OntologyHasItsLength}
use Rattle.txn_codec.proofs.SpelledOntology.{body_len, head_len, inclusion_len_is}

-- one text behind the other, where each has the length of what its value is written as
many_len : {V : Type 0} (g : Grammar V) (bytes : V → List ℕ) → ((text : List ℕ) (v : V) → g text v → length text ≡ length (bytes v))
    → (text : List ℕ) (vs : List V) → many g text vs → length text ≡ length (flat_map bytes vs)
many_len g bytes each text [] none = ap length none
many_len g bytes each text (v ∷ vs) m = omega (arith, ap length m.2, length-append m.0 m.1, each m.0 v m.3, many_len g bytes each m.1 vs m.4, length-append (bytes v) (flat_map bytes vs))

name_len : (text name : List ℕ) → spelled_name text name → length text ≡ length (name_bytes name)
name_len text name s = ap length s.0

sign_len : (text : List ℕ) (add : Bool) → sign text add → length text ≡ 1
sign_len text add s = ⊎_elim
    (λ yes. omega (arith, ap length yes.parts, length-append yes.front yes.back, ap length yes.in_first, ap length yes.in_second.0))
    (λ no. omega (arith, ap length no.parts, length-append no.front no.back, ap length no.in_first, ap length no.in_second.0))
    s

concept_row_len : (text : List ℕ) (r : NamedRow) → concept_row text r → length text ≡ length (row_bytes r)
concept_row_len text r s =
    let c = s.in_second in
    let a = c.in_second in
    let written : length (row_bytes (rows.Concept c.met a.met)) ≡ 1 + length (name_bytes c.met) + length (name_bytes a.met) = omega (arith, length-append (name_bytes c.met) (name_bytes a.met)) in
    omega (arith, ap length s.parts, length-append s.front s.back, ap length s.in_first, ap length c.parts, length-append c.front c.back, name_len c.front c.met c.in_first, ap length a.parts, length-append a.front a.back, name_len a.front a.met a.in_first, ap length a.in_second.0, written)
    ∙ ap (λ (x : NamedRow). length (row_bytes x)) (sym a.in_second.1)

role_row_len : (text : List ℕ) (r : NamedRow) → role_row text r → length text ≡ length (row_bytes r)
role_row_len text r s =
    let p = s.in_second in
    let a = p.in_second in
    let b = a.in_second in
    let written : length (row_bytes (rows.Role p.met a.met b.met)) ≡ 1 + length (name_bytes p.met) + length (name_bytes a.met) + length (name_bytes b.met)
    = omega (arith, length-append (name_bytes p.met) (name_bytes a.met ++ name_bytes b.met), length-append (name_bytes a.met) (name_bytes b.met)) in
    omega (arith, ap length s.parts, length-append s.front s.back, ap length s.in_first, ap length p.parts, length-append p.front p.back, name_len p.front p.met p.in_first, ap length a.parts, length-append a.front a.back, name_len a.front a.met a.in_first, ap length b.parts, length-append b.front b.back, name_len b.front b.met b.in_first, ap length b.in_second.0, written)
    ∙ ap (λ (x : NamedRow). length (row_bytes x)) (sym b.in_second.1)

row_len : (text : List ℕ) (r : NamedRow) → row text r → length text ≡ length (row_bytes r)
row_len text r s = ⊎_elim (concept_row_len text r) (role_row_len text r) s

change_len : (text : List ℕ) (c : NamedChange) → change text c → length text ≡ length (change_bytes c)
change_len text c s =
    let r = s.in_second in
    omega (arith, ap length s.parts, length-append s.front s.back, sign_len s.front s.met s.in_first, ap length r.parts, length-append r.front r.back, row_len r.front r.met r.in_first, ap length r.in_second.0, ap (λ (x : NamedChange). length (change_bytes x)) r.in_second.1)

pub changes_have_their_length : ChangesHaveTheirLength
changes_have_their_length text cs s = omega (arith, ap length s.parts, length-append s.front s.back, s.in_first.0, many_len change change_bytes change_len s.back cs s.in_second.0)

-- ---- ontologies

names_len : (most : ℕ) (text : List ℕ) (ns : List (List ℕ)) → (names most).loose text ns → length text ≡ length (names_bytes ns)
names_len most text ns s = omega (arith, ap length s.parts, length-append s.front s.back, s.in_first.0.0, many_len spelled_name name_bytes name_len s.back ns s.in_second.0)

tagged_len : (concepts roles tag : ℕ) (text : List ℕ) (b : Basic) → (tagged concepts roles tag).loose text b → length text ≡ 2
tagged_len concepts roles tag text b s = omega (arith, ap length s.parts, length-append s.front s.back, s.in_first.0, ap length s.in_second.0)

member_len : (concepts roles : ℕ) (text : List ℕ) (b : Basic) → (member concepts roles).loose text b → length text ≡ length (basic_bytes b)
member_len concepts roles text b s = omega (arith, ap length s.parts, length-append s.front s.back, ap length s.in_first.0, tagged_len concepts roles s.met s.back b s.in_second, head_len (heads.Basic b))

tagged_head_len : (concepts roles tag : ℕ) (text : List ℕ) (h : Head) → (tagged_head concepts roles tag).loose text h → length text ≡ 2
tagged_head_len concepts roles zero text h s = omega (arith, ap length s.parts, length-append s.front s.back, ap length s.in_first, ap length s.in_second.0)
tagged_head_len concepts roles (suc t) text h s = omega (arith, ap length s.parts, length-append s.front s.back, tagged_len concepts roles (suc t) s.front s.met s.in_first, ap length s.in_second.0)

inclusion_len : (concepts roles : ℕ) (text : List ℕ) (i : Inclusion) → (inclusion concepts roles).loose text i → length text ≡ length (inclusion_bytes i)
inclusion_len concepts roles text i s =
    let body = s.in_second in
    let head = body.in_second in
    omega (
      arith,
      ap length s.parts,
      length-append s.front s.back,
      ap length s.in_first.0,
      ap length body.parts,
      length-append body.front body.back,
      many_len (member concepts roles).loose basic_bytes (member_len concepts roles) body.front body.met body.in_first.0,
      body_len body.met,
      ap length head.parts,
      length-append head.front head.back,
      ap length head.in_first.parts,
      length-append head.in_first.front head.in_first.back,
      ap length head.in_first.in_first.0,
      tagged_head_len concepts roles head.in_first.met head.in_first.back head.met head.in_first.in_second,
      ap length head.in_second.0,
      inclusion_len_is i,
      ap (λ (x : Inclusion). length x.body) head.in_second.1,
    )

inclusions_len : (concepts roles : ℕ) (text : List ℕ) (is : List Inclusion) → (inclusions concepts roles).loose text is → length text ≡ length (inclusions_bytes is)
inclusions_len concepts roles text is s = omega (arith, ap length s.parts, length-append s.front s.back, s.in_first.0.0, many_len (inclusion concepts roles).loose inclusion_bytes (inclusion_len concepts roles) s.back is s.in_second.0)

pub ontology_has_its_length : OntologyHasItsLength
ontology_has_its_length text o p =
    let s = p.0 in
    let r = s.in_second in
    let i = r.in_second in
    let written : length (ontology_bytes (record { concepts = s.met; roles = r.met; inclusions = i.met })) ≡ length (names_bytes s.met) + length (names_bytes r.met) + length (inclusions_bytes i.met)
    = omega (arith, length-append (names_bytes s.met) (names_bytes r.met ++ inclusions_bytes i.met), length-append (names_bytes r.met) (inclusions_bytes i.met)) in
    omega (arith, ap length s.parts, length-append s.front s.back, names_len 512 s.front s.met s.in_first, ap length r.parts, length-append r.front r.back, names_len 256 r.front r.met r.in_first, ap length i.parts, length-append i.front i.back, inclusions_len (length s.met) (length r.met) i.front i.met i.in_first, ap length i.in_second.0, written)
    ∙ ap (λ (x : Terminology). length (ontology_bytes x)) (sym i.in_second.1)
