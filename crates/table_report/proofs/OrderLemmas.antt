-- The order of entries: entries are ordered, and those that compare as equal are equal.
use Rattle.std.proofs.Common.{◌≡◌, ℕ, List, [], ◌∷◌, map, refl, sym, ◌∙◌, ap}
use Rattle.std.specs.Cmp.{IsTotalOrder}
use Rattle.std.specs.Cmp.Lexicographic.{slice_cmp}
use Rattle.std.specs.declared.cmp.Ordering.{Ordering}
use Rattle.std.specs.declared.cmp.Ordering.TheVariants.{Less, Equal, Greater}
use Rattle.std.specs.Ordering.{ordering_then, nat_cmp, on, then_cmp}
use Rattle.std.proofs.lemmas.Cmp.{nat_cmp_total, nat_list_cmp_total, lists_total, on_total, then_total}
use Rattle.dl_base.specs.Clashes.{inverse_cmp}
use Rattle.dl_base.specs.Rows.{name_cmp}
use Rattle.dl_base.specs.declared.axiom.NamedRole.{NamedRole}
use Rattle.dl_base.proofs.ElemLemmas.{bit, bit_cmp, inverse_same}
use Rattle.dl_base.proofs.RisingLemmas.{nat_same, same_rising}
use Rattle.dl_base.proofs.RowLemmas.{total_as, then_equal, then_first, then_second, name_same}
use Rattle.dl_base.specs.Ontology.{Terminology}
use Rattle.dl_base.specs.declared.concept.Role.{Role}
use Rattle.dl_base.specs.declared.row.NamedRow.{NamedRow}
use Rattle.table_report.specs.TableLines.{Member, NamedIndividual, WitnessBy, Entry, WitnessEntry, ConceptEntry, RoleEntry, named_role_cmp, member_cmp, entry_cmp, entry_text, AreTableLines}

-- ---- they are ordered

member_form : Member → ℕ
member_form (NamedIndividual a) = 0
member_form (WitnessBy r) = 1

member_words : Member → List (List ℕ)
member_words (NamedIndividual a) = a ∷ []
member_words (WitnessBy r) = r.name ∷ (bit r.inverse ∷ []) ∷ []

by_member_words : (x y : Member) → then_cmp (on member_form nat_cmp) (on member_words (slice_cmp name_cmp)) x y ≡ member_cmp x y
unfolding member_form member_words
by_member_words (NamedIndividual a) (NamedIndividual b) = then_equal (name_cmp a b)
by_member_words (NamedIndividual a) (WitnessBy s) = refl
by_member_words (WitnessBy r) (NamedIndividual b) = refl
by_member_words (WitnessBy r) (WitnessBy s) =
    let direct = bit_cmp r.inverse s.inverse in
    ap (ordering_then (name_cmp r.name s.name)) (then_equal _ ∙ (then_equal _ ∙ direct))

member_total : IsTotalOrder member_cmp
member_total = total_as (then_cmp (on member_form nat_cmp) (on member_words (slice_cmp name_cmp))) member_cmp by_member_words
    (then_total (on_total member_form nat_cmp_total) (on_total member_words (lists_total nat_list_cmp_total)))

form : Entry → ℕ
form (WitnessEntry r g) = 0
form (ConceptEntry c m) = 1
form (RoleEntry p x y) = 2

words : Entry → List (List ℕ)
words (WitnessEntry r g) = r.name ∷ (bit r.inverse ∷ []) ∷ (g ∷ []) ∷ []
words (ConceptEntry c m) = c ∷ []
words (RoleEntry p x y) = p ∷ []

members : Entry → List Member
members (WitnessEntry r g) = []
members (ConceptEntry c m) = m ∷ []
members (RoleEntry p x y) = x ∷ y ∷ []

then_assoc : (r s t : Ordering) → ordering_then (ordering_then r s) t ≡ ordering_then r (ordering_then s t)
then_assoc Less s t = refl
then_assoc Equal s t = refl
then_assoc Greater s t = refl

by_parts : (x y : Entry) → then_cmp (on form nat_cmp) (then_cmp (on words (slice_cmp name_cmp)) (on members (slice_cmp member_cmp))) x y ≡ entry_cmp x y
unfolding form words members
by_parts (WitnessEntry r g) (WitnessEntry s h) =
    let direct : ordering_then (nat_cmp (bit r.inverse) (bit s.inverse)) Equal ≡ inverse_cmp r.inverse s.inverse = then_equal _ ∙ bit_cmp r.inverse s.inverse in
    let last : ordering_then (ordering_then (nat_cmp g h) Equal) Equal ≡ nat_cmp g h = then_equal _ ∙ then_equal _ in
    then_equal _ ∙ ((λ j. ordering_then (name_cmp r.name s.name) (ordering_then (direct j) (last j)))
    ∙ sym (then_assoc (name_cmp r.name s.name) (inverse_cmp r.inverse s.inverse) (nat_cmp g h)))
by_parts (WitnessEntry r g) (ConceptEntry d n) = refl
by_parts (WitnessEntry r g) (RoleEntry q n k) = refl
by_parts (ConceptEntry c m) (WitnessEntry s h) = refl
by_parts (ConceptEntry c m) (ConceptEntry d n) = λ j. ordering_then (then_equal (name_cmp c d) j) (then_equal (member_cmp m n) j)
by_parts (ConceptEntry c m) (RoleEntry q n k) = refl
by_parts (RoleEntry p x y) (WitnessEntry s h) = refl
by_parts (RoleEntry p x y) (ConceptEntry d n) = refl
by_parts (RoleEntry p x y) (RoleEntry q n k) = λ j. ordering_then (then_equal (name_cmp p q) j) (ordering_then (member_cmp x n) (then_equal (member_cmp y k) j))

pub entry_total : IsTotalOrder entry_cmp
entry_total = total_as (then_cmp (on form nat_cmp) (then_cmp (on words (slice_cmp name_cmp)) (on members (slice_cmp member_cmp)))) entry_cmp by_parts
    (then_total (on_total form nat_cmp_total) (then_total (on_total words (lists_total nat_list_cmp_total)) (on_total members (lists_total member_total))))

-- ---- those that compare as equal are equal

named_role_same : (r s : NamedRole) → named_role_cmp r s ≡ Equal → r ≡ s
named_role_same r s e =
    let name = name_same r.name s.name (then_first _ _ e) in
    let direct = inverse_same r.inverse s.inverse (then_second (name_cmp r.name s.name) _ e) in
    λ j. record { name = name j; inverse = direct j }

member_same : (x y : Member) → member_cmp x y ≡ Equal → x ≡ y
member_same (NamedIndividual a) (NamedIndividual b) e = ap NamedIndividual (name_same a b e)
member_same (NamedIndividual a) (WitnessBy s) e = absurd cc
member_same (WitnessBy r) (NamedIndividual b) e = absurd cc
member_same (WitnessBy r) (WitnessBy s) e = ap WitnessBy (named_role_same r s e)

pub entry_same : (x y : Entry) → entry_cmp x y ≡ Equal → x ≡ y
entry_same (WitnessEntry r g) (WitnessEntry s h) e =
    let role = named_role_same r s (then_first _ _ e) in
    let generation = nat_same g h (then_second (named_role_cmp r s) _ e) in
    λ j. WitnessEntry (role j) (generation j)
entry_same (WitnessEntry r g) (ConceptEntry d n) e = absurd cc
entry_same (WitnessEntry r g) (RoleEntry q n k) e = absurd cc
entry_same (ConceptEntry c m) (WitnessEntry s h) e = absurd cc
entry_same (ConceptEntry c m) (ConceptEntry d n) e =
    let concept = name_same c d (then_first _ _ e) in
    let member = member_same m n (then_second (name_cmp c d) _ e) in
    λ j. ConceptEntry (concept j) (member j)
entry_same (ConceptEntry c m) (RoleEntry q n k) e = absurd cc
entry_same (RoleEntry p x y) (WitnessEntry s h) e = absurd cc
entry_same (RoleEntry p x y) (ConceptEntry d n) e = absurd cc
entry_same (RoleEntry p x y) (RoleEntry q n k) e =
    let rest = then_second (name_cmp p q) _ e in
    let role = name_same p q (then_first _ _ e) in
    let from = member_same x n (then_first _ _ rest) in
    let to = member_same y k (then_second (member_cmp x n) _ rest) in
    λ j. RoleEntry (role j) (from j) (to j)

-- ---- so the lines of a base are one list

pub lines_once : (o : Terminology) (rows : List NamedRow) (generation : Role → ℕ) (xs ys : List (List ℕ)) → AreTableLines o rows generation xs → AreTableLines o rows generation ys → xs ≡ ys
lines_once o rows generation xs ys a b =
    let entries : a.entries ≡ b.entries = same_rising entry_cmp entry_total entry_same a.entries b.entries a.rising b.rising
    (λ x there. (b.each x).1 ((a.each x).0 there)) (λ x there. (a.each x).1 ((b.each x).0 there)) in
    a.texts ∙ (ap (map entry_text) entries ∙ sym b.texts)
