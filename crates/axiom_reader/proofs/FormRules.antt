-- Readers of the seven forms of axioms are exact.
use Rattle.std.proofs.Common.{◌≡◌, ℕ, Bool, false, List, ◌∷◌, refl, inl, inr}
use Rattle.std.specs.Prelude.{codes, ◌==◌}
use Rattle.grammar.specs.Bytes.{is_blank, is_name_byte}
use Rattle.grammar.specs.Blanks.{blanks, some_blanks}
use Rattle.grammar.specs.Grammar.{Grammar, ◌>>=◌, ◌>>◌, ◌∣◌, means, literal}
use Rattle.grammar.proofs.Exact.{Follow, Same, same_refl, same_trans, same_sym, same_front, same_either, same_split}
use Rattle.grammar.proofs.ByteKinds.{starting_not_blank, blank_not}
use Rattle.grammar.proofs.Rules.{Reads, FirstIs, first_literal, first_literal_is, first_some_blanks, first_or, first_then, first_blanks, reads_stop, reads_any, reads_literal, reads_blanks, reads_some_blanks, reads_means, reads_or, reads_same}
use Rattle.dl_base.proofs.NameRules.{first_name, reads_name}
use Rattle.axiom_reader.specs.declared.tree.AxiomTree.{AxiomTree}
use Rattle.axiom_reader.specs.declared.tree.AxiomTree.TheVariants.{Disjoint, Domain}
use Rattle.axiom_reader.specs.AxiomGrammar.{role, left, right, sub_class_of, equivalent, disjoint, domain, range, class, property, axiom_text}
use Rattle.axiom_reader.specs.AxiomReading.{sub_class_of_at, equivalent_at, disjoint_behind_at, domain_behind_at, range_at, class_at, property_at, behind_d_at, tree_at}
use Rattle.axiom_reader.proofs.ItemRules.{listed, reads_listed, first_listed}
use Rattle.axiom_reader.proofs.SideRules.{reads_role, first_role, reads_left, first_left, left_item, reads_right, first_right}

reads_sub_class_of : {F : Follow AxiomTree} {text : List ℕ} → Reads sub_class_of F text (sub_class_of_at text)
unfolding sub_class_of_at
reads_sub_class_of =
    reads_any _ reads_literal (λ _ rest.
    reads_stop _ reads_blanks (λ _. first_then (first_left starting_not_blank refl refl refl)) (λ _ rest.
    reads_stop _ reads_left (λ l. first_then (first_some_blanks (blank_not is_name_byte refl refl))) (λ l rest.
    reads_stop _ reads_some_blanks (λ _. first_then (first_right starting_not_blank refl refl refl refl)) (λ _ rest.
    reads_stop _ reads_right (λ h. first_blanks (blank_not is_name_byte refl refl) (λ _. first_literal is_name_byte)) (λ h rest.
    reads_stop _ reads_blanks (λ _. first_literal is_blank) (λ _ rest.
    reads_any _ reads_literal (λ _ rest.
    reads_means)))))))

reads_equivalent : {F : Follow AxiomTree} {text : List ℕ} → Reads equivalent F text (equivalent_at text)
unfolding equivalent_at
reads_equivalent =
    reads_any _ reads_literal (λ _ rest.
    reads_stop _ reads_blanks (λ _. first_then (first_left starting_not_blank refl refl refl)) (λ _ rest.
    reads_stop _ reads_left (λ l. first_then (first_some_blanks (blank_not is_name_byte refl refl))) (λ l rest.
    reads_stop _ reads_some_blanks (λ _. first_then (first_left starting_not_blank refl refl refl)) (λ _ rest.
    reads_stop _ reads_left (λ m. first_blanks (blank_not is_name_byte refl refl) (λ _. first_literal is_name_byte)) (λ m rest.
    reads_stop _ reads_blanks (λ _. first_literal is_blank) (λ _ rest.
    reads_any _ reads_literal (λ _ rest.
    reads_means)))))))

abbrev disjoint_body : Grammar AxiomTree
disjoint_body = blanks >> (left >>= λ l. listed left (λ ls. Disjoint (l ∷ ls)))

reads_disjoint_behind : {F : Follow AxiomTree} {text : List ℕ} → Reads (literal (codes "isjoint(") >> disjoint_body) F text (disjoint_behind_at text)
unfolding disjoint_behind_at
reads_disjoint_behind =
    reads_any _ reads_literal (λ _ rest.
    reads_stop _ reads_blanks (λ _. first_then (first_left starting_not_blank refl refl refl)) (λ _ rest.
    reads_stop _ reads_left (λ l. first_listed) (λ l rest.
    reads_listed left_item)))

abbrev domain_body : Grammar AxiomTree
domain_body = blanks >> (role >>= λ r. some_blanks >> (right >>= λ h. blanks >> (literal (codes ")") >> means (Domain r h))))

reads_domain_behind : {F : Follow AxiomTree} {text : List ℕ} → Reads (literal (codes "omain(") >> domain_body) F text (domain_behind_at text)
unfolding domain_behind_at
reads_domain_behind =
    reads_any _ reads_literal (λ _ rest.
    reads_stop _ reads_blanks (λ _. first_then (first_role starting_not_blank refl refl)) (λ _ rest.
    reads_stop _ reads_role (λ r. first_then (first_some_blanks (blank_not is_name_byte refl refl))) (λ r rest.
    reads_stop _ reads_some_blanks (λ _. first_then (first_right starting_not_blank refl refl refl refl)) (λ _ rest.
    reads_stop _ reads_right (λ h. first_blanks (blank_not is_name_byte refl refl) (λ _. first_literal is_name_byte)) (λ h rest.
    reads_stop _ reads_blanks (λ _. first_literal is_blank) (λ _ rest.
    reads_any _ reads_literal (λ _ rest.
    reads_means)))))))

reads_range : {F : Follow AxiomTree} {text : List ℕ} → Reads range F text (range_at text)
unfolding range_at
reads_range =
    reads_any _ reads_literal (λ _ rest.
    reads_stop _ reads_blanks (λ _. first_then (first_role starting_not_blank refl refl)) (λ _ rest.
    reads_stop _ reads_role (λ r. first_then (first_some_blanks (blank_not is_name_byte refl refl))) (λ r rest.
    reads_stop _ reads_some_blanks (λ _. first_then (first_right starting_not_blank refl refl refl refl)) (λ _ rest.
    reads_stop _ reads_right (λ h. first_blanks (blank_not is_name_byte refl refl) (λ _. first_literal is_name_byte)) (λ h rest.
    reads_stop _ reads_blanks (λ _. first_literal is_blank) (λ _ rest.
    reads_any _ reads_literal (λ _ rest.
    reads_means)))))))

reads_class : {F : Follow AxiomTree} {text : List ℕ} → Reads class F text (class_at text)
unfolding class_at
reads_class =
    reads_any _ reads_literal (λ _ rest.
    reads_stop _ reads_blanks (λ _. first_then (first_name starting_not_blank refl)) (λ _ rest.
    reads_stop _ reads_name (λ n. first_blanks (blank_not is_name_byte refl refl) (λ _. first_literal is_name_byte)) (λ n rest.
    reads_stop _ reads_blanks (λ _. first_literal is_blank) (λ _ rest.
    reads_any _ reads_literal (λ _ rest.
    reads_means)))))

reads_property : {F : Follow AxiomTree} {text : List ℕ} → Reads property F text (property_at text)
unfolding property_at
reads_property =
    reads_any _ reads_literal (λ _ rest.
    reads_stop _ reads_blanks (λ _. first_then (first_name starting_not_blank refl)) (λ _ rest.
    reads_stop _ reads_name (λ n. first_blanks (blank_not is_name_byte refl refl) (λ _. first_literal is_name_byte)) (λ n rest.
    reads_stop _ reads_blanks (λ _. first_literal is_blank) (λ _ rest.
    reads_any _ reads_literal (λ _ rest.
    reads_means)))))

-- ---- `Disjoint` and `Domain` share their first byte

abbrev behind_d : Grammar AxiomTree
behind_d = literal (codes "D") >> ((literal (codes "isjoint(") >> disjoint_body) ∣ (literal (codes "omain(") >> domain_body))

reads_behind_d : {F : Follow AxiomTree} {text : List ℕ} → Reads behind_d F text (behind_d_at text)
unfolding behind_d_at
reads_behind_d =
    reads_any _ reads_literal (λ _ rest.
    reads_or (λ c. c == 105) (first_literal (λ c. c == 105)) (first_literal (λ c. c == 105)) reads_disjoint_behind reads_domain_behind)

same_d : Same behind_d (disjoint ∣ domain)
same_d = same_trans same_front (same_either (same_sym (same_split (codes "D") (codes "isjoint("))) (same_sym (same_split (codes "D") (codes "omain("))))

-- ---- all forms

or_assoc : {V : Type 0} {a b c : Grammar V} → Same ((a ∣ b) ∣ c) (a ∣ (b ∣ c))
or_assoc = record {
  to = λ t v s. elim s [ inl l ↦ elim l [ inl a ↦ inl a | inr b ↦ inr (inl b) ] | inr c ↦ inr (inr c) ];
  back = λ t v s. elim s [ inl a ↦ inl (inl a) | inr r ↦ elim r [ inl b ↦ inl (inr b) | inr c ↦ inr c ] ];
}

abbrev tree : Grammar AxiomTree
tree = sub_class_of ∣ (equivalent ∣ (behind_d ∣ (range ∣ (class ∣ property))))

same_tree : Same tree axiom_text
unfolding axiom_text
same_tree =
    same_sym (same_trans or_assoc (same_trans or_assoc (same_trans or_assoc (same_trans or_assoc (same_trans or_assoc
    (same_either same_refl (same_either same_refl (same_trans (same_sym or_assoc) (same_either (same_sym same_d) same_refl)))))))))

reads_tree : {F : Follow AxiomTree} {text : List ℕ} → Reads tree F text (tree_at text)
unfolding tree_at
reads_tree =
    reads_or (λ c. c == 83) (first_literal_is refl) (first_or (first_literal_is refl) (first_or (first_literal_is refl) (first_or (first_literal_is refl) (first_or (first_literal_is refl) (first_literal_is refl))))) reads_sub_class_of
    (reads_or (λ c. c == 69) (first_literal_is refl) (first_or (first_literal_is refl) (first_or (first_literal_is refl) (first_or (first_literal_is refl) (first_literal_is refl)))) reads_equivalent
    (reads_or (λ c. c == 68) (first_literal_is refl) (first_or (first_literal_is refl) (first_or (first_literal_is refl) (first_literal_is refl))) reads_behind_d
    (reads_or (λ c. c == 82) (first_literal_is refl) (first_or (first_literal_is refl) (first_literal_is refl)) reads_range
    (reads_or (λ c. c == 67) (first_literal_is refl) (first_literal_is refl) reads_class reads_property))))

-- an axiom ends by itself
pub reads_axiom : {F : Follow AxiomTree} {text : List ℕ} → Reads axiom_text F text (tree_at text)
reads_axiom = reads_same same_tree reads_tree

-- an axiom begins with a letter
pub first_axiom : {p : ℕ → Bool} {F : Follow AxiomTree} → p 83 ≡ false → p 69 ≡ false → p 68 ≡ false → p 82 ≡ false → p 67 ≡ false → p 80 ≡ false → FirstIs axiom_text F p false
unfolding axiom_text
first_axiom s e d r c p = first_or (first_or (first_or (first_or (first_or (first_or (first_literal_is s) (first_literal_is e)) (first_literal_is d)) (first_literal_is d)) (first_literal_is r)) (first_literal_is c)) (first_literal_is p)
