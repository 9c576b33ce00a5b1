-- The reading of a script's line is exact.
use Rattle.std.proofs.Common.{◌≡◌, ℕ, ◌-◌, ◌^◌, ◌≤◌, Bool, true, false, List, [], ◌∷◌, ◌++◌, length, Ok, refl, sym, ap, ◌∙◌, arith}
use Rattle.std.specs.Prelude.{codes, ◌==◌, IsTrue}
use Rattle.std.specs.List.{AllByRecursion}
use Rattle.std.proofs.lemmas.Bool.{or_from, eqb-true, eqb-false}
use Rattle.std.proofs.lemmas.List.{append-nil}
use Rattle.grammar.specs.Bytes.{is_blank, is_digit, is_name_byte}
use Rattle.grammar.specs.Blanks.{blanks, some_blanks}
use Rattle.grammar.specs.Grammar.{Grammar, ◌>>=◌, ◌>>◌, ◌∣◌, means, literal, bytes_of_kind}
use Rattle.grammar.specs.Numbers.{number}
use Rattle.grammar.specs.Reading.{next_is}
use Rattle.grammar.proofs.Exact.{Follow, Same, SameHead, Nothing, same_trans, same_sym, same_refl, same_front, same_after, same_left, same_either, same_or, same_assoc, same_unit, same_spread, same_split}
use Rattle.grammar.proofs.Parts.{Stops}
use Rattle.grammar.proofs.ByteKinds.{starting_not_blank, blank_not, apart_from}
use Rattle.grammar.proofs.Given.{given, first_given, same_holds, same_within, same_some_blanks, reads_test}
use Rattle.grammar.proofs.Digits.{reads_number, first_number}
use Rattle.grammar.proofs.Rules.{Reads, FirstIs, first_then, first_or, first_blanks, first_some_blanks, first_literal_is, first_nothing, reads_any, reads_stop, reads_last, reads_literal, reads_blanks, reads_some_blanks, reads_means, reads_or, reads_same}
use Rattle.dl_base.specs.Names.{IsWord, name}
use Rattle.dl_base.specs.Query.{Question}
use Rattle.dl_base.proofs.NameRules.{first_name, reads_name}
use Rattle.dl_base.specs.declared.row.NamedRow.{NamedRow}
use Rattle.gen_arena.specs.declared.handle.Handle.{Handle}
use Rattle.dl_base.specs.declared.row.NamedRow.TheVariants as row
use Rattle.cq_reader.proofs.QueryRules.{reads_query_and_blanks}
use Rattle.script_reader.specs.DocLines.{concept_row_text, role_row_text}
use Rattle.script_reader.specs.Commands.{row_and_blanks, word_and_blanks, session_and_blanks, session_and_row, word_and_query, handle_and_blanks, alone, with_session, with_row, with_query, with_handle, script_comment, a_command, c_command, d_command, r_command, t_command, command_text, script_line}
use Rattle.script_reader.specs.CommandReading.{third_and_blanks_at, row_and_blanks_at, word_and_blanks_at, session_at, session_and_blanks_at, session_and_row_at, word_and_query_at, handle_and_blanks_at, alone_at, with_session_at, with_row_at, with_query_at, with_handle_at, a_command_at, c_command_at, d_command_at, r_command_at, t_command_at, command_at, comment_at, script_line_at}
use Rattle.script_reader.specs.declared.command_tree.CommandTree.{CommandTree}
use Rattle.script_reader.specs.declared.command_tree.CommandTree.TheVariants as tree

-- ---- rows

some_word : (text k : List ℕ) → IsWord text → next_is (λ c. true) (text ++ k) ≡ true
some_word [] k b = absurd b
some_word (c ∷ cs) k b = refl

some_name : {G : Follow (List ℕ)} → FirstIs name G (λ c. true) true
some_name = first_or record { is = λ t w k s f. some_word t k s.0.0 } (first_literal_is refl)

-- a third name, and blanks
abbrev third : List ℕ → List ℕ → Grammar NamedRow
third first second = name >>= λ n. blanks >> means (row.Role first second n)

-- what stands behind two names
abbrev behind_two_and_blanks : List ℕ → List ℕ → Grammar NamedRow
behind_two_and_blanks first second = blanks >>= λ b. means (row.Concept first second) ∣ given (Unit {0} × (1 ≤ length b)) (third first second)

same_two : {first second : List ℕ} → Same (behind_two_and_blanks first second) ((blanks >> means (row.Concept first second)) ∣ (some_blanks >> third first second))
same_two = same_trans same_front (same_either same_refl (same_trans (same_sym same_some_blanks) (same_holds tt)))

abbrev by_names : Grammar NamedRow
by_names = name >>= λ first. some_blanks >> (name >>= λ second. behind_two_and_blanks first second)

abbrev spaced : NamedRow → Grammar NamedRow
spaced r = blanks >> means r

same_rows : Same by_names row_and_blanks
same_rows =
    let concept_out : Same (concept_row_text >>= spaced) (name >>= λ c. some_blanks >> (name >>= λ i. blanks >> means (row.Concept c i))) =
    same_trans same_assoc (same_after (λ c. same_trans same_assoc (same_after (λ _. same_trans same_assoc (same_after (λ i. same_unit)))))) in
    let role_out : Same (role_row_text >>= spaced) (name >>= λ r. some_blanks >> (name >>= λ f. some_blanks >> third r f)) =
    same_trans same_assoc (same_after (λ r. same_trans same_assoc (same_after (λ _. same_trans same_assoc (same_after (λ f. same_trans same_assoc (same_after (λ _. same_trans same_assoc (same_after (λ n. same_unit)))))))))) in
    same_trans (same_after (λ first. same_after (λ _. same_after (λ second. same_two))))
    (same_trans (same_trans (same_after (λ first. same_trans (same_after (λ _. same_front)) same_front)) same_front)
    (same_trans (same_either (same_sym concept_out) (same_sym role_out)) (same_sym same_spread)))

no_blank : (b : List ℕ) → (length b == 0) ≡ true → Unit {0} × (1 ≤ length b) → ⊥
no_blank b e h = omega (arith, h.1, eqb-true (length b) 0 e)

a_blank : (b : List ℕ) → (length b == 0) ≡ false → Unit {0} × (1 ≤ length b)
a_blank b e = (tt, some (length b) (eqb-false (length b) 0 e))
  where
    some : (n : ℕ) → (n ≡ 0 → ⊥) → 1 ≤ n
    some n h = omega arith

reads_two : (first second : List ℕ) {text : List ℕ} → Reads (behind_two_and_blanks first second) Nothing text (third_and_blanks_at first second text)
unfolding third_and_blanks_at
reads_two first second =
    reads_stop _ reads_blanks (λ b. first_or first_nothing (first_given (first_then (first_name starting_not_blank refl)))) (λ b rest.
    reads_test (length b == 0)
    (λ e. reads_same (same_sym (same_within (no_blank b e))) reads_means)
    (λ e. reads_same (same_trans same_or (same_either same_refl (same_sym (same_holds (a_blank b e)))))
    (reads_or (λ c. true) (first_then some_name) first_nothing
    (reads_stop _ reads_name (λ n. first_blanks (blank_not is_name_byte refl refl) (λ _. first_nothing)) (λ n rest.
    reads_stop _ reads_blanks (λ _. first_nothing) (λ _ rest. reads_means)))
    reads_means)))

first_same : {V : Type 0} {g g' : Grammar V} {G : Follow V} {p : ℕ → Bool} {answer : Bool} → Same g g' → FirstIs g' G p answer → FirstIs g G p answer
first_same same d = record { is = λ t w k s f. d.is t w k (same.to t w s) f }

first_behind_and_blanks : (first second : List ℕ) → FirstIs (behind_two_and_blanks first second) Nothing is_name_byte false
first_behind_and_blanks first second = first_same same_two (first_or (first_blanks (blank_not is_name_byte refl refl) (λ _. first_nothing)) (first_then (first_some_blanks (blank_not is_name_byte refl refl))))

reads_row : {text : List ℕ} → Reads row_and_blanks Nothing text (row_and_blanks_at text)
unfolding row_and_blanks_at
reads_row = reads_same same_rows
    (reads_stop _ reads_name (λ first. first_then (first_some_blanks (blank_not is_name_byte refl refl))) (λ first rest.
    reads_stop _ reads_some_blanks (λ _. first_then (first_name starting_not_blank refl)) (λ _ rest.
    reads_stop _ reads_name (λ second. first_behind_and_blanks first second) (λ second rest. reads_two first second))))

-- ---- the forms

digit_not_blank : (c : ℕ) → is_digit c ≡ true → is_blank c ≡ false
digit_not_blank c h = or_from (c == 32) (c == 9) (apart_from is_digit 32 c refl h) (apart_from is_digit 9 c refl h)

reads_word : {word text : List ℕ} → Reads (word_and_blanks word) Nothing text (word_and_blanks_at word text)
unfolding word_and_blanks_at
reads_word =
    reads_any _ reads_literal (λ _ rest.
    reads_stop _ reads_blanks (λ _. first_nothing) (λ _ rest.
    reads_means))

-- a word and a session, without what stands behind it
abbrev session_head : List ℕ → Grammar ℕ
session_head word = literal word >> (some_blanks >> number 15)

reads_head : {word text : List ℕ} → Reads (session_head word) (Stops is_digit) text (session_at word text)
unfolding session_at
reads_head =
    reads_any _ reads_literal (λ _ rest.
    reads_stop _ reads_some_blanks (λ _. first_number (omega arith) digit_not_blank) (λ _ rest.
    reads_number 15 (omega arith)))

head_out : {W : Type 0} {word : List ℕ} {k : ℕ → Grammar W} → Same (session_head word >>= k) (literal word >> (some_blanks >> (number 15 >>= k)))
head_out = same_trans same_assoc (same_after (λ _. same_assoc))

reads_session : {word text : List ℕ} → Reads (session_and_blanks word) Nothing text (session_and_blanks_at word text)
unfolding session_and_blanks_at
reads_session = reads_same head_out
    (reads_stop _ reads_head (λ s. first_blanks (blank_not is_digit refl refl) (λ _. first_nothing)) (λ s rest.
    reads_stop _ reads_blanks (λ _. first_nothing) (λ _ rest.
    reads_means)))

reads_session_row : {word text : List ℕ} → Reads (session_and_row word) Nothing text (session_and_row_at word text)
unfolding session_and_row_at
reads_session_row = reads_same head_out
    (reads_stop _ reads_head (λ s. first_then (first_some_blanks (blank_not is_digit refl refl))) (λ s rest.
    reads_stop _ reads_some_blanks (λ _. first_then (first_then (first_or (first_then (first_name starting_not_blank refl)) (first_then (first_name starting_not_blank refl))))) (λ _ rest.
    reads_last reads_row (λ r k f. f))))

reads_word_query : {word text : List ℕ} → Reads (word_and_query word) Nothing text (word_and_query_at word text)
unfolding word_and_query_at
reads_word_query =
    reads_any _ reads_literal (λ _ rest.
    reads_stop _ reads_some_blanks (λ _. first_then (first_literal_is refl)) (λ _ rest.
    reads_query_and_blanks))

reads_handle : {word text : List ℕ} → Reads (handle_and_blanks word) Nothing text (handle_and_blanks_at word text)
unfolding handle_and_blanks_at
reads_handle =
    reads_any _ reads_literal (λ _ rest.
    reads_stop _ reads_some_blanks (λ _. first_then (first_number (omega arith) digit_not_blank)) (λ _ rest.
    reads_stop _ (reads_number (2 ^ 32 - 1) (omega arith)) (λ _. first_literal_is refl) (λ slot rest.
    reads_any _ reads_literal (λ _ rest.
    reads_stop _ (reads_number (2 ^ 64 - 1) (omega arith)) (λ _. first_blanks (blank_not is_digit refl refl) (λ _. first_nothing)) (λ generation rest.
    reads_stop _ reads_blanks (λ _. first_nothing) (λ _ rest.
    reads_means))))))

reads_alone : {word text : List ℕ} {c : CommandTree} → Reads (alone word c) Nothing text (alone_at word c text)
reads_alone = reads_last reads_word (λ v k f. f)

reads_with_session : {word text : List ℕ} {c : ℕ → CommandTree} → Reads (with_session word c) Nothing text (with_session_at word c text)
reads_with_session = reads_last reads_session (λ v k f. f)

reads_with_row : (c : ℕ → NamedRow → CommandTree) {word text : List ℕ} → Reads (with_row word c) Nothing text (with_row_at word c text)
reads_with_row c = reads_last {f = λ (x : ℕ × NamedRow). c x.0 x.1} reads_session_row (λ v k f. f)

reads_with_query : {word text : List ℕ} {c : Question → CommandTree} → Reads (with_query word c) Nothing text (with_query_at word c text)
reads_with_query = reads_last reads_word_query (λ v k f. f)

reads_with_handle : {word text : List ℕ} {c : Handle → CommandTree} → Reads (with_handle word c) Nothing text (with_handle_at word c text)
reads_with_handle = reads_last reads_handle (λ v k f. f)

-- ---- commands that share their first letter

split : {V W : Type 0} {g : Grammar V} {k : V → Grammar W} (a b : List ℕ) → Same ((literal (a ++ b) >> g) >>= k) (literal a >> ((literal b >> g) >>= k))
split a b = same_trans (same_left (same_split a b)) same_assoc

abbrev a_command' : Grammar CommandTree
a_command' = literal (codes "a") >> (with_row (codes "dd") tree.Add ∣ (with_session (codes "bort") tree.Abort ∣ with_query (codes "sk") tree.Ask))

same_a : Same a_command' a_command
same_a =
    same_trans same_front (same_either (same_sym (split (codes "a") (codes "dd")))
    (same_trans same_front (same_either (same_sym (split (codes "a") (codes "bort"))) (same_sym (split (codes "a") (codes "sk"))))))

reads_a : {text : List ℕ} → Reads a_command' Nothing text (a_command_at text)
unfolding a_command_at
reads_a =
    reads_any _ reads_literal (λ _ rest.
    reads_or (λ c. c == 100) (first_then (first_literal_is refl)) (first_or (first_then (first_literal_is refl)) (first_then (first_literal_is refl))) (reads_with_row tree.Add)
    (reads_or (λ c. c == 98) (first_then (first_literal_is refl)) (first_then (first_literal_is refl)) reads_with_session reads_with_query))

abbrev c_command' : Grammar CommandTree
c_command' = literal (codes "c") >> (with_session (codes "ommit") tree.Commit ∣ alone (codes "heck") tree.Check)

same_c : Same c_command' c_command
same_c = same_trans same_front (same_either (same_sym (split (codes "c") (codes "ommit"))) (same_sym (split (codes "c") (codes "heck"))))

reads_c : {text : List ℕ} → Reads c_command' Nothing text (c_command_at text)
unfolding c_command_at
reads_c =
    reads_any _ reads_literal (λ _ rest.
    reads_or (λ c. c == 111) (first_then (first_literal_is refl)) (first_then (first_literal_is refl)) reads_with_session reads_alone)

abbrev d_command' : Grammar CommandTree
d_command' = literal (codes "d") >> (with_row (codes "el") tree.Del ∣ with_handle (codes "rop") tree.Drop)

same_d : Same d_command' d_command
same_d = same_trans same_front (same_either (same_sym (split (codes "d") (codes "el"))) (same_sym (split (codes "d") (codes "rop"))))

reads_d : {text : List ℕ} → Reads d_command' Nothing text (d_command_at text)
unfolding d_command_at
reads_d =
    reads_any _ reads_literal (λ _ rest.
    reads_or (λ c. c == 101) (first_then (first_literal_is refl)) (first_then (first_literal_is refl)) (reads_with_row tree.Del) reads_with_handle)

abbrev r_command' : Grammar CommandTree
r_command' = literal (codes "r") >> (with_handle (codes "un") tree.Run ∣ alone (codes "eopen") tree.Reopen)

same_r : Same r_command' r_command
same_r = same_trans same_front (same_either (same_sym (split (codes "r") (codes "un"))) (same_sym (split (codes "r") (codes "eopen"))))

reads_r : {text : List ℕ} → Reads r_command' Nothing text (r_command_at text)
unfolding r_command_at
reads_r =
    reads_any _ reads_literal (λ _ rest.
    reads_or (λ c. c == 117) (first_then (first_literal_is refl)) (first_then (first_literal_is refl)) reads_with_handle reads_alone)

abbrev t_command' : Grammar CommandTree
t_command' = literal (codes "t") >> (alone (codes "ables") tree.Tables ∣ alone (codes "idy") tree.Tidy)

same_t : Same t_command' t_command
same_t = same_trans same_front (same_either (same_sym (split (codes "t") (codes "ables"))) (same_sym (split (codes "t") (codes "idy"))))

reads_t : {text : List ℕ} → Reads t_command' Nothing text (t_command_at text)
unfolding t_command_at
reads_t =
    reads_any _ reads_literal (λ _ rest.
    reads_or (λ c. c == 97) (first_then (first_literal_is refl)) (first_then (first_literal_is refl)) reads_alone reads_alone)

-- ---- all commands

abbrev command' : Grammar CommandTree
command' =
    a_command' ∣ (with_session (codes "begin") tree.Begin ∣ (c_command' ∣ (d_command' ∣
    (alone (codes "ontology") tree.Ontology ∣ (with_query (codes "prepare") tree.Prepare ∣ (r_command' ∣ t_command'))))))

same_command : Same command' command_text
same_command =
    same_either same_a (same_either same_refl (same_either same_c (same_either same_d
    (same_either same_refl (same_either same_refl (same_either same_r same_t))))))

reads_command : {text : List ℕ} → Reads command' Nothing text (command_at text)
unfolding command_at
reads_command =
    reads_or (λ c. c == 97) (first_literal_is refl) (first_or (first_then (first_literal_is refl)) (first_or (first_literal_is refl) (first_or (first_literal_is refl) (first_or (first_then (first_literal_is refl)) (first_or (first_then (first_literal_is refl)) (first_or (first_literal_is refl) (first_literal_is refl))))))) reads_a
    (reads_or (λ c. c == 98) (first_then (first_literal_is refl)) (first_or (first_literal_is refl) (first_or (first_literal_is refl) (first_or (first_then (first_literal_is refl)) (first_or (first_then (first_literal_is refl)) (first_or (first_literal_is refl) (first_literal_is refl)))))) reads_with_session
    (reads_or (λ c. c == 99) (first_literal_is refl) (first_or (first_literal_is refl) (first_or (first_then (first_literal_is refl)) (first_or (first_then (first_literal_is refl)) (first_or (first_literal_is refl) (first_literal_is refl))))) reads_c
    (reads_or (λ c. c == 100) (first_literal_is refl) (first_or (first_then (first_literal_is refl)) (first_or (first_then (first_literal_is refl)) (first_or (first_literal_is refl) (first_literal_is refl)))) reads_d
    (reads_or (λ c. c == 111) (first_then (first_literal_is refl)) (first_or (first_then (first_literal_is refl)) (first_or (first_literal_is refl) (first_literal_is refl))) reads_alone
    (reads_or (λ c. c == 112) (first_then (first_literal_is refl)) (first_or (first_literal_is refl) (first_literal_is refl)) reads_with_query
    (reads_or (λ c. c == 114) (first_literal_is refl) (first_literal_is refl) reads_r reads_t))))))

first_command : {p : ℕ → Bool} {answer : Bool} → p 97 ≡ answer → p 98 ≡ answer → p 99 ≡ answer → p 100 ≡ answer → p 111 ≡ answer → p 112 ≡ answer → p 114 ≡ answer → p 116 ≡ answer → FirstIs command' Nothing p answer
first_command a b c d o p r t =
    first_or (first_literal_is a) (first_or (first_then (first_literal_is b)) (first_or (first_literal_is c) (first_or (first_literal_is d)
    (first_or (first_then (first_literal_is o)) (first_or (first_then (first_literal_is p)) (first_or (first_literal_is r) (first_literal_is t)))))))

-- ---- lines

every_byte : (text : List ℕ) → AllByRecursion (λ c. IsTrue true) text
every_byte [] = tt
every_byte (c ∷ cs) = (refl, every_byte cs)

abbrev any_bytes : Grammar CommandTree
any_bytes = bytes_of_kind (λ c. true) >> means tree.Blank

all_of : (t k x rest : List ℕ) → k ≡ [] → t ++ k ≡ rest ++ x → SameHead [] x → t ≡ rest
all_of t k [] rest f cut head = sym (append-nil t) ∙ ap (λ (a : List ℕ). t ++ a) (sym f) ∙ cut ∙ append-nil rest
all_of t k (c ∷ cs) rest f cut head = absurd head

reads_any_bytes : {text : List ℕ} → Reads any_bytes Nothing text (Ok (tree.Blank, []))
reads_any_bytes {text} = record {
  is = record {
    front = text;
    parts = sym (append-nil text);
    fits = record { front = text; back = []; met = text; parts = sym (append-nil text); in_first = (every_byte text, refl); in_second = (refl, refl) };
    only = λ t w k x s f cut head. (all_of t k x text f cut head, s.in_second.1);
  };
  some = record { text = []; value = tree.Blank; is = record { front = []; back = []; met = []; parts = refl; in_first = (tt, refl); in_second = (refl, refl) } };
}

reads_comment : {text : List ℕ} → Reads script_comment Nothing text (comment_at text)
unfolding comment_at
reads_comment = reads_any _ reads_literal (λ _ rest. reads_any_bytes)

abbrev line' : Grammar CommandTree
line' = blanks >> ((script_comment ∣ command') ∣ means tree.Blank)

same_line : Same line' script_line
same_line = same_after (λ _. same_trans same_or (same_either same_refl (same_either same_refl same_command)))

pub reads_script_line : {text : List ℕ} → Reads script_line Nothing text (script_line_at text)
unfolding script_line_at
reads_script_line = reads_same same_line
    (reads_stop _ reads_blanks (λ _. first_or (first_or (first_literal_is refl) (first_command refl refl refl refl refl refl refl refl)) first_nothing) (λ _ rest.
    reads_or (λ c. true) (first_or (first_literal_is refl) (first_command refl refl refl refl refl refl refl refl)) first_nothing
    (reads_or (λ c. c == 35) (first_literal_is refl) (first_command refl refl refl refl refl refl refl refl) reads_comment reads_command)
    reads_means))
