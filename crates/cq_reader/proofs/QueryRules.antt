-- Readers of terms, atoms and queries are exact.
use Rattle.std.proofs.Common.{◌≡◌, ℕ, ◌+◌, ◌<◌, Bool, true, false, List, [], ◌∷◌, ◌++◌, length, Option, Some, None, refl, ap, subst, ◌∙◌, arith, inl, inr}
use Rattle.std.specs.Prelude.{codes, ◌==◌}
use Rattle.grammar.specs.Bytes.{is_blank, is_name_byte, starts_name}
use Rattle.grammar.specs.Grammar.{Grammar, ◌>>=◌, ◌>>◌, ◌∣◌, means, literal, many}
use Rattle.grammar.specs.Blanks.{blanks}
use Rattle.std.proofs.lemmas.List.{length-append}
use Rattle.grammar.specs.Reading.{Outcome, next_is}
use Rattle.grammar.proofs.Exact.{Follow, Same, Anything, Nothing, factor, same_or, same_refl, same_trans, same_sym, same_front, same_either, same_after, same_left, same_assoc, same_unit, same_means, same_spread}
use Rattle.grammar.proofs.Parts.{Stops}
use Rattle.grammar.proofs.ByteKinds.{apart_from, starting_not_blank, blank_not}
use Rattle.grammar.proofs.Rules.{Reads, FirstIs, first_literal, first_literal_is, first_or, first_then, first_means, first_blanks, grows_from, reads_stop, reads_any, reads_last, reads_literal, reads_blanks, reads_means, reads_or, reads_same}
use Rattle.grammar.proofs.Blanks.{absorb}
use Rattle.grammar.proofs.Lists.{until, AreItems, reads_until, first_until, item_or_end, same_many, same_until}
use Rattle.dl_base.specs.Names.{variable}
use Rattle.dl_base.specs.Query.{Question}
use Rattle.dl_base.specs.declared.query.Term.{Term}
use Rattle.dl_base.specs.declared.query.Atom.{Atom}
use Rattle.dl_base.proofs.NameRules.{first_name, reads_name, reads_variable}
use Rattle.cq_reader.specs.QueryText.{term, atom, listed, some_answers, query, query_and_blanks}
use Rattle.cq_reader.specs.QueryReading.{term_at, atom_at, more_answers_at, answers_at, more_atoms_at, more_atoms_or_blanks_at, question_at, query_at, query_and_blanks_at}

pub reads_term : {text : List ℕ} → Reads term (Stops is_name_byte) text (term_at text)
unfolding term_at
reads_term =
    reads_or (λ c. c == 63) (first_then (first_literal (λ c. c == 63))) (first_then (first_name (λ c. apart_from starts_name 63 c refl) refl))
    (reads_stop _ reads_variable (λ v. first_means) (λ v rest. reads_means))
    (reads_stop _ reads_name (λ n. first_means) (λ n rest. reads_means))

first_atom : {p : ℕ → Bool} {G : Follow Atom} → ((c : ℕ) → starts_name c ≡ true → p c ≡ false) → p 60 ≡ false → FirstIs atom G p false
first_atom apart angle = first_or (first_then (first_name apart angle)) (first_then (first_name apart angle))

first_term : {p : ℕ → Bool} {G : Follow Term} → ((c : ℕ) → starts_name c ≡ true → p c ≡ false) → p 60 ≡ false → p 63 ≡ false → FirstIs term G p false
first_term apart angle mark = first_or (first_then (first_literal_is mark)) (first_then (first_name apart angle))

pub reads_atom : {text : List ℕ} {F : Follow Atom} → Reads atom F text (atom_at text)
unfolding atom_at
reads_atom =
    reads_same (same_trans (factor (λ n. factor (λ _. factor (λ _. factor (λ t. factor (λ _. same_refl)))))) same_or)
    (reads_stop _ reads_name (λ n. first_literal is_name_byte) (λ n rest.
    reads_any _ reads_literal (λ _ rest.
    reads_stop _ reads_blanks (λ _. first_then (first_term starting_not_blank refl refl)) (λ _ rest.
    reads_stop _ reads_term (λ t. first_blanks (blank_not is_name_byte refl refl) (λ _. first_or (first_literal is_name_byte) (first_literal is_name_byte))) (λ t rest.
    reads_stop _ reads_blanks (λ _. first_or (first_literal is_blank) (first_literal is_blank)) (λ _ rest.
    reads_or (λ c. c == 44) (first_literal (λ c. c == 44)) (first_literal (λ c. c == 44))
    (reads_any _ reads_literal (λ _ rest.
    reads_stop _ reads_blanks (λ _. first_then (first_term starting_not_blank refl refl)) (λ _ rest.
    reads_stop _ reads_term (λ u. first_blanks (blank_not is_name_byte refl refl) (λ _. first_literal is_name_byte)) (λ u rest.
    reads_stop _ reads_blanks (λ _. first_literal is_blank) (λ _ rest.
    reads_any _ reads_literal (λ _ rest.
    reads_means))))))
    (reads_any _ reads_literal (λ _ rest.
    reads_means))))))))

-- ---- lists

regroup_listed : {V W : Type 0} {g : Grammar V} {k : V → Grammar W} → Same (listed g >>= k) (blanks >> (literal (codes ",") >> (blanks >> (g >>= k))))
regroup_listed = same_trans same_assoc (same_after (λ _. same_trans same_assoc (same_after (λ _. same_assoc))))

-- ---- answer variables

abbrev closing : Grammar (Unit {0})
closing = blanks >> literal (codes ")")

abbrev more_answer : Grammar (Option (List ℕ))
more_answer = blanks >> ((literal (codes ",") >> (blanks >> (variable >>= λ v. means (Some v)))) ∣ (literal (codes ")") >> means None))

same_answer : Same more_answer (item_or_end (listed variable) closing)
same_answer = same_sym (same_trans (same_either regroup_listed same_assoc) (same_sym same_front))

abbrev after_answer : Follow (Option (List ℕ))
after_answer None k = Unit {0}
after_answer (Some v) k = next_is is_name_byte k ≡ false

reads_more_answers : {text : List ℕ} → Reads more_answer after_answer text (more_answers_at text)
unfolding more_answers_at
reads_more_answers =
    reads_stop _ reads_blanks (λ _. first_or (first_literal is_blank) (first_literal is_blank)) (λ _ rest.
    reads_or (λ c. c == 44) (first_literal (λ c. c == 44)) (first_literal (λ c. c == 44))
    (reads_any _ reads_literal (λ _ rest.
    reads_stop _ reads_blanks (λ _. first_then (first_literal is_blank)) (λ _ rest.
    reads_last reads_variable (λ v k f. f))))
    (reads_any _ reads_literal (λ _ rest.
    reads_means)))

first_answer : {p : ℕ → Bool} {answer : Bool} {G : Follow (Option (List ℕ))} → ((c : ℕ) → is_blank c ≡ true → p c ≡ answer) → p 44 ≡ answer → p 41 ≡ answer → FirstIs more_answer G p answer
first_answer blank comma close = first_blanks blank (λ _. first_or (first_literal_is comma) (first_literal_is close))

answer_items : AreItems (λ n. more_answer) after_answer (λ k. Unit {0}) (λ n. more_answers_at)
answer_items = record {
  each = λ n text. reads_more_answers;
  grows = λ n t v s. grows_from (first_answer (λ c b. refl) refl refl) t (Some v) s;
  ends = λ n. record { text = codes ")"; value = []; is = record { front = []; back = codes ")"; met = []; parts = refl; in_first = (tt, refl); in_second = inr record { front = codes ")"; back = []; met = tt; parts = refl; in_first = refl; in_second = (refl, refl) } } };
  end_follow = λ k f. tt;
  item_follow = λ n v t vs k u f. first_until (λ n. first_answer (blank_not is_name_byte refl refl) refl refl) n t vs k u;
}

abbrev answers' : Grammar (List (List ℕ))
answers' = (variable >>= λ v. until (λ n. more_answer) 0 >>= λ vs. means (v ∷ vs)) ∣ (literal (codes ")") >> means [])

reads_answers : {F : Follow (List (List ℕ))} {text : List ℕ} → Reads answers' F text (answers_at text)
unfolding answers_at
reads_answers =
    reads_or (λ c. c == 63) (first_then (first_literal (λ c. c == 63))) (first_literal (λ c. c == 63))
    (reads_stop _ reads_variable (λ v. first_then record { is = λ t w k u f. first_until (λ n. first_answer (blank_not is_name_byte refl refl) refl refl) 0 t w k u }) (λ v rest.
    reads_last (reads_until 0 (length rest + 1) answer_items (omega arith)) (λ vs k f. tt)))
    (reads_any _ reads_literal (λ _ rest.
    reads_means))

-- the list with its bracket is the list, blanks and the bracket
abbrev bracketed : Grammar (List (List ℕ))
bracketed = (some_answers ∣ means []) >>= λ vs. closing >> means vs

same_answers : Same (blanks >> answers') (blanks >> bracketed)
same_answers =
    let listed_out : (v : List ℕ) → Same (until (λ n. more_answer) 0 >>= λ vs. means (v ∷ vs)) (many (listed variable) >>= λ vs. closing >> means (v ∷ vs)) =
    λ v. same_trans (same_left (same_trans (same_until 0 (λ n. same_answer)) (same_many 0))) (same_trans same_assoc (same_after (λ vs. same_trans same_assoc (same_after (λ _. same_unit))))) in
    let some_out : Same (some_answers >>= λ vs. closing >> means vs) (variable >>= λ v. many (listed variable) >>= λ vs. closing >> means (v ∷ vs)) =
    same_trans same_assoc (same_after (λ v. same_trans same_assoc (same_after (λ vs. same_unit)))) in
    let none_out : Same (means [] >>= λ vs. closing >> means vs) (blanks >> (literal (codes ")") >> means [])) =
    same_trans same_unit same_assoc in
    same_sym (same_trans (same_after (λ _. same_trans same_spread (same_either (same_trans some_out (same_sym (same_after listed_out))) none_out))) absorb)

-- ---- atoms

abbrev more_atom : Grammar (Option Atom)
more_atom = (blanks >> (literal (codes ",") >> (blanks >> (atom >>= λ a. means (Some a))))) ∣ means None

same_more_atom : Same more_atom (item_or_end (listed atom) (means tt))
same_more_atom = same_sym (same_either regroup_listed same_unit)

abbrev after_atom : Follow (Option Atom)
after_atom None k = k ≡ []
after_atom (Some a) k = Unit {0}

none_last : (p : ℕ → Bool) (t k : List ℕ) (w : Option Atom) → t ≡ [] → w ≡ None → after_atom w k → next_is p (t ++ k) ≡ false
none_last p t k w e o f =
    let k-is : k ≡ [] = subst (λ (x : Option Atom). after_atom x k) o f in
    ap (λ (a : List ℕ). next_is p (a ++ k)) e ∙ ap (next_is p) k-is

first_none : {p : ℕ → Bool} → FirstIs (means None) after_atom p false
first_none {p} = record { is = λ t w k s f. none_last p t k w s.0 s.1 f }

reads_more_atoms : {text : List ℕ} → Reads more_atom after_atom text (more_atoms_at text)
unfolding more_atoms_at
reads_more_atoms =
    reads_or (λ c. true) (first_blanks (λ c b. refl) (λ _. first_literal (λ c. true))) first_none
    (reads_stop _ reads_blanks (λ _. first_literal is_blank) (λ _ rest.
    reads_any _ reads_literal (λ _ rest.
    reads_stop _ reads_blanks (λ _. first_then (first_atom starting_not_blank refl)) (λ _ rest.
    reads_last (reads_atom {F = Anything}) (λ a k f. tt)))))
    reads_means

atom_grows : (t : List ℕ) (a : Atom) → more_atom t (Some a) → 0 < length t
atom_grows t a (inl s) = grows_from (first_blanks (λ c b. refl) (λ _. first_literal (λ c. true))) t (Some a) s
atom_grows t a (inr s) = absurd (cc (s.1))

atom_items : AreItems (λ n. more_atom) after_atom (λ k. k ≡ []) (λ n. more_atoms_at)
atom_items = record {
  each = λ n text. reads_more_atoms;
  grows = λ n t v s. atom_grows t v s;
  ends = λ n. record { text = []; value = []; is = inr (refl, refl) };
  end_follow = λ k f. f;
  item_follow = λ n v t vs k u f. tt;
}

-- ---- atoms with blanks behind them

abbrev more_atom_or_blanks : Grammar (Option Atom)
more_atom_or_blanks = blanks >> ((literal (codes ",") >> (blanks >> (atom >>= λ a. means (Some a)))) ∣ means None)

abbrev only_blanks : Grammar (Unit {0})
only_blanks = blanks >> means tt

same_or_blanks : Same more_atom_or_blanks (item_or_end (listed atom) only_blanks)
same_or_blanks = same_sym (same_trans (same_either regroup_listed (same_trans same_assoc (same_after (λ _. same_unit)))) (same_sym same_front))

reads_more_or_blanks : {text : List ℕ} → Reads more_atom_or_blanks after_atom text (more_atoms_or_blanks_at text)
unfolding more_atoms_or_blanks_at
reads_more_or_blanks =
    reads_stop _ reads_blanks (λ _. first_or (first_literal is_blank) first_none) (λ _ rest.
    reads_or (λ c. c == 44) (first_literal (λ c. c == 44)) first_none
    (reads_any _ reads_literal (λ _ rest.
    reads_stop _ reads_blanks (λ _. first_then (first_atom starting_not_blank refl)) (λ _ rest.
    reads_last (reads_atom {F = Anything}) (λ a k f. tt))))
    reads_means)

or_blanks_grows : (t : List ℕ) (a : Atom) → more_atom_or_blanks t (Some a) → 0 < length t
or_blanks_grows t a s = elim s.in_second [
  | inl l ↦
      let some = grows_from (first_literal (λ c. true)) s.back (Some a) l in
      omega (arith, some, ap (λ (x : List ℕ). length x) s.parts, length-append s.front s.back)
  | inr r ↦ absurd (cc (r.1))
]

or_blanks_items : AreItems (λ n. more_atom_or_blanks) after_atom (λ k. k ≡ []) (λ n. more_atoms_or_blanks_at)
or_blanks_items = record {
  each = λ n text. reads_more_or_blanks;
  grows = λ n t v s. or_blanks_grows t v s;
  ends = λ n. record { text = []; value = []; is = record { front = []; back = []; met = []; parts = refl; in_first = (tt, refl); in_second = inr (refl, refl) } };
  end_follow = λ k f. f;
  item_follow = λ n v t vs k u f. tt;
}

-- ---- a query

abbrev body' : Grammar (Option Atom) → List (List ℕ) → Grammar Question
body' more vs = blanks >> (literal (codes ":-") >> (blanks >> (atom >>= λ a. until (λ n. more) 0 >>= λ bs. means (record { answers = vs; atoms = a ∷ bs }))))

abbrev query' : Grammar (Option Atom) → Grammar Question
query' more = literal (codes "q(") >> (blanks >> (answers' >>= body' more))

reads_query' : {more : Grammar (Option Atom)} {step : List ℕ → Outcome (Option Atom)} {text : List ℕ} → AreItems (λ n. more) after_atom (λ k. k ≡ []) (λ n. step) → Reads (query' more) Nothing text (question_at (λ n. step) text)
unfolding question_at
reads_query' items =
    reads_any _ reads_literal (λ _ rest.
    reads_stop _ reads_blanks (λ _. first_then (first_or (first_then (first_literal is_blank)) (first_literal is_blank))) (λ _ rest.
    reads_any _ reads_answers (λ vs rest.
    reads_stop _ reads_blanks (λ _. first_literal is_blank) (λ _ rest.
    reads_any _ reads_literal (λ _ rest.
    reads_stop _ reads_blanks (λ _. first_then (first_atom starting_not_blank refl)) (λ _ rest.
    reads_any _ reads_atom (λ a rest.
    reads_last (reads_until 0 (length rest + 1) items (omega arith)) (λ vs k f. f))))))))

-- a query, and its end behind it
abbrev ended : Grammar (Unit {0}) → Grammar Question
ended e = query >>= λ q. e >> means q

abbrev body_ended : Grammar (Unit {0}) → List (List ℕ) → Grammar Question
body_ended e vs = blanks >> (literal (codes ")") >> (blanks >> (literal (codes ":-") >> (blanks >> (atom >>= λ a. many (listed atom) >>= λ bs. e >> means (record { answers = vs; atoms = a ∷ bs }))))))

abbrev query_ended : Grammar (Unit {0}) → Grammar Question
query_ended e = literal (codes "q(") >> (blanks >> ((some_answers ∣ means []) >>= body_ended e))

spread_end : {e : Grammar (Unit {0})} → Same (ended e) (query_ended e)
spread_end =
    same_trans same_assoc (same_after (λ _.
    same_trans same_assoc (same_after (λ _.
    same_trans same_assoc (same_after (λ vs.
    same_trans same_assoc (same_after (λ _.
    same_trans same_assoc (same_after (λ _.
    same_trans same_assoc (same_after (λ _.
    same_trans same_assoc (same_after (λ _.
    same_trans same_assoc (same_after (λ _.
    same_trans same_assoc (same_after (λ a.
    same_trans same_assoc (same_after (λ bs. same_unit))))))))))))))))))))

same_query : {more : Grammar (Option Atom)} {e : Grammar (Unit {0})} → Same more (item_or_end (listed atom) e) → Same (query' more) (query_ended e)
same_query {more} {e} same =
    let atoms_out : (vs : List (List ℕ)) (a : Atom) → Same (until (λ n. more) 0 >>= λ bs. means (record { answers = vs; atoms = a ∷ bs })) (many (listed atom) >>= λ bs. e >> means (record { answers = vs; atoms = a ∷ bs })) =
    λ vs a. same_trans (same_left (same_trans (same_until 0 (λ n. same)) (same_many 0))) (same_trans same_assoc (same_after (λ bs. same_trans same_assoc (same_after (λ _. same_unit))))) in
    let body_out : (vs : List (List ℕ)) → Same (closing >> means vs >>= body' more) (body_ended e vs) =
    λ vs. same_trans same_assoc (same_trans (same_after (λ _. same_unit)) (same_trans same_assoc (same_after (λ _. same_after (λ _. same_after (λ _. same_after (λ _. same_after (λ _. same_after (λ a. atoms_out vs a))))))))) in
    same_after (λ _. same_trans (same_sym same_assoc) (same_trans (same_left same_answers) (same_trans same_assoc (same_after (λ _. same_trans same_assoc (same_after (λ vs. body_out vs)))))))

pub reads_query : {text : List ℕ} → Reads query Nothing text (query_at text)
reads_query =
    reads_same (same_trans (same_query same_more_atom) (same_trans (same_sym spread_end) (same_trans (same_after (λ q. same_unit)) same_means)))
    (reads_query' atom_items)

pub reads_query_and_blanks : {text : List ℕ} → Reads query_and_blanks Nothing text (query_and_blanks_at text)
reads_query_and_blanks =
    reads_same (same_trans (same_query same_or_blanks) (same_trans (same_sym spread_end) (same_after (λ q. same_trans same_assoc (same_after (λ _. same_unit))))))
    (reads_query' or_blanks_items)
