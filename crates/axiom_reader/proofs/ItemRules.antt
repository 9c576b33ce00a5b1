-- Readers of lists of two to eight items, with blanks between them, up to the closing bracket.
use Rattle.std.proofs.Common.{◌≡◌, ℕ, zero, suc, ◌+◌, ◌<◌, ◌≤◌, Bool, true, false, List, [], ◌∷◌, ◌++◌, length, Option, Some, None, Ok, refl, sym, arith, inl, inr}
use Rattle.std.specs.Prelude.{codes, ◌==◌, ◌||◌, nat_le}
use Rattle.std.proofs.lemmas.Bool.{or_cases, or_parts, leb-true, leb-false, eqb-true, eqb-false}
use Rattle.std.proofs.lemmas.List.{append-nil}
use Rattle.grammar.specs.Bytes.{is_blank, is_name_byte}
use Rattle.grammar.specs.Blanks.{blanks}
use Rattle.grammar.specs.Grammar.{Grammar, ◌>>=◌, ◌>>◌, ◌∣◌, means, literal, times}
use Rattle.grammar.specs.Reading.{Outcome, next_is, and_then, some_blanks_at, until_at}
use Rattle.grammar.proofs.Exact.{Follow, Same, Anything, same_trans, same_sym, same_front, same_either, same_after, same_left, same_assoc, same_unit}
use Rattle.grammar.proofs.Parts.{Stops}
use Rattle.grammar.proofs.ByteKinds.{blank_not}
use Rattle.grammar.proofs.Rules.{Reads, FirstIs, HasText, first_literal, first_literal_alone, first_some_blanks, grows_from, first_or, first_then, first_blanks, reads_stop, reads_any, reads_last, reads_literal, reads_blanks, reads_some_blanks, reads_means, reads_same}
use Rattle.grammar.proofs.Given.{given, first_given, given_same, same_holds, same_within, same_some_blanks, reads_given_or, reads_test}
use Rattle.grammar.proofs.Lists.{until, counted, AreItems, reads_until, first_until, same_times}
use Rattle.axiom_reader.specs.AxiomGrammar.{another}
use Rattle.axiom_reader.specs.AxiomReading.{another_at}

-- what a list asks of its items
pub record IsItem {V : Type 0} (g : Grammar V) (read : List ℕ → Outcome V) : Type 0 where
  pub reads : (text : List ℕ) → Reads g (Stops is_name_byte) text (read text)
  pub not_blank : FirstIs g Anything is_blank false
  pub not_close : FirstIs g Anything (λ c. c == 41) false

abbrev closing : Grammar (Unit {0})
closing = blanks >> literal (codes ")")

abbrev item : {V : Type 0} → Grammar V → ℕ → Grammar (Option V)
item g = counted (another g) closing 1 7

abbrev after_item : {V : Type 0} → Follow (Option V)
after_item None k = Unit {0}
after_item (Some v) k = next_is is_name_byte k ≡ false

same_later : {V : Type 0} {g : Grammar V} (n : ℕ) → 1 ≤ n → Same (blanks >>= λ b. given ((n < 7) × (1 ≤ length b)) (g >>= λ v. means (Some v)) ∣ (literal (codes ")") >> means None)) (item g n)
same_later n one = same_trans same_front (same_either (same_trans (same_sym same_some_blanks) (given_same (same_sym same_assoc))) (same_trans (same_sym same_assoc) (same_sym (same_holds one))))

last_item : (n : ℕ) (b : List ℕ) → (nat_le 7 n || length b == 0) ≡ true → (n < 7) × (1 ≤ length b) → ⊥
last_item n b e h = elim (or_cases (nat_le 7 n) (length b == 0) e) [
  | inl d ↦ absurd (omega (arith, h.0, leb-true 7 n d))
  | inr d ↦ absurd (omega (arith, h.1, eqb-true (length b) 0 d))
]

not_zero : (n : ℕ) → (n == 0) ≡ false → 1 ≤ n
not_zero n e = not_none n (λ z. eqb-false n 0 e z)
  where
    not_none : (n : ℕ) → (n ≡ 0 → ⊥) → 1 ≤ n
    not_none n h = omega arith

other_item : (n : ℕ) (b : List ℕ) → (nat_le 7 n || length b == 0) ≡ false → (n < 7) × (1 ≤ length b)
other_item n b e =
    let d = or_parts (nat_le 7 n) (length b == 0) e in
    (leb-false 7 n d.0, not_zero (length b) d.1)

first_item_at : {V : Type 0} {g : Grammar V} {read : List ℕ → Outcome V} → IsItem g read → (n : ℕ) (text : List ℕ) → n ≡ 0 → Reads (item g n) after_item text (and_then (some_blanks_at text) (λ a. and_then (read a.1) (λ v. Ok (Some v.0, v.1))))
first_item_at i n text z =
    reads_same (same_sym (same_trans (same_within (λ h. omega (arith, h))) (same_trans (same_holds (omega arith)) same_assoc)))
    (reads_stop _ reads_some_blanks (λ _. first_then i.not_blank) (λ _ rest.
    reads_last (i.reads rest) (λ v k f. f)))

reads_item : {V : Type 0} {g : Grammar V} {read : List ℕ → Outcome V} → IsItem g read → (n : ℕ) (text : List ℕ) → Reads (item g n) after_item text (another_at read n text)
unfolding another_at
reads_item i n text =
    reads_test (n == 0) (λ e. first_item_at i n text (eqb-true n 0 e)) (λ e.
    reads_same (same_later n (not_zero n e))
    (reads_stop _ reads_blanks (λ b. first_or (first_given (first_then i.not_blank)) (first_literal is_blank)) (λ b rest.
    reads_given_or (λ c. c == 41) (nat_le 7 n || length b == 0) (last_item n b) (other_item n b) (first_then i.not_close) (first_literal (λ c. c == 41))
    (reads_last (i.reads rest) (λ v k f. f))
    (reads_any _ reads_literal (λ _ rest.
    reads_means)))))

first_items : {V : Type 0} {g : Grammar V} {p : ℕ → Bool} {answer : Bool} {G : Follow (Option V)} (n : ℕ) → ((c : ℕ) → is_blank c ≡ true → p c ≡ answer) → p 41 ≡ answer → FirstIs (item g n) G p answer
first_items n blank close = first_or (first_given (first_then (first_then (first_some_blanks blank)))) (first_given (first_then (first_blanks blank (λ _. first_literal_alone close))))

ends_here : {V : Type 0} {g : Grammar V} (n : ℕ) → 1 ≤ n → item g n (codes ")") None
ends_here n one = inr (one, record { front = codes ")"; back = []; met = tt; parts = refl; in_first = record { front = []; back = codes ")"; met = []; parts = refl; in_first = (tt, refl); in_second = refl }; in_second = (refl, refl) })

an_item : {V : Type 0} {g : Grammar V} (a : HasText g) → item g 0 (32 ∷ a.text) (Some a.value)
an_item a = inl (omega arith, record { front = 32 ∷ a.text; back = []; met = a.value; parts = sym (append-nil (32 ∷ a.text)); in_first = record { front = 32 ∷ []; back = a.text; met = 32 ∷ []; parts = refl; in_first = ((refl, tt), omega arith, refl); in_second = a.is }; in_second = (refl, refl) })

items_end : {V : Type 0} {g : Grammar V} → HasText g → (n : ℕ) → HasText (until (item g) n)
items_end a zero = record { text = (32 ∷ a.text) ++ codes ")"; value = a.value ∷ []; is = (32 ∷ a.text, codes ")", refl, an_item a, ends_here 1 (omega arith)) }
items_end a (suc n) = record { text = codes ")"; value = []; is = ends_here (suc n) (omega arith) }

are_items : {V : Type 0} {g : Grammar V} {read : List ℕ → Outcome V} → IsItem g read → AreItems (item g) after_item (λ k. Unit {0}) (another_at read)
are_items i = record {
  each = reads_item i;
  grows = λ n t v s. grows_from (first_items n (λ c b. refl) refl) t (Some v) s;
  ends = items_end (i.reads []).some;
  end_follow = λ k f. tt;
  item_follow = λ n v t vs k u f. first_until (λ n. first_items n (blank_not is_name_byte refl refl) refl) n t vs k u;
}

-- the list with its end
abbrev pub listed : {V W : Type 0} → Grammar V → (List V → W) → Grammar W
listed g f = times 1 7 (another g) >>= λ vs. blanks >> (literal (codes ")") >> means (f vs))

same_listed : {V W : Type 0} {g : Grammar V} {f : List V → W} → Same (until (item g) 0 >>= λ vs. means (f vs)) (listed g f)
same_listed = same_trans (same_left (same_times 1 7)) (same_trans same_assoc (same_after (λ vs. same_trans same_assoc (same_trans (same_after (λ _. same_unit)) same_assoc))))

pub reads_listed : {V W : Type 0} {g : Grammar V} {read : List ℕ → Outcome V} {f : List V → W} {G : Follow W} {text : List ℕ} → IsItem g read
    → Reads (listed g f) G text (and_then (until_at (another_at read) (length text + 1) 0 text) (λ x. Ok (f x.0, x.1)))
reads_listed {V} {W} {g} {read} {f} {G} {text} i = reads_same same_listed (reads_last (reads_until 0 (length text + 1) (are_items i) (omega arith)) (λ vs k f. tt))

first_same : {V : Type 0} {g g' : Grammar V} {G : Follow V} {p : ℕ → Bool} {answer : Bool} → Same g g' → FirstIs g G p answer → FirstIs g' G p answer
first_same same a = record { is = λ t w k s f. a.is t w k (same.back t w s) f }

pub first_listed : {V W : Type 0} {g : Grammar V} {f : List V → W} {G : Follow W} → FirstIs (listed g f) G is_name_byte false
first_listed = first_same same_listed (first_then record { is = λ t w k u f. first_until (λ n. first_items n (blank_not is_name_byte refl refl) refl) 0 t w k u })
