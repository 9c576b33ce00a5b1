-- Ways of a grammar that are open only where a fact holds.
use Rattle.std.proofs.Common.{◌≡◌, ℕ, ◌≤◌, Bool, true, false, cond, List, length, refl, sym, subst, inl, inr}
use Rattle.std.specs.Prelude.{◌||◌}
use Rattle.grammar.specs.Grammar.{Grammar, ◌>>=◌, ◌>>◌, ◌∣◌}
use Rattle.grammar.specs.Blanks.{blanks, some_blanks}
use Rattle.grammar.specs.Reading.{Outcome, next_is}
use Rattle.grammar.proofs.Exact.{Follow, Same, same_sym, same_trans, same_or, same_either, same_refl}
use Rattle.grammar.proofs.Rules.{Reads, FirstIs, reads_or, reads_same}

-- the grammar where the fact holds, and no text elsewhere
abbrev pub given : {V : Type 0} → Type 0 → Grammar V → Grammar V
given P g text value = P × g text value

pub first_given : {V : Type 0} {P : Type 0} {g : Grammar V} {G : Follow V} {p : ℕ → Bool} {answer : Bool} → FirstIs g G p answer → FirstIs (given P g) G p answer
first_given a = record { is = λ t w k s f. a.is t w k s.1 f }

pub same_holds : {V : Type 0} {P : Type 0} {g : Grammar V} → P → Same (given P g) g
same_holds p = record { to = λ t v s. s.1; back = λ t v s. (p, s) }

pub same_without : {V : Type 0} {P : Type 0} {g h : Grammar V} → (P → ⊥) → Same (given P g ∣ h) h
same_without none = record { to = λ t v s. elim s [ inl l ↦ absurd (none l.0) | inr r ↦ r ]; back = λ t v s. inr s }

pub same_within : {V : Type 0} {P : Type 0} {g h : Grammar V} → (P → ⊥) → Same (h ∣ given P g) h
same_within none = record { to = λ t v s. elim s [ inl l ↦ l | inr r ↦ absurd (none r.0) ]; back = λ t v s. inl s }

-- two ways behind one fact
pub same_taken : {V : Type 0} {P : Type 0} {g h : Grammar V} → Same (given P (g ∣ h)) (given P g ∣ given P h)
same_taken = record {
  to = λ t v s. elim s.1 [ inl l ↦ inl (s.0, l) | inr r ↦ inr (s.0, r) ];
  back = λ t v s. elim s [ inl l ↦ (l.0, inl l.1) | inr r ↦ (r.0, inr r.1) ];
}

pub given_same : {V : Type 0} {P : Type 0} {g g' : Grammar V} → Same g g' → Same (given P g) (given P g')
given_same a = record { to = λ t v s. (s.0, a.to t v s.1); back = λ t v s. (s.0, a.back t v s.1) }

-- one or more blanks are any number of blanks of which there is one
pub same_some_blanks : {W : Type 0} {P : Type 0} {g : Grammar W} → Same (given P (some_blanks >> g)) (blanks >>= λ b. given (P × (1 ≤ length b)) g)
same_some_blanks {W} {P} {g} = record {
  to = λ t v s.
      let q = s.1 in
      record { front = q.front; back = q.back; met = q.met; parts = q.parts; in_first = (q.in_first.0, q.in_first.2); in_second = ((s.0, subst (λ (a : List ℕ). 1 ≤ length a) (sym q.in_first.2) q.in_first.1), q.in_second) };
  back = λ t v s.
      let fact = s.in_second.0 in
      (fact.0, record { front = s.front; back = s.back; met = s.met; parts = s.parts; in_first = (s.in_first.0, subst (λ (a : List ℕ). 1 ≤ length a) s.in_first.1 fact.1, s.in_first.1); in_second = s.in_second.1 });
}

given_or_at : {V : Type 0} {P : Type 0} {a b : Grammar V} {G : Follow V} {rest : List ℕ} {ra rb : Outcome V} (p : ℕ → Bool) (test : Bool)
    → (test ≡ true → P → ⊥) → (test ≡ false → P) → FirstIs a G p false → FirstIs b G p true → Reads a G rest ra → Reads b G rest rb
    → Reads (given P a ∣ b) G rest (cond (test || next_is p rest) rb ra)
given_or_at p true none some sa sb da db = reads_same (same_sym (same_without (none refl))) db
given_or_at p false none some sa sb da db = reads_same (same_trans same_or (same_either (same_sym (same_holds (some refl))) same_refl)) (reads_or p sb sa db da)

-- a choice by a test and the next byte, where the test says whether the first way is open
pub reads_given_or : {V : Type 0} {P : Type 0} {a b : Grammar V} {G : Follow V} {rest : List ℕ} {ra rb : Outcome V} (p : ℕ → Bool) (test : Bool)
    → (test ≡ true → P → ⊥) → (test ≡ false → P) → FirstIs a G p false → FirstIs b G p true → Reads a G rest ra → Reads b G rest rb
    → Reads (given P a ∣ b) G rest (cond (test || next_is p rest) rb ra)
reads_given_or p test none some sa sb da db = given_or_at p test none some sa sb da db

test_at : {V : Type 0} {g : Grammar V} {G : Follow V} {text : List ℕ} {r r' : Outcome V} (b : Bool) (c : Bool) → b ≡ c → (b ≡ true → Reads g G text r) → (b ≡ false → Reads g G text r') → Reads g G text (cond c r r')
test_at b true e x y = x e
test_at b false e x y = y e

-- which way is read is tested by other means than the text
pub reads_test : {V : Type 0} {g : Grammar V} {G : Follow V} {text : List ℕ} {r r' : Outcome V} (b : Bool) → (b ≡ true → Reads g G text r) → (b ≡ false → Reads g G text r') → Reads g G text (cond b r r')
reads_test b x y = test_at b b refl x y

pub reads_false : {W : Type 0} {g : Grammar W} {G : Follow W} {rest : List ℕ} {z : Outcome W} (b : Bool) (o : Outcome W) → b ≡ false → Reads g G rest z → Reads g G rest (cond b o z)
reads_false {W} {g} {G} {rest} {z} b o e d = subst (λ (a : Bool). Reads g G rest (cond a o z)) (sym e) d
