-- Lists of items that go on until their end comes.
use Rattle.std.proofs.Common.{◌≡◌, ℕ, zero, suc, ◌+◌, ◌<◌, ◌≤◌, Bool, List, [], ◌∷◌, ◌++◌, length, Option, Some, None, Ok, refl, sym, ap, subst, ◌∙◌, append_assoc, arith, inl, inr}
use Rattle.std.proofs.lemmas.List.{append-nil, length-append}
use Rattle.grammar.specs.Grammar.{Grammar, Sequence, ◌>>=◌, ◌>>◌, means, ◌∣◌, many, times}
use Rattle.grammar.specs.Reading.{Outcome, and_then, then_items, until_at, next_is}
use Rattle.grammar.proofs.Exact.{Follow, IsExact, Same, exact_then, exact_then_cut, exact_same, exact_means, Anything, GoesOn, MayFollow}
use Rattle.grammar.proofs.Rules.{Reads, HasText, FirstIs}
use Rattle.grammar.proofs.Given.{given}

-- texts of items one behind the other, and the text of the end behind them; an item's grammar may depend on how many came before
abbrev pub until : {V : Type 0} → (ℕ → Grammar (Option V)) → ℕ → Grammar (List V)
until item n text [] = item n text None
until item n text (v ∷ vs) = (front : List ℕ) × (back : List ℕ) × (text ≡ front ++ back) × item n front (Some v) × until item (n + 1) back vs

-- what stands behind an item
abbrev behind : {V : Type 0} → (ℕ → Grammar (Option V)) → ℕ → Option V → Grammar (List V)
behind item n None = means []
behind item n (Some v) = until item (n + 1) >>= λ vs. means (v ∷ vs)

unrolled_to : {V : Type 0} (item : ℕ → Grammar (Option V)) (n : ℕ) (t : List ℕ) (vs : List V) (front back : List ℕ) (o : Option V) → t ≡ front ++ back → item n front o → behind item n o back vs → until item n t vs
unrolled_to item n t vs front back None cut one s =
    let t-is : front ≡ t = sym (cut ∙ ap (λ (a : List ℕ). front ++ a) s.0 ∙ append-nil front) in
    subst (λ (l : List _). until item n t l) (sym s.1) (subst (λ (a : List ℕ). item n a None) t-is one)
unrolled_to item n t vs front back (Some v) cut one s =
    let back-is : back ≡ s.front = s.parts ∙ ap (λ (a : List ℕ). s.front ++ a) s.in_second.0 ∙ append-nil s.front in
    subst (λ (l : List _). until item n t l) (sym s.in_second.1) (front, back, cut, one, subst (λ (a : List ℕ). until item (n + 1) a s.met) (sym back-is) s.in_first)

unrolled_from : {V : Type 0} (item : ℕ → Grammar (Option V)) (n : ℕ) (t : List ℕ) (vs : List V) → until item n t vs → Sequence (item n) (behind item n) t vs
unrolled_from item n t [] u = record { front = t; back = []; met = None; parts = sym (append-nil t); in_first = u; in_second = (refl, refl) }
unrolled_from item n t (v ∷ vs) u = record {
  front = u.0;
  back = u.1;
  met = Some v;
  parts = u.2;
  in_first = u.3;
  in_second = record { front = u.1; back = []; met = vs; parts = sym (append-nil u.1); in_first = u.4; in_second = (refl, refl) };
}

unrolled : {V : Type 0} (item : ℕ → Grammar (Option V)) (n : ℕ) → Same (item n >>= behind item n) (until item n)
unrolled item n = record { to = λ t vs s. unrolled_to item n t vs s.front s.back s.met s.parts s.in_first s.in_second; back = λ t vs u. unrolled_from item n t vs u }

-- what a list of items asks of its items
pub record AreItems {V : Type 0} (item : ℕ → Grammar (Option V)) (F : Follow (Option V)) (K : List ℕ → Type 0) (step : ℕ → List ℕ → Outcome (Option V)) : Type 0 where
  pub each : (n : ℕ) (text : List ℕ) → Reads (item n) F text (step n text)
  pub grows : (n : ℕ) (t : List ℕ) (v : V) → item n t (Some v) → 0 < length t
  pub ends : (n : ℕ) → HasText (until item n)
  pub end_follow : (k : List ℕ) → K k → F None k
  pub item_follow : (n : ℕ) (v : V) (t : List ℕ) (vs : List V) (k : List ℕ) → until item n t vs → K k → F (Some v) (t ++ k)

module _ {V : Type 0} (item : ℕ → Grammar (Option V)) (F : Follow (Option V)) (K : List ℕ → Type 0) (step : ℕ → List ℕ → Outcome (Option V)) (a : AreItems item F K step) where
  goes_on : (n : ℕ) → GoesOn (item n) (behind item n)
  goes_on n t None s = ([], [], (refl, refl))
  goes_on n t (Some v) s =
      let more = a.ends (n + 1) in
      (more.text, v ∷ more.value, record { front = more.text; back = []; met = more.value; parts = sym (append-nil more.text); in_first = more.is; in_second = (refl, refl) })

  follow : (n : ℕ) → MayFollow F (behind item n) (λ vs k. K k)
  follow n None t w k s f = subst (λ (x : List ℕ). F None (x ++ k)) (sym s.0) (a.end_follow k f)
  follow n (Some v) t w k s f =
      let t-is : s.front ≡ t = sym (s.parts ∙ ap (λ (x : List ℕ). s.front ++ x) s.in_second.0 ∙ append-nil s.front) in
      subst (λ (x : List ℕ). F (Some v) (x ++ k)) t-is (a.item_follow (n + 1) v s.front s.met k s.in_first f)

  behind_exact : (fuel n : ℕ) (text : List ℕ) → length text < suc fuel → ((rest : List ℕ) → length rest < fuel → IsExact (until item (n + 1)) (λ vs k. K k) rest (until_at step fuel (n + 1) rest))
      → (o : Option V) (rest front : List ℕ) → text ≡ front ++ rest → item n front o → IsExact (behind item n o) (λ vs k. K k) rest (then_items (until_at step fuel (n + 1)) (o, rest))
  behind_exact fuel n text lt more None rest front cut one = exact_means [] (λ vs k. K k) rest
  behind_exact fuel n text lt more (Some v) rest front cut one =
      let shorter : length rest < fuel = omega (arith, lt, a.grows n front v one, length-append front rest, ap (λ (x : List ℕ). length x) cut) in
      exact_then (until item (n + 1)) (λ vs. means (v ∷ vs)) (λ vs k. K k) (λ vs k. K k) rest (until_at step fuel (n + 1) rest) (λ y. Ok (v ∷ y.0, y.1)) (more rest shorter)
      (λ vs rest'. exact_means (v ∷ vs) (λ vs k. K k) rest') (λ t vs s. ([], v ∷ vs, (refl, refl))) (λ vs t w k s f. subst (λ (x : List ℕ). K (x ++ k)) (sym s.0) f)

  exact_until : (fuel n : ℕ) (text : List ℕ) → length text < fuel → IsExact (until item n) (λ vs k. K k) text (until_at step fuel n text)
  unfolding until_at
  exact_until zero n text lt = absurd (omega (arith, lt))
  exact_until (suc fuel) n text lt =
      exact_same (item n >>= behind item n) (until item n) (λ vs k. K k) text (and_then (step n text) (then_items (until_at step fuel (n + 1)))) (unrolled item n)
      (exact_then_cut (item n) (behind item n) F (λ vs k. K k) text (step n text) (then_items (until_at step fuel (n + 1))) (a.each n text).is
      (behind_exact fuel n text lt (λ rest lt'. exact_until fuel (n + 1) rest lt')) (goes_on n) (follow n))

pub reads_until : {V : Type 0} {item : ℕ → Grammar (Option V)} {F : Follow (Option V)} {K : List ℕ → Type 0} {step : ℕ → List ℕ → Outcome (Option V)} {text : List ℕ} (n fuel : ℕ)
    → AreItems item F K step → length text < fuel → Reads (until item n) (λ vs k. K k) text (until_at step fuel n text)
reads_until {V} {item} {F} {K} {step} {text} n fuel a lt = record { is = exact_until item F K step a fuel n text lt; some = a.ends n }

-- ---- a list of items is its items and then its end

abbrev pub item_or_end : {V : Type 0} → Grammar V → Grammar (Unit {0}) → Grammar (Option V)
item_or_end g e = (g >>= λ v. means (Some v)) ∣ (e >> means None)

an_item : {V : Type 0} (g : Grammar V) (e : Grammar (Unit {0})) (t : List ℕ) (v : V) → item_or_end g e t (Some v) → g t v
an_item g e t v (inl s) =
    let t-is : s.front ≡ t = sym (s.parts ∙ ap (λ (a : List ℕ). s.front ++ a) s.in_second.0 ∙ append-nil s.front) in
    let v-is : v ≡ s.met = cc (s.in_second.1) in
    subst (λ (x : _). g t x) (sym v-is) (subst (λ (a : List ℕ). g a s.met) t-is s.in_first)
an_item g e t v (inr s) = absurd (cc (s.in_second.1))

an_end : {V : Type 0} (g : Grammar V) (e : Grammar (Unit {0})) (t : List ℕ) → item_or_end g e t None → e t tt
an_end g e t (inl s) = absurd (cc (s.in_second.1))
an_end g e t (inr s) =
    let t-is : s.front ≡ t = sym (s.parts ∙ ap (λ (a : List ℕ). s.front ++ a) s.in_second.0 ∙ append-nil s.front) in
    subst (λ (a : List ℕ). e a tt) t-is s.in_first

many_from : {V : Type 0} (g : Grammar V) (e : Grammar (Unit {0})) (n : ℕ) (t : List ℕ) (vs : List V) → until (λ _. item_or_end g e) n t vs → Sequence (many g) (λ vs. e >> means vs) t vs
many_from g e n t [] u = record { front = []; back = t; met = []; parts = refl; in_first = refl; in_second = record { front = t; back = []; met = tt; parts = sym (append-nil t); in_first = an_end g e t u; in_second = (refl, refl) } }
many_from g e n t (v ∷ vs) u =
    let s = many_from g e (n + 1) u.1 vs u.4 in
    let e-part = s.in_second in
    let met-is : vs ≡ s.met = e-part.in_second.1 in
    record {
      front = u.0 ++ s.front;
      back = s.back;
      met = v ∷ s.met;
      parts = u.2 ∙ ap (λ (a : List ℕ). u.0 ++ a) s.parts ∙ sym (append_assoc u.0 s.front s.back);
      in_first = (u.0, s.front, refl, an_item g e u.0 v u.3, s.in_first);
      in_second = record { front = e-part.front; back = e-part.back; met = tt; parts = e-part.parts; in_first = e-part.in_first; in_second = (e-part.in_second.0, ap (λ (l : List _). v ∷ l) met-is) };
    }

to_until : {V : Type 0} (g : Grammar V) (e : Grammar (Unit {0})) (n : ℕ) (front back t : List ℕ) (vs : List V) → t ≡ front ++ back → many g front vs → e back tt → until (λ _. item_or_end g e) n t vs
to_until g e n front back t [] cut m end =
    inr record { front = t; back = []; met = tt; parts = sym (append-nil t); in_first = subst (λ (a : List ℕ). e a tt) (sym (cut ∙ ap (λ (a : List ℕ). a ++ back) m)) end; in_second = (refl, refl) }
to_until g e n front back t (v ∷ vs) cut m end = (
  m.0,
  m.1 ++ back,
  cut ∙ ap (λ (a : List ℕ). a ++ back) m.2 ∙ append_assoc m.0 m.1 back,
  inl record { front = m.0; back = []; met = v; parts = sym (append-nil m.0); in_first = m.3; in_second = (refl, refl) },
  to_until g e (n + 1) m.1 back (m.1 ++ back) vs refl m.4 end,
)

pub same_many : {V : Type 0} {g : Grammar V} {e : Grammar (Unit {0})} (n : ℕ) → Same (until (λ _. item_or_end g e) n) (many g >>= λ vs. e >> means vs)
same_many {V} {g} {e} n = record {
  to = λ t vs u. many_from g e n t vs u;
  back = λ t vs s.
      let p = s.in_second in
      let back-is : p.front ≡ s.back = sym (p.parts ∙ ap (λ (a : List ℕ). p.front ++ a) p.in_second.0 ∙ append-nil p.front) in
      subst (λ (l : List V). until (λ _. item_or_end g e) n t l) (sym p.in_second.1)
      (to_until g e n s.front s.back t s.met s.parts s.in_first (subst (λ (a : List ℕ). e a tt) back-is p.in_first));
}

pub same_until : {V : Type 0} {item item' : ℕ → Grammar (Option V)} (n : ℕ) → ((n : ℕ) → Same (item n) (item' n)) → Same (until item n) (until item' n)
same_until {V} {item} {item'} n each = record { to = λ t vs u. over item item' (λ k. (each k).to) n t vs u; back = λ t vs u. over item' item (λ k. (each k).back) n t vs u }
  where
    over : (item item' : ℕ → Grammar (Option V)) → ((n : ℕ) (t : List ℕ) (o : Option V) → item n t o → item' n t o) → (n : ℕ) (t : List ℕ) (vs : List V) → until item n t vs → until item' n t vs
    over item item' f n t [] u = f n t None u
    over item item' f n t (v ∷ vs) u = (u.0, u.1, u.2, f n u.0 (Some v) u.3, over item item' f (n + 1) u.1 vs u.4)

pub first_until : {V : Type 0} {item : ℕ → Grammar (Option V)} {p : ℕ → Bool} {answer : Bool} → ((n : ℕ) → FirstIs (item n) Anything p answer) → (n : ℕ) (t : List ℕ) (vs : List V) (k : List ℕ) → until item n t vs → next_is p (t ++ k) ≡ answer
first_until first n t [] k u = (first n).is t None k u tt
first_until {V} {item} {p} first n t (v ∷ vs) k u = ap (λ (a : List ℕ). next_is p (a ++ k)) u.2 ∙ ap (next_is p) (append_assoc u.0 u.1 k) ∙ (first n).is u.0 (Some v) (u.1 ++ k) u.3 tt

-- ---- a list with bounds on how many items it has

abbrev pub counted : {V : Type 0} → Grammar V → Grammar (Unit {0}) → ℕ → ℕ → ℕ → Grammar (Option V)
counted g e least most n = given (n < most) (g >>= λ v. means (Some v)) ∣ given (least ≤ n) (e >> means None)

counted_item : {V : Type 0} (g : Grammar V) (e : Grammar (Unit {0})) (least most n : ℕ) (t : List ℕ) (o : Option V) → counted g e least most n t o → item_or_end g e t o
counted_item g e least most n t o (inl s) = inl s.1
counted_item g e least most n t o (inr s) = inr s.1

counted_below : {V : Type 0} (g : Grammar V) (e : Grammar (Unit {0})) (least most n : ℕ) (t : List ℕ) (v : V) → counted g e least most n t (Some v) → n < most
counted_below g e least most n t v (inl s) = s.0
counted_below g e least most n t v (inr s) = absurd (cc (s.1.in_second.1))

-- a list and the bounds that it keeps
pub record IsCounted {V : Type 0} (g : Grammar V) (e : Grammar (Unit {0})) (least most n : ℕ) (t : List ℕ) (vs : List V) : Type 0 where
  pub is : until (λ _. item_or_end g e) n t vs
  pub enough : least ≤ n + length vs
  pub few : n + length vs ≤ most

counted_to : {V : Type 0} (g : Grammar V) (e : Grammar (Unit {0})) (least most n : ℕ) (t : List ℕ) (vs : List V) → n ≤ most → until (counted g e least most) n t vs → IsCounted g e least most n t vs
counted_to g e least most n t [] le (inl s) = absurd (cc (s.1.in_second.1))
counted_to g e least most n t [] le (inr s) = record { is = inr s.1; enough = omega (arith, s.0); few = omega (arith, le) }
counted_to g e least most n t (v ∷ vs) le u =
    let lt = counted_below g e least most n u.0 v u.3 in
    let more = counted_to g e least most (n + 1) u.1 vs (omega (arith, lt)) u.4 in
    record { is = (u.0, u.1, u.2, counted_item g e least most n u.0 (Some v) u.3, more.is); enough = omega (arith, more.enough); few = omega (arith, more.few) }

counted_back : {V : Type 0} (g : Grammar V) (e : Grammar (Unit {0})) (least most n : ℕ) (t : List ℕ) (vs : List V) → IsCounted g e least most n t vs → until (counted g e least most) n t vs
counted_back g e least most n t [] c = elim c.is [
  | inl s ↦ absurd (cc (s.in_second.1))
  | inr s ↦ inr (omega (arith, c.enough), s)
]
counted_back g e least most n t (v ∷ vs) c =
    let u = c.is in
    (u.0, u.1, u.2, back_item u.0 u.3, counted_back g e least most (n + 1) u.1 vs record { is = u.4; enough = omega (arith, c.enough); few = omega (arith, c.few) })
  where
    back_item : (t : List ℕ) → item_or_end g e t (Some v) → counted g e least most n t (Some v)
    back_item t (inl s) = inl (omega (arith, c.few), s)
    back_item t (inr s) = absurd (cc (s.in_second.1))

-- the list is so many of its items and then its end
pub same_times : {V : Type 0} {g : Grammar V} {e : Grammar (Unit {0})} (least most : ℕ) → Same (until (counted g e least most) 0) (times least most g >>= λ vs. e >> means vs)
same_times {V} {g} {e} least most = record {
  to = λ t vs u.
      let c = counted_to g e least most 0 t vs (omega arith) u in
      let s = (same_many {g = g} {e = e} 0).to t vs c.is in
      let met-is : vs ≡ s.met = s.in_second.in_second.1 in
      record { front = s.front; back = s.back; met = s.met; parts = s.parts; in_first = (s.in_first, subst (λ (l : List V). least ≤ length l) met-is (omega (arith, c.enough)), subst (λ (l : List V). length l ≤ most) met-is (omega (arith, c.few))); in_second = s.in_second };
  back = λ t vs s.
      let met-is : s.met ≡ vs = sym s.in_second.in_second.1 in
      let few : length vs ≤ most = subst (λ (l : List V). length l ≤ most) met-is s.in_first.2 in
      let enough : least ≤ length vs = subst (λ (l : List V). least ≤ length l) met-is s.in_first.1 in
      counted_back g e least most 0 t vs record {
        is = (same_many {g = g} {e = e} 0).back t vs record { front = s.front; back = s.back; met = s.met; parts = s.parts; in_first = s.in_first.0; in_second = s.in_second };
        enough = omega (arith, enough);
        few = omega (arith, few);
      };
}
