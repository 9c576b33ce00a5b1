-- Lists of so many texts of a checked grammar.
use Rattle.std.proofs.Common.{◌≡◌, ℕ, zero, suc, ◌+◌, ◌-◌, ◌<◌, ◌≤◌, List, [], ◌∷◌, ◌++◌, length, take, Ok, Err, refl, sym, ap, subst, ◌∙◌, append_assoc, arith, inl, inr, length-append}
use Rattle.std.proofs.lemmas.List.{append-nil}
use Rattle.grammar.specs.declared.fault.ReadError.{ReadError}
use Rattle.grammar.specs.declared.fault.ReadError.TheVariants as errors
use Rattle.grammar.specs.Reading.{Outcome, Fails, and_then, onto}
use Rattle.grammar.specs.Grammar.{Grammar, Begins}
use Rattle.grammar.proofs.Exact.{Anything, Same, exact_same}
use Rattle.txn_codec.specs.Checked.{Checked, ◌>>=◌, gives, fewer, exactly_checked}
use Rattle.txn_codec.specs.OntologyReading.{each_at}
use Rattle.txn_codec.proofs.SpelledNames.{same_none, same_some}
use Rattle.txn_codec.proofs.CheckedRules.{IsChecked, Checks, checks_then, checks_gives}

-- two checked grammars with the same texts and the same flaws
pub record SameChecked {V : Type 0} (c c' : Checked V) : Type 0 where
  pub loose : Same c.loose c'.loose
  pub to : (text : List ℕ) (at : ℕ) → c.flaw text at → c'.flaw text at
  pub back : (text : List ℕ) (at : ℕ) → c'.flaw text at → c.flaw text at

begins_same : {V : Type 0} (g g' : Grammar V) (front : List ℕ) → Same g g' → Begins g front → Begins g' front
begins_same g g' front same b = (b.0, b.1, same.to (front ++ b.0) b.1 b.2)

checked_same : {V : Type 0} (c c' : Checked V) (text : List ℕ) (r : Outcome V) → SameChecked c c' → IsChecked c text r → IsChecked c' text r
checked_same c c' text (Ok x) same e = record { read = exact_same c.loose c'.loose Anything text (Ok x) same.loose e.read; clean = λ at f. e.clean at (same.back text at f) }
checked_same c c' text (Err left) same (inl e) = inl record { fault = exact_same c.loose c'.loose Anything text (Err left) same.loose e.fault; clean = λ at f. e.clean at (same.back text at f) }
checked_same c c' text (Err left) same (inr e) = inr record {
  place = e.place;
  is = same.to text e.place e.is;
  left_is = e.left_is;
  least = λ at f. e.least at (same.back text at f);
  later = λ front back v cut s. e.later front back v cut (same.loose.back front v s);
  begins = begins_same c.loose c'.loose (take e.place text) same.loose e.begins;
}

pub checks_same : {V : Type 0} {c c' : Checked V} {text : List ℕ} {r : Outcome V} → SameChecked c c' → Checks c text r → Checks c' text r
checks_same {V} {c} {c'} {text} {r} same d = record {
  is = checked_same c c' text r same d.is;
  some = record { text = d.some.text; value = d.some.value; is = same.loose.to d.some.text d.some.value d.some.is };
}

-- ---- lists

module _ {V : Type 0} (g : Grammar V) (flaws : List V → List ℕ → ℕ → Type 0) where
  -- one that has these before it
  abbrev pub item : List V → Checked V
  item earlier = record { loose = g; flaw = flaws earlier }

  -- so many that have these before them
  abbrev pub rest_of : List V → ℕ → Checked (List V)
  rest_of earlier n = exactly_checked n g (λ more. flaws (earlier ++ more))

  abbrev unrolled : List V → ℕ → Checked (List V)
  unrolled earlier n = item earlier >>= λ v. rest_of (earlier ++ v ∷ []) n >>= λ vs. gives (v ∷ vs)

  to_rest : (earlier : List V) (n : ℕ) (text : List ℕ) (at : ℕ) → (unrolled earlier n).flaw text at → (rest_of earlier (suc n)).flaw text at
  to_rest earlier n text at (inl f) = record {
    front = [];
    back = text;
    met = [];
    place = at;
    parts = refl;
    fits = (refl, omega arith);
    is = subst (λ (a : List V). flaws a text at) (sym (append-nil earlier)) f;
    at_is = omega arith;
  }
  to_rest earlier n text at (inr b) = elim (b.is) [
    | inl f ↦ record {
      front = b.front ++ f.front;
      back = f.back;
      met = b.met ∷ f.met;
      place = f.place;
      parts = b.parts ∙ ap (λ (a : List ℕ). b.front ++ a) f.parts ∙ sym (append_assoc b.front f.front f.back);
      fits = ((b.front, f.front, refl, b.fits, f.fits.0), omega (arith, f.fits.1));
      is = subst (λ (a : List V). flaws a f.back f.place) (append_assoc earlier (b.met ∷ []) f.met) f.is;
      at_is = omega (arith, b.at_is, f.at_is, length-append b.front f.front);
    }
    | inr f ↦ absurd f.is
  ]

  from_rest : (earlier : List V) (n : ℕ) (text : List ℕ) (at : ℕ) (front back : List ℕ) (met : List V) (place : ℕ) → text ≡ front ++ back → fewer (suc n) g front met
      → flaws (earlier ++ met) back place → at ≡ length front + place → (unrolled earlier n).flaw text at
  from_rest earlier n text at front back [] place cut fits is at_is =
      let whole : text ≡ back = cut ∙ ap (λ (a : List ℕ). a ++ back) fits.0 in
      let here : place ≡ at = omega (arith, at_is, ap (λ (a : List ℕ). length a) fits.0) in
      inl (subst (λ (a : ℕ). flaws earlier text a) here (subst (λ (a : List ℕ). flaws earlier a place) (sym whole) (subst (λ (a : List V). flaws a back place) (append-nil earlier) is)))
  from_rest earlier n text at front back (v ∷ vs) place cut fits is at_is =
      let m = fits.0 in
      inr record {
        front = m.0;
        back = m.1 ++ back;
        met = v;
        place = length m.1 + place;
        parts = cut ∙ ap (λ (a : List ℕ). a ++ back) m.2 ∙ append_assoc m.0 m.1 back;
        fits = m.3;
        is = inl record {
          front = m.1;
          back = back;
          met = vs;
          place = place;
          parts = refl;
          fits = (m.4, omega (arith, fits.1));
          is = subst (λ (a : List V). flaws a back place) (sym (append_assoc earlier (v ∷ []) vs)) is;
          at_is = refl;
        };
        at_is = omega (arith, at_is, length-append m.0 m.1, ap (λ (a : List ℕ). length a) m.2);
      }

  same_rest : (earlier : List V) (n : ℕ) → SameChecked (unrolled earlier n) (rest_of earlier (suc n))
  same_rest earlier n = record {
    loose = same_some n;
    to = λ text at f. to_rest earlier n text at f;
    back = λ text at f. from_rest earlier n text at f.front f.back f.met f.place f.parts f.fits f.is f.at_is;
  }

  same_end : (earlier : List V) → SameChecked (gives []) (rest_of earlier 0)
  same_end earlier = record { loose = same_none; to = λ text at f. absurd f; back = λ text at f. absurd (omega (arith, f.fits.1)) }

  pub checks_each : (step : List V → List ℕ → Outcome V) → ((earlier : List V) (text : List ℕ) → Checks (item earlier) text (step earlier text))
      → (n : ℕ) (earlier : List V) (text : List ℕ) → Checks (rest_of earlier n) text (each_at step earlier n text)
  unfolding each_at
  checks_each step each zero earlier text = checks_same (same_end earlier) checks_gives
  checks_each step each (suc n) earlier text =
      checks_same (same_rest earlier n)
      (checks_then _ (each earlier text) (λ v rest.
      checks_then _ (checks_each step each n (earlier ++ v ∷ []) rest) (λ vs rest.
      checks_gives)))

-- ---- the loops

pub onto_each-some : {V : Type 0} (step : List V → List ℕ → Outcome V) (front : List V) (count i : ℕ) (text : List ℕ) (v : V) (after : List ℕ) → i < count → step front text ≡ Ok (v, after)
    → onto front (each_at step front (count - i) text) ≡ onto (front ++ v ∷ []) (each_at step (front ++ v ∷ []) (count - (i + 1)) after)
unfolding each_at
onto_each-some {V} step front count i text v after lt e =
    let k : count - i ≡ suc (count - (i + 1)) = omega arith in
    rw (k, e) (regroup front v (each_at step (front ++ v ∷ []) (count - (i + 1)) after))
  where
    regroup : (front : List V) (v : V) (r : Outcome (List V)) → onto front (and_then r (λ y. Ok (v ∷ y.0, y.1))) ≡ onto (front ++ v ∷ []) r
    regroup front v (Ok x) = ap (λ (vs : List V). Ok (vs, x.1)) (sym (append_assoc front (v ∷ []) x.0))
    regroup front v (Err left) = refl

pub onto_each-err : {V : Type 0} (step : List V → List ℕ → Outcome V) (front : List V) (count i : ℕ) (text : List ℕ) (left : ℕ) → i < count → step front text ≡ Err left
    → onto front (each_at step front (count - i) text) ≡ Err left
unfolding each_at
onto_each-err step front count i text left lt e =
    let k : count - i ≡ suc (count - (i + 1)) = omega arith in
    rw (k, e) refl

pub onto_each-end : {V : Type 0} (step : List V → List ℕ → Outcome V) (front : List V) (count i : ℕ) (text : List ℕ) → count ≤ i
    → onto front (each_at step front (count - i) text) ≡ Ok (front, text)
unfolding each_at
onto_each-end {V} step front count i text le =
    let k : count - i ≡ 0 = omega arith in
    rw k (ap (λ (vs : List V). Ok (vs, text)) (append-nil front))

pub ruleset each_lists = (onto_each-some, onto_each-err, onto_each-end)

-- the exit of a loop over so many values at a fault
pub each_fails : {V : Type 0} (e : ReadError) (step : List V → List ℕ → Outcome V) (front : List V) (count i : ℕ) (text : List ℕ) (total : Outcome (List V)) → i < count → Fails e (step front text)
    → onto front (each_at step front (count - i) text) ≡ total → Fails e total
each_fails errors.Memory step front count i text total lt f so_far = tt
each_fails (errors.Fault left) step front count i text total lt f so_far = sym so_far ∙ onto_each-err step front count i text left lt f
