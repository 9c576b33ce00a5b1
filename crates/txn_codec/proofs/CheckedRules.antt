-- What a reader of a checked grammar owes, and how the duties of parts make that of the whole.
use Rattle.std.proofs.Common.{◌≡◌, ℕ, ◌+◌, ◌≤◌, Bool, true, false, cond, List, [], ◌++◌, length, take, Ok, Err, refl, sym, ap, subst, ◌∙◌, append_assoc, arith, inl, inr, ◌⊎◌, length-append}
use Rattle.std.proofs.lemmas.List.{append_cancel_left}
use Rattle.std.proofs.Math.Seq.{take-append-add}
use Rattle.grammar.specs.Reading.{Outcome, and_then}
use Rattle.grammar.specs.Grammar.{Grammar, Begins}
use Rattle.grammar.proofs.Exact.{SameHead-refl, IsRead, IsFault, IsExact, Anything, exact_then_cut, exact_means}
use Rattle.grammar.proofs.Rules.{HasText}
use Rattle.txn_codec.specs.Checked.{Checked, plain, spoiled, ◌>>=◌, gives}

-- the front of the bytes is a loose text, and there is no flaw
pub record IsClean {V : Type 0} (c : Checked V) (text : List ℕ) (v : V) (rest : List ℕ) : Type 0 where
  pub read : IsRead c.loose Anything text v rest
  pub clean : (at : ℕ) → c.flaw text at → ⊥

-- the grammar's fault, before any flaw
pub record IsLooseFault {V : Type 0} (c : Checked V) (text : List ℕ) (left : ℕ) : Type 0 where
  pub fault : IsFault c.loose Anything text left
  pub clean : (at : ℕ) → c.flaw text at → ⊥

-- the first flaw, before any fault of the grammar
pub record IsFlawed {V : Type 0} (c : Checked V) (text : List ℕ) (left : ℕ) : Type 0 where
  pub place : ℕ
  pub is : c.flaw text place
  pub left_is : place + left ≡ length text
  pub least : (at : ℕ) → c.flaw text at → place ≤ at
  pub later : (front back : List ℕ) (v : V) → text ≡ front ++ back → c.loose front v → place ≤ length front
  pub begins : Begins c.loose (take place text)

abbrev pub IsChecked : {V : Type 0} → Checked V → List ℕ → Outcome V → Type 0
IsChecked c text (Ok x) = IsClean c text x.0 x.1
IsChecked c text (Err left) = IsLooseFault c text left ⊎ IsFlawed c text left

pub record Checks {V : Type 0} (c : Checked V) (text : List ℕ) (r : Outcome V) : Type 0 where
  pub is : IsChecked c text r
  pub some : HasText c.loose

-- ---- a grammar without flaws

plain_at : {V : Type 0} (g : Grammar V) (text : List ℕ) (r : Outcome V) → IsExact g Anything text r → IsChecked (plain g) text r
plain_at g text (Ok x) e = record { read = e; clean = λ at f. f }
plain_at g text (Err left) e = inl record { fault = e; clean = λ at f. f }

pub checks_plain : {V : Type 0} {g : Grammar V} {text : List ℕ} {r : Outcome V} → IsExact g Anything text r → HasText g → Checks (plain g) text r
checks_plain {V} {g} {text} {r} e some = record { is = plain_at g text r e; some = some }

pub checks_gives : {V : Type 0} {v : V} {text : List ℕ} → Checks (gives v) text (Ok (v, text))
checks_gives {V} {v} {text} = checks_plain (exact_means v Anything text) record { text = []; value = v; is = (refl, refl) }

-- ---- a sequence

-- how the text is cut behind the first part
unique_cut : {V : Type 0} (g : Grammar V) (text : List ℕ) (v : V) (rest : List ℕ) (e : IsRead g Anything text v rest) (front back : List ℕ) (w : V)
    → text ≡ front ++ back → g front w → (front ≡ e.front) × (w ≡ v) × (back ≡ rest)
unique_cut g text v rest e front back w cut s =
    let same : front ++ back ≡ e.front ++ rest = sym cut ∙ e.parts in
    let one = e.only front w back rest s tt same (SameHead-refl rest) in
    (one.0, one.1, append_cancel_left e.front back rest (ap (λ (a : List ℕ). a ++ back) (sym one.0) ∙ same))

module _ {V W : Type 0} (c : Checked V) (d : V → Checked W) (text : List ℕ) where
  abbrev whole : Checked W
  whole = c >>= d

  module _ (v : V) (rest : List ℕ) (e : IsClean c text v rest) (some : (v : V) → HasText (d v).loose) where
    goes : (s : List ℕ) (v : V) → c.loose s v → (t : List ℕ) × (w : W) × (d v).loose t w
    goes s v g = let t = some v in (t.text, t.value, t.is)

    second_exact : (r : Outcome W) → IsExact (d v).loose Anything rest r → IsExact whole.loose Anything text r
    second_exact r inner =
        exact_then_cut c.loose (λ v. (d v).loose) Anything Anything text (Ok (v, rest)) (λ _. r) e.read
        (λ v' rest' front cut s.
        let u = unique_cut c.loose text v rest e.read front rest' v' cut s in
        subst (λ (a : V). IsExact (d a).loose Anything rest' r) (sym u.1) (subst (λ (a : List ℕ). IsExact (d v).loose Anything a r) (sym u.2) inner))
        goes (λ v t w k s f. tt)

    -- a flaw of the whole is one of what stands behind
    moved : (at : ℕ) → whole.flaw text at → (place : ℕ) × (d v).flaw rest place × (at ≡ length e.read.front + place)
    moved at (inl a) = absurd (e.clean at a)
    moved at (inr b) =
        let u = unique_cut c.loose text v rest e.read b.front b.back b.met b.parts b.fits in (
          b.place,
          subst (λ (a : V). (d a).flaw rest b.place) u.1 (subst (λ (a : List ℕ). (d b.met).flaw a b.place) u.2 b.is),
          b.at_is ∙ ap (λ (a : List ℕ). length a + b.place) u.0,
        )

    take_both : (n : ℕ) → take (length e.read.front + n) text ≡ e.read.front ++ take n rest
    take_both n = ap (λ (a : List ℕ). take (length e.read.front + n) a) e.read.parts ∙ take-append-add e.read.front rest n

    second_checked : (r : Outcome W) → IsChecked (d v) rest r → IsChecked whole text r
    second_checked (Ok y) i = record { read = second_exact (Ok y) i.read; clean = λ at f. let m = moved at f in i.clean m.0 m.1 }
    second_checked (Err left) (inl i) = inl record { fault = second_exact (Err left) i.fault; clean = λ at f. let m = moved at f in i.clean m.0 m.1 }
    second_checked (Err left) (inr i) = inr record {
      place = length e.read.front + i.place;
      is = inr record { front = e.read.front; back = rest; met = v; place = i.place; parts = e.read.parts; fits = e.read.fits; is = i.is; at_is = refl };
      left_is = omega (arith, i.left_is, length-append e.read.front rest, ap (λ (a : List ℕ). length a) e.read.parts);
      least = λ at f. let m = moved at f in omega (arith, m.2, i.least m.0 m.1);
      later = λ front back w cut s.
          let again : text ≡ s.front ++ (s.back ++ back) = cut ∙ ap (λ (a : List ℕ). a ++ back) s.parts ∙ append_assoc s.front s.back back in
          let u = unique_cut c.loose text v rest e.read s.front (s.back ++ back) s.met again s.in_first in
          let l = i.later s.back back w (sym u.2) (subst (λ (a : V). (d a).loose s.back w) u.1 s.in_second) in
          omega (arith, l, length-append s.front s.back, ap (λ (a : List ℕ). length a) s.parts, ap (λ (a : List ℕ). length a) u.0);
      begins = (
        i.begins.0,
        i.begins.1,
        record { front = e.read.front; back = take i.place rest ++ i.begins.0; met = v; parts = ap (λ (a : List ℕ). a ++ i.begins.0) (take_both i.place) ∙ append_assoc e.read.front (take i.place rest) i.begins.0; in_first = e.read.fits; in_second = i.begins.2 },
      );
    }

  first_checked : (left : ℕ) (q : V × List ℕ → Outcome W) → ((v : V) → HasText (d v).loose) → IsChecked c text (Err left) → IsChecked whole text (Err left)
  first_checked left q some (inl i) =
      let none : (front back : List ℕ) (v : V) → text ≡ front ++ back → c.loose front v → ⊥ = λ front back v cut s. i.fault.never front v back i.fault.rest s tt (sym cut ∙ i.fault.parts) (SameHead-refl i.fault.rest) in
      inl record {
        fault = exact_then_cut c.loose (λ v. (d v).loose) Anything Anything text (Err left) (λ _. Err 0) i.fault
            (λ v rest front cut s. absurd (none front rest v cut s)) (λ s v g. let t = some v in (t.text, t.value, t.is)) (λ v t w k s f. tt);
        clean = λ at f. elim f [ inl a ↦ i.clean at a | inr b ↦ none b.front b.back b.met b.parts b.fits ];
      }
  first_checked left q some (inr i) = inr record {
    place = i.place;
    is = inl i.is;
    left_is = i.left_is;
    least = λ at f. elim f [ inl a ↦ i.least at a | inr b ↦ omega (arith, b.at_is, i.later b.front b.back b.met b.parts b.fits) ];
    later = λ front back w cut s.
        let again : text ≡ s.front ++ (s.back ++ back) = cut ∙ ap (λ (a : List ℕ). a ++ back) s.parts ∙ append_assoc s.front s.back back in
        omega (arith, i.later s.front (s.back ++ back) s.met again s.in_first, length-append s.front s.back, ap (λ (a : List ℕ). length a) s.parts);
    begins =
        let more = some i.begins.1 in
        (i.begins.0 ++ more.text, more.value, record { front = take i.place text ++ i.begins.0; back = more.text; met = i.begins.1; parts = sym (append_assoc (take i.place text) i.begins.0 more.text); in_first = i.begins.2; in_second = more.is });
  }

  checked_then : (r : Outcome V) (q : V × List ℕ → Outcome W) → ((v : V) → HasText (d v).loose) → IsChecked c text r → ((v : V) (rest : List ℕ) → IsChecked (d v) rest (q (v, rest))) → IsChecked whole text (and_then r q)
  checked_then (Ok x) q some e after = second_checked x.0 x.1 e some (q x) (after x.0 x.1)
  checked_then (Err left) q some e after = first_checked left q some e

pub checks_then : {V W : Type 0} {c : Checked V} {d : V → Checked W} {text : List ℕ} {r : Outcome V} (q : V × List ℕ → Outcome W)
    → Checks c text r → ((v : V) (rest : List ℕ) → Checks (d v) rest (q (v, rest))) → Checks (c >>= d) text (and_then r q)
checks_then {V} {W} {c} {d} {text} {r} q first second =
    let more = (second first.some.value []).some in
    record {
      is = checked_then c d text r q (λ v. (second v []).some) first.is (λ v rest. (second v rest).is);
      some = record { text = first.some.text ++ more.text; value = more.value; is = record { front = first.some.text; back = more.text; met = first.some.value; parts = refl; in_first = first.some.is; in_second = more.is } };
    }

-- ---- bad values

module _ {V : Type 0} (g : Grammar V) (place : ℕ) (bad : V → Type 0) (text : List ℕ) where
  spoiled_once : (v : V) (rest : List ℕ) (left : ℕ) (b : Bool) → (b ≡ true → bad v) → (b ≡ false → bad v → ⊥) → IsRead g Anything text v rest
      → ((t : List ℕ) (w : V) → g t w → place ≤ length t) → place + left ≡ length text → Begins g (take place text) → IsChecked (spoiled g place bad) text (cond b (Err left) (Ok (v, rest)))
  spoiled_once v rest left true is_so not_so e long left_is begins = inr record {
    place = place;
    is = record { front = e.front; back = rest; met = v; parts = e.parts; fits = e.fits; is_bad = is_so refl; at_is = refl };
    left_is = left_is;
    least = λ at f. omega (arith, f.at_is);
    later = λ front back w cut s. long front w s;
    begins = begins;
  }
  spoiled_once v rest left false is_so not_so e long left_is begins = record {
    read = e;
    clean = λ at f. let u = unique_cut g text v rest e f.front f.back f.met f.parts f.fits in not_so refl (subst bad u.1 f.is_bad);
  }

  pub exact_spoiled : (r : Outcome V) (left : ℕ) (test : V → Bool) → ((v : V) → test v ≡ true → bad v) → ((v : V) → test v ≡ false → bad v → ⊥)
      → ((t : List ℕ) (w : V) → g t w → place ≤ length t) → ((t rest : List ℕ) (w : V) → text ≡ t ++ rest → g t w → (place + left ≡ length text) × Begins g (take place text))
      → IsExact g Anything text r → IsChecked (spoiled g place bad) text (and_then r (λ x. cond (test x.0) (Err left) (Ok x)))
  exact_spoiled (Ok x) left test is_so not_so long sizes e =
      let s = sizes e.front x.1 x.0 e.parts e.fits in
      spoiled_once x.0 x.1 left (test x.0) (is_so x.0) (not_so x.0) e long s.0 s.1
  exact_spoiled (Err left') left test is_so not_so long sizes e = inl record {
    fault = e;
    clean = λ at f. e.never f.front f.met f.back e.rest f.fits tt (sym f.parts ∙ e.parts) (SameHead-refl e.rest);
  }
