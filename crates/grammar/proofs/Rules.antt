-- The rules by which readers of parts make an exact reader of the whole.
use Rattle.std.proofs.Common.{◌≡◌, ℕ, ◌<◌, ◌≤◌, Bool, true, false, cond, List, [], ◌∷◌, ◌++◌, length, Result, Ok, Err, refl, sym, ap, subst, ◌∙◌, append_assoc, arith, inl, inr}
use Rattle.std.specs.Prelude.{IsTrue}
use Rattle.std.specs.List.{AllByRecursion}
use Rattle.grammar.specs.Bytes.{is_blank, is_kind}
use Rattle.grammar.specs.Blanks.{blanks, some_blanks}
use Rattle.grammar.specs.Grammar.{Grammar, Sequence, ◌>>=◌, means, ◌∣◌, literal}
use Rattle.grammar.specs.Reading.{Outcome, and_then, next_is, expect_at, blanks_at, some_blanks_at, whole}
use Rattle.grammar.proofs.Exact.{Follow, IsExact, Same, exact_then, exact_same, exact_fewer, exact_or, exact_means, MayFollow, Starts, Anything, Nothing, IsValueOf, IsPlaceOf, IsWhole, exact_whole}
use Rattle.grammar.proofs.Parts.{Stops, exact_literal, exact_bytes_of, exact_some_bytes}

-- some text is in the grammar
pub record HasText {V : Type 0} (g : Grammar V) : Type 0 where
  pub text : List ℕ
  pub value : V
  pub is : g text value

-- what reading gave at a text is exact for the grammar, where what follows it is as F says
pub record Reads {V : Type 0} (g : Grammar V) (F : Follow V) (text : List ℕ) (r : Outcome V) : Type 0 where
  pub is : IsExact g F text r
  pub some : HasText g

-- with what may follow, the texts of the grammar all begin with such a byte, or none does
pub record FirstIs {V : Type 0} (g : Grammar V) (G : Follow V) (p : ℕ → Bool) (answer : Bool) : Type 0 where
  pub is : Starts g G p answer

text_then : {V W : Type 0} {g : Grammar V} {h : V → Grammar W} → HasText g → ((v : V) → HasText (h v)) → HasText (g >>= h)
text_then a b =
    let rest = b a.value in
    record { text = a.text ++ rest.text; value = rest.value; is = record { front = a.text; back = rest.text; met = a.value; parts = refl; in_first = a.is; in_second = rest.is } }

-- ---- the first byte

pub first_literal : {W : Type 0} {c : ℕ} {es : List ℕ} {h : Unit {0} → Grammar W} {G : Follow W} (p : ℕ → Bool) → FirstIs (literal (c ∷ es) >>= h) G p (p c)
first_literal p = record { is = λ t w k s f. ap (λ (a : List ℕ). next_is p (a ++ k)) s.parts ∙ ap (λ (a : List ℕ). next_is p ((a ++ s.back) ++ k)) s.in_first }

pub first_literal_is : {W : Type 0} {c : ℕ} {es : List ℕ} {h : Unit {0} → Grammar W} {G : Follow W} {p : ℕ → Bool} {answer : Bool} → p c ≡ answer → FirstIs (literal (c ∷ es) >>= h) G p answer
first_literal_is {W} {c} {es} {h} {G} {p} e = record { is = λ t w k s f. (first_literal {h = h} {G = G} p).is t w k s f ∙ e }

-- a literal with nothing behind it
pub first_literal_alone : {c : ℕ} {es : List ℕ} {G : Follow (Unit {0})} {p : ℕ → Bool} {answer : Bool} → p c ≡ answer → FirstIs (literal (c ∷ es)) G p answer
first_literal_alone {c} {es} {G} {p} e = record { is = λ t w k s f. ap (λ (a : List ℕ). next_is p (a ++ k)) s ∙ e }

pub first_or : {V : Type 0} {a b : Grammar V} {G : Follow V} {p : ℕ → Bool} {answer : Bool} → FirstIs a G p answer → FirstIs b G p answer → FirstIs (a ∣ b) G p answer
first_or a b = record { is = λ t w k s f. elim s [ inl l ↦ a.is t w k l f | inr r ↦ b.is t w k r f ] }

pub first_then : {V W : Type 0} {g : Grammar V} {h : V → Grammar W} {G : Follow W} {p : ℕ → Bool} {answer : Bool} → FirstIs g Anything p answer → FirstIs (g >>= h) G p answer
first_then {V} {W} {g} {h} {G} {p} a = record { is = λ t w k s f. ap (λ (x : List ℕ). next_is p (x ++ k)) s.parts ∙ ap (next_is p) (append_assoc s.front s.back k) ∙ a.is s.front s.met (s.back ++ k) s.in_first tt }

-- the empty text: what follows it begins so
pub first_means : {V : Type 0} {v : V} {p : ℕ → Bool} → FirstIs (means v) (Stops p) p false
first_means {V} {v} {p} = record { is = λ t w k s f. ap (λ (x : List ℕ). next_is p (x ++ k)) s.0 ∙ f }

-- the empty text with nothing behind it
pub first_nothing : {V : Type 0} {v : V} {p : ℕ → Bool} → FirstIs (means v) Nothing p false
first_nothing {V} {v} {p} = record { is = λ t w k s f. ap (next_is p) (ap (λ (a : List ℕ). a ++ k) s.0 ∙ f) }

pub first_blanks : {W : Type 0} {h : List ℕ → Grammar W} {G : Follow W} {p : ℕ → Bool} {answer : Bool} → ((c : ℕ) → is_blank c ≡ true → p c ≡ answer) → ((v : List ℕ) → FirstIs (h v) G p answer) → FirstIs (blanks >>= h) G p answer
first_blanks {W} {h} {G} {p} {answer} apart more = record { is = λ t w k s f. go t w k s f s.front s.met s.in_first refl }
  where
    go : (t : List ℕ) (w : W) (k : List ℕ) (s : Sequence blanks h t w) → G w k → (front v : List ℕ) → blanks front v → s.front ≡ front → next_is p (t ++ k) ≡ answer
    go t w k s f [] v b e = ap (λ (a : List ℕ). next_is p (a ++ k)) (s.parts ∙ ap (λ (a : List ℕ). a ++ s.back) e) ∙ (more s.met).is s.back w k s.in_second f
    go t w k s f (c ∷ cs) v b e = ap (λ (a : List ℕ). next_is p (a ++ k)) (s.parts ∙ ap (λ (a : List ℕ). a ++ s.back) e) ∙ apart c b.0.0

first_of_some : (p : ℕ → Bool) (answer : Bool) (t k : List ℕ) → ((c : ℕ) → is_blank c ≡ true → p c ≡ answer) → AllByRecursion (λ c. IsTrue (is_blank c)) t → 1 ≤ length t → next_is p (t ++ k) ≡ answer
first_of_some p answer [] k apart each one = absurd (omega arith)
first_of_some p answer (c ∷ cs) k apart each one = apart c each.0

pub first_some_blanks : {G : Follow (List ℕ)} {p : ℕ → Bool} {answer : Bool} → ((c : ℕ) → is_blank c ≡ true → p c ≡ answer) → FirstIs some_blanks G p answer
first_some_blanks {G} {p} {answer} apart = record { is = λ t w k s f. first_of_some p answer t k apart s.0 s.1 }

-- where every text has a first byte, none is empty
not_empty : (t : List ℕ) → next_is (λ c. true) (t ++ []) ≡ true → 0 < length t
not_empty [] e = absurd cc
not_empty (c ∷ cs) e = omega arith

pub grows_from : {V : Type 0} {g : Grammar V} → FirstIs g Anything (λ c. true) true → (t : List ℕ) (v : V) → g t v → 0 < length t
grows_from b t v s = not_empty t (b.is t v [] s tt)

-- ---- sequences

pub reads_then : {V W : Type 0} {g : Grammar V} {h : V → Grammar W} {F : Follow V} {G : Follow W} {text : List ℕ} {r : Outcome V} (q : V × List ℕ → Outcome W)
    → Reads g F text r → ((v : V) (rest : List ℕ) → Reads (h v) G rest (q (v, rest))) → MayFollow F h G → Reads (g >>= h) G text (and_then r q)
reads_then {V} {W} {g} {h} {F} {G} {text} {r} q first second follow = record {
  is = exact_then g h F G text r q first.is (λ v rest. (second v rest).is) (λ t v s. let more = (second v []).some in (more.text, more.value, more.is)) follow;
  some = text_then first.some (λ v. (second v []).some);
}

-- behind a part that bytes of a kind go on with
pub reads_stop : {V W : Type 0} {g : Grammar V} {h : V → Grammar W} {p : ℕ → Bool} {G : Follow W} {text : List ℕ} {r : Outcome V} (q : V × List ℕ → Outcome W)
    → Reads g (Stops p) text r → ((v : V) → FirstIs (h v) G p false) → ((v : V) (rest : List ℕ) → Reads (h v) G rest (q (v, rest))) → Reads (g >>= h) G text (and_then r q)
reads_stop q first apart second = reads_then q first second (λ v t w k s f. (apart v).is t w k s f)

-- behind a part that ends by itself
pub reads_any : {V W : Type 0} {g : Grammar V} {h : V → Grammar W} {G : Follow W} {text : List ℕ} {r : Outcome V} (q : V × List ℕ → Outcome W)
    → Reads g Anything text r → ((v : V) (rest : List ℕ) → Reads (h v) G rest (q (v, rest))) → Reads (g >>= h) G text (and_then r q)
reads_any q first second = reads_then q first second (λ v t w k s f. tt)

pub reads_means : {V : Type 0} {v : V} {F : Follow V} {text : List ℕ} → Reads (means v) F text (Ok (v, text))
reads_means {V} {v} {F} {text} = record { is = exact_means v F text; some = record { text = []; value = v; is = (refl, refl) } }

-- the value is made of the part's
pub reads_last : {V W : Type 0} {g : Grammar V} {f : V → W} {F : Follow V} {G : Follow W} {text : List ℕ} {r : Outcome V}
    → Reads g F text r → ((v : V) (k : List ℕ) → G (f v) k → F v k) → Reads (g >>= λ v. means (f v)) G text (and_then r (λ x. Ok (f x.0, x.1)))
reads_last {V} {W} {g} {f} {F} {G} {text} {r} first less =
    reads_then (λ x. Ok (f x.0, x.1)) first (λ v rest. reads_means {v = f v} {F = G}) (λ v t w k s m. less_at v t w k s.0 s.1 m)
  where
    less_at : (v : V) (t : List ℕ) (w : W) (k : List ℕ) → t ≡ [] → w ≡ f v → G w k → F v (t ++ k)
    less_at v t w k e same m = subst (λ (a : List ℕ). F v (a ++ k)) (sym e) (less v k (subst (λ (x : W). G x k) same m))

pub reads_literal : {es : List ℕ} {F : Follow (Unit {0})} {text : List ℕ} → Reads (literal es) F text (expect_at es text)
reads_literal {es} {F} {text} = record { is = exact_literal es F text; some = record { text = es; value = tt; is = refl } }

pub reads_blanks : {text : List ℕ} → Reads blanks (Stops is_blank) text (blanks_at text)
unfolding blanks_at is_kind
reads_blanks {text} = record { is = exact_bytes_of is_blank text; some = record { text = []; value = []; is = (tt, refl) } }

pub reads_or : {V : Type 0} {a b : Grammar V} {G : Follow V} {text : List ℕ} {r r' : Outcome V} (p : ℕ → Bool)
    → FirstIs a G p true → FirstIs b G p false → Reads a G text r → Reads b G text r' → Reads (a ∣ b) G text (cond (next_is p text) r r')
reads_or {V} {a} {b} {G} {text} {r} {r'} p sa sb ra rb = record {
  is = exact_or a b G p text r r' sa.is sb.is (λ e. ra.is) (λ e. rb.is);
  some = record { text = ra.some.text; value = ra.some.value; is = inl ra.some.is };
}

pub reads_same : {V : Type 0} {g g' : Grammar V} {F : Follow V} {text : List ℕ} {r : Outcome V} → Same g g' → Reads g F text r → Reads g' F text r
reads_same {V} {g} {g'} {F} {text} {r} same d = record {
  is = exact_same g g' F text r same d.is;
  some = record { text = d.some.text; value = d.some.value; is = same.to d.some.text d.some.value d.some.is };
}

pub reads_fewer : {V : Type 0} {g : Grammar V} {F G : Follow V} {text : List ℕ} {r : Outcome V} → ((v : V) (k : List ℕ) → G v k → F v k) → Reads g F text r → Reads g G text r
reads_fewer {V} {g} {F} {G} {text} {r} less d = record { is = exact_fewer g F G text r less d.is; some = d.some }

pub found : {V : Type 0} {g : Grammar V} {text : List ℕ} {r : Outcome V} (v : V) → Reads g Nothing text r → whole r ≡ Ok v → IsValueOf g text v
found {V} {g} {text} {r} v d e = subst (λ (a : Result V ℕ). IsWhole g text a) e (exact_whole g text r d.is)

pub fault : {V : Type 0} {g : Grammar V} {text : List ℕ} {r : Outcome V} (left : ℕ) → Reads g Nothing text r → whole r ≡ Err left → IsPlaceOf g text left
fault {V} {g} {text} {r} left d e = subst (λ (a : Result V ℕ). IsWhole g text a) e (exact_whole g text r d.is)

pub reads_some_blanks : {text : List ℕ} → Reads some_blanks (Stops is_blank) text (some_blanks_at text)
unfolding some_blanks_at is_kind
reads_some_blanks {text} = record { is = exact_some_bytes is_blank 32 text refl; some = record { text = 32 ∷ []; value = 32 ∷ []; is = ((refl, tt), omega arith, refl) } }

pub text_means : {V : Type 0} (v : V) → HasText (means v)
text_means v = record { text = []; value = v; is = (refl, refl) }

-- where nothing follows, no byte of any kind does
pub nothing_stops : {V : Type 0} (p : ℕ → Bool) (v : V) (k : List ℕ) → Nothing v k → Stops p v k
nothing_stops p v k e = ap (next_is p) e
