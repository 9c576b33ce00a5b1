-- Blanks around a text, and between its parts.
use Rattle.std.proofs.Common.{◌≡◌, ℕ, zero, suc, ◌-◌, ◌<◌, ◌≤◌, ◌⊎◌, inl, inr, Bool, true, false, List, [], ◌∷◌, ◌++◌, length, take, drop, arith, refl, sym, ◌∙◌, ap, subst, append_assoc, true≢false}
use Rattle.std.specs.Prelude.{IsTrue}
use Rattle.std.specs.List.{AllByRecursion}
use Rattle.std.proofs.lemmas.List.{append-nil, take-append-drop, length-drop}
use Rattle.std.proofs.Math.Seq.{take-length}
use Rattle.grammar.specs.Bytes.{is_blank, is_kind}
use Rattle.grammar.specs.declared.bytes.Kind.TheVariants as kind
use Rattle.grammar.specs.Reading.{next_is}
use Rattle.script_reader.proofs.ListLemmas.{all_joined, same_head, same_tail}
use Rattle.script_reader.specs.DocLines.{AreBlank, BeginsUnblank, EndsUnblank, IsWithoutBlanksBehind, IsTrimmed}

-- ---- lists

-- one of two fronts goes on to the other
record GoesOn {X : Type 0} (front more other_front other_more : List X) : Type 0 where
  between : List X
  front_is : other_front ≡ front ++ between
  more_is : more ≡ between ++ other_more

-- two cuts of one list
two_cuts : {X : Type 0} (xs ys us vs : List X) → xs ++ ys ≡ us ++ vs → GoesOn xs ys us vs ⊎ GoesOn us vs xs ys
two_cuts [] ys us vs e = inl (record { between = us; front_is = refl; more_is = e })
two_cuts (x ∷ xs) ys [] vs e = inr (record { between = x ∷ xs; front_is = refl; more_is = sym e })
two_cuts (x ∷ xs) ys (u ∷ us) vs e = by (two_cuts xs ys us vs (same_tail x u (xs ++ ys) (us ++ vs) e))
  where
    first : x ≡ u
    first = same_head x u (xs ++ ys) (us ++ vs) e

    by : GoesOn xs ys us vs ⊎ GoesOn us vs xs ys → GoesOn (x ∷ xs) ys (u ∷ us) vs ⊎ GoesOn (u ∷ us) vs (x ∷ xs) ys
    by (inl g) = inl (record { between = g.between; front_is = λ j. sym first j ∷ g.front_is j; more_is = g.more_is })
    by (inr g) = inr (record { between = g.between; front_is = λ j. first j ∷ g.front_is j; more_is = g.more_is })

-- the last item
record Last {X : Type 0} (xs : List X) : Type 0 where
  front : List X
  last : X
  is : xs ≡ front ++ last ∷ []

last_of : {X : Type 0} (x : X) (xs : List X) → Last (x ∷ xs)
last_of x [] = record { front = []; last = x; is = refl }
last_of x (y ∷ ys) = let more = last_of y ys in record { front = x ∷ more.front; last = more.last; is = ap (λ l. x ∷ l) more.is }

all_in_front : {X : Type 0} (P : X → Type 0) (xs ys : List X) → AllByRecursion P (xs ++ ys) → AllByRecursion P xs
all_in_front P [] ys all = tt
all_in_front P (x ∷ xs) ys all = (all.0, all_in_front P xs ys all.1)

all_behind : {X : Type 0} (P : X → Type 0) (xs ys : List X) → AllByRecursion P (xs ++ ys) → AllByRecursion P ys
all_behind P [] ys all = all
all_behind P (x ∷ xs) ys all = all_behind P xs ys all.1

abbrev Blank : ℕ → Type 0
Blank c = IsTrue (is_blank c)

-- ---- where blanks end

pub blank_not : (c : ℕ) → is_blank c ≡ true → is_blank c ≡ false → ⊥
blank_not c is not = true≢false (sym is ∙ not)

no_last : (text : List ℕ) (x : ℕ) (xs : List ℕ) → AreBlank (x ∷ xs) → EndsUnblank (text ++ x ∷ xs) → ⊥
no_last text x xs blank ends =
    let m = last_of x xs in
    let all : AllByRecursion Blank (m.last ∷ []) = all_behind Blank m.front (m.last ∷ []) (subst (AllByRecursion Blank) m.is blank) in
    blank_not m.last all.0 (ends (text ++ m.front) m.last (ap (λ l. text ++ l) m.is ∙ sym (append_assoc text m.front (m.last ∷ []))))

-- behind the blanks in front one text stands
pub gap_once : (gap gap' rest rest' : List ℕ) → gap ++ rest ≡ gap' ++ rest' → AreBlank gap → AreBlank gap' → BeginsUnblank rest → BeginsUnblank rest' → rest ≡ rest'
gap_once gap gap' rest rest' e blank blank' first first' = by (two_cuts gap rest gap' rest' e)
  where
    longer : (between more gap rest : List ℕ) → rest ≡ between ++ more → AreBlank (gap ++ between) → BeginsUnblank rest → rest ≡ more
    longer [] more gap rest is all begins = is
    longer (c ∷ between) more gap rest is all begins = absurd (blank_not c (all_behind Blank gap (c ∷ between) all).0 (begins c (between ++ more) is))

    by : GoesOn gap rest gap' rest' ⊎ GoesOn gap' rest' gap rest → rest ≡ rest'
    by (inl g) = longer g.between rest' gap rest g.more_is (subst AreBlank g.front_is blank') first
    by (inr g) = sym (longer g.between rest gap' rest' g.more_is (subst AreBlank g.front_is blank) first')

-- and before the blanks behind
behind_once : (core core' behind behind' : List ℕ) → core ++ behind ≡ core' ++ behind' → AreBlank behind → AreBlank behind' → EndsUnblank core → EndsUnblank core' → core ≡ core'
behind_once core core' behind behind' e blank blank' last last' = by (two_cuts core behind core' behind' e)
  where
    longer : (between more core core' behind : List ℕ) → core' ≡ core ++ between → behind ≡ between ++ more → AreBlank behind → EndsUnblank core' → core ≡ core'
    longer [] more core core' behind is parts all ends = sym (is ∙ append-nil core)
    longer (c ∷ between) more core core' behind is parts all ends =
        absurd (no_last core c between (all_in_front Blank (c ∷ between) more (subst AreBlank parts all)) (subst EndsUnblank is ends))

    by : GoesOn core behind core' behind' ⊎ GoesOn core' behind' core behind → core ≡ core'
    by (inl g) = longer g.between behind' core core' behind g.front_is g.more_is blank last'
    by (inr g) = sym (longer g.between behind core' core behind' g.front_is g.more_is blank' last)

-- a text that begins so goes on in any way
begins_on : (core behind : List ℕ) → (core ≡ [] → ⊥) → BeginsUnblank core → BeginsUnblank (core ++ behind)
begins_on [] behind some first = absurd (some refl)
begins_on (x ∷ core) behind some first = λ c more e. subst (λ (b : ℕ). is_blank b ≡ false) (same_head x c (core ++ behind) more e) (first x core refl)

all_of : (text core : List ℕ) (t : IsTrimmed text core) → text ≡ t.front ++ (core ++ t.core_is.behind)
all_of text core t = t.parts ∙ ap (λ l. t.front ++ l) t.core_is.parts

-- between the blanks one text stands
pub trimmed_once : (text core core' : List ℕ) → IsTrimmed text core → IsTrimmed text core' → core ≡ core'
trimmed_once text [] [] t t' = refl
trimmed_once text [] (y ∷ ys) t t' = absurd (blank_not y inside.0 (t'.first y ys refl))
  where
    blank : AreBlank text
    blank = subst AreBlank (sym (all_of text [] t)) (all_joined Blank t.front t.core_is.behind t.blank t.core_is.blank)

    inside : AreBlank (y ∷ ys)
    inside = all_in_front Blank (y ∷ ys) t'.core_is.behind (all_behind Blank t'.front ((y ∷ ys) ++ t'.core_is.behind) (subst AreBlank (all_of text (y ∷ ys) t') blank))
trimmed_once text (x ∷ xs) [] t t' = absurd (blank_not x inside.0 (t.first x xs refl))
  where
    blank : AreBlank text
    blank = subst AreBlank (sym (all_of text [] t')) (all_joined Blank t'.front t'.core_is.behind t'.blank t'.core_is.blank)

    inside : AreBlank (x ∷ xs)
    inside = all_in_front Blank (x ∷ xs) t.core_is.behind (all_behind Blank t.front ((x ∷ xs) ++ t.core_is.behind) (subst AreBlank (all_of text (x ∷ xs) t) blank))
trimmed_once text (x ∷ xs) (y ∷ ys) t t' =
    behind_once (x ∷ xs) (y ∷ ys) t.core_is.behind t'.core_is.behind
    (gap_once t.front t'.front ((x ∷ xs) ++ t.core_is.behind) ((y ∷ ys) ++ t'.core_is.behind) (sym (all_of text (x ∷ xs) t) ∙ all_of text (y ∷ ys) t') t.blank t'.blank
    (begins_on (x ∷ xs) t.core_is.behind (λ e. some x xs e) t.first) (begins_on (y ∷ ys) t'.core_is.behind (λ e. some y ys e) t'.first))
    t.core_is.blank t'.core_is.blank t.core_is.last t'.core_is.last
  where
    some : (c : ℕ) (cs : List ℕ) → c ∷ cs ≡ [] → ⊥
    some c cs e = cc

-- ---- from the end of a text on

pub blank_before : (n : ℕ) (text : List ℕ) → n < length text → next_is is_blank (drop n text) ≡ true → AreBlank (drop (suc n) text) → AreBlank (drop n text)
blank_before n [] below is behind = absurd (omega (arith, below))
blank_before zero (c ∷ text) below is behind = (is, behind)
blank_before (suc n) (c ∷ text) below is behind = blank_before n text (omega (arith, below)) is behind

pub nothing_cut : {X : Type 0} (front : List X) (x : X) → [] ≡ front ++ x ∷ [] → ⊥
nothing_cut [] x e = absurd cc
nothing_cut (y ∷ front) x e = absurd cc

taken_some : (n : ℕ) (text : List ℕ) → n < length text → take (suc n) text ≡ [] → ⊥
taken_some n [] below e = omega (arith, below)
taken_some n (c ∷ text) below e = absurd cc

ends_at : (n : ℕ) (text : List ℕ) → n < length text → next_is is_blank (drop n text) ≡ false → EndsUnblank (take (suc n) text)
ends_at n [] below not front d e = absurd (omega (arith, below))
ends_at zero (c ∷ text) below not [] d e = subst (λ (b : ℕ). is_blank b ≡ false) (same_head c d [] [] e) not
ends_at zero (c ∷ text) below not (x ∷ front) d e = absurd (nothing_cut front d (same_tail c x [] (front ++ d ∷ []) e))
ends_at (suc n) (c ∷ text) below not [] d e = absurd (taken_some n text (omega (arith, below)) (same_tail c d (take (suc n) text) [] e))
ends_at (suc n) (c ∷ text) below not (x ∷ front) d e = ends_at n text (omega (arith, below)) not front d (same_tail c x (take (suc n) text) (front ++ d ∷ []) e)

-- the text from a place on, as a slice
pub slice_from : (n : ℕ) (text : List ℕ) → take (length text - n) (drop n text) ≡ drop n text
slice_from n text = ap (λ m. take m (drop n text)) (sym (length-drop n text)) ∙ take-length (drop n text)

-- whether the next byte of a slice is blank
pub next_blank : (n : ℕ) (text : List ℕ) (b : Bool) → b ≡ next_is (is_kind kind.Blank) (take (length text - n) (drop n text)) → next_is is_blank (drop n text) ≡ b
unfolding is_kind
next_blank n text b is = ap (next_is is_blank) (sym (slice_from n text)) ∙ sym is

pub cut_at : (n end : ℕ) (text : List ℕ) → end ≡ suc n → end ≤ length text → next_is is_blank (drop n text) ≡ false → AreBlank (drop end text) → IsWithoutBlanksBehind text (take end text)
cut_at n end text is within not blank = record {
  behind = drop end text;
  parts = sym (take-append-drop end text);
  blank = blank;
  last = subst (λ (m : ℕ). EndsUnblank (take m text)) (sym is) (ends_at n text (omega (arith, is, within)) not);
}
