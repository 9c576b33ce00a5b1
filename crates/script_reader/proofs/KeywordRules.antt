-- What is read of blanks and of a keyword.
use Rattle.std.proofs.Common.{◌≡◌, ℕ, Bor, Option, Some, None, ◌≤◌, Bool, true, false, List, [], ◌∷◌, ◌++◌, length, take, drop, true≢false, Ok, refl, sym, ◌∙◌, ap, subst, append_assoc, arith, length-append}
use Rattle.std.specs.Prelude.{MatchOption, IsTrue, ◌==◌, nat_eq}
use Rattle.std.proofs.lemmas.Bool.Decides.{nat_tests}
use Rattle.std.proofs.lemmas.Slice.Eq.{bytes_eq-Decides}
use Rattle.std.specs.Cmp.Lexicographic.{pointwise}
use Rattle.std.proofs.lemmas.List.{append-nil, append_cancel_left, take-append-drop}
use Rattle.grammar.specs.Bytes.{is_blank}
use Rattle.grammar.specs.Grammar.{Grammar}
use Rattle.grammar.specs.Blanks.{blanks}
use Rattle.grammar.specs.Reading.{Outcome, blanks_at}
use Rattle.grammar.proofs.Exact.{IsExact, IsRead, SameHead}
use Rattle.grammar.proofs.Parts.{Stops}
use Rattle.grammar.proofs.Rules.{reads_blanks}
use Rattle.script_reader.specs.DocLines.{AreBlank, BeginsUnblank, IsWithoutBlanksBehind, IsTrimmed, Follows}
use Rattle.script_reader.proofs.ListLemmas.{all_joined}

-- ---- blanks

-- one more byte
abbrev one_more : List ℕ → ℕ → List ℕ
one_more front c = front ++ c ∷ []

longer : (front : List ℕ) (c : ℕ) → one_more front c ≡ front → ⊥
longer front c same = let e : length (front ++ c ∷ []) ≡ length front = ap (λ (l : List ℕ). length l) same in omega (arith, e, length-append front (c ∷ []))

-- behind the blanks that are read stands no blank
blanks_end : (text gap rest : List ℕ) → IsRead blanks (Stops is_blank) text gap rest → BeginsUnblank rest
blanks_end text gap rest read c more e = by (is_blank c) refl
  where
    by : (b : Bool) → is_blank c ≡ b → is_blank c ≡ false
    by false is = is
    by true is = absurd (longer read.front c (read.only (one_more read.front c) (one_more read.front c) [] (c ∷ [])
        (all_joined (λ d. IsTrue (is_blank d)) read.front (c ∷ []) read.fits.0 (is, tt), refl) refl (append-nil (one_more read.front c))
        (subst (λ (l : List ℕ). SameHead l (c ∷ [])) (sym e) refl)).0)

nat_eq_same : (x y : ℕ) → (x == y) ≡ true → x ≡ y
nat_eq_same x y is = grind (arith, nat_tests)

exact_by : {V : Type 0} (g : Grammar V) (F : V → List ℕ → Type 0) (text : List ℕ) (r s : Outcome V) → IsExact g F text r → r ≡ s → IsExact g F text s
exact_by g F text r s exact same = subst (IsExact g F text) same exact

pub first_of : (core behind : List ℕ) → BeginsUnblank (core ++ behind) → BeginsUnblank core
first_of core behind first c more e = first c (more ++ behind) (ap (λ l. l ++ behind) e)

-- blanks that are read and what stands before the last blanks
pub trimmed_by : (text front rest core : List ℕ) → blanks_at text ≡ Ok (front, rest) → IsWithoutBlanksBehind rest core → IsTrimmed text core
trimmed_by text front rest core is core_is =
    let read : IsRead blanks (Stops is_blank) text front rest = exact_by blanks (Stops is_blank) text (blanks_at text) (Ok (front, rest)) (reads_blanks {text = text}).is is in
    record {
      front = read.front;
      rest = rest;
      parts = read.parts;
      blank = read.fits.0;
      first = first_of core core_is.behind (subst BeginsUnblank core_is.parts (blanks_end text front rest read));
      core_is = core_is;
    }

-- ---- a keyword

-- blanks are skipped
module _ (text gap rest : List ℕ) (skipped : blanks_at text ≡ Ok (gap, rest)) where
  read : IsRead blanks (Stops is_blank) text gap rest
  read = exact_by blanks (Stops is_blank) text (blanks_at text) (Ok (gap, rest)) (reads_blanks {text = text}).is skipped

  text_is : text ≡ gap ++ rest
  text_is = read.parts ∙ ap (λ l. l ++ rest) (sym read.fits.1)

  pub gap_found : (length gap == 0) ≡ false → Follows [] text rest
  gap_found some = record {
    gap = gap;
    parts = text_is;
    some = by gap some;
    blank = subst AreBlank (sym read.fits.1) read.fits.0;
    first = blanks_end text gap rest read;
  }
    where
      by : (g : List ℕ) → (length g == 0) ≡ false → 1 ≤ length g
      by [] not = absurd cc
      by (c ∷ g) not = omega arith

  -- without a blank nothing follows
  pub no_gap : (length gap == 0) ≡ true → (other : List ℕ) → Follows [] text other → ⊥
  no_gap none other f = by gap f.gap rest (sym text_is ∙ f.parts) none f.some f.blank (blanks_end text gap rest read)
    where
      by : (g h rest : List ℕ) → g ++ rest ≡ h ++ other → (length g == 0) ≡ true → 1 ≤ length h → AreBlank h → BeginsUnblank rest → ⊥
      by [] [] rest same is some blank first = omega (arith, some)
      by [] (c ∷ h) rest same is some blank first = true≢false (sym blank.0 ∙ first c (h ++ other) same)
      by (c ∷ g) h rest same is some blank first = let e = nat_eq_same (length (c ∷ g)) 0 is in omega (arith, e)

-- what follows the keyword is what follows behind it
module _ (keyword text rest : List ℕ) (front : pointwise nat_eq (take (length keyword) text) keyword ≡ true) (behind : rest ≡ drop (length keyword) text) where
  cut : text ≡ keyword ++ rest
  cut = sym (take-append-drop (length keyword) text) ∙ ap (λ l. l ++ drop (length keyword) text) ((bytes_eq-Decides (take (length keyword) text) keyword).0 front) ∙ ap (λ l. keyword ++ l) (sym behind)

  pub follows_on : (other : List ℕ) → Follows [] rest other → Follows keyword text other
  follows_on other f = record { gap = f.gap; parts = cut ∙ ap (λ l. keyword ++ l) f.parts ∙ sym (append_assoc keyword f.gap other); some = f.some; blank = f.blank; first = f.first }

  pub follows_back : (other : List ℕ) → Follows keyword text other → Follows [] rest other
  follows_back other f = record {
    gap = f.gap;
    parts = append_cancel_left keyword rest (f.gap ++ other) (sym cut ∙ f.parts ∙ append_assoc keyword f.gap other);
    some = f.some;
    blank = f.blank;
    first = f.first;
  }

-- what doesn't begin with the keyword
pub keyword_absent : (keyword text : List ℕ) → pointwise nat_eq (take (length keyword) text) keyword ≡ false → (rest : List ℕ) → Follows keyword text rest → ⊥
keyword_absent keyword text not rest f =
    true≢false (sym ((bytes_eq-Decides (take (length keyword) text) keyword).1 (ap (take (length keyword)) (f.parts ∙ append_assoc keyword f.gap rest) ∙ take_front keyword (f.gap ++ rest))) ∙ not)
  where
    take_front : (xs ys : List ℕ) → take (length xs) (xs ++ ys) ≡ xs
    take_front [] ys = refl
    take_front (x ∷ xs) ys = ap (λ l. x ∷ l) (take_front xs ys)

-- a keyword, and what follows it or doesn't
pub keyword_then : (keyword text rest : List ℕ) (found : Option (Bor (List ℕ))) → pointwise nat_eq (take (length keyword) text) keyword ≡ true → rest ≡ drop (length keyword) text
    → MatchOption found ((other : List ℕ) → Follows [] rest other → ⊥) (λ b. Follows [] rest b.now) → MatchOption found ((other : List ℕ) → Follows keyword text other → ⊥) (λ b. Follows keyword text b.now)
keyword_then keyword text rest None front behind none = λ other f. none other (follows_back keyword text rest front behind other f)
keyword_then keyword text rest (Some b) front behind f = follows_on keyword text rest front behind b.now f
