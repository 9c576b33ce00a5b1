-- Laws of cutting into lines.
use Rattle.std.proofs.Common.{◌≡◌, ◌==◌, ◌&&◌, ℕ, suc, ◌+◌, ◌-◌, ◌<◌, ◌≤◌, inl, inr, Bool, true, false, not, List, [], ◌∷◌, ◌++◌, length, take, get_or, map, Some, None, refl, sym, ◌∙◌, ap, subst, append_assoc, arith, if◌then◌else◌, min}
use Rattle.std.specs.Prelude.{nat_lt}
use Rattle.std.specs.List.{flat_map, AllByRecursion, position, position_or_len}
use Rattle.std.proofs.lemmas.List.{append-nil, length-take, length-take-le, take_more, take_all, take-append-le, get_or-take}
use Rattle.std.proofs.lemmas.List.Sums.{prefix_len_passes, prefix_len_stops}
use Rattle.std.proofs.lemmas.Grind.{flat_map-append}
use Rattle.std.proofs.lemmas.Bool.{eqb-false, eqb-true, ltb-true, ltb-false, cases_order}
use Rattle.std.proofs.Math.Seq.{take-append-add}
use Rattle.dl_base.proofs.DerivationLemmas.{all-by}
use Rattle.script_reader.proofs.ListLemmas.{all_joined, all_push}
use Rattle.script_reader.specs.Lines.{HasNoEnd, IsCut, AreLines, line_of, last_line}
use Rattle.script_reader.specs.Feeding.{kept, StandsForLine}

-- ---- the first line end

not_end : (b : ℕ) → not (b == 10) ≡ true → b ≡ 10 → ⊥
not_end b passes is = let e : (b == 10) ≡ true = ap (λ (n : ℕ). n == 10) is in let f : not true ≡ true = rw e at passes in absurd cc

an_end : (b : ℕ) → not (b == 10) ≡ false → b ≡ 10
an_end b stops = by (b == 10) refl
  where
    by : (t : Bool) → (b == 10) ≡ t → b ≡ 10
    by true e = eqb-true b 10 e
    by false e = absurd (let f : not false ≡ false = rw e at stops in cc)

none_below : (xs : List ℕ) (n : ℕ) → n ≤ position_or_len (λ b. b == 10) xs → HasNoEnd (take n xs)
none_below xs n le = all-by (λ b. b ≡ 10 → ⊥) (take n xs) (λ k d below.
    let short : k < n = omega (arith, length-take n xs) in
    subst (λ (b : ℕ). b ≡ 10 → ⊥) (sym (get_or-take n xs k d short)) (not_end (get_or xs k d) (prefix_len_passes (λ b. not (b == 10)) xs k d (omega arith))))

-- the first line end of the bytes stands there
pub record FoundEnd (xs : List ℕ) (at : ℕ) : Type 0 where
  pub below : at < length xs
  pub none : HasNoEnd (take at xs)
  pub here : take (at + 1) xs ≡ take at xs ++ 10 ∷ []

found_at : (xs : List ℕ) → position_or_len (λ b. b == 10) xs < length xs → FoundEnd xs (position_or_len (λ b. b == 10) xs)
found_at xs below = record {
  below = below;
  none = none_below xs (position_or_len (λ b. b == 10) xs) (omega arith);
  here = take_more xs (position_or_len (λ b. b == 10) xs) 0 below
      ∙ ap (λ (b : ℕ). take (position_or_len (λ b. b == 10) xs) xs ++ b ∷ []) (an_end _ (prefix_len_stops (λ b. not (b == 10)) xs 0 below));
}

pub end_found : (xs : List ℕ) (at : ℕ) → position (λ b. b == 10) xs ≡ Some at → FoundEnd xs at
end_found xs at is = by (nat_lt (position_or_len (λ b. b == 10) xs) (length xs)) refl
  where
    by : (t : Bool) → nat_lt (position_or_len (λ b. b == 10) xs) (length xs) ≡ t → FoundEnd xs at
    by true e =
        let f : Some (position_or_len (λ b. b == 10) xs) ≡ Some at = rw e at is in
        let g : position_or_len (λ b. b == 10) xs ≡ at = cc in
        subst (FoundEnd xs) g (found_at xs (ltb-true _ _ e))
    by false e = absurd (let f : None ≡ Some at = rw e at is in cc)

pub end_not_found : (xs : List ℕ) → position (λ b. b == 10) xs ≡ None → HasNoEnd xs
end_not_found xs is = by (nat_lt (position_or_len (λ b. b == 10) xs) (length xs)) refl
  where
    by : (t : Bool) → nat_lt (position_or_len (λ b. b == 10) xs) (length xs) ≡ t → HasNoEnd xs
    by true e = absurd (let f : Some (position_or_len (λ b. b == 10) xs) ≡ None = rw e at is in cc)
    by false e = subst HasNoEnd (take_all (length xs) xs (omega arith)) (none_below xs (length xs) (ltb-false _ _ e))

-- ---- pieces, from the front

-- the pieces that end in these bytes, the first of them begun before
abbrev pub ended_from : List ℕ → List ℕ → List (List ℕ)
ended_from line [] = []
ended_from line (b ∷ bytes) = if b == 10 then line ∷ ended_from [] bytes else ended_from (line ++ b ∷ []) bytes

-- the piece that is begun and hasn't ended
abbrev pub open_from : List ℕ → List ℕ → List ℕ
open_from line [] = line
open_from line (b ∷ bytes) = if b == 10 then open_from [] bytes else open_from (line ++ b ∷ []) bytes

pub ended-append : (o a c : List ℕ) → ended_from o (a ++ c) ≡ ended_from o a ++ ended_from (open_from o a) c
ended-append o [] c = refl
ended-append o (b ∷ a) c = elim (b == 10) as (λ t. (if t then o ∷ ended_from [] (a ++ c) else ended_from (o ++ b ∷ []) (a ++ c)) ≡ (if t then o ∷ ended_from [] a else ended_from (o ++ b ∷ []) a) ++ ended_from (if t then open_from [] a else open_from (o ++ b ∷ []) a) c) [
  | true ↦ ap (λ (l : List (List ℕ)). o ∷ l) (ended-append [] a c)
  | false ↦ ended-append (o ++ b ∷ []) a c
]

pub open-append : (o a c : List ℕ) → open_from o (a ++ c) ≡ open_from (open_from o a) c
open-append o [] c = refl
open-append o (b ∷ a) c = elim (b == 10) as (λ t. (if t then open_from [] (a ++ c) else open_from (o ++ b ∷ []) (a ++ c)) ≡ open_from (if t then open_from [] a else open_from (o ++ b ∷ []) a) c) [
  | true ↦ open-append [] a c
  | false ↦ open-append (o ++ b ∷ []) a c
]

is_no_end : (b : ℕ) → (b ≡ 10 → ⊥) → (b == 10) ≡ false
is_no_end b other = by (b == 10) refl
  where
    by : (t : Bool) → (b == 10) ≡ t → (b == 10) ≡ false
    by true e = absurd (other (eqb-true b 10 e))
    by false e = e

pub ended_none : (o xs : List ℕ) → HasNoEnd xs → ended_from o xs ≡ []
ended_none o [] none = refl
ended_none o (b ∷ xs) none = rw (is_no_end b none.0) (ended_none (o ++ b ∷ []) xs none.1)

pub open_none : (o xs : List ℕ) → HasNoEnd xs → open_from o xs ≡ o ++ xs
open_none o [] none = sym (append-nil o)
open_none o (b ∷ xs) none = rw (is_no_end b none.0) (open_none (o ++ b ∷ []) xs none.1 ∙ append_assoc o (b ∷ []) xs)

-- a piece that ends
pub ended_one : (o text : List ℕ) → HasNoEnd text → ended_from o (text ++ 10 ∷ []) ≡ (o ++ text) ∷ []
ended_one o text none = ended-append o text (10 ∷ []) ∙ ap (λ (l : List (List ℕ)). l ++ ended_from (open_from o text) (10 ∷ [])) (ended_none o text none) ∙ ap (λ (l : List ℕ). l ∷ []) (open_none o text none)

pub open_one : (o text : List ℕ) → open_from o (text ++ 10 ∷ []) ≡ []
open_one o text = open-append o text (10 ∷ [])

-- ---- the cut

-- pieces and a rest, the first piece begun before
record CutFrom (o bytes : List ℕ) : Type 0 where
  joined : o ++ bytes ≡ flat_map (λ piece. piece ++ 10 ∷ []) (ended_from o bytes) ++ open_from o bytes
  none_inside : AllByRecursion HasNoEnd (ended_from o bytes)
  none_behind : HasNoEnd (open_from o bytes)

cut_from : (o bytes : List ℕ) → HasNoEnd o → CutFrom o bytes
cut_from o [] none = record { joined = append-nil o; none_inside = tt; none_behind = none }
cut_from o (b ∷ bytes) none = by (b == 10) refl (cut_from [] bytes tt) (λ no. cut_from (o ++ b ∷ []) bytes (all_push (λ b. b ≡ 10 → ⊥) o b none no))
  where
    by : (t : Bool) → (b == 10) ≡ t → CutFrom [] bytes → ((b ≡ 10 → ⊥) → CutFrom (o ++ b ∷ []) bytes) → CutFrom o (b ∷ bytes)
    by true e ends goes_on = record {
      joined = rw e (ap (λ (n : ℕ). o ++ n ∷ bytes) (eqb-true b 10 e) ∙ ap (λ (l : List ℕ). o ++ 10 ∷ l) ends.joined
          ∙ sym (append_assoc o (10 ∷ []) (flat_map (λ piece. piece ++ 10 ∷ []) (ended_from [] bytes) ++ open_from [] bytes))
          ∙ sym (append_assoc (o ++ 10 ∷ []) (flat_map (λ piece. piece ++ 10 ∷ []) (ended_from [] bytes)) (open_from [] bytes)));
      none_inside = rw e (none, ends.none_inside);
      none_behind = rw e ends.none_behind;
    }
    by false e ends goes_on =
        let more = goes_on (eqb-false b 10 e) in
        record {
          joined = rw e (sym (append_assoc o (b ∷ []) bytes) ∙ more.joined);
          none_inside = rw e more.none_inside;
          none_behind = rw e more.none_behind;
        }

pub is_cut : (bytes : List ℕ) → IsCut bytes (ended_from [] bytes) (open_from [] bytes)
is_cut bytes = let c = cut_from [] bytes tt in record { joined = c.joined; none_inside = c.none_inside; none_behind = c.none_behind }

-- the cut goes on with bytes that have no line end, and with a line end
pub cut_goes_on : (bytes input rest : List ℕ) (pieces : List (List ℕ)) → IsCut bytes pieces rest → HasNoEnd input → IsCut (bytes ++ input) pieces (rest ++ input)
cut_goes_on bytes input rest pieces c none = record {
  joined = ap (λ (l : List ℕ). l ++ input) c.joined ∙ append_assoc (flat_map (λ piece. piece ++ 10 ∷ []) pieces) rest input;
  none_inside = c.none_inside;
  none_behind = all_joined (λ b. b ≡ 10 → ⊥) rest input c.none_behind none;
}

pub cut_ends : (bytes text rest : List ℕ) (pieces : List (List ℕ)) → IsCut bytes pieces rest → HasNoEnd text → IsCut (bytes ++ (text ++ 10 ∷ [])) (pieces ++ (rest ++ text) ∷ []) []
cut_ends bytes text rest pieces c none =
    let f : List ℕ → List ℕ = λ piece. piece ++ 10 ∷ [] in
    let front = flat_map f pieces in
    let piece = rest ++ text in
    record {
      joined =
          ap (λ (l : List ℕ). l ++ (text ++ 10 ∷ [])) c.joined
          ∙ append_assoc front rest (text ++ 10 ∷ [])
          ∙ ap (λ (l : List ℕ). front ++ l) (sym (append_assoc rest text (10 ∷ [])))
          ∙ ap (λ (l : List ℕ). front ++ l) (sym (append-nil (piece ++ 10 ∷ [])))
          ∙ sym (flat_map-append f pieces (piece ∷ []))
          ∙ sym (append-nil (flat_map f (pieces ++ piece ∷ [])));
      none_inside = all_push HasNoEnd pieces piece c.none_inside (all_joined (λ b. b ≡ 10 → ⊥) rest text c.none_behind none);
      none_behind = tt;
    }

-- the cut is one
pub cut_ended : (pieces : List (List ℕ)) (rest : List ℕ) → AllByRecursion HasNoEnd pieces → HasNoEnd rest → ended_from [] (flat_map (λ piece. piece ++ 10 ∷ []) pieces ++ rest) ≡ pieces
cut_ended [] rest inside behind = ended_none [] rest behind
cut_ended (p ∷ pieces) rest inside behind =
    let more = flat_map (λ piece. piece ++ 10 ∷ []) pieces ++ rest in
    ap (ended_from []) (append_assoc (p ++ 10 ∷ []) (flat_map (λ piece. piece ++ 10 ∷ []) pieces) rest)
    ∙ ended-append [] (p ++ 10 ∷ []) more
    ∙ ap (λ (l : List (List ℕ)). l ++ ended_from (open_from [] (p ++ 10 ∷ [])) more) (ended_one [] p inside.0)
    ∙ ap (λ (l : List ℕ). p ∷ ended_from l more) (open_one [] p)
    ∙ ap (λ (l : List (List ℕ)). p ∷ l) (cut_ended pieces rest inside.1 behind)

pub cut_open : (pieces : List (List ℕ)) (rest : List ℕ) → AllByRecursion HasNoEnd pieces → HasNoEnd rest → open_from [] (flat_map (λ piece. piece ++ 10 ∷ []) pieces ++ rest) ≡ rest
cut_open [] rest inside behind = open_none [] rest behind
cut_open (p ∷ pieces) rest inside behind =
    let more = flat_map (λ piece. piece ++ 10 ∷ []) pieces ++ rest in
    ap (open_from []) (append_assoc (p ++ 10 ∷ []) (flat_map (λ piece. piece ++ 10 ∷ []) pieces) rest)
    ∙ open-append [] (p ++ 10 ∷ []) more
    ∙ ap (λ (l : List ℕ). open_from l more) (open_one [] p)
    ∙ cut_open pieces rest inside.1 behind

-- the lines, by the pieces from the front
abbrev pub lines_of : List ℕ → List (List ℕ)
lines_of bytes = map line_of (ended_from [] bytes ++ last_line (open_from [] bytes))

pub are_lines : (bytes : List ℕ) → AreLines bytes (lines_of bytes)
are_lines bytes = record { pieces = ended_from [] bytes; rest = open_from [] bytes; cut = is_cut bytes; are = refl }

-- an input has one list of lines
pub lines_are : (bytes : List ℕ) (lines : List (List ℕ)) → AreLines bytes lines → lines ≡ lines_of bytes
lines_are bytes lines a =
    let e : a.pieces ≡ ended_from [] bytes = sym (ap (ended_from []) a.cut.joined ∙ cut_ended a.pieces a.rest a.cut.none_inside a.cut.none_behind) in
    let f : a.rest ≡ open_from [] bytes = sym (ap (open_from []) a.cut.joined ∙ cut_open a.pieces a.rest a.cut.none_inside a.cut.none_behind) in
    a.are ∙ ap (λ (l : List (List ℕ)). map line_of (l ++ last_line a.rest)) e ∙ ap (λ (l : List ℕ). map line_of (ended_from [] bytes ++ last_line l)) f

-- there are no more pieces than bytes
pub length-ended : (o bytes : List ℕ) → length (ended_from o bytes) ≤ length bytes
length-ended o [] = omega arith
length-ended o (b ∷ bytes) = elim (b == 10) as (λ t. length (if t then o ∷ ended_from [] bytes else ended_from (o ++ b ∷ []) bytes) ≤ suc (length bytes)) [
  | true ↦ omega (arith, length-ended [] bytes)
  | false ↦ omega (arith, length-ended (o ++ b ∷ []) bytes)
]

-- ---- what is kept of a line

-- a line is its piece, or one byte shorter
pub length-line_of : (piece : List ℕ) → (length piece ≤ length (line_of piece) + 1) × (length (line_of piece) ≤ length piece)
length-line_of piece = by (nat_lt 0 (length piece) && (get_or piece (length piece - 1) 0 == 13))
  where
    by : (t : Bool) → (length piece ≤ length (if t then take (length piece - 1) piece else piece) + 1) × (length (if t then take (length piece - 1) piece else piece) ≤ length piece)
    by true = let e = length-take-le (length piece - 1) piece (omega arith) in (omega (arith, e), omega (arith, e))
    by false = (omega arith, omega arith)

-- as many bytes as there is room for
pub kept_some : (old input : List ℕ) (some : ℕ) → length old ≤ 4098 → some ≡ min (length input) (4098 - length old) → old ++ take some input ≡ kept (old ++ input)
kept_some old input some few is =
    let room : length old + (4098 - length old) ≡ 4098 = omega arith in
    let whole : kept (old ++ input) ≡ old ++ take (4098 - length old) input = ap (λ n. take n (old ++ input)) (sym room) ∙ take-append-add old input (4098 - length old) in
    ap (λ (l : List ℕ). old ++ l) (same_front input some (4098 - length old) is) ∙ sym whole
  where
    same_front : (xs : List ℕ) (n m : ℕ) → n ≡ min (length xs) m → take n xs ≡ take m xs
    same_front xs n m e = elim (cases_order (length xs) m) [
      | inl f ↦ take_all n xs (omega arith) ∙ sym (take_all m xs (omega arith))
      | inr either ↦ elim either [
        | inl below ↦ take_all n xs (omega arith) ∙ sym (take_all m xs (omega arith))
        | inr above ↦ let f : n ≡ m = omega arith in ap (λ (k : ℕ). take k xs) f
      ]
    ]

pub kept_more : (old text : List ℕ) → kept (kept old ++ text) ≡ kept (old ++ text)
kept_more old text = elim (cases_order (length old) 4098) [
  | inl e ↦ ap (λ (l : List ℕ). kept (l ++ text)) (take_all 4098 old (omega arith))
  | inr either ↦ elim either [
    | inl below ↦ ap (λ (l : List ℕ). kept (l ++ text)) (take_all 4098 old (omega arith))
    | inr above ↦
        let full : length (take 4098 old) ≡ 4098 = length-take-le 4098 old (omega arith) in
        take-append-le 4098 (take 4098 old) text (omega arith) ∙ take_all 4098 (take 4098 old) (omega arith) ∙ sym (take-append-le 4098 old text (omega arith))
  ]
]

pub stands : (bytes : List ℕ) → StandsForLine (kept bytes) (line_of bytes)
stands bytes = elim (cases_order (length bytes) 4099) [
  | inl e ↦ long (omega arith)
  | inr either ↦ elim either [
    | inl below ↦
        let same : kept bytes ≡ bytes = take_all 4098 bytes (omega arith) in
        subst (λ (l : List ℕ). StandsForLine l (line_of bytes)) (sym same) (record { long = λ h. h; short = λ h. refl })
    | inr above ↦ long (omega arith)
  ]
]
  where
    long : 4098 < length bytes → StandsForLine (kept bytes) (line_of bytes)
    long h =
        let full : length (kept bytes) ≡ 4098 = length-take-le 4098 bytes (omega arith) in
        record {
          long = λ _. omega (arith, (length-line_of bytes).0);
          short = λ few. absurd (omega (arith, (length-line_of (kept bytes)).0));
        }
