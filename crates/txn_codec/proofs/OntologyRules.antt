-- The reader of ontologies is exact.
use Rattle.std.proofs.Common.{◌≡◌, ℕ, zero, suc, ◌+◌, ◌-◌, ◌*◌, ◌<◌, ◌≤◌, Bool, true, false, cond, List, [], ◌∷◌, ◌++◌, length, take, Ok, Err, refl, sym, ap, subst, ◌∙◌, arith, nat_lt, nat_le, Contains, length-append}
use Rattle.std.specs.Prelude.{◌&&◌, ◌||◌, ◌==◌}
use Rattle.std.specs.List.{list_any}
use Rattle.std.specs.Str.{bytes_eq}
use Rattle.std.proofs.lemmas.Bool.{ltb-true, ltb-false}
use Rattle.std.proofs.lemmas.Bool.Decides.{nat_tests}
use Rattle.std.proofs.lemmas.Slice.Eq.{bytes_eq-Decides}
use Rattle.grammar.specs.Grammar.{Begins}
use Rattle.grammar.proofs.Exact.{SameHead, IsExact, Anything}
use Rattle.grammar.proofs.Rules.{reads_literal}
use Rattle.dl_base.proofs.ExtendLemmas.{contains_any}
use Rattle.txn_codec.specs.Pieces.{number, spelled_name}
use Rattle.txn_codec.specs.Checked.{plain}
use Rattle.txn_codec.specs.OntologyPayload.{count_to, byte_within, new_name, names, place_below, limit_of, tagged, member, tagged_head, some_head, inclusion, inclusions, ontology}
use Rattle.txn_codec.specs.PiecesReading.{number_at, spelled_name_at}
use Rattle.txn_codec.specs.OntologyReading.{count_at, byte_at, new_name_at, names_at, place_at, tagged_at, member_at, tagged_head_at, head_at, inclusion_at, inclusions_at, ontology_at}
use Rattle.txn_codec.proofs.SpelledNames.{reads_number, reads_spelled_name}
use Rattle.txn_codec.proofs.CheckedRules.{Checks, checks_then, checks_gives, checks_plain, exact_spoiled}
use Rattle.txn_codec.proofs.ChecksLists.{checks_each}

-- ---- counts

-- what a number of two bytes is
two_bytes : (most : ℕ) (t : List ℕ) (w : ℕ) → count_to most t w → (high : ℕ) × (low : ℕ) × (t ≡ high ∷ low ∷ []) × (w ≡ high * 256 + low)
two_bytes most [] w s = absurd (omega (arith, s.0.0))
two_bytes most (a ∷ []) w s = absurd (omega (arith, s.0.0))
two_bytes most (a ∷ b ∷ []) w s = (a, b, refl, omega (arith, s.0.1))
two_bytes most (a ∷ b ∷ c ∷ cs) w s = absurd (omega (arith, s.0.0))

count_text : (most high low : ℕ) → high * 256 + low ≤ most → count_to most (high ∷ low ∷ []) (high * 256 + low)
count_text most high low le = ((refl, omega arith), le)

high_is : (text : List ℕ) (high : ℕ) (cs : List ℕ) (t k x : List ℕ) (a b : ℕ) → t ≡ a ∷ b ∷ [] → t ++ k ≡ x → SameHead (high ∷ cs) x → high ≡ a
high_is text high cs t k x a b e cut head =
    let x-is : x ≡ a ∷ (b ∷ k) = sym cut ∙ ap (λ (l : List ℕ). l ++ k) e in
    subst (λ (l : List ℕ). SameHead (high ∷ cs) l) x-is head

ends_there : (x : List ℕ) → SameHead [] x → x ≡ []
ends_there [] h = refl
ends_there (d ∷ ds) h = absurd h

exact_high : (most high : ℕ) (cs : List ℕ) → most < high * 256 → IsExact (count_to most) Anything (high ∷ cs) (Err (length (high ∷ cs)))
exact_high most high cs lt = record {
  front = [];
  rest = high ∷ cs;
  left_is = refl;
  parts = refl;
  begins = (0 ∷ 0 ∷ [], 0, count_text most 0 0 (omega arith));
  never = λ t w k x s f cut head.
      let p = two_bytes most t w s in
      let same : high ≡ p.0 = high_is t high cs t k x p.0 p.1 p.2 cut head in
      omega (arith, lt, same, p.3, s.1);
}

exact_one : (most high : ℕ) → high * 256 ≤ most → IsExact (count_to most) Anything (high ∷ []) (Err 0)
exact_one most high le = record {
  front = high ∷ [];
  rest = [];
  left_is = refl;
  parts = refl;
  begins = (0 ∷ [], high * 256 + 0, count_text most high 0 (omega (arith, le)));
  never = λ t w k x s f cut head. omega (arith, s.0.0, ap (λ (l : List ℕ). length l) cut, length-append t k, ap (λ (l : List ℕ). length l) (ends_there x head));
}

exact_low : (most high low : ℕ) (cs : List ℕ) → high * 256 ≤ most → most < high * 256 + low → IsExact (count_to most) Anything (high ∷ low ∷ cs) (Err (length (low ∷ cs)))
exact_low most high low cs le lt = record {
  front = high ∷ [];
  rest = low ∷ cs;
  left_is = refl;
  parts = refl;
  begins = (0 ∷ [], high * 256 + 0, count_text most high 0 (omega (arith, le)));
  never = λ t w k x s f cut head.
      let p = two_bytes most t w s in
      let all : p.0 ∷ (p.1 ∷ k) ≡ high ∷ x = ap (λ (l : List ℕ). l ++ k) (sym p.2) ∙ cut in
      let high-is : p.0 ≡ high = cc in
      let x-is : p.1 ∷ k ≡ x = cc in
      let low-is : low ≡ p.1 = subst (λ (l : List ℕ). SameHead (low ∷ cs) l) (sym x-is) head in
      omega (arith, lt, high-is, low-is, p.3, s.1);
}

exact_both : (most high low : ℕ) (cs : List ℕ) → high * 256 + low ≤ most → IsExact (count_to most) Anything (high ∷ low ∷ cs) (Ok (high * 256 + low, cs))
exact_both most high low cs le = record {
  front = high ∷ low ∷ [];
  parts = refl;
  fits = count_text most high low le;
  only = λ t w k x s f cut head.
      let p = two_bytes most t w s in
      let all : p.0 ∷ (p.1 ∷ k) ≡ high ∷ (low ∷ x) = ap (λ (l : List ℕ). l ++ k) (sym p.2) ∙ cut in
      let high-is : p.0 ≡ high = cc in
      let low-is : p.1 ≡ low = cc in
      (p.2 ∙ ap (λ (a : ℕ). a ∷ (p.1 ∷ [])) high-is ∙ ap (λ (b : ℕ). high ∷ (b ∷ [])) low-is, omega (arith, p.3, high-is, low-is));
}

pub exact_count : (most : ℕ) (text : List ℕ) → IsExact (count_to most) Anything text (count_at most text)
unfolding count_at
exact_count most [] = record {
  front = [];
  rest = [];
  left_is = refl;
  parts = refl;
  begins = (0 ∷ 0 ∷ [], 0, count_text most 0 0 (omega arith));
  never = λ t w k x s f cut head. omega (arith, s.0.0, ap (λ (l : List ℕ). length l) cut, length-append t k, ap (λ (l : List ℕ). length l) (ends_there x head));
}
exact_count most (high ∷ []) = by (nat_lt most (high * 256)) refl
  where
    by : (b : Bool) → nat_lt most (high * 256) ≡ b → IsExact (count_to most) Anything (high ∷ []) (cond b (Err 1) (Err 0))
    by true e = exact_high most high [] (ltb-true most (high * 256) e)
    by false e = exact_one most high (ltb-false most (high * 256) e)
exact_count most (high ∷ low ∷ cs) = by (nat_lt most (high * 256)) (nat_lt most (high * 256 + low)) refl refl
  where
    by : (b b' : Bool) → nat_lt most (high * 256) ≡ b → nat_lt most (high * 256 + low) ≡ b' → IsExact (count_to most) Anything (high ∷ low ∷ cs) (cond b (Err (length (high ∷ low ∷ cs))) (cond b' (Err (length (low ∷ cs))) (Ok (high * 256 + low, cs))))
    by true b' e e' = exact_high most high (low ∷ cs) (ltb-true most (high * 256) e)
    by false true e e' = exact_low most high low cs (ltb-false most (high * 256) e) (ltb-true most (high * 256 + low) e')
    by false false e e' = exact_both most high low cs (ltb-false most (high * 256 + low) e')

checks_count : {text : List ℕ} (most : ℕ) → Checks (plain (count_to most)) text (count_at most text)
checks_count {text} most = checks_plain (exact_count most text) record { text = 0 ∷ 0 ∷ []; value = 0; is = count_text most 0 0 (omega arith) }

-- ---- single bytes

inside_low : (least most c : ℕ) → (nat_le least c && nat_le c most) ≡ true → least ≤ c
inside_low least most c e = grind (arith, nat_tests)

inside_high : (least most c : ℕ) → (nat_le least c && nat_le c most) ≡ true → c ≤ most
inside_high least most c e = grind (arith, nat_tests)

outside : (least most c : ℕ) → (nat_le least c && nat_le c most) ≡ false → least ≤ c → c ≤ most → ⊥
outside least most c e l m = grind (arith, nat_tests)

byte_once : (least most c : ℕ) (cs : List ℕ) (b : Bool) → least ≤ most → (nat_le least c && nat_le c most) ≡ b → IsExact (byte_within least most) Anything (c ∷ cs) (cond b (Ok (c, cs)) (Err (length (c ∷ cs))))
byte_once least most c cs true le e = record {
  front = c ∷ [];
  parts = refl;
  fits = (refl, inside_low least most c e, inside_high least most c e);
  only = λ t w k x s f cut head. let same : w ∷ k ≡ c ∷ x = ap (λ (a : List ℕ). a ++ k) (sym s.0) ∙ cut in let w-is : w ≡ c = cc in (s.0 ∙ ap (λ (a : ℕ). a ∷ []) w-is, w-is);
}
byte_once least most c cs false le e = record {
  front = [];
  rest = c ∷ cs;
  left_is = refl;
  parts = refl;
  begins = (least ∷ [], least, (refl, omega arith, le));
  never = λ t w k x s f cut head.
      let same : w ∷ k ≡ x = ap (λ (a : List ℕ). a ++ k) (sym s.0) ∙ cut in
      let c-is : c ≡ w = subst (λ (a : List ℕ). SameHead (c ∷ cs) a) (sym same) head in
      outside least most c e (omega (arith, c-is, s.1)) (omega (arith, c-is, s.2));
}

exact_byte : (least most : ℕ) (text : List ℕ) → least ≤ most → IsExact (byte_within least most) Anything text (byte_at least most text)
unfolding byte_at
exact_byte least most [] le = record {
  front = [];
  rest = [];
  left_is = refl;
  parts = refl;
  begins = (least ∷ [], least, (refl, omega arith, le));
  never = λ t w k x s f cut head.
      let same : w ∷ k ≡ x = ap (λ (a : List ℕ). a ++ k) (sym s.0) ∙ cut in
      subst (λ (a : List ℕ). SameHead [] a) (sym same) head;
}
exact_byte least most (c ∷ cs) le = byte_once least most c cs (nat_le least c && nat_le c most) le refl

checks_byte : {text : List ℕ} (least most : ℕ) → least ≤ most → Checks (plain (byte_within least most)) text (byte_at least most text)
checks_byte {text} least most le = checks_plain (exact_byte least most text le) record { text = least ∷ []; value = least; is = (refl, omega arith, le) }

-- ---- names

pub any_contains : (names : List (List ℕ)) (name : List ℕ) → list_any (bytes_eq name) names ≡ true → Contains names name
any_contains [] name e = absurd (cc)
any_contains (x ∷ xs) name e = by (bytes_eq name x) (λ h. any_contains xs name h) refl e
  where
    by : (b : Bool) → (list_any (bytes_eq name) xs ≡ true → Contains xs name) → bytes_eq name x ≡ b → (b || list_any (bytes_eq name) xs) ≡ true → Contains (x ∷ xs) name
    by true more same h = (0, omega arith, sym ((bytes_eq-Decides name x).0 same))
    by false more other h = let c = more h in (suc c.0, omega (arith, c.1), c.2)

checks_new_name : (earlier : List (List ℕ)) (text : List ℕ) → Checks (new_name earlier) text (new_name_at earlier text)
unfolding new_name_at
checks_new_name earlier text =
    let d = reads_spelled_name {text = text} in
    record {
      is = exact_spoiled spelled_name 1 (Contains earlier) text (spelled_name_at text) (length text - 1) (λ n. list_any (bytes_eq n) earlier)
          (λ n e. any_contains earlier n e) (λ n e c. let yes' : list_any (bytes_eq n) earlier ≡ true = contains_any earlier n c in absurd (cc))
          (λ t n s. omega (arith, ap (λ (a : List ℕ). length a) s.0))
          (λ t rest n cut s. sizes t rest n cut s)
          d.is;
      some = d.some;
    }
  where
    sizes : (t rest n : List ℕ) → text ≡ t ++ rest → spelled_name t n → (1 + (length text - 1) ≡ length text) × Begins spelled_name (take 1 text)
    sizes t rest n cut s =
        let whole : text ≡ length n ∷ (n ++ rest) = cut ∙ ap (λ (a : List ℕ). a ++ rest) s.0 in
        (omega (arith, ap (λ (a : List ℕ). length a) whole), subst (λ (a : List ℕ). Begins spelled_name (take 1 a)) (sym whole) (n, n, (refl, s.1)))

checks_names : (most : ℕ) (text : List ℕ) → Checks (names most) text (names_at most text)
unfolding names_at
checks_names most text =
    checks_then _ (checks_count most) (λ n rest.
    checks_each spelled_name (λ earlier. (new_name earlier).flaw) new_name_at checks_new_name n [] rest)

-- ---- inclusions

checks_place : (limit : ℕ) (text : List ℕ) → Checks (place_below limit) text (place_at limit text)
unfolding place_at
checks_place limit text =
    let d = reads_number {text = text} 2 in
    record {
      is = exact_spoiled (number 2) 0 (λ n. limit ≤ n) text (number_at 2 text) (length text) (λ n. nat_le limit n)
          (λ n e. within n e) (λ n e c. without n e c)
          (λ t n s. omega arith)
          (λ t rest n cut s. (omega arith, (d.some.text, d.some.value, d.some.is)))
          d.is;
      some = d.some;
    }
  where
    within : (n : ℕ) → nat_le limit n ≡ true → limit ≤ n
    within n e = grind (arith, nat_tests)

    without : (n : ℕ) → nat_le limit n ≡ false → limit ≤ n → ⊥
    without n e c = grind (arith, nat_tests)

checks_tagged : (concepts roles tag : ℕ) (text : List ℕ) → Checks (tagged concepts roles tag) text (tagged_at concepts roles tag text)
unfolding tagged_at
checks_tagged concepts roles tag text =
    checks_then _ (checks_place (limit_of concepts roles tag) text) (λ n rest. checks_gives)

checks_member : (concepts roles : ℕ) (text : List ℕ) → Checks (member concepts roles) text (member_at concepts roles text)
unfolding member_at
checks_member concepts roles text =
    checks_then _ (checks_byte 1 3 (omega arith)) (λ tag rest. checks_tagged concepts roles tag rest)

checks_tagged_head : (concepts roles tag : ℕ) (text : List ℕ) → Checks (tagged_head concepts roles tag) text (tagged_head_at concepts roles tag text)
unfolding tagged_head_at
checks_tagged_head concepts roles zero text =
    let d = reads_literal {es = 0 ∷ 0 ∷ []} {F = Anything} {text = text} in
    checks_then _ (checks_plain d.is d.some) (λ _ rest. checks_gives)
checks_tagged_head concepts roles (suc t) text =
    let other : (suc t == 0) ≡ false = grind (arith, nat_tests) in
    rw other (checks_then _ (checks_tagged concepts roles (suc t) text) (λ b rest. checks_gives))

checks_head : (concepts roles : ℕ) (text : List ℕ) → Checks (some_head concepts roles) text (head_at concepts roles text)
unfolding head_at
checks_head concepts roles text =
    checks_then _ (checks_byte 0 3 (omega arith)) (λ tag rest. checks_tagged_head concepts roles tag rest)

checks_inclusion : (concepts roles : ℕ) (text : List ℕ) → Checks (inclusion concepts roles) text (inclusion_at concepts roles text)
unfolding inclusion_at
checks_inclusion concepts roles text =
    checks_then _ (checks_byte 1 8 (omega arith)) (λ n rest.
    checks_then _ (checks_each (member concepts roles).loose (λ _. (member concepts roles).flaw) (λ _. member_at concepts roles) (λ _ text. checks_member concepts roles text) n [] rest) (λ body rest.
    checks_then _ (checks_head concepts roles rest) (λ head rest.
    checks_gives)))

checks_inclusions : (concepts roles : ℕ) (text : List ℕ) → Checks (inclusions concepts roles) text (inclusions_at concepts roles text)
unfolding inclusions_at
checks_inclusions concepts roles text =
    checks_then _ (checks_count 4096) (λ n rest.
    checks_each (inclusion concepts roles).loose (λ _. (inclusion concepts roles).flaw) (λ _. inclusion_at concepts roles) (λ _ text. checks_inclusion concepts roles text) n [] rest)

pub checks_ontology : (text : List ℕ) → Checks ontology text (ontology_at text)
unfolding ontology_at
checks_ontology text =
    checks_then _ (checks_names 512 text) (λ concepts rest.
    checks_then _ (checks_names 256 rest) (λ roles rest.
    checks_then _ (checks_inclusions (length concepts) (length roles) rest) (λ is rest.
    checks_gives)))
