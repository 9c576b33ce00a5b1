-- Laws of bits, and of the places of roles and basic concepts.
use Rattle.std.proofs.Common.{◌≡◌, ◌≢◌, ℕ, zero, suc, ◌+◌, ◌-◌, ◌*◌, ◌/◌, ◌%◌, ◌^◌, ◌<◌, ◌≤◌, ◌⊎◌, ◌↔◌, inl, inr, Bool, true, false, List, length, get_or, set, slice_index, refl, sym, ◌∙◌, ap, subst, arith, if◌then◌else◌}
use Rattle.std.proofs.lemmas.Bool.{cases_eq, cases_lt}
use Rattle.std.proofs.lemmas.List.{get_or-set_same, get_or-set_other}
use Rattle.std.proofs.lemmas.Nat.Bits.{bit_at_set_same, bit_at_set_other, bit_at-lt}
use Rattle.std.specs.Int.{bit_at, w64}
use Rattle.std.specs.Int.Bits.{bit_or}
use Rattle.dl_base.specs.Ontology.{IsPlaced}
use Rattle.dl_base.specs.Sets.{HasBit, HasRole, HasBasic, role_place, place_of}
use Rattle.dl_base.specs.declared.concept.Role.{Role}
use Rattle.dl_base.specs.declared.concept.Basic.{Basic}
use Rattle.dl_base.specs.declared.concept.Basic.TheVariants as basic

-- one more bit is set, and no other
pub record AddsBit (old new : List ℕ) (at : ℕ) : Type 0 where
  pub each : (p : ℕ) → HasBit new p ↔ ((p ≡ at) ⊎ HasBit old p)

module _ (words : List ℕ) (at word : ℕ) (within : at / 64 < length words) (is : word ≡ bit_or (get_or words (at / 64) 0) (1 * 2 ^ (at % 64) % 18446744073709551616)) where
  set_there : bit_at (get_or (set words (at / 64) word) (at / 64) 0) (at % 64) ≡ 1
  set_there = rw (get_or-set_same words (at / 64) word 0 within, is) (bit_at_set_same w64 (get_or words (at / 64) 0) (at % 64) (omega arith))

  same_word : (p : ℕ) → p / 64 ≡ at / 64 → p % 64 ≢ at % 64 → bit_at (get_or (set words (at / 64) word) (p / 64) 0) (p % 64) ≡ bit_at (get_or words (p / 64) 0) (p % 64)
  same_word p here other =
      rw (here, get_or-set_same words (at / 64) word 0 within, is) (bit_at_set_other w64 (get_or words (at / 64) 0) (at % 64) (omega arith) (p % 64) other)

  unchanged : (p : ℕ) → p ≢ at → bit_at (get_or (set words (at / 64) word) (p / 64) 0) (p % 64) ≡ bit_at (get_or words (p / 64) 0) (p % 64)
  unchanged p other = elim (cases_eq (p / 64) (at / 64)) [
    | inl here ↦ same_word p here (λ e. other (omega arith))
    | inr elsewhere ↦ ap (λ n. bit_at n (p % 64)) (get_or-set_other words (at / 64) (p / 64) word 0 elsewhere)
  ]

  pub set_adds : AddsBit words (set words (at / 64) word) at
  set_adds = record {
    each = λ p. (
      λ there. elim (cases_eq p at) [
        | inl e ↦ inl e
        | inr other ↦ inr (sym (unchanged p other) ∙ there)
      ],
      λ either. elim (cases_eq p at) [
        | inl e ↦ subst (λ (q : ℕ). HasBit (set words (at / 64) word) q) (sym e) set_there
        | inr other ↦ elim either [
          | inl e ↦ absurd (other e)
          | inr old ↦ unchanged p other ∙ old
        ]
      ],
    );
  }

-- a role has a place of its own
pub role_place-same : (r s : Role) → role_place r ≡ role_place s → r ≡ s
role_place-same r s same = by r.inverse s.inverse refl refl same
  where
    together : (r s : Role) → r.name ≡ s.name → r.inverse ≡ s.inverse → r ≡ s
    together r s e f = λ j. record { name = e j; inverse = f j }

    by : (a b : Bool) → r.inverse ≡ a → s.inverse ≡ b → 2 * r.name + (if r.inverse then 1 else 0) ≡ 2 * s.name + (if s.inverse then 1 else 0) → r ≡ s
    by true true ra sb e = together r s (let f : 2 * r.name + 1 ≡ 2 * s.name + 1 = rw (ra, sb) at e in omega arith) (ra ∙ sym sb)
    by true false ra sb e = absurd (let f : 2 * r.name + 1 ≡ 2 * s.name + 0 = rw (ra, sb) at e in omega arith)
    by false true ra sb e = absurd (let f : 2 * r.name + 0 ≡ 2 * s.name + 1 = rw (ra, sb) at e in omega arith)
    by false false ra sb e = together r s (let f : 2 * r.name + 0 ≡ 2 * s.name + 0 = rw (ra, sb) at e in omega arith) (ra ∙ sym sb)

-- a basic concept has a place of its own
pub place_of-same : (b c : Basic) → IsPlaced 512 256 b → IsPlaced 512 256 c → place_of b ≡ place_of c → b ≡ c
place_of-same (basic.Concept x) (basic.Concept y) p q e = ap basic.Concept e
place_of-same (basic.Concept x) (basic.Exists s) p q e = absurd (omega arith)
place_of-same (basic.Exists r) (basic.Concept y) p q e = absurd (omega arith)
place_of-same (basic.Exists r) (basic.Exists s) p q e = ap basic.Exists (role_place-same r s (omega arith))

pub role_added : (old new : List ℕ) (r s : Role) → r.name < 256 → AddsBit old new (role_place r) → HasRole new s ↔ ((s ≡ r) ⊎ HasRole old s)
role_added old new r s placed adds = (
  λ has. elim ((adds.each (role_place s)).0 has.there) [
    | inl e ↦ inl (role_place-same s r e)
    | inr there ↦ inr (record { placed = has.placed; there = there })
  ],
  λ either. elim either [
    | inl e ↦ subst (HasRole new) (sym e) (record { placed = placed; there = (adds.each (role_place r)).1 (inl refl) })
    | inr has ↦ record { placed = has.placed; there = (adds.each (role_place s)).1 (inr has.there) }
  ],
)

pub basic_added : (old new : List ℕ) (b c : Basic) → IsPlaced 512 256 b → AddsBit old new (place_of b) → HasBasic new c ↔ ((c ≡ b) ⊎ HasBasic old c)
basic_added old new b c placed adds = (
  λ has. elim ((adds.each (place_of c)).0 has.there) [
    | inl e ↦ inl (place_of-same c b has.placed placed e)
    | inr there ↦ inr (record { placed = has.placed; there = there })
  ],
  λ either. elim either [
    | inl e ↦ subst (HasBasic new) (sym e) (record { placed = placed; there = (adds.each (place_of b)).1 (inl refl) })
    | inr has ↦ record { placed = has.placed; there = (adds.each (place_of c)).1 (inr has.there) }
  ],
)

-- a set has a role or hasn't got it
pub role_or_not : (words : List ℕ) (r : Role) → HasRole words r ⊎ (HasRole words r → ⊥)
role_or_not words r = elim (cases_lt r.name 256) [
  | inr past ↦ inr (λ has. let placed : r.name < 256 = has.placed in absurd (omega arith))
  | inl placed ↦ elim (cases_eq (bit_at (slice_index words (role_place r / 64)) (role_place r % 64)) 1) [
    | inl there ↦ inl (record { placed = placed; there = there })
    | inr clear ↦ inr (λ has. clear has.there)
  ]
]

-- places are below the limits
pub role_place-lt : (r : Role) → r.name < 256 → role_place r < 512
role_place-lt r placed = by r.inverse
  where
    by : (t : Bool) → 2 * r.name + (if t then 1 else 0) < 512
    by true = omega arith
    by false = omega arith

pub place_of-lt : (b : Basic) → IsPlaced 512 256 b → place_of b < 1024
place_of-lt (basic.Concept c) h = omega arith
place_of-lt (basic.Exists r) h = let below = role_place-lt r h in omega arith

-- the role at a place
record IsAt (p : ℕ) : Type 0 where
  role : Role
  placed : role.name < 256
  place : role_place role ≡ p

role_of : (p : ℕ) → p < 512 → IsAt p
role_of p below = by (p % 2) refl
  where
    by : (r : ℕ) → p % 2 ≡ r → IsAt p
    by zero even = record { role = record { name = p / 2; inverse = false }; placed = omega arith; place = omega arith }
    by (suc zero) odd = record { role = record { name = p / 2; inverse = true }; placed = omega arith; place = omega arith }
    by (suc (suc r)) other = absurd (omega arith)

-- how many of the first so many bits of the words are not set
pub unset : List ℕ → ℕ → ℕ
unset words zero = 0
unset words (suc p) = unset words p + (1 - bit_at (slice_index words (p / 64)) (p % 64))

-- no bit is unset by what is added
module _ (old new : List ℕ) (grows : (r : Role) → HasRole old r → HasRole new r) where
  bit_stays : (p : ℕ) → p < 512 → 1 - bit_at (slice_index new (p / 64)) (p % 64) ≤ 1 - bit_at (slice_index old (p / 64)) (p % 64)
  bit_stays p below = elim (cases_eq (bit_at (slice_index old (p / 64)) (p % 64)) 1) [
    | inl set ↦
        let at = role_of p below in
        let has : HasRole old at.role = record { placed = at.placed; there = subst (HasBit old) (sym at.place) set } in
        let still : HasBit new p = subst (HasBit new) at.place (grows at.role has).there in
        omega arith
    | inr clear ↦ let small = bit_at-lt (slice_index old (p / 64)) (p % 64) in omega arith
  ]

  unset_falls : (n : ℕ) → n ≤ 512 → unset new n ≤ unset old n
  unfolding unset
  unset_falls zero few = omega arith
  unset_falls (suc p) few = let rest = unset_falls p (omega arith) in let here = bit_stays p (omega arith) in omega arith

  -- one bit fewer is unset where a role is new
  unset_less : (n : ℕ) (r : Role) → n ≤ 512 → role_place r < n → HasRole new r → (HasRole old r → ⊥) → unset new n < unset old n
  unfolding unset
  unset_less zero r few below has fresh = absurd (omega arith)
  unset_less (suc p) r few below has fresh = elim (cases_eq (role_place r) p) [
    | inl here ↦
        let set : HasBit new p = subst (HasBit new) here has.there in
        let clear : bit_at (slice_index old (p / 64)) (p % 64) ≢ 1 = λ e. fresh (record { placed = has.placed; there = subst (HasBit old) (sym here) e }) in
        let small = bit_at-lt (slice_index old (p / 64)) (p % 64) in
        let rest = unset_falls p (omega arith) in
        omega arith
    | inr other ↦
        let rest = unset_less p r (omega arith) (omega arith) has fresh in
        let here = bit_stays p (omega arith) in
        omega arith
  ]

pub fewer_unset : (old new : List ℕ) (r : Role) → r.name < 256 → ((s : Role) → HasRole new s ↔ ((s ≡ r) ⊎ HasRole old s)) → (HasRole old r → ⊥) → unset new 512 < unset old 512
fewer_unset old new r placed adds fresh = unset_less old new (λ s has. (adds s).1 (inr has)) 512 r (omega arith) (role_place-lt r placed) ((adds r).1 (inl refl)) fresh
