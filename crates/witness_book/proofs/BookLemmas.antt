-- What a book keeps while its live roles are set.
use Rattle.std.proofs.Common.{◌≡◌, ℕ, ◌+◌, ◌<◌, ◌≤◌, inl, inr, true, false, List, length, get_or, min, All, refl, sym, ◌∙◌, ap, arith}
use Rattle.std.proofs.lemmas.Bool.{cases_lt}
use Rattle.std.proofs.lemmas.List.{get_or_default, get_or_past}
use Rattle.dl_base.specs.Sets.{HasRole}
use Rattle.dl_base.specs.declared.concept.Role.{Role}
use Rattle.dl_base.proofs.SetLemmas.{role_or_not}
use Rattle.witness_book.specs.Rising.{AreSmall, Rises, generation_at, generation_in, never}
use Rattle.witness_book.specs.Witnesses.{Witnesses, IsWitnessBook, SetsLive, generation_of}
use Rattle.witness_book.specs.declared.generations.Generations.{Generations}

-- each generation of a book whose live roles may be set once more can be raised
pub all_small : (b : Witnesses) → IsWitnessBook b → b.calls < 4000000000 → All AreSmall b.generations
all_small b sound few k d below =
    let direct : generation_of b (record { name = k; inverse = false }) ≤ b.calls = sound.most (record { name = k; inverse = false }) in
    let inverse : generation_of b (record { name = k; inverse = true }) ≤ b.calls = sound.most (record { name = k; inverse = true }) in
    let same : get_or b.generations k d ≡ get_or b.generations k never = get_or_default b.generations k d never below in
    rw same (record { direct_small = omega arith; inverse_small = omega arith })

module _ (old : Witnesses) (these : List ℕ) (new : List Generations) (sound : IsWitnessBook old) (within : (r : Role) → HasRole these r → r.name < old.roles) (long : length new ≡ length old.generations)
    (risen : (r : Role) → r.name < length old.generations → Rises old.live these r (generation_at old.generations r) (generation_at new r)) where
  -- a role whose name hasn't got a place in the book is never live
  past_stays : (r : Role) → length old.generations ≤ r.name → Rises old.live these r (generation_at old.generations r) (generation_at new r)
  past_stays r past = record {
    raised = λ becomes.
        let name : r.name < old.roles = within r becomes.now in
        let placed : r.name < 256 = becomes.now.placed in
        let each : length old.generations ≡ min old.roles 256 = sound.each in absurd (omega arith);
    kept = λ _. ap (λ (g : Generations). generation_in g r.inverse) (get_or_past new r.name never (omega arith) ∙ sym (get_or_past old.generations r.name never past));
  }

  pub all_rise : (r : Role) → Rises old.live these r (generation_of old r) (generation_at new r)
  all_rise r = elim (cases_lt r.name (length old.generations)) [ inl inside ↦ risen r inside | inr past ↦ past_stays r past ]

  pub least_after : (r : Role) → HasRole these r → 1 ≤ generation_at new r
  least_after r has = elim (role_or_not old.live r) [
    | inl was ↦ let same : generation_at new r ≡ generation_of old r = (all_rise r).kept (λ b. b.not_before was) in let least : 1 ≤ generation_of old r = sound.least r was in omega arith
    | inr not ↦ let more : generation_at new r ≡ generation_of old r + 1 = (all_rise r).raised (record { now = has; not_before = not }) in omega arith
  ]

  pub most_after : (r : Role) → generation_at new r ≤ old.calls + 1
  most_after r =
      let most : generation_of old r ≤ old.calls = sound.most r in
      elim (role_or_not these r) [
        | inr gone ↦ let same : generation_at new r ≡ generation_of old r = (all_rise r).kept (λ b. gone b.now) in omega arith
        | inl has ↦ elim (role_or_not old.live r) [
          | inl was ↦ let same : generation_at new r ≡ generation_of old r = (all_rise r).kept (λ b. b.not_before was) in omega arith
          | inr not ↦ let more : generation_at new r ≡ generation_of old r + 1 = (all_rise r).raised (record { now = has; not_before = not }) in omega arith
        ]
      ]

  pub sound_after : old.calls < 4000000000 → IsWitnessBook (record { roles = old.roles; calls = old.calls + 1; live = these; generations = new })
  sound_after few = record {
    each = long ∙ sound.each;
    few = omega arith;
    within = within;
    least = least_after;
    most = most_after;
  }

  pub sets_live : SetsLive old these (record { roles = old.roles; calls = old.calls + 1; live = these; generations = new })
  sets_live = record { roles = refl; calls = refl; live = refl; generations = all_rise }
