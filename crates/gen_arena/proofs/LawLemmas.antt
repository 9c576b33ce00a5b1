-- Why the laws hold.
use Rattle.std.proofs.Common.{◌≡◌, ◌≢◌, ◌⊎◌, ℕ, ◌+◌, ◌-◌, ◌<◌, ◌≤◌, List, [], ◌∷◌, length, All, Some, None, refl, sym, ◌∙◌, ap, subst, inl, inr, arith}
use Rattle.std.proofs.lemmas.Bool.{cases_eq, cases_lt}
use Rattle.std.proofs.lemmas.List.{length-take}
use Rattle.std.proofs.lemmas.List.Elements.{All-head, All-tail}
use Rattle.gen_arena.specs.declared.handle.Handle.{Handle}
use Rattle.gen_arena.specs.declared.handle.Gone.{Gone}
use Rattle.gen_arena.specs.declared.handle.Gone.TheVariants.{Never, Dropped}
use Rattle.gen_arena.specs.Store.{HandleStore, Slot, IsHandleStore, IsGone, IsLive, Names, WasDropped, WasGiven, empty_store, last_of, live, next_handle, next_slot, room_of, slot_at, spent, with_value, with_written, without}
use Rattle.gen_arena.specs.Changes.{Change, inserts, writes, removes, LeadsTo, AllLeadTo, LeavesAlone}
use Rattle.gen_arena.proofs.ListLemmas.{length-put_at_within, length-put_at_end}
use Rattle.gen_arena.proofs.StoreLemmas.{ChangesSlot, next_is_ready, freed_waits, new_is_next, named_within, value_changes, writing_changes, removal_changes, IsHandleStore-with_value, IsHandleStore-with_written, IsHandleStore-without}

module _ {T : Type 0} where
  -- ---- one change

  pub leads_to_store : (s t : HandleStore T) (c : Change T) → IsHandleStore s → LeadsTo s c t → IsHandleStore t
  leads_to_store s t (inserts v) sound leads = subst IsHandleStore (sym leads.1) (IsHandleStore-with_value v s sound leads.0)
  leads_to_store s t (writes h v) sound leads = subst IsHandleStore (sym leads.1) (IsHandleStore-with_written h leads.0.0 v s leads.0.1 sound)
  leads_to_store s t (removes h) sound leads = subst IsHandleStore (sym leads.1) (IsHandleStore-without h leads.0.0 s leads.0.1 sound)

  -- what is in the slot behind a change: its last generation is the same, or one more where a value came in
  last_stays : (s t : HandleStore T) (k : ℕ) (x : Slot T) → ChangesSlot s t k x → x.last ≡ last_of s k → (j : ℕ) → last_of t j ≡ last_of s j
  last_stays s t k x changes same j =
      elim (cases_eq j k) [
        | inl here ↦ ap (last_of t) here ∙ ap (λ (y : Slot T). y.last) changes.here ∙ same ∙ ap (last_of s) (sym here)
        | inr there ↦ ap (λ (y : Slot T). y.last) (changes.there j there)
      ]

  written_last : (h : Handle) (old v : T) (s : HandleStore T) → Names s h old → (k : ℕ) → last_of (with_written h v s) k ≡ last_of s k
  written_last h old v s named = last_stays s (with_written h v s) h.slot (live h.generation v) (writing_changes h old v s named) (sym (ap (λ (y : Slot T). y.last) named))

  removed_last : (h : Handle) (v : T) (s : HandleStore T) → Names s h v → (k : ℕ) → last_of (without h s) k ≡ last_of s k
  removed_last h v s named = last_stays s (without h s) h.slot (spent h.generation) (removal_changes h v s named) (sym (ap (λ (y : Slot T). y.last) named))

  -- generations never fall
  pub last_rises : (s t : HandleStore T) (c : Change T) → IsHandleStore s → LeadsTo s c t → (k : ℕ) → last_of s k ≤ last_of t k
  last_rises s t (inserts v) sound leads k =
      let changes = value_changes v s sound in
      let is : last_of t k ≡ last_of (with_value v s) k = ap (λ (u : HandleStore T). last_of u k) leads.1 in
      elim (cases_eq k (next_slot s)) [
        | inl here ↦
            let more : last_of (with_value v s) k ≡ last_of s (next_slot s) + 1 = ap (last_of (with_value v s)) here ∙ ap (λ (y : Slot T). y.last) changes.here in
            let same : last_of s k ≡ last_of s (next_slot s) = ap (last_of s) here in omega arith
        | inr there ↦ let same : last_of (with_value v s) k ≡ last_of s k = ap (λ (y : Slot T). y.last) (changes.there k there) in omega arith
      ]
  last_rises s t (writes h v) sound leads k =
      let is : last_of t k ≡ last_of (with_written h v s) k = ap (λ (u : HandleStore T). last_of u k) leads.1 in
      let same = written_last h leads.0.0 v s leads.0.1 k in omega arith
  last_rises s t (removes h) sound leads k =
      let is : last_of t k ≡ last_of (without h s) k = ap (λ (u : HandleStore T). last_of u k) leads.1 in
      let same = removed_last h leads.0.0 s leads.0.1 k in omega arith

  pub given_by_one : (s t : HandleStore T) (c : Change T) (h : Handle) → IsHandleStore s → LeadsTo s c t → WasGiven s h → WasGiven t h
  given_by_one s t c h sound leads given =
      let rises = last_rises s t c sound leads h.slot in
      record { least = given.least; most = omega (arith, given.most) }

  -- ---- live handles

  -- two handles of one slot that are live are one
  live_once : (s : HandleStore T) (h other : Handle) (v w : T) → Names s h v → Names s other w → other.slot ≡ h.slot → other ≡ h
  live_once s h other v w one two same =
      let first : last_of s h.slot ≡ h.generation = ap (λ (y : Slot T). y.last) one in
      let second : last_of s other.slot ≡ other.generation = ap (λ (y : Slot T). y.last) two in
      let generations : other.generation ≡ h.generation = sym second ∙ ap (last_of s) same ∙ first in
      ap (λ (n : ℕ). record { slot = n; generation = other.generation }) same ∙ ap (λ (n : ℕ). record { slot = h.slot; generation = n }) generations

  pub names_by_one : (s t : HandleStore T) (c : Change T) (h : Handle) (v : T) → IsHandleStore s → LeadsTo s c t → LeavesAlone h c → Names s h v → Names t h v
  names_by_one s t (inserts w) h v sound leads alone named =
      let apart : h.slot ≢ next_slot s = λ same.
      let held : (slot_at s (next_slot s)).held ≡ Some v = ap (λ (n : ℕ). (slot_at s n).held) (sym same) ∙ ap (λ (y : Slot T). y.held) named in
      let none : (slot_at s (next_slot s)).held ≡ None = (next_is_ready s sound).empty in absurd (cc) in
      ap (λ (u : HandleStore T). slot_at u h.slot) leads.1 ∙ (value_changes w s sound).there h.slot apart ∙ named
  names_by_one s t (writes other w) h v sound leads alone named =
      ap (λ (u : HandleStore T). slot_at u h.slot) leads.1
      ∙ (writing_changes other leads.0.0 w s leads.0.1).there h.slot (λ same. alone (live_once s h other v leads.0.0 named leads.0.1 (sym same))) ∙ named
  names_by_one s t (removes other) h v sound leads alone named =
      ap (λ (u : HandleStore T). slot_at u h.slot) leads.1
      ∙ (removal_changes other leads.0.0 s leads.0.1).there h.slot (λ same. alone (live_once s h other v leads.0.0 named leads.0.1 (sym same))) ∙ named

  -- ---- dropped handles

  -- a handle that is live behind a change was live before, or is the next one
  live_before : (s t : HandleStore T) (c : Change T) (h : Handle) → IsHandleStore s → LeadsTo s c t → IsLive t h → IsLive s h ⊎ (h ≡ next_handle s)
  live_before s t (inserts w) h sound leads now =
      let changes = value_changes w s sound in
      let is : slot_at (with_value w s) h.slot ≡ live h.generation now.0 = ap (λ (u : HandleStore T). slot_at u h.slot) (sym leads.1) ∙ now.1 in
      elim (cases_eq h.slot (next_slot s)) [
        | inl here ↦
            let slot : slot_at (with_value w s) h.slot ≡ live (last_of s (next_slot s) + 1) w = ap (slot_at (with_value w s)) here ∙ changes.here in
            let generation : h.generation ≡ last_of s (next_slot s) + 1 = ap (λ (y : Slot T). y.last) (sym is ∙ slot) in
            inr (ap (λ (n : ℕ). record { slot = n; generation = h.generation }) here ∙ ap (λ (n : ℕ). record { slot = next_slot s; generation = n }) generation)
        | inr there ↦ inl (now.0, sym (changes.there h.slot there) ∙ is)
      ]
  live_before s t (writes other w) h sound leads now =
      let changes = writing_changes other leads.0.0 w s leads.0.1 in
      let is : slot_at (with_written other w s) h.slot ≡ live h.generation now.0 = ap (λ (u : HandleStore T). slot_at u h.slot) (sym leads.1) ∙ now.1 in
      elim (cases_eq h.slot other.slot) [
        | inl here ↦
            let slot : slot_at (with_written other w s) h.slot ≡ live other.generation w = ap (slot_at (with_written other w s)) here ∙ changes.here in
            let generation : other.generation ≡ h.generation = ap (λ (y : Slot T). y.last) (sym slot ∙ is) in
            inl (leads.0.0, ap (slot_at s) here ∙ leads.0.1 ∙ ap (λ (n : ℕ). live n leads.0.0) generation)
        | inr there ↦ inl (now.0, sym (changes.there h.slot there) ∙ is)
      ]
  live_before s t (removes other) h sound leads now =
      let changes = removal_changes other leads.0.0 s leads.0.1 in
      let is : slot_at (without other s) h.slot ≡ live h.generation now.0 = ap (λ (u : HandleStore T). slot_at u h.slot) (sym leads.1) ∙ now.1 in
      elim (cases_eq h.slot other.slot) [
        | inl here ↦
            let slot : slot_at (without other s) h.slot ≡ spent other.generation = ap (slot_at (without other s)) here ∙ changes.here in
            let none : (slot_at (without other s) h.slot).held ≡ None = ap (λ (y : Slot T). y.held) slot in
            let some : (slot_at (without other s) h.slot).held ≡ Some now.0 = ap (λ (y : Slot T). y.held) is in absurd (cc)
        | inr there ↦ inl (now.0, sym (changes.there h.slot there) ∙ is)
      ]

  pub next_is_new : (s : HandleStore T) → WasGiven s (next_handle s) → ⊥
  next_is_new s given = omega (arith, given.most)

  pub dropped_by_one : (s t : HandleStore T) (c : Change T) (h : Handle) → IsHandleStore s → LeadsTo s c t → WasDropped s h → WasDropped t h
  dropped_by_one s t c h sound leads dropped = record {
    given = given_by_one s t c h sound leads dropped.given;
    not_live = λ now.
        elim (live_before s t c h sound leads now) [
          | inl before ↦ dropped.not_live before
          | inr next ↦ next_is_new s (subst (WasGiven s) next dropped.given)
        ];
  }

  -- ---- the laws

  pub begins_as_store : (limit : ℕ) → IsHandleStore (empty_store {T = T} limit)
  begins_as_store limit = record {
    within = omega arith;
    begun = λ k given. absurd (omega arith);
    bounded = λ k. omega arith;
    waiting = λ k listed. absurd (omega (arith, listed.1));
    none_lost = λ k waits. absurd (omega (arith, waits.given));
    once = λ i j d before below. absurd (omega arith);
  }

  pub stays_a_store : (s t : HandleStore T) (changes : List (Change T)) → IsHandleStore s → AllLeadTo s changes t → IsHandleStore t
  stays_a_store s t [] sound led = subst IsHandleStore (sym led) sound
  stays_a_store s t (c ∷ cs) sound led = stays_a_store led.0 t cs (leads_to_store s led.0 c sound led.1) led.2

  pub takes_room : (s : HandleStore T) (v : T) → IsHandleStore s → 1 ≤ room_of s → room_of (with_value v s) + 1 ≡ room_of s
  takes_room s v sound room =
      let cut = length-take (length s.freed - 1) s.freed in
      elim (cases_lt 0 (length s.freed)) [
        | inl some ↦
            let below : next_slot s < length s.slots = (freed_waits s sound some).given in
            let same : length (with_value v s).slots ≡ length s.slots = length-put_at_within s.slots (next_slot s) _ below in omega arith
        | inr none ↦
            let end : next_slot s ≡ length s.slots = new_is_next s (omega arith) in
            let more : length (with_value v s).slots ≡ length s.slots + 1 = length-put_at_end s.slots (next_slot s) _ end in omega arith
      ]

  pub names_one : (s : HandleStore T) (h : Handle) (v w : T) → Names s h v → Names s h w → v ≡ w
  names_one s h v w one other = let both : Some v ≡ Some w = ap (λ (x : Slot T). x.held) (sym one ∙ other) in cc

  pub names_on : (s t : HandleStore T) (changes : List (Change T)) (h : Handle) (v : T) → IsHandleStore s → AllLeadTo s changes t → All (LeavesAlone h) changes → Names s h v → Names t h v
  names_on s t [] h v sound led alone named = subst (λ (u : HandleStore T). Names u h v) (sym led) named
  names_on s t (c ∷ cs) h v sound led alone named =
      names_on led.0 t cs h v (leads_to_store s led.0 c sound led.1) led.2 (All-tail (LeavesAlone h) c cs alone) (names_by_one s led.0 c h v sound led.1 (All-head (LeavesAlone h) c cs alone) named)

  pub live_was_given : (s : HandleStore T) (h : Handle) → IsHandleStore s → IsLive s h → WasGiven s h
  live_was_given s h sound named =
      let last : last_of s h.slot ≡ h.generation = ap (λ (y : Slot T). y.last) named.1 in
      let least : 1 ≤ last_of s h.slot = sound.begun h.slot (named_within s h named.0 named.1) in
      record { least = omega arith; most = omega arith }

  pub drops_removed : (s : HandleStore T) (h : Handle) (v : T) → IsHandleStore s → Names s h v → WasDropped (without h s) h
  drops_removed s h v sound named =
      let given = live_was_given s h sound (v, named) in
      let last = removed_last h v s named h.slot in
      record {
        given = record { least = given.least; most = omega (arith, given.most) };
        not_live = λ now.
            let some : (slot_at (without h s) h.slot).held ≡ Some now.0 = ap (λ (y : Slot T). y.held) now.1 in
            let none : (slot_at (without h s) h.slot).held ≡ None = ap (λ (y : Slot T). y.held) (removal_changes h v s named).here in absurd (cc);
      }

  pub stays_dropped : (s t : HandleStore T) (changes : List (Change T)) (h : Handle) → IsHandleStore s → AllLeadTo s changes t → WasDropped s h → WasDropped t h
  stays_dropped s t [] h sound led dropped = subst (λ (u : HandleStore T). WasDropped u h) (sym led) dropped
  stays_dropped s t (c ∷ cs) h sound led dropped =
      stays_dropped led.0 t cs h (leads_to_store s led.0 c sound led.1) led.2 (dropped_by_one s led.0 c h sound led.1 dropped)

  pub stays_given : (s t : HandleStore T) (changes : List (Change T)) (h : Handle) → IsHandleStore s → AllLeadTo s changes t → WasGiven s h → WasGiven t h
  stays_given s t [] h sound led given = subst (λ (u : HandleStore T). WasGiven u h) (sym led) given
  stays_given s t (c ∷ cs) h sound led given =
      stays_given led.0 t cs h (leads_to_store s led.0 c sound led.1) led.2 (given_by_one s led.0 c h sound led.1 given)

  -- a handle that wasn't given is so by the slot's new generation
  given_next : (s t : HandleStore T) (h : Handle) → ((k : ℕ) → last_of t k ≡ last_of s k) → WasGiven t h → WasGiven s h
  given_next s t h same given = let is = same h.slot in record { least = given.least; most = omega (arith, given.most) }

  pub gives_the_next : (s t : HandleStore T) (c : Change T) (h : Handle) → IsHandleStore s → LeadsTo s c t → WasGiven t h → (WasGiven s h → ⊥) → h ≡ next_handle s
  gives_the_next s t (inserts v) h sound leads given new =
      let changes = value_changes v s sound in
      let given_there : WasGiven (with_value v s) h = subst (λ (u : HandleStore T). WasGiven u h) leads.1 given in
      elim (cases_eq h.slot (next_slot s)) [
        | inl here ↦
            let last : last_of (with_value v s) h.slot ≡ last_of s (next_slot s) + 1 = ap (last_of (with_value v s)) here ∙ ap (λ (y : Slot T). y.last) changes.here in
            let before : last_of s h.slot ≡ last_of s (next_slot s) = ap (last_of s) here in
            let generation : h.generation ≡ last_of s (next_slot s) + 1 =
            elim (cases_lt (last_of s (next_slot s)) h.generation) [
              | inl above ↦ omega (arith, given_there.most)
              | inr within ↦ absurd (new (record { least = given_there.least; most = omega arith }))
            ] in
            ap (λ (n : ℕ). record { slot = n; generation = h.generation }) here ∙ ap (λ (n : ℕ). record { slot = next_slot s; generation = n }) generation
        | inr there ↦
            let same : last_of (with_value v s) h.slot ≡ last_of s h.slot = ap (λ (y : Slot T). y.last) (changes.there h.slot there) in
            absurd (new (record { least = given_there.least; most = omega (arith, given_there.most) }))
      ]
  gives_the_next s t (writes other v) h sound leads given new =
      absurd (new (given_next s (with_written other v s) h (written_last other leads.0.0 v s leads.0.1) (subst (λ (u : HandleStore T). WasGiven u h) leads.1 given)))
  gives_the_next s t (removes other) h sound leads given new =
      absurd (new (given_next s (without other s) h (removed_last other leads.0.0 s leads.0.1) (subst (λ (u : HandleStore T). WasGiven u h) leads.1 given)))

  pub gone_once : (s : HandleStore T) (h : Handle) (why other : Gone) → IsGone s h why → IsGone s h other → why ≡ other
  gone_once s h Never Never one two = refl
  gone_once s h Never (Dropped n) one two = absurd (one two.0.given)
  gone_once s h (Dropped m) Never one two = absurd (two one.0.given)
  gone_once s h (Dropped m) (Dropped n) one two = ap Dropped (one.1 ∙ sym two.1)

  pub gone_is_not_live : (s : HandleStore T) (h : Handle) (why : Gone) → IsHandleStore s → IsGone s h why → IsLive s h → ⊥
  gone_is_not_live s h Never sound gone now = gone (live_was_given s h sound now)
  gone_is_not_live s h (Dropped m) sound gone now = gone.0.not_live now
