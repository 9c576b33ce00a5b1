-- What a handle store is behind each change.
use Rattle.std.proofs.Common.{◌≡◌, ◌≢◌, ℕ, ◌+◌, ◌-◌, ◌^◌, ◌<◌, ◌≤◌, List, [], ◌∷◌, ◌++◌, length, get_or, take, Some, None, refl, sym, ◌∙◌, ap, subst, inl, inr, arith, Contains, AllPairs}
use Rattle.std.proofs.lemmas.Bool.{cases_eq, cases_lt}
use Rattle.std.proofs.lemmas.List.{get_or_past}
use Rattle.std.proofs.lemmas.List.Elements.{Contains-append_left, Contains-push, Contains-push_cases, Contains-get_or}
use Rattle.gen_arena.specs.declared.handle.Handle.{Handle}
use Rattle.gen_arena.specs.Store.{HandleStore, Slot, greatest, put_at, unused, live, spent, slot_at, last_of, Names, room_of, IsWaiting, IsHandleStore, next_slot, with_value, with_written, without}
use Rattle.gen_arena.proofs.ListLemmas.{length-put_at, length-put_at_within, get_or-put_at_same, get_or-put_at_other, but_last, Contains-take, AllPairs-take, AllPairs-push, distinct_last}

module _ {T : Type 0} where
  -- ---- a slot is changed

  -- the stores agree on all slots but one
  pub record ChangesSlot (s t : HandleStore T) (k : ℕ) (x : Slot T) : Type 0 where
    pub here : slot_at t k ≡ x
    pub there : (j : ℕ) → j ≢ k → slot_at t j ≡ slot_at s j

  pub changes_slot : (s t : HandleStore T) (k : ℕ) (x : Slot T) → k ≤ length s.slots → t.slots ≡ put_at s.slots k x → ChangesSlot s t k x
  changes_slot s t k x within is = record {
    here = ap (λ (xs : List (Slot T)). get_or xs k unused) is ∙ get_or-put_at_same s.slots k x unused within;
    there = λ j other. ap (λ (xs : List (Slot T)). get_or xs j unused) is ∙ get_or-put_at_other s.slots k x j unused within other;
  }

  -- a slot that holds a value was given
  pub held_within : (s : HandleStore T) (k : ℕ) (v : T) → (slot_at s k).held ≡ Some v → k < length s.slots
  held_within s k v held =
      elim (cases_lt k (length s.slots)) [
        | inl below ↦ below
        | inr past ↦ let none : (slot_at s k).held ≡ None = ap (λ (x : Slot T). x.held) (get_or_past s.slots k unused past) in absurd (cc)
      ]

  -- a live handle's slot was given, and its last generation is the handle's
  pub named_within : (s : HandleStore T) (h : Handle) (v : T) → Names s h v → h.slot < length s.slots
  named_within s h v named = held_within s h.slot v (ap (λ (x : Slot T). x.held) named)

  -- ---- the slot that is given next

  pub freed_waits : (s : HandleStore T) → IsHandleStore s → 0 < length s.freed → IsWaiting s (next_slot s)
  freed_waits s sound some = sound.waiting (next_slot s) (Contains-get_or s.freed (length s.freed - 1) (length s.slots) (omega arith))

  pub new_is_next : (s : HandleStore T) → length s.freed ≡ 0 → next_slot s ≡ length s.slots
  new_is_next s none = get_or_past s.freed (length s.freed - 1) (length s.slots) (omega arith)

  -- what is known of the slot that is given next
  pub record IsReady (s : HandleStore T) (k : ℕ) : Type 0 where
    pub within : k ≤ length s.slots
    pub empty : (slot_at s k).held ≡ None
    pub again : last_of s k < greatest
    pub new : length s.slots ≤ k → length s.freed ≡ 0

  pub next_is_ready : (s : HandleStore T) → IsHandleStore s → IsReady s (next_slot s)
  next_is_ready s sound =
      elim (cases_lt 0 (length s.freed)) [
        | inl some ↦
            let waits = freed_waits s sound some in
            let given : next_slot s < length s.slots = waits.given in
            record { within = omega arith; empty = waits.not_live; again = waits.again; new = λ past. absurd (omega arith) }
        | inr none ↦
            let new : next_slot s ≡ length s.slots = new_is_next s (omega arith) in
            let slot : slot_at s (next_slot s) ≡ unused = get_or_past s.slots (next_slot s) unused (omega arith) in
            let last : last_of s (next_slot s) ≡ 0 = ap (λ (x : Slot T). x.last) slot in
            record { within = omega arith; empty = ap (λ (x : Slot T). x.held) slot; again = omega arith; new = λ _. omega arith }
      ]

  -- ---- the changes

  pub value_changes : (v : T) (s : HandleStore T) → IsHandleStore s → ChangesSlot s (with_value v s) (next_slot s) (live (last_of s (next_slot s) + 1) v)
  value_changes v s sound = changes_slot s (with_value v s) (next_slot s) (live (last_of s (next_slot s) + 1) v) (next_is_ready s sound).within refl

  pub writing_changes : (h : Handle) (old v : T) (s : HandleStore T) → Names s h old → ChangesSlot s (with_written h v s) h.slot (live h.generation v)
  writing_changes h old v s named =
      let within = named_within s h old named in
      changes_slot s (with_written h v s) h.slot (live h.generation v) (omega arith) refl

  pub removal_changes : (h : Handle) (v : T) (s : HandleStore T) → Names s h v → ChangesSlot s (without h s) h.slot (spent h.generation)
  removal_changes h v s named =
      let within = named_within s h v named in
      changes_slot s (without h s) h.slot (spent h.generation) (omega arith) refl

  -- ---- a value is inserted

  module _ (v : T) (s : HandleStore T) (sound : IsHandleStore s) (room : 1 ≤ room_of s) where
    abbrev new : HandleStore T
    new = with_value v s

    ready : IsReady s (next_slot s)
    ready = next_is_ready s sound

    changes : ChangesSlot s new (next_slot s) (live (last_of s (next_slot s) + 1) v)
    changes = value_changes v s sound

    last_here : last_of new (next_slot s) ≡ last_of s (next_slot s) + 1
    last_here = ap (λ (x : Slot T). x.last) changes.here

    last_there : (k : ℕ) → k ≢ next_slot s → last_of new k ≡ last_of s k
    last_there k other = ap (λ (x : Slot T). x.last) (changes.there k other)

    longer : (length s.slots ≤ length new.slots) × (length new.slots ≤ length s.slots + 1)
    longer = length-put_at s.slots (next_slot s) (live (last_of s (next_slot s) + 1) v) ready.within

    within_limit : length new.slots ≤ s.limit
    within_limit =
        elim (cases_lt (next_slot s) (length s.slots)) [
          | inl below ↦ let same : length new.slots ≡ length s.slots = length-put_at_within s.slots (next_slot s) _ below in omega (arith, sound.within)
          | inr past ↦ let none : length s.freed ≡ 0 = ready.new past in omega (arith, room, longer.1)
        ]

    -- a slot that was given, other than this one, was given before
    given_before : (k : ℕ) → k < length new.slots → k ≢ next_slot s → k < length s.slots
    given_before k given other =
        elim (cases_lt (next_slot s) (length s.slots)) [
          | inl below ↦ let same : length new.slots ≡ length s.slots = length-put_at_within s.slots (next_slot s) _ below in omega arith
          | inr past ↦ let at_end : next_slot s ≡ length s.slots = omega (arith, ready.within) in omega (arith, longer.1)
        ]

    begun_after : (k : ℕ) → k < length new.slots → 1 ≤ last_of new k
    begun_after k given =
        elim (cases_eq k (next_slot s)) [
          | inl here ↦ let one : last_of new k ≡ last_of s (next_slot s) + 1 = ap (last_of new) here ∙ last_here in omega arith
          | inr there ↦ let same = last_there k there in omega (arith, sound.begun k (given_before k given there))
        ]

    bounded_after : (k : ℕ) → last_of new k ≤ greatest
    bounded_after k =
        elim (cases_eq k (next_slot s)) [
          | inl here ↦
              let one : last_of new k ≡ last_of s (next_slot s) + 1 = ap (last_of new) here ∙ last_here in
              let less : last_of s (next_slot s) < greatest = ready.again in omega arith
          | inr there ↦ let same = last_there k there in omega (arith, sound.bounded k)
        ]

    -- a slot that waits is another one
    is_other : (k : ℕ) → IsWaiting new k → k ≢ next_slot s
    is_other k waits here =
        let held : (slot_at new k).held ≡ Some v = ap (λ (n : ℕ). (slot_at new n).held) here ∙ ap (λ (x : Slot T). x.held) changes.here in
        let none : (slot_at new k).held ≡ None = waits.not_live in absurd (cc)

    waits_on : (k : ℕ) → k ≢ next_slot s → IsWaiting s k → IsWaiting new k
    waits_on k other waits = record {
      given = omega (arith, waits.given, longer.0);
      not_live = ap (λ (x : Slot T). x.held) (changes.there k other) ∙ waits.not_live;
      again = let same = last_there k other in omega (arith, waits.again);
    }

    waited_before : (k : ℕ) → IsWaiting new k → IsWaiting s k
    waited_before k waits =
        let other = is_other k waits in
        record {
          given = given_before k waits.given other;
          not_live = ap (λ (x : Slot T). x.held) (sym (changes.there k other)) ∙ waits.not_live;
          again = let same = last_there k other in omega (arith, waits.again);
        }

    waiting_after : (k : ℕ) → Contains new.freed k → IsWaiting new k
    waiting_after k listed =
        let before : Contains s.freed k = Contains-take (length s.freed - 1) s.freed k listed in
        let some : 0 < length s.freed = omega (arith, before.1) in
        waits_on k (distinct_last s.freed (length s.freed - 1) (length s.slots) k (omega arith) sound.once listed) (sound.waiting k before)

    none_lost_after : (k : ℕ) → IsWaiting new k → Contains new.freed k
    none_lost_after k waits =
        let before : Contains s.freed k = sound.none_lost k (waited_before k waits) in
        let some : 0 < length s.freed = omega (arith, before.1) in
        let split : s.freed ≡ take (length s.freed - 1) s.freed ++ next_slot s ∷ [] = but_last s.freed (length s.freed - 1) (length s.slots) (omega arith) in
        elim (Contains-push_cases _ _ k (subst (λ (xs : List ℕ). Contains xs k) split before)) [
          | inl early ↦ early
          | inr last ↦ absurd (is_other k waits (sym last))
        ]

    pub IsHandleStore-with_value : IsHandleStore (with_value v s)
    IsHandleStore-with_value = record {
      within = within_limit;
      begun = begun_after;
      bounded = bounded_after;
      waiting = waiting_after;
      none_lost = none_lost_after;
      once = AllPairs-take (λ j k. j ≢ k) (length s.freed - 1) s.freed sound.once;
    }

  -- ---- a value is written

  -- the stores agree on the slots that were given, on the last generation of each, on which are live, and on the freed ones
  pub IsHandleStore-alike : (s t : HandleStore T) → t.limit ≡ s.limit → length t.slots ≡ length s.slots → ((k : ℕ) → last_of t k ≡ last_of s k)
      → ((k : ℕ) → (slot_at s k).held ≡ None → (slot_at t k).held ≡ None) → ((k : ℕ) → (slot_at t k).held ≡ None → (slot_at s k).held ≡ None)
      → t.freed ≡ s.freed → IsHandleStore s → IsHandleStore t
  IsHandleStore-alike s t limit long last dead dead_before freed sound = record {
    within = omega (arith, sound.within);
    begun = λ k given. let same = last k in omega (arith, sound.begun k (omega arith));
    bounded = λ k. let same = last k in omega (arith, sound.bounded k);
    waiting = λ k listed.
        let waits = sound.waiting k (subst (λ (xs : List ℕ). Contains xs k) freed listed) in
        let same = last k in
        record { given = omega (arith, waits.given); not_live = dead k waits.not_live; again = omega (arith, waits.again) };
    none_lost = λ k waits.
        let same = last k in
        subst (λ (xs : List ℕ). Contains xs k) (sym freed) (sound.none_lost k (record { given = omega (arith, waits.given); not_live = dead_before k waits.not_live; again = omega (arith, waits.again) }));
    once = subst (λ (xs : List ℕ). AllPairs (λ j k. j ≢ k) xs) (sym freed) sound.once;
  }

  pub IsHandleStore-with_written : (h : Handle) (old v : T) (s : HandleStore T) → Names s h old → IsHandleStore s → IsHandleStore (with_written h v s)
  IsHandleStore-with_written h old v s named sound =
      IsHandleStore-alike s (with_written h v s) refl (length-put_at_within s.slots h.slot _ (named_within s h old named)) lasts dead dead_before refl sound
    where
      changes : ChangesSlot s (with_written h v s) h.slot (live h.generation v)
      changes = writing_changes h old v s named

      lasts : (k : ℕ) → last_of (with_written h v s) k ≡ last_of s k
      lasts k =
          elim (cases_eq k h.slot) [
            | inl here ↦ ap (last_of (with_written h v s)) here ∙ ap (λ (x : Slot T). x.last) (changes.here ∙ sym (ap (λ (x : Slot T). live x.last v) named)) ∙ ap (last_of s) (sym here)
            | inr there ↦ ap (λ (x : Slot T). x.last) (changes.there k there)
          ]

      dead : (k : ℕ) → (slot_at s k).held ≡ None → (slot_at (with_written h v s) k).held ≡ None
      dead k none =
          elim (cases_eq k h.slot) [
            | inl here ↦ let some : (slot_at s k).held ≡ Some old = ap (λ (n : ℕ). (slot_at s n).held) here ∙ ap (λ (x : Slot T). x.held) named in absurd (cc)
            | inr there ↦ ap (λ (x : Slot T). x.held) (changes.there k there) ∙ none
          ]

      dead_before : (k : ℕ) → (slot_at (with_written h v s) k).held ≡ None → (slot_at s k).held ≡ None
      dead_before k none =
          elim (cases_eq k h.slot) [
            | inl here ↦
                let some : (slot_at (with_written h v s) k).held ≡ Some v = ap (λ (n : ℕ). (slot_at (with_written h v s) n).held) here ∙ ap (λ (x : Slot T). x.held) changes.here in absurd (cc)
            | inr there ↦ ap (λ (x : Slot T). x.held) (sym (changes.there k there)) ∙ none
          ]

  -- ---- a value is removed

  -- the freed slots, by whether the generation is the greatest
  pub freed_stays : (h : Handle) (s : HandleStore T) → h.generation ≡ greatest → (without h s).freed ≡ s.freed
  freed_stays h s same = grind arith

  pub freed_grows : (h : Handle) (s : HandleStore T) → h.generation ≢ greatest → (without h s).freed ≡ s.freed ++ h.slot ∷ []
  freed_grows h s differs = grind arith

  pub are_freed_stays : (h : Handle) (s : HandleStore T) → greatest ≤ h.generation → h.generation < 2 ^ 64 → s.freed ≡ (without h s).freed
  are_freed_stays h s most fits = sym (freed_stays h s (omega arith))

  pub are_freed_grows : (h : Handle) (s : HandleStore T) (rest : List ℕ) → h.generation < greatest → rest ≡ s.freed ++ h.slot ∷ [] → rest ≡ (without h s).freed
  are_freed_grows h s rest less grown = grown ∙ sym (freed_grows h s (λ same. absurd (omega arith)))

  module _ (h : Handle) (v : T) (s : HandleStore T) (named : Names s h v) (sound : IsHandleStore s) where
    abbrev rest : HandleStore T
    rest = without h s

    removal : ChangesSlot s rest h.slot (spent h.generation)
    removal = removal_changes h v s named

    named_last : last_of s h.slot ≡ h.generation
    named_last = ap (λ (x : Slot T). x.last) named

    lasts : (k : ℕ) → last_of rest k ≡ last_of s k
    lasts k =
        elim (cases_eq k h.slot) [
          | inl here ↦ ap (last_of rest) here ∙ ap (λ (x : Slot T). x.last) removal.here ∙ sym named_last ∙ ap (last_of s) (sym here)
          | inr there ↦ ap (λ (x : Slot T). x.last) (removal.there k there)
        ]

    as_long : length rest.slots ≡ length s.slots
    as_long = length-put_at_within s.slots h.slot _ (named_within s h v named)

    -- a slot that waited is another one
    waited_apart : (k : ℕ) → IsWaiting s k → k ≢ h.slot
    waited_apart k waits here =
        let some : (slot_at s k).held ≡ Some v = ap (λ (n : ℕ). (slot_at s n).held) here ∙ ap (λ (x : Slot T). x.held) named in
        let none : (slot_at s k).held ≡ None = waits.not_live in absurd (cc)

    waits_still : (k : ℕ) → IsWaiting s k → IsWaiting rest k
    waits_still k waits =
        let same = lasts k in
        record {
          given = omega (arith, waits.given, as_long);
          not_live = ap (λ (x : Slot T). x.held) (removal.there k (waited_apart k waits)) ∙ waits.not_live;
          again = omega (arith, waits.again);
        }

    waited : (k : ℕ) → k ≢ h.slot → IsWaiting rest k → IsWaiting s k
    waited k other waits =
        let same = lasts k in
        record {
          given = omega (arith, waits.given, as_long);
          not_live = ap (λ (x : Slot T). x.held) (sym (removal.there k other)) ∙ waits.not_live;
          again = omega (arith, waits.again);
        }

    -- the slot itself waits, unless its generation is the greatest
    waits_itself : h.generation ≢ greatest → IsWaiting rest h.slot
    waits_itself less =
        let same = lasts h.slot in
        let bound : last_of s h.slot ≤ greatest = sound.bounded h.slot in
        let last = named_last in
        let within = named_within s h v named in
        record {
          given = omega (arith, as_long);
          not_live = ap (λ (x : Slot T). x.held) removal.here;
          again = omega arith;
        }

    waiting_rest : (k : ℕ) → Contains rest.freed k → IsWaiting rest k
    waiting_rest k listed =
        elim (cases_eq h.generation greatest) [
          | inl same ↦ waits_still k (sound.waiting k (subst (λ (xs : List ℕ). Contains xs k) (freed_stays h s same) listed))
          | inr differs ↦
              elim (Contains-push_cases _ _ k (subst (λ (xs : List ℕ). Contains xs k) (freed_grows h s differs) listed)) [
                | inl before ↦ waits_still k (sound.waiting k before)
                | inr here ↦ subst (IsWaiting rest) here (waits_itself differs)
              ]
        ]

    none_lost_rest : (k : ℕ) → IsWaiting rest k → Contains rest.freed k
    none_lost_rest k waits =
        elim (cases_eq h.generation greatest) [
          | inl same ↦
              elim (cases_eq k h.slot) [
                | inl here ↦
                    let last : last_of rest k ≡ h.generation = lasts k ∙ ap (last_of s) here ∙ named_last in
                    let less : last_of rest k < greatest = waits.again in absurd (omega arith)
                | inr there ↦ subst (λ (xs : List ℕ). Contains xs k) (sym (freed_stays h s same)) (sound.none_lost k (waited k there waits))
              ]
          | inr differs ↦
              subst (λ (xs : List ℕ). Contains xs k) (sym (freed_grows h s differs))
              (elim (cases_eq k h.slot) [
                | inl here ↦ subst (Contains (s.freed ++ h.slot ∷ [])) (sym here) (Contains-push s.freed h.slot)
                | inr there ↦ Contains-append_left s.freed (h.slot ∷ []) k (sound.none_lost k (waited k there waits))
              ])
        ]

    once_rest : AllPairs (λ j k. j ≢ k) rest.freed
    once_rest =
        elim (cases_eq h.generation greatest) [
          | inl same ↦ subst (λ (xs : List ℕ). AllPairs (λ j k. j ≢ k) xs) (sym (freed_stays h s same)) sound.once
          | inr differs ↦
              subst (λ (xs : List ℕ). AllPairs (λ j k. j ≢ k) xs) (sym (freed_grows h s differs))
              (AllPairs-push (λ j k. j ≢ k) s.freed h.slot sound.once (λ k listed. waited_apart k (sound.waiting k listed)))
        ]

    pub IsHandleStore-without : IsHandleStore (without h s)
    IsHandleStore-without = record {
      within = omega (arith, sound.within, as_long);
      begun = λ k given. let same = lasts k in omega (arith, sound.begun k (omega (arith, as_long)));
      bounded = λ k. let same = lasts k in omega (arith, sound.bounded k);
      waiting = waiting_rest;
      none_lost = none_lost_rest;
      once = once_rest;
    }
