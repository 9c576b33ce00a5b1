-- What an arena stands for behind each change of its parts.
use Rattle.std.proofs.Common.{◌≡◌, ◌≢◌, ℕ, ◌+◌, ◌-◌, ◌<◌, ◌≤◌, List, length, get_or, take, map, Option, Some, None, is_some, true, false, Bool, refl, sym, ◌∙◌, ap, subst, inl, inr, arith, cond, min}
use Rattle.std.specs.Option.{option_and_then}
use Rattle.std.proofs.lemmas.Bool.{cases_eq, cases_lt}
use Rattle.std.proofs.lemmas.List.{length-map, length-take, get_or_past}
use Rattle.std.proofs.lemmas.List.Sums.{sum_by-set}
use Rattle.std.proofs.Math.ListN.{get_or-map}
use Rattle.slab.specs.Slab.{Slab, Updates, ContainsKey, get, slab_len, with_value as with_slab_value}
use Rattle.slab.proofs.SlabLemmas.{Updates-with_value, ContainsKey-within}
use Rattle.gen_arena.specs.declared.handle.Handle.{Handle}
use Rattle.gen_arena.specs.declared.handle.Gone.{Gone}
use Rattle.gen_arena.specs.declared.handle.Gone.TheVariants.{Never, Dropped}
use Rattle.gen_arena.specs.declared.places.Place.{Place}
use Rattle.gen_arena.specs.Store.{HandleStore, ReservedStore, Slot, greatest, put_at, unused, live, last_of, IsGone, IsUpTo, Names, IsHandleStore, next_slot, next_handle, room_of, with_value, with_written, without}
use Rattle.gen_arena.specs.Places.{IsGoneAt, unplaced, place_at, keyed, next_of, seen, slots_left, spare_of, store_of, IsArranged}
use Rattle.gen_arena.proofs.ListLemmas.{length-put_at, length-put_at_within, length-put_at_end, get_or-put_at_same, get_or-put_at_other, put_at-agree, put_at-same, map-put_at}
use Rattle.gen_arena.proofs.StoreLemmas.{IsReady, next_is_ready, IsHandleStore-with_value, IsHandleStore-with_written, IsHandleStore-without}

-- the slot is kept without a key
abbrev pub unkeyed : ℕ → Place
unkeyed generation = record { generation = generation; key = None }

-- a place that has a key is one of the list
pub keyed_within : (places : List Place) (k key : ℕ) → (place_at places k).key ≡ Some key → k < length places
keyed_within places k key has =
    elim (cases_lt k (length places)) [
      | inl below ↦ below
      | inr past ↦ let none : (place_at places k).key ≡ None = ap (λ (p : Place). p.key) (get_or_past places k unplaced past) in absurd (cc)
    ]

-- what is known of the slot that is given next
pub record FitsNext (places : List Place) (freed : List ℕ) : Type 0 where
  pub within : next_of places freed ≤ length places
  pub again : (place_at places (next_of places freed)).generation < greatest
  pub new : length places ≤ next_of places freed → length freed ≡ 0

module _ {T : Type 0} where
  abbrev pub view_of : HandleStore T → ℕ → ReservedStore T
  view_of s n = record { store = s; spare = n }

  pub seen_at : (values : Slab T) (places : List Place) (k : ℕ) → get_or (map (seen values) places) k unused ≡ seen values (place_at places k)
  seen_at values places k = get_or-map (seen values) places k unplaced

  pub last_is : (limit : ℕ) (places : List Place) (freed : List ℕ) (values : Slab T) (k : ℕ) → last_of (store_of limit places freed values) k ≡ (place_at places k).generation
  last_is limit places freed values k = ap (λ (x : Slot T). x.last) (seen_at values places k)

  pub next_is : (limit : ℕ) (places : List Place) (freed : List ℕ) (values : Slab T) → next_slot (store_of limit places freed values) ≡ next_of places freed
  next_is limit places freed values = ap (λ n. get_or freed (length freed - 1) n) (length-map places (seen values))

  -- no more slots are given than may be
  pub places_few : (limit : ℕ) (places : List Place) (freed : List ℕ) (values : Slab T) → IsArranged limit places freed values → length places ≤ limit
  places_few limit places freed values arranged = omega (arith, arranged.store.within, length-map places (seen values))

  -- the slab's capacity is of no account
  pub arranged_capacity : (limit : ℕ) (places : List Place) (freed : List ℕ) (values new : Slab T) → new ≡ record values { capacity = new.capacity }
      → IsArranged limit places freed values → IsArranged limit places freed new
  arranged_capacity limit places freed values new same arranged =
      subst (IsArranged limit places freed) (sym same) (record { store = arranged.store; counted = arranged.counted; kept = arranged.kept; apart = arranged.apart })

  -- the slab's other keys find what they found
  held_agrees : (old new : Slab T) (key : ℕ) (slot : Option T) → Updates old new key slot → (o : Option ℕ) → o ≢ Some key → option_and_then (get new) o ≡ option_and_then (get old) o
  held_agrees old new key slot updates None other = refl
  held_agrees old new key slot updates (Some q) other = updates.others q (λ same. other (ap Some same))

  seen_agrees : (old new : Slab T) (key : ℕ) (slot : Option T) → Updates old new key slot → (p : Place) → p.key ≢ Some key → seen new p ≡ seen old p
  seen_agrees old new key slot updates p other = ap (λ (o : Option T). record { last = p.generation; held = o }) (held_agrees old new key slot updates p.key other)

  -- a place is changed, and the values of all others stay
  seen-put : (old new : Slab T) (places : List Place) (k : ℕ) (p : Place) → k ≤ length places
      → ((i : ℕ) → i ≢ k → seen new (place_at places i) ≡ seen old (place_at places i))
      → map (seen new) (put_at places k p) ≡ put_at (map (seen old) places) k (seen new p)
  seen-put old new places k p within stay =
      map-put_at (seen new) places k p
      ∙ put_at-agree (map (seen new) places) (map (seen old) places) k (seen new p) unused
      (length-map places (seen new) ∙ sym (length-map places (seen old)))
      (let long = length-map places (seen new) in omega arith)
      (λ i other. seen_at new places i ∙ stay i other ∙ sym (seen_at old places i))

  -- ---- a value is named

  pub names : (limit : ℕ) (places : List Place) (freed : List ℕ) (values : Slab T) (h : Handle) (key : ℕ) (v : T)
      → place_at places h.slot ≡ keyed h.generation key → get values key ≡ Some v → Names (store_of limit places freed values) h v
  names limit places freed values h key v placed holds =
      seen_at values places h.slot ∙ ap (seen values) placed ∙ ap (λ (o : Option T). record { last = h.generation; held = o }) holds

  -- a place whose slot holds a value has its key
  key_is : (values : Slab T) (o : Option ℕ) (v : T) → option_and_then (get values) o ≡ Some v → (q : ℕ) × (o ≡ Some q)
  key_is values None v holds = absurd (cc)
  key_is values (Some q) v holds = (q, refl)

  pub is_gone : (limit : ℕ) (places : List Place) (freed : List ℕ) (values : Slab T) (h : Handle) (why : Gone)
      → IsGoneAt (place_at places h.slot) h why → IsGone (store_of limit places freed values) h why
  is_gone limit places freed values h Never gone =
      λ given. gone (subst (λ (last : ℕ). IsUpTo last h.generation) (last_is limit places freed values h.slot) given)
  is_gone limit places freed values h (Dropped last) gone = (
    record {
      given = subst (λ (n : ℕ). IsUpTo n h.generation) (sym (last_is limit places freed values h.slot)) gone.0;
      not_live = λ named.
          let slot : seen values (place_at places h.slot) ≡ live h.generation named.0 = sym (seen_at values places h.slot) ∙ named.1 in
          let key = key_is values (place_at places h.slot).key named.0 (ap (λ (x : Slot T). x.held) slot) in
          gone.1 key.0 (ap (λ (n : ℕ). record { generation = n; key = (place_at places h.slot).key }) (ap (λ (x : Slot T). x.last) slot)
          ∙ ap (λ (o : Option ℕ). record { generation = h.generation; key = o }) key.1);
    },
    gone.2 ∙ sym (last_is limit places freed values h.slot),
  )

  -- ---- a value comes in

  pub next_fits : (limit : ℕ) (places : List Place) (freed : List ℕ) (values : Slab T) → IsArranged limit places freed values → FitsNext places freed
  next_fits limit places freed values arranged =
      let ready : IsReady (store_of limit places freed values) (next_of places freed)
      = subst (IsReady (store_of limit places freed values)) (next_is limit places freed values) (next_is_ready (store_of limit places freed values) arranged.store) in
      let long = length-map places (seen values) in
      record {
        within = omega (arith, ready.within);
        again = omega (arith, ready.again, last_is limit places freed values (next_of places freed));
        new = λ past. ready.new (omega arith);
      }

  -- the handle that is given next
  pub handle_is : (limit : ℕ) (places : List Place) (freed : List ℕ) (values : Slab T) (h : Handle) → h.slot ≡ next_of places freed
      → h.generation ≡ (place_at places h.slot).generation + 1 → h ≡ next_handle (store_of limit places freed values)
  handle_is limit places freed values h slot generation =
      let at_next : h.slot ≡ next_slot (store_of limit places freed values) = slot ∙ sym (next_is limit places freed values) in
      let last : h.generation ≡ last_of (store_of limit places freed values) (next_slot (store_of limit places freed values)) + 1
      = generation ∙ ap (λ (n : ℕ). n + 1) (sym (last_is limit places freed values h.slot) ∙ ap (last_of (store_of limit places freed values)) at_next) in
      ap (λ (n : ℕ). record { slot = n; generation = h.generation }) at_next
      ∙ ap (λ (n : ℕ). record { slot = next_slot (store_of limit places freed values); generation = n }) last

  module _ (limit : ℕ) (places : List Place) (freed : List ℕ) (values new : Slab T) (key : ℕ) (v : T)
      (arranged : IsArranged limit places freed values) (vacant : get values key ≡ None) (updates : Updates values new key (Some v)) where
    abbrev next : ℕ
    next = next_of places freed

    abbrev given : Place
    given = keyed ((place_at places next).generation + 1) key

    -- no slot has the new key
    new_key : (k : ℕ) → (place_at places k).key ≢ Some key
    new_key k has =
        let there : is_some (get values key) ≡ true = arranged.kept k key has in
        let not : is_some (get values key) ≡ false = ap is_some vacant in absurd (cc)

    next_within : next ≤ length places
    next_within = (next_fits limit places freed values arranged).within

    pub comes_in : store_of limit (put_at places next given) (take (length freed - 1) freed) new ≡ with_value v (store_of limit places freed values)
    comes_in =
        let slots : map (seen new) (put_at places next given) ≡ put_at (map (seen values) places) next (seen new given)
        = seen-put values new places next given next_within (λ i _. seen_agrees values new key (Some v) updates (place_at places i) (new_key i)) in
        let held : seen new given ≡ live ((place_at places next).generation + 1) v
        = ap (λ (o : Option T). record { last = (place_at places next).generation + 1; held = o }) updates.changed in
        let at_next : next_slot (store_of limit places freed values) ≡ next = next_is limit places freed values in
        let last : last_of (store_of limit places freed values) (next_slot (store_of limit places freed values)) ≡ (place_at places next).generation
        = ap (last_of (store_of limit places freed values)) at_next ∙ last_is limit places freed values next in
        ap (λ (xs : List (Slot T)). record { limit = limit; slots = xs; freed = take (length freed - 1) freed })
        (slots ∙ ap (put_at (map (seen values) places) next) held
        ∙ ap (λ (n : ℕ). put_at (map (seen values) places) n (live ((place_at places next).generation + 1) v)) (sym at_next)
        ∙ ap (λ (g : ℕ). put_at (map (seen values) places) (next_slot (store_of limit places freed values)) (live (g + 1) v)) (sym last))

    kept_in : (k q : ℕ) → (place_at (put_at places next given) k).key ≡ Some q → ContainsKey new q
    kept_in k q has =
        elim (cases_eq k next) [
          | inl here ↦
              let mine : (place_at (put_at places next given) k).key ≡ Some key
              = ap (λ (n : ℕ). (place_at (put_at places next given) n).key) here ∙ ap (λ (p : Place). p.key) (get_or-put_at_same places next given unplaced next_within) in
              let same : q ≡ key = cc in
              ap is_some (ap (get new) same ∙ updates.changed)
          | inr there ↦
              let before : (place_at places k).key ≡ Some q = ap (λ (p : Place). p.key) (sym (get_or-put_at_other places next given k unplaced next_within there)) ∙ has in
              ap is_some (updates.others q (λ same. new_key k (before ∙ ap Some same))) ∙ arranged.kept k q before
        ]

    key_there : (k q : ℕ) → k ≢ next → (place_at (put_at places next given) k).key ≡ Some q → (place_at places k).key ≡ Some q
    key_there k q there has = ap (λ (p : Place). p.key) (sym (get_or-put_at_other places next given k unplaced next_within there)) ∙ has

    key_here : (k q : ℕ) → k ≡ next → (place_at (put_at places next given) k).key ≡ Some q → q ≡ key
    key_here k q here has =
        let mine : (place_at (put_at places next given) k).key ≡ Some key
        = ap (λ (n : ℕ). (place_at (put_at places next given) n).key) here ∙ ap (λ (p : Place). p.key) (get_or-put_at_same places next given unplaced next_within) in cc

    apart_in : (j k q : ℕ) → (place_at (put_at places next given) j).key ≡ Some q → (place_at (put_at places next given) k).key ≡ Some q → j ≡ k
    apart_in j k q one other =
        elim (cases_eq j next) [
          | inl j_here ↦
              elim (cases_eq k next) [
                | inl k_here ↦ j_here ∙ sym k_here
                | inr k_there ↦ absurd (new_key k (key_there k q k_there other ∙ ap Some (key_here j q j_here one)))
              ]
          | inr j_there ↦
              elim (cases_eq k next) [
                | inl k_here ↦ absurd (new_key j (key_there j q j_there one ∙ ap Some (key_here k q k_here other)))
                | inr k_there ↦ arranged.apart j k q (key_there j q j_there one) (key_there k q k_there other)
              ]
        ]

    counted_in : slab_len new ≡ slab_len values + 1 → length (take (length freed - 1) freed) + slab_len new ≤ length (put_at places next given)
    counted_in more =
        let cut = length-take (length freed - 1) freed in
        let counted : length freed + slab_len values ≤ length places = arranged.counted in
        let longer = length-put_at places next given next_within in
        elim (cases_lt 0 (length freed)) [
          | inl some ↦ omega (arith, longer.0)
          | inr none ↦
              let at_end : next ≡ length places = get_or_past freed (length freed - 1) (length places) (omega arith) in
              let one = length-put_at_end places next given at_end in omega arith
        ]

    -- a new slot is given only where none was freed
    pub long_in : (n : ℕ) → length places ≤ n → (length freed ≡ 0 → length places < n) → length (put_at places next given) ≤ n
    long_in n fits one_more =
        elim (cases_lt next (length places)) [
          | inl below ↦ let same = length-put_at_within places next given below in omega arith
          | inr past ↦ let longer = length-put_at places next given next_within in omega (arith, longer.1, one_more ((next_fits limit places freed values arranged).new past))
        ]

    pub spare_in : (room more : ℕ) → room ≤ more → values.capacity ≤ new.capacity → slab_len new ≡ slab_len values + 1
        → spare_of places freed values room ≤ spare_of (put_at places next given) (take (length freed - 1) freed) new more + 1
    spare_in room more grows larger one_more =
        let cut = length-take (length freed - 1) freed in
        let longer = length-put_at places next given next_within in
        elim (cases_lt next (length places)) [
          | inl below ↦
              let same = length-put_at_within places next given below in omega arith
          | inr past ↦
              let none : length freed ≡ 0 = (next_fits limit places freed values arranged).new past in omega (arith, longer.1)
        ]

    pub arranged_in : 1 ≤ room_of (store_of limit places freed values) → slab_len new ≡ slab_len values + 1
        → IsArranged limit (put_at places next given) (take (length freed - 1) freed) new
    arranged_in room more = record {
      store = subst IsHandleStore (sym comes_in) (IsHandleStore-with_value v (store_of limit places freed values) arranged.store room);
      counted = counted_in more;
      kept = kept_in;
      apart = apart_in;
    }

  -- ---- the key of a live handle

  module _ (limit : ℕ) (places : List Place) (freed : List ℕ) (values : Slab T) (h : Handle) (key : ℕ) (v : T)
      (arranged : IsArranged limit places freed values) (placed : place_at places h.slot ≡ keyed h.generation key) (holds : get values key ≡ Some v) where
    abbrev store : HandleStore T
    store = store_of limit places freed values

    has_key : (place_at places h.slot).key ≡ Some key
    has_key = ap (λ (p : Place). p.key) placed

    pub slot_within : h.slot < length places
    slot_within = keyed_within places h.slot key has_key

    -- no other slot has the key
    other_key : (k : ℕ) → k ≢ h.slot → (place_at places k).key ≢ Some key
    other_key k there has = there (arranged.apart k h.slot key has has_key)

    named : Names store h v
    named = names limit places freed values h key v placed holds

    -- ---- another value is written

    module _ (w : T) where
      abbrev written : Slab T
      written = with_slab_value values key w

      found : ContainsKey values key
      found = ap is_some holds

      write : Updates values written key (Some w)
      write = Updates-with_value values key w found

      pub is_written : store_of limit places freed written ≡ with_written h w store
      is_written =
          let stays : put_at places h.slot (keyed h.generation key) ≡ places = put_at-same places h.slot (keyed h.generation key) unplaced slot_within placed in
          let slots : map (seen written) (put_at places h.slot (keyed h.generation key)) ≡ put_at (map (seen values) places) h.slot (seen written (keyed h.generation key))
          = seen-put values written places h.slot (keyed h.generation key) (omega (arith, slot_within))
          (λ i there. seen_agrees values written key (Some w) write (place_at places i) (other_key i there)) in
          let held : seen written (keyed h.generation key) ≡ live h.generation w = ap (λ (o : Option T). record { last = h.generation; held = o }) write.changed in
          ap (λ (xs : List (Slot T)). record { limit = limit; slots = xs; freed = freed })
          (ap (map (seen written)) (sym stays) ∙ slots ∙ ap (put_at (map (seen values) places) h.slot) held)

      as_many : slab_len written ≡ slab_len values
      as_many =
          let counts : Bool → ℕ = λ b. cond b 1 0 in
          let set_one : slab_len written + counts (is_some (get values key)) ≡ slab_len values + 1
          = sum_by-set (λ o. cond (is_some o) 1 0) values.slots key (Some w) None (ContainsKey-within values key found) in
          let was : counts (is_some (get values key)) ≡ counts true = ap counts found in
          omega (arith, set_one, was)

      -- the arena as contracts see it, behind the write
      pub written_view : (room : ℕ) → view_of (store_of limit places freed written) (spare_of places freed written room) ≡ view_of (with_written h w store) (spare_of places freed values room)
      written_view room =
          ap (λ (s : HandleStore T). view_of s (spare_of places freed written room)) is_written
          ∙ ap (λ (n : ℕ). view_of (with_written h w store) (min (values.capacity - n) (slots_left places freed room))) as_many

      kept_written : (k q : ℕ) → (place_at places k).key ≡ Some q → ContainsKey written q
      kept_written k q has =
          elim (cases_eq q key) [
            | inl same ↦ ap is_some (ap (get written) same ∙ write.changed)
            | inr differs ↦ ap is_some (write.others q differs) ∙ arranged.kept k q has
          ]

      pub arranged_written : IsArranged limit places freed written
      arranged_written = record {
        store = subst IsHandleStore (sym is_written) (IsHandleStore-with_written h v w store named arranged.store);
        counted = let same = as_many in omega (arith, arranged.counted);
        kept = kept_written;
        apart = arranged.apart;
      }

    -- ---- the value goes

    module _ (new : Slab T) (updates : Updates values new key None) (fewer : slab_len new + 1 ≡ slab_len values) where
      abbrev left : List Place
      left = put_at places h.slot (unkeyed h.generation)

      pub slots_left_are : map (seen new) left ≡ (without h store).slots
      slots_left_are = seen-put values new places h.slot (unkeyed h.generation) (omega (arith, slot_within))
          (λ i there. seen_agrees values new key None updates (place_at places i) (other_key i there))

      pub goes : (rest : List ℕ) → rest ≡ (without h store).freed → store_of limit left rest new ≡ without h store
      goes rest are =
          ap (λ (xs : List (Slot T)). record { limit = limit; slots = xs; freed = rest }) slots_left_are
          ∙ ap (λ (ks : List ℕ). record { limit = limit; slots = (without h store).slots; freed = ks }) are

      key_left : (k q : ℕ) → (place_at left k).key ≡ Some q → (k ≢ h.slot) × ((place_at places k).key ≡ Some q)
      key_left k q has =
          elim (cases_eq k h.slot) [
            | inl here ↦
                let none : (place_at left k).key ≡ None
                = ap (λ (n : ℕ). (place_at left n).key) here ∙ ap (λ (p : Place). p.key) (get_or-put_at_same places h.slot (unkeyed h.generation) unplaced (omega (arith, slot_within))) in
                absurd (cc)
            | inr there ↦ (there, ap (λ (p : Place). p.key) (sym (get_or-put_at_other places h.slot (unkeyed h.generation) k unplaced (omega (arith, slot_within)) there)) ∙ has)
          ]

      kept_left : (k q : ℕ) → (place_at left k).key ≡ Some q → ContainsKey new q
      kept_left k q has =
          let before = key_left k q has in
          ap is_some (updates.others q (λ same. other_key k before.0 (before.1 ∙ ap Some same))) ∙ arranged.kept k q before.1

      apart_left : (j k q : ℕ) → (place_at left j).key ≡ Some q → (place_at left k).key ≡ Some q → j ≡ k
      apart_left j k q one other = arranged.apart j k q (key_left j q one).1 (key_left k q other).1

      pub left_long : length left ≡ length places
      left_long = length-put_at_within places h.slot (unkeyed h.generation) slot_within

      pub arranged_left : (rest : List ℕ) → rest ≡ (without h store).freed → length rest ≤ length freed + 1 → IsArranged limit left rest new
      arranged_left rest are few = record {
        store = subst IsHandleStore (sym (goes rest are)) (IsHandleStore-without h v store named arranged.store);
        counted = let same = left_long in omega (arith, arranged.counted);
        kept = kept_left;
        apart = apart_left;
      }
