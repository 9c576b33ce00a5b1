use Rattle.std.proofs.Common.{◌≡◌, ◌+◌, ◌-◌, List, ℕ, arith, ap, length, take, ◌∙◌, min, vec_capacity, false, is_err, OnOk, Result, Ok, Err}
use Rattle.gen_arena.specs.Store.{put_at}
use Rattle.gen_arena.specs.declared.places.Place.{Place}
use Rattle.gen_arena.specs.Places.{keyed, next_of, place_at}
use Rattle.gen_arena.proofs.ArenaLemmas.{arranged_capacity, arranged_in, comes_in, handle_is, long_in, next_fits, spare_in}
use Rattle.gen_arena.proofs.arena.Arena.insert.Given as given
use Rattle.gen_arena.proofs.arena.Arena.insert.Goals as goal

on_ok : {X E P : Type 0} (r : Result X E) → false ≡ is_err r → OnOk r P → P
on_ok (Ok x) succeeded holds = holds
on_ok (Err e) succeeded holds = absurd (cc)

pub give-requires-clause-within : goal.give-requires-clause-within
give-requires-clause-within g c =
    let fits = next_fits c.self.inside.limit c.self.inside.places.items c.self.inside.freed.items c.self.inside.values c.self.invariant.0 in
    rw (c.reserve_slots.ensures.places, c.reserve_slots.ensures.freed) (omega (arith, fits.within, ap length c.reserve_slots.ensures.places, c.reserve_slots.new.places.ok.0))

pub give-requires-clause-room : goal.give-requires-clause-room
give-requires-clause-room g c past =
    let fits = next_fits c.self.inside.limit c.self.inside.places.items c.self.inside.freed.items c.self.inside.values c.self.invariant.0 in
    let same = rw (c.reserve_slots.ensures.places, c.reserve_slots.ensures.freed) at past in
    let long = ap length c.reserve_slots.ensures.places in
    let len = c.reserve_slots.new.places.ok.0 in
    let none = fits.new (omega arith) in
    let room = on_ok c.reserve_slots.result c.if-is_err.ensures.value c.reserve_slots.ensures.ok in
    omega arith

pub give-requires-clause-again : goal.give-requires-clause-again
give-requires-clause-again g c =
    let fits = next_fits c.self.inside.limit c.self.inside.places.items c.self.inside.freed.items c.self.inside.values c.self.invariant.0 in
    rw (c.reserve_slots.ensures.places, c.reserve_slots.ensures.freed) fits.again

-- what the slots are behind `give`
module _ (g : given.Over) (c : goal.After-give g) where
  slot_is : c.give.result.slot ≡ next_of c.self.inside.places.items c.self.inside.freed.items
  slot_is = cc (c.give.ensures.slot, c.reserve_slots.ensures.places, c.reserve_slots.ensures.freed)

  generation_is : c.give.result.generation ≡ (place_at c.self.inside.places.items c.give.result.slot).generation + 1
  generation_is = cc (c.give.ensures.generation, c.reserve_slots.ensures.places)

  abbrev given_place : Place
  given_place = keyed ((place_at c.self.inside.places.items (next_of c.self.inside.places.items c.self.inside.freed.items)).generation + 1) c.in-Ok.key

  places_are : c.give.new.places.items ≡ put_at c.self.inside.places.items (next_of c.self.inside.places.items c.self.inside.freed.items) given_place
  places_are =
      c.give.ensures.places ∙ ap (λ (ps : List Place). put_at ps c.give.result.slot (keyed c.give.result.generation c.in-Ok.key)) c.reserve_slots.ensures.places
      ∙ ap (λ (n : ℕ). put_at c.self.inside.places.items c.give.result.slot (keyed n c.in-Ok.key)) generation_is
      ∙ ap (λ (n : ℕ). put_at c.self.inside.places.items n (keyed ((place_at c.self.inside.places.items n).generation + 1) c.in-Ok.key)) slot_is

  freed_are : c.give.new.freed.items ≡ take (length c.self.inside.freed.items - 1) c.self.inside.freed.items
  freed_are = c.give.ensures.freed ∙ ap (λ (ks : List ℕ). take (length ks - 1) ks) c.reserve_slots.ensures.freed

pub invariant_of-self-in-Ok : goal.invariant_of-self-in-Ok
invariant_of-self-in-Ok g c =
    let room = rw (← c.self.view_is) at c.requires in
    let arranged = arranged_in c.self.inside.limit c.self.inside.places.items c.self.inside.freed.items c.self.inside.values c.insert.new.self c.in-Ok.key c.args.value c.self.invariant.0 c.in-Ok.ensures.was_vacant c.in-Ok.ensures.updates room c.in-Ok.ensures.len in
    rw (places_are g c, freed_are g c) (
      arranged,
      long_in c.self.inside.limit c.self.inside.places.items c.self.inside.freed.items c.self.inside.values c.insert.new.self c.in-Ok.key c.args.value c.self.invariant.0 c.in-Ok.ensures.was_vacant c.in-Ok.ensures.updates
          (vec_capacity c.give.new.freed) (omega (arith, c.reserve_slots.ensures.freed_capacity, c.give.ensures.freed_capacity, c.self.invariant.1))
          (λ none. let room = on_ok c.reserve_slots.result c.if-is_err.ensures.value c.reserve_slots.ensures.ok in omega (arith, c.give.ensures.freed_capacity)),
    )

pub returns-in-Ok-clause-handle : goal.returns-in-Ok-clause-handle
returns-in-Ok-clause-handle g c =
    rw (← c.self.view_is) (handle_is c.self.inside.limit c.self.inside.places.items c.self.inside.freed.items c.self.inside.values c.give.result (slot_is g c) (generation_is g c))

pub returns-in-Ok-clause-ok : goal.returns-in-Ok-clause-ok
returns-in-Ok-clause-ok g c =
    rw (← c.self.view_is, places_are g c, freed_are g c) (comes_in c.self.inside.limit c.self.inside.places.items c.self.inside.freed.items c.self.inside.values c.insert.new.self c.in-Ok.key c.args.value c.self.invariant.0 c.in-Ok.ensures.was_vacant c.in-Ok.ensures.updates)

pub returns-in-Ok-clause-spare : goal.returns-in-Ok-clause-spare
returns-in-Ok-clause-spare g c =
    rw (← c.self.view_is, places_are g c, freed_are g c) (
    spare_in c.self.inside.limit c.self.inside.places.items c.self.inside.freed.items c.self.inside.values c.insert.new.self c.in-Ok.key c.args.value c.self.invariant.0 c.in-Ok.ensures.was_vacant c.in-Ok.ensures.updates
    (min (vec_capacity c.self.inside.places) (vec_capacity c.self.inside.freed)) (min (vec_capacity c.give.new.places) (vec_capacity c.give.new.freed))
    (omega (arith, c.reserve_slots.ensures.places_capacity, c.reserve_slots.ensures.freed_capacity, c.give.ensures.places_capacity, c.give.ensures.freed_capacity)) c.in-Ok.ensures.capacity c.in-Ok.ensures.len
    )

pub invariant_of-self-in-Err : goal.invariant_of-self-in-Err
invariant_of-self-in-Err g c =
    rw (c.reserve_slots.ensures.places, c.reserve_slots.ensures.freed) (
      arranged_capacity c.self.inside.limit c.self.inside.places.items c.self.inside.freed.items c.self.inside.values c.insert.new.self c.in-Err.ensures.err c.self.invariant.0,
      omega (arith, c.reserve_slots.ensures.freed_capacity, c.self.invariant.1),
    )
