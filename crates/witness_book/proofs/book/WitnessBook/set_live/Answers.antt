use Rattle.std.proofs.Common.{◌≡◌, ◌+◌, ◌<◌, All, List, length, sym, ◌∙◌, ap, subst}
use Rattle.std.proofs.lemmas.List.{with_items_is}
use Rattle.std.specs.Vec.{with_items}
use Rattle.dl_base.specs.Sets.{HasRole}
use Rattle.dl_base.specs.declared.concept.Role.{Role}
use Rattle.witness_book.specs.Rising.{AreSmall, Rises, generation_at}
use Rattle.witness_book.specs.Witnesses.{Witnesses, IsWitnessBook, SetsLive}
use Rattle.witness_book.specs.declared.generations.Generations.{Generations}
use Rattle.witness_book.proofs.BookLemmas.{all_small, sound_after, sets_live}
use Rattle.witness_book.proofs.book.WitnessBook.set_live.Goals as goal

few_calls : (c : goal.After-raise-arg-1) → c.self.inside.calls < 4000000000
few_calls c = subst (λ (b : Witnesses). b.calls < 4000000000) (sym c.self.view_is) c.requires.calls

pub raise-requires-clause-small : goal.raise-requires-clause-small
raise-requires-clause-small c =
    subst (All AreSmall) (sym c.as_mut_slice.ensures.value) (all_small (record { roles = c.self.inside.roles; calls = c.self.inside.calls; live = c.self.inside.live; generations = c.self.inside.generations.items }) c.self.invariant (few_calls c))

-- the book before, with the generations that were raised
module _ (c : goal.After-self-4-1) where
  abbrev before : Witnesses
  before = record { roles = c.self.inside.roles; calls = c.self.inside.calls; live = c.self.inside.live; generations = c.self.inside.generations.items }

  within : (r : Role) → HasRole c.args.live.now r → r.name < c.self.inside.roles
  within = subst (λ (b : Witnesses). (r : Role) → HasRole c.args.live.now r → r.name < b.roles) (sym c.self.view_is) c.requires.within

  long : length c.raise.new.generations ≡ length c.self.inside.generations.items
  long = c.raise.auto.generations ∙ ap length c.as_mut_slice.ensures.value

  risen : (r : Role) → r.name < length c.self.inside.generations.items
      → Rises c.self.inside.live c.args.live.now r (generation_at c.self.inside.generations.items r) (generation_at c.raise.new.generations r)
  risen = subst (λ (gs : List Generations). (r : Role) → r.name < length gs → Rises c.self.inside.live c.args.live.now r (generation_at gs r) (generation_at c.raise.new.generations r)) c.as_mut_slice.ensures.value c.raise.ensures

  abbrev after : List Generations → Witnesses
  after gs = record { roles = c.self.inside.roles; calls = c.self.inside.calls + 1; live = c.args.live.now; generations = gs }

  written : c.raise.new.generations ≡ (with_items c.self.inside.generations c.raise.new.generations).items
  written = sym (with_items_is c.self.inside.generations c.raise.new.generations (long ∙ sym c.self.inside.generations.ok.0))

pub returns : goal.returns
returns c = subst (λ (b : Witnesses). SetsLive b c.args.live.now (after c (with_items c.self.inside.generations c.raise.new.generations).items)) c.self.view_is
    (subst (λ (gs : List Generations). SetsLive (before c) c.args.live.now (after c gs)) (written c)
    (sets_live (before c) c.args.live.now c.raise.new.generations c.self.invariant (within c) (long c) (risen c)))

pub invariant_of-self : goal.invariant_of-self
invariant_of-self c =
    subst (λ (gs : List Generations). IsWitnessBook (after c gs)) (written c)
    (sound_after (before c) c.args.live.now c.raise.new.generations c.self.invariant (within c) (long c) (risen c) (subst (λ (b : Witnesses). b.calls < 4000000000) (sym c.self.view_is) c.requires.calls))
