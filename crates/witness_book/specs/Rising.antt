-- Generations that rise where a role becomes live.
use Rattle.std.specs.Prelude.{◌≡◌, ℕ, ◌+◌, ◌<◌, Bool, true, false, List, slice_index_or}
use Rattle.dl_base.specs.Sets.{HasRole}
use Rattle.dl_base.specs.declared.concept.Role.{Role}
use Rattle.witness_book.specs.declared.generations.Generations.{Generations}

-- that of the direct role or of its inverse
abbrev pub generation_in : Generations → Bool → ℕ
generation_in g false = g.direct
generation_in g true = g.inverse

-- a role that has never been live
abbrev pub never : Generations
never = record { direct = 0; inverse = 0 }

-- the generation of the role, by the place of its name; 0 where the list hasn't got it
abbrev pub generation_at : List Generations → Role → ℕ
generation_at generations r = generation_in (slice_index_or generations r.name never) r.inverse

-- both can be raised
pub record AreSmall (g : Generations) : Type 0 where
  pub direct_small : g.direct < 4000000000
  pub inverse_small : g.inverse < 4000000000

-- the role is live now and was not before
pub record BecomesLive (before after : List ℕ) (r : Role) : Type 0 where
  pub now : HasRole after r
  pub not_before : HasRole before r → ⊥

-- the generation rises by one where the role becomes live, and stays everywhere else
pub record Rises (before after : List ℕ) (r : Role) (old new : ℕ) : Type 0 where
  pub raised : BecomesLive before after r → new ≡ old + 1
  pub kept : (BecomesLive before after r → ⊥) → new ≡ old
