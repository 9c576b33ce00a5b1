-- Books of witnesses.
use Rattle.std.specs.Prelude.{◌≡◌, ℕ, ◌+◌, ◌<◌, ◌≤◌, List, length, min}
use Rattle.dl_base.specs.Sets.{HasRole}
use Rattle.dl_base.specs.declared.concept.Role.{Role}
use Rattle.dl_base.specs.declared.element.Witness.{Witness}
use Rattle.witness_book.specs.Rising.{Rises, generation_at}
use Rattle.witness_book.specs.declared.generations.Generations.{Generations}

-- for how many role names it is, how often the live roles were set, which roles are live, as the words of a set's bits, and
-- for each role name how often it and its inverse have become live
pub record Witnesses : Type 0 where
  pub roles : ℕ
  pub calls : ℕ
  pub live : List ℕ
  pub generations : List Generations

-- how often the role has become live
abbrev pub generation_of : Witnesses → Role → ℕ
generation_of b r = generation_at b.generations r

-- no role has been live, and the live roles were never set
pub record IsUnused (many : ℕ) (b : Witnesses) : Type 0 where
  pub roles : b.roles ≡ many
  pub calls : b.calls ≡ 0
  pub none_live : (r : Role) → HasRole b.live r → ⊥
  pub never_live : (r : Role) → generation_of b r ≡ 0

-- these are the live roles, and the generation of each role rises by one exactly where it becomes live
pub record SetsLive (old : Witnesses) (these : List ℕ) (new : Witnesses) : Type 0 where
  pub roles : new.roles ≡ old.roles
  pub calls : new.calls ≡ old.calls + 1
  pub live : new.live ≡ these
  pub generations : (r : Role) → Rises old.live these r (generation_of old r) (generation_of new r)

-- the witness that the role has while it is live
abbrev pub current_witness : Witnesses → Role → Witness
current_witness b r = record { role = r; generation = generation_of b r }

-- the witness is the one that its role has now
pub record IsCurrent (b : Witnesses) (w : Witness) : Type 0 where
  pub live : HasRole b.live w.role
  pub generation : w.generation ≡ generation_of b w.role

-- its role has become live at least once, and at most as often as live roles were set
pub record IsCounted (b : Witnesses) (w : Witness) : Type 0 where
  pub least : 1 ≤ w.generation
  pub most : w.generation ≤ b.calls

-- live roles have names below the book's number and have become live, no role more often than live roles were set
pub record IsWitnessBook (b : Witnesses) : Type 0 where
  pub each : length b.generations ≡ min b.roles 256
  pub few : b.calls ≤ 4000000000
  pub within : (r : Role) → HasRole b.live r → r.name < b.roles
  pub least : (r : Role) → HasRole b.live r → 1 ≤ generation_of b r
  pub most : (r : Role) → generation_of b r ≤ b.calls
