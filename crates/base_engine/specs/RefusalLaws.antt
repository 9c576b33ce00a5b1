-- Laws of refusals: what each row of the table of commands says, refusal by refusal, in the order in which they are tried.
use Rattle.std.specs.Prelude.{◌≡◌, ◌⊎◌, ℕ, ◌<◌, ◌≤◌, List, ◌∷◌, ◌++◌, length, All, Contains, Some, None, Result, Ok, Err}
use Rattle.dl_base.specs.Ontology.{Terminology}
use Rattle.dl_base.specs.Query.{Question}
use Rattle.dl_base.specs.declared.query.Atom.{Atom}
use Rattle.dl_base.specs.declared.query.Atom.TheVariants as atom
use Rattle.dl_base.specs.declared.query.Term.{Term}
use Rattle.dl_base.specs.declared.row.NamedRow.{NamedRow}
use Rattle.dl_base.specs.declared.row.NamedRow.TheVariants as row
use Rattle.dl_base.specs.declared.row.NamedChange.{NamedChange}
use Rattle.axiom_reader.specs.declared.block.BlockError.{BlockError}
use Rattle.gen_arena.specs.Store.{IsGone, IsHandleStore, IsLive, room_of}
use Rattle.gen_arena.specs.declared.handle.Handle.{Handle}
use Rattle.gen_arena.specs.declared.handle.Gone.TheVariants as gone
use Rattle.query_shape.specs.ShapeFault.{IsKnown}
use Rattle.base_store.specs.Area.{area_limit}
use Rattle.base_store.specs.History.{used, with_ontology, with_transaction, ontology_of}
use Rattle.dl_base.specs.Numbers.{IsNamedBy}
use Rattle.base_store.specs.Legal.{IsCrowded}
use Rattle.reply_text.specs.declared.reply.Refusal.{Refusal}
use Rattle.reply_text.specs.declared.reply.Refusal.TheVariants as refusal
use Rattle.script_reader.specs.declared.command.Command.{Command}
use Rattle.script_reader.specs.declared.command.Command.TheVariants as command
use Rattle.script_reader.specs.declared.request.Request.TheVariants as request
use Rattle.base_engine.specs.State.{MachineState}
use Rattle.base_engine.specs.Refusals.{IsAccepted, IsRefusedFor}

-- a line that is refused by itself is refused so whatever the state
abbrev pub LineRefusals : Type 0
LineRefusals = (s : MachineState) (e : Refusal) → IsRefusedFor s (request.Bad e) e

-- where there is no ontology, each of these commands is refused first for want of one
abbrev pub OntologyRefusals : Type 0
OntologyRefusals = (s : MachineState) → ontology_of s.history ≡ None
    → ((k : ℕ) → IsRefusedFor s (request.Plain (command.Begin k)) refusal.NoOntology)
    × ((k : ℕ) (r : NamedRow) → IsRefusedFor s (request.Plain (command.Add k r)) refusal.NoOntology)
    × ((k : ℕ) (r : NamedRow) → IsRefusedFor s (request.Plain (command.Del k r)) refusal.NoOntology)
    × ((k : ℕ) → IsRefusedFor s (request.Plain (command.Commit k)) refusal.NoOntology)
    × ((k : ℕ) → IsRefusedFor s (request.Plain (command.Abort k)) refusal.NoOntology)
    × ((q : Question) → IsRefusedFor s (request.Plain (command.Ask q)) refusal.NoOntology)
    × ((q : Question) → IsRefusedFor s (request.Plain (command.Prepare q)) refusal.NoOntology)
    × ((h : Handle) → IsRefusedFor s (request.Plain (command.Run h)) refusal.NoOntology)
    × ((h : Handle) → IsRefusedFor s (request.Plain (command.Drop h)) refusal.NoOntology)
    × IsRefusedFor s (request.Plain command.Check) refusal.NoOntology
    × IsRefusedFor s (request.Plain command.Tables) refusal.NoOntology

-- of a block: that there is an ontology already, whatever the block holds; its line that offends; that the log is full
abbrev pub BlockRefusals : Type 0
BlockRefusals = (s : MachineState)
    → ((result : Result Terminology BlockError) (p : Terminology) → ontology_of s.history ≡ Some p → IsRefusedFor s (request.Block result) refusal.OntologyThere)
    × ((e : BlockError) → ontology_of s.history ≡ None → IsRefusedFor s (request.Block (Err e)) (refusal.Block e))
    × ((o : Terminology) → ontology_of s.history ≡ None → area_limit < used (with_ontology o s.history) → IsRefusedFor s (request.Block (Ok o)) refusal.LogFull)
    × ((o : Terminology) → ontology_of s.history ≡ None → used (with_ontology o s.history) ≤ area_limit → IsAccepted s (request.Block (Ok o)))

-- of `begin`: no ontology; that the session is open
abbrev pub BeginRefusals : Type 0
BeginRefusals = (s : MachineState) (k : ℕ) (o : Terminology) → ontology_of s.history ≡ Some o
    → ((changes : List NamedChange) → s.session k ≡ Some changes → IsRefusedFor s (request.Plain (command.Begin k)) refusal.AlreadyOpen)
    × (s.session k ≡ None → IsAccepted s (request.Plain (command.Begin k)))

-- Of `add` and `del`: no ontology; that the session isn't open; a concept, or a role, that the ontology lacks; that 10,000 changes are
-- pending.
abbrev pub ChangeRefusals : Type 0
ChangeRefusals = (s : MachineState) (c : Command) (k : ℕ) (r : NamedRow) (o : Terminology) → (c ≡ command.Add k r) ⊎ (c ≡ command.Del k r) → ontology_of s.history ≡ Some o
    → (s.session k ≡ None → IsRefusedFor s (request.Plain c) refusal.NotOpen)
    × ((changes : List NamedChange) (name a : List ℕ) → s.session k ≡ Some changes → r ≡ row.Concept name a → (Contains o.concepts name → ⊥) → IsRefusedFor s (request.Plain c) (refusal.UnknownConcept name))
    × ((changes : List NamedChange) (name a b : List ℕ) → s.session k ≡ Some changes → r ≡ row.Role name a b → (Contains o.roles name → ⊥) → IsRefusedFor s (request.Plain c) (refusal.UnknownRole name))
    × ((changes : List NamedChange) → s.session k ≡ Some changes → IsNamedBy o r → 10000 ≤ length changes → IsRefusedFor s (request.Plain c) refusal.Pending)
    × ((changes : List NamedChange) → s.session k ≡ Some changes → IsNamedBy o r → length changes < 10000 → IsAccepted s (request.Plain c))

-- of `commit`: no ontology; that the session isn't open; too many rows or individuals; that the log is full
abbrev pub CommitRefusals : Type 0
CommitRefusals = (s : MachineState) (k : ℕ) (o : Terminology) → ontology_of s.history ≡ Some o
    → (s.session k ≡ None → IsRefusedFor s (request.Plain (command.Commit k)) refusal.NotOpen)
    × ((changes : List NamedChange) → s.session k ≡ Some changes → IsCrowded (with_transaction changes s.history) → IsRefusedFor s (request.Plain (command.Commit k)) refusal.Crowded)
    × ((changes : List NamedChange) → s.session k ≡ Some changes → (IsCrowded (with_transaction changes s.history) → ⊥) → area_limit < used (with_transaction changes s.history)
    → IsRefusedFor s (request.Plain (command.Commit k)) refusal.LogFull)
    × ((changes : List NamedChange) → s.session k ≡ Some changes → (IsCrowded (with_transaction changes s.history) → ⊥) → used (with_transaction changes s.history) ≤ area_limit
    → IsAccepted s (request.Plain (command.Commit k)))

-- of `abort`: no ontology; that the session isn't open
abbrev pub AbortRefusals : Type 0
AbortRefusals = (s : MachineState) (k : ℕ) (o : Terminology) → ontology_of s.history ≡ Some o
    → (s.session k ≡ None → IsRefusedFor s (request.Plain (command.Abort k)) refusal.NotOpen)
    × ((changes : List NamedChange) → s.session k ≡ Some changes → IsAccepted s (request.Plain (command.Abort k)))

-- of `ask`: no ontology; the concept, or the role, of the first atom whose name the ontology lacks
abbrev pub AskRefusals : Type 0
AskRefusals = (s : MachineState) (q : Question) (o : Terminology) → ontology_of s.history ≡ Some o
    → ((front more : List Atom) (name : List ℕ) (t : Term) → q.atoms ≡ front ++ atom.Concept name t ∷ more → All (IsKnown o) front → (Contains o.concepts name → ⊥)
    → IsRefusedFor s (request.Plain (command.Ask q)) (refusal.UnknownConcept name))
    × ((front more : List Atom) (name : List ℕ) (t u : Term) → q.atoms ≡ front ++ atom.Role name t u ∷ more → All (IsKnown o) front → (Contains o.roles name → ⊥)
    → IsRefusedFor s (request.Plain (command.Ask q)) (refusal.UnknownRole name))
    × (All (IsKnown o) q.atoms → IsAccepted s (request.Plain (command.Ask q)))

-- of `prepare`: no ontology; the concept, or the role, of the first atom whose name the ontology lacks; that no slot is left
abbrev pub PrepareRefusals : Type 0
PrepareRefusals = (s : MachineState) (q : Question) (o : Terminology) → ontology_of s.history ≡ Some o
    → ((front more : List Atom) (name : List ℕ) (t : Term) → q.atoms ≡ front ++ atom.Concept name t ∷ more → All (IsKnown o) front → (Contains o.concepts name → ⊥)
    → IsRefusedFor s (request.Plain (command.Prepare q)) (refusal.UnknownConcept name))
    × ((front more : List Atom) (name : List ℕ) (t u : Term) → q.atoms ≡ front ++ atom.Role name t u ∷ more → All (IsKnown o) front → (Contains o.roles name → ⊥)
    → IsRefusedFor s (request.Plain (command.Prepare q)) (refusal.UnknownRole name))
    × (All (IsKnown o) q.atoms → room_of s.handles ≡ 0 → IsRefusedFor s (request.Plain (command.Prepare q)) refusal.NoSlot)
    × (All (IsKnown o) q.atoms → 1 ≤ room_of s.handles → IsAccepted s (request.Plain (command.Prepare q)))

-- of `run` and `drop`: no ontology; that the handle was never given; that its query was dropped, with the last generation of the slot
abbrev pub HandleRefusals : Type 0
HandleRefusals = (s : MachineState) (c : Command) (h : Handle) (o : Terminology) → (c ≡ command.Run h) ⊎ (c ≡ command.Drop h) → ontology_of s.history ≡ Some o
    → (IsGone s.handles h gone.Never → IsRefusedFor s (request.Plain c) refusal.NeverGiven)
    × ((last : ℕ) → IsGone s.handles h (gone.Dropped last) → IsRefusedFor s (request.Plain c) (refusal.Dropped last))
    × (IsHandleStore s.handles → IsLive s.handles h → IsAccepted s (request.Plain c))

-- `check` and `tables` need an ontology alone, `tidy` and `reopen` nothing
abbrev pub OthersAccepted : Type 0
OthersAccepted = (s : MachineState)
    → ((o : Terminology) → ontology_of s.history ≡ Some o → IsAccepted s (request.Plain command.Check))
    × ((o : Terminology) → ontology_of s.history ≡ Some o → IsAccepted s (request.Plain command.Tables))
    × IsAccepted s (request.Plain command.Tidy)
    × IsAccepted s (request.Plain command.Reopen)
