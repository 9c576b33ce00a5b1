-- When a request is refused.
use Rattle.std.specs.Prelude.{◌≡◌, ℕ, ◌<◌, ◌≤◌, List, length, Contains, Some, None, Result, Ok, Err}
use Rattle.dl_base.specs.Ontology.{Terminology}
use Rattle.dl_base.specs.Query.{Question}
use Rattle.dl_base.specs.declared.row.NamedRow.{NamedRow}
use Rattle.dl_base.specs.declared.row.NamedRow.TheVariants as row
use Rattle.dl_base.specs.declared.row.NamedChange.{NamedChange}
use Rattle.axiom_reader.specs.declared.block.BlockError.{BlockError}
use Rattle.gen_arena.specs.Store.{IsGone, room_of}
use Rattle.gen_arena.specs.declared.handle.Handle.{Handle}
use Rattle.gen_arena.specs.declared.handle.Gone.TheVariants as gone
use Rattle.query_shape.specs.ShapeFault.{IsShapeFault}
use Rattle.query_shape.specs.declared.numbering.ShapeError.TheVariants as unknown
use Rattle.base_store.specs.Area.{area_limit}
use Rattle.base_store.specs.History.{used, with_ontology, with_transaction, ontology_of}
use Rattle.base_store.specs.Legal.{IsCrowded}
use Rattle.reply_text.specs.declared.reply.Refusal.{Refusal}
use Rattle.reply_text.specs.declared.reply.Refusal.TheVariants as refusal
use Rattle.script_reader.specs.declared.command.Command.{Command}
use Rattle.script_reader.specs.declared.command.Command.TheVariants as command
use Rattle.script_reader.specs.declared.request.Request.{Request}
use Rattle.script_reader.specs.declared.request.Request.TheVariants as request
use Rattle.base_engine.specs.State.{MachineState}

-- the command needs an ontology
abbrev pub NeedsOntology : Command → Type 0
NeedsOntology command.Blank = ⊥
NeedsOntology command.Ontology = ⊥
NeedsOntology (command.Begin k) = Unit {0}
NeedsOntology (command.Add k r) = Unit {0}
NeedsOntology (command.Del k r) = Unit {0}
NeedsOntology (command.Commit k) = Unit {0}
NeedsOntology (command.Abort k) = Unit {0}
NeedsOntology (command.Ask q) = Unit {0}
NeedsOntology (command.Prepare q) = Unit {0}
NeedsOntology (command.Run h) = Unit {0}
NeedsOntology (command.Drop h) = Unit {0}
NeedsOntology command.Check = Unit {0}
NeedsOntology command.Tables = Unit {0}
NeedsOntology command.Tidy = ⊥
NeedsOntology command.Reopen = ⊥

-- the command needs this session to be open
pub data NeedsOpen : Command → ℕ → Type 0 where
  add : {k : ℕ} {r : NamedRow} → NeedsOpen (command.Add k r) k
  del : {k : ℕ} {r : NamedRow} → NeedsOpen (command.Del k r) k
  commit : {k : ℕ} → NeedsOpen (command.Commit k) k
  abort : {k : ℕ} → NeedsOpen (command.Abort k) k

-- the command appends a change of this row to the changes of this session
pub data AppendsChange : Command → ℕ → NamedRow → Type 0 where
  add : {k : ℕ} {r : NamedRow} → AppendsChange (command.Add k r) k r
  del : {k : ℕ} {r : NamedRow} → AppendsChange (command.Del k r) k r

-- the command poses this query
pub data PosesQuery : Command → Question → Type 0 where
  ask : {q : Question} → PosesQuery (command.Ask q) q
  prepare : {q : Question} → PosesQuery (command.Prepare q) q

-- the command is about the prepared query of this handle
pub data UsesHandle : Command → Handle → Type 0 where
  run : {h : Handle} → UsesHandle (command.Run h) h
  drop : {h : Handle} → UsesHandle (command.Drop h) h

-- the ontology lacks the concept of the row, or its role, and this refusal says so
pub data LacksNameOf (o : Terminology) : NamedRow → Refusal → Type 0 where
  concept : {c a : List ℕ} → (Contains o.concepts c → ⊥) → LacksNameOf o (row.Concept c a) (refusal.UnknownConcept c)
  role : {p a b : List ℕ} → (Contains o.roles p → ⊥) → LacksNameOf o (row.Role p a b) (refusal.UnknownRole p)

-- this refusal names the first atom of the query whose concept or role the ontology lacks
pub data LacksNameIn (o : Terminology) (q : Question) : Refusal → Type 0 where
  concept : {name : List ℕ} → IsShapeFault o q (unknown.UnknownConcept name) → LacksNameIn o q (refusal.UnknownConcept name)
  role : {name : List ℕ} → IsShapeFault o q (unknown.UnknownRole name) → LacksNameIn o q (refusal.UnknownRole name)

-- The refusals that hold of a request in a state, in no order.
pub data RefusalHolds (s : MachineState) : Request → Refusal → Type 0 where
  bad : {e : Refusal} → RefusalHolds s (request.Bad e) e
  no_ontology : {c : Command} → NeedsOntology c → ontology_of s.history ≡ None → RefusalHolds s (request.Plain c) refusal.NoOntology
  ontology_there : {result : Result Terminology BlockError} (o : Terminology) → ontology_of s.history ≡ Some o → RefusalHolds s (request.Block result) refusal.OntologyThere
  block : {e : BlockError} → RefusalHolds s (request.Block (Err e)) (refusal.Block e)
  not_open : {c : Command} (k : ℕ) → NeedsOpen c k → s.session k ≡ None → RefusalHolds s (request.Plain c) refusal.NotOpen
  already_open : {k : ℕ} (changes : List NamedChange) → s.session k ≡ Some changes → RefusalHolds s (request.Plain (command.Begin k)) refusal.AlreadyOpen
  unknown_name : {c : Command} {e : Refusal} (o : Terminology) (k : ℕ) (r : NamedRow) → ontology_of s.history ≡ Some o → AppendsChange c k r → LacksNameOf o r e
      → RefusalHolds s (request.Plain c) e
  unknown_in_query : {c : Command} {e : Refusal} (o : Terminology) (q : Question) → ontology_of s.history ≡ Some o → PosesQuery c q → LacksNameIn o q e → RefusalHolds s (request.Plain c) e
  pending : {c : Command} (k : ℕ) (r : NamedRow) (changes : List NamedChange) → AppendsChange c k r → s.session k ≡ Some changes → 10000 ≤ length changes
      → RefusalHolds s (request.Plain c) refusal.Pending
  crowded : {k : ℕ} (changes : List NamedChange) → s.session k ≡ Some changes → IsCrowded (with_transaction changes s.history)
      → RefusalHolds s (request.Plain (command.Commit k)) refusal.Crowded
  transaction_full : {k : ℕ} (changes : List NamedChange) → s.session k ≡ Some changes → area_limit < used (with_transaction changes s.history)
      → RefusalHolds s (request.Plain (command.Commit k)) refusal.LogFull
  never_given : {c : Command} (h : Handle) → UsesHandle c h → IsGone s.handles h gone.Never → RefusalHolds s (request.Plain c) refusal.NeverGiven
  dropped : {c : Command} {last : ℕ} (h : Handle) → UsesHandle c h → IsGone s.handles h (gone.Dropped last) → RefusalHolds s (request.Plain c) (refusal.Dropped last)
  no_slot : {q : Question} → room_of s.handles ≡ 0 → RefusalHolds s (request.Plain (command.Prepare q)) refusal.NoSlot
  ontology_full : {o : Terminology} → area_limit < used (with_ontology o s.history) → RefusalHolds s (request.Block (Ok o)) refusal.LogFull

-- The order in which refusals are tried: those of the line, then those of the command.
abbrev pub rank : Refusal → ℕ
rank refusal.LineTooLong = 1
rank (refusal.Syntax place) = 2
rank refusal.QueryTooLarge = 3
rank (refusal.UnsafeVariable v) = 4
rank refusal.NoOntology = 5
rank refusal.OntologyThere = 6
rank (refusal.Block e) = 7
rank refusal.NotOpen = 8
rank refusal.AlreadyOpen = 9
rank (refusal.UnknownConcept name) = 10
rank (refusal.UnknownRole name) = 10
rank refusal.Pending = 11
rank refusal.Crowded = 12
rank refusal.LogFull = 13
rank refusal.NeverGiven = 14
rank (refusal.Dropped last) = 15
rank refusal.NoSlot = 16

-- this refusal holds, and none that holds is tried before it
pub record IsRefusedFor (s : MachineState) (q : Request) (e : Refusal) : Type 0 where
  pub holds : RefusalHolds s q e
  pub first : (f : Refusal) → RefusalHolds s q f → rank e ≤ rank f

-- no refusal holds
abbrev pub IsAccepted : MachineState → Request → Type 0
IsAccepted s q = (e : Refusal) → RefusalHolds s q e → ⊥
