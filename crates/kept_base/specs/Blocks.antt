-- What a block makes of a base.
use Rattle.std.specs.Prelude.{◌≡◌, ◌≤◌, ◌+◌, [], length, Some, None, Result, Ok, Err}
use Rattle.axiom_reader.specs.declared.block.BlockError.{BlockError}
use Rattle.dl_base.specs.Ontology.{Terminology}
use Rattle.txn_codec.specs.Spelling.{ontology_bytes}
use Rattle.reply_text.specs.declared.reply.Refusal.{Refusal}
use Rattle.script_reader.specs.declared.request.Request.TheVariants as request
use Rattle.base_store.specs.Store.{StoreState}
use Rattle.kept_base.specs.Base.{BaseState, base_of}
use Rattle.kept_base.specs.Doing.{DecidesRefusal}
use Rattle.kept_base.specs.Opening.{IsReasonerOf}
use Rattle.kept_base.specs.declared.contents.Contents.{Contents}
use Rattle.base_reasoner.specs.Reasoned.{Reasoned}

-- the base has no ontology yet, and its log has room for this one
pub record CanTake (b : BaseState) (o : Terminology) : Type 0 where
  pub none : b.reasoned ≡ None
  pub room : b.store.used + 6 + length (ontology_bytes o) ≤ 1073741824

-- the ontology of the block may be taken, or the block is refused
abbrev pub AcceptsBlock : BaseState → Result Terminology BlockError → Result Terminology Refusal → Type 0
AcceptsBlock b block (Ok o) = (block ≡ Ok o) × CanTake b o
AcceptsBlock b block (Err e) = DecidesRefusal b (request.Block block) (Some e)

-- the base with its first ontology and tables, without names and rows
abbrev pub with_tables : BaseState → Reasoned → BaseState
with_tables b x = record b { reasoned = Some x; names = []; rows = []; steps = b.steps + 1 }

-- and its store with the ontology
abbrev pub with_reasoned : BaseState → Reasoned → BaseState
with_reasoned b x = record (with_tables b x) { store = record { used = b.store.used + 6 + length (ontology_bytes x.ontology); transactions = b.store.transactions } }

-- what is in memory is as it was, but for the first tables of the ontology, completed of no rows, and no individuals
pub record TakesFirst (o : Terminology) (old new : Contents) : Type 0 where
  pub tables : Reasoned
  pub of : IsReasonerOf o [] tables
  pub is : (store : StoreState) → base_of new store ≡ with_tables (base_of old store) tables
