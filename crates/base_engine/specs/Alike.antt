-- What a step looks at: two states are alike where their histories have the same ontology, the same rows, the same number of transactions
-- and take the same bytes, whichever transactions led there, and where their sessions, handles and generations are the same.
use Rattle.std.specs.Prelude.{◌≡◌, ◌↔◌, List}
use Rattle.dl_base.specs.declared.row.NamedRow.{NamedRow}
use Rattle.base_store.specs.History.{AreRowsAfter, History, transaction_count, used, ontology_of}
use Rattle.reply_text.specs.declared.reply.Reply.{Reply}
use Rattle.script_reader.specs.declared.request.Request.{Request}
use Rattle.base_engine.specs.State.{MachineState}
use Rattle.base_engine.specs.Steps.{StepsTo}

pub record LookAlike (g h : History) : Type 0 where
  pub ontology_is : ontology_of g ≡ ontology_of h
  pub rows_are : (rows : List NamedRow) → AreRowsAfter g rows ↔ AreRowsAfter h rows
  pub count_is : transaction_count g ≡ transaction_count h
  pub used_is : used g ≡ used h

pub record AreAlike (s u : MachineState) : Type 0 where
  pub histories : LookAlike s.history u.history
  pub sessions : s.session ≡ u.session
  pub handles : s.handles ≡ u.handles
  pub generations : s.generation ≡ u.generation

-- From states that are alike each request has the same reply and leads to states that are alike: so whoever answers for the machine needs no
-- transactions.
abbrev pub AlikeStepAlike : Type 0
AlikeStepAlike = (s u t : MachineState) (q : Request) (r : Reply) → AreAlike s u → StepsTo s q r t → (v : MachineState) × StepsTo u q r v × AreAlike t v
