-- The replies to questions are the machine's.
use Rattle.std.proofs.Common.{◌≡◌, ℕ, List, All, Option, Some, None, Result, Ok, Err, refl, sym, ◌∙◌, ap, subst}
use Rattle.std.specs.Prelude.{IfOk}
use Rattle.std.proofs.lemmas.Option.{slice_get_within}
use Rattle.clash_report.specs.Report.{AreWithinNames}
use Rattle.completion.specs.Named.{IsNamedCompletion}
use Rattle.dl_base.specs.Ontology.{Terminology}
use Rattle.dl_base.specs.Query.{Question}
use Rattle.dl_base.specs.declared.concept.Role.{Role}
use Rattle.gen_arena.specs.Store.{HandleStore, IsHandleStore, Names}
use Rattle.gen_arena.specs.declared.handle.Handle.{Handle}
use Rattle.query_shape.specs.ShapeFault.{IsKnown}
use Rattle.table_report.specs.TableLines.{AreTableLines}
use Rattle.witness_book.specs.Witnesses.{generation_of}
use Rattle.dl_base.specs.declared.row.NamedRow.{NamedRow}
use Rattle.dl_base.specs.declared.row.Row.{Row}
use Rattle.reply_text.specs.declared.reply.Reply.{Reply}
use Rattle.reply_text.specs.declared.reply.Reply.TheVariants as reply
use Rattle.reply_text.specs.declared.reply.Refusal.TheVariants as refusal
use Rattle.script_reader.specs.declared.command.Command.{Command}
use Rattle.script_reader.specs.declared.command.Command.TheVariants as command
use Rattle.script_reader.specs.declared.request.Request.TheVariants as request
use Rattle.kept_base.specs.Base.{BaseState, IsSoundBase, StandsForState, generation_by, ontology_in}
use Rattle.kept_base.specs.Doing.{BaseSteps}
use Rattle.base_engine.specs.Refusals.{NeedsOntology, UsesHandle}
use Rattle.base_reasoner.specs.Questions.{IsReplyToCheck, IsReplyToQuery}
use Rattle.base_reasoner.specs.Reasoned.{IsCompletedOf, Reasoned}
use Rattle.base_engine.specs.State.{IsBase, MachineState}
use Rattle.base_engine.specs.Steps.{Does, IsReplyIn, StepsTo}
use Rattle.kept_base.proofs.DecidedRefusals.{refusal_steps, wants_ontology}
use Rattle.base_engine.proofs.RefusalTable.{ask_refusals, known_none_lacked, name_lacked, of_using, others_accepted}
use Rattle.base_engine.proofs.RowsThere.{rows_are, rows_of}
use Rattle.kept_base.proofs.SoundBases.{completed_of_state}
use Rattle.base_store.specs.History.{ontology_of}

-- ---- individuals

-- what is kept has its number in the names
pub kept_within : (names : List (List ℕ)) (rows : List Row) (x : Reasoned) → IsCompletedOf names rows x → AreWithinNames x.tables names
kept_within names rows x done n kept = (let found = (done.completed.individuals n).0 kept in slice_get_within names n found.0 found.1)

-- ---- steps

module _ (b : BaseState) (x : Reasoned) (is : b.reasoned ≡ Some x) (done : IsCompletedOf b.names b.rows x) (s : MachineState) (stands : StandsForState b s) where
  has : ontology_of s.history ≡ Some x.ontology
  has = sym stands.ontology_is ∙ ap ontology_in is

  base : IsBase s.history x.ontology (rows_of s.history)
  base = record { ontology_is = has; rows_are = rows_are s.history }

  completed : IsNamedCompletion x.ontology b.names (rows_of s.history) x.tables
  completed = (completed_of_state b x done s x.ontology (rows_of s.history) stands is base).1

  query_step : (q : Question) (r : Reply) → IsReplyToQuery x.ontology (rows_of s.history) q r → StepsTo s (request.Plain (command.Ask q)) r s
  query_step q r (IsReplyToQuery.lacks {e = e} lacks) = StepsTo.refused (name_lacked s q x.ontology e has lacks)
  query_step q r (IsReplyToQuery.clashes place known first named) =
      StepsTo.done ((ask_refusals s q x.ontology has).2 known) (Does.ask (IsReplyIn.clashes x.ontology (rows_of s.history) place base first named))
  query_step q r (IsReplyToQuery.answers known none answers) =
      StepsTo.done ((ask_refusals s q x.ontology has).2 known) (Does.ask (IsReplyIn.answered x.ontology (rows_of s.history) base (none, answers)))

  -- a prepared query, whose names the ontology has
  run_step : (h : Handle) (q : Question) → Names s.handles h q → IsHandleStore s.handles → All (IsKnown x.ontology) q.atoms → (r : Reply) → IsReplyToQuery x.ontology (rows_of s.history) q r
      → StepsTo s (request.Plain (command.Run h)) r s
  run_step h q named store all r (IsReplyToQuery.lacks {e = e} lacks) = absurd (known_none_lacked x.ontology q e all lacks)
  run_step h q named store all r (IsReplyToQuery.clashes place known first told) =
      StepsTo.done ((of_using s (command.Run h) h x.ontology UsesHandle.run has).2 store (q, named)) (Does.run q named (IsReplyIn.clashes x.ontology (rows_of s.history) place base first told))
  run_step h q named store all r (IsReplyToQuery.answers known none answers) =
      StepsTo.done ((of_using s (command.Run h) h x.ontology UsesHandle.run has).2 store (q, named)) (Does.run q named (IsReplyIn.answered x.ontology (rows_of s.history) base (none, answers)))

  generation : generation_of x.tables.book ≡ s.generation
  generation = λ i r. (sym (ap (λ (y : Option Reasoned). generation_by y r) is) ∙ stands.generations_are r) i

  tables_step : (lines : List (List ℕ)) → AreTableLines x.ontology (rows_of s.history) (generation_of x.tables.book) lines → StepsTo s (request.Plain command.Tables) (reply.Table lines) s
  tables_step lines are = StepsTo.done ((others_accepted s).1 x.ontology has)
      (Does.tables x.ontology (rows_of s.history) base (subst (λ (g : Role → ℕ). AreTableLines x.ontology (rows_of s.history) g lines) generation are))

  check_step : (r : Reply) → IsReplyToCheck x.ontology (rows_of s.history) r → StepsTo s (request.Plain command.Check) r s
  check_step r (IsReplyToCheck.consistent none) = StepsTo.done ((others_accepted s).0 x.ontology has) (Does.consistent x.ontology (rows_of s.history) base none)
  check_step r (IsReplyToCheck.clashes place first named) = StepsTo.done ((others_accepted s).0 x.ontology has) (Does.inconsistent x.ontology (rows_of s.history) place base first named)

if_ok_all : {T E : Type 0} {Q : T → Type 0} (r : Result T E) → ((v : T) → r ≡ Ok v → Q v) → IfOk r Q
if_ok_all (Ok v) more = more v refl
if_ok_all (Err e) more = tt

module _ {E : Type 0} (view now : BaseState) (same : view ≡ now) (r : Result Reply E) where
  module _ (x : Reasoned) (is : view.reasoned ≡ Some x) (sound : IsSoundBase view) where
    pub query_steps : (q : Question) → ((rows : List NamedRow) → IsNamedCompletion x.ontology view.names rows x.tables → IfOk r (IsReplyToQuery x.ontology rows q))
        → IfOk r (λ (v : Reply). BaseSteps now (request.Plain (command.Ask q)) v now)
    query_steps q told = subst (λ (b : BaseState). IfOk r (λ (v : Reply). BaseSteps b (request.Plain (command.Ask q)) v b)) same (if_ok_all r (λ v ok s stands.
        let done = sound.completed x is in
        let reply = subst (λ (z : Result Reply E). IfOk z (IsReplyToQuery x.ontology (rows_of s.history) q)) ok (told (rows_of s.history) (completed view x is done s stands)) in
        (s, query_step view x is done s stands q v reply, stands)))

    pub check_steps : ((rows : List NamedRow) → IsNamedCompletion x.ontology view.names rows x.tables → IfOk r (IsReplyToCheck x.ontology rows))
        → IfOk r (λ (v : Reply). BaseSteps now (request.Plain command.Check) v now)
    check_steps told = subst (λ (b : BaseState). IfOk r (λ (v : Reply). BaseSteps b (request.Plain command.Check) v b)) same (if_ok_all r (λ v ok s stands.
        let done = sound.completed x is in
        let reply = subst (λ (z : Result Reply E). IfOk z (IsReplyToCheck x.ontology (rows_of s.history))) ok (told (rows_of s.history) (completed view x is done s stands)) in
        (s, check_step view x is done s stands v reply, stands)))

-- the reply to a prepared query
module _ {E : Type 0} (view now : BaseState) (same : view ≡ now) (r : Result Reply E) (x : Reasoned) (is : view.reasoned ≡ Some x) (sound : IsSoundBase view) where
  pub run_steps : (h : Handle) (q : Question) → Names view.handles h q → ((rows : List NamedRow) → IsNamedCompletion x.ontology view.names rows x.tables → IfOk r (IsReplyToQuery x.ontology rows q))
      → IfOk r (λ (v : Reply). BaseSteps now (request.Plain (command.Run h)) v now)
  run_steps h q named told = subst (λ (b : BaseState). IfOk r (λ (v : Reply). BaseSteps b (request.Plain (command.Run h)) v b)) same (if_ok_all r (λ v ok s stands.
      let done = sound.completed x is in
      let reply = subst (λ (z : Result Reply E). IfOk z (IsReplyToQuery x.ontology (rows_of s.history) q)) ok (told (rows_of s.history) (completed view x is done s stands)) in
      let known = sound.queries h q named in
      let one : known.o ≡ x.ontology = let e : Some known.o ≡ Some x.ontology = sym known.ontology_is ∙ ap ontology_in is in cc in (
        s,
        run_step view x is done s stands h q (subst (λ (hs : HandleStore Question). Names hs h q) stands.handles_are named) (subst IsHandleStore stands.handles_are sound.handles)
            (subst (λ (o : Terminology). All (IsKnown o) q.atoms) one known.known) v reply,
        stands,
      )))

-- the lines of the tables
pub tables_steps : (view now : BaseState) → view ≡ now → (x : Reasoned) → view.reasoned ≡ Some x → IsSoundBase view → (lines : List (List ℕ))
    → ((rows : List NamedRow) → IsNamedCompletion x.ontology view.names rows x.tables → AreTableLines x.ontology rows (generation_of x.tables.book) lines)
    → BaseSteps now (request.Plain command.Tables) (reply.Table lines) now
tables_steps view now same x is sound lines told = subst (λ (b : BaseState). BaseSteps b (request.Plain command.Tables) (reply.Table lines) b) same (λ s stands.
    let done = sound.completed x is in
    (s, tables_step view x is done s stands lines (told (rows_of s.history) (completed view x is done s stands)), stands))

-- a base without an ontology
pub unasked_steps : (view now : BaseState) → view ≡ now → (c : Command) → NeedsOntology c → view.reasoned ≡ None → BaseSteps now (request.Plain c) (reply.Error refusal.NoOntology) now
unasked_steps view now same c needs none = subst (λ (b : BaseState). BaseSteps b (request.Plain c) (reply.Error refusal.NoOntology) b) same
    (refusal_steps view (request.Plain c) refusal.NoOntology (wants_ontology view c needs (ap ontology_in none)))
