-- An accepted request has a reply.
use Rattle.std.proofs.Common.{◌≡◌, ℕ, ◌<◌, List, [], ◌∷◌, ◌++◌, length, Option, Some, None, Ok, Err, refl, sym, subst}
use Rattle.std.specs.List.{AllZip}
use Rattle.std.proofs.lemmas.Option.{slice_get_within}
use Rattle.dl_base.specs.Clashes.{IsClash, IsFirstClash, Place, individual_of, path_of}
use Rattle.dl_base.specs.Ontology.{IsPlaced, IsTerminology, Terminology}
use Rattle.dl_base.specs.Query.{Question}
use Rattle.dl_base.specs.Replies.{Answers, Inconsistent, IsReply, Replied}
use Rattle.dl_base.specs.Unfolding.{Element, Exists, Named, Next, Start}
use Rattle.dl_base.specs.declared.axiom.NamedRole.{NamedRole}
use Rattle.dl_base.specs.declared.clash.Clash.{Clash}
use Rattle.dl_base.specs.declared.concept.Basic.{Basic}
use Rattle.dl_base.specs.declared.concept.Basic.TheVariants as basic
use Rattle.dl_base.specs.declared.concept.Role.{Role}
use Rattle.dl_base.specs.declared.row.NamedRow.{NamedRow}
use Rattle.dl_base.specs.declared.row.NamedChange.{NamedChange}
use Rattle.dl_base.proofs.OntologyLemmas.{derived_placed}
use Rattle.dl_base.proofs.PlaceLemmas.{something_at}
use Rattle.clash_report.specs.Report.{IsNamedClash, IsNamedRole}
use Rattle.gen_arena.specs.Store.{next_handle}
use Rattle.gen_arena.specs.declared.handle.Handle.{Handle}
use Rattle.base_store.specs.History.{transaction_count, with_transaction, ontology_of}
use Rattle.reply_text.specs.declared.reply.Reply.{Reply}
use Rattle.reply_text.specs.declared.reply.Reply.TheVariants as reply
use Rattle.reply_text.specs.declared.reply.Refusal.TheVariants as refusal
use Rattle.script_reader.specs.declared.command.Command.{Command}
use Rattle.script_reader.specs.declared.command.Command.TheVariants as command
use Rattle.script_reader.specs.declared.request.Request.{Request}
use Rattle.script_reader.specs.declared.request.Request.TheVariants as request
use Rattle.base_engine.specs.State.{IsBase, IsWithinLimits, MachineState, put_session}
use Rattle.base_engine.specs.Refusals.{IsAccepted, NeedsOpen, RefusalHolds, UsesHandle}
use Rattle.base_engine.specs.Requests.{IsGivenCommand}
use Rattle.base_engine.specs.StepLaws.{AcceptedSteps, HasOutcome}
use Rattle.base_engine.specs.Steps.{Does, IsReplyIn, StepsTo}
use Rattle.base_engine.proofs.HandleLemmas.{accepted_is_live}
use Rattle.base_engine.proofs.RowsThere.{counts_are, rows_are, rows_of}

-- ---- the names of a clash

module _ (o : Terminology) (rows : List NamedRow) (t : IsTerminology o) where
  pub start_placed : (e : Element) → Exists o rows e → (b : Basic) → Start o rows e b → IsPlaced (length o.concepts) (length o.roles) b
  start_placed (Named a) exists (basic.Concept c) h = slice_get_within o.concepts c h.name h.named
  start_placed (Named a) exists (basic.Exists r) h = slice_get_within o.roles r.name h.1.name h.1.named
  start_placed (Next e r) exists b h =
      let role : r.name < length o.roles = derived_placed o t (Start o rows e) (start_placed e exists.0) (basic.Exists r) exists.1 in
      subst (IsPlaced (length o.concepts) (length o.roles)) (sym h) role

  abbrev HasNames : List Role → Type 0
  HasNames path = (names : List NamedRole) × AllZip (IsNamedRole o) path names

  one_more : (path : List Role) (names : List NamedRole) (r : Role) (n : NamedRole) → AllZip (IsNamedRole o) path names → IsNamedRole o r n → AllZip (IsNamedRole o) (path ++ r ∷ []) (names ++ n ∷ [])
  one_more [] [] r n all here = (here, tt)
  one_more [] (m ∷ names) r n all here = absurd all
  one_more (s ∷ path) [] r n all here = absurd all
  one_more (s ∷ path) (m ∷ names) r n all here = (all.0, one_more path names r n all.1 here)

  role_named : (r : Role) → r.name < length o.roles → (n : NamedRole) × IsNamedRole o r n
  role_named r below = let found = something_at o.roles r.name below in (record { name = found.0; inverse = r.inverse }, record { name = found.1; inverse = refl })

  path_named : (e : Element) → Exists o rows e → HasNames (path_of e)
  path_named (Named a) exists = ([], tt)
  path_named (Next e r) exists =
      let before = path_named e exists.0 in
      let here = role_named r (derived_placed o t (Start o rows e) (start_placed e exists.0) (basic.Exists r) exists.1) in
      (before.0 ++ here.0 ∷ [], one_more (path_of e) before.0 r here.0 before.1 here.1)

  clash_named : (p : Place) → IsClash o rows p → (c : Clash) × IsNamedClash o p c
  clash_named p clash =
      let names = path_named p.element clash.exists in
      (record { inclusion = p.inclusion; name = individual_of p.element; path = names.0 }, record { name = refl; path = names.1; inclusion = refl })

-- ---- what is done

abbrev HasReply : MachineState → Request → Type 0
HasReply s q = (r : Reply) × (t : MachineState) × StepsTo s q r t

module _ (s : MachineState) (within : IsWithinLimits s.history) where
  -- a command that appends a change
  add_done : (k : ℕ) (r : NamedRow) (found : Option (List NamedChange)) → s.session k ≡ found → IsAccepted s (request.Plain (command.Add k r)) → HasReply s (request.Plain (command.Add k r))
  add_done k r None e accepted = absurd (accepted refusal.NotOpen (RefusalHolds.not_open k NeedsOpen.add e))
  add_done k r (Some changes) e accepted = (reply.Done, _, StepsTo.done accepted (Does.add changes e))

  del_done : (k : ℕ) (r : NamedRow) (found : Option (List NamedChange)) → s.session k ≡ found → IsAccepted s (request.Plain (command.Del k r)) → HasReply s (request.Plain (command.Del k r))
  del_done k r None e accepted = absurd (accepted refusal.NotOpen (RefusalHolds.not_open k NeedsOpen.del e))
  del_done k r (Some changes) e accepted = (reply.Done, _, StepsTo.done accepted (Does.del changes e))

  commit_done : (k : ℕ) (found : Option (List NamedChange)) → s.session k ≡ found → IsAccepted s (request.Plain (command.Commit k)) → HasOutcome s (request.Plain (command.Commit k))
      → HasReply s (request.Plain (command.Commit k))
  commit_done k None e accepted outcome = absurd (accepted refusal.NotOpen (RefusalHolds.not_open k NeedsOpen.commit e))
  commit_done k (Some changes) e accepted outcome =
      let raised = outcome changes e in (
        _,
        record (put_session k None s) { history = with_transaction changes s.history; generation = raised.0 },
        StepsTo.done accepted (Does.commit (record {
          changes = changes;
          were = e;
          generation = raised.0;
          raises = raised.1;
          state = refl;
          number_is = refl;
          counts = counts_are s.history (with_transaction changes s.history);
        })),
      )

  reply_in : (q : Question) (o : Terminology) (is : IsTerminology o) (base : IsBase s.history o (rows_of s.history)) (r : Replied) → IsReply o (rows_of s.history) q r → (told : Reply) × IsReplyIn s q told
  reply_in q o is base (Answers keys) replies = (reply.Answers keys, IsReplyIn.answered o (rows_of s.history) base replies)
  reply_in q o is base (Inconsistent place) replies =
      let named = clash_named o (rows_of s.history) is place replies.0 in (reply.Inconsistent named.0, IsReplyIn.clashes o (rows_of s.history) place base replies named.1)

  ask_done : (q : Question) (found : Option Terminology) → ontology_of s.history ≡ found → IsAccepted s (request.Plain (command.Ask q)) → HasOutcome s (request.Plain (command.Ask q))
      → HasReply s (request.Plain (command.Ask q))
  ask_done q None e accepted outcome = absurd (accepted refusal.NoOntology (RefusalHolds.no_ontology tt e))
  ask_done q (Some o) e accepted outcome =
      let base : IsBase s.history o (rows_of s.history) = record { ontology_is = e; rows_are = rows_are s.history } in
      let found = outcome o (rows_of s.history) base in
      let told = reply_in q o (within o e) base found.0 found.1 in (told.0, s, StepsTo.done accepted (Does.ask told.1))

  run_done : (h : Handle) (found : Option Terminology) → ontology_of s.history ≡ found → IsAccepted s (request.Plain (command.Run h)) → HasOutcome s (request.Plain (command.Run h))
      → HasReply s (request.Plain (command.Run h))
  run_done h None e accepted outcome = absurd (accepted refusal.NoOntology (RefusalHolds.no_ontology tt e))
  run_done h (Some o) e accepted outcome =
      let base : IsBase s.history o (rows_of s.history) = record { ontology_is = e; rows_are = rows_are s.history } in
      let live = accepted_is_live s (command.Run h) h UsesHandle.run accepted in
      let found = outcome live.0 o (rows_of s.history) live.1 base in
      let told = reply_in live.0 o (within o e) base found.0 found.1 in (told.0, s, StepsTo.done accepted (Does.run live.0 live.1 told.1))

  tables_done : (found : Option Terminology) → ontology_of s.history ≡ found → IsAccepted s (request.Plain command.Tables) → HasOutcome s (request.Plain command.Tables) → HasReply s (request.Plain command.Tables)
  tables_done None e accepted outcome = absurd (accepted refusal.NoOntology (RefusalHolds.no_ontology tt e))
  tables_done (Some o) e accepted outcome =
      let base : IsBase s.history o (rows_of s.history) = record { ontology_is = e; rows_are = rows_are s.history } in
      let found = outcome o (rows_of s.history) base in (reply.Table found.0, s, StepsTo.done accepted (Does.tables o (rows_of s.history) base found.1))

  checked : (o : Terminology) (is : IsTerminology o) (base : IsBase s.history o (rows_of s.history)) (c : Option Place) → IsFirstClash o (rows_of s.history) c
      → IsAccepted s (request.Plain command.Check) → HasReply s (request.Plain command.Check)
  checked o is base None first accepted = (reply.Consistent, s, StepsTo.done accepted (Does.consistent o (rows_of s.history) base first))
  checked o is base (Some place) first accepted =
      let named = clash_named o (rows_of s.history) is place first.0 in
      (reply.Inconsistent named.0, s, StepsTo.done accepted (Does.inconsistent o (rows_of s.history) place base first named.1))

  check_done : (found : Option Terminology) → ontology_of s.history ≡ found → IsAccepted s (request.Plain command.Check) → HasOutcome s (request.Plain command.Check) → HasReply s (request.Plain command.Check)
  check_done None e accepted outcome = absurd (accepted refusal.NoOntology (RefusalHolds.no_ontology tt e))
  check_done (Some o) e accepted outcome =
      let base : IsBase s.history o (rows_of s.history) = record { ontology_is = e; rows_are = rows_are s.history } in
      let found = outcome o (rows_of s.history) base in
      checked o (within o e) base found.0 found.1 accepted

  command_done : (c : Command) → IsGivenCommand c → IsAccepted s (request.Plain c) → HasOutcome s (request.Plain c) → HasReply s (request.Plain c)
  command_done command.Blank given accepted outcome = absurd given
  command_done command.Ontology given accepted outcome = absurd given
  command_done (command.Begin k) given accepted outcome = (reply.Done, _, StepsTo.done accepted Does.begin)
  command_done (command.Add k r) given accepted outcome = add_done k r (s.session k) refl accepted
  command_done (command.Del k r) given accepted outcome = del_done k r (s.session k) refl accepted
  command_done (command.Commit k) given accepted outcome = commit_done k (s.session k) refl accepted outcome
  command_done (command.Abort k) given accepted outcome = (reply.Done, _, StepsTo.done accepted Does.abort)
  command_done (command.Ask q) given accepted outcome = ask_done q (ontology_of s.history) refl accepted outcome
  command_done (command.Prepare q) given accepted outcome = (reply.Prepared (next_handle s.handles), _, StepsTo.done accepted Does.prepare)
  command_done (command.Run h) given accepted outcome = run_done h (ontology_of s.history) refl accepted outcome
  command_done (command.Drop h) given accepted outcome = (reply.Done, _, StepsTo.done accepted Does.drop)
  command_done command.Check given accepted outcome = check_done (ontology_of s.history) refl accepted outcome
  command_done command.Tables given accepted outcome = tables_done (ontology_of s.history) refl accepted outcome
  command_done command.Tidy given accepted outcome = (reply.Done, s, StepsTo.done accepted Does.tidy)
  command_done command.Reopen given accepted outcome = (reply.Reopened (transaction_count s.history), outcome.0, StepsTo.done accepted (Does.reopen outcome.1))

pub accepted_steps : AcceptedSteps
accepted_steps s (request.Plain c) given within accepted outcome = command_done s within c given accepted outcome
accepted_steps s (request.Block (Ok o)) given within accepted outcome = (reply.Loaded (length o.inclusions), _, StepsTo.done accepted Does.block)
accepted_steps s (request.Block (Err e)) given within accepted outcome = absurd (accepted (refusal.Block e) RefusalHolds.block)
accepted_steps s (request.Bad e) given within accepted outcome = absurd (accepted e RefusalHolds.bad)
