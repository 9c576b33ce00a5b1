-- A base that takes its first ontology.
use Rattle.std.proofs.Common.{◌≡◌, ◌<◌, ◌≤◌, ◌+◌, ℕ, List, [], length, Option, Some, None, Result, Ok, Err, refl, sym, ◌∙◌, ap, subst, arith}
use Rattle.std.specs.Option.{ForSome}
use Rattle.host_io.specs.Disk.{Disk}
use Rattle.host_io.specs.Moments.{Left, LeavesOnly}
use Rattle.gated_log.specs.Stops.{AtFirst}
use Rattle.completion.specs.Numbered.{IsLiveRole}
use Rattle.role_graph.specs.Reached.{IsReached}
use Rattle.dl_base.specs.Numbers.{StandFor}
use Rattle.dl_base.specs.Ontology.{Terminology}
use Rattle.dl_base.specs.Rows.{row_cmp}
use Rattle.dl_base.specs.declared.concept.Role.{Role}
use Rattle.dl_base.specs.declared.row.NamedRow.{NamedRow}
use Rattle.dl_base.proofs.PlaceLemmas.{some_same}
use Rattle.dl_base.proofs.RowLemmas.{none_rising}
use Rattle.txn_codec.specs.Spelling.{ontology_bytes}
use Rattle.base_store.specs.Area.{area_limit}
use Rattle.base_store.specs.History.{Empty, History, Over, ontology_of, transaction_count, used, with_ontology}
use Rattle.base_store.specs.Store.{HoldsEither, StandsFor, StoreState}
use Rattle.axiom_reader.specs.declared.block.BlockError.{BlockError}
use Rattle.reply_text.specs.declared.reply.Refusal.TheVariants as refusal
use Rattle.reply_text.specs.declared.reply.Reply.TheVariants as reply
use Rattle.script_reader.specs.declared.request.Request.{Request}
use Rattle.script_reader.specs.declared.request.Request.TheVariants as request
use Rattle.kept_base.specs.Base.{BaseState, base_of, HasRowsOf, IsBookSet, IsSoundBase, StandsForState, ontology_in}
use Rattle.kept_base.specs.declared.contents.Contents.{Contents}
use Rattle.kept_base.specs.Blocks.{CanTake, TakesFirst, with_reasoned, with_tables}
use Rattle.base_engine.specs.Calls.{DiskKeeps, HasKeptState, StepLeaves}
use Rattle.kept_base.specs.Doing.{DecidesRefusal}
use Rattle.kept_base.specs.Opening.{IsReasonerOf}
use Rattle.base_reasoner.specs.Reasoned.{IsCompletedOf, Reasoned}
use Rattle.base_engine.specs.State.{IsBase, MachineState}
use Rattle.base_engine.specs.Steps.{Does, StepsTo}
use Rattle.base_engine.proofs.RefusalTable.{block_refusals}
use Rattle.kept_base.proofs.CommittedBases.{other_store}
use Rattle.kept_base.proofs.KeptHosts.{Leads, next_moments, stands_at}
use Rattle.kept_base.proofs.LoadedBases.{some_not_none}

-- ---- refusals

empty_of : (h : History) → ontology_of h ≡ None → h ≡ Empty
empty_of Empty none = refl
empty_of (Over o es) none = absurd (some_not_none o (sym none))

-- where the history with the ontology ends
used_first : (b : BaseState) (o : Terminology) → ontology_in b.reasoned ≡ None → (s : MachineState) → StandsForState b s → used (with_ontology o s.history) ≡ b.store.used + 6 + length (ontology_bytes o)
used_first b o none s stands =
    let empty : s.history ≡ Empty = empty_of s.history (sym stands.ontology_is ∙ none) in
    let same : b.store.used ≡ 17 + 0 = stands.used_is ∙ ap used empty in
    let all : used (with_ontology o s.history) ≡ 17 + (0 + (6 + length (ontology_bytes o))) = ap (λ (h : History). used (with_ontology o h)) empty in
    omega (arith, same, all)

-- where there is no ontology nothing is derived
pub nothing_derived : (found : Option Reasoned) → ontology_in found ≡ None → found ≡ None
nothing_derived None none = refl
nothing_derived (Some x) none = absurd (some_not_none x.ontology (sym none))

module _ (b : BaseState) where
  pub there_already : (block : Result Terminology BlockError) (o : Terminology) → ontology_in b.reasoned ≡ Some o → DecidesRefusal b (request.Block block) (Some refusal.OntologyThere)
  there_already block o has s stands = (block_refusals s).0 block o (sym stands.ontology_is ∙ has)

  pub line_offends : (e : BlockError) → ontology_in b.reasoned ≡ None → DecidesRefusal b (request.Block (Err e)) (Some (refusal.Block e))
  line_offends e none s stands = (block_refusals s).1 e (sym stands.ontology_is ∙ none)

  pub log_full : (o : Terminology) → ontology_in b.reasoned ≡ None → 1073741824 < b.store.used + 6 + length (ontology_bytes o) → DecidesRefusal b (request.Block (Ok o)) (Some refusal.LogFull)
  log_full o none past s stands = (block_refusals s).2 o (sym stands.ontology_is ∙ none) (let ends = used_first b o none s stands in omega (arith, ends, past))

-- ---- what stands for no rows

nothing_stands : (o : Terminology) → StandFor o [] [] []
nothing_stands o = record {
  distinct = λ i j d lt below. absurd (omega (arith, below));
  each = λ r c. absurd (omega (arith, c.1));
  only = λ n c. absurd (omega (arith, c.1));
}

-- without rows no role is live
none_live : (o : Terminology) (r : Role) → IsLiveRole o [] r → ⊥
none_live o r (IsReached.first at) = (let c = at.1.1 in omega (arith, c.1))
none_live o r (IsReached.next {s = s} live points) = none_live o s live

-- ---- the base

module _ (b : BaseState) (x : Reasoned) (can : CanTake b x.ontology) (of : IsReasonerOf x.ontology [] x) where
  completed_first : IsCompletedOf [] [] x
  completed_first = record {
    these = [];
    rising = none_rising row_cmp;
    stand = nothing_stands x.ontology;
    completed = of.named [] [] (nothing_stands x.ontology);
  }

  book_first : IsBookSet (b.steps + 1) x
  book_first = record { roles = of.tables.book.roles; calls = (let calls = of.first.calls in omega (arith, calls)) }

  pub taken_sound : IsSoundBase b → IsSoundBase (with_reasoned b x)
  taken_sound sound = record {
    completed = λ y e. subst (λ (z : Reasoned). IsCompletedOf [] [] z) (some_same e) completed_first;
    none = λ e. refl;
    book = λ y e. subst (λ (z : Reasoned). IsBookSet (b.steps + 1) z) (some_same e) book_first;
    changes = λ k changes are. (let was = sound.changes k changes are in absurd (some_not_none was.o (sym (ap ontology_in can.none) ∙ was.ontology_is)));
    handles = sound.handles;
    queries = λ h q named. (let was = sound.queries h q named in absurd (some_not_none was.o (sym (ap ontology_in can.none) ∙ was.ontology_is)));
  }

  module _ (s : MachineState) (stands : StandsForState b s) where
    pub empty : s.history ≡ Empty
    empty = empty_of s.history (sym stands.ontology_is ∙ ap ontology_in can.none)

    abbrev pub next : History
    next = with_ontology x.ontology s.history

    next_is : next ≡ Over x.ontology []
    next_is = ap (with_ontology x.ontology) empty

    abbrev pub behind : MachineState
    behind = record s { history = next; generation = λ r. 0 }

    used_next : used next ≡ b.store.used + 6 + length (ontology_bytes x.ontology)
    used_next = used_first b x.ontology (ap ontology_in can.none) s stands

    rows_next : HasRowsOf (with_reasoned b x) behind
    rows_next o rows base =
        let here : IsBase (Over x.ontology []) o rows = subst (λ (h : History). IsBase h o rows) next_is base in
        let same : x.ontology ≡ o = some_same here.ontology_is in
        let none : [] ≡ rows = sym here.rows_are in
        subst (λ (these : List NamedRow). StandFor o [] [] these) none (nothing_stands o)

    pub taken_stands : StandsForState (with_reasoned b x) behind
    taken_stands = record {
      ontology_is = sym (ap ontology_of next_is);
      rows_are = rows_next;
      no_rows = λ none. refl;
      used_is = sym used_next;
      count_is = stands.count_is ∙ (ap transaction_count empty ∙ sym (ap transaction_count next_is));
      sessions_are = stands.sessions_are;
      handles_are = stands.handles_are;
      generations_are = λ r. of.first.others r (none_live x.ontology r);
    }

    pub taken_does : (n : ℕ) → n ≡ length x.ontology.inclusions → StepsTo s (request.Block (Ok x.ontology)) (reply.Loaded n) behind
    taken_does n is =
        let fits : used next ≤ area_limit = let used_is = used_next in let room = can.room in omega (arith, used_is, room) in
        subst (λ (k : ℕ). StepsTo s (request.Block (Ok x.ontology)) (reply.Loaded k) behind) (sym is)
        (StepsTo.done ((block_refusals s).3 x.ontology (sym stands.ontology_is ∙ ap ontology_in can.none) fits) Does.block)

  -- the store may be asked to keep it
  pub may_take : (disk : Option Disk) → HasKeptState (StandsForState b) disk → ForSome disk (λ d. StandsFor b.store d Empty)
  may_take disk kept d told = (let s = kept d told in subst (StandsFor b.store d) (empty s.0 s.1) (stands_at b s.0 s.1 d s.2))

  -- the base behind it takes the step
  pub block_leads : (final : BaseState) → final ≡ with_reasoned b x → (n : ℕ) → n ≡ length x.ontology.inclusions
      → Leads b (with_ontology x.ontology) (request.Block (Ok x.ontology)) (reply.Loaded n) final
  block_leads final is n n_is s stands = (
    behind s stands,
    taken_does s stands n n_is,
    subst (λ (c : BaseState). StandsForState c (behind s stands)) (sym is) (taken_stands s stands),
    refl,
  )

  pub block_moments : {H : Type 0} (clock : H → ℕ) (might : H → ℕ → Left → Type 0) (was is : H) (printed : Option (List ℕ)) (s : MachineState) → StandsForState b s → (d : Disk) → DiskKeeps (Some d) s.history
      → LeavesOnly clock might was is (AtFirst d printed (HoldsEither (with_ontology x.ontology) d.first.reads)) → LeavesOnly clock might was is (StepLeaves s (request.Block (Ok x.ontology)) printed d.second.reads)
  block_moments clock might was is printed s stands d keeps only =
      let n = length x.ontology.inclusions in
      next_moments clock might was is printed b (with_reasoned b x) (with_ontology x.ontology) (request.Block (Ok x.ontology)) (reply.Loaded n) (block_leads (with_reasoned b x) refl n refl) s stands d keeps only

-- ---- what is in memory

module _ (old : Contents) (store : StoreState) (b : BaseState) (view : base_of old store ≡ b) (o : Terminology) (can : CanTake b o) (new : Contents) (takes : TakesFirst o old new) where
  abbrev x : Reasoned
  x = takes.tables

  pub first_has : ontology_in new.reasoner ≡ Some o
  first_has = ap (λ (c : BaseState). ontology_in c.reasoned) (takes.is store) ∙ ap (λ (t : Terminology). Some t) takes.of.ontology_is

  can_here : CanTake (base_of old store) x.ontology
  can_here = subst (λ (c : BaseState). CanTake c x.ontology) (sym view) (subst (λ (t : Terminology). CanTake b t) (sym takes.of.ontology_is) can)

  of_here : IsReasonerOf x.ontology [] x
  of_here = subst (λ (t : Terminology). IsReasonerOf t [] x) (sym takes.of.ontology_is) takes.of

  pub sound_first : IsSoundBase (base_of old store) → (kept : StoreState) → IsSoundBase (base_of new kept)
  sound_first sound kept = subst IsSoundBase (sym (takes.is kept)) (other_store (with_reasoned (base_of old store) x) kept (taken_sound (base_of old store) x can_here of_here sound))

  module _ (kept : Terminology) (has : ontology_in new.reasoner ≡ Some kept) where
    same : x.ontology ≡ kept
    same = takes.of.ontology_is ∙ some_same (sym first_has ∙ has)

    pub room_first : store.used + 6 + length (ontology_bytes kept) ≤ 1073741824
    room_first = subst (λ (t : Terminology). store.used + 6 + length (ontology_bytes t) ≤ 1073741824) same can_here.room

    pub ready_first : (disk : Option Disk) → HasKeptState (StandsForState b) disk → ForSome disk (λ d. StandsFor store d Empty)
    ready_first disk ready = may_take (base_of old store) x can_here of_here disk (subst (λ (c : BaseState). HasKeptState (StandsForState c) disk) (sym view) ready)

    module _ (block : Result Terminology BlockError) (is : block ≡ Ok o) where
      asks : request.Block (Ok x.ontology) ≡ request.Block block
      asks = ap (λ (r : Result Terminology BlockError). request.Block r) (ap (λ (t : Terminology). Ok t) takes.of.ontology_is ∙ sym is)

      pub moments_first : {H : Type 0} (clock : H → ℕ) (might : H → ℕ → Left → Type 0) (before after : H) (printed : Option (List ℕ)) (s : MachineState) → StandsForState b s → (d : Disk) → DiskKeeps (Some d) s.history
          → LeavesOnly clock might before after (AtFirst d printed (HoldsEither (with_ontology kept) d.first.reads)) → LeavesOnly clock might before after (StepLeaves s (request.Block block) printed d.second.reads)
      moments_first clock might before after printed s stands d keeps only =
          subst (λ (q : Request). LeavesOnly clock might before after (StepLeaves s q printed d.second.reads)) asks
          (block_moments (base_of old store) x can_here of_here clock might before after printed s (subst (λ (c : BaseState). StandsForState c s) (sym view) stands) d keeps
          (subst (λ (t : Terminology). LeavesOnly clock might before after (AtFirst d printed (HoldsEither (with_ontology t) d.first.reads))) (sym same) only))

      -- the base behind it takes the step
      pub leads_first : (final : StoreState) → final ≡ record { used = store.used + 6 + length (ontology_bytes kept); transactions = store.transactions } → (n : ℕ) → n ≡ length o.inclusions
          → Leads b (with_ontology kept) (request.Block block) (reply.Loaded n) (base_of new final)
      leads_first final final_is n n_is =
          let here : final ≡ record { used = store.used + 6 + length (ontology_bytes x.ontology); transactions = store.transactions } =
          final_is ∙ ap (λ (t : Terminology). record { used = store.used + 6 + length (ontology_bytes t); transactions = store.transactions }) (sym same) in
          let made : base_of new final ≡ with_reasoned (base_of old store) x = takes.is final ∙ ap (λ (st : StoreState). with_tables (base_of old st) x) here in
          let counted : n ≡ length x.ontology.inclusions = n_is ∙ ap (λ (t : Terminology). length t.inclusions) (sym takes.of.ontology_is) in
          subst (λ (t : Terminology). Leads b (with_ontology t) (request.Block block) (reply.Loaded n) (base_of new final)) same
          (subst (λ (q : Request). Leads b (with_ontology x.ontology) q (reply.Loaded n) (base_of new final)) asks
          (subst (λ (c : BaseState). Leads c (with_ontology x.ontology) (request.Block (Ok x.ontology)) (reply.Loaded n) (base_of new final)) view
          (block_leads (base_of old store) x can_here of_here (base_of new final) made n counted)))

  pub steps_first : (kept : StoreState) → (base_of new kept).steps ≡ b.steps + 1
  steps_first kept = ap (λ (c : BaseState). c.steps) (takes.is kept) ∙ ap (λ (c : BaseState). c.steps + 1) view
