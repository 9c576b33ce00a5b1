-- Prepared queries: what a base becomes, and that it takes a step.
use Rattle.std.proofs.Common.{◌≡◌, ◌≤◌, ◌+◌, ℕ, All, Some, None, inl, inr, refl, sym, ◌∙◌, ap, subst, arith}
use Rattle.std.proofs.lemmas.Bool.{cases_eq}
use Rattle.dl_base.specs.Ontology.{Terminology}
use Rattle.dl_base.specs.Query.{Question}
use Rattle.gen_arena.specs.Store.{HandleStore, IsGone, IsHandleStore, IsLive, Names, Slot, last_of, live, next_handle, next_slot, room_of, slot_at, spent, with_value, without}
use Rattle.gen_arena.specs.declared.handle.Handle.{Handle}
use Rattle.gen_arena.specs.declared.handle.Gone.{Gone}
use Rattle.gen_arena.specs.declared.handle.Gone.TheVariants as gone
use Rattle.gen_arena.proofs.StoreLemmas.{IsHandleStore-with_value, IsHandleStore-without, removal_changes, value_changes}
use Rattle.query_shape.specs.ShapeFault.{IsKnown}
use Rattle.reply_text.specs.declared.reply.Refusal.{Refusal}
use Rattle.reply_text.specs.declared.reply.Refusal.TheVariants as refusal
use Rattle.reply_text.specs.declared.reply.Reply.TheVariants as reply
use Rattle.script_reader.specs.declared.command.Command.{Command}
use Rattle.script_reader.specs.declared.command.Command.TheVariants as command
use Rattle.script_reader.specs.declared.request.Request.TheVariants as request
use Rattle.base_engine.specs.Refusals.{LacksNameIn, UsesHandle}
use Rattle.base_engine.specs.State.{MachineState}
use Rattle.base_engine.specs.Steps.{Does, StepsTo}
use Rattle.base_engine.proofs.RefusalTable.{of_using, prepare_refusals, prepared_name_lacked}
use Rattle.base_store.specs.History.{ontology_of}
use Rattle.kept_base.specs.Base.{BaseState, IsKnownIn, IsSoundBase, StandsForState, ontology_in}
use Rattle.kept_base.specs.Doing.{BaseSteps, ChangesHandles, DecidesRefusal, refusal_of_gone}

-- ---- what is kept

-- a base with other prepared queries, whose names its ontology has
sound_handles : (old : BaseState) (handles : HandleStore Question) (steps : ℕ) → old.steps ≤ steps → IsSoundBase old → IsHandleStore handles
    → ((h : Handle) (q : Question) → Names handles h q → IsKnownIn old.reasoned q) → IsSoundBase (record old { handles = handles; steps = steps })
sound_handles old handles steps more sound store known = record {
  completed = sound.completed;
  none = sound.none;
  book = λ r e. (let set = sound.book r e in record { roles = set.roles; calls = (let calls = set.calls in omega (arith, calls, more)) });
  changes = λ k changes are. (let s = sound.changes k changes are in record { o = s.o; ontology_is = s.ontology_is; named = s.named; few = s.few });
  handles = store;
  queries = known;
}

-- a handle of the store with one query more names that query, or what it named
kept_names : (s : HandleStore Question) (v : Question) → IsHandleStore s → (P : Question → Type 0) → P v → ((h : Handle) (q : Question) → Names s h q → P q)
    → (h : Handle) (q : Question) → Names (with_value v s) h q → P q
kept_names s v store P new old h q named =
    let changes = value_changes v s store in
    elim (cases_eq h.slot (next_slot s)) [
      | inl here ↦
          let is : live (last_of s (next_slot s) + 1) v ≡ live h.generation q = sym changes.here ∙ (ap (slot_at (with_value v s)) (sym here) ∙ named) in
          let same : v ≡ q = let both : Some v ≡ Some q = ap (λ (x : Slot Question). x.held) is in cc in
          subst P same new
      | inr other ↦ old h q (sym (changes.there h.slot other) ∙ named)
    ]

-- a handle of the store without a query names what it named
left_names : (s : HandleStore Question) (g : Handle) (v : Question) → Names s g v → (h : Handle) (q : Question) → Names (without g s) h q → Names s h q
left_names s g v was h q named =
    let changes = removal_changes g v s was in
    elim (cases_eq h.slot g.slot) [
      | inl here ↦
          let is : spent g.generation ≡ live h.generation q = sym changes.here ∙ (ap (slot_at (without g s)) (sym here) ∙ named) in
          let none : None ≡ Some q = ap (λ (x : Slot Question). x.held) is in absurd cc
      | inr other ↦ sym (changes.there h.slot other) ∙ named
    ]

pub keep_sound : (view now : BaseState) → view ≡ now → IsSoundBase view → (handles : HandleStore Question) (q : Question) → handles ≡ with_value q view.handles → 1 ≤ room_of now.handles → IsKnownIn now.reasoned q
    → (steps : ℕ) → view.steps ≤ steps → IsSoundBase (record view { handles = handles; steps = steps })
keep_sound view now same sound handles q is room known steps more =
    let room_here : 1 ≤ room_of view.handles = subst (λ (b : BaseState). 1 ≤ room_of b.handles) (sym same) room in
    let known_here : IsKnownIn view.reasoned q = subst (λ (b : BaseState). IsKnownIn b.reasoned q) (sym same) known in
    subst (λ (x : HandleStore Question). IsSoundBase (record view { handles = x; steps = steps })) (sym is)
    (sound_handles view (with_value q view.handles) steps more sound (IsHandleStore-with_value q view.handles sound.handles room_here)
    (kept_names view.handles q sound.handles (IsKnownIn view.reasoned) known_here sound.queries))

pub forget_sound : (view : BaseState) → IsSoundBase view → (handles : HandleStore Question) (h : Handle) (q : Question) → Names view.handles h q → handles ≡ without h view.handles
    → (steps : ℕ) → view.steps ≤ steps → IsSoundBase (record view { handles = handles; steps = steps })
forget_sound view sound handles h q named is steps more =
    subst (λ (x : HandleStore Question). IsSoundBase (record view { handles = x; steps = steps })) (sym is)
    (sound_handles view (without h view.handles) steps more sound (IsHandleStore-without h q view.handles named sound.handles)
    (λ g p x. sound.queries g p (left_names view.handles h q named g p x)))

-- ---- the states that a base stands for

pub handles_stand : (handles : HandleStore Question) (old new : BaseState) → ChangesHandles handles old new → (s : MachineState) → StandsForState old s → StandsForState new (record s { handles = handles })
handles_stand handles old new changes s stands =
    let by : StandsForState (record old { handles = handles; steps = old.steps + 1 }) (record s { handles = handles }) = record {
      ontology_is = stands.ontology_is;
      rows_are = stands.rows_are;
      no_rows = stands.no_rows;
      used_is = stands.used_is;
      count_is = stands.count_is;
      sessions_are = stands.sessions_are;
      handles_are = refl;
      generations_are = stands.generations_are;
    } in
    subst (λ (b : BaseState). StandsForState b (record s { handles = handles })) (sym changes) by

-- ---- refusals

module _ (b : BaseState) (o : Terminology) (is : ontology_in b.reasoned ≡ Some o) where
  there : (s : MachineState) → StandsForState b s → ontology_of s.history ≡ Some o
  there s stands = sym stands.ontology_is ∙ is

  pub names_nothing : (c : Command) (h : Handle) (why : Gone) → UsesHandle c h → IsGone b.handles h why → DecidesRefusal b (request.Plain c) (Some (refusal_of_gone why))
  names_nothing c h gone.Never uses x s stands = (of_using s c h o uses (there s stands)).0 (subst (λ (hs : HandleStore Question). IsGone hs h gone.Never) stands.handles_are x)
  names_nothing c h (gone.Dropped last) uses x s stands = (of_using s c h o uses (there s stands)).1 last (subst (λ (hs : HandleStore Question). IsGone hs h (gone.Dropped last)) stands.handles_are x)

  module _ (q : Question) where
    pub prepares_unknown : (e : Refusal) → LacksNameIn o q e → DecidesRefusal b (request.Plain (command.Prepare q)) (Some e)
    prepares_unknown e lacks s stands = prepared_name_lacked s q o e (there s stands) lacks

    pub prepares_full : All (IsKnown o) q.atoms → room_of b.handles ≡ 0 → DecidesRefusal b (request.Plain (command.Prepare q)) (Some refusal.NoSlot)
    prepares_full known full s stands = (prepare_refusals s q o (there s stands)).2 known (subst (λ (hs : HandleStore Question). room_of hs ≡ 0) stands.handles_are full)

    pub prepares : All (IsKnown o) q.atoms → 1 ≤ room_of b.handles → DecidesRefusal b (request.Plain (command.Prepare q)) None
    prepares known room s stands = (prepare_refusals s q o (there s stands)).3 known (subst (λ (hs : HandleStore Question). 1 ≤ room_of hs) stands.handles_are room)

-- ---- steps

pub prepare_steps : (old new : BaseState) (q : Question) (h : Handle) → DecidesRefusal old (request.Plain (command.Prepare q)) None → h ≡ next_handle old.handles → ChangesHandles (with_value q old.handles) old new
    → BaseSteps old (request.Plain (command.Prepare q)) (reply.Prepared h) new
prepare_steps old new q h accepted h_is changes s stands =
    let given : h ≡ next_handle s.handles = h_is ∙ ap (λ (hs : HandleStore Question). next_handle hs) stands.handles_are in
    let behind : MachineState = record s { handles = with_value q s.handles } in (
      behind,
      subst (λ (g : Handle). StepsTo s (request.Plain (command.Prepare q)) (reply.Prepared g) behind) (sym given) (StepsTo.done (accepted s stands) Does.prepare),
      subst (λ (hs : HandleStore Question). StandsForState new (record s { handles = with_value q hs })) stands.handles_are (handles_stand (with_value q old.handles) old new changes s stands),
    )

pub drop_steps : (old new : BaseState) (o : Terminology) → ontology_in old.reasoned ≡ Some o → IsSoundBase old → (h : Handle) → IsLive old.handles h → ChangesHandles (without h old.handles) old new
    → BaseSteps old (request.Plain (command.Drop h)) reply.Done new
drop_steps old new o is sound h named changes s stands =
    let store : IsHandleStore s.handles = subst IsHandleStore stands.handles_are sound.handles in
    let live_here : IsLive s.handles h = subst (λ (hs : HandleStore Question). IsLive hs h) stands.handles_are named in (
      record s { handles = without h s.handles },
      StepsTo.done ((of_using s (command.Drop h) h o UsesHandle.drop (there old o is s stands)).2 store live_here) Does.drop,
      subst (λ (hs : HandleStore Question). StandsForState new (record s { handles = without h hs })) stands.handles_are (handles_stand (without h old.handles) old new changes s stands),
    )
