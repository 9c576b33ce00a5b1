-- Each handle is live or gone, and what is done to prepared queries leaves a handle store.
use Rattle.std.proofs.Common.{◌≡◌, ◌<◌, ◌≤◌, ◌⊎◌, inl, inr, Option, Some, None, refl, sym, ◌∙◌, ap, subst, arith}
use Rattle.std.proofs.lemmas.Bool.{cases_lt}
use Rattle.gen_arena.specs.Store.{HandleStore, IsGone, IsHandleStore, IsLive, Slot, WasGiven, last_of, room_of, slot_at}
use Rattle.gen_arena.specs.declared.handle.Handle.{Handle}
use Rattle.gen_arena.specs.declared.handle.Gone.{Gone}
use Rattle.gen_arena.specs.declared.handle.Gone.TheVariants.{Never, Dropped}
use Rattle.gen_arena.proofs.LawLemmas.{begins_as_store}
use Rattle.gen_arena.proofs.StoreLemmas.{IsHandleStore-with_value, IsHandleStore-without}
use Rattle.dl_base.specs.Query.{Question}
use Rattle.reply_text.specs.declared.reply.Refusal.TheVariants as refusal
use Rattle.reply_text.specs.declared.reply.Reply.{Reply}
use Rattle.script_reader.specs.declared.command.Command.{Command}
use Rattle.script_reader.specs.declared.command.Command.TheVariants as command
use Rattle.script_reader.specs.declared.request.Request.{Request}
use Rattle.script_reader.specs.declared.request.Request.TheVariants as request
use Rattle.base_engine.specs.State.{MachineState, handle_limit}
use Rattle.base_engine.specs.Refusals.{IsAccepted, RefusalHolds, UsesHandle}
use Rattle.base_engine.specs.StepLaws.{HandlesStayAStore}
use Rattle.base_engine.specs.Steps.{Does, StepsTo}

module _ {T : Type 0} (s : HandleStore T) (h : Handle) where
  -- a handle of its slot's last generation is live where the slot holds a value
  last_is_live : last_of s h.slot ≡ h.generation → (v : T) → (slot_at s h.slot).held ≡ Some v → IsLive s h
  last_is_live last v held = (v, λ i. record { last = last i; held = held i })

  -- a live handle is of its slot's last generation, and the slot holds a value
  live_is_last : IsLive s h → last_of s h.slot ≡ h.generation
  live_is_last is = ap (λ (x : Slot T). x.last) is.1

  live_is_held : (x : IsLive s h) → (slot_at s h.slot).held ≡ Some x.0
  live_is_held x = ap (λ (y : Slot T). y.held) x.1

  abbrev Verdict : Type 0
  Verdict = WasGiven s h × IsLive s h ⊎ ((why : Gone) × IsGone s h why)

  given_last : WasGiven s h → last_of s h.slot ≡ h.generation → (held : Option T) → (slot_at s h.slot).held ≡ held → Verdict
  given_last given last (Some v) e = inl (given, last_is_live last v e)
  given_last given last None e = inr (Dropped (last_of s h.slot), (record { given = given; not_live = λ is. (let f : Some is.0 ≡ None = sym (live_is_held is) ∙ e in absurd cc) }, refl))

  given_before : WasGiven s h → h.generation < last_of s h.slot → Verdict
  given_before given below = inr (Dropped (last_of s h.slot), (record { given = given; not_live = λ is. (let e = live_is_last is in omega (arith, e, below)) }, refl))

  was_given : WasGiven s h → Verdict
  was_given given =
      elim (cases_lt h.generation (last_of s h.slot)) [
        | inl below ↦ given_before given below
        | inr past ↦ let most = given.most in given_last given (omega (arith, past, most)) (slot_at s h.slot).held refl
      ]

  not_up_to : (last_of s h.slot < h.generation) ⊎ (h.generation ≡ 0) → WasGiven s h → ⊥
  not_up_to (inl past) given = let most = given.most in omega (arith, past, most)
  not_up_to (inr zero) given = let least = given.least in omega (arith, zero, least)

  pub live_or_gone : Verdict
  live_or_gone =
      elim (cases_lt 0 h.generation) [
        | inl least ↦
            elim (cases_lt (last_of s h.slot) h.generation) [
              | inl past ↦ inr (Never, not_up_to (inl past))
              | inr most ↦ was_given (record { least = omega (arith, least); most = omega (arith, most) })
            ]
        | inr none ↦ inr (Never, not_up_to (inr (omega (arith, none))))
      ]

-- ---- steps

module _ (s : MachineState) where
  live_by : (c : Command) (h : Handle) → UsesHandle c h → IsAccepted s (request.Plain c) → WasGiven s.handles h × IsLive s.handles h ⊎ ((why : Gone) × IsGone s.handles h why) → IsLive s.handles h
  live_by c h uses accepted (inl x) = x.1
  live_by c h uses accepted (inr (Never, is)) = absurd (accepted refusal.NeverGiven (RefusalHolds.never_given h uses is))
  live_by c h uses accepted (inr (Dropped last, is)) = absurd (accepted (refusal.Dropped last) (RefusalHolds.dropped h uses is))

  -- the handle of a command that is accepted is live
  pub accepted_is_live : (c : Command) (h : Handle) → UsesHandle c h → IsAccepted s (request.Plain c) → IsLive s.handles h
  accepted_is_live c h uses accepted = live_by c h uses accepted (live_or_gone s.handles h)

  -- where `prepare` is accepted there is room
  accepted_has_room : (q : Question) → IsAccepted s (request.Plain (command.Prepare q)) → 1 ≤ room_of s.handles
  accepted_has_room q accepted =
      elim (cases_lt 0 (room_of s.handles)) [
        | inl some ↦ omega (arith, some)
        | inr none ↦ absurd (accepted refusal.NoSlot (RefusalHolds.no_slot (omega (arith, none))))
      ]

does_keep_store : (s : MachineState) (q : Request) (r : Reply) (t : MachineState) → IsHandleStore s.handles → IsAccepted s q → Does s q r t → IsHandleStore t.handles
does_keep_store s q r t store accepted Does.block = store
does_keep_store s q r t store accepted Does.begin = store
does_keep_store s q r t store accepted (Does.add changes are) = store
does_keep_store s q r t store accepted (Does.del changes are) = store
does_keep_store s q r t store accepted (Does.commit c) = subst IsHandleStore (sym (ap (λ (z : MachineState). z.handles) c.state)) store
does_keep_store s q r t store accepted Does.abort = store
does_keep_store s q r t store accepted (Does.ask x) = store
does_keep_store s q r t store accepted (Does.prepare {q = p}) = IsHandleStore-with_value p s.handles store (accepted_has_room s p accepted)
does_keep_store s q r t store accepted (Does.run p named x) = store
does_keep_store s q r t store accepted (Does.drop {h = h}) = let live = accepted_is_live s (command.Drop h) h UsesHandle.drop accepted in IsHandleStore-without h live.0 s.handles live.1 store
does_keep_store s q r t store accepted (Does.consistent o rows b x) = store
does_keep_store s q r t store accepted (Does.inconsistent o rows place b x named) = store
does_keep_store s q r t store accepted (Does.tables o rows b x) = store
does_keep_store s q r t store accepted Does.tidy = store
does_keep_store s q r t store accepted (Does.reopen i) = subst IsHandleStore (sym i.none_given) (begins_as_store handle_limit)

pub handles_stay : HandlesStayAStore
handles_stay s q r t store (StepsTo.refused refused) = store
handles_stay s q r t store (StepsTo.done accepted does) = does_keep_store s q r t store accepted does
