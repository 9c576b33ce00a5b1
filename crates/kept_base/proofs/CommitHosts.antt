-- The store may be asked to keep a commit, and then holds it.
use Rattle.std.proofs.Common.{◌≡◌, ◌≤◌, ◌+◌, ℕ, All, List, Option, Some, length, refl, sym, ◌∙◌, ap, subst, arith}
use Rattle.std.specs.Option.{ForSome}
use Rattle.host_io.specs.Disk.{Disk, IsSettled}
use Rattle.host_io.specs.Moments.{Left, LeavesOnly}
use Rattle.gated_log.specs.Stops.{AtFirst}
use Rattle.dl_base.specs.Ontology.{Terminology}
use Rattle.dl_base.specs.declared.row.NamedChange.{NamedChange}
use Rattle.txn_codec.specs.Spelling.{changes_bytes}
use Rattle.base_store.specs.History.{History, with_transaction}
use Rattle.dl_base.specs.Numbers.{IsNamedBy}
use Rattle.base_store.specs.Legal.{CanFollow}
use Rattle.base_store.specs.Store.{HoldsEither, StandsFor, StandsForNext, StoreState}
use Rattle.reply_text.specs.declared.reply.Reply.TheVariants as reply
use Rattle.base_engine.specs.Calls.{DiskKeeps, HasKeptState, StepLeaves}
use Rattle.base_engine.specs.Requests.{commit_of}
use Rattle.base_engine.specs.State.{MachineState}
use Rattle.kept_base.specs.Base.{BaseState, IsSoundBase, StandsForState, ontology_in}
use Rattle.kept_base.specs.Committing.{MakesTransaction, end_of, with_store}
use Rattle.kept_base.proofs.CommittedBases.{can_follow, commit_does, commit_stands, state_behind}
use Rattle.kept_base.proofs.KeptHosts.{Leads, next_moments, stands_at}

module _ (old new : BaseState) (k added removed : ℕ) (changes : List NamedChange) (sound : IsSoundBase old) (makes : MakesTransaction old k changes added removed new) where
  pub few_kept : length changes ≤ 10000
  few_kept = (sound.changes k changes makes.were).few

  pub room_kept : new.store.used + 6 + length (changes_bytes changes) ≤ 1073741824
  room_kept = subst (λ (st : StoreState). end_of st changes ≤ 1073741824) (sym makes.store_stays) makes.room

  pub may_keep : (disk : Option Disk) → HasKeptState (StandsForState old) disk → ForSome disk (λ d. (h : History) × StandsFor new.store d h × CanFollow h changes)
  may_keep disk kept d told =
      let s = kept d told in
      let was = sound.changes k changes makes.were in
      let same : was.o ≡ makes.before.ontology = (let e : Some was.o ≡ Some makes.before.ontology = sym was.ontology_is ∙ ap ontology_in makes.before_is in cc) in (
        s.0.history,
        subst (λ (st : StoreState). StandsFor st d s.0.history) (sym makes.store_stays) (stands_at old s.0 s.1 d s.2),
        can_follow old makes.before makes.before_is s.0 s.1 changes new.names new.rows makes.follows was.few
            (subst (λ (t : Terminology). All (λ c. IsNamedBy t c.row) changes) same was.named) makes.few,
      )

  -- the base behind it takes the step
  pub commit_leads : (final : BaseState) → final ≡ with_store new changes → (number : ℕ) → number ≡ final.store.transactions
      → Leads old (with_transaction changes) (commit_of k) (reply.Committed number added removed) final
  commit_leads final is number number_is s stands =
      let counted : final.store.transactions ≡ old.store.transactions + 1 =
      ap (λ (b : BaseState). b.store.transactions) is ∙ ap (λ (st : StoreState). st.transactions + 1) makes.store_stays in (
        state_behind old new k added removed changes sound makes s stands,
        commit_does old new k added removed changes sound makes s stands number (number_is ∙ counted),
        subst (λ (b : BaseState). StandsForState b (state_behind old new k added removed changes sound makes s stands)) (sym is) (commit_stands old new k added removed changes sound makes s stands),
        refl,
      )

  -- what was kept is the next history of the old base's
  pub kept_ok : (before after : Option Disk) (store : StoreState) → ForSome before (λ d. (e : Disk) × (after ≡ Some e) × IsSettled e × (e.second ≡ d.second) × StandsForNext (with_transaction changes) new.store d store e)
      → ForSome before (λ d. (e : Disk) × (after ≡ Some e) × IsSettled e × (e.second ≡ d.second) × StandsForNext (with_transaction changes) old.store d store e)
  kept_ok before after store ok = subst (λ (st : StoreState). ForSome before (λ d. (e : Disk) × (after ≡ Some e) × IsSettled e × (e.second ≡ d.second) × StandsForNext (with_transaction changes) st d store e)) makes.store_stays ok

  pub commit_moments : {H : Type 0} (clock : H → ℕ) (might : H → ℕ → Left → Type 0) (was is : H) (printed : Option (List ℕ)) (s : MachineState) → StandsForState old s → (d : Disk) → DiskKeeps (Some d) s.history
      → LeavesOnly clock might was is (AtFirst d printed (HoldsEither (with_transaction changes) d.first.reads)) → LeavesOnly clock might was is (StepLeaves s (commit_of k) printed d.second.reads)
  commit_moments clock might was is printed s stands d keeps only =
      let final = with_store new changes in
      next_moments clock might was is printed old final (with_transaction changes) (commit_of k) (reply.Committed final.store.transactions added removed)
      (commit_leads final refl final.store.transactions refl) s stands d keeps only

  pub commit_one : (final : BaseState) → final ≡ with_store new changes → final.steps ≤ old.steps + 1
  commit_one final is = (let same : final.steps ≡ new.steps = ap (λ (b : BaseState). b.steps) is in let steps = makes.steps_are in omega (arith, same, steps))
