-- A commit: what a base becomes, and that it takes a step.
use Rattle.std.proofs.Common.{◌≡◌, ◌==◌, ◌≤◌, ◌+◌, ◌++◌, ◌∷◌, [], ℕ, Bool, true, false, List, All, Option, Some, None, length, refl, sym, ◌∙◌, ap, subst, arith, if◌then◌else◌, length-append}
use Rattle.dl_base.specs.Completion.{IsLive}
use Rattle.dl_base.specs.Numbers.{IsNamedBy, StandFor}
use Rattle.dl_base.specs.Ontology.{IsTerminology, Terminology}
use Rattle.dl_base.specs.Query.{Question}
use Rattle.dl_base.specs.Rows.{AreRows}
use Rattle.dl_base.specs.declared.concept.Role.{Role}
use Rattle.dl_base.specs.declared.row.NamedChange.{NamedChange}
use Rattle.dl_base.specs.declared.row.NamedRow.{NamedRow}
use Rattle.dl_base.specs.declared.row.Row.{Row}
use Rattle.gen_arena.specs.Store.{HandleStore, IsHandleStore, Names}
use Rattle.assert_tables.specs.Rows.{AreRisingRows}
use Rattle.completion.specs.Named.{IsNamedCompletion}
use Rattle.witness_book.specs.Witnesses.{generation_of}
use Rattle.base_store.specs.History.{AreRowsAfter, History, Over, ontology_of, transaction_count, used, with_transaction}
use Rattle.base_store.specs.Legal.{CanFollow, IsCrowded}
use Rattle.base_store.specs.Loaded.{HasRows}
use Rattle.base_store.specs.Loading.{AreFew, FollowsChanges}
use Rattle.base_store.proofs.AfterChanges.{changes_lead, changes_rise}
use Rattle.base_store.proofs.Counts.{few_uncrowded, many_crowded}
use Rattle.base_store.proofs.Taking.{has_next}
use Rattle.reply_text.specs.declared.reply.Refusal.{Refusal}
use Rattle.reply_text.specs.declared.reply.Refusal.TheVariants as refusal
use Rattle.reply_text.specs.declared.reply.Reply.TheVariants as reply
use Rattle.kept_base.specs.Base.{BaseState, IsSoundBase, StandsForState, generation_by, ontology_in}
use Rattle.kept_base.specs.Committing.{IsLimit, MakesTransaction, end_of, with_store}
use Rattle.kept_base.specs.Doing.{DecidesRefusal}
use Rattle.base_reasoner.specs.Reasoned.{IsCompletedOf, Reasoned}
use Rattle.base_engine.specs.Refusals.{IsAccepted}
use Rattle.base_store.specs.Store.{StoreState}
use Rattle.base_engine.specs.Requests.{commit_of}
use Rattle.kept_base.specs.Sessions.{session_in}
use Rattle.base_engine.specs.State.{IsBase, IsLiveIn, MachineState, Raises, put_session}
use Rattle.base_engine.specs.Steps.{Counts, Does, StepsTo}
use Rattle.kept_base.proofs.CommitRows.{missing_counted, names_more, over_of, used_more}
use Rattle.base_engine.proofs.RefusalTable.{commit_refusals}
use Rattle.base_engine.proofs.RowsOnce.{rows_once}
use Rattle.base_engine.proofs.RowsThere.{counts_are, missing, rows_are, rows_of, rows_rise}
use Rattle.kept_base.proofs.SoundBases.{completed_of_state}

-- ---- rows behind the changes

module _ (b : BaseState) (x : Reasoned) (x_is : b.reasoned ≡ Some x) (s : MachineState) (stands : StandsForState b s) where
  pub has_ontology : ontology_of s.history ≡ Some x.ontology
  has_ontology = sym stands.ontology_is ∙ ap ontology_in x_is

  base_of : IsBase s.history x.ontology (rows_of s.history)
  base_of = record { ontology_is = has_ontology; rows_are = rows_are s.history }

  pub old_stand : StandFor x.ontology b.names b.rows (rows_of s.history)
  old_stand = stands.rows_are x.ontology (rows_of s.history) base_of

  module _ (changes : List NamedChange) (more : List (List ℕ)) (new_rows : List Row) (follows : FollowsChanges x.ontology changes b.names b.rows more new_rows) where
    abbrev pub next : History
    next = with_transaction changes s.history

    abbrev before : List (List NamedChange)
    before = (over_of s.history x.ontology has_ontology).0

    abbrev behind : History
    behind = Over x.ontology (before ++ changes ∷ [])

    next_is : next ≡ behind
    next_is = ap (with_transaction changes) (over_of s.history x.ontology has_ontology).1

    has_behind : HasRows behind more new_rows
    has_behind =
        let h : s.history ≡ Over x.ontology before = (over_of s.history x.ontology has_ontology).1 in
        has_next x.ontology before changes b.names more b.rows new_rows follows (rows_of s.history, subst (λ (g : History). AreRowsAfter g (rows_of s.history)) h (rows_are s.history), old_stand)

    pub next_ontology : ontology_of next ≡ Some x.ontology
    next_ontology = ap ontology_of next_is

    pub new_stand : StandFor x.ontology more new_rows (rows_of next)
    new_stand =
        let after : AreRowsAfter next has_behind.0 = subst (λ (g : History). AreRowsAfter g has_behind.0) (sym next_is) has_behind.1 in
        subst (λ (these : List NamedRow). StandFor x.ontology more new_rows these) (rows_once next has_behind.0 (rows_of next) after (rows_are next)) has_behind.2

    pub uncrowded : AreFew new_rows → IsCrowded next → ⊥
    uncrowded few crowded = few_uncrowded behind more new_rows has_behind few (subst IsCrowded next_is crowded)

    pub crowded : IsTerminology x.ontology → AreRisingRows new_rows → (AreFew new_rows → ⊥) → IsCrowded next
    crowded is rising many = subst IsCrowded (sym next_is) (many_crowded x.ontology (before ++ changes ∷ []) more new_rows is rising has_behind many)

    pub used_next : used next ≡ end_of b.store changes
    used_next = let more_used = used_more s.history x.ontology changes has_ontology in let same = stands.used_is in omega (arith, more_used, same)

    pub can_follow : length changes ≤ 10000 → All (λ c. IsNamedBy x.ontology c.row) changes → AreFew new_rows → CanFollow s.history changes
    can_follow short named few =
        subst (λ (g : History). CanFollow g changes) (sym (over_of s.history x.ontology has_ontology).1)
        (record { few = short; named = named; fits = λ many. uncrowded few (subst IsCrowded (sym next_is) many) })

    pub count_next : transaction_count next ≡ b.store.transactions + 1
    count_next =
        let counted : transaction_count s.history ≡ length before = ap transaction_count (over_of s.history x.ontology has_ontology).1 in
        let more_counted : transaction_count next ≡ length (before ++ changes ∷ []) = ap transaction_count next_is in
        let same = stands.count_is in
        omega (arith, counted, more_counted, same, length-append before (changes ∷ []))

-- ---- refusals

pub no_session : (b : BaseState) (k : ℕ) (o : Terminology) → ontology_in b.reasoned ≡ Some o → session_in b.sessions k ≡ None → DecidesRefusal b (commit_of k) (Some refusal.NotOpen)
no_session b k o has closed s stands = (commit_refusals s k o (sym stands.ontology_is ∙ has)).0 (sym (stands.sessions_are k) ∙ closed)

-- a limit that is passed
pub limit_refused : (b : BaseState) (k : ℕ) (x : Reasoned) (changes : List NamedChange) (more : List (List ℕ)) (new_rows : List Row) (e : Refusal) → b.reasoned ≡ Some x → session_in b.sessions k ≡ Some changes
    → IsTerminology x.ontology → FollowsChanges x.ontology changes b.names b.rows more new_rows → AreRisingRows new_rows → IsLimit new_rows (end_of b.store changes) e → DecidesRefusal b (commit_of k) (Some e)
limit_refused b k x changes more new_rows e x_is were is follows rising (IsLimit.crowded many) s stands =
    (commit_refusals s k x.ontology (has_ontology b x x_is s stands)).1 changes (sym (stands.sessions_are k) ∙ were) (crowded b x x_is s stands changes more new_rows follows is rising many)
limit_refused b k x changes more new_rows e x_is were is follows rising (IsLimit.full few past) s stands =
    (commit_refusals s k x.ontology (has_ontology b x x_is s stands)).2 changes (sym (stands.sessions_are k) ∙ were) (uncrowded b x x_is s stands changes more new_rows follows few)
    (let used_is = used_next b x x_is s stands changes more new_rows follows in omega (arith, used_is, past))

-- ---- the base behind it

module _ (old new : BaseState) (k added removed : ℕ) (changes : List NamedChange) (sound : IsSoundBase old) (makes : MakesTransaction old k changes added removed new) where
  same_ontology : ontology_in new.reasoned ≡ ontology_in old.reasoned
  same_ontology = ap ontology_in makes.after_is ∙ (ap (λ (t : Terminology). Some t) makes.renewed.ontology_stays ∙ sym (ap ontology_in makes.before_is))

  these_behind : (these : List NamedRow) → AreRows these → StandFor makes.before.ontology old.names old.rows these
      → (new_these : List NamedRow) × AreRows new_these × StandFor makes.before.ontology new.names new.rows new_these
  these_behind these rise stand =
      let lead = changes_lead these changes in
      (lead.0, changes_rise these changes lead.0 rise lead.1, makes.follows these lead.0 stand lead.1)

  pub made_sound : IsSoundBase new
  made_sound = record {
    completed = λ r e.
        let same : makes.after ≡ r = let both : Some makes.after ≡ Some r = sym makes.after_is ∙ e in cc in
        let was = sound.completed makes.before makes.before_is in
        let is = these_behind was.these was.rising was.stand in
        subst (IsCompletedOf new.names new.rows) same (record {
          these = is.0;
          rising = is.1;
          stand = subst (λ (t : Terminology). StandFor t new.names new.rows is.0) (sym makes.renewed.ontology_stays) is.2;
          completed = subst (λ (t : Terminology). IsNamedCompletion t new.names is.0 makes.after.tables) (sym makes.renewed.ontology_stays) (makes.renewed.named new.names is.0 is.2);
        });
    none = λ e. absurd (let both : None ≡ Some makes.after = sym e ∙ makes.after_is in cc);
    book = λ r e.
        let same : makes.after ≡ r = let both : Some makes.after ≡ Some r = sym makes.after_is ∙ e in cc in
        let set = (sound.book makes.before makes.before_is).calls in
        let live = makes.renewed.live.calls in
        let steps = makes.steps_are in
        record {
          roles = subst (λ (y : Reasoned). y.tables.book.roles ≡ length y.ontology.roles) same
              (makes.renewed.live.roles ∙ (makes.roles ∙ ap (λ (t : Terminology). length t.roles) (sym makes.renewed.ontology_stays)));
          calls = subst (λ (y : Reasoned). y.tables.book.calls ≤ new.steps + 1) same (omega (arith, set, live, steps));
        };
    changes = λ n these are.
        let s = sound.changes n these (others n these are (n == k) (sym (makes.sessions n) ∙ are)) in
        record { o = s.o; ontology_is = same_ontology ∙ s.ontology_is; named = s.named; few = s.few };
    handles = subst IsHandleStore (sym makes.handles_stay) sound.handles;
    queries = λ h q named.
        let x = sound.queries h q (subst (λ (hs : HandleStore Question). Names hs h q) makes.handles_stay named) in
        record { o = x.o; ontology_is = same_ontology ∙ x.ontology_is; known = x.known };
  }
    where
      others : (n : ℕ) (these : List NamedChange) → session_in new.sessions n ≡ Some these → (b : Bool) → (if b then None else session_in old.sessions n) ≡ Some these → session_in old.sessions n ≡ Some these
      others n these are true e = absurd (let both : None ≡ Some these = e in cc)
      others n these are false e = e

  -- ---- the step

  module _ (s : MachineState) (stands : StandsForState old s) where
    abbrev o : Terminology
    o = makes.before.ontology

    abbrev pub after : History
    after = with_transaction changes s.history

    abbrev pub state_behind : MachineState
    state_behind = record (put_session k None s) { history = after; generation = generation_by new.reasoned }

    has : ontology_of s.history ≡ Some o
    has = has_ontology old makes.before makes.before_is s stands

    is_now : ontology_of after ≡ Some o
    is_now = next_ontology old makes.before makes.before_is s stands changes new.names new.rows makes.follows

    stand_now : StandFor o new.names new.rows (rows_of after)
    stand_now = new_stand old makes.before makes.before_is s stands changes new.names new.rows makes.follows

    stand_before : StandFor o new.names old.rows (rows_of s.history)
    stand_before = names_more o old.names new.names old.rows (rows_of s.history) (rows_of after) new.rows makes.names_stay (old_stand old makes.before makes.before_is s stands) stand_now

    were : s.session k ≡ Some changes
    were = sym (stands.sessions_are k) ∙ makes.were

    accepted : IsAccepted s (commit_of k)
    accepted = (commit_refusals s k o has).3 changes were (uncrowded old makes.before makes.before_is s stands changes new.names new.rows makes.follows makes.few)
        (let used_is = used_next old makes.before makes.before_is s stands changes new.names new.rows makes.follows in let room = makes.room in omega (arith, used_is, room))

    -- ---- generations

    named_now : IsNamedCompletion o new.names (rows_of after) makes.after.tables
    named_now = makes.renewed.named new.names (rows_of after) stand_now

    named_before : IsNamedCompletion o old.names (rows_of s.history) makes.before.tables
    named_before = (completed_of_state old makes.before (sound.completed makes.before makes.before_is) s o (rows_of s.history) stands makes.before_is (record { ontology_is = has; rows_are = rows_are s.history })).1

    raises : Raises s.history after s.generation (generation_by new.reasoned)
    raises = record {
      raised = λ r becomes.
          generation_now r ∙ (((makes.renewed.live.generations r).raised (record {
            now = (named_now.live r).1 (live_here after is_now becomes.now);
            not_before = λ was. becomes.not_before (live_in s.history has ((named_before.live r).0 was));
          })) ∙ ap (λ (n : ℕ). n + 1) (generation_before r));
      kept = λ r not.
          generation_now r ∙ (((makes.renewed.live.generations r).kept (λ becomes. not (record {
            now = live_in after is_now ((named_now.live r).0 becomes.now);
            not_before = λ was. becomes.not_before ((named_before.live r).1 (live_here s.history has was));
          }))) ∙ generation_before r);
    }
      where
        generation_now : (r : Role) → generation_by new.reasoned r ≡ generation_of makes.after.tables.book r
        generation_now r = ap (λ (y : Option Reasoned). generation_by y r) makes.after_is

        generation_before : (r : Role) → generation_of makes.before.tables.book r ≡ s.generation r
        generation_before r = sym (ap (λ (y : Option Reasoned). generation_by y r) makes.before_is) ∙ stands.generations_are r

        live_here : {r : Role} (h : History) → ontology_of h ≡ Some o → IsLiveIn h r → IsLive o (rows_of h) r
        live_here {r} h h_has live =
            let one : live.o ≡ o = let e : Some live.o ≡ Some o = sym live.base.ontology_is ∙ h_has in cc in
            let same : live.rows ≡ rows_of h = rows_once h live.rows (rows_of h) live.base.rows_are (rows_are h) in
            subst (λ (t : Terminology). IsLive t (rows_of h) r) one (subst (λ (xs : List NamedRow). IsLive live.o xs r) same live.live)

        live_in : {r : Role} (h : History) → ontology_of h ≡ Some o → IsLive o (rows_of h) r → IsLiveIn h r
        live_in {r} h h_has live = record { o = o; rows = rows_of h; base = record { ontology_is = h_has; rows_are = rows_are h }; live = live }

    -- ---- the numbers of the reply

    counts : Counts s.history after added removed
    counts =
        let c = makes.counts in
        let come : added ≡ length (missing (rows_of after) (rows_of s.history)) =
        c.counts.added_is ∙ missing_counted o makes.within_limits new.names new.rows old.rows c.difference.come (rows_of after) (rows_of s.history) (rows_rise after) stand_now stand_before c.differ.come c.counts.come_rise in
        let gone : removed ≡ length (missing (rows_of s.history) (rows_of after)) =
        c.counts.removed_is ∙ missing_counted o makes.within_limits new.names old.rows new.rows c.difference.gone (rows_of s.history) (rows_of after) (rows_rise s.history) stand_before stand_now c.differ.gone c.counts.gone_rise in
        subst (λ (n : ℕ). Counts s.history after n removed) (sym come) (subst (λ (n : ℕ). Counts s.history after (length (missing (rows_of after) (rows_of s.history))) n) (sym gone) (counts_are s.history after))

    pub commit_does : (number : ℕ) → number ≡ old.store.transactions + 1 → StepsTo s (commit_of k) (reply.Committed number added removed) state_behind
    commit_does number is = StepsTo.done accepted (Does.commit (record {
      changes = changes;
      were = were;
      generation = generation_by new.reasoned;
      raises = raises;
      state = refl;
      number_is = is ∙ sym (count_next old makes.before makes.before_is s stands changes new.names new.rows makes.follows);
      counts = counts;
    }))

    pub commit_stands : StandsForState (with_store new changes) state_behind
    commit_stands = record {
      ontology_is = ap ontology_in makes.after_is ∙ (ap (λ (t : Terminology). Some t) makes.renewed.ontology_stays ∙ sym is_now);
      rows_are = λ p rows base.
          let one : o ≡ p = let e : Some o ≡ Some p = sym is_now ∙ base.ontology_is in cc in
          let same : rows_of after ≡ rows = rows_once after (rows_of after) rows (rows_are after) base.rows_are in
          subst (λ (t : Terminology). StandFor t new.names new.rows rows) one (subst (λ (xs : List NamedRow). StandFor o new.names new.rows xs) same stand_now);
      no_rows = λ none. absurd (let e : None ≡ Some o = sym none ∙ is_now in cc);
      used_is = (let e = ap (λ (st : StoreState). st.used) makes.store_stays in let used_is = used_next old makes.before makes.before_is s stands changes new.names new.rows makes.follows in omega (arith, e, used_is));
      count_is = (let e = ap (λ (st : StoreState). st.transactions) makes.store_stays in let count = count_next old makes.before makes.before_is s stands changes new.names new.rows makes.follows in omega (arith, e, count));
      sessions_are = λ n. makes.sessions n ∙ ap (λ (x : Option (List NamedChange)). if n == k then None else x) (stands.sessions_are n);
      handles_are = makes.handles_stay ∙ stands.handles_are;
      generations_are = λ r. refl;
    }

-- a base with whatever store
pub other_store : (b : BaseState) (store : StoreState) → IsSoundBase b → IsSoundBase (record b { store = store })
other_store b store sound = record {
  completed = sound.completed;
  none = sound.none;
  book = sound.book;
  changes = λ k these are. (let s = sound.changes k these are in record { o = s.o; ontology_is = s.ontology_is; named = s.named; few = s.few });
  handles = sound.handles;
  queries = sound.queries;
}
