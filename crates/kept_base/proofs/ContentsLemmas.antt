-- The changes of a session, made in memory.
use Rattle.std.proofs.Common.{◌≡◌, ◌<◌, ◌≤◌, ◌++◌, ℕ, List, All, Some, length, slice_get, refl, sym, ◌∙◌, ap, subst, arith}
use Rattle.completion.specs.Numbered.{IsRowOf}
use Rattle.dl_base.specs.Ontology.{Terminology}
use Rattle.dl_base.specs.Query.{Question}
use Rattle.gen_arena.specs.Store.{ReservedStore}
use Rattle.dl_base.specs.declared.row.NamedChange.{NamedChange}
use Rattle.dl_base.specs.declared.row.Row.{Row}
use Rattle.dl_base.proofs.PlaceLemmas.{place_stays}
use Rattle.dl_base.specs.Numbers.{IsNamedBy}
use Rattle.base_store.specs.Loading.{AreFew, FollowsChanges}
use Rattle.base_store.specs.Store.{StoreState}
use Rattle.base_store.proofs.AfterChanges.{changes_lead}
use Rattle.reply_text.specs.declared.reply.Refusal.{Refusal}
use Rattle.row_changes.specs.Difference.{IsDifference}
use Rattle.row_changes.specs.declared.changes.Made.{Made as MadeChanges}
use Rattle.base_reasoner.specs.Reasoned.{Reasoned}
use Rattle.base_reasoner.specs.Renewal.{IsRenewed}
use Rattle.kept_base.specs.Base.{IsSoundBase, base_of, ontology_in}
use Rattle.kept_base.specs.Committing.{AreMade, CanRenew, IsMade, MakesTransaction, GoesOverLimit, TakesChanges, TakesMade, end_of}
use Rattle.kept_base.specs.Sessions.{session_in}
use Rattle.kept_base.specs.declared.contents.Contents.{Contents}
use Rattle.kept_base.specs.declared.contents.Outcome.{Outcome}
use Rattle.kept_base.specs.declared.contents.Outcome.TheVariants as outcome
use Rattle.kept_base.proofs.CommittedBases.{limit_refused}
use Rattle.completion.proofs.NamedLemmas.{rows_placed}

module _ (c : Contents) (store : StoreState) (k : ℕ) (sound : IsSoundBase (base_of c store)) (x : Reasoned) (x_is : c.reasoner ≡ Some x) (changes : List NamedChange) (were : session_in c.sessions k ≡ Some changes) where
  -- the changes are few
  pub session_few : length changes ≤ 10000
  session_few = (sound.changes k changes were).few

  -- and of concepts and roles of the ontology
  pub session_named : All (λ ch. IsNamedBy x.ontology ch.row) changes
  session_named =
      let was = sound.changes k changes were in
      let same : was.o ≡ x.ontology = let e : Some was.o ≡ Some x.ontology = sym was.ontology_is ∙ ap ontology_in x_is in cc in
      subst (λ (t : Terminology). All (λ ch. IsNamedBy t ch.row) changes) same was.named

  -- a limit is passed, and the rows are put back
  pub makes_none : (rows : List Row) (e : Refusal) → rows ≡ c.rows → GoesOverLimit x.ontology c.individuals store changes c.rows e → IsMade (base_of c store) k (outcome.Refused e) (base_of (record c { rows = rows }) store)
  makes_none rows e same passes = (
    ap (λ (rs : List Row). base_of (record c { rows = rs }) store) same,
    limit_refused (base_of c store) k x changes passes.more passes.new_rows e x_is were passes.within_limits passes.follows passes.rising passes.limit,
  )

  module _ (few_steps : c.steps < 100000000) (rows : List Row) (made : MadeChanges) (is : AreMade x.ontology c.individuals changes c.rows rows made) where
    -- the rows are of the ontology
    rows_of_ontology : All (IsRowOf x.ontology) rows
    rows_of_ontology =
        let was = sound.completed x x_is in
        let lead = changes_lead was.these changes in
        rows_placed x.ontology (c.individuals ++ made.newcomers) rows lead.0 (is.follows was.these lead.0 was.stand lead.1)

    pub can_renew : CanRenew (record c { rows = rows }) k made
    can_renew = record {
      reasoned = x;
      reasoned_is = x_is;
      changes = changes;
      were = were;
      short = is.short;
      distinct = is.distinct;
      within = rows_of_ontology;
      roles = (sound.book x x_is).roles;
      calls = (let calls = (sound.book x x_is).calls in omega (arith, calls, few_steps));
    }

    module _ (room : end_of store changes ≤ 1073741824) (new : Contents) where
      makes_all : (these : List NamedChange) (added removed : ℕ) → TakesChanges (record c { rows = rows }) k made these added removed new → MakesTransaction (base_of c store) k these added removed (base_of new store)
      makes_all these added removed takes =
          let one : changes ≡ these = let e : Some changes ≡ Some these = sym were ∙ takes.were in cc in
          let names : c.individuals ++ made.newcomers ≡ new.individuals = sym takes.names in
          record {
            before = x;
            before_is = x_is;
            after = takes.after;
            after_is = takes.after_is;
            renewed = subst (λ (rs : List Row). IsRenewed rs x takes.after) (sym takes.rows) (takes.renewed x x_is);
            roles = (sound.book x x_is).roles;
            within_limits = is.within_limits;
            were = takes.were;
            names_stay = λ n name at. subst (λ (ns : List (List ℕ)). slice_get ns n ≡ Some name) names (place_stays c.individuals made.newcomers n name at);
            follows = subst (λ (cs : List NamedChange). FollowsChanges x.ontology cs c.individuals c.rows new.individuals new.rows) one
                (subst (λ (rs : List Row). FollowsChanges x.ontology changes c.individuals c.rows new.individuals rs) (sym takes.rows)
                (subst (λ (ns : List (List ℕ)). FollowsChanges x.ontology changes c.individuals c.rows ns rows) names is.follows));
            few = subst AreFew (sym takes.rows) is.few;
            room = subst (λ (cs : List NamedChange). end_of store cs ≤ 1073741824) one room;
            counts = record {
              difference = made.difference;
              differ = subst (λ (rs : List Row). IsDifference c.rows rs made.difference) (sym takes.rows) is.differ;
              counts = takes.counts;
            };
            store_stays = refl;
            sessions = takes.sessions;
            handles_stay = ap (λ (x : ReservedStore Question). x.store) takes.handles;
            steps_are = takes.steps_are;
          }

      pub makes : (came : Outcome) → TakesMade (record c { rows = rows }) k made came new → IsMade (base_of c store) k came (base_of new store)
      makes (outcome.Refused e) takes = absurd takes
      makes (outcome.Made these added removed) takes = makes_all these added removed takes
