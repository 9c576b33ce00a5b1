-- What is so of each base.
use Rattle.std.proofs.Common.{◌≡◌, ◌==◌, ◌≤◌, ℕ, Bool, true, false, List, [], ◌∷◌, All, Option, Some, None, refl, sym, ◌∙◌, ap, subst, arith, if◌then◌else◌, length-append}
use Rattle.std.proofs.lemmas.List.Elements.{All-push}
use Rattle.dl_base.specs.Completion.{AreCompleted}
use Rattle.dl_base.specs.Ontology.{Terminology}
use Rattle.dl_base.specs.Numbers.{IsNamedBy, StandFor}
use Rattle.dl_base.specs.Rows.{AreRows}
use Rattle.dl_base.specs.declared.row.NamedChange.{NamedChange}
use Rattle.dl_base.specs.declared.row.NamedRow.{NamedRow}
use Rattle.completion.specs.Named.{IsNamedCompletion}
use Rattle.kept_base.specs.Base.{AreSoundChanges, BaseState, HasCompletedTables, IsSoundBase, StandsForState, generation_by, ontology_in, table_in}
use Rattle.kept_base.specs.Doing.{CanAppend}
use Rattle.base_reasoner.specs.Reasoned.{IsCompletedOf, Reasoned}
use Rattle.kept_base.specs.Sessions.{PutsSession, session_in}
use Rattle.base_engine.specs.State.{IsBase, MachineState}
use Rattle.base_engine.specs.Steps.{appended}
use Rattle.base_engine.proofs.RowsOnce.{rows_once}
use Rattle.base_engine.proofs.RowsThere.{rows_are, rows_of, rows_rise}
use Rattle.kept_base.proofs.StandsForLemmas.{one_list}

-- ---- tables

-- whatever state it stands for, its tables are completed of that state's rows
pub completed_of_state : (b : BaseState) (x : Reasoned) → IsCompletedOf b.names b.rows x → (s : MachineState) (o : Terminology) (rows : List NamedRow) → StandsForState b s → b.reasoned ≡ Some x → IsBase s.history o rows
    → (x.ontology ≡ o) × IsNamedCompletion o b.names rows x.tables
completed_of_state b x done s o rows stands is base =
    let same : x.ontology ≡ o = let e : Some x.ontology ≡ Some o = sym (ap ontology_in is) ∙ (stands.ontology_is ∙ base.ontology_is) in cc in
    let stand : StandFor o b.names b.rows rows = stands.rows_are o rows base in
    let mine : StandFor o b.names b.rows done.these = subst (λ (t : Terminology). StandFor t b.names b.rows done.these) same done.stand in
    let rise : AreRows rows = subst AreRows (rows_once s.history (rows_of s.history) rows (rows_are s.history) base.rows_are) (rows_rise s.history) in
    let one : done.these ≡ rows = one_list o b.names b.rows done.these rows done.rising rise mine stand in
    (same, subst (λ (t : Terminology). IsNamedCompletion t b.names rows x.tables) same (subst (λ (xs : List NamedRow). IsNamedCompletion x.ontology b.names xs x.tables) one done.completed))

pub has_completed : (b : BaseState) → IsSoundBase b → HasCompletedTables b
has_completed b sound s o rows stands base = by b.reasoned refl
  where
    by : (found : Option Reasoned) → b.reasoned ≡ found → AreCompleted o rows b.names (generation_by b.reasoned) (table_in b.reasoned)
    by None e = absurd (let none : None ≡ Some o = sym (ap ontology_in e) ∙ (stands.ontology_is ∙ base.ontology_is) in cc)
    by (Some x) e =
        let done = completed_of_state b x (sound.completed x e) s o rows stands e base in
        subst (λ (found : Option Reasoned). AreCompleted o rows b.names (generation_by found) (table_in found)) (sym e) done.1.tables

-- ---- sessions

-- a base with other sessions, whose changes are sound
pub sound_sessions : (old : BaseState) (sessions : List (Option (List NamedChange))) (steps : ℕ) → old.steps ≤ steps → IsSoundBase old
    → ((k : ℕ) (changes : List NamedChange) → session_in sessions k ≡ Some changes → AreSoundChanges old changes) → IsSoundBase (record old { sessions = sessions; steps = steps })
sound_sessions old sessions steps more sound all = record {
  completed = sound.completed;
  none = sound.none;
  book = λ r e. (let set = sound.book r e in record { roles = set.roles; calls = (let calls = set.calls in omega (arith, calls, more)) });
  changes = λ k changes are. (let s = all k changes are in record { o = s.o; ontology_is = s.ontology_is; named = s.named; few = s.few });
  handles = sound.handles;
  queries = sound.queries;
}

-- one session is put
pub sound_put : (old : BaseState) (k : ℕ) (found : Option (List NamedChange)) (sessions : List (Option (List NamedChange))) → IsSoundBase old → PutsSession k found old.sessions sessions
    → ((these : List NamedChange) → found ≡ Some these → AreSoundChanges old these)
    → (n : ℕ) (changes : List NamedChange) → session_in sessions n ≡ Some changes → AreSoundChanges old changes
sound_put old k found sessions sound puts these n changes are = by (n == k) (sym (puts n) ∙ are)
  where
    by : (b : Bool) → (if b then found else session_in old.sessions n) ≡ Some changes → AreSoundChanges old changes
    by true e = these changes e
    by false e = sound.changes n changes e

-- one change more of a session that can take it
pub sound_more : (old : BaseState) (k : ℕ) (change : NamedChange) (before : List NamedChange) → IsSoundBase old → CanAppend old k change.row before → AreSoundChanges old (appended before change)
sound_more old k change before sound can =
    let was = sound.changes k before can.were in
    let same : was.o ≡ can.o = let e : Some was.o ≡ Some can.o = sym was.ontology_is ∙ can.ontology_is in cc in
    record {
      o = can.o;
      ontology_is = can.ontology_is;
      named = All-push (λ (c : NamedChange). IsNamedBy can.o c.row) before change (subst (λ (t : Terminology). All (λ (c : NamedChange). IsNamedBy t c.row) before) same was.named) can.named;
      few = (let few = can.few in let long = length-append before (change ∷ []) in omega (arith, few, long));
    }

module _ (view now : BaseState) (same : view ≡ now) (k : ℕ) (sessions : List (Option (List NamedChange))) (steps : ℕ) (more : view.steps ≤ steps) (sound : IsSoundBase view) where
  pub put_sound : (found : Option (List NamedChange)) → PutsSession k found view.sessions sessions → ((these : List NamedChange) → found ≡ Some these → AreSoundChanges now these)
      → IsSoundBase (record view { sessions = sessions; steps = steps })
  put_sound found puts these = sound_sessions view sessions steps more sound (sound_put view k found sessions sound puts (λ changes e. subst (λ (b : BaseState). AreSoundChanges b changes) (sym same) (these changes e)))

  pub more_sound : (change : NamedChange) → ((changes : List NamedChange) → session_in view.sessions k ≡ Some changes → PutsSession k (Some (appended changes change)) view.sessions sessions)
      → (these : List NamedChange) × CanAppend now k change.row these → IsSoundBase (record view { sessions = sessions; steps = steps })
  more_sound change puts room =
      let can : CanAppend view k change.row room.0 = subst (λ (b : BaseState). CanAppend b k change.row room.0) (sym same) room.1 in
      sound_sessions view sessions steps more sound (sound_put view k (Some (appended room.0 change)) sessions sound (puts room.0 can.were)
      (λ changes e. subst (AreSoundChanges view) (let f : Some (appended room.0 change) ≡ Some changes = e in cc) (sound_more view k change room.0 sound can)))
