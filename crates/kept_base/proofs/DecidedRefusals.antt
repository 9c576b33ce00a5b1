-- What a base decides of refusals, and what its sessions become.
use Rattle.std.proofs.Common.{◌≡◌, ◌==◌, ℕ, ◌+◌, ◌<◌, ◌≤◌, Bool, true, false, List, [], length, Option, Some, None, refl, sym, ◌∙◌, ap, subst, if◌then◌else◌}
use Rattle.std.specs.Prelude.{Contains, MatchOption, slice_get}
use Rattle.dl_base.specs.Ontology.{Terminology}
use Rattle.dl_base.specs.declared.row.NamedChange.{NamedChange}
use Rattle.dl_base.specs.declared.row.NamedRow.{NamedRow}
use Rattle.dl_base.specs.declared.row.NamedRow.TheVariants as row
use Rattle.dl_base.proofs.PlaceLemmas.{member_at}
use Rattle.dl_base.specs.Numbers.{IsNamedBy}
use Rattle.reply_text.specs.declared.reply.Refusal.{Refusal}
use Rattle.reply_text.specs.declared.reply.Refusal.TheVariants as refusal
use Rattle.reply_text.specs.declared.reply.Reply.TheVariants as reply
use Rattle.script_reader.specs.declared.command.Command.{Command}
use Rattle.script_reader.specs.declared.command.Command.TheVariants as command
use Rattle.script_reader.specs.declared.request.Request.{Request}
use Rattle.script_reader.specs.declared.request.Request.TheVariants as request
use Rattle.kept_base.specs.Base.{BaseState, StandsForState, ontology_in}
use Rattle.kept_base.specs.Doing.{BaseSteps, DecidesRefusal, PutsInBase, command_of_change}
use Rattle.base_engine.specs.Refusals.{AppendsChange, LacksNameOf, NeedsOntology}
use Rattle.kept_base.specs.Sessions.{session_in}
use Rattle.base_engine.specs.State.{MachineState, put_session}
use Rattle.base_engine.specs.Steps.{Does, StepsTo, appended}
use Rattle.base_engine.proofs.RefusalTable.{abort_refusals, begin_refusals, no_ontology, of_appending, others_accepted}
use Rattle.base_store.specs.History.{ontology_of}

-- ---- refusals

module _ (b : BaseState) where
  pub wants_ontology : (c : Command) → NeedsOntology c → ontology_in b.reasoned ≡ None → DecidesRefusal b (request.Plain c) (Some refusal.NoOntology)
  wants_ontology c needs none s stands = no_ontology s c needs (sym stands.ontology_is ∙ none)

  module _ (o : Terminology) (has : ontology_in b.reasoned ≡ Some o) (k : ℕ) where
    there : (s : MachineState) → StandsForState b s → ontology_of s.history ≡ Some o
    there s stands = sym stands.ontology_is ∙ has

    session_is : (found : Option (List NamedChange)) → session_in b.sessions k ≡ found → (s : MachineState) → StandsForState b s → s.session k ≡ found
    session_is found is s stands = sym (stands.sessions_are k) ∙ is

    pub begins_twice : (changes : List NamedChange) → session_in b.sessions k ≡ Some changes → DecidesRefusal b (request.Plain (command.Begin k)) (Some refusal.AlreadyOpen)
    begins_twice changes are s stands = (begin_refusals s k o (there s stands)).0 changes (session_is (Some changes) are s stands)

    pub begins : session_in b.sessions k ≡ None → DecidesRefusal b (request.Plain (command.Begin k)) None
    begins closed s stands = (begin_refusals s k o (there s stands)).1 (session_is None closed s stands)

    pub aborts_closed : session_in b.sessions k ≡ None → DecidesRefusal b (request.Plain (command.Abort k)) (Some refusal.NotOpen)
    aborts_closed closed s stands = (abort_refusals s k o (there s stands)).0 (session_is None closed s stands)

    pub aborts : (changes : List NamedChange) → session_in b.sessions k ≡ Some changes → DecidesRefusal b (request.Plain (command.Abort k)) None
    aborts changes are s stands = (abort_refusals s k o (there s stands)).1 changes (session_is (Some changes) are s stands)

    module _ (c : Command) (r : NamedRow) (appends : AppendsChange c k r) where
      pub changes_closed : session_in b.sessions k ≡ None → DecidesRefusal b (request.Plain c) (Some refusal.NotOpen)
      changes_closed closed s stands = (of_appending s c k r o appends (there s stands)).0 (session_is None closed s stands)

      module _ (changes : List NamedChange) (are : session_in b.sessions k ≡ Some changes) where
        pub changes_unknown : (e : Refusal) → LacksNameOf o r e → DecidesRefusal b (request.Plain c) (Some e)
        changes_unknown e lacks s stands = (of_appending s c k r o appends (there s stands)).1 changes e (session_is (Some changes) are s stands) lacks

        pub changes_pending : IsNamedBy o r → 10000 ≤ length changes → DecidesRefusal b (request.Plain c) (Some refusal.Pending)
        changes_pending named many s stands = (of_appending s c k r o appends (there s stands)).2 changes (session_is (Some changes) are s stands) named many

        pub changes_accepted : IsNamedBy o r → length changes < 10000 → DecidesRefusal b (request.Plain c) None
        changes_accepted named few s stands = (of_appending s c k r o appends (there s stands)).3 changes (session_is (Some changes) are s stands) named few

-- ---- steps

-- a refusal leaves the base as it was
pub refusal_steps : (b : BaseState) (q : Request) (e : Refusal) → DecidesRefusal b q (Some e) → BaseSteps b q (reply.Error e) b
refusal_steps b q e decides s stands = (s, StepsTo.refused (decides s stands), stands)

-- the base with one session put stands for the state with it put
pub put_stands : (k : ℕ) (changes : Option (List NamedChange)) (old new : BaseState) → PutsInBase k changes old new → (s : MachineState) → StandsForState old s → StandsForState new (put_session k changes s)
put_stands k changes old new puts s stands =
    let moved : BaseState = record old { sessions = new.sessions; steps = old.steps + 1 } in
    let by : StandsForState moved (put_session k changes s) = record {
      ontology_is = stands.ontology_is;
      rows_are = stands.rows_are;
      no_rows = stands.no_rows;
      used_is = stands.used_is;
      count_is = stands.count_is;
      sessions_are = λ n. puts.session n ∙ ap (λ (x : Option (List NamedChange)). if n == k then changes else x) (stands.sessions_are n);
      handles_are = stands.handles_are;
      generations_are = stands.generations_are;
    } in
    subst (λ (b : BaseState). StandsForState b (put_session k changes s)) (sym puts.rest) by

pub begin_steps : (k : ℕ) (old new : BaseState) → DecidesRefusal old (request.Plain (command.Begin k)) None → PutsInBase k (Some []) old new → BaseSteps old (request.Plain (command.Begin k)) reply.Done new
begin_steps k old new accepted puts s stands = (put_session k (Some []) s, StepsTo.done (accepted s stands) Does.begin, put_stands k (Some []) old new puts s stands)

pub abort_steps : (k : ℕ) (old new : BaseState) → DecidesRefusal old (request.Plain (command.Abort k)) None → PutsInBase k None old new → BaseSteps old (request.Plain (command.Abort k)) reply.Done new
abort_steps k old new accepted puts s stands = (put_session k None s, StepsTo.done (accepted s stands) Does.abort, put_stands k None old new puts s stands)

pub tidy_steps : (b : BaseState) → BaseSteps b (request.Plain command.Tidy) reply.Done b
tidy_steps b s stands = (s, StepsTo.done ((others_accepted s).2) Does.tidy, stands)

-- the command that appends a change
pub appends_change : (k : ℕ) (change : NamedChange) → AppendsChange (command_of_change k change) k change.row
appends_change k change = by change.add refl
  where
    by : (add : Bool) → change.add ≡ add → AppendsChange (command_of_change k change) k change.row
    by true e = subst (λ (c : NamedChange). AppendsChange (command_of_change k c) k c.row) (λ i. record { add = sym e i; row = change.row }) AppendsChange.add
    by false e = subst (λ (c : NamedChange). AppendsChange (command_of_change k c) k c.row) (λ i. record { add = sym e i; row = change.row }) AppendsChange.del

does_change : (s : MachineState) (k : ℕ) (change : NamedChange) (changes : List NamedChange) → s.session k ≡ Some changes
    → Does s (request.Plain (command_of_change k change)) reply.Done (put_session k (Some (appended changes change)) s)
does_change s k change changes are = by change.add refl
  where
    goal_of : NamedChange → Type 0
    goal_of c = Does s (request.Plain (command_of_change k c)) reply.Done (put_session k (Some (appended changes c)) s)

    by : (add : Bool) → change.add ≡ add → goal_of change
    by true e = subst goal_of (λ i. record { add = sym e i; row = change.row }) (Does.add changes are)
    by false e = subst goal_of (λ i. record { add = sym e i; row = change.row }) (Does.del changes are)

pub change_steps : (k : ℕ) (change : NamedChange) (changes : List NamedChange) (old new : BaseState) → session_in old.sessions k ≡ Some changes
    → DecidesRefusal old (request.Plain (command_of_change k change)) None → PutsInBase k (Some (appended changes change)) old new
    → BaseSteps old (request.Plain (command_of_change k change)) reply.Done new
change_steps k change changes old new are accepted puts s stands = (
  put_session k (Some (appended changes change)) s,
  StepsTo.done (accepted s stands) (does_change s k change changes (sym (stands.sessions_are k) ∙ are)),
  put_stands k (Some (appended changes change)) old new puts s stands,
)

-- ---- names and numbers

pub appends_needs : (c : Command) (k : ℕ) (r : NamedRow) → AppendsChange c k r → NeedsOntology c
appends_needs c k r AppendsChange.add = tt
appends_needs c k r AppendsChange.del = tt

pub lacks_concept : (o : Terminology) (r : NamedRow) (names : List (List ℕ)) (bytes name individual told : List ℕ) → r ≡ row.Concept name individual → names ≡ o.concepts → bytes ≡ name
    → (Contains names bytes → ⊥) → told ≡ name → LacksNameOf o r (refusal.UnknownConcept told)
lacks_concept o r names bytes name individual told is names_are bytes_are absent told_is =
    let lacks : Contains o.concepts name → ⊥ = λ there. absent (subst (λ (xs : List (List ℕ)). Contains xs bytes) (sym names_are) (subst (Contains o.concepts) (sym bytes_are) there)) in
    subst (λ (x : NamedRow). LacksNameOf o x (refusal.UnknownConcept told)) (sym is) (subst (λ (n : List ℕ). LacksNameOf o (row.Concept name individual) (refusal.UnknownConcept n)) (sym told_is) (LacksNameOf.concept lacks))

pub lacks_role : (o : Terminology) (r : NamedRow) (names : List (List ℕ)) (bytes name from to told : List ℕ) → r ≡ row.Role name from to → names ≡ o.roles → bytes ≡ name
    → (Contains names bytes → ⊥) → told ≡ name → LacksNameOf o r (refusal.UnknownRole told)
lacks_role o r names bytes name from to told is names_are bytes_are absent told_is =
    let lacks : Contains o.roles name → ⊥ = λ there. absent (subst (λ (xs : List (List ℕ)). Contains xs bytes) (sym names_are) (subst (Contains o.roles) (sym bytes_are) there)) in
    subst (λ (x : NamedRow). LacksNameOf o x (refusal.UnknownRole told)) (sym is) (subst (λ (n : List ℕ). LacksNameOf o (row.Role name from to) (refusal.UnknownRole n)) (sym told_is) (LacksNameOf.role lacks))

pub has_role : (o : Terminology) (r : NamedRow) (names : List (List ℕ)) (bytes name from to : List ℕ) (place : ℕ) → r ≡ row.Role name from to → names ≡ o.roles → bytes ≡ name
    → slice_get names place ≡ Some bytes → IsNamedBy o r
has_role o r names bytes name from to place is names_are bytes_are found =
    let there : Contains o.roles name = subst (Contains o.roles) bytes_are (subst (λ (xs : List (List ℕ)). Contains xs bytes) names_are (member_at names place bytes found)) in
    subst (IsNamedBy o) (sym is) there

pub at_some : {X : Type 0} (A : Type 0) (P : X → Type 0) (found : Option X) (x : X) → found ≡ Some x → MatchOption found A P → P x
at_some {X} A P found x is told = subst (λ (f : Option X). MatchOption f A P) is told

pub at_none : {X : Type 0} (A : Type 0) (P : X → Type 0) (found : Option X) → found ≡ None → MatchOption found A P → A
at_none {X} A P found is told = subst (λ (f : Option X). MatchOption f A P) is told
