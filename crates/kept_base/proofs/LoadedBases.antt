-- A base that is loaded is sound, and stands for the state that the machine begins with.
use Rattle.std.proofs.Common.{◌≡◌, ◌↔◌, ℕ, Result, Ok, Err, IfOk, List, [], ◌∷◌, length, All, Contains, Option, Some, None, refl, sym, ◌∙◌, ap, subst, arith}
use Rattle.completion.specs.Completed.{IsCompletionOf, IsFirstBook}
use Rattle.completion.specs.Named.{IsNamedCompletion}
use Rattle.completion.proofs.NamedLemmas.{rows_placed}
use Rattle.completion.specs.Numbered.{IsLiveRole, IsRowOf}
use Rattle.dl_base.specs.Completion.{IsLive}
use Rattle.dl_base.specs.Numbers.{StandFor}
use Rattle.dl_base.specs.Ontology.{Terminology}
use Rattle.dl_base.specs.Query.{Question}
use Rattle.dl_base.specs.declared.concept.Role.{Role}
use Rattle.dl_base.specs.declared.row.NamedChange.{NamedChange}
use Rattle.dl_base.specs.declared.row.NamedRow.{NamedRow}
use Rattle.dl_base.specs.declared.row.Row.{Row}
use Rattle.gen_arena.specs.Store.{HandleStore, IsHandleStore, Names, Slot, empty_store}
use Rattle.gen_arena.specs.declared.handle.Handle.{Handle}
use Rattle.gen_arena.proofs.LawLemmas.{begins_as_store}
use Rattle.base_store.specs.History.{Empty, History, Over, ontology_of}
use Rattle.base_store.specs.Loaded.{HasNumbersOf, HasRows, IsLoadedOf}
use Rattle.base_store.specs.Store.{StoreState}
use Rattle.base_store.specs.declared.load.Loaded.{Loaded}
use Rattle.kept_base.specs.Base.{BaseState, HasRowsOf, IsSoundBase, generation_by, ontology_in}
use Rattle.kept_base.specs.Opening.{AreRowsWithin, IsReasonedOf, IsReasonerOf, StandsFromLoad}
use Rattle.base_reasoner.specs.Reasoned.{IsCompletedOf, Reasoned}
use Rattle.kept_base.specs.Sessions.{session_in}
use Rattle.base_engine.specs.State.{IsInitial, IsLiveIn, MachineState, handle_limit}
use Rattle.base_engine.proofs.RowsOnce.{rows_once}
use Rattle.base_engine.proofs.RowsThere.{rows_are, rows_of, rows_rise}

-- ---- rows

-- the rows of a list, in another order
same_stand : (o : Terminology) (names : List (List ℕ)) (list rows : List Row) (these : List NamedRow) → ((r : Row) → Contains rows r ↔ Contains list r) → StandFor o names list these → StandFor o names rows these
same_stand o names list rows these same stand = record {
  distinct = stand.distinct;
  each = λ r there. (let found = stand.each r there in (found.0, (same found.0).1 found.1, found.2));
  only = λ n there. stand.only n ((same n).0 there);
}

none_there : (rows : List Row) → ((r : Row) → Contains rows r → ⊥) → rows ≡ []
none_there [] absent = refl
none_there (r ∷ rows) absent = absurd (absent r (0, omega arith, refl))

-- none is none of some
pub some_not_none : {X : Type 0} (x : X) → None ≡ Some x → ⊥
some_not_none x e = cc

-- no handle of a store without slots names a query
none_named : (h : Handle) (q : Question) → Names (empty_store handle_limit) h q → ⊥
none_named h q named = (let no : None ≡ Some q = ap (λ (x : Slot Question). x.held) named in some_not_none q no)

module _ (l : Loaded) (rows : List Row) (same : (r : Row) → Contains rows r ↔ Contains l.rows r) where
  -- the history with an ontology
  rows_stand : (o : Terminology) (es : List (List NamedChange)) → HasRows (Over o es) l.individuals l.rows → StandFor o l.individuals rows (rows_of (Over o es))
  rows_stand o es has =
      let is : has.0 ≡ rows_of (Over o es) = rows_once (Over o es) has.0 (rows_of (Over o es)) has.1 (rows_are (Over o es)) in
      same_stand o l.individuals l.rows rows (rows_of (Over o es)) same (subst (λ (xs : List NamedRow). StandFor o l.individuals l.rows xs) is has.2)

  no_rows : l.rows ≡ [] → rows ≡ []
  no_rows none = none_there rows (λ r there. (let x = subst (λ (xs : List Row). Contains xs r) none ((same r).0 there) in absurd (no_member r x)))
    where
      no_member : (r : Row) → Contains [] r → ⊥
      no_member r there = omega (arith, there.1)

  pub rows_within : (h : History) → IsLoadedOf h l → AreRowsWithin l.ontology rows
  rows_within Empty is o has = absurd (some_not_none o (sym is.ontology ∙ has))
  rows_within (Over p es) is o has =
      let one : p ≡ o = let e : Some p ≡ Some o = sym is.ontology ∙ has in cc in
      subst (λ (t : Terminology). All (IsRowOf t) rows) one (rows_placed p l.individuals rows (rows_of (Over p es)) (rows_stand p es is.rows))

  module _ (store : StoreState) (found : Option Reasoned) (reasoned : IsReasonedOf l.ontology rows found) (sessions : List (Option (List NamedChange))) (closed : (k : ℕ) → session_in sessions k ≡ None)
      (handles : HandleStore Question) (unused : handles ≡ empty_store handle_limit) where
    abbrev pub made : BaseState
    made = record { reasoned = found; names = l.individuals; rows = rows; store = store; sessions = sessions; handles = handles; steps = 0 }

    -- the ontology is the history's
    ontology_made : (f : Option Reasoned) → IsReasonedOf l.ontology rows f → ontology_in f ≡ l.ontology
    ontology_made None is = sym is
    ontology_made (Some x) is = ap (λ (t : Terminology). Some t) is.2.ontology_is ∙ sym is.1

    completed_made : (h : History) (x : Reasoned) → IsLoadedOf h l → IsReasonedOf l.ontology rows (Some x) → IsCompletedOf l.individuals rows x
    completed_made Empty x is made_of = absurd (some_not_none made_of.0 (sym is.ontology ∙ made_of.1))
    completed_made (Over p es) x is made_of =
        let one : p ≡ made_of.0 = let e : Some p ≡ Some made_of.0 = sym is.ontology ∙ made_of.1 in cc in
        let stand : StandFor made_of.0 l.individuals rows (rows_of (Over p es)) = subst (λ (t : Terminology). StandFor t l.individuals rows (rows_of (Over p es))) one (rows_stand p es is.rows) in
        record {
          these = rows_of (Over p es);
          rising = rows_rise (Over p es);
          stand = subst (λ (t : Terminology). StandFor t l.individuals rows (rows_of (Over p es))) (sym made_of.2.ontology_is) stand;
          completed = subst (λ (t : Terminology). IsNamedCompletion t l.individuals (rows_of (Over p es)) x.tables) (sym made_of.2.ontology_is) (made_of.2.named l.individuals (rows_of (Over p es)) stand);
        }

    none_made : (h : History) → IsLoadedOf h l → l.ontology ≡ None → rows ≡ []
    none_made Empty is none = no_rows is.rows.1
    none_made (Over p es) is none = absurd (some_not_none p (sym none ∙ is.ontology))

    pub loaded_sound : HasNumbersOf store l → IsSoundBase made
    loaded_sound numbers = record {
      completed = λ x e. completed_made numbers.history x numbers.loaded (subst (IsReasonedOf l.ontology rows) e reasoned);
      none = λ e. none_made numbers.history numbers.loaded (subst (IsReasonedOf l.ontology rows) e reasoned);
      book = λ x e. (let of = subst (IsReasonedOf l.ontology rows) e reasoned in record {
        roles = of.2.tables.book.roles ∙ ap (λ (t : Terminology). length t.roles) (sym of.2.ontology_is);
        calls = (let calls = of.2.first.calls in omega (arith, calls));
      });
      changes = λ k changes are. absurd (some_not_none changes (sym (closed k) ∙ are));
      handles = subst IsHandleStore (sym unused) (begins_as_store handle_limit);
      queries = λ h q named. absurd (none_named h q (subst (λ (hs : HandleStore Question). Names hs h q) unused named));
    }

    -- ---- the state that the machine begins with

    abbrev first : History → MachineState
    first h = record { history = h; session = λ k. None; handles = empty_store handle_limit; generation = generation_by found }

    -- generations, with an ontology
    module _ (o : Terminology) (es : List (List NamedChange)) (is : IsLoadedOf (Over o es) l) (x : Reasoned) (of : IsReasonerOf o rows x) where
      by_names : IsNamedCompletion o l.individuals (rows_of (Over o es)) x.tables
      by_names = of.named l.individuals (rows_of (Over o es)) (rows_stand o es is.rows)

      live_number : (r : Role) → IsLiveIn (Over o es) r → IsLiveRole o rows r
      live_number r live =
          let one : live.o ≡ o = let e : Some live.o ≡ Some o = sym live.base.ontology_is in cc in
          let same_rows : live.rows ≡ rows_of (Over o es) = rows_once (Over o es) live.rows (rows_of (Over o es)) live.base.rows_are (rows_are (Over o es)) in
          let here : IsLive o (rows_of (Over o es)) r = subst (λ (t : Terminology). IsLive t (rows_of (Over o es)) r) one (subst (λ (xs : List NamedRow). IsLive live.o xs r) same_rows live.live) in
          (of.tables.book.live r).0 ((by_names.live r).1 here)

      number_live : (r : Role) → IsLiveRole o rows r → IsLiveIn (Over o es) r
      number_live r live = record {
        o = o;
        rows = rows_of (Over o es);
        base = record { ontology_is = refl; rows_are = rows_are (Over o es) };
        live = (by_names.live r).0 ((of.tables.book.live r).1 live);
      }

    initial_empty : IsLoadedOf Empty l → (f : Option Reasoned) → found ≡ f → IsReasonedOf l.ontology rows f → IsInitial Empty (first Empty)
    initial_empty is None e of = record {
      history = refl;
      closed = λ k. refl;
      none_given = refl;
      live = λ r live. absurd (some_not_none live.o live.base.ontology_is);
      others = λ r not. ap (λ (y : Option Reasoned). generation_by y r) e;
    }
    initial_empty is (Some x) e of = absurd (some_not_none of.0 (sym is.ontology ∙ of.1))

    initial_over : (o : Terminology) (es : List (List NamedChange)) → IsLoadedOf (Over o es) l → (f : Option Reasoned) → found ≡ f → IsReasonedOf l.ontology rows f → IsInitial (Over o es) (first (Over o es))
    initial_over o es is None e of = absurd (some_not_none o (sym of ∙ is.ontology))
    initial_over o es is (Some x) e of =
        let one : of.0 ≡ o = let k : Some of.0 ≡ Some o = sym of.1 ∙ is.ontology in cc in
        let by : IsReasonerOf o rows x = subst (λ (t : Terminology). IsReasonerOf t rows x) one of.2 in
        record {
          history = refl;
          closed = λ k. refl;
          none_given = refl;
          live = λ r live. ap (λ (y : Option Reasoned). generation_by y r) e ∙ by.first.first r (live_number o es is x by r live);
          others = λ r not. ap (λ (y : Option Reasoned). generation_by y r) e ∙ by.first.others r (λ live. not (number_live o es is x by r live));
        }

    rows_first : (h : History) → IsLoadedOf h l → HasRowsOf made (first h)
    rows_first Empty is o these base = absurd (some_not_none o base.ontology_is)
    rows_first (Over p es) is o these base =
        let one : p ≡ o = let e : Some p ≡ Some o = base.ontology_is in cc in
        let same_rows : rows_of (Over p es) ≡ these = rows_once (Over p es) (rows_of (Over p es)) these (rows_are (Over p es)) base.rows_are in
        subst (λ (t : Terminology). StandFor t l.individuals rows these) one (subst (λ (xs : List NamedRow). StandFor p l.individuals rows xs) same_rows (rows_stand p es is.rows))

    initial_first : (h : History) → IsLoadedOf h l → IsInitial h (first h)
    initial_first Empty is = initial_empty is found refl reasoned
    initial_first (Over o es) is = initial_over o es is found refl reasoned

    ontology_first : (h : History) → IsLoadedOf h l → l.ontology ≡ ontology_of h
    ontology_first Empty is = is.ontology
    ontology_first (Over o es) is = is.ontology

    pub loaded_stands : StandsFromLoad store l made
    loaded_stands h is used_is count_is = (
      first h,
      initial_first h is,
      record {
        ontology_is = ontology_made found reasoned ∙ ontology_first h is;
        rows_are = rows_first h is;
        no_rows = λ none. none_made h is (ontology_first h is ∙ none);
        used_is = used_is;
        count_is = count_is;
        sessions_are = closed;
        handles_are = unused;
        generations_are = λ r. refl;
      },
    )

-- ---- what is made of an ontology

pub reasoner_of : {E : Type 0} (o : Terminology) (rows : List Row) (r : Result Reasoned E) → IfOk r (λ (x : Reasoned). x.ontology ≡ o) → IfOk r (λ (x : Reasoned). IsCompletionOf o rows x.tables)
    → IfOk r (λ (x : Reasoned). IsFirstBook o rows x.tables.book)
    → ((names : List (List ℕ)) (these : List NamedRow) → StandFor o names rows these → IfOk r (λ (x : Reasoned). IsNamedCompletion o names these x.tables)) → IfOk r (IsReasonerOf o rows)
reasoner_of o rows (Ok x) is tables first named = record { ontology_is = is; tables = tables; first = first; named = named }
reasoner_of o rows (Err e) is tables first named = tt
