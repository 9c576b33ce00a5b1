-- What an entry makes of what is kept.
use Rattle.std.proofs.Common.{◌≡◌, ◌≤◌, ◌+◌, ◌*◌, ℕ, Bool, true, false, List, [], ◌∷◌, ◌++◌, All, length, length-append, map, None, Some, refl, sym, ◌∙◌, ap, subst, arith}
use Rattle.std.specs.Prelude.{◌↔◌, IfOk, IsTrue, OnOk, MatchBool, Result, Ok, Err, sum_by}
use Rattle.std.proofs.lemmas.List.{length-map}
use Rattle.std.proofs.lemmas.List.Sums.{sum_by-append}
use Rattle.assert_tables.specs.Rows.{AreRisingRows}
use Rattle.dl_base.specs.Numbers.{IsNamedBy, StandFor}
use Rattle.dl_base.specs.Ontology.{Terminology, IsTerminology}
use Rattle.dl_base.specs.declared.row.NamedChange.{NamedChange}
use Rattle.dl_base.specs.declared.row.Row.{Row}
use Rattle.txn_codec.specs.Changes.{changes_payload}
use Rattle.txn_codec.specs.Fault.{NamesChangesFault}
use Rattle.txn_codec.specs.declared.fault.CodecError.{CodecError}
use Rattle.txn_codec.specs.declared.fault.CodecError.TheVariants.{Bad, NoMemory}
use Rattle.txn_codec.specs.OntologyPayload.{ontology_payload}
use Rattle.txn_codec.specs.Spelling.{changes_bytes, ontology_bytes}
use Rattle.grammar.specs.Grammar.{Contains}
use Rattle.base_store.specs.History.{History, Empty, Over, transaction_count, used}
use Rattle.base_store.specs.Legal.{Continues, IsNextTransaction}
use Rattle.base_store.specs.Loaded.{HasRows}
use Rattle.base_store.specs.Loading.{AreFew, FollowsChanges, FollowsNext, IsLoadingOf, KeepsNext, TakesPayload}
use Rattle.base_store.specs.declared.loading.Loading.{Loading}
use Rattle.base_store.proofs.AfterChanges.{changes_lead, transactions_more}
use Rattle.base_store.proofs.Bytes.{payload_size}
use Rattle.base_store.proofs.Counts.{few_uncrowded, many_crowded}
use Rattle.base_store.proofs.Told.{continues_used}
use Rattle.dl_base.proofs.PlaceLemmas.{some_same}

-- the rows behind one transaction more
pub has_next : (o : Terminology) (before : List (List NamedChange)) (cs : List NamedChange) (names more : List (List ℕ)) (rows new_rows : List Row)
    → FollowsChanges o cs names rows more new_rows → HasRows (Over o before) names rows → HasRows (Over o (before ++ cs ∷ [])) more new_rows
has_next o before cs names more rows new_rows follows has =
    let new = changes_lead has.0 cs in
    (new.0, transactions_more [] before cs has.0 new.0 has.1 new.1, follows has.0 new.0 has.2 new.1)

pub judged : (o : Terminology) (before : List (List NamedChange)) (cs : List NamedChange) (names : List (List ℕ)) (rows : List Row) (few : Bool)
    → IsTerminology o → AreRisingRows rows → length cs ≤ 10000 → All (λ c. IsNamedBy o c.row) cs → HasRows (Over o (before ++ cs ∷ [])) names rows
    → IsTrue few ↔ AreFew rows → MatchBool few (FollowsNext o before cs names rows) (IsNextTransaction o before cs → ⊥)
judged o before cs names rows true is rises short named has few = record {
  legal = record { few = short; named = named; fits = few_uncrowded (Over o (before ++ cs ∷ [])) names rows has (few.0 refl) };
  has = has;
  few = few.0 refl;
}
judged o before cs names rows false is rises short named has few =
    λ next. next.fits (many_crowded o (before ++ cs ∷ []) names rows is rises has (λ are. absurd (let e : false ≡ true = few.1 are in cc)))

-- the same where memory may have run out while the rows were counted
pub judged_unless : {E : Type 0} (o : Terminology) (before : List (List NamedChange)) (cs : List NamedChange) (names : List (List ℕ)) (rows same : List Row) (few : Result Bool E)
    → IsTerminology o → length cs ≤ 10000 → All (λ c. IsNamedBy o c.row) cs → HasRows (Over o (before ++ cs ∷ [])) names rows
    → IfOk few (λ b. IsTrue b ↔ AreFew rows) → OnOk few (same ≡ rows) → OnOk few (AreRisingRows same)
    → IfOk few (λ legal. MatchBool legal (FollowsNext o before cs names same) (IsNextTransaction o before cs → ⊥))
judged_unless o before cs names rows same (Err e) is short named has few stays rises = tt
judged_unless o before cs names rows same (Ok b) is short named has few stays rises =
    let P : List Row → Type 0 = λ xs. HasRows (Over o (before ++ cs ∷ [])) names xs × (IsTrue b ↔ AreFew xs) in
    let there : P same = subst P (sym stays) (has, few) in
    judged o before cs names same b is rises short named there.0 there.1

-- bytes that have a fault are the payload of no changes
pub no_changes : (payload : List ℕ) (error : CodecError) → NamesChangesFault payload error → (changes : List NamedChange) → changes_payload payload changes → ⊥
no_changes payload (Bad at) fault changes is = fault.outside (changes, is)
no_changes payload NoMemory fault changes is = fault

-- the one list of changes that the bytes are the payload of
pub taken_payload : {E : Type 0} (payload : List ℕ) (o : Terminology) (before : List (List NamedChange)) (cs : List NamedChange) (names more : List (List ℕ)) (rows : List Row) (result : Result Bool E)
    → changes_payload payload cs → ((others : List NamedChange) → changes_payload payload others → others ≡ cs)
    → IfOk result (λ legal. length more ≤ length names + 2 * length cs) → IfOk result (λ legal. MatchBool legal (FollowsNext o before cs more rows) (IsNextTransaction o before cs → ⊥))
    → IfOk result (λ legal. MatchBool legal (TakesPayload payload o before names more rows) ((changes : List NamedChange) → changes_payload payload changes → IsNextTransaction o before changes → ⊥))
taken_payload payload o before cs names more rows (Err e) is only few follows = tt
taken_payload payload o before cs names more rows (Ok true) is only few follows = record {
  changes = cs;
  is = is;
  follows = follows;
  few_names = omega (arith, few, payload_size payload cs is);
}
taken_payload payload o before cs names more rows (Ok false) is only few follows =
    λ changes said next. follows (subst (λ (xs : List NamedChange). IsNextTransaction o before xs) (only changes said) next)

-- ---- an entry

none_stand : (o : Terminology) (names : List (List ℕ)) (rows : List Row) → names ≡ [] → rows ≡ [] → StandFor o names rows []
none_stand o names rows no_names no_rows = record {
  distinct = λ i j d lt below. absurd (let e : length names ≡ 0 = ap length no_names in omega (arith, below, e));
  each = λ r c. absurd (omega (arith, c.1));
  only = λ n c. absurd (let e : length rows ≡ 0 = ap length no_rows in omega (arith, c.1, e));
}

-- an ontology where there is none
pub taken_ontology : (l : Loading) (h : History) (kind : ℕ) (payload : List ℕ) (o : Terminology) → IsLoadingOf l h → l.ontology ≡ None → kind ≡ 1 → ontology_payload payload o
    → KeepsNext h (record { kind = kind; payload = payload }) (record { ontology = Some o; individuals = l.individuals; rows = l.rows; transactions = l.transactions })
taken_ontology l Empty kind payload o keeps none first is = record {
  next = Over o [];
  leads = (first, (o, is, refl));
  keeps = record {
    ontology = refl;
    rows = ([], refl, none_stand o l.individuals l.rows keeps.rows.0 keeps.rows.1);
    few = keeps.few;
    few_names = let e : length l.individuals ≡ 0 = ap length keeps.rows.0 in omega (arith, e);
    transactions = keeps.transactions;
  };
}
taken_ontology l (Over p ts) kind payload o keeps none first is = absurd (let e : None ≡ Some p = sym none ∙ keeps.ontology in cc)

pub no_ontology : (l : Loading) (h : History) (kind : ℕ) (payload : List ℕ) → IsLoadingOf l h → l.ontology ≡ None → (Contains ontology_payload payload → ⊥)
    → (next : History) → Continues h (record { kind = kind; payload = payload }) next → ⊥
no_ontology l Empty kind payload keeps none outside next leads = outside (leads.1.0, leads.1.1)
no_ontology l (Over p ts) kind payload keeps none outside next leads = absurd (let e : None ≡ Some p = sym none ∙ keeps.ontology in cc)

-- a transaction behind an ontology
pub taken_transaction : (l : Loading) (h : History) (kind : ℕ) (payload : List ℕ) (o : Terminology) (more : List (List ℕ)) (rows : List Row) (legal : Bool) → IsLoadingOf l h → l.ontology ≡ Some o → kind ≡ 2
    → ((before : List (List NamedChange)) → HasRows (Over o before) l.individuals l.rows
    → MatchBool legal (TakesPayload payload o before l.individuals more rows) ((changes : List NamedChange) → changes_payload payload changes → IsNextTransaction o before changes → ⊥))
    → MatchBool legal (KeepsNext h (record { kind = kind; payload = payload }) (record { ontology = l.ontology; individuals = more; rows = rows; transactions = l.transactions + 1 }))
    ((next : History) → Continues h (record { kind = kind; payload = payload }) next → ⊥)
taken_transaction l Empty kind payload o more rows legal keeps there second takes = absurd (let e : None ≡ Some o = sym keeps.ontology ∙ there in cc)
taken_transaction l (Over p ts) kind payload o more rows true keeps there second takes =
    let same : o ≡ p = some_same (sym there ∙ keeps.ontology) in
    let t : TakesPayload payload p ts l.individuals more rows =
    subst (λ (q : Terminology). (before : List (List NamedChange)) → HasRows (Over q before) l.individuals l.rows → TakesPayload payload q before l.individuals more rows) same takes ts keeps.rows in
    let next : History = Over p (ts ++ t.changes ∷ []) in
    let leads : Continues (Over p ts) (record { kind = kind; payload = payload }) next = (second, (t.changes, t.is, t.follows.legal, refl)) in
    record {
      next = next;
      leads = leads;
      keeps = record {
        ontology = keeps.ontology;
        rows = t.follows.has;
        few = t.follows.few;
        few_names = omega (arith, t.few_names, keeps.few_names, continues_used (Over p ts) (record { kind = kind; payload = payload }) next leads);
        transactions = omega (arith, keeps.transactions, length-append ts (t.changes ∷ []));
      };
    }
taken_transaction l (Over p ts) kind payload o more rows false keeps there second takes =
    let same : o ≡ p = some_same (sym there ∙ keeps.ontology) in
    let none : (changes : List NamedChange) → changes_payload payload changes → IsNextTransaction p ts changes → ⊥ =
    subst (λ (q : Terminology). (before : List (List NamedChange)) → HasRows (Over q before) l.individuals l.rows → (changes : List NamedChange) → changes_payload payload changes → IsNextTransaction q before changes → ⊥) same takes ts keeps.rows in
    λ next leads. none leads.1.0 leads.1.1 leads.1.2

-- each entry takes a byte at least
least : (ps : List (List ℕ)) → length ps ≤ sum_by (λ payload. 6 + length payload) ps
least [] = omega arith
least (p ∷ ps) =
    let both : sum_by (λ payload. 6 + length payload) (p ∷ ps) ≡ (0 + (6 + length p)) + sum_by (λ payload. 6 + length payload) ps = sum_by-append (λ payload. 6 + length payload) (p ∷ []) ps in
    omega (arith, least ps, both)

pub count_within : (h : History) → transaction_count h ≤ used h
count_within Empty = omega arith
count_within (Over o ts) = omega (arith, least (ontology_bytes o ∷ map changes_bytes ts), length-map ts changes_bytes)
