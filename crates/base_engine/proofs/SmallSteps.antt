-- Small steps.
use Rattle.std.proofs.Common.{◌≡◌, ◌==◌, ℕ, zero, suc, ◌≤◌, Bool, true, false, List, [], ◌∷◌, ◌++◌, length, codes, All, Option, Some, None, slice_get, refl, sym, ap, subst, arith, if◌then◌else◌}
use Rattle.std.proofs.lemmas.List.Elements.{All-cons, All-nil}
use Rattle.dl_base.specs.Clashes.{IsFirstClash}
use Rattle.dl_base.specs.Completion.{IsLive}
use Rattle.dl_base.specs.Derivation.{Derives, leaf, node, inverse}
use Rattle.dl_base.specs.Laws.{a_and_b, ann_is_a_professor, clashing, first_of_all, staff, who_is_staff}
use Rattle.dl_base.specs.Ontology.{Terminology}
use Rattle.dl_base.specs.declared.concept.Basic.{Basic}
use Rattle.dl_base.specs.declared.concept.Basic.TheVariants as basic
use Rattle.dl_base.specs.declared.concept.Head.TheVariants as head
use Rattle.dl_base.specs.declared.concept.Inclusion.{Inclusion}
use Rattle.dl_base.specs.declared.concept.Role.{Role}
use Rattle.dl_base.specs.declared.query.Atom.TheVariants as atom
use Rattle.dl_base.specs.declared.query.Term.TheVariants as term
use Rattle.dl_base.specs.declared.row.NamedRow.{NamedRow}
use Rattle.dl_base.specs.declared.row.NamedChange.{NamedChange}
use Rattle.dl_base.proofs.ClashExamples.{clashes_in_order}
use Rattle.dl_base.proofs.Examples.{ann_is_staff, only_item}
use Rattle.query_shape.specs.ShapeFault.{IsKnown}
use Rattle.base_store.specs.Area.{area_limit}
use Rattle.base_store.specs.History.{History, Empty, Over, used, with_transaction, ontology_of}
use Rattle.dl_base.specs.Numbers.{IsNamedBy}
use Rattle.reply_text.specs.declared.reply.Reply.{Reply}
use Rattle.reply_text.specs.declared.reply.Reply.TheVariants as reply
use Rattle.script_reader.specs.declared.command.Command.TheVariants as command
use Rattle.script_reader.specs.declared.request.Request.{Request}
use Rattle.script_reader.specs.declared.request.Request.TheVariants as request
use Rattle.base_engine.specs.State.{IsBase, IsLiveIn, Raises, MachineState, put_session}
use Rattle.base_engine.specs.Refusals.{AppendsChange}
use Rattle.base_engine.specs.Requests.{commit_of}
use Rattle.base_engine.specs.Steps.{Counts, Does, IsReplyIn, StepsTo}
use Rattle.base_engine.specs.StepExamples
use Rattle.base_engine.specs.StepExamples.{ann, adds, bare_base, both_open, contradicted, deletes, first_open, first_told, no_handle, no_session, resting, with_ann, working}
use Rattle.base_engine.proofs.RefusalTable.{abort_refusals, ask_refusals, begin_refusals, block_refusals, of_appending, commit_refusals, others_accepted}
use Rattle.base_engine.proofs.RowsThere.{counts_are, fits, names_of, rows_are, rows_of}

-- ---- no role is live about staff

-- no inclusion about staff gives a successor
no_successor : (held : Basic → Type 0) (r : Role) → Derives staff.inclusions held (basic.Exists r) → held (basic.Exists r)
no_successor held r (leaf has) = has
no_successor held r (node i there is body) =
    absurd (let e : i ≡ record { body = basic.Concept 0 ∷ []; head = head.Basic (basic.Concept 1) } = only_item _ i there in
    let f : i.head ≡ head.Basic (basic.Concept 1) = ap (λ (j : Inclusion). j.head) e in cc)

none_live : (rows : List NamedRow) (r : Role) → IsLive staff rows r → ⊥
none_live rows r (IsLive.first a points) = (let h = no_successor _ r points.derived in points.no_row h.0 h.1)
none_live rows r (IsLive.next {s = s} live points) = points.not_back (let e : basic.Exists r ≡ basic.Exists (inverse s) = no_successor _ r points.derived in cc)

not_live : (es : List (List NamedChange)) (r : Role) → IsLiveIn (Over staff es) r → ⊥
not_live es r live = none_live live.rows r (subst (λ (o : Terminology). IsLive o live.rows r) (let e : Some live.o ≡ Some staff = sym live.base.ontology_is in cc) live.live)

same_generations : (before after : List (List NamedChange)) (generation : Role → ℕ) → Raises (Over staff before) (Over staff after) generation generation
same_generations before after generation = record { raised = λ r becomes. absurd (not_live after r becomes.now); kept = λ r not. refl }

-- ---- states

closed_again : (changes : List NamedChange) (n : ℕ) → (if n == 0 then None else first_open changes n) ≡ None
closed_again changes n = by (n == 0)
  where
    by : (b : Bool) → (if b then None else (if b then Some changes else None)) ≡ None
    by true = refl
    by false = refl

closes : (h : History) (changes : List NamedChange) (generation : Role → ℕ) → put_session 0 None (working h changes generation) ≡ resting h generation
closes h changes generation = λ i. record { history = h; session = λ n. closed_again changes n i; handles = no_handle; generation = generation }

-- ---- commits

-- a commit that is small enough
module _ (before after : List (List NamedChange)) (changes : List NamedChange) (generation : Role → ℕ)
    (next : with_transaction changes (Over staff before) ≡ Over staff after)
    (rows : length (rows_of (with_transaction changes (Over staff before))) ≤ 1000000) (names : length (names_of (rows_of (with_transaction changes (Over staff before)))) ≤ 65536)
    (room : used (with_transaction changes (Over staff before)) ≤ area_limit)
    (session : ℕ → Option (List NamedChange)) (k : ℕ) (are : session k ≡ Some changes) where
  pub commits : (rest : ℕ → Option (List NamedChange)) → ((n : ℕ) → (if n == k then None else session n) ≡ rest n)
      → (number added removed : ℕ) → number ≡ length after → Counts (Over staff before) (Over staff after) added removed
      → StepsTo (record { history = Over staff before; session = session; handles = no_handle; generation = generation }) (commit_of k) (reply.Committed number added removed)
      (record { history = Over staff after; session = rest; handles = no_handle; generation = generation })
  commits rest left number added removed counted counts =
      StepsTo.done ((commit_refusals (record { history = Over staff before; session = session; handles = no_handle; generation = generation }) k staff refl).3 changes are
      (fits (with_transaction changes (Over staff before)) rows names) room)
      (Does.commit (record {
        changes = changes;
        were = are;
        generation = generation;
        raises = same_generations before (before ++ changes ∷ []) generation;
        state = λ i. record { history = sym next i; session = λ n. sym (left n) i; handles = no_handle; generation = generation };
        number_is = counted;
        counts = counts;
      }))

-- by numbers that are computed
abbrev CommitReplies : List (List NamedChange) → List NamedChange → List (List NamedChange) → Reply → Type 0
CommitReplies = StepExamples.CommitReplies

first_commits : (before after : List (List NamedChange)) (changes : List NamedChange) (number added removed : ℕ) → with_transaction changes (Over staff before) ≡ Over staff after
    → length (rows_of (with_transaction changes (Over staff before))) ≤ 1000000 → length (names_of (rows_of (with_transaction changes (Over staff before)))) ≤ 65536
    → used (with_transaction changes (Over staff before)) ≤ area_limit → number ≡ length after → Counts (Over staff before) (Over staff after) added removed
    → CommitReplies before changes after (reply.Committed number added removed)
first_commits before after changes number added removed next rows names room counted counts generation =
    commits before after changes generation next rows names room (first_open changes) 0 refl no_session (closed_again changes) number added removed counted counts

pub commit_adds : StepExamples.CommitAdds
commit_adds = first_commits [] ((adds ann ∷ []) ∷ []) (adds ann ∷ []) 1 1 0 refl (omega arith) (omega arith) (omega arith) refl (counts_are bare_base with_ann)

pub commit_removes : StepExamples.CommitRemoves
commit_removes = first_commits ((adds ann ∷ []) ∷ []) ((adds ann ∷ []) ∷ (deletes ann ∷ []) ∷ []) (deletes ann ∷ []) 2 0 1 refl (omega arith) (omega arith) (omega arith) refl
    (counts_are with_ann (Over staff ((adds ann ∷ []) ∷ (deletes ann ∷ []) ∷ [])))

pub commit_of_nothing : StepExamples.CommitOfNothing
commit_of_nothing = first_commits [] ([] ∷ []) [] 1 0 0 refl (omega arith) (omega arith) (omega arith) refl (counts_are bare_base (Over staff ([] ∷ [])))

pub commit_adds_again : StepExamples.CommitAddsAgain
commit_adds_again = first_commits ((adds ann ∷ []) ∷ []) ((adds ann ∷ []) ∷ (adds ann ∷ []) ∷ []) (adds ann ∷ []) 2 0 0 refl (omega arith) (omega arith) (omega arith) refl
    (counts_are with_ann (Over staff ((adds ann ∷ []) ∷ (adds ann ∷ []) ∷ [])))

pub commit_removes_absent : StepExamples.CommitRemovesAbsent
commit_removes_absent = first_commits [] ((deletes ann ∷ []) ∷ []) (deletes ann ∷ []) 1 0 0 refl (omega arith) (omega arith) (omega arith) refl (counts_are bare_base (Over staff ((deletes ann ∷ []) ∷ [])))

pub add_then_delete : StepExamples.AddThenDelete
add_then_delete = first_commits [] ((adds ann ∷ deletes ann ∷ []) ∷ []) (adds ann ∷ deletes ann ∷ []) 1 0 0 refl (omega arith) (omega arith) (omega arith) refl
    (counts_are bare_base (Over staff ((adds ann ∷ deletes ann ∷ []) ∷ [])))

pub delete_then_add : StepExamples.DeleteThenAdd
delete_then_add = first_commits [] ((deletes ann ∷ adds ann ∷ []) ∷ []) (deletes ann ∷ adds ann ∷ []) 1 1 0 refl (omega arith) (omega arith) (omega arith) refl
    (counts_are bare_base (Over staff ((deletes ann ∷ adds ann ∷ []) ∷ [])))

-- ---- two sessions

second_left : ℕ → Option (List NamedChange)
second_left n = if n == 0 then None else both_open (adds ann ∷ []) n

none_left : (n : ℕ) → (if n == 1 then None else second_left n) ≡ no_session n
unfolding second_left
none_left n = by (n == 1) (n == 0)
  where
    by : (b c : Bool) → (if b then None else (if c then None else (if c then Some (adds ann ∷ []) else if b then Some (adds ann ∷ []) else None))) ≡ None
    by true c = refl
    by false true = refl
    by false false = refl

pub two_sessions : StepExamples.TwoSessions
unfolding second_left
two_sessions generation = (
  record { history = with_ann; session = second_left; handles = no_handle; generation = generation },
  commits [] ((adds ann ∷ []) ∷ []) (adds ann ∷ []) generation refl (omega arith) (omega arith) (omega arith) (both_open (adds ann ∷ [])) 0 refl second_left (λ n. refl) 1 1 0 refl (counts_are bare_base with_ann),
  (
    resting (Over staff ((adds ann ∷ []) ∷ (adds ann ∷ []) ∷ [])) generation,
    commits ((adds ann ∷ []) ∷ []) ((adds ann ∷ []) ∷ (adds ann ∷ []) ∷ []) (adds ann ∷ []) generation refl (omega arith) (omega arith) (omega arith) second_left 1 refl no_session none_left 2 0 0 refl
        (counts_are with_ann (Over staff ((adds ann ∷ []) ∷ (adds ann ∷ []) ∷ []))),
    (refl, refl),
  ),
)

-- ---- what is quiet

pub block_loads : StepExamples.BlockLoads
block_loads generation = StepsTo.done ((block_refusals (resting Empty generation)).3 staff refl (omega arith)) Does.block

-- what is written last into a session is what it has
written_twice : (one two : Option (List NamedChange)) (rest : ℕ → Option (List NamedChange)) (n : ℕ) → (if n == 0 then two else if n == 0 then one else rest n) ≡ (if n == 0 then two else rest n)
written_twice one two rest n = by (n == 0)
  where
    by : (b : Bool) → (if b then two else if b then one else rest n) ≡ (if b then two else rest n)
    by true = refl
    by false = refl

rewritten : (h : History) (one two : List NamedChange) (generation : Role → ℕ) → put_session 0 (Some two) (working h one generation) ≡ working h two generation
rewritten h one two generation = λ i. record { history = h; session = λ n. written_twice (Some one) (Some two) no_session n i; handles = no_handle; generation = generation }

ends_in : (s : MachineState) (q : Request) (r : Reply) (t u : MachineState) → t ≡ u → StepsTo s q r t → StepsTo s q r u
ends_in s q r t u same step = subst (StepsTo s q r) same step

named_staff : IsNamedBy staff ann
named_staff = (0, omega arith, refl)

pub session_takes_changes : StepExamples.SessionTakesChanges
session_takes_changes generation = (
  working bare_base [] generation,
  StepsTo.done ((begin_refusals (resting bare_base generation) 0 staff refl).1 refl) Does.begin,
  (
    working bare_base (adds ann ∷ []) generation,
    ends_in (working bare_base [] generation) (request.Plain (command.Add 0 ann)) reply.Done _ _ (rewritten bare_base [] (adds ann ∷ []) generation)
        (StepsTo.done ((of_appending (working bare_base [] generation) (command.Add 0 ann) 0 ann staff AppendsChange.add refl).3 [] refl named_staff (omega arith)) (Does.add [] refl)),
    (
      working bare_base (adds ann ∷ deletes ann ∷ []) generation,
      ends_in (working bare_base (adds ann ∷ []) generation) (request.Plain (command.Del 0 ann)) reply.Done _ _ (rewritten bare_base (adds ann ∷ []) (adds ann ∷ deletes ann ∷ []) generation)
          (StepsTo.done ((of_appending (working bare_base (adds ann ∷ []) generation) (command.Del 0 ann) 0 ann staff AppendsChange.del refl).3 (adds ann ∷ []) refl named_staff (omega arith)) (Does.del (adds ann ∷ []) refl)),
      (refl, refl),
    ),
  ),
)

pub abort_forgets : StepExamples.AbortForgets
abort_forgets changes generation =
    ends_in (working bare_base changes generation) (request.Plain (command.Abort 0)) reply.Done _ _ (closes bare_base changes generation)
    (StepsTo.done ((abort_refusals (working bare_base changes generation) 0 staff refl).1 changes refl) Does.abort)

pub tidy_keeps : StepExamples.TidyKeeps
tidy_keeps s = StepsTo.done (others_accepted s).2 Does.tidy

pub reopen_closes_sessions : StepExamples.ReopenClosesSessions
reopen_closes_sessions s t o k initial has =
    (StepsTo.done (others_accepted s).3 (Does.reopen initial), (commit_refusals t k o (subst (λ (h : History). ontology_of h ≡ Some o) (sym initial.history) has)).0 (initial.closed k))

-- ---- questions

base_with_ann : IsBase with_ann staff ann_is_a_professor
base_with_ann = record { ontology_is = refl; rows_are = rows_are with_ann }

-- staff have no inclusion to nothing
no_clash : IsFirstClash staff ann_is_a_professor None
no_clash c clash = by clash.violates.before clash.violates.inclusion clash.violates.at clash.violates.nothing
  where
    by : (n : ℕ) (i : Inclusion) → slice_get staff.inclusions n ≡ Some i → i.head ≡ head.Nothing → ⊥
    by zero i at nothing =
        let same : record { body = basic.Concept 0 ∷ []; head = head.Basic (basic.Concept 1) } ≡ i = cc in
        let h : head.Basic (basic.Concept 1) ≡ i.head = ap (λ (j : Inclusion). j.head) same in cc
    by (suc n) i at nothing = let e : None ≡ Some i = at in cc

pub known_staff : All (IsKnown staff) who_is_staff.atoms
known_staff = All-cons (IsKnown staff) (atom.Concept (codes "Staff") (term.Var (codes "x"))) [] (1, omega arith, refl) (All-nil (IsKnown staff))

pub staff_are_answered : {s : MachineState} → s.history ≡ with_ann → IsReplyIn s who_is_staff (reply.Answers ((codes "ann" ∷ []) ∷ []))
staff_are_answered e = IsReplyIn.answered staff ann_is_a_professor (subst (λ (h : History). IsBase h staff ann_is_a_professor) (sym e) base_with_ann) (no_clash, ann_is_staff)

pub ask_answers : StepExamples.AskAnswers
ask_answers generation =
    StepsTo.done ((ask_refusals (resting with_ann generation) who_is_staff staff refl).2 known_staff) (Does.ask (staff_are_answered refl))

pub check_finds_none : StepExamples.CheckFindsNone
check_finds_none generation = StepsTo.done ((others_accepted (resting with_ann generation)).0 staff refl) (Does.consistent staff ann_is_a_professor base_with_ann no_clash)

contradicted_base : IsBase contradicted clashing a_and_b
contradicted_base = record { ontology_is = refl; rows_are = rows_are contradicted }

pub check_tells_first : StepExamples.CheckTellsFirst
check_tells_first generation = StepsTo.done ((others_accepted (resting contradicted generation)).0 clashing refl)
    (Does.inconsistent clashing a_and_b first_of_all contradicted_base clashes_in_order
    (record { name = refl; path = (record { name = refl; inverse = refl }, (record { name = refl; inverse = refl }, tt)); inclusion = refl }))

pub ask_tells_clash : StepExamples.AskTellsClash
ask_tells_clash generation q known = StepsTo.done ((ask_refusals (resting contradicted generation) q clashing refl).2 known)
    (Does.ask (IsReplyIn.clashes clashing a_and_b first_of_all contradicted_base clashes_in_order
    (record { name = refl; path = (record { name = refl; inverse = refl }, (record { name = refl; inverse = refl }, tt)); inclusion = refl })))
