-- Whether a line offends, and by which reason first.
use Rattle.std.proofs.Common.{◌≡◌, ◌≢◌, ℕ, ◌+◌, ◌<◌, ◌≤◌, ◌⊎◌, inl, inr, List, [], ◌∷◌, ◌++◌, length, All, Contains, refl, sym, ap, subst, arith, append_assoc}
use Rattle.std.specs.Prelude.{is_some}
use Rattle.std.specs.List.{flat_map}
use Rattle.std.proofs.lemmas.Bool.{cases_lt}
use Rattle.std.proofs.lemmas.List.{append-nil}
use Rattle.std.proofs.lemmas.List.Elements.{All-nil, All-cons, All-contains, Contains-append_right}
use Rattle.dl_base.specs.Axiom.{Statement}
use Rattle.dl_base.specs.Query.{Question, terms}
use Rattle.dl_base.specs.Rows.{name_cmp, row_cmp, AreRowsOf, AreIndividuals, Names}
use Rattle.dl_base.specs.declared.axiom.NamedInclusion.{NamedInclusion}
use Rattle.dl_base.specs.declared.row.NamedRow.{NamedRow}
use Rattle.dl_base.specs.declared.row.NamedRow.TheVariants as row
use Rattle.dl_base.specs.declared.query.Term.{Term}
use Rattle.dl_base.specs.declared.query.Term.TheVariants as term
use Rattle.dl_base.specs.declared.query.Atom.{Atom}
use Rattle.dl_base.specs.declared.query.Atom.TheVariants as atom
use Rattle.dl_base.proofs.IndividualLemmas.{individuals as individuals_of, individuals_are, individuals_once}
use Rattle.dl_base.proofs.InOrder.{in_order, in_order_rises, from_order, into_order}
use Rattle.dl_base.proofs.PlaceLemmas.{flat_part, flat_there}
use Rattle.dl_base.proofs.RisingLemmas.{contains_cases, contains_first, contains_later, same_rising}
use Rattle.dl_base.proofs.RowLemmas.{name_total, name_same, row_total, row_same, rows_once}
use Rattle.cq_reader.specs.QueryLimits.{AreDistinctOf, IsTooLarge, IsFirstUnbound, IsBoundVariable}
use Rattle.cq_reader.proofs.LimitRules.{distinct_none, distinct_known, distinct_added, too_large_of, small_of}
use Rattle.cq_reader.proofs.TermCounts.{small_not_too_large}
use Rattle.query_shape.specs.ShapeFault.{IsKnown}
use Rattle.query_shape.proofs.MatchList.{Decided, decide_test, decide_as, decide_same, decide_member}
use Rattle.script_reader.specs.DocLines.{IsDocLine}
use Rattle.script_reader.specs.declared.doc_line.DocLine.{DocLine}
use Rattle.script_reader.specs.declared.doc_line.DocLine.TheVariants as line
use Rattle.script_reader.proofs.LineDecisions.{decided_line}
use Rattle.document_run.specs.Document.{Context, concept_names, role_names, inclusions_in, IsOutOfOrder, TooManyAxioms, PassesLimit, AsksTooMuch, IsUnsafe, vocabulary, IsFirstUnknown, NamesUnknownConcept, NamesUnknownRole, TooManyFacts, MakesTooMany, rank_of, Offends, Accepts}
use Rattle.dl_base.specs.Numbers.{names_in}
use Rattle.document_run.specs.declared.reason.Reason.{Reason}
use Rattle.document_run.specs.declared.reason.Reason.TheVariants as reason
use Rattle.document_run.proofs.FactLemmas.{rows_in_order}
use Rattle.document_run.proofs.QueryLemmas.{not_both_first}
use Rattle.document_run.proofs.ReasonLemmas.{NoneBelow, none_first, none_next, few_ranks, HoldsFor, holds_for, offends_by, offends_long, offends_syntax}

-- ---- facts of any kind

never : Decided ⊥
never = inr (λ no. no)

decide_either : {P Q : Type 0} → Decided P → Decided Q → Decided (P ⊎ Q)
decide_either (inl p) d = inl (inl p)
decide_either (inr no_p) (inl q) = inl (inr q)
decide_either {P} {Q} (inr no_p) (inr no_q) = inr none
  where
    none : P ⊎ Q → ⊥
    none (inl p) = no_p p
    none (inr q) = no_q q

decide_not : {P : Type 0} → Decided P → Decided (P → ⊥)
decide_not (inl p) = inr (λ no_p. no_p p)
decide_not (inr no_p) = inl no_p

decide_below : (m n : ℕ) → Decided (m < n)
decide_below m n = elim (cases_lt m n) [ inl below ↦ inl below | inr least ↦ inr (λ below. omega (arith, least, below)) ]

-- some member is so, or none is
module _ {X : Type 0} (P : X → Type 0) (decide : (x : X) → Decided (P x)) where
  decide_some : (xs : List X) → Decided ((x : X) × Contains xs x × P x)
  decide_some [] = inr (λ found. let c = found.1 in omega (arith, c.1))
  decide_some (y ∷ ys) = by (decide y) (decide_some ys)
    where
      none : (P y → ⊥) → ((x : X) × Contains ys x × P x → ⊥) → (x : X) → P x → (x ≡ y) ⊎ Contains ys x → ⊥
      none not later x p (inl same) = not (subst P same p)
      none not later x p (inr there) = later (x, there, p)

      by : Decided (P y) → Decided ((x : X) × Contains ys x × P x) → Decided ((x : X) × Contains (y ∷ ys) x × P x)
      by (inl p) later = inl (y, contains_first y ys, p)
      by (inr not) (inl found) = inl (found.0, contains_later y ys found.0 found.1, found.2)
      by (inr not) (inr later) = inr (λ found. none not later found.0 found.2 (contains_cases y ys found.0 found.1))

  -- the first member that isn't so
  record FirstNot (xs : List X) (x : X) : Type 0 where
    front : List X
    more : List X
    parts : xs ≡ front ++ x ∷ more
    all : All P front
    not : P x → ⊥

  first_not : (xs : List X) → ((x : X) × FirstNot xs x) ⊎ All P xs
  first_not [] = inr (All-nil P)
  first_not (y ∷ ys) = by (decide y) (first_not ys)
    where
      by : Decided (P y) → ((x : X) × FirstNot ys x) ⊎ All P ys → ((x : X) × FirstNot (y ∷ ys) x) ⊎ All P (y ∷ ys)
      by (inr not) later = inl (y, record { front = []; more = ys; parts = refl; all = All-nil P; not = not })
      by (inl p) (inl found) =
          let f = found.1 in
          inl (found.0, record { front = y ∷ f.front; more = f.more; parts = ap (λ l. y ∷ l) f.parts; all = All-cons P y f.front p f.all; not = f.not })
      by (inl p) (inr all) = inr (All-cons P y ys p all)

  none_not : (xs : List X) → All P xs → (x : X) → FirstNot xs x → ⊥
  none_not xs all x f = f.not (All-contains P xs x all (subst (λ (l : List X). Contains l x) (sym f.parts) (Contains-append_right f.front (x ∷ f.more) x (contains_first x f.more))))

decide_name : (a b : List ℕ) → Decided (a ≡ b)
decide_name = decide_same name_cmp name_total name_same

decide_named : (names : List (List ℕ)) (name : List ℕ) → Decided (Contains names name)
decide_named = decide_member decide_name

-- ---- queries

decide_term : (t u : Term) → Decided (t ≡ u)
decide_term (term.Var v) (term.Var w) = decide_as (ap term.Var) parts (decide_name v w)
  where
    parts : term.Var v ≡ term.Var w → v ≡ w
    parts same = cc
decide_term (term.Named a) (term.Named b) = decide_as (ap term.Named) parts (decide_name a b)
  where
    parts : term.Named a ≡ term.Named b → a ≡ b
    parts same = cc
decide_term (term.Var v) (term.Named b) = inr (λ same. cc)
decide_term (term.Named a) (term.Var w) = inr (λ same. cc)

-- some terms are the distinct ones of these
abbrev HaveDistinct : List Term → Type 0
HaveDistinct all = (found : List Term) × AreDistinctOf all found

distinct_more : (all found more : List Term) → AreDistinctOf all found → HaveDistinct (all ++ more)
distinct_more all found [] are = (found, subst (λ (l : List Term). AreDistinctOf l found) (sym (append-nil all)) are)
distinct_more all found (t ∷ more) are =
    by (decide_member decide_term found t)
    (λ there. distinct_more (all ++ t ∷ []) found more (distinct_known all found t there are))
    (λ absent. distinct_more (all ++ t ∷ []) (found ++ t ∷ []) more (distinct_added all found t absent are))
  where
    joined : HaveDistinct ((all ++ t ∷ []) ++ more) → HaveDistinct (all ++ t ∷ more)
    joined = subst HaveDistinct (append_assoc all (t ∷ []) more)

    by : Decided (Contains found t) → (Contains found t → HaveDistinct ((all ++ t ∷ []) ++ more)) → ((Contains found t → ⊥) → HaveDistinct ((all ++ t ∷ []) ++ more)) → HaveDistinct (all ++ t ∷ more)
    by (inl there) known added = joined (known there)
    by (inr absent) known added = joined (added absent)

decide_large : (q : Question) → Decided (IsTooLarge q)
decide_large q =
    let each = distinct_more [] [] (terms q) distinct_none in
    by each.0 each.1 (cases_lt 24 (length q.atoms)) (cases_lt 24 (length q.answers)) (cases_lt 24 (length each.0))
  where
    by : (found : List Term) → AreDistinctOf (terms q) found → (24 < length q.atoms) ⊎ (length q.atoms ≤ 24) → (24 < length q.answers) ⊎ (length q.answers ≤ 24)
        → (24 < length found) ⊎ (length found ≤ 24) → Decided (IsTooLarge q)
    by found are (inl atoms) answers count = inl (inl atoms)
    by found are (inr atoms) (inl answers) count = inl (inr (inl answers))
    by found are (inr atoms) (inr answers) (inl more) = inl (too_large_of q found are more)
    by found are (inr atoms) (inr answers) (inr few) = inr (small_not_too_large q (small_of q found are atoms answers few))

module _ (q : Question) where
  decide_bound : (v : List ℕ) → Decided (IsBoundVariable q v)
  decide_bound v = decide_member decide_term (terms q) (term.Var v)

  decide_unsafe : Decided ((v : List ℕ) × IsFirstUnbound q v)
  decide_unsafe = by (first_not (IsBoundVariable q) decide_bound q.answers)
    where
      by : ((v : List ℕ) × FirstNot (IsBoundVariable q) decide_bound q.answers v) ⊎ All (IsBoundVariable q) q.answers → Decided ((v : List ℕ) × IsFirstUnbound q v)
      by (inl found) = let f = found.1 in inl (found.0, record { before = f.front; after = f.more; parts = f.parts; bound = f.all; here = f.not })
      by (inr all) = inr (λ found. let f = found.1 in none_not (IsBoundVariable q) decide_bound q.answers all found.0 (record { front = f.before; more = f.after; parts = f.parts; all = f.bound; not = f.here }))

module _ (axioms : List Statement) (q : Question) where
  decide_known : (a : Atom) → Decided (IsKnown (vocabulary axioms) a)
  decide_known (atom.Concept name t) = decide_named (concept_names axioms) name
  decide_known (atom.Role name t u) = decide_named (role_names axioms) name

  -- an atom is the first unknown one, or none is
  abbrev FirstUnknown : Type 0
  FirstUnknown = ((a : Atom) × IsFirstUnknown axioms q a) ⊎ ((a : Atom) → IsFirstUnknown axioms q a → ⊥)

  first_unknown : FirstUnknown
  first_unknown = by (first_not (IsKnown (vocabulary axioms)) decide_known q.atoms)
    where
      by : ((a : Atom) × FirstNot (IsKnown (vocabulary axioms)) decide_known q.atoms a) ⊎ All (IsKnown (vocabulary axioms)) q.atoms → FirstUnknown
      by (inl found) = let f = found.1 in inl (found.0, record { front = f.front; more = f.more; parts = f.parts; known = f.all; unknown = f.not })
      by (inr all) = inr (λ a f. none_not (IsKnown (vocabulary axioms)) decide_known q.atoms all a (record { front = f.front; more = f.more; parts = f.parts; all = f.known; not = f.unknown }))

  decide_concept : Decided ((name : List ℕ) × (t : Term) × IsFirstUnknown axioms q (atom.Concept name t))
  decide_concept = by first_unknown
    where
      by : FirstUnknown → Decided ((name : List ℕ) × (t : Term) × IsFirstUnknown axioms q (atom.Concept name t))
      by (inl (atom.Concept n t, f)) = inl (n, t, f)
      by (inl (atom.Role m s u, f)) = inr (λ found. not_both_first axioms q found.0 m found.1 s u found.2 f)
      by (inr none) = inr (λ found. none (atom.Concept found.0 found.1) found.2)

  decide_role : Decided ((name : List ℕ) × (t : Term) × (u : Term) × IsFirstUnknown axioms q (atom.Role name t u))
  decide_role = by first_unknown
    where
      by : FirstUnknown → Decided ((name : List ℕ) × (t : Term) × (u : Term) × IsFirstUnknown axioms q (atom.Role name t u))
      by (inl (atom.Concept n t, f)) = inr (λ found. not_both_first axioms q n found.0 t found.1 found.2 f found.3)
      by (inl (atom.Role m s u, f)) = inl (m, s, u, f)
      by (inr none) = inr (λ found. none (atom.Role found.0 found.1 found.2) found.3)

-- ---- facts of a document

module _ (facts : List NamedRow) where
  few_facts : (rows : List NamedRow) (names : List (List ℕ)) → AreRowsOf facts rows → AreIndividuals facts names → length rows ≤ 1000000 → length names ≤ 65536 → TooManyFacts facts → ⊥
  few_facts rows names are individuals few_rows few_names (inl (some, is, many)) =
      let same : length some ≡ length rows = ap (λ (l : List NamedRow). length l) (rows_once facts some rows is are) in
      omega (arith, same, few_rows, many)
  few_facts rows names are individuals few_rows few_names (inr (some, is, many)) =
      let same : length some ≡ length names = ap (λ (l : List (List ℕ)). length l) (individuals_once facts some names is individuals) in
      omega (arith, same, few_names, many)

  decide_facts : Decided (TooManyFacts facts)
  decide_facts =
      by (in_order row_cmp row_total row_same facts) (individuals_of facts) (rows_in_order facts) (individuals_are facts)
    where
      by : (rows : List NamedRow) (names : List (List ℕ)) → AreRowsOf facts rows → AreIndividuals facts names → Decided (TooManyFacts facts)
      by rows names are individuals = elim (cases_lt 1000000 (length rows)) [
        | inl many ↦ inl (inl (rows, are, many))
        | inr few_rows ↦ elim (cases_lt 65536 (length names)) [
          | inl many ↦ inl (inr (names, individuals, many))
          | inr few_names ↦ inr (few_facts rows names are individuals few_rows few_names)
        ]
      ]

-- ---- the reasons

decide_filled : {X : Type 0} (xs : List X) → Decided (xs ≢ [])
decide_filled [] = inr (λ some. some refl)
decide_filled (x ∷ xs) = inl (λ none. absurd cc)

decide_order : (before : Context) (d : DocLine) → Decided (IsOutOfOrder before d)
decide_order before line.Blank = never
decide_order before (line.Axiom a) = decide_either (decide_filled before.facts) (decide_test (is_some before.query))
decide_order before (line.Fact r) = decide_test (is_some before.query)
decide_order before (line.Ask q) = decide_test (is_some before.query)

decide_axioms : (axioms : List Statement) → Decided (TooManyAxioms axioms)
decide_axioms axioms =
    decide_either (decide_some (λ (i : NamedInclusion). 8 < length i.body) (λ i. decide_below 8 (length i.body)) (inclusions_in axioms))
    (decide_either (decide_below 512 (length (concept_names axioms)))
    (decide_either (decide_below 256 (length (role_names axioms))) (decide_below 4096 (length (inclusions_in axioms)))))

decide_limit : (before : Context) (d : DocLine) → Decided (PassesLimit before d)
decide_limit before line.Blank = never
decide_limit before (line.Axiom a) = decide_axioms (before.axioms ++ a ∷ [])
decide_limit before (line.Fact r) = never
decide_limit before (line.Ask q) = never

decide_asks : (d : DocLine) → Decided (AsksTooMuch d)
decide_asks line.Blank = never
decide_asks (line.Axiom a) = never
decide_asks (line.Fact r) = never
decide_asks (line.Ask q) = decide_large q

decide_safe : (d : DocLine) → Decided (IsUnsafe d)
decide_safe line.Blank = never
decide_safe (line.Axiom a) = never
decide_safe (line.Fact r) = never
decide_safe (line.Ask q) = decide_unsafe q

decide_concepts : (before : Context) (d : DocLine) → Decided (NamesUnknownConcept before d)
decide_concepts before line.Blank = never
decide_concepts before (line.Axiom a) = never
decide_concepts before (line.Fact (row.Concept c a)) = decide_not (decide_named (concept_names before.axioms) c)
decide_concepts before (line.Fact (row.Role p a b)) = never
decide_concepts before (line.Ask q) = decide_concept before.axioms q

decide_roles : (before : Context) (d : DocLine) → Decided (NamesUnknownRole before d)
decide_roles before line.Blank = never
decide_roles before (line.Axiom a) = never
decide_roles before (line.Fact (row.Concept c a)) = never
decide_roles before (line.Fact (row.Role p a b)) = decide_not (decide_named (role_names before.axioms) p)
decide_roles before (line.Ask q) = decide_role before.axioms q

decide_many : (before : Context) (d : DocLine) → Decided (MakesTooMany before d)
decide_many before line.Blank = never
decide_many before (line.Axiom a) = never
decide_many before (line.Fact r) = decide_facts (before.facts ++ r ∷ [])
decide_many before (line.Ask q) = never

decide_reason : (before : Context) (d : DocLine) (why : Reason) → Decided (HoldsFor before d why)
decide_reason before d reason.TooLong = never
decide_reason before d reason.Misplaced = decide_order before d
decide_reason before d reason.PassesLimit = decide_limit before d
decide_reason before d reason.TooLarge = decide_asks d
decide_reason before d reason.Unsafe = decide_safe d
decide_reason before d reason.UnknownConcept = decide_concepts before d
decide_reason before d reason.UnknownRole = decide_roles before d
decide_reason before d reason.TooManyFacts = decide_many before d

-- ---- the first of them

module _ (H : Reason → Type 0) (decide : (why : Reason) → Decided (H why)) where
  -- the first reason that holds, or none holds
  abbrev FirstReason : Type 0
  FirstReason = ((why : Reason) × H why × NoneBelow H (rank_of why)) ⊎ ((why : Reason) → H why → ⊥)

  step : (why : Reason) → NoneBelow H (rank_of why) → (NoneBelow H (rank_of why + 1) → FirstReason) → FirstReason
  step why none later = by (decide why)
    where
      by : Decided (H why) → FirstReason
      by (inl holds) = inl (why, holds, none)
      by (inr not) = later (none_next H why none not)

  first_reason : FirstReason
  first_reason =
      step reason.TooLong (none_first H) (λ a. step reason.Misplaced a (λ b. step reason.PassesLimit b (λ d.
      step reason.TooLarge d (λ e. step reason.Unsafe e (λ f. step reason.UnknownConcept f (λ g. step reason.UnknownRole g (λ h.
      step reason.TooManyFacts h (λ none. inr (λ why holds. none why (few_ranks why) holds)))))))))

-- a line is accepted, or it offends
abbrev pub Settled : Context → List ℕ → Type 0
Settled before text = ((d : DocLine) × Accepts before text d) ⊎ ((why : Reason) × Offends before text why)

pub settled_line : (before : Context) (text : List ℕ) → Settled before text
settled_line before text = elim (cases_lt 4096 (length text)) [
  | inl long ↦ inr (reason.TooLong, offends_long before text long)
  | inr short ↦ by short (decided_line text)
]
  where
    said : length text ≤ 4096 → (d : DocLine) → IsDocLine text d → FirstReason (HoldsFor before d) (decide_reason before d) → Settled before text
    said short d says (inl (why, holds, none)) = inr (why, offends_by before text d says short why holds none)
    said short d says (inr none) = inl (d, record { says = says; fine = λ why holds. none why (holds_for before text d says short why holds) })

    by : length text ≤ 4096 → ((d : DocLine) × IsDocLine text d) ⊎ ((d : DocLine) → IsDocLine text d → ⊥) → Settled before text
    by short (inl (d, says)) = said short d says (first_reason (HoldsFor before d) (decide_reason before d))
    by short (inr none) = inr (reason.Misplaced, offends_syntax before text short none)
