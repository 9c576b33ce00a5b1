-- Blocks: which lines are skipped, what a line holds, and what one line more comes to.
use Rattle.std.proofs.Common.{◌≡◌, ℕ, Bool, true, false, List, [], ◌∷◌, ◌++◌, length, Some, Result, Ok, Err, refl, sym, ap, subst, ◌∙◌, arith, inl, inr}
use Rattle.std.specs.Prelude.{◌==◌, ◌||◌, ◌↔◌, IsTrue, IfOk}
use Rattle.std.proofs.lemmas.Bool.{cases_lt, eqb-true, ne_eqb}
use Rattle.std.proofs.lemmas.List.{append-nil, append_cancel_left, length-take, drop_all}
use Rattle.grammar.specs.Bytes.{is_blank, is_kind}
use Rattle.grammar.specs.Reading.{next_is, run_len, run_at, blanks_at}
use Rattle.grammar.proofs.Exact.{SameHead-refl, Nothing}
use Rattle.grammar.proofs.Parts.{Every, Every-middle, run_at-run, run_only}
use Rattle.grammar.proofs.Rules.{Reads, first_then, reads_stop, reads_any, reads_blanks, reads_means, first_nothing}
use Rattle.dl_base.specs.Ontology.{Terminology}
use Rattle.dl_base.specs.Axiom.{Statement, Extends}
use Rattle.dl_base.specs.declared.ontology.ExtendError.TheVariants.{TooMany}
use Rattle.axiom_reader.specs.declared.tree.AxiomTree.{AxiomTree}
use Rattle.axiom_reader.specs.declared.block.BlockCause.{BlockCause}
use Rattle.axiom_reader.specs.AxiomMeaning.{HasMembers}
use Rattle.axiom_reader.specs.Block.{Line, IsSkipped, HoldsAxiom, TakesAxiom, Steps, padded_axiom, LeadsTo, LineOffends, AllLead, LinesGive, ComesTo}
use Rattle.axiom_reader.specs.BlockReading.{line_at}
use Rattle.axiom_reader.proofs.FormRules.{reads_axiom, first_axiom}
use Rattle.axiom_reader.proofs.MeaningRules.{has_members}

-- ---- what a line holds

pub reads_line : {text : List ℕ} → Reads padded_axiom Nothing text (line_at text)
unfolding line_at
reads_line =
    reads_stop _ reads_blanks (λ _. first_then (first_axiom refl refl refl refl refl refl)) (λ _ rest.
    reads_any _ reads_axiom (λ tree rest.
    reads_stop _ reads_blanks (λ _. first_nothing) (λ _ rest.
    reads_means)))

pub line_has_members : (text : List ℕ) (tree : AxiomTree) → padded_axiom text tree → HasMembers tree
line_has_members text tree s =
    let a = s.in_second in
    subst HasMembers (sym a.in_second.in_second.1) (has_members a.front a.met a.in_first)

-- ---- which lines are skipped

-- the blanks at the front of a line, and what stands behind them
record Trimmed (text front rest : List ℕ) : Type 0 where
  parts : text ≡ front ++ rest
  blank : Every is_blank front
  stops : next_is is_blank rest ≡ false

run_stops : (text : List ℕ) → next_is is_blank (run_at is_blank (length text) text).1 ≡ false
run_stops text =
    let r = run_at-run is_blank (length text) text in
    elim (cases_lt (run_len is_blank (length text) text) (length text)) [
      | inl lt ↦ r.full (omega (arith, lt, length-take (run_len is_blank (length text) text) text))
      | inr le ↦ ap (next_is is_blank) (drop_all (run_len is_blank (length text) text) text le)
    ]

trimmed : (text front rest : List ℕ) → blanks_at text ≡ Ok (front, rest) → Trimmed text front rest
unfolding blanks_at is_kind
trimmed text front rest e =
    let r = run_at-run is_blank (length text) text in
    let same : run_at is_blank (length text) text ≡ (front, rest) = cc in
    subst (λ (x : List ℕ × List ℕ). Trimmed text x.0 x.1) same record { parts = r.parts; blank = r.each; stops = run_stops text }

not_empty : (c : ℕ) (cs : List ℕ) → (length (c ∷ cs) == 0) ≡ false
not_empty c cs = ne_eqb (length (c ∷ cs)) 0 (λ e. omega (arith, e))

skipped_from : (text front rest : List ℕ) → Trimmed text front rest → (length rest == 0 || next_is (λ c. c == 35) rest) ≡ true → IsSkipped text
skipped_from text front [] t e = inl (subst (λ (x : List ℕ). Every is_blank x) (sym (t.parts ∙ append-nil front)) t.blank)
skipped_from text front (c ∷ cs) t e =
    let mark : (c == 35) ≡ true = sym (ap (λ (b : Bool). b || (c == 35)) (not_empty c cs)) ∙ e in
    inr (front, cs, t.parts ∙ ap (λ (d : ℕ). front ++ d ∷ cs) (eqb-true c 35 mark), t.blank)

comment_at : (c : ℕ) (cs back : List ℕ) → c ∷ cs ≡ 35 ∷ back → (length (c ∷ cs) == 0 || next_is (λ c. c == 35) (c ∷ cs)) ≡ true
comment_at c cs back e =
    let mark : (c == 35) ≡ true = ap (next_is (λ d. d == 35)) e in
    ap (λ (b : Bool). b || (c == 35)) (not_empty c cs) ∙ mark

skipped_to : (text front rest : List ℕ) → Trimmed text front rest → IsSkipped text → (length rest == 0 || next_is (λ c. c == 35) rest) ≡ true
skipped_to text front [] t s = refl
skipped_to text front (c ∷ cs) t (inl blank) =
    let yes : is_blank c ≡ true = Every-middle is_blank front c cs (subst (λ (x : List ℕ). Every is_blank x) t.parts blank) in
    let no' : is_blank c ≡ false = t.stops in
    absurd cc
skipped_to text front (c ∷ cs) t (inr (before, back, cut, blank)) =
    let same : before ++ 35 ∷ back ≡ front ++ c ∷ cs = sym cut ∙ t.parts in
    let front-is : before ≡ front = run_only is_blank front (c ∷ cs) before (35 ∷ back) (c ∷ cs) t.blank blank (λ lt. t.stops) refl same (SameHead-refl (c ∷ cs)) in
    let rest-is : 35 ∷ back ≡ c ∷ cs = append_cancel_left front (35 ∷ back) (c ∷ cs) (ap (λ (x : List ℕ). x ++ 35 ∷ back) (sym front-is) ∙ same) in
    comment_at c cs back (sym rest-is)

both_tests : (rest : List ℕ) (b : Bool) → (length rest == 0) ≡ b → (b || next_is (λ c. c == 35) rest) ≡ (length rest == 0 || next_is (λ c. c == 35) rest)
both_tests rest b e = ap (λ (a : Bool). a || next_is (λ c. c == 35) rest) (sym e)

skips : (text front rest : List ℕ) (b : Bool) → blanks_at text ≡ Ok (front, rest) → b ≡ (length rest == 0 || next_is (λ c. c == 35) rest) → IsTrue b ↔ IsSkipped text
skips text front rest b e same =
    let t = trimmed text front rest e in
    (λ h. skipped_from text front rest t (sym same ∙ h), λ s. same ∙ skipped_to text front rest t s)

pub skips_at_end : (text front rest : List ℕ) (b : Bool) → blanks_at text ≡ Ok (front, rest) → b ≡ (length rest == 0) → b ≡ true → IsTrue b ↔ IsSkipped text
skips_at_end text front rest b e empty test = skips text front rest b e (test ∙ both_tests rest true (sym empty ∙ test))

pub skips_before : (text front rest : List ℕ) (a b : Bool) → blanks_at text ≡ Ok (front, rest) → a ≡ (length rest == 0) → a ≡ false → b ≡ next_is (λ c. c == 35) rest → IsTrue b ↔ IsSkipped text
skips_before text front rest a b e empty test mark = skips text front rest b e (mark ∙ both_tests rest false (sym empty ∙ test))

-- ---- one line more

all_lead_more : (o m new : Terminology) (lines : List Line) (line : Line) → AllLead o lines m → LeadsTo m line new → AllLead o (lines ++ line ∷ []) new
all_lead_more o m new [] line e step = (new, subst (λ (x : Terminology). LeadsTo x line new) e step, refl)
all_lead_more o m new (l ∷ lines) line h step = (h.0, h.1, all_lead_more h.0 m new lines line h.2 step)

pub gives_more : (m new : Terminology) (lines : List Line) (line : Line) → LinesGive lines m → LeadsTo m line new → ComesTo (lines ++ line ∷ []) (Ok new)
gives_more m new lines line gives step = all_lead_more _ m new lines line gives step

-- ---- one line

pub taken : {E : Type 0} (o : Terminology) (text : List ℕ) (statement : Statement) (r : Result (Result Terminology BlockCause) E) → HoldsAxiom text (Some statement) → IfOk r (TakesAxiom o statement) → IfOk r (Steps o (Some text))
taken o text statement (Ok (Ok new)) h t = inr (h.0, h.1, subst (λ (a : Statement). Extends o a (Ok new)) h.2 t)
taken o text statement (Ok (Err cause)) h t =
    subst (λ (a : BlockCause). LineOffends o (Some text) a) (sym t.0) (h.0, t.1.0, h.1, subst (λ (a : Statement). Extends o a (Err (TooMany t.1.0))) h.2 t.1.1)
taken o text statement (Err e) h t = tt
