-- A document that is refused is refused at one line, with one code, and asks nothing.
use Rattle.std.proofs.Common.{◌≡◌, ℕ, ◌+◌, ◌⊎◌, inl, inr, List, [], ◌∷◌, ◌++◌, length, Some, None, refl, sym, ◌∙◌, ap, subst, arith}
use Rattle.dl_base.specs.Ontology.{Terminology}
use Rattle.dl_base.specs.Query.{Question}
use Rattle.dl_base.specs.declared.row.NamedRow.{NamedRow}
use Rattle.script_reader.specs.Lines.{AreLines}
use Rattle.script_reader.specs.DocLines.{IsDocLine}
use Rattle.document_run.specs.Document.{Context, nothing_said, with_line, Offends, Accepts, Accepted, FirstOffence, code_of, Refused, Asks, HasNoQuery, HasOffence, LinesSay, Means, IsDocument}
use Rattle.script_reader.specs.declared.doc_line.DocLine.{DocLine}
use Rattle.document_run.specs.declared.reason.Reason.{Reason}
use Rattle.script_reader.proofs.LineLemmas.{lines_are}
use Rattle.script_reader.proofs.ListLemmas.{same_head, same_tail}
use Rattle.script_reader.proofs.LineRules.{line_once}
use Rattle.document_run.proofs.ReasonLemmas.{reason_once}

-- ---- lines that are accepted

-- behind accepted lines one thing is said
accepted_once : (lines : List (List ℕ)) (before a b : Context) → Accepted before lines a → Accepted before lines b → a ≡ b
accepted_once [] before a b x y = x ∙ sym y
accepted_once (text ∷ lines) before a b (d, head, tail) (e, other, behind) =
    accepted_once lines (with_line before d) a b tail
    (subst (λ (c : DocLine). Accepted (with_line before c) lines b) (line_once text e d other.says head.says) behind)

-- the lines in front are accepted, and behind them this line
record AcceptsThere (before : Context) (front : List (List ℕ)) (text : List ℕ) : Type 0 where
  middle : Context
  accepted : Accepted before front middle
  said : DocLine
  accepts : Accepts middle text said

accepted_front : (front : List (List ℕ)) (before : Context) (text : List ℕ) (behind : List (List ℕ)) (after : Context)
    → Accepted before (front ++ text ∷ behind) after → AcceptsThere before front text
accepted_front [] before text behind after (d, head, tail) = record { middle = before; accepted = refl; said = d; accepts = head }
accepted_front (first ∷ front) before text behind after (d, head, tail) =
    let there = accepted_front front (with_line before d) text behind after tail in
    record { middle = there.middle; accepted = (d, head, there.accepted); said = there.said; accepts = there.accepts }

-- ---- a line that offends

-- a line that offends isn't accepted
not_accepted_here : (before : Context) (text : List ℕ) (d : DocLine) (why : Reason) → Accepts before text d → Offends before text why → ⊥
not_accepted_here before text d why accepts offends = accepts.fine why offends.holds

not_accepted : (lines : List (List ℕ)) (n : ℕ) (why : Reason) (after : Context) → FirstOffence lines n why → Accepted nothing_said lines after → ⊥
not_accepted lines n why after f accepted =
    let there = accepted_front f.front nothing_said f.text f.more after (subst (λ (l : List (List ℕ)). Accepted nothing_said l after) f.parts accepted) in
    not_accepted_here f.before f.text there.said why
    (subst (λ (c : Context). Accepts c f.text there.said) (accepted_once f.front nothing_said there.middle f.before there.accepted f.accepted) there.accepts)
    f.offends

-- the same line offends, wherever it was read
offends_same : (b b' : Context) (text text' : List ℕ) (why : Reason) → b ≡ b' → text ≡ text' → Offends b text why → Offends b' text' why
offends_same b b' text text' why same same_text offends =
    subst (λ (c : Context). Offends c text' why) same (subst (λ (t : List ℕ). Offends b t why) same_text offends)

-- the first line that offends is one, and so is its reason
offence_once : (front front' : List (List ℕ)) (before : Context) (text text' : List ℕ) (behind behind' : List (List ℕ)) (b b' : Context) (why why' : Reason)
    → front ++ text ∷ behind ≡ front' ++ text' ∷ behind' → Accepted before front b → Offends b text why → Accepted before front' b' → Offends b' text' why'
    → (length front ≡ length front') × (why ≡ why')
offence_once [] [] before text text' behind behind' b b' why why' same x offends y offends' =
    (refl, reason_once b text why why' offends (offends_same b' b text' text why' (y ∙ sym x) (sym (same_head text text' behind behind' same)) offends'))
offence_once [] (first' ∷ front') before text text' behind behind' b b' why why' same x offends (e, head', tail') offends' =
    absurd (not_accepted_here before first' e why head' (offends_same b before text first' why x (same_head text first' behind (front' ++ text' ∷ behind') same) offends))
offence_once (first ∷ front) [] before text text' behind behind' b b' why why' same (d, head, tail) offends y offends' =
    absurd (not_accepted_here before first d why' head (offends_same b' before text' first why' y (sym (same_head first text' (front ++ text ∷ behind) behind' same)) offends'))
offence_once (first ∷ front) (first' ∷ front') before text text' behind behind' b b' why why' same (d, head, tail) offends (e, head', tail') offends' =
    let same_first : first ≡ first' = same_head first first' (front ++ text ∷ behind) (front' ++ text' ∷ behind') same in
    let same_said : e ≡ d = line_once first e d (subst (λ (t : List ℕ). IsDocLine t e) (sym same_first) head'.says) head.says in
    let more_same : (length front ≡ length front') × (why ≡ why') =
    offence_once front front' (with_line before d) text text' behind behind' b b' why why' (same_tail first first' (front ++ text ∷ behind) (front' ++ text' ∷ behind') same)
    tail offends (subst (λ (c : DocLine). Accepted (with_line before c) front' b') same_said tail') offends' in
    (omega (arith, more_same.0), more_same.1)

first_once : (lines : List (List ℕ)) (n n' : ℕ) (why why' : Reason) → FirstOffence lines n why → FirstOffence lines n' why' → (n ≡ n') × (why ≡ why')
first_once lines n n' why why' x y =
    let once : (length x.front ≡ length y.front) × (why ≡ why') =
    offence_once x.front y.front nothing_said x.text y.text x.more y.more x.before y.before why why' (sym x.parts ∙ y.parts) x.accepted x.offends y.accepted y.offends in
    (x.number ∙ ap (λ (m : ℕ). m + 1) once.0 ∙ sym y.number, once.1)

-- ---- the document

same_lines : (bytes : List ℕ) (lines lines' : List (List ℕ)) → AreLines bytes lines → AreLines bytes lines' → lines ≡ lines'
same_lines bytes lines lines' x y = lines_are bytes lines x ∙ sym (lines_are bytes lines' y)

refusal_once : (lines : List (List ℕ)) (code n code' n' : ℕ) → HasOffence lines code n ⊎ HasNoQuery lines code n → HasOffence lines code' n' ⊎ HasNoQuery lines code' n'
    → (code ≡ code') × (n ≡ n')
refusal_once lines code n code' n' (inl x) (inl y) =
    let once = first_once lines n n' x.why y.why x.first y.first in
    (x.code_is ∙ ap code_of once.1 ∙ sym y.code_is, once.0)
refusal_once lines code n code' n' (inl x) (inr y) = absurd (not_accepted lines n x.why y.after x.first y.accepted)
refusal_once lines code n code' n' (inr x) (inl y) = absurd (not_accepted lines n' y.why x.after y.first x.accepted)
refusal_once lines code n code' n' (inr x) (inr y) = (x.code_is ∙ sym y.code_is, x.number ∙ sym y.number)

not_said : (lines : List (List ℕ)) (code n : ℕ) (o : Terminology) (rows : List NamedRow) (q : Question)
    → HasOffence lines code n ⊎ HasNoQuery lines code n → LinesSay lines o rows q → ⊥
not_said lines code n o rows q (inl x) says = not_accepted lines n x.why says.after x.first says.accepted
not_said lines code n o rows q (inr x) says =
    let same : None ≡ Some q = sym x.none ∙ ap (λ (c : Context). c.query) (accepted_once lines nothing_said x.after says.after x.accepted says.accepted) ∙ says.query in
    absurd cc

-- a document is refused at one line, with one code
pub refused_once : (bytes : List ℕ) (code n code' n' : ℕ) → IsDocument bytes (Refused code n) → IsDocument bytes (Refused code' n') → (code ≡ code') × (n ≡ n')
refused_once bytes code n code' n' x y =
    refusal_once x.lines code n code' n' x.means
    (subst (λ (l : List (List ℕ)). Means l (Refused code' n')) (same_lines bytes y.lines x.lines y.cut x.cut) y.means)

-- a document that is refused asks nothing
pub not_both_meanings : (bytes : List ℕ) (code n : ℕ) (o : Terminology) (rows : List NamedRow) (q : Question) → IsDocument bytes (Refused code n) → IsDocument bytes (Asks o rows q) → ⊥
not_both_meanings bytes code n o rows q x y =
    not_said x.lines code n o rows q x.means
    (subst (λ (l : List (List ℕ)). Means l (Asks o rows q)) (same_lines bytes y.lines x.lines y.cut x.cut) y.means)
