-- Whether a text is a line of a document.
use Rattle.std.proofs.Common.{◌≡◌, ℕ, ◌≤◌, ◌⊎◌, inl, inr, Bool, true, false, List, [], ◌∷◌, ◌++◌, length, take, drop, Result, Ok, Err, refl, sym, ap, subst, arith}
use Rattle.std.specs.Prelude.{codes, ◌==◌, nat_eq}
use Rattle.std.specs.Cmp.Lexicographic.{pointwise}
use Rattle.std.proofs.lemmas.Bool.{eqb-true}
use Rattle.grammar.specs.Bytes.{is_blank}
use Rattle.grammar.specs.Grammar.{Grammar, ◌>>=◌, means}
use Rattle.grammar.specs.Reading.{next_is, whole}
use Rattle.grammar.proofs.Exact.{IsWhole, exact_whole}
use Rattle.dl_base.specs.Axiom.{Statement, IsStatement}
use Rattle.axiom_reader.specs.AxiomGrammar.{axiom_text}
use Rattle.axiom_reader.specs.AxiomMeaning.{meaning}
use Rattle.axiom_reader.specs.AxiomReading.{tree_at}
use Rattle.axiom_reader.proofs.FormRules.{reads_axiom}
use Rattle.axiom_reader.proofs.MeaningRules.{has_members, is_statement}
use Rattle.cq_reader.specs.QueryText.{query}
use Rattle.cq_reader.specs.QueryReading.{query_at}
use Rattle.cq_reader.proofs.QueryRules.{reads_query}
use Rattle.script_reader.specs.RowReading.{row_text_at}
use Rattle.script_reader.specs.DocLines.{AreBlank, BeginsUnblank, EndsUnblank, IsWithoutBlanksBehind, IsTrimmed, IsDocLine, row_text, line_text, Follows}
use Rattle.script_reader.specs.declared.doc_line.DocLine.{DocLine}
use Rattle.script_reader.specs.declared.doc_line.DocLine.TheVariants as line
use Rattle.script_reader.proofs.BlankRules.{nothing_cut, blank_not, trimmed_once}
use Rattle.script_reader.proofs.ListLemmas.{same_head, same_tail}
use Rattle.script_reader.proofs.KeywordRules.{first_of, follows_on, follows_back, keyword_absent}
use Rattle.script_reader.proofs.LineRules.{axiom_says, fact_says, ask_says, says_axiom, says_fact, says_ask, made_of, none_made, blank_text, comment_text, nothing_said}
use Rattle.script_reader.proofs.RowRules.{reads_row}

-- ---- blanks

-- the blanks in front
record FrontCut (text : List ℕ) : Type 0 where
  front : List ℕ
  rest : List ℕ
  parts : text ≡ front ++ rest
  blank : AreBlank front
  first : BeginsUnblank rest

front_cut : (text : List ℕ) → FrontCut text
front_cut [] = record { front = []; rest = []; parts = refl; blank = tt; first = λ c more e. absurd cc }
front_cut (c ∷ text) = by (is_blank c) refl (front_cut text)
  where
    by : (b : Bool) → is_blank c ≡ b → FrontCut text → FrontCut (c ∷ text)
    by true is cut = record { front = c ∷ cut.front; rest = cut.rest; parts = ap (λ l. c ∷ l) cut.parts; blank = (is, cut.blank); first = cut.first }
    by false is cut = record {
      front = [];
      rest = c ∷ text;
      parts = refl;
      blank = tt;
      first = λ d more e. subst (λ (x : ℕ). is_blank x ≡ false) (same_head c d text more e) is;
    }

-- the last one of a text of one byte
ends_with : (c : ℕ) → is_blank c ≡ false → EndsUnblank (c ∷ [])
ends_with c not [] d e = subst (λ (x : ℕ). is_blank x ≡ false) (same_head c d [] [] e) not
ends_with c not (x ∷ front) d e = absurd (nothing_cut front d (same_tail c x [] (front ++ d ∷ []) e))

-- a longer text ends alike
ends_longer : (c x : ℕ) (core : List ℕ) → EndsUnblank (x ∷ core) → EndsUnblank (c ∷ x ∷ core)
ends_longer c x core ends [] d e = absurd (nothing_left (same_tail c d (x ∷ core) [] e))
  where
    nothing_left : x ∷ core ≡ [] → ⊥
    nothing_left same = cc
ends_longer c x core ends (y ∷ front) d e = ends front d (same_tail c y (x ∷ core) (front ++ d ∷ []) e)

-- what stands before the last blanks of each text
record BackCut (text : List ℕ) : Type 0 where
  core : List ℕ
  core_is : IsWithoutBlanksBehind text core

back_cut : (text : List ℕ) → BackCut text
back_cut [] = record { core = []; core_is = record { behind = []; parts = refl; blank = tt; last = λ front c e. absurd (nothing_cut front c e) } }
back_cut (c ∷ text) = let cut = back_cut text in by (is_blank c) refl cut.core cut.core_is
  where
    by : (b : Bool) → is_blank c ≡ b → (core : List ℕ) → IsWithoutBlanksBehind text core → BackCut (c ∷ text)
    by true is [] w = record {
      core = [];
      core_is = record { behind = c ∷ text; parts = refl; blank = (is, subst AreBlank (sym w.parts) w.blank); last = λ front d e. absurd (nothing_cut front d e) };
    }
    by false is [] w = record { core = c ∷ []; core_is = record { behind = w.behind; parts = ap (λ l. c ∷ l) w.parts; blank = w.blank; last = ends_with c is } }
    by b is (x ∷ core) w = record { core = c ∷ x ∷ core; core_is = record { behind = w.behind; parts = ap (λ l. c ∷ l) w.parts; blank = w.blank; last = ends_longer c x core w.last } }

-- each text has something between its blanks
record Trimmed (text : List ℕ) : Type 0 where
  core : List ℕ
  is : IsTrimmed text core

trimmed_text : (text : List ℕ) → Trimmed text
trimmed_text text =
    let ahead = front_cut text in
    let cut = back_cut ahead.rest in
    record {
      core = cut.core;
      is = record {
        front = ahead.front;
        rest = ahead.rest;
        parts = ahead.parts;
        blank = ahead.blank;
        first = first_of cut.core cut.core_is.behind (subst BeginsUnblank cut.core_is.parts ahead.first);
        core_is = cut.core_is;
      };
    }

-- ---- what follows a keyword

-- this follows the keyword, or nothing does
abbrev Following : List ℕ → List ℕ → Type 0
Following keyword text = ((rest : List ℕ) × Follows keyword text rest) ⊎ ((rest : List ℕ) → Follows keyword text rest → ⊥)

-- where no blank stands in front, nothing follows
no_blank : (text gap rest : List ℕ) → text ≡ gap ++ rest → 1 ≤ length gap → AreBlank gap → BeginsUnblank text → ⊥
no_blank text [] rest parts some blank first = absurd (omega (arith, some))
no_blank text (c ∷ gap) rest parts some blank first = blank_not c blank.0 (first c (gap ++ rest) parts)

decide_gap : (text : List ℕ) → Following [] text
decide_gap text = let cut = front_cut text in by cut.front cut.rest cut.parts cut.blank cut.first
  where
    by : (front rest : List ℕ) → text ≡ front ++ rest → AreBlank front → BeginsUnblank rest → Following [] text
    by [] rest parts blank first = inr (λ other f. no_blank text f.gap other f.parts f.some f.blank (subst BeginsUnblank (sym parts) first))
    by (c ∷ front) rest parts blank first = inl (rest, record { gap = c ∷ front; parts = parts; some = omega arith; blank = blank; first = first })

decide_follows : (keyword text : List ℕ) → Following keyword text
decide_follows keyword text = by (pointwise nat_eq (take (length keyword) text) keyword) refl (decide_gap (drop (length keyword) text))
  where
    by : (b : Bool) → pointwise nat_eq (take (length keyword) text) keyword ≡ b → Following [] (drop (length keyword) text) → Following keyword text
    by true front (inl found) = inl (found.0, follows_on keyword text (drop (length keyword) text) front refl found.0 found.1)
    by true front (inr none) = inr (λ other f. none other (follows_back keyword text (drop (length keyword) text) front refl other f))
    by false not d = inr (keyword_absent keyword text not)

-- ---- what a text says

-- the grammar has the text, or hasn't
abbrev Found : {V : Type 0} → Grammar V → List ℕ → Type 0
Found {V} g text = ((v : V) × g text v) ⊎ ((v : V) → g text v → ⊥)

decide_whole : {V : Type 0} (g : Grammar V) (text : List ℕ) (r : Result V ℕ) → IsWhole g text r → Found g text
decide_whole g text (Ok v) is = inl (v, is.is)
decide_whole g text (Err left) is = inr (λ v says. is.fault.outside (v, says))

-- what is made of what stands behind a keyword
module _ (text rest : List ℕ) where
  says_by : {V : Type 0} (g : Grammar V) (f : V → DocLine) → ((d : DocLine) → (g >>= λ v. means (f v)) rest d → line_text text d)
      → ((d : DocLine) → line_text text d → (g >>= λ v. means (f v)) rest d) → Found g rest → Found line_text text
  says_by g f to back (inl found) = inl (f found.0, to (f found.0) (made_of g f rest found.0 found.1))
  says_by g f to back (inr none) = inr (λ d says. none_made g f rest none d (back d says))

  axiom_here : Follows (codes "axiom") text rest → Found line_text text
  axiom_here follows =
      says_by axiom_text (λ tree. line.Axiom (meaning tree)) (λ d. axiom_says text rest d follows) (λ d. says_axiom text rest d follows)
      (decide_whole axiom_text rest (whole (tree_at rest)) (exact_whole axiom_text rest (tree_at rest) (reads_axiom {text = rest}).is))

  fact_here : Follows (codes "fact") text rest → Found line_text text
  fact_here follows =
      says_by row_text line.Fact (λ d. fact_says text rest d follows) (λ d. says_fact text rest d follows)
      (decide_whole row_text rest (whole (row_text_at rest)) (exact_whole row_text rest (row_text_at rest) (reads_row {text = rest}).is))

  ask_here : Follows (codes "ask") text rest → Found line_text text
  ask_here follows =
      says_by query line.Ask (λ d. ask_says text rest d follows) (λ d. says_ask text rest d follows)
      (decide_whole query rest (whole (query_at rest)) (exact_whole query rest (query_at rest) (reads_query {text = rest}).is))

some_bytes : (c : ℕ) (text : List ℕ) → (length (c ∷ text) == 0) ≡ false
some_bytes c text = by (length (c ∷ text) == 0) refl
  where
    by : (b : Bool) → (length (c ∷ text) == 0) ≡ b → (length (c ∷ text) == 0) ≡ false
    by true is = absurd (omega (arith, eqb-true (length (c ∷ text)) 0 is))
    by false is = is

decide_text : (text : List ℕ) → Found line_text text
decide_text [] = inl (line.Blank, blank_text [] refl)
decide_text (c ∷ more) = by (next_is (λ c. c == 35) (c ∷ more)) refl (decide_follows (codes "axiom") (c ∷ more)) (decide_follows (codes "fact") (c ∷ more)) (decide_follows (codes "ask") (c ∷ more))
  where
    by : (b : Bool) → next_is (λ c. c == 35) (c ∷ more) ≡ b → Following (codes "axiom") (c ∷ more) → Following (codes "fact") (c ∷ more) → Following (codes "ask") (c ∷ more) → Found line_text (c ∷ more)
    by true is after_axiom after_fact after_ask = inl (line.Blank, comment_text (c ∷ more) is)
    by false is (inl found) after_fact after_ask = axiom_here (c ∷ more) found.0 found.1
    by false is (inr no_axiom) (inl found) after_ask = fact_here (c ∷ more) found.0 found.1
    by false is (inr no_axiom) (inr no_fact) (inl found) = ask_here (c ∷ more) found.0 found.1
    by false is (inr no_axiom) (inr no_fact) (inr no_ask) = inr (nothing_said (c ∷ more) (some_bytes c more) is no_axiom no_fact no_ask)

-- a text is a line and says something, or it says nothing
pub decided_line : (text : List ℕ) → ((d : DocLine) × IsDocLine text d) ⊎ ((d : DocLine) → IsDocLine text d → ⊥)
decided_line text = let trimmed = trimmed_text text in by trimmed.core trimmed.is (decide_text trimmed.core)
  where
    by : (core : List ℕ) → IsTrimmed text core → Found line_text core → ((d : DocLine) × IsDocLine text d) ⊎ ((d : DocLine) → IsDocLine text d → ⊥)
    by core trimmed (inl found) = inl (found.0, record { core = core; trimmed = trimmed; says = found.1 })
    by core trimmed (inr none) = inr (λ d l. none d (subst (λ (t : List ℕ). line_text t d) (trimmed_once text l.core core l.trimmed trimmed) l.says))

-- ---- axioms

same_axiom : (a b : Statement) → line.Axiom a ≡ line.Axiom b → a ≡ b
same_axiom a b same = cc

axiom_is : (text : List ℕ) (a : Statement) → line_text text (line.Axiom a) → IsStatement a
axiom_is text a (inl (inl (inl (inl s)))) = let e : line.Axiom a ≡ line.Blank = s.1 in absurd cc
axiom_is text a (inl (inl (inl (inr s)))) = let e : line.Axiom a ≡ line.Blank = s.in_second.in_second.1 in absurd cc
axiom_is text a (inl (inl (inr s))) =
    let tree = s.in_second.in_second in
    subst IsStatement (sym (same_axiom a (meaning tree.met) tree.in_second.1)) (is_statement tree.met (has_members tree.front tree.met tree.in_first))
axiom_is text a (inl (inr s)) = let row = s.in_second.in_second in let e : line.Axiom a ≡ line.Fact row.met = row.in_second.1 in absurd cc
axiom_is text a (inr s) = let q = s.in_second.in_second in let e : line.Axiom a ≡ line.Ask q.met = q.in_second.1 in absurd cc

-- what an axiom line says is a statement
pub axiom_line_is : (text : List ℕ) (a : Statement) → IsDocLine text (line.Axiom a) → IsStatement a
axiom_line_is text a l = axiom_is l.core a l.says
