-- A line says one thing, and what is read of it is what it says.
use Rattle.std.proofs.Common.{◌≡◌, ℕ, inl, inr, true, false, List, [], ◌∷◌, ◌++◌, length, get_or, Result, Ok, Err, refl, sym, ◌∙◌, ap, subst, append_assoc, arith, true≢false}
use Rattle.std.specs.Prelude.{codes, ◌==◌, IsTrue, IfErr}
use Rattle.std.specs.List.{AllByRecursion}
use Rattle.std.proofs.lemmas.Bool.Decides.{nat_tests}
use Rattle.std.proofs.lemmas.List.{append-nil, append_cancel_left}
use Rattle.grammar.specs.Bytes.{is_blank}
use Rattle.grammar.specs.Grammar.{Grammar, ◌>>=◌, ◌>>◌, means, literal}
use Rattle.grammar.specs.Blanks.{some_blanks}
use Rattle.grammar.specs.Reading.{next_is, whole}
use Rattle.grammar.proofs.Exact.{Anything, IsWhole, exact_whole}
use Rattle.grammar.proofs.Rules.{FirstIs, first_literal, first_or, first_then, found, fault}
use Rattle.grammar.proofs.ByteKinds.{starting_not_blank}
use Rattle.dl_base.proofs.NameRules.{first_name}
use Rattle.dl_base.specs.Query.{Question}
use Rattle.dl_base.specs.declared.row.NamedRow.{NamedRow}
use Rattle.axiom_reader.specs.AxiomGrammar.{axiom_text}
use Rattle.axiom_reader.specs.AxiomMeaning.{meaning}
use Rattle.axiom_reader.specs.AxiomReading.{tree_at}
use Rattle.axiom_reader.specs.declared.tree.AxiomTree.{AxiomTree}
use Rattle.axiom_reader.proofs.FormRules.{first_axiom, reads_axiom}
use Rattle.cq_reader.specs.QueryText.{query}
use Rattle.cq_reader.specs.QueryReading.{query_at}
use Rattle.cq_reader.proofs.QueryRules.{reads_query}
use Rattle.script_reader.specs.RowReading.{row_text_at}
use Rattle.script_reader.proofs.RowRules.{reads_row}
use Rattle.script_reader.specs.DocLines.{row_text, BeginsUnblank, IsTrimmed, IsDocLine, line_text, comment, axiom_behind, fact_behind, ask_behind, Follows, IsFaultOf}
use Rattle.script_reader.specs.declared.doc_line.DocLine.{DocLine}
use Rattle.script_reader.specs.declared.doc_line.DocLine.TheVariants as line
use Rattle.script_reader.specs.declared.doc_line.CommandError.{CommandError}
use Rattle.script_reader.specs.declared.doc_line.CommandError.TheVariants as faults
use Rattle.script_reader.proofs.BlankRules.{gap_once, trimmed_once}

-- ---- behind a keyword

begins : (text : List ℕ) → next_is is_blank text ≡ false → BeginsUnblank text
begins text not c more e = subst (λ (t : List ℕ). next_is is_blank t ≡ false) e not

first_axiom_behind : FirstIs axiom_behind Anything is_blank false
first_axiom_behind = first_then (first_axiom refl refl refl refl refl refl)

first_fact_behind : FirstIs fact_behind Anything is_blank false
first_fact_behind = first_then (first_or (first_then (first_name starting_not_blank refl)) (first_then (first_name starting_not_blank refl)))

first_ask_behind : FirstIs ask_behind Anything is_blank false
first_ask_behind = first_then (first_literal is_blank)

-- a line of a keyword is the keyword, blanks and what follows
pub record Line (keyword : List ℕ) (g : Grammar DocLine) (text : List ℕ) (d : DocLine) : Type 0 where
  pub rest : List ℕ
  pub follows : Follows keyword text rest
  pub says : g rest d

module _ (keyword : List ℕ) (g : Grammar DocLine) (first : FirstIs g Anything is_blank false) where
  line_to : (text : List ℕ) (d : DocLine) → (literal keyword >> (some_blanks >> g)) text d → Line keyword g text d
  line_to text d s = record {
    rest = s.in_second.back;
    follows = record {
      gap = s.in_second.front;
      parts = s.parts ∙ ap (λ a. a ++ s.back) s.in_first ∙ ap (λ b. keyword ++ b) s.in_second.parts ∙ sym (append_assoc keyword s.in_second.front s.in_second.back);
      some = s.in_second.in_first.1;
      blank = s.in_second.in_first.0;
      first = begins s.in_second.back (ap (next_is is_blank) (sym (append-nil s.in_second.back)) ∙ first.is s.in_second.back d [] s.in_second.in_second tt);
    };
    says = s.in_second.in_second;
  }

  line_from : (text rest : List ℕ) (d : DocLine) → Follows keyword text rest → g rest d → (literal keyword >> (some_blanks >> g)) text d
  line_from text rest d f says = record {
    front = keyword;
    back = f.gap ++ rest;
    met = tt;
    parts = f.parts ∙ append_assoc keyword f.gap rest;
    in_first = refl;
    in_second = record { front = f.gap; back = rest; met = f.gap; parts = refl; in_first = (f.blank, f.some, refl); in_second = says };
  }

pub follows_once : (keyword text rest rest' : List ℕ) → Follows keyword text rest → Follows keyword text rest' → rest ≡ rest'
follows_once keyword text rest rest' f f' = gap_once f.gap f'.gap rest rest'
    (append_cancel_left keyword (f.gap ++ rest) (f'.gap ++ rest') (sym (append_assoc keyword f.gap rest) ∙ sym f.parts ∙ f'.parts ∙ append_assoc keyword f'.gap rest'))
    f.blank f'.blank f.first f'.first

-- ---- which keyword

pub byte_of : ℕ → List ℕ → ℕ
byte_of i text = get_or text i 0

axiom_first : (text rest : List ℕ) → Follows (codes "axiom") text rest → byte_of 0 text ≡ 97
unfolding byte_of
axiom_first text rest f = ap (byte_of 0) f.parts

axiom_second : (text rest : List ℕ) → Follows (codes "axiom") text rest → byte_of 1 text ≡ 120
unfolding byte_of
axiom_second text rest f = ap (byte_of 1) f.parts

fact_first : (text rest : List ℕ) → Follows (codes "fact") text rest → byte_of 0 text ≡ 102
unfolding byte_of
fact_first text rest f = ap (byte_of 0) f.parts

ask_first : (text rest : List ℕ) → Follows (codes "ask") text rest → byte_of 0 text ≡ 97
unfolding byte_of
ask_first text rest f = ap (byte_of 0) f.parts

ask_second : (text rest : List ℕ) → Follows (codes "ask") text rest → byte_of 1 text ≡ 115
unfolding byte_of
ask_second text rest f = ap (byte_of 1) f.parts

comment_first : (text : List ℕ) (d : DocLine) → comment text d → byte_of 0 text ≡ 35
unfolding byte_of
comment_first text d s = ap (byte_of 0) (s.parts ∙ ap (λ a. a ++ s.back) s.in_first)

empty_first : (text : List ℕ) → text ≡ [] → byte_of 0 text ≡ 0
unfolding byte_of
empty_first text e = ap (byte_of 0) e

-- what a line says whose keyword is known
module _ (text rest : List ℕ) (d : DocLine) where
  pub says_axiom : Follows (codes "axiom") text rest → line_text text d → axiom_behind rest d
  says_axiom f (inl (inl (inl (inl s)))) = absurd (omega (arith, axiom_first text rest f, empty_first text s.0))
  says_axiom f (inl (inl (inl (inr s)))) = absurd (omega (arith, axiom_first text rest f, comment_first text d s))
  says_axiom f (inl (inl (inr s))) =
      let l = line_to (codes "axiom") axiom_behind first_axiom_behind text d s in
      subst (λ (r : List ℕ). axiom_behind r d) (follows_once (codes "axiom") text l.rest rest l.follows f) l.says
  says_axiom f (inl (inr s)) = let l = line_to (codes "fact") fact_behind first_fact_behind text d s in absurd (omega (arith, axiom_first text rest f, fact_first text l.rest l.follows))
  says_axiom f (inr s) = let l = line_to (codes "ask") ask_behind first_ask_behind text d s in absurd (omega (arith, axiom_second text rest f, ask_second text l.rest l.follows))

  pub says_fact : Follows (codes "fact") text rest → line_text text d → fact_behind rest d
  says_fact f (inl (inl (inl (inl s)))) = absurd (omega (arith, fact_first text rest f, empty_first text s.0))
  says_fact f (inl (inl (inl (inr s)))) = absurd (omega (arith, fact_first text rest f, comment_first text d s))
  says_fact f (inl (inl (inr s))) = let l = line_to (codes "axiom") axiom_behind first_axiom_behind text d s in absurd (omega (arith, fact_first text rest f, axiom_first text l.rest l.follows))
  says_fact f (inl (inr s)) =
      let l = line_to (codes "fact") fact_behind first_fact_behind text d s in
      subst (λ (r : List ℕ). fact_behind r d) (follows_once (codes "fact") text l.rest rest l.follows f) l.says
  says_fact f (inr s) = let l = line_to (codes "ask") ask_behind first_ask_behind text d s in absurd (omega (arith, fact_first text rest f, ask_first text l.rest l.follows))

  pub says_ask : Follows (codes "ask") text rest → line_text text d → ask_behind rest d
  says_ask f (inl (inl (inl (inl s)))) = absurd (omega (arith, ask_first text rest f, empty_first text s.0))
  says_ask f (inl (inl (inl (inr s)))) = absurd (omega (arith, ask_first text rest f, comment_first text d s))
  says_ask f (inl (inl (inr s))) = let l = line_to (codes "axiom") axiom_behind first_axiom_behind text d s in absurd (omega (arith, ask_second text rest f, axiom_second text l.rest l.follows))
  says_ask f (inl (inr s)) = let l = line_to (codes "fact") fact_behind first_fact_behind text d s in absurd (omega (arith, ask_first text rest f, fact_first text l.rest l.follows))
  says_ask f (inr s) =
      let l = line_to (codes "ask") ask_behind first_ask_behind text d s in
      subst (λ (r : List ℕ). ask_behind r d) (follows_once (codes "ask") text l.rest rest l.follows f) l.says

  pub axiom_says : Follows (codes "axiom") text rest → axiom_behind rest d → line_text text d
  axiom_says f says = inl (inl (inr (line_from (codes "axiom") axiom_behind first_axiom_behind text rest d f says)))

  pub fact_says : Follows (codes "fact") text rest → fact_behind rest d → line_text text d
  fact_says f says = inl (inr (line_from (codes "fact") fact_behind first_fact_behind text rest d f says))

  pub ask_says : Follows (codes "ask") text rest → ask_behind rest d → line_text text d
  ask_says f says = inr (line_from (codes "ask") ask_behind first_ask_behind text rest d f says)

-- a text without any of the keywords says nothing
pub says_nothing : (text : List ℕ) (d : DocLine) → (text ≡ [] → ⊥) → (byte_of 0 text ≡ 35 → ⊥) → ((rest : List ℕ) → Follows (codes "axiom") text rest → ⊥)
    → ((rest : List ℕ) → Follows (codes "fact") text rest → ⊥) → ((rest : List ℕ) → Follows (codes "ask") text rest → ⊥) → line_text text d → ⊥
says_nothing text d some no_comment no_axiom no_fact no_ask (inl (inl (inl (inl s)))) = some s.0
says_nothing text d some no_comment no_axiom no_fact no_ask (inl (inl (inl (inr s)))) = no_comment (comment_first text d s)
says_nothing text d some no_comment no_axiom no_fact no_ask (inl (inl (inr s))) = let l = line_to (codes "axiom") axiom_behind first_axiom_behind text d s in no_axiom l.rest l.follows
says_nothing text d some no_comment no_axiom no_fact no_ask (inl (inr s)) = let l = line_to (codes "fact") fact_behind first_fact_behind text d s in no_fact l.rest l.follows
says_nothing text d some no_comment no_axiom no_fact no_ask (inr s) = let l = line_to (codes "ask") ask_behind first_ask_behind text d s in no_ask l.rest l.follows

-- ---- faults

-- what says the same has the same faults
pub fault_same : (P Q : DocLine → Type 0) (f : CommandError) → ((d : DocLine) → P d → Q d) → ((d : DocLine) → Q d → P d) → IsFaultOf P f → IsFaultOf Q f
fault_same P Q faults.Syntax to back none = λ d says. none d (back d says)
fault_same P Q faults.TooLarge to back (q, says, large) = (q, to (line.Ask q) says, large)
fault_same P Q (faults.Unsafe v) to back (q, says, small, first) = (q, to (line.Ask q) says, small, first)
fault_same P Q faults.NoMemory to back _ = tt

-- a line says what stands between its blanks
pub line_fault : (text core : List ℕ) (f : CommandError) → IsTrimmed text core → IsFaultOf (line_text core) f → IsFaultOf (IsDocLine text) f
line_fault text core f trimmed is = fault_same (line_text core) (IsDocLine text) f
    (λ d says. record { core = core; trimmed = trimmed; says = says })
    (λ d l. subst (λ (c : List ℕ). line_text c d) (trimmed_once text l.core core l.trimmed trimmed) l.says) is

-- ---- once

-- a text is one axiom, one row or one query
module _ {V : Type 0} (g : Grammar V) (text : List ℕ) where
  value_once : (r : Result V ℕ) → IsWhole g text r → (v w : V) → g text v → g text w → v ≡ w
  value_once (Ok u) is v w x y = is.only v x ∙ sym (is.only w y)
  value_once (Err left) is v w x y = absurd (is.fault.outside (v, x))

tree_once : (text : List ℕ) (t u : AxiomTree) → axiom_text text t → axiom_text text u → t ≡ u
tree_once text = value_once axiom_text text (whole (tree_at text)) (exact_whole axiom_text text (tree_at text) (reads_axiom {text = text}).is)

row_once : (text : List ℕ) (r s : NamedRow) → row_text text r → row_text text s → r ≡ s
row_once text = value_once row_text text (whole (row_text_at text)) (exact_whole row_text text (row_text_at text) (reads_row {text = text}).is)

query_once : (text : List ℕ) (q r : Question) → query text q → query text r → q ≡ r
query_once text = value_once query text (whole (query_at text)) (exact_whole query text (query_at text) (reads_query {text = text}).is)

-- what is made of the one value of a text is one
module _ {V : Type 0} (g : Grammar V) (f : V → DocLine) (once : (text : List ℕ) (v w : V) → g text v → g text w → v ≡ w) where
  made_once : (text : List ℕ) (d e : DocLine) → (g >>= λ v. means (f v)) text d → (g >>= λ v. means (f v)) text e → d ≡ e
  made_once text d e x y =
      x.in_second.1 ∙ ap f (once text x.met y.met (whole_text x) (whole_text y)) ∙ sym y.in_second.1
    where
      whole_text : {d : DocLine} (s : (g >>= λ v. means (f v)) text d) → g text s.met
      whole_text s = subst (λ (t : List ℕ). g t s.met) (sym (s.parts ∙ ap (λ b. s.front ++ b) s.in_second.0 ∙ append-nil s.front)) s.in_first

empty_says : (text : List ℕ) (d : DocLine) → text ≡ [] → line_text text d → d ≡ line.Blank
empty_says text d e (inl (inl (inl (inl s)))) = s.1
empty_says text d e (inl (inl (inl (inr s)))) = absurd (omega (arith, empty_first text e, comment_first text d s))
empty_says text d e (inl (inl (inr s))) = let l = line_to (codes "axiom") axiom_behind first_axiom_behind text d s in absurd (omega (arith, empty_first text e, axiom_first text l.rest l.follows))
empty_says text d e (inl (inr s)) = let l = line_to (codes "fact") fact_behind first_fact_behind text d s in absurd (omega (arith, empty_first text e, fact_first text l.rest l.follows))
empty_says text d e (inr s) = let l = line_to (codes "ask") ask_behind first_ask_behind text d s in absurd (omega (arith, empty_first text e, ask_first text l.rest l.follows))

comment_says : (text : List ℕ) (d : DocLine) → byte_of 0 text ≡ 35 → line_text text d → d ≡ line.Blank
comment_says text d e (inl (inl (inl (inl s)))) = s.1
comment_says text d e (inl (inl (inl (inr s)))) = s.in_second.in_second.1
comment_says text d e (inl (inl (inr s))) = let l = line_to (codes "axiom") axiom_behind first_axiom_behind text d s in absurd (omega (arith, e, axiom_first text l.rest l.follows))
comment_says text d e (inl (inr s)) = let l = line_to (codes "fact") fact_behind first_fact_behind text d s in absurd (omega (arith, e, fact_first text l.rest l.follows))
comment_says text d e (inr s) = let l = line_to (codes "ask") ask_behind first_ask_behind text d s in absurd (omega (arith, e, ask_first text l.rest l.follows))

text_once : (text : List ℕ) (d e : DocLine) → line_text text d → line_text text e → d ≡ e
text_once text d e (inl (inl (inl (inl s)))) y = s.1 ∙ sym (empty_says text e s.0 y)
text_once text d e (inl (inl (inl (inr s)))) y = s.in_second.in_second.1 ∙ sym (comment_says text e (comment_first text d s) y)
text_once text d e (inl (inl (inr s))) y =
    let l = line_to (codes "axiom") axiom_behind first_axiom_behind text d s in
    made_once axiom_text (λ t. line.Axiom (meaning t)) tree_once l.rest d e l.says (says_axiom text l.rest e l.follows y)
text_once text d e (inl (inr s)) y =
    let l = line_to (codes "fact") fact_behind first_fact_behind text d s in
    made_once row_text line.Fact row_once l.rest d e l.says (says_fact text l.rest e l.follows y)
text_once text d e (inr s) y =
    let l = line_to (codes "ask") ask_behind first_ask_behind text d s in
    made_once query line.Ask query_once l.rest d e l.says (says_ask text l.rest e l.follows y)

-- a line says one thing
pub line_once : (text : List ℕ) (d e : DocLine) → IsDocLine text d → IsDocLine text e → d ≡ e
line_once text d e x y = text_once x.core d e x.says (subst (λ (c : List ℕ). line_text c e) (trimmed_once text y.core x.core y.trimmed x.trimmed) y.says)

-- ---- what is made of what is read

module _ {V : Type 0} (g : Grammar V) (f : V → DocLine) (text : List ℕ) where
  pub made_of : (v : V) → g text v → (g >>= λ v. means (f v)) text (f v)
  made_of v is = record { front = text; back = []; met = v; parts = sym (append-nil text); in_first = is; in_second = (refl, refl) }

  pub none_made : ((v : V) → g text v → ⊥) → (d : DocLine) → (g >>= λ v. means (f v)) text d → ⊥
  none_made none d s = none s.met (subst (λ (t : List ℕ). g t s.met) (sym (s.parts ∙ ap (λ b. s.front ++ b) s.in_second.0 ∙ append-nil s.front)) s.in_first)

pub no_row : (text : List ℕ) (left : ℕ) → whole (row_text_at text) ≡ Err left → (d : DocLine) → fact_behind text d → ⊥
no_row text left is = none_made row_text line.Fact text (λ r says. (fault left (reads_row {text = text}) is).fault.outside (r, says))

pub some_row : (text : List ℕ) (r : NamedRow) → whole (row_text_at text) ≡ Ok r → fact_behind text (line.Fact r)
some_row text r is = made_of row_text line.Fact text r (found r (reads_row {text = text}) is).is

-- ---- a text by its keyword

err_weaker : {A E : Type 0} (P Q : E → Type 0) (r : Result A E) → ((e : E) → P e → Q e) → IfErr r P → IfErr r Q
err_weaker P Q (Ok v) weaker _ = tt
err_weaker P Q (Err e) weaker is = weaker e is

module _ (text rest : List ℕ) (r : Result DocLine CommandError) where
  pub axiom_fault : Follows (codes "axiom") text rest → IfErr r (IsFaultOf (axiom_behind rest)) → IfErr r (IsFaultOf (line_text text))
  axiom_fault f = err_weaker (IsFaultOf (axiom_behind rest)) (IsFaultOf (line_text text)) r
      (λ e. fault_same (axiom_behind rest) (line_text text) e (λ d. axiom_says text rest d f) (λ d. says_axiom text rest d f))

  pub fact_fault : Follows (codes "fact") text rest → IfErr r (IsFaultOf (fact_behind rest)) → IfErr r (IsFaultOf (line_text text))
  fact_fault f = err_weaker (IsFaultOf (fact_behind rest)) (IsFaultOf (line_text text)) r
      (λ e. fault_same (fact_behind rest) (line_text text) e (λ d. fact_says text rest d f) (λ d. says_fact text rest d f))

  pub ask_fault : Follows (codes "ask") text rest → IfErr r (IsFaultOf (ask_behind rest)) → IfErr r (IsFaultOf (line_text text))
  ask_fault f = err_weaker (IsFaultOf (ask_behind rest)) (IsFaultOf (line_text text)) r
      (λ e. fault_same (ask_behind rest) (line_text text) e (λ d. ask_says text rest d f) (λ d. says_ask text rest d f))

pub blank_text : (text : List ℕ) → (length text == 0) ≡ true → line_text text line.Blank
blank_text [] is = inl (inl (inl (inl (refl, refl))))
blank_text (c ∷ text) is = absurd (omega (arith, some_is (length (c ∷ text)) 0 is))
  where
    some_is : (x y : ℕ) → (x == y) ≡ true → x ≡ y
    some_is x y same = grind (arith, nat_tests)

pub comment_text : (text : List ℕ) → next_is (λ c. c == 35) text ≡ true → line_text text line.Blank
comment_text [] is = absurd cc
comment_text (c ∷ text) is = inl (inl (inl (inr (record {
  front = c ∷ [];
  back = text;
  met = tt;
  parts = refl;
  in_first = ap (λ (b : ℕ). b ∷ []) (nat_eq_same c 35 is);
  in_second = record { front = text; back = []; met = text; parts = sym (append-nil text); in_first = (any_bytes text, refl); in_second = (refl, refl) };
}))))
  where
    any_bytes : (bytes : List ℕ) → AllByRecursion (λ c. IsTrue true) bytes
    any_bytes [] = tt
    any_bytes (b ∷ bytes) = (refl, any_bytes bytes)

    nat_eq_same : (x y : ℕ) → (x == y) ≡ true → x ≡ y
    nat_eq_same x y is = grind (arith, nat_tests)

no_comment : (text : List ℕ) → next_is (λ c. c == 35) text ≡ false → byte_of 0 text ≡ 35 → ⊥
unfolding byte_of
no_comment [] is e = omega (arith, e)
no_comment (c ∷ text) is e = let same : next_is (λ c. c == 35) (c ∷ text) ≡ true = ap (λ (b : ℕ). b == 35) e in true≢false (sym same ∙ is)

not_empty : (text : List ℕ) → (length text == 0) ≡ false → text ≡ [] → ⊥
not_empty text is none = let same : (length text == 0) ≡ true = ap (λ (l : List ℕ). length l == 0) none in true≢false (sym same ∙ is)

-- a text that isn't empty, no comment, and has no keyword
pub nothing_said : (text : List ℕ) → (length text == 0) ≡ false → next_is (λ c. c == 35) text ≡ false → ((rest : List ℕ) → Follows (codes "axiom") text rest → ⊥)
    → ((rest : List ℕ) → Follows (codes "fact") text rest → ⊥) → ((rest : List ℕ) → Follows (codes "ask") text rest → ⊥) → (d : DocLine) → line_text text d → ⊥
nothing_said text some none no_axiom no_fact no_ask d = says_nothing text d (not_empty text some) (no_comment text none) no_axiom no_fact no_ask

pub line_faults : (text core : List ℕ) (r : Result DocLine CommandError) → IsTrimmed text core → IfErr r (IsFaultOf (line_text core)) → IfErr r (IsFaultOf (IsDocLine text))
line_faults text core r trimmed = err_weaker (IsFaultOf (line_text core)) (IsFaultOf (IsDocLine text)) r (λ e. line_fault text core e trimmed)
