-- The query of a script's line, and what a line asks.
use Rattle.std.proofs.Common.{◌≡◌, ℕ, ◌≤◌, List, length, Some, None, Result, Ok, Err, refl, sym, ap, subst, ◌∙◌, inl, inr}
use Rattle.std.specs.Prelude.{codes, IfOk, IfErr}
use Rattle.grammar.specs.Grammar.{Grammar, ◌>>=◌, ◌∣◌, means}
use Rattle.grammar.specs.Reading.{whole}
use Rattle.grammar.proofs.Exact.{IsWhole, exact_whole}
use Rattle.dl_base.specs.Query.{Question, IsQuery, HasBareVariables}
use Rattle.cq_reader.specs.QueryText.{query}
use Rattle.cq_reader.specs.declared.query.QueryError.{QueryError}
use Rattle.cq_reader.specs.declared.query.QueryError.TheVariants as fault
use Rattle.cq_reader.proofs.LimitRules.{some_atoms}
use Rattle.cq_reader.proofs.VariableRules.{bare_variables}
use Rattle.script_reader.specs.Commands.{with_query, with_session, with_row, with_handle, alone, script_comment, a_command, c_command, d_command, r_command, t_command, command_text, script_line, query_of, command_of, AsksCommand, IsRefusedLine, IsUnfitTree}
use Rattle.script_reader.specs.CommandReading.{script_line_at}
use Rattle.script_reader.proofs.CommandRules.{reads_script_line}
use Rattle.script_reader.specs.declared.command.Command.{Command}
use Rattle.script_reader.specs.declared.command_tree.CommandTree.{CommandTree}
use Rattle.script_reader.specs.declared.command_tree.CommandTree.TheVariants as tree

-- ---- a line says one thing

once : (text : List ℕ) (r : Result CommandTree ℕ) → IsWhole script_line text r → (t u : CommandTree) → script_line text t → script_line text u → t ≡ u
once text (Ok v) is t u x y = is.only t x ∙ sym (is.only u y)
once text (Err left) is t u x y = absurd (is.fault.outside (t, x))

pub line_once : (text : List ℕ) (t u : CommandTree) → script_line text t → script_line text u → t ≡ u
line_once text = once text (whole (script_line_at text)) (exact_whole script_line text (script_line_at text) (reads_script_line {text = text}).is)

-- ---- its query

-- the query of what is said is that of a text
abbrev HasText : CommandTree → Type 0
HasText said = (q : Question) → query_of said ≡ Some q → (text : List ℕ) × query text q

abbrev Asks : Grammar CommandTree → Type 0
Asks g = (t : List ℕ) (said : CommandTree) → g t said → HasText said

asks_or : (a b : Grammar CommandTree) → Asks a → Asks b → Asks (a ∣ b)
asks_or a b x y t said (inl s) = x t said s
asks_or a b x y t said (inr s) = y t said s

asks_then : {V : Type 0} (g : Grammar V) (h : V → Grammar CommandTree) → ((v : V) → Asks (h v)) → Asks (g >>= h)
asks_then g h x t said s = x s.met s.back said s.in_second

none : (c said : CommandTree) → query_of c ≡ None → said ≡ c → HasText said
none c said e is q some = absurd (let f : None ≡ Some q = sym e ∙ sym (ap query_of is) ∙ some in cc)

asks_nothing : (c : CommandTree) → query_of c ≡ None → Asks (means c)
asks_nothing c e t said s = none c said e s.1

asks_form : {V : Type 0} (g : Grammar V) (f : V → CommandTree) → ((v : V) → query_of (f v) ≡ None) → Asks (g >>= λ v. means (f v))
asks_form g f e = asks_then g (λ v. means (f v)) (λ v. asks_nothing (f v) (e v))

asks_query : (word : List ℕ) (c : Question → CommandTree) → ((q : Question) → query_of (c q) ≡ Some q) → Asks (with_query word c)
asks_query word c e t said s q some =
    let behind = s.in_first.in_second.in_second in
    let read : s.met ≡ behind.met = behind.in_second.in_second.1 in
    let same : Some s.met ≡ Some q = sym (e s.met) ∙ sym (ap query_of s.in_second.1) ∙ some in
    let is : s.met ≡ q = cc in
    (behind.front, subst (λ (x : Question). query behind.front x) (sym read ∙ is) behind.in_first)

asks_command : Asks command_text
asks_command =
    asks_or a_command _ (asks_or (with_row (codes "add") tree.Add) _ (asks_form _ (λ x. tree.Add x.0 x.1) (λ v. refl)) (asks_or (with_session (codes "abort") tree.Abort) _ (asks_form _ tree.Abort (λ v. refl)) (asks_query (codes "ask") tree.Ask (λ q. refl))))
    (asks_or (with_session (codes "begin") tree.Begin) _ (asks_form _ tree.Begin (λ v. refl))
    (asks_or c_command _ (asks_or (with_session (codes "commit") tree.Commit) _ (asks_form _ tree.Commit (λ v. refl)) (asks_form _ (λ _. tree.Check) (λ v. refl)))
    (asks_or d_command _ (asks_or (with_row (codes "del") tree.Del) _ (asks_form _ (λ x. tree.Del x.0 x.1) (λ v. refl)) (asks_form _ tree.Drop (λ v. refl)))
    (asks_or (alone (codes "ontology") tree.Ontology) _ (asks_form _ (λ _. tree.Ontology) (λ v. refl))
    (asks_or (with_query (codes "prepare") tree.Prepare) _ (asks_query (codes "prepare") tree.Prepare (λ q. refl))
    (asks_or r_command t_command (asks_or (with_handle (codes "run") tree.Run) _ (asks_form _ tree.Run (λ v. refl)) (asks_form _ (λ _. tree.Reopen) (λ v. refl)))
    (asks_or (alone (codes "tables") tree.Tables) _ (asks_form _ (λ _. tree.Tables) (λ v. refl)) (asks_form _ (λ _. tree.Tidy) (λ v. refl)))))))))

asks_line : Asks script_line
asks_line = asks_then _ _ (λ _. asks_or (means tree.Blank) _ (asks_nothing tree.Blank refl)
    (asks_or script_comment _ (asks_then _ _ (λ _. asks_then _ _ (λ _. asks_nothing tree.Blank refl))) asks_command))

-- the query of a line has an atom, and its variables are bare
pub is_question : (text : List ℕ) (said : CommandTree) → script_line text said → (q : Question) → query_of said ≡ Some q → (1 ≤ length q.atoms) × HasBareVariables q
is_question text said s q e =
    let found = asks_line text said s q e in
    (some_atoms found.0 q found.1, bare_variables found.0 q found.1)

-- ---- what is asked

pub asked_of : (text : List ℕ) (said : CommandTree) (r : Result Command QueryError) → script_line text said → IfOk r (λ c. (c ≡ command_of said) × ((q : Question) → query_of said ≡ Some q → IsQuery q)) → IfOk r (AsksCommand text)
asked_of text said (Ok c) says is = record { said = said; says = says; fits = is.1; is = is.0 }
asked_of text said (Err e) says is = tt

pub refused_of : (text : List ℕ) (said : CommandTree) (r : Result Command QueryError) → script_line text said → IfErr r (IsUnfitTree said) → IfErr r (IsRefusedLine text)
refused_of text said (Ok c) says is = tt
refused_of text said (Err (fault.Syntax place)) says is = absurd is
refused_of text said (Err fault.TooLarge) says is = (is.0, record { said = said; says = says; is = is.1 }, is.2)
refused_of text said (Err (fault.Unsafe v)) says is = (is.0, record { said = said; says = says; is = is.1 }, is.2, is.3)
refused_of text said (Err fault.NoMemory) says is = tt
