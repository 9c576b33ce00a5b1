-- What a line of a script is, by the command that it asks.
use Rattle.std.proofs.Common.{◌≡◌, ◌≤◌, ℕ, List, Some, refl, sym, ap, subst, inl, inr}
use Rattle.std.specs.Prelude.{codes}
use Rattle.grammar.specs.Grammar.{Grammar, ◌>>=◌, ◌∣◌, means}
use Rattle.dl_base.specs.declared.row.NamedRow.{NamedRow}
use Rattle.cq_reader.specs.declared.query.QueryError.TheVariants as fault
use Rattle.reply_text.specs.declared.reply.Refusal.TheVariants as refusal
use Rattle.script_reader.specs.Commands.{session_and_blanks, session_and_row, with_query, with_session, with_row, with_handle, alone, script_comment, a_command, c_command, d_command, r_command, t_command, command_text, script_line, command_of, AsksCommand, IsRefusedLine}
use Rattle.script_reader.specs.Requests.{Asks, IsAlone}
use Rattle.script_reader.specs.declared.command.Command.{Command}
use Rattle.script_reader.specs.declared.command.Command.TheVariants as command
use Rattle.script_reader.specs.declared.command_tree.CommandTree.{CommandTree}
use Rattle.script_reader.specs.declared.command_tree.CommandTree.TheVariants as tree
use Rattle.script_reader.specs.declared.request.Request.TheVariants as request
use Rattle.base_engine.specs.Requests.{IsGivenCommand}
use Rattle.run_loop.specs.Taking.{ReadsLine, Says}
use Rattle.run_loop.specs.declared.line.Said.{Said}
use Rattle.run_loop.specs.declared.line.Said.TheVariants as said

-- ---- sessions are from 0 to 15

session_bound : (word t : List ℕ) (k : ℕ) → session_and_blanks word t k → k ≤ 15
session_bound word t k s = let n = s.in_second.in_second in subst (λ (x : ℕ). x ≤ 15) (sym n.in_second.in_second.1) n.in_first.1

row_bound : (word t : List ℕ) (x : ℕ × NamedRow) → session_and_row word t x → x.0 ≤ 15
row_bound word t x s =
    let n = s.in_second.in_second in
    let same : x.0 ≡ n.met = ap (λ (p : ℕ × NamedRow). p.0) n.in_second.in_second.in_second.1 in
    subst (λ (m : ℕ). m ≤ 15) (sym same) n.in_first.1

abbrev IsGivenTree : CommandTree → Type 0
IsGivenTree said = IsAlone (command_of said) → IsGivenCommand (command_of said)

abbrev Gives : Grammar CommandTree → Type 0
Gives g = (t : List ℕ) (said : CommandTree) → g t said → IsGivenTree said

gives_or : (a b : Grammar CommandTree) → Gives a → Gives b → Gives (a ∣ b)
gives_or a b x y t said (inl s) = x t said s
gives_or a b x y t said (inr s) = y t said s

gives_then : {V : Type 0} (g : Grammar V) (h : V → Grammar CommandTree) → ((v : V) → Gives (h v)) → Gives (g >>= h)
gives_then g h x t said s = x s.met s.back said s.in_second

gives_means : (c : CommandTree) → IsGivenTree c → Gives (means c)
gives_means c given t said s = subst IsGivenTree (sym s.1) given

gives_form : {V : Type 0} (g : Grammar V) (f : V → CommandTree) → ((v : V) → IsGivenTree (f v)) → Gives (g >>= λ v. means (f v))
gives_form g f given = gives_then g (λ v. means (f v)) (λ v. gives_means (f v) (given v))

gives_session : (word : List ℕ) (c : ℕ → CommandTree) → ((k : ℕ) → k ≤ 15 → IsGivenTree (c k)) → Gives (with_session word c)
gives_session word c given t said s = subst IsGivenTree (sym s.in_second.1) (given s.met (session_bound word s.front s.met s.in_first))

gives_row : (word : List ℕ) (c : ℕ → NamedRow → CommandTree) → ((k : ℕ) (r : NamedRow) → k ≤ 15 → IsGivenTree (c k r)) → Gives (with_row word c)
gives_row word c given t said s = subst IsGivenTree (sym s.in_second.1) (given s.met.0 s.met.1 (row_bound word s.front s.met s.in_first))

gives_command : Gives command_text
gives_command =
    gives_or a_command _ (gives_or (with_row (codes "add") tree.Add) _ (gives_row (codes "add") tree.Add (λ k r le _. le)) (gives_or (with_session (codes "abort") tree.Abort) _ (gives_session (codes "abort") tree.Abort (λ k le _. le)) (gives_form _ tree.Ask (λ q _. tt))))
    (gives_or (with_session (codes "begin") tree.Begin) _ (gives_session (codes "begin") tree.Begin (λ k le _. le))
    (gives_or c_command _ (gives_or (with_session (codes "commit") tree.Commit) _ (gives_session (codes "commit") tree.Commit (λ k le _. le)) (gives_form _ (λ _. tree.Check) (λ v _. tt)))
    (gives_or d_command _ (gives_or (with_row (codes "del") tree.Del) _ (gives_row (codes "del") tree.Del (λ k r le _. le)) (gives_form _ tree.Drop (λ v _. tt)))
    (gives_or (alone (codes "ontology") tree.Ontology) _ (gives_form _ (λ _. tree.Ontology) (λ v no. no))
    (gives_or (with_query (codes "prepare") tree.Prepare) _ (gives_form _ tree.Prepare (λ q _. tt))
    (gives_or r_command t_command (gives_or (with_handle (codes "run") tree.Run) _ (gives_form _ tree.Run (λ v _. tt)) (gives_form _ (λ _. tree.Reopen) (λ v _. tt)))
    (gives_or (alone (codes "tables") tree.Tables) _ (gives_form _ (λ _. tree.Tables) (λ v _. tt)) (gives_form _ (λ _. tree.Tidy) (λ v _. tt)))))))))

gives_line : Gives script_line
gives_line = gives_then _ _ (λ _. gives_or (means tree.Blank) _ (gives_means tree.Blank (λ no. no))
    (gives_or script_comment _ (gives_then _ _ (λ _. gives_then _ _ (λ _. gives_means tree.Blank (λ no. no)))) gives_command))

-- ---- what a line is

blank_is : (said : CommandTree) → command.Blank ≡ command_of said → said ≡ tree.Blank
blank_is tree.Blank e = refl
blank_is tree.Ontology e = absurd cc
blank_is (tree.Begin k) e = absurd cc
blank_is (tree.Add k r) e = absurd cc
blank_is (tree.Del k r) e = absurd cc
blank_is (tree.Commit k) e = absurd cc
blank_is (tree.Abort k) e = absurd cc
blank_is (tree.Ask q) e = absurd cc
blank_is (tree.Prepare q) e = absurd cc
blank_is (tree.Run h) e = absurd cc
blank_is (tree.Drop h) e = absurd cc
blank_is tree.Check e = absurd cc
blank_is tree.Tables e = absurd cc
blank_is tree.Tidy e = absurd cc
blank_is tree.Reopen e = absurd cc

ontology_is : (said : CommandTree) → command.Ontology ≡ command_of said → said ≡ tree.Ontology
ontology_is tree.Blank e = absurd cc
ontology_is tree.Ontology e = refl
ontology_is (tree.Begin k) e = absurd cc
ontology_is (tree.Add k r) e = absurd cc
ontology_is (tree.Del k r) e = absurd cc
ontology_is (tree.Commit k) e = absurd cc
ontology_is (tree.Abort k) e = absurd cc
ontology_is (tree.Ask q) e = absurd cc
ontology_is (tree.Prepare q) e = absurd cc
ontology_is (tree.Run h) e = absurd cc
ontology_is (tree.Drop h) e = absurd cc
ontology_is tree.Check e = absurd cc
ontology_is tree.Tables e = absurd cc
ontology_is tree.Tidy e = absurd cc
ontology_is tree.Reopen e = absurd cc

says_alone : (text : List ℕ) (c : Command) (s : Said) → AsksCommand text c → ReadsLine c s → IsAlone c → Says (Some text) s
says_alone text c s asks reads alone =
    let given = gives_line text asks.said asks.says (subst IsAlone asks.is alone) in
    subst (Says (Some text)) (sym (reads.alone alone)) (Asks.plain asks alone, subst IsGivenCommand (sym asks.is) given)

pub says_of : (text : List ℕ) (c : Command) (s : Said) → AsksCommand text c → ReadsLine c s → Says (Some text) s
says_of text command.Blank s asks reads = subst (Says (Some text)) (sym (reads.blank refl)) (subst (script_line text) (blank_is asks.said asks.is) asks.says)
says_of text command.Ontology s asks reads = subst (Says (Some text)) (sym (reads.opens refl)) (subst (script_line text) (ontology_is asks.said asks.is) asks.says)
says_of text (command.Begin k) s asks reads = says_alone text (command.Begin k) s asks reads tt
says_of text (command.Add k r) s asks reads = says_alone text (command.Add k r) s asks reads tt
says_of text (command.Del k r) s asks reads = says_alone text (command.Del k r) s asks reads tt
says_of text (command.Commit k) s asks reads = says_alone text (command.Commit k) s asks reads tt
says_of text (command.Abort k) s asks reads = says_alone text (command.Abort k) s asks reads tt
says_of text (command.Ask q) s asks reads = says_alone text (command.Ask q) s asks reads tt
says_of text (command.Prepare q) s asks reads = says_alone text (command.Prepare q) s asks reads tt
says_of text (command.Run h) s asks reads = says_alone text (command.Run h) s asks reads tt
says_of text (command.Drop h) s asks reads = says_alone text (command.Drop h) s asks reads tt
says_of text command.Check s asks reads = says_alone text command.Check s asks reads tt
says_of text command.Tables s asks reads = says_alone text command.Tables s asks reads tt
says_of text command.Tidy s asks reads = says_alone text command.Tidy s asks reads tt
says_of text command.Reopen s asks reads = says_alone text command.Reopen s asks reads tt

-- ---- why a line is refused

pub says_syntax : (text : List ℕ) (place : ℕ) → IsRefusedLine text (fault.Syntax place) → Says (Some text) (said.Asks (request.Bad (refusal.Syntax place)))
says_syntax text place is = subst (λ (n : ℕ). Says (Some text) (said.Asks (request.Bad (refusal.Syntax n)))) (sym is.1) (Asks.no_command is.0 is.2, tt)

pub says_large : (text : List ℕ) → IsRefusedLine text fault.TooLarge → Says (Some text) (said.Asks (request.Bad refusal.QueryTooLarge))
says_large text is = (Asks.too_large is.0 is.1 is.2, tt)

pub says_unsafe : (text v : List ℕ) → IsRefusedLine text (fault.Unsafe v) → Says (Some text) (said.Asks (request.Bad (refusal.UnsafeVariable v)))
says_unsafe text v is = (Asks.unsafe is.0 is.1 is.2 is.3, tt)
