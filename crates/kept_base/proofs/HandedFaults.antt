-- The faults of a commit or a block, handed on by a step.
use Rattle.std.proofs.Common.{◌≡◌, ◌⊎◌, inl, inr, ℕ, Result, Ok, Err, refl, sym, ◌∙◌, ap}
use Rattle.std.specs.Prelude.{IsErrAnd, IsErrOf}
use Rattle.script_reader.specs.declared.command.Command.{Command}
use Rattle.script_reader.specs.declared.command.Command.TheVariants as command
use Rattle.script_reader.specs.declared.request.Request.TheVariants as request
use Rattle.base_engine.specs.Calls.{TouchesArea}
use Rattle.base_engine.specs.Faults.{end_of_commit}
use Rattle.base_engine.specs.declared.engine.CommitFault.{CommitFault}
use Rattle.base_engine.specs.declared.engine.CommitFault.TheVariants as commit
use Rattle.base_engine.specs.declared.engine.EndFault.{EndFault}
use Rattle.base_engine.specs.declared.engine.EndFault.TheVariants as end

is_error : {T E : Type 0} (result : Result T E) (f : E) → IsErrAnd result (λ e. e ≡ f) → result ≡ Err f
is_error (Ok v) f is = absurd is
is_error (Err e) f is = ap (λ x. Err x) is

module _ {T : Type 0} (result : Result T EndFault) (f : CommitFault) (handed : IsErrAnd result (λ e. e ≡ end_of_commit f)) where
  was : result ≡ Err (end_of_commit f)
  was = is_error result (end_of_commit f) handed

  pub ended_no_memory : {U : Type 0} → IsErrOf result end.NoMemory → IsErrOf {T = U} (Err f) commit.NoMemory
  ended_no_memory {U} is = by f was
    where
      by : (g : CommitFault) → result ≡ Err (end_of_commit g) → IsErrOf {T = U} (Err g) commit.NoMemory
      by commit.NoMemory same = refl
      by commit.DiskFault same = absurd (let clash = sym same ∙ is in cc)

  pub ended_disk_fault : {U : Type 0} → IsErrOf result end.DiskFault → IsErrOf {T = U} (Err f) commit.DiskFault
  ended_disk_fault {U} is = by f was
    where
      by : (g : CommitFault) → result ≡ Err (end_of_commit g) → IsErrOf {T = U} (Err g) commit.DiskFault
      by commit.DiskFault same = refl
      by commit.NoMemory same = absurd (let clash = sym same ∙ is in cc)

  pub ended_no_damage : (area at : ℕ) → result ≡ Err (end.Damaged area at) → ⊥
  ended_no_damage area at is = by f was
    where
      by : (g : CommitFault) → result ≡ Err (end_of_commit g) → ⊥
      by commit.DiskFault same = (let clash = sym same ∙ is in cc)
      by commit.NoMemory same = (let clash = sym same ∙ is in cc)

  pub ended_stays : {U : Type 0} (X : Type 0) → IsErrOf {T = U} (Err f) commit.DiskFault ⊎ X → IsErrOf result end.DiskFault ⊎ X
  ended_stays {U} X (inr stays) = inr stays
  ended_stays {U} X (inl is) = inl (by f was is)
    where
      by : (g : CommitFault) → result ≡ Err (end_of_commit g) → IsErrOf {T = U} (Err g) commit.DiskFault → IsErrOf result end.DiskFault
      by commit.DiskFault same fault = same
      by commit.NoMemory same fault = absurd (let clash = fault in cc)

-- ---- want of memory, handed on

module _ {T : Type 0} (result : Result T EndFault) (handed : IsErrAnd result (λ e. e ≡ end.NoMemory)) where
  pub memory_no_fault : IsErrOf result end.DiskFault → ⊥
  memory_no_fault is = (let clash = sym (is_error result end.NoMemory handed) ∙ is in cc)

  pub memory_no_damage : (area at : ℕ) → result ≡ Err (end.Damaged area at) → ⊥
  memory_no_damage area at is = (let clash = sym (is_error result end.NoMemory handed) ∙ is in cc)

-- what is well isn't a fault
pub no_error : {T E : Type 0} {e : E} (v : T) → Ok v ≡ Err e → ⊥
no_error v is = cc

-- ---- commands that leave the area alone

pub leaves_area : (c : Command) → ((k : ℕ) → c ≡ command.Commit k → ⊥) → (c ≡ command.Reopen → ⊥) → TouchesArea (request.Plain c) → ⊥
leaves_area command.Blank not_commit not_reopen touches = touches
leaves_area command.Ontology not_commit not_reopen touches = touches
leaves_area (command.Begin k) not_commit not_reopen touches = touches
leaves_area (command.Add k r) not_commit not_reopen touches = touches
leaves_area (command.Del k r) not_commit not_reopen touches = touches
leaves_area (command.Commit k) not_commit not_reopen touches = not_commit k refl
leaves_area (command.Abort k) not_commit not_reopen touches = touches
leaves_area (command.Ask q) not_commit not_reopen touches = touches
leaves_area (command.Prepare q) not_commit not_reopen touches = touches
leaves_area (command.Run h) not_commit not_reopen touches = touches
leaves_area (command.Drop h) not_commit not_reopen touches = touches
leaves_area command.Check not_commit not_reopen touches = touches
leaves_area command.Tables not_commit not_reopen touches = touches
leaves_area command.Tidy not_commit not_reopen touches = touches
leaves_area command.Reopen not_commit not_reopen touches = not_reopen refl
