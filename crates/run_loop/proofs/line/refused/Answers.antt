use Rattle.std.proofs.Common.{subst}
use Rattle.cq_reader.specs.declared.query.QueryError.{QueryError}
use Rattle.script_reader.specs.Commands.{IsRefusedLine}
use Rattle.run_loop.proofs.LineSaid.{says_syntax, says_large, says_unsafe}
use Rattle.run_loop.proofs.line.refused.Goals as goal

pub returns-in-Syntax : goal.returns-in-Syntax
returns-in-Syntax c = λ text is. says_syntax text c.in-Syntax.place (subst (λ (e : QueryError). IsRefusedLine text e) c.in-Syntax.is is)

pub returns-in-TooLarge : goal.returns-in-TooLarge
returns-in-TooLarge c = λ text is. says_large text (subst (λ (e : QueryError). IsRefusedLine text e) c.in-TooLarge.is is)

pub returns-in-Unsafe : goal.returns-in-Unsafe
returns-in-Unsafe c = λ text is. says_unsafe text c.in-Unsafe.v (subst (λ (e : QueryError). IsRefusedLine text e) c.in-Unsafe.is is)
