use Rattle.std.proofs.Common.{arith}
use Rattle.run_loop.proofs.TakenLemmas.{has_none, takes_within}
use Rattle.run_loop.proofs.OpenLemmas.{ran_none}
use Rattle.run_loop.proofs.running.run_loaded.Goals as goal

pub returns-in_default-clause-run : goal.returns-in_default-clause-run
returns-in_default-clause-run g c = λ start a s stands serves input told. ran_none g.H.Host.disk g.H.Host.printed g.H.Host.clock g.H.Host.might start a s input _ c.args.host.now serves told

pub returns-in_default-vec-clause-run : goal.returns-in_default-vec-clause-run
returns-in_default-vec-clause-run g c = λ start a s stands serves input told. ran_none g.H.Host.disk g.H.Host.printed g.H.Host.clock g.H.Host.might start a s input _ c.args.host.now serves told

pub returns-in_default-clause-takes_input : goal.returns-in_default-clause-takes_input
returns-in_default-clause-takes_input g c = λ input is. takes_within _ input 0 _ (has_none input _ is) (omega arith) (λ no. cc) (λ no. cc)

pub returns-in_default-vec-clause-takes_input : goal.returns-in_default-vec-clause-takes_input
returns-in_default-vec-clause-takes_input g c = λ input is. takes_within _ input 0 _ (has_none input _ is) (omega arith) (λ no. cc) (λ no. cc)
