use Rattle.std.proofs.Common.{◌+◌, ◌++◌, ℕ, Contains, subst, sym}
use Rattle.dl_base.specs.Book.{Interns}
use Rattle.row_changes.proofs.NumberLemmas.{interned_distinct, interns_behind}
use Rattle.row_changes.proofs.numbers.intern.Goals as goal

pub returns-in_ok-behind-in-None-clause-interns : goal.returns-in_ok-behind-in-None-clause-interns
returns-in_ok-behind-in-None-clause-interns c =
    subst (λ (n : ℕ). Interns (c.args.individuals.now ++ c.args.newcomers.now) c.args.name.now (c.args.individuals.now ++ c.intern.new.self) (n + c.in_ok-behind-in-None.behind)) (sym c.len.ensures.len)
    (interns_behind c.args.individuals.now c.args.newcomers.now c.intern.new.self c.args.name.now c.in_ok-behind-in-None.behind
    (λ there. c.in-None.ensures (subst (Contains c.args.individuals.now) (sym c.bytes.ensures.bytes) there)) c.in_ok-behind-in-None.ensures.ok)

pub returns-in_ok-behind-in-None-clause-distinct : goal.returns-in_ok-behind-in-None-clause-distinct
returns-in_ok-behind-in-None-clause-distinct c =
    interned_distinct _ _ c.args.name.now _ c.requires.distinct
    (interns_behind c.args.individuals.now c.args.newcomers.now c.intern.new.self c.args.name.now c.in_ok-behind-in-None.behind
    (λ there. c.in-None.ensures (subst (Contains c.args.individuals.now) (sym c.bytes.ensures.bytes) there)) c.in_ok-behind-in-None.ensures.ok)
