use Rattle.std.proofs.Common.{◌≡◌, true, sym, subst, List, Contains}
use Rattle.dl_base.specs.declared.query.Term.{Term}
use Rattle.cq_reader.proofs.LimitRules.{distinct_known, distinct_added}
use Rattle.cq_reader.proofs.limits.add_term.Goals as goal

pub returns-then-has_term : goal.returns-then-has_term
returns-then-has_term c = λ all a.
    distinct_known all c.args.found.now c.args.term.now (subst (λ (l : List Term). Contains l c.args.term.now) c.items.ensures (c.has_term.ensures.0 c.if-has_term.true)) a

pub returns : goal.returns
returns c = λ all a.
    let absent : Contains c.args.found.now c.args.term.now → ⊥ =
    λ there. let yes : c.has_term.result ≡ true = c.has_term.ensures.1 (subst (λ (l : List Term). Contains l c.args.term.now) (sym c.items.ensures) there) in let no = c.if-has_term.false in absurd (cc) in
    rw (c.in_ok-push.ensures.ok, c.in_ok-copy.ensures) (distinct_added all c.args.found.now c.args.term.now absent a)
