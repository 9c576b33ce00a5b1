use Rattle.std.proofs.Common.{ℕ, List, All, Contains, arith, subst}
use Rattle.std.proofs.lemmas.List.{take_all}
use Rattle.std.proofs.lemmas.List.Elements.{All-more}
use Rattle.dl_base.specs.declared.query.Term.TheVariants.{Var}
use Rattle.cq_reader.proofs.limits.first_unbound.Goals as goal

pub loop-place-preserved : goal.loop-place-preserved
loop-place-preserved c =
    let var = c.index-answers-place.result in
    let here : Contains c.args.terms.now (Var var) = c.is_bound.ensures.0 c.if-not-is_bound.false in (
      omega (arith, c.loop-place-test.true),
      All-more (λ v. Contains c.args.terms.now (Var v)) c.args.answers.now c.loop-place.place var c.loop-place-test.true c.loop-place.invariant.1
          (subst (λ (v : List ℕ). Contains c.args.terms.now (Var v)) c.index-answers-place.is here),
    )

pub returns : goal.returns
returns c =
    subst (λ (l : List (List ℕ)). All (λ v. Contains c.args.terms.now (Var v)) l) (take_all c.loop-place.place c.args.answers.now c.loop-place-test.false) c.loop-place.invariant.1
