use Rattle.std.proofs.Common.{◌≡◌, ◌+◌, ℕ, List, Contains, slice_get, Some, take, subst, sym, refl}
use Rattle.std.specs.List.{AllZip}
use Rattle.std.proofs.lemmas.Option.{slice_get_read}
use Rattle.dl_base.specs.declared.query.Term.TheVariants as term
use Rattle.answer_core.proofs.ListLemmas.{zip_more}
use Rattle.answer_core.proofs.bound.variable_numbers.Goals as goal

pub variable_number-requires : goal.variable_number-requires
variable_number-requires c =
    subst (λ (v : List ℕ). Contains c.args.shape.now.terms (term.Var v)) (sym c.var-item.is) (c.requires c.loop-var.var-index c.var-item.result c.loop-var-test.true)

pub loop-var-preserved : goal.loop-var-preserved
loop-var-preserved c =
    let at : slice_get c.args.vars.now c.loop-var.var-index ≡ Some c.var-item.result = slice_get_read c.args.vars.now _ c.loop-var.var-index c.var-item.result refl c.loop-var-test.true c.var-item.is in
    subst (λ (ns : List ℕ). AllZip (λ v n. slice_get c.args.shape.now.terms n ≡ Some (term.Var v)) (take (c.loop-var.var-index + 1) c.args.vars.now) ns) (sym c.in_ok-push.ensures.ok)
    (zip_more (λ v n. slice_get c.args.shape.now.terms n ≡ Some (term.Var v)) c.args.vars.now c.loop-var.numbers c.loop-var.var-index c.var-item.result c.variable_number.result
    c.loop-var.invariant at c.variable_number.ensures)
