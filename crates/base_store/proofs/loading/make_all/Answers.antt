use Rattle.std.proofs.Common.{Bool, List, subst}
use Rattle.std.specs.Prelude.{MatchBool}
use Rattle.dl_base.specs.declared.row.NamedChange.{NamedChange}
use Rattle.txn_codec.specs.ChangeView.{change_viewed}
use Rattle.dl_base.specs.Numbers.{IsNamedBy}
use Rattle.base_store.proofs.Following.{AreMade, one_made}
use Rattle.base_store.proofs.loading.make_all.Goals as goal

pub loop-change-preserved : goal.loop-change-preserved
loop-change-preserved c =
    let o = c.args.ontology.now in
    let change = change_viewed c.in-Some.change in
    let named = subst (λ (b : Bool). MatchBool b (IsNamedBy o change.row) (IsNamedBy o change.row → ⊥)) c.if-not-branch.false c.in_ok-make.ensures.made in
    one_made o c.args.changes c.next.new.self change _ _ _ _ _ _
    (subst (λ (left : List NamedChange). AreMade o c.args.changes left c.args.individuals.now c.args.rows.now c.loop-change.individuals c.loop-change.rows) c.in-Some.ensures.steps c.loop-change.invariant)
    c.in_ok-make.ensures.names named (c.in_ok-make.ensures.follows c.if-not-branch.false)
