use Rattle.std.proofs.Common.{Bool, subst, sym}
use Rattle.txn_codec.specs.ChangeView.{row_viewed}
use Rattle.base_store.specs.Loading.{FollowsChange}
use Rattle.base_store.proofs.Following.{place_named}
use Rattle.base_store.proofs.loading.make.Goals as goal

pub returns-in_ok-add_row-clause-follows : goal.returns-in_ok-add_row-clause-follows
returns-in_ok-add_row-clause-follows c = λ yes.
    let o = c.args.ontology.now in
    subst (λ (b : Bool). FollowsChange o (record { add = b; row = row_viewed c.args.change.now.row }) c.args.individuals.now c.args.rows.now c.add_row.new.individuals c.add_row.new.rows) (sym c.if-change.true)
    (c.in_ok-add_row.ensures.added o c.in-Some.ensures.is)

pub returns-in_ok-remove_row-clause-made : goal.returns-in_ok-remove_row-clause-made
returns-in_ok-remove_row-clause-made c = place_named c.args.ontology.now (row_viewed c.args.change.now.row) c.in-Some.place c.in-Some.ensures.is

pub returns-in_ok-remove_row-clause-follows : goal.returns-in_ok-remove_row-clause-follows
returns-in_ok-remove_row-clause-follows c = λ yes.
    let o = c.args.ontology.now in
    subst (λ (b : Bool). FollowsChange o (record { add = b; row = row_viewed c.args.change.now.row }) c.args.individuals.now c.args.rows.now c.args.individuals.now c.remove_row.new.rows) (sym c.if-change.false)
    (c.in_ok-remove_row.ensures o c.in-Some.ensures.within c.in-Some.ensures.is)
