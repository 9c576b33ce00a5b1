use Rattle.std.proofs.Common.{◌++◌, Bool, subst, sym}
use Rattle.base_store.specs.Loading.{FollowsChange}
use Rattle.base_store.proofs.Following.{absent_follows, added_follows, removed_follows}
use Rattle.row_changes.proofs.changes.make_change.Goals as goal

pub returns-in_ok-add-clause-follows : goal.returns-in_ok-add-clause-follows
returns-in_ok-add-clause-follows c =
    let o = c.args.ontology.now in
    subst (λ (b : Bool). FollowsChange o (record { add = b; row = c.args.change.now.row }) (c.args.individuals.now ++ c.args.made.now.newcomers) c.args.rows.now (c.args.individuals.now ++ c.number.new.newcomers) c.add.new.rows) (sym c.if-change.true)
    (added_follows o _ _ _ _ _ _ c.in_ok-row.ensures.names c.in_ok-row.ensures.distinct (c.in_ok-row.ensures.numbers o c.in-Some.ensures.place) c.in_ok-add.ensures.rows)

pub returns-in_ok-del-clause-follows : goal.returns-in_ok-del-clause-follows
returns-in_ok-del-clause-follows c =
    let o = c.args.ontology.now in
    let book = c.args.individuals.now ++ c.args.made.now.newcomers in
    subst (λ (b : Bool). FollowsChange o (record { add = b; row = c.args.change.now.row }) book c.args.rows.now book c.del.new.rows) (sym c.if-change.false)
    (removed_follows o _ _ _ c.in-Some.ensures.within _ _ (c.in-Some-known.ensures o c.in-Some.ensures.place) c.in_ok-del.ensures.rows)

pub returns-in_default-known-clause-follows : goal.returns-in_default-known-clause-follows
returns-in_default-known-clause-follows c =
    let o = c.args.ontology.now in
    let book = c.args.individuals.now ++ c.args.made.now.newcomers in
    subst (λ (b : Bool). FollowsChange o (record { add = b; row = c.args.change.now.row }) book c.args.rows.now book c.args.rows.now) (sym c.if-change.false)
    (absent_follows o _ _ _ (c.in_default-known.ensures o c.in-Some.ensures.place))
