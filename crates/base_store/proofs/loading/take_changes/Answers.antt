use Rattle.std.proofs.Common.{All, Bool, subst}
use Rattle.std.specs.Prelude.{MatchBool}
use Rattle.dl_base.specs.Numbers.{IsNamedBy}
use Rattle.base_store.specs.Loading.{FollowsChanges}
use Rattle.base_store.proofs.Taking.{has_next, judged_unless}
use Rattle.base_store.proofs.loading.take_changes.Goals as goal

pub returns-clause-taken : goal.returns-clause-taken
returns-clause-taken c = λ before has.
    let o = c.args.ontology.now in
    let cs = c.args.changes in
    let follows = subst (λ (b : Bool). MatchBool b (FollowsChanges o cs c.args.individuals.now c.args.rows.now c.make_all.new.individuals c.make_all.new.rows) (All (λ ch. IsNamedBy o ch.row) cs → ⊥)) c.if-not-branch.false c.in_ok-make_all.ensures.made in
    judged_unless o before cs c.make_all.new.individuals c.make_all.new.rows c.are_few.new.rows c.are_few.result c.concepts.ensures.within c.requires.few
    (c.in_ok-make_all.ensures.named c.if-not-branch.false) (has_next o before cs _ _ _ _ follows has) c.are_few.ensures.few c.are_few.ensures.rows c.are_few.ensures.rising
