use Rattle.std.proofs.Common.{All, sym, subst}
use Rattle.std.proofs.lemmas.Result.{IfOk-weaker}
use Rattle.dl_base.specs.Ontology.{Terminology}
use Rattle.dl_base.specs.Numbers.{IsNamedBy}
use Rattle.kept_base.specs.Committing.{JudgesChanges}
use Rattle.kept_base.specs.declared.contents.Judged.{Judged}
use Rattle.kept_base.specs.declared.contents.Judged.TheVariants as judged
use Rattle.kept_base.proofs.ContentsLemmas.{can_renew, makes, makes_none, session_few, session_named}
use Rattle.kept_base.proofs.contents.Contents.make.Goals as goal

pub judge-requires-clause-few : goal.judge-requires-clause-few
judge-requires-clause-few g c = session_few c.args.self.now c.args.store.now c.args.session c.requires.sound c.in-Some-Some.reasoner c.in-Some-Some.is-0 c.in-Some-Some.changes.now c.in-Some-Some.ensures

pub judge-requires-clause-named : goal.judge-requires-clause-named
judge-requires-clause-named g c =
    subst (λ (t : Terminology). All (λ ch. IsNamedBy t ch.row) c.in-Some-Some.changes.now) (sym c.ontology-ontology.ensures)
    (session_named c.args.self.now c.args.store.now c.args.session c.requires.sound c.in-Some-Some.reasoner c.in-Some-Some.is-0 c.in-Some-Some.changes.now c.in-Some-Some.ensures)

pub take-requires-clause-can : goal.take-requires-clause-can
take-requires-clause-can g c =
    let old = c.args.self.now in
    let changes = c.in-Some-Some.changes.now in
    let judges = subst (λ (j : Judged). JudgesChanges c.ontology-ontology.result.now old.individuals c.args.store.now changes old.rows c.judge.new.rows j) c.in-Fit.is c.in_ok-refusal.ensures in
    let fits = subst (λ (t : Terminology). JudgesChanges t old.individuals c.args.store.now changes old.rows c.judge.new.rows (judged.Fit c.in-Fit.made)) c.ontology-ontology.ensures judges in
    can_renew old c.args.store.now c.args.session c.requires.sound c.in-Some-Some.reasoner c.in-Some-Some.is-0 changes c.in-Some-Some.ensures c.requires.few c.judge.new.rows c.in-Fit.made fits.0

pub returns-in-Refused-clause-made : goal.returns-in-Refused-clause-made
returns-in-Refused-clause-made g c =
    let old = c.args.self.now in
    let changes = c.in-Some-Some.changes.now in
    let judges = subst (λ (j : Judged). JudgesChanges c.ontology-ontology.result.now old.individuals c.args.store.now changes old.rows c.judge.new.rows j) c.in-Refused.is c.in_ok-refusal.ensures in
    let passes = subst (λ (t : Terminology). JudgesChanges t old.individuals c.args.store.now changes old.rows c.judge.new.rows (judged.Refused c.in-Refused.refusal)) c.ontology-ontology.ensures judges in
    makes_none old c.args.store.now c.args.session c.requires.sound c.in-Some-Some.reasoner c.in-Some-Some.is-0 changes c.in-Some-Some.ensures c.judge.new.rows c.in-Refused.refusal passes.0 passes.1

pub returns-in-Fit-clause-made : goal.returns-in-Fit-clause-made
returns-in-Fit-clause-made g c =
    let old = c.args.self.now in
    let changes = c.in-Some-Some.changes.now in
    let judges = subst (λ (j : Judged). JudgesChanges c.ontology-ontology.result.now old.individuals c.args.store.now changes old.rows c.judge.new.rows j) c.in-Fit.is c.in_ok-refusal.ensures in
    let fits = subst (λ (t : Terminology). JudgesChanges t old.individuals c.args.store.now changes old.rows c.judge.new.rows (judged.Fit c.in-Fit.made)) c.ontology-ontology.ensures judges in
    IfOk-weaker c.take.result _ _ (makes old c.args.store.now c.args.session c.requires.sound c.in-Some-Some.reasoner c.in-Some-Some.is-0 changes c.in-Some-Some.ensures c.requires.few c.judge.new.rows c.in-Fit.made fits.0 fits.1 c.take.new.self) c.take.ensures.takes
