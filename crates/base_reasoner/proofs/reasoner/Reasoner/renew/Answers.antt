use Rattle.std.proofs.Common.{sym, ◌∙◌, ap, subst}
use Rattle.completion.specs.Completed.{IsCompletionOf}
use Rattle.completion.specs.Named.{IsNamedCompletion}
use Rattle.dl_base.specs.Numbers.{StandFor}
use Rattle.dl_base.specs.Ontology.{Terminology}
use Rattle.witness_book.specs.Witnesses.{SetsLive}
use Rattle.base_reasoner.specs.Reasoned.{Reasoned}
use Rattle.base_reasoner.proofs.reasoner.Reasoner.renew.Goals as goal

pub returns-clause-renewed : goal.returns-clause-renewed
returns-clause-renewed g c =
    let same = c.self.invariant.rules_are ∙ ap (λ (r : Reasoned). r.ontology) c.self.view_is in
    let t = c.in_ok-self-inside.field-0 in
    let made = c.in_ok-self-inside.ensures in
    record {
      ontology_stays = ap (λ (r : Reasoned). r.ontology) c.self.view_is;
      tables = subst (λ (o : Terminology). IsCompletionOf o c.args.rows.now t) same made.completion;
      named = λ names these stand.
          subst (λ (o : Terminology). IsNamedCompletion o names these t) same (made.named names these (subst (λ (o : Terminology). StandFor o names c.args.rows.now these) (sym same) stand));
      live = subst (λ (r : Reasoned). SetsLive r.tables.book t.book.live t.book) c.self.view_is made.book;
    }
