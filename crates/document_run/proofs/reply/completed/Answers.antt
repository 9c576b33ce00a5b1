use Rattle.std.proofs.Common.{sym, subst}
use Rattle.dl_base.specs.Ontology.{Terminology}
use Rattle.completion.specs.Named.{IsNamedCompletion}
use Rattle.dl_base.specs.Numbers.{StandFor}
use Rattle.document_run.proofs.reply.completed.Goals as goal

pub returns-clause-kept : goal.returns-clause-kept
returns-clause-kept g c = λ n. (c.in_ok-tables.ensures.completion.individuals.each n).0

pub returns-clause-named : goal.returns-clause-named
returns-clause-named g c = λ names these stand.
    subst (λ (o : Terminology). IsNamedCompletion o names these c.in_ok-tables.tables) c.in_ok-rules.ensures
    (c.in_ok-tables.ensures.named names these (subst (λ (o : Terminology). StandFor o names c.args.rows.now these) (sym c.in_ok-rules.ensures) stand))
