use Rattle.std.proofs.Common.{List, All, sym, subst}
use Rattle.std.proofs.lemmas.List.Elements.{All-nil}
use Rattle.std.proofs.lemmas.Result.{IfOk-weaker}
use Rattle.completion.specs.Numbered.{IsRowOf}
use Rattle.dl_base.specs.declared.row.Row.{Row}
use Rattle.kept_base.specs.Opening.{IsReasonerOf}
use Rattle.kept_base.proofs.contents.first_reasoner.Goals as goal

pub counted-requires-clause-within : goal.counted-requires-clause-within
counted-requires-clause-within c = subst (λ (rows : List Row). All (IsRowOf c.args.ontology) rows) (sym c.new-rows.ensures) (All-nil (IsRowOf c.args.ontology))

pub returns : goal.returns
returns c = IfOk-weaker c.counted.result _ _ (λ x of. subst (λ (rows : List Row). IsReasonerOf c.args.ontology rows x) c.new-rows.ensures of) c.counted.ensures
