use Rattle.query_shape.proofs.NumberingLemmas.{layout_of}
use Rattle.answer_core.proofs.TermLemmas.{answers_occur, numbers_within}
use Rattle.answer_core.proofs.bound.bind.Goals as goal

pub variable_numbers-requires : goal.variable_numbers-requires
variable_numbers-requires g c =
    answers_occur c.args.q.now c.in_ok-shape.shape.terms c.answers.ensures.query c.in_ok-shape.ensures.ok.terms_are c.answers.result.now c.answers.ensures.places

pub invariant_of-result : goal.invariant_of-result
invariant_of-result g c = record {
  bound = record {
    layout = layout_of c.args.o.now c.args.q.now c.in_ok-shape.shape c.answers.ensures.query c.in_ok-shape.ensures.ok;
    within = numbers_within c.in_ok-shape.shape.terms c.answers.result.now c.in_ok-answers.answers c.in_ok-answers.ensures;
  };
  plan = c.in_ok-plan.ensures.plan;
  trees_are = c.in_ok-trees.ensures;
}

pub plan-requires : goal.plan-requires
plan-requires g c = rw c.items.ensures (numbers_within c.in_ok-shape.shape.terms c.answers.result.now c.in_ok-answers.answers c.in_ok-answers.ensures)
