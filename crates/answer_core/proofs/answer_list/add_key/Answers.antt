use Rattle.std.proofs.Common.{inl, inr}
use Rattle.answer_core.proofs.ReadLemmas.{adds_lifted, added_within, known_read, reads_same}
use Rattle.answer_core.proofs.answer_list.add_key.Goals as goal

pub returns-clause-lifted : goal.returns-clause-lifted
returns-clause-lifted c = λ s layout trees.
    adds_lifted s c.args.images.now c.args.count c.args.places.now c.read_key.new.key c.args.found.now c.add.new.self (c.if-not-passes.ensures.lifts s layout trees) c.in_ok-add.ensures.ok c.if-not-read_key.ensures.read

pub returns-clause-within : goal.returns-clause-within
returns-clause-within c =
    added_within c.args.images.now c.args.count c.args.places.now c.read_key.new.key c.args.found.now c.add.new.self c.in_ok-add.ensures.ok c.if-not-read_key.ensures.read

pub returns-clause-settled : goal.returns-clause-settled
returns-clause-settled c = λ numbers reads. (c.in_ok-add.ensures.ok numbers).1
    (inr (reads_same c.args.images.now c.args.count c.args.places.now c.read_key.new.key numbers c.if-not-read_key.ensures.read reads))

pub returns-then-not-passes-clause-lifted : goal.returns-then-not-passes-clause-lifted
returns-then-not-passes-clause-lifted c = λ s layout trees o rows names generation table base match numbers.
    let decides = c.if-not-passes.ensures.lifts s layout trees o rows names generation table base.distinct base.completed match in (
      λ there. inl there,
      λ either. elim either [
        | inl there ↦ there
        | inr both ↦ absurd (let passed = decides.1 both.0 in cc)
      ],
    )

pub returns-then-is_last-clause-lifted : goal.returns-then-is_last-clause-lifted
returns-then-is_last-clause-lifted c = λ s layout trees o rows names generation table base match numbers. (
  λ there. inl there,
  λ either. elim either [
    | inl there ↦ there
    | inr both ↦ known_read c.args.images.now c.args.count c.args.places.now c.read_key.new.key numbers c.args.found.now c.if-is_last.ensures c.if-not-read_key.ensures.read both.1
  ],
)

pub returns-then-is_last-clause-settled : goal.returns-then-is_last-clause-settled
returns-then-is_last-clause-settled c = λ numbers reads.
    known_read c.args.images.now c.args.count c.args.places.now c.read_key.new.key numbers c.args.found.now c.if-is_last.ensures c.if-not-read_key.ensures.read reads
