use Rattle.completion.proofs.ChoiceLemmas.{pushed_with}
use Rattle.completion.proofs.gather.push_with.Goals as goal

pub returns-in_ok-push : goal.returns-in_ok-push
returns-in_ok-push c =
    pushed_with c.args.rules.now c.args.book.now c.args.property c.args.s c.args.witnesses.now.items c.push.new.self.items c.in-Some.witness
    c.in-Some.ensures.current.0 c.in-Some.ensures.current.1 ((c.is_had_behind.ensures c.args.rules.now c.requires.graph).0 c.if-is_had_behind.true) c.in_ok-push.ensures.items
