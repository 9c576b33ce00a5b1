use Rattle.std.proofs.Common.{Contains, List, ◌+◌, subst, arith}
use Rattle.completion.proofs.MembersLemmas.{members_counted}
use Rattle.dl_base.specs.Tables.{AreCounted}
use Rattle.dl_base.specs.declared.element.Elem.{Elem}
use Rattle.completion.proofs.members.Members.count.Goals as goal

pub returns : goal.returns
returns c =
    subst (λ (es : List Elem). AreCounted (Contains es) (c.len.result + c.len-2.result)) c.self.view_is
    (members_counted c.self.inside.individuals.items c.self.inside.witnesses.items (c.len.result + c.len-2.result) c.self.invariant (let a = c.len.ensures in let b = c.len-2.ensures in omega arith))
