use Rattle.std.proofs.Common.{◌<◌, length, arith}
use Rattle.kept_base.proofs.SessionLemmas.{session_more}
use Rattle.kept_base.proofs.sessions.Sessions.append.Goals as goal

pub returns-clause-ok : goal.returns-clause-ok
returns-clause-ok g c =
    let inside : g.args.session < length g.self.inside.list.items = omega (arith, g.self.invariant, g.requires) in
    session_more g.args.session g.args.change g.self.inside.list.items g.args.self.now g.index_mut-changes.result.now g.append_to.new.session g.append_to.result g.self.view_is inside g.index_mut-changes.ensures.value g.append_to.ensures.ok c
