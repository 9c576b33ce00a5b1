use Rattle.std.proofs.Common.{◌↔◌, Contains, subst, sym, arith}
use Rattle.completion.specs.TableRows.{AreListedSources, RoleLists, table_of}
use Rattle.dl_base.specs.Tables.{HasEdge}
use Rattle.completion.proofs.rows.TableRows.sources.Goals as goal

pub returns-in-Some : goal.returns-in-Some
returns-in-Some c =
    let all : AreListedSources c.args.self.now = subst AreListedSources c.self.view_is c.self.invariant in
    λ e. subst (λ (x : RoleLists). HasEdge (table_of c.args.self.now) c.args.role e ↔ Contains x.sources e) (sym c.in-Some.ensures) (all.each c.args.role e)

pub returns-in-None : goal.returns-in-None
returns-in-None c =
    let all : AreListedSources c.args.self.now = subst AreListedSources c.self.view_is c.self.invariant in
    λ e has. let still = subst (λ (x : RoleLists). Contains x.sources e) c.in-None.ensures ((all.each c.args.role e).0 has) in omega (arith, still.1)
