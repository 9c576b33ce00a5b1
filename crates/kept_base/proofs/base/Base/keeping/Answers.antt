use Rattle.std.proofs.Common.{◌≡◌, Some, inl, inr, subst}
use Rattle.std.specs.Option.{ForSome}
use Rattle.host_io.specs.Disk.{Disk, IsSettled}
use Rattle.base_store.specs.History.{with_transaction}
use Rattle.base_store.specs.Store.{StandsForNext}
use Rattle.kept_base.specs.Base.{BaseState}
use Rattle.kept_base.proofs.CommittedBases.{other_store}
use Rattle.kept_base.proofs.base.Base.keeping.Goals as goal

pub invariant_of-result : goal.invariant_of-result
invariant_of-result g c = other_store _ c.in-Ok.store c.self.invariant

pub returns-in-Ok-clause-ok : goal.returns-in-Ok-clause-ok
returns-in-Ok-clause-ok g c =
    subst (λ (b : BaseState). ForSome (g.H.Host.disk c.args.host.now) (λ d. (e : Disk) × (g.H.Host.disk c.log_transaction.new.host ≡ Some e) × IsSettled e × (e.second ≡ d.second)
    × StandsForNext (with_transaction c.args.changes.now) b.store d c.in-Ok.store e)) c.self.view_is c.in-Ok.ensures.ok

pub returns-in-Err-NoMemory-clause-untouched : goal.returns-in-Err-NoMemory-clause-untouched
returns-in-Err-NoMemory-clause-untouched g c = λ yes. elim c.in-Err-NoMemory.ensures.untouched [ inl e ↦ absurd (let fault = e in cc) | inr same ↦ same ]
