use Rattle.std.proofs.Common.{◌≡◌, ◌∙◌, ◌≤◌, [], ◌∷◌, List, ℕ, length, inl, refl, sym, ap, subst, arith, Some}
use Rattle.host_io.specs.Disk.{Disk, IsSettled, IsTorn, at_rest, put}
use Rattle.gated_log.specs.Stops.{HoldsNothing}
use Rattle.gated_log.proofs.Fresh.{gate_turns, initial_is, shut_stays}
use Rattle.gated_log.proofs.Joined.{joined_first, weaker_first}
use Rattle.gated_log.proofs.Runs.{same_some, was_told}
use Rattle.gated_log.proofs.Running.{on_ok, was_ok}
use Rattle.gated_log.proofs.initial.initialise_shut.Goals as goal

pub settle_write-requires-2 : goal.settle_write-requires-2
settle_write-requires-2 g c = record {
  settled = λ m told_m.
      let was = was_told c.settle_write.ensures.untold told_m in
      let d = was.0 in
      let is = c.requires.settled d was.1 in
      let n : Disk = record { first = at_rest (put 1 c.closed_header.result d.first.reads); second = d.second } in
      let told_n : g.H.Host.disk c.settle_write.new.host ≡ Some n = c.in_ok-settle_write.ensures.ok d was.1 in
      let settled : IsSettled n = record { first = refl; second = is.0.second } in
      subst (λ (x : Disk). IsSettled x × (0 ≤ length x.first.reads)) (same_some (sym told_n ∙ told_m)) (settled, omega arith);
}

pub returns-clause-ok : goal.returns-clause-ok
returns-clause-ok g c = on_ok c.settle_write-2.result _ (λ v is_ok d told.
    let is = c.requires.settled d told in
    let old = d.first.reads in
    let told_m = c.in_ok-settle_write.ensures.ok d told in
    let told_n = was_ok c.settle_write-2.result v is_ok c.settle_write-2.ensures.ok _ told_m in
    told_n ∙ ap (λ (l : List ℕ). Some (record { first = at_rest (put 0 (1 ∷ []) (put 1 l old)); second = d.second })) c.closed_header.ensures
    ∙ ap (λ (l : List ℕ). Some (record { first = at_rest l; second = d.second })) (initial_is old is.1))

pub returns-in_err-settle_write-clause-moments : goal.returns-in_err-settle_write-clause-moments
returns-in_err-settle_write-clause-moments g c = λ b d told.
    let h = g.H.Host in
    let is = c.requires.settled d told in
    weaker_first h.printed h.clock h.might c.args.host.now c.settle_write.new.host d _ (HoldsNothing b) (c.settle_write.ensures.moments d told) (λ l torn. inl (shut_stays _ d.first.reads l is.1 is.2 torn))

pub returns-clause-moments : goal.returns-clause-moments
returns-clause-moments g c = λ b d told.
    let h = g.H.Host in
    let is = c.requires.settled d told in
    let told_m = c.in_ok-settle_write.ensures.ok d told in
    joined_first h.printed h.clock h.might c.args.host.now c.settle_write.new.host c.settle_write-2.new.host d _ _ _ (HoldsNothing b) (c.settle_write.ensures.moments d told) (c.settle_write-2.ensures.moments _ told_m)
    c.settle_write.ensures.printed refl
    (λ l torn. inl (shut_stays _ d.first.reads l is.1 is.2 torn))
    (λ l torn. gate_turns b d.first.reads l is.1 (subst (λ (x : List ℕ). IsTorn 0 1 (put 1 x d.first.reads) l) c.closed_header.ensures torn))
