use Rattle.std.proofs.Common.{◌≡◌, ◌≢◌, ◌∙◌, ◌≤◌, [], ◌∷◌, List, ℕ, length, get_or, inl, refl, sym, ap, subst, arith, Some}
use Rattle.host_io.specs.Disk.{Disk, IsSettled, at_rest, put}
use Rattle.gated_log.specs.Stops.{HoldsNothing}
use Rattle.gated_log.proofs.Fresh.{short_initial, short_put, short_stays}
use Rattle.gated_log.proofs.Joined.{joined_first, weaker_first}
use Rattle.gated_log.proofs.Runs.{same_some, was_told}
use Rattle.gated_log.proofs.Running.{on_ok, was_ok}
use Rattle.gated_log.proofs.initial.initialise_short.Goals as goal

pub initialise_shut-requires : goal.initialise_shut-requires
initialise_shut-requires g c = record {
  settled = λ m told_m.
      let was = was_told c.settle_write.ensures.untold told_m in
      let d = was.0 in
      let is = c.requires.settled d was.1 in
      let n : Disk = record { first = at_rest (put 0 (0 ∷ []) d.first.reads); second = d.second } in
      let told_n : g.H.Host.disk c.settle_write.new.host ≡ Some n = c.in_ok-settle_write.ensures.ok d was.1 in
      let settled : IsSettled n = record { first = refl; second = is.0.second } in
      let one : put 0 (0 ∷ []) d.first.reads ≡ 0 ∷ [] = short_put d.first.reads is.1 in
      let shut : get_or (put 0 (0 ∷ []) d.first.reads) 0 0 ≢ 1 = λ open_gate. omega (arith, open_gate, ap (λ (l : List ℕ). get_or l 0 0) one) in
      subst (λ (x : Disk). IsSettled x × (1 ≤ length x.first.reads) × (get_or x.first.reads 0 0 ≢ 1)) (same_some (sym told_n ∙ told_m)) (settled, omega (arith, ap length one), shut);
}

pub returns-clause-ok : goal.returns-clause-ok
returns-clause-ok g c = on_ok c.initialise_shut.result _ (λ v is_ok d told.
    let is = c.requires.settled d told in
    let told_m = c.in_ok-settle_write.ensures.ok d told in
    let told_n = was_ok c.initialise_shut.result v is_ok c.initialise_shut.ensures.ok _ told_m in
    told_n ∙ ap (λ (l : List ℕ). Some (record { first = at_rest l; second = d.second })) (short_initial d.first.reads is.1))

pub returns-in_err-settle_write-clause-moments : goal.returns-in_err-settle_write-clause-moments
returns-in_err-settle_write-clause-moments g c = λ b d told.
    let h = g.H.Host in
    let is = c.requires.settled d told in
    weaker_first h.printed h.clock h.might c.args.host.now c.settle_write.new.host d _ (HoldsNothing b) (c.settle_write.ensures.moments d told) (λ l torn. inl (short_stays d.first.reads l is.1 torn))

pub returns-clause-moments : goal.returns-clause-moments
returns-clause-moments g c = λ b d told.
    let h = g.H.Host in
    let is = c.requires.settled d told in
    let told_m = c.in_ok-settle_write.ensures.ok d told in
    joined_first h.printed h.clock h.might c.args.host.now c.settle_write.new.host c.initialise_shut.new.host d _ _ _ (HoldsNothing b) (c.settle_write.ensures.moments d told) (c.initialise_shut.ensures.moments b _ told_m)
    c.settle_write.ensures.printed refl
    (λ l torn. inl (short_stays d.first.reads l is.1 torn))
    (λ l holds. holds)
