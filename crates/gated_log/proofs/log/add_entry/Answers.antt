use Rattle.std.proofs.Common.{◌≡◌, ◌⊎◌, inl, ◌+◌, ◌≤◌, ◌<◌, [], ◌∷◌, ◌++◌, ℕ, length, get_or, refl, sym, ◌∙◌, ap, subst, arith, Some}
use Rattle.host_io.specs.Disk.{Disk, IsSettled, at_rest, put}
use Rattle.host_io.specs.Moments.{LeavesOnly}
use Rattle.host_io.proofs.Moments.{joined, weaker}
use Rattle.gated_log.specs.Entries.{Entry, IsEntry, Stands, body, within}
use Rattle.gated_log.specs.State.{BeforeOrAfter}
use Rattle.gated_log.specs.Stops.{AtFirst}
use Rattle.gated_log.proofs.Behind.{same_front, either, opened, gate_within, place_more}
use Rattle.gated_log.proofs.Runs.{was_told, same_some}
use Rattle.gated_log.proofs.Present.{present}
use Rattle.gated_log.proofs.Running.{if_ok, was_ok}
use Rattle.gated_log.proofs.Tears.{one_byte}
use Rattle.gated_log.proofs.Puts.{put_longer}
use Rattle.gated_log.proofs.log.add_entry.Goals as goal

pub returns-in_err-write_entry-clause-moments : goal.returns-in_err-write_entry-clause-moments
returns-in_err-write_entry-clause-moments g c = λ d told.
    let h = g.H.Host in
    let at = c.requires.ready d told in
    weaker h.clock h.might _ _ _ _ (c.write_entry.ensures.moments d told) (λ l a. record { first = λ es s place. inl (same_front (within c.args.limit) d.first.reads es s c.args.end place l.first a.first); second = a.second; output = a.output })

pub settle_write-requires : goal.settle_write-requires
settle_write-requires g c = record {
  settled = λ m told_m.
      let was = was_told c.write_entry.ensures.untold told_m in
      let d = was.0 in
      let at = c.requires.ready d was.1 in
      let end = c.args.end in
      let e : Entry = record { kind = c.args.kind; payload = c.args.payload.now } in
      let n : Disk = record { first = at_rest (put (end + 1) (body e ++ 0 ∷ []) d.first.reads); second = d.second } in
      let told_n : g.H.Host.disk c.write_entry.new.host ≡ Some n = c.in_ok-write_entry.ensures.ok d was.1 in
      let same : n ≡ m = same_some (sym told_n ∙ told_m) in
      let settled : IsSettled n = record { first = refl; second = at.0.second } in
      let inside : end < length d.first.reads = gate_within (within c.args.limit) d.first.reads at.1.0 at.1.1 end at.1.2 in
      let longer : end ≤ length n.first.reads = omega (arith, put_longer end (body e ++ 0 ∷ []) d.first.reads inside) in
      subst (λ (x : Disk). IsSettled x × (end ≤ length x.first.reads)) same (settled, longer);
}

pub returns-clause-ok : goal.returns-clause-ok
returns-clause-ok g c = if_ok c.settle_write.result _ (λ v is d told.
    let at = c.requires.ready d told in
    let old = d.first.reads in
    let end = c.args.end in
    let e : Entry = record { kind = c.args.kind; payload = c.args.payload.now } in
    let entry : IsEntry (within c.args.limit) e = record { least_kind = c.requires.least_kind; greatest_kind = c.requires.greatest_kind; payload = c.requires.size } in
    let m : Disk = record { first = at_rest (put (end + 1) (body e ++ 0 ∷ []) old); second = d.second } in
    let told_m = c.in_ok-write_entry.ensures.ok d told in
    let n : Disk = record { first = at_rest (put end (1 ∷ []) m.first.reads); second = d.second } in
    let told_n = was_ok c.settle_write.result v is c.settle_write.ensures.ok m told_m in
    (n, told_n, record { first = refl; second = at.0.second }, refl, λ es s place. (opened (within c.args.limit) old es s end place e entry c.requires.room, place_more es e ∙ ap (λ (n : ℕ). n + 6 + length e.payload) place)))

pub returns-clause-moments : goal.returns-clause-moments
returns-clause-moments g c = λ d told.
    let h = g.H.Host in
    let at = c.requires.ready d told in
    let old = d.first.reads in
    let end = c.args.end in
    let b = within c.args.limit in
    let e : Entry = record { kind = c.args.kind; payload = c.args.payload.now } in
    let entry : IsEntry b e = record { least_kind = c.requires.least_kind; greatest_kind = c.requires.greatest_kind; payload = c.requires.size } in
    let m : Disk = record { first = at_rest (put (end + 1) (body e ++ 0 ∷ []) old); second = d.second } in
    let told_m = c.in_ok-write_entry.ensures.ok d told in
    let inside : end < length d.first.reads = gate_within b d.first.reads at.1.0 at.1.1 end at.1.2 in
    let longer : end < length m.first.reads = put_longer end (body e ++ 0 ∷ []) d.first.reads inside in
    let first : LeavesOnly h.clock h.might c.args.host.now c.write_entry.new.host (AtFirst d (h.printed c.args.host.now) (BeforeOrAfter b end e old)) =
    weaker h.clock h.might _ _ _ _ (c.write_entry.ensures.moments d told) (λ l a. record { first = λ es s place. inl (same_front b old es s end place l.first a.first); second = a.second; output = a.output }) in
    joined h.clock h.might _ _ _ _ _ _ first (c.settle_write.ensures.moments m told_m) (λ l a. a) (λ l a. record {
      first = λ es s place. subst (λ x. Stands b x es ⊎ Stands b x (es ++ e ∷ [])) (sym (one_byte end m.first.reads l.first longer a.first)) (either b old es s end place e entry c.requires.room (get_or l.first end 0));
      second = a.second;
      output = λ p told_p. a.output p (c.write_entry.ensures.printed ∙ told_p);
    })

pub returns-in_err-write_entry-clause-reads : goal.returns-in_err-write_entry-clause-reads
returns-in_err-write_entry-clause-reads g c = λ d told.
    let h = g.H.Host in
    let to = c.write_entry.ensures.told d told in
    let now = present h.disk h.printed h.clock h.might c.args.host.now c.write_entry.new.host _ to.0 (returns-in_err-write_entry-clause-moments g c d told) to.1 g.met.H.Host.counts_now g.met.H.Host.reads_now in
    (to.0, to.1, now.second, now.first)

pub returns-clause-reads : goal.returns-clause-reads
returns-clause-reads g c = λ d told.
    let h = g.H.Host in
    let to = c.settle_write.ensures.told _ (c.in_ok-write_entry.ensures.ok d told) in
    let now = present h.disk h.printed h.clock h.might c.args.host.now c.settle_write.new.host _ to.0 (returns-clause-moments g c d told) to.1 g.met.H.Host.counts_now g.met.H.Host.reads_now in
    (to.0, to.1, now.second, now.first)
