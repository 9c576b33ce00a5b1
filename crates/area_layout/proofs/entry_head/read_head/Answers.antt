use Rattle.std.proofs.Common.{rules, ◌≡◌, arith, take, get_or, ⊎_elim, inl, inr, refl}
use Rattle.area_layout.specs.Layout.{head_bytes, IsKind}
use Rattle.area_layout.specs.declared.entry_head.EntryHead.{EntryHead}
use Rattle.area_layout.proofs.entry_head.read_head.Goals as goal

pub returns-then-head-lt1 : goal.returns-then-head-lt1
returns-then-head-lt1 c =
    let h : EntryHead = record { kind = get_or c.args.bytes.now 0 0; len = c.u32_at.result } in
    let spelled : take 5 c.args.bytes.now ≡ head_bytes h = search rules in
    let none : IsKind h.kind → ⊥ = λ kind. ⊎_elim (λ l. omega (arith, kind.0)) (λ r. omega (arith, kind.1)) c.then-head-lt1.either in
    (omega arith, h, record { spelled = spelled; fits = omega arith }, inl (refl, none))

pub returns-then-head-gt-MAX_PAYLOAD : goal.returns-then-head-gt-MAX_PAYLOAD
returns-then-head-gt-MAX_PAYLOAD c =
    let h : EntryHead = record { kind = get_or c.args.bytes.now 0 0; len = c.u32_at.result } in
    let spelled : take 5 c.args.bytes.now ≡ head_bytes h = search rules in
    (omega arith, h, record { spelled = spelled; fits = omega arith }, inr (refl, (omega arith, omega arith), omega arith))
