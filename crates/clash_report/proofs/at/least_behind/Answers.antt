use Rattle.std.proofs.Common.{◌≡◌, ◌+◌, ◌*◌, ℕ, length, Option, Bor, sym, ◌∙◌, ap, subst, arith, true≢false}
use Rattle.std.specs.Option.{option_copied}
use Rattle.dl_base.specs.Sets.{HasBasic}
use Rattle.role_graph.specs.declared.clash.RoleClash.{RoleClash}
use Rattle.role_graph.proofs.LevelLemmas.{name_below}
use Rattle.clash_report.specs.After.{IsLeastBehind}
use Rattle.clash_report.proofs.AfterLemmas.{least_skips, least_takes, first_copied, first_placed, known_placed}
use Rattle.clash_report.proofs.at.least_behind.Goals as goal
use Rattle.clash_report.proofs.at.least_behind.Goals.{then-has, else-has}

pub lesser-least-requires-clause-known : goal.lesser-least-requires-clause-known
lesser-least-requires-clause-known c =
    known_placed c.args.o.now (HasBasic c.args.closed.now.derived) c.loop-place.place c.loop-place.least c.requires.within
    (let names : c.len-place-end.result ≡ length c.args.o.now.roles = c.len-place-end.ensures.len ∙ ap length c.roles.ensures.names in let before = c.loop-place-test.true in omega arith) c.loop-place.invariant

pub lesser-least-requires-clause-other : goal.lesser-least-requires-clause-other
lesser-least-requires-clause-other c =
    let names : c.len-place-end.result ≡ length c.args.o.now.roles = c.len-place-end.ensures.len ∙ ap length c.roles.ensures.names in
    let before = c.loop-place-test.true in
    let at = c.role_at-r.ensures.place in
    first_placed c.args.o.now c.role_at-r.result c.clash_from.result c.requires.within (name_below (length c.args.o.now.roles) c.role_at-r.result (omega arith)) (c.clash_from.ensures c.args.o.now c.requires)

pub loop-place-preserved : goal.loop-place-preserved
loop-place-preserved c =
    let o = c.args.o.now in
    let derived = HasBasic c.args.closed.now.derived in
    let place = c.loop-place.place in
    let r = c.role_at-r.result in
    elim c.if-has.branch [
      | then-has w ↦ subst (λ (x : Option (Bor RoleClash)). IsLeastBehind o derived (place + 1) (option_copied x)) (sym w.least-is)
          (least_takes o derived r place c.role_at-r.ensures.place (option_copied c.loop-place.least) (option_copied w.clash_from.result) (option_copied w.lesser-least.result)
          (c.has.ensures.0 w.if-has.true) (first_copied o r w.clash_from.result (w.clash_from.ensures o c.requires)) w.lesser-least.ensures c.loop-place.invariant)
      | else-has w ↦ subst (λ (x : Option (Bor RoleClash)). IsLeastBehind o derived (place + 1) (option_copied x)) (sym w.least-is)
          (least_skips o derived r place c.role_at-r.ensures.place (option_copied c.loop-place.least) (λ has. true≢false (sym (c.has.ensures.1 has) ∙ w.if-has.false)) c.loop-place.invariant)
    ]

pub returns : goal.returns
returns c =
    let names : c.len-place-end.result ≡ length c.args.o.now.roles = c.len-place-end.ensures.len ∙ ap length c.roles.ensures.names in
    let past = c.loop-place-test.false in
    let most = c.loop-place.auto.place-end in
    let all : c.loop-place.place ≡ 2 * length c.args.o.now.roles = omega arith in
    subst (λ (n : ℕ). IsLeastBehind c.args.o.now (HasBasic c.args.closed.now.derived) n (option_copied c.loop-place.least)) all c.loop-place.invariant
