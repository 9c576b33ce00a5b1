use Rattle.std.proofs.Common.{◌<◌, ◌*◌, All, length, arith, List, Some, None, sym, ◌∙◌, subst}
use Rattle.dl_base.specs.Rows.{Held}
use Rattle.dl_base.specs.Sets.{HasBasic}
use Rattle.dl_base.specs.declared.concept.Role.{Role}
use Rattle.role_graph.specs.declared.clash.RoleClash.{RoleClash}
use Rattle.clash_report.specs.After.{IsFirstAfter}
use Rattle.clash_report.proofs.AfterLemmas.{behind_placed, own_first_after, behind_first_after, held_placed}
use Rattle.clash_report.proofs.at.first_at.Goals as goal

pub returns-in-Some-clause-first : goal.returns-in-Some-clause-first
returns-in-Some-clause-first c = λ rows a closure.
    let o = c.args.o.now in
    subst (λ (p : List Role). IsFirstAfter o (Held o rows a) (Some (record { inclusion = c.in-Some.inclusion; path = p }))) (sym c.new-path.ensures)
    (own_first_after o (Held o rows a) c.args.closed.now closure c.in-Some.inclusion (sym c.violated.ensures ∙ c.in-Some.is))

pub returns-in-None-clause-first : goal.returns-in-None-clause-first
returns-in-None-clause-first c = λ rows a closure.
    let o = c.args.o.now in
    behind_first_after o (Held o rows a) c.args.closed.now closure c.requires.within (held_placed o rows a) (sym c.violated.ensures ∙ c.in_default.is) None c.in-None.ensures

pub returns-in_ok-copy-in-Some-least_behind-clause-first : goal.returns-in_ok-copy-in-Some-least_behind-clause-first
returns-in_ok-copy-in-Some-least_behind-clause-first c = λ rows a closure.
    let o = c.args.o.now in
    subst (λ (x : RoleClash). IsFirstAfter o (Held o rows a) (Some x)) (sym c.in_ok-copy-in-Some-least_behind.ensures)
    (behind_first_after o (Held o rows a) c.args.closed.now closure c.requires.within (held_placed o rows a) (sym c.violated.ensures ∙ c.in_default.is) (Some c.in-Some-least_behind.clash.now) c.in-Some-least_behind.ensures)

pub returns-in-Some-clause-placed : goal.returns-in-Some-clause-placed
returns-in-Some-clause-placed c = subst (All (λ (r : Role). r.name < length c.args.o.now.roles)) (sym c.new-path.ensures) (λ k d below. absurd (omega arith))

pub returns-in_ok-copy-in-Some-least_behind-clause-placed : goal.returns-in_ok-copy-in-Some-least_behind-clause-placed
returns-in_ok-copy-in-Some-least_behind-clause-placed c =
    let o = c.args.o.now in
    subst (λ (x : RoleClash). All (λ (r : Role). r.name < length o.roles) x.path) (sym c.in_ok-copy-in-Some-least_behind.ensures)
    (behind_placed o (HasBasic c.args.closed.now.derived) (2 * length o.roles) c.in-Some-least_behind.clash.now c.requires.within (omega arith) c.in-Some-least_behind.ensures.0)
