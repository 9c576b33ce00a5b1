use Rattle.std.proofs.Common.{◌⊎◌, ◌↔◌, ℕ, List, length, subst}
use Rattle.completion.proofs.AtLemmas.{added_points, is_at_individual, rows_wider}
use Rattle.completion.specs.Points.{IsNeededBelow}
use Rattle.dl_base.specs.Sets.{HasRole}
use Rattle.dl_base.specs.declared.concept.Role.{Role}
use Rattle.completion.proofs.individuals.at_individual.Goals as goal

pub held_by-held-requires : goal.held_by-held-requires
held_by-held-requires g c = rows_wider c.args.rules.now c.args.rows.now c.roles.ensures.within c.requires.within

pub returns-clause-at : goal.returns-clause-at
returns-clause-at g c =
    let derived = c.close-closed.result.derived in
    let held = c.held_by-held.result in
    let empty = c.new-points.result in
    let points = c.add_needed.new.one in
    is_at_individual c.args.rules.now c.args.rows.now c.roles.ensures.within c.requires.within c.args.individual held c.close-closed.result c.held_by-held.ensures c.close-closed.ensures.closure
    empty points c.new-points.ensures
    (subst (λ (names : List (List ℕ)). (r : Role) → HasRole points r ↔ (IsNeededBelow derived held (length names) r ⊎ HasRole empty r)) c.roles.ensures.names c.add_needed.ensures.one)

pub returns-clause-pointed : goal.returns-clause-pointed
returns-clause-pointed g c =
    let derived = c.close-closed.result.derived in
    let held = c.held_by-held.result in
    let new = c.add_needed.new.other in
    let old = c.args.pointed.now in
    added_points c.args.rules.now c.args.rows.now c.roles.ensures.within c.requires.within c.args.individual held c.close-closed.result c.held_by-held.ensures c.close-closed.ensures.closure old new
    (subst (λ (names : List (List ℕ)). (r : Role) → HasRole new r ↔ (IsNeededBelow derived held (length names) r ⊎ HasRole old r)) c.roles.ensures.names c.add_needed.ensures.other)
