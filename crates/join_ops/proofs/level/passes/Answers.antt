use Rattle.std.proofs.Common.{◌++◌, [], ◌∷◌, ℕ, List, length, subst, sym, refl, ◌∙◌, suc, arith}
use Rattle.std.proofs.lemmas.List.Elements.{Contains-get_or}
use Rattle.std.proofs.lemmas.Option.{get_or_from_slice_get, slice_get_within}
use Rattle.join_ops.specs.Conditions.{IsUnder, Meets}
use Rattle.join_ops.specs.Levels.{MeetsAll}
use Rattle.join_ops.proofs.CheckLemmas.{meets_more, meets_none}
use Rattle.join_ops.proofs.SearchSteps.{take_all}
use Rattle.join_ops.proofs.level.passes.Goals as goal

pub loop-place-init : goal.loop-place-init
loop-place-init g c = meets_none (g.T.Tables.rows c.args.t.now) c.args.conditions.now (c.args.front.now ++ c.args.e ∷ [])

pub offset_bounds-conditions-place : goal.offset_bounds-conditions-place
offset_bounds-conditions-place g c =
    let at = c.requires c.loop-place.place-index 0 c.loop-place-test.true in
    let below = slice_get_within c.args.conditions.now _ at.0 at.1 in
    omega (arith, below)

pub bounds-conditions-place : goal.bounds-conditions-place
bounds-conditions-place g c =
    let at = c.requires c.loop-place.place-index 0 c.loop-place-test.true in
    slice_get_within c.args.conditions.now _ at.0 at.1

pub is_met-requires : goal.is_met-requires
is_met-requires g c =
    let at = c.requires c.loop-place.place-index 0 c.loop-place-test.true in
    subst (IsUnder (suc (length c.args.front.now))) (sym (get_or_from_slice_get c.args.conditions.now _ at.0 _ at.1)) at.2

pub returns-then-not-is_met : goal.returns-then-not-is_met
returns-then-not-is_met g c =
    let at = c.requires c.loop-place.place-index 0 c.loop-place-test.true in
    let there = Contains-get_or c.args.checks.now c.loop-place.place-index 0 c.loop-place-test.true in (
      λ never. absurd (let no = never in cc),
      λ all. sym c.if-not-is_met.true ∙ c.is_met.ensures.1 (subst (Meets (g.T.Tables.rows c.args.t.now) (c.args.front.now ++ c.args.e ∷ [])) (sym (get_or_from_slice_get c.args.conditions.now _ at.0 _ at.1)) (all _ at.0 there at.1)),
    )

pub loop-place-preserved : goal.loop-place-preserved
loop-place-preserved g c =
    let at = c.requires c.loop-place.place-index 0 c.loop-place-test.true in
    let met = c.is_met.ensures.0 c.if-not-is_met.false in
    meets_more (g.T.Tables.rows c.args.t.now) c.args.conditions.now c.args.checks.now (c.args.front.now ++ c.args.e ∷ []) c.loop-place.place-index c.loop-place-test.true at.0 at.1 c.loop-place.invariant
    (subst (Meets (g.T.Tables.rows c.args.t.now) (c.args.front.now ++ c.args.e ∷ [])) (get_or_from_slice_get c.args.conditions.now _ at.0 _ at.1) met)

pub returns : goal.returns
returns g c = (
  λ _. subst (λ (l : List ℕ). MeetsAll (g.T.Tables.rows c.args.t.now) c.args.conditions.now l (c.args.front.now ++ c.args.e ∷ [])) (take_all c.loop-place.place-index c.args.checks.now c.loop-place-test.false) c.loop-place.invariant,
  λ _. refl,
)
