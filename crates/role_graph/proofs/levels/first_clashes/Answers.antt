use Rattle.std.proofs.Common.{◌≡◌, ◌==◌, ℕ, true, List, [], length, sym, ◌∙◌, arith}
use Rattle.std.proofs.lemmas.Bool.Decides.{nat_tests}
use Rattle.std.specs.Vec.{vec_len}
use Rattle.role_graph.proofs.LevelLemmas.{all_first, no_roles}
use Rattle.role_graph.proofs.levels.first_clashes.Goals as goal

pub returns : goal.returns
returns c =
    let level = c.loop-alloc.level in
    let none : vec_len level ≡ 0 = test_zero (vec_len level) (sym c.is_empty.ensures ∙ c.loop-alloc-test.false) in
    let long : vec_len level ≡ length level.items = level.ok.0 in
    all_first c.args.rules.now c.roles.ensures.within c.loop-alloc.clashes.items level.items c.loop-alloc.invariant (no_roles level.items (omega arith))
  where
    test_zero : (n : ℕ) → (n == 0) ≡ true → n ≡ 0
    test_zero n e = grind (arith, nat_tests)
