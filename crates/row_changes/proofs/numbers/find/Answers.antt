use Rattle.std.proofs.Common.{◌≡◌, ◌+◌, ◌++◌, ℕ, List, Option, Contains, Some, slice_get, arith, subst, sym}
use Rattle.std.specs.Prelude.{MatchOption}
use Rattle.std.proofs.lemmas.Option.{slice_get_within}
use Rattle.dl_base.proofs.PlaceLemmas.{place_stays}
use Rattle.row_changes.proofs.NumberLemmas.{in_neither, place_behind}
use Rattle.row_changes.proofs.numbers.find.Goals as goal

pub returns-in_err-behind-in-None : goal.returns-in_err-behind-in-None
returns-in_err-behind-in-None c =
    let book = c.args.individuals.now ++ c.args.newcomers.now in
    subst (λ (r : Option ℕ). MatchOption r (Contains book c.args.name.now → ⊥) (λ n. slice_get book n ≡ Some c.args.name.now)) (sym c.from_residual.ensures)
    (in_neither c.args.individuals.now c.args.newcomers.now c.args.name.now
    (λ there. c.in-None.ensures (subst (Contains c.args.individuals.now) (sym c.bytes.ensures.bytes) there))
    (λ there. c.in_err-behind-in-None.ensures (subst (Contains c.args.newcomers.now) (sym c.bytes-in-None.ensures.bytes) there)))

pub overflow_add-result : goal.overflow_add-result
overflow_add-result c = let r = c.requires in omega (arith, r, c.len.ensures.len, slice_get_within c.args.newcomers.now _ _ c.in_ok-behind-in-None.ensures)

pub returns-in-Some : goal.returns-in-Some
returns-in-Some c =
    let at = subst (λ (x : List ℕ). slice_get c.args.individuals.now c.in-Some.number ≡ Some x) c.bytes.ensures.bytes c.in-Some.ensures in
    place_stays c.args.individuals.now c.args.newcomers.now c.in-Some.number c.args.name.now at

pub returns-in_ok-behind-in-None : goal.returns-in_ok-behind-in-None
returns-in_ok-behind-in-None c =
    let at = subst (λ (x : List ℕ). slice_get c.args.newcomers.now c.in_ok-behind-in-None.behind ≡ Some x) c.bytes-in-None.ensures.bytes c.in_ok-behind-in-None.ensures in
    subst (λ (n : ℕ). slice_get (c.args.individuals.now ++ c.args.newcomers.now) (n + c.in_ok-behind-in-None.behind) ≡ Some c.args.name.now) (sym c.len.ensures.len)
    (place_behind c.args.individuals.now c.args.newcomers.now c.in_ok-behind-in-None.behind c.args.name.now at)
