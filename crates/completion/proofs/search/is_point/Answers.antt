use Rattle.std.proofs.Common.{◌≡◌, inl, inr, Bool, true, false, not, refl, sym, ◌∙◌}
use Rattle.std.proofs.lemmas.Fn.{says_at}
use Rattle.completion.proofs.SearchLemmas.{point_here}
use Rattle.completion.proofs.search.is_point.Goals.{then-at-eq0, else-at-eq0}
use Rattle.completion.proofs.search.is_point.Goals as goal

off_from : (b : Bool) → not b ≡ true → b ≡ false
off_from true h = absurd cc
off_from false h = refl

pub returns-then-at-list : goal.returns-then-at-list
returns-then-at-list g c =
    λ p tells parts end.
    point_here p c.args.list.now parts c.args.at c.requires.within
    (elim c.if-at-eq0.branch [
      | then-at-eq0 w ↦ inl w.if-at-eq0.true
      | else-at-eq0 w ↦ inr (w.index-list-at.result, sym w.index-list-at.is, sym (tells _ _ (says_at g.F.Fn w.passed.ensures refl)) ∙ (sym w.value-is ∙ c.if-passed.true))
    ])
    (inl c.if-at-list.true)

pub returns-else-at-list : goal.returns-else-at-list
returns-else-at-list g c =
    λ p tells parts off.
    point_here p c.args.list.now parts c.args.at c.requires.within
    (elim c.if-at-eq0.branch [
      | then-at-eq0 w ↦ inl w.if-at-eq0.true
      | else-at-eq0 w ↦ inr (w.index-list-at.result, sym w.index-list-at.is, sym (tells _ _ (says_at g.F.Fn w.passed.ensures refl)) ∙ (sym w.value-is ∙ c.if-passed.true))
    ])
    (inr (
      c.index-list-at-else-at-list.result,
      sym c.index-list-at-else-at-list.is,
      sym (tells _ _ (says_at g.F.Fn c.passed-else-at-list.ensures refl)) ∙ off_from _ off,
    ))
