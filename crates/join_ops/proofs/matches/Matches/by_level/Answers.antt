use Rattle.std.proofs.Common.{refl, length, ap, sym, subst, All, ◌<◌, ◌≡◌, ◌∙◌, ℕ}
use Rattle.join_ops.proofs.matches.Matches.by_level.Goals as goal

same : (c : goal.In_ok-search) → c.args.leveled.fixed.items ≡ c.in_ok-search.search.fixed
same c = sym (c.in_ok-search.ensures.fixed ∙ c.as_slice.ensures.value)

pub invariant_of-result : goal.invariant_of-result
invariant_of-result c = record {
  count = c.requires.count ∙ ap length (same c);
  within = subst (λ (n : ℕ). All (λ level. level < n) c.args.leveled.levels) (ap length (same c)) c.requires.within;
  room = sym c.in_ok-images.images.ok.0 ∙ c.in_ok-images.ensures.len ∙ c.len.ensures ∙ c.args.leveled.fixed.ok.0 ∙ sym c.requires.count;
  current = λ elements stands. absurd (c.in_ok-search.ensures.away elements stands);
}

pub returns : goal.returns
returns c = record {
  levels_are = refl;
  fixed_are = c.in_ok-search.ensures.fixed ∙ c.as_slice.ensures.value;
  begins = rw c.as_slice.ensures.value at c.in_ok-search.ensures.left;
}
