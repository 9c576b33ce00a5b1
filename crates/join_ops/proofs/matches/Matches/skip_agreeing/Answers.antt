use Rattle.std.proofs.Common.{◌<◌, ℕ, length, subst, sym, ap, ◌∙◌}
use Rattle.std.proofs.lemmas.Option.{slice_get_within, get_or_from_slice_get}
use Rattle.join_ops.specs.Matching.{HasMatchesLeft, PlannedSearch}
use Rattle.join_ops.proofs.PlannedLemmas.{skips_agreeing}
use Rattle.join_ops.proofs.matches.Matches.skip_agreeing.Goals as goal

pub returns-clause-skips : goal.returns-clause-skips
returns-clause-skips c = λ table left last has stands.
    let own = c.self.inside in
    let m : PlannedSearch = record { levels = own.levels; search = own.search } in
    let here : HasMatchesLeft table m left = subst (λ (p : PlannedSearch). HasMatchesLeft table p left) (sym c.self.view_is) has in
    skips_agreeing table m left here
    (λ term level at. subst (λ (l : ℕ). l < length own.search.fixed) (get_or_from_slice_get own.levels term level 0 at) (c.self.invariant.within term 0 (slice_get_within own.levels term level at)))
    c.skip_alike.new.self c.skip_alike.ensures.fixed c.args.levels last (ap (λ (p : PlannedSearch). p.search.place) c.self.view_is ∙ stands)
    (λ rest are. c.skip_alike.ensures.skips table rest last are (ap (λ (p : PlannedSearch). p.search.place) c.self.view_is ∙ stands))
