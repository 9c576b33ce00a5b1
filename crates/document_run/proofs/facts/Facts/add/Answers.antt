use Rattle.std.proofs.Common.{◌≢◌, AllPairs, List, ℕ, subst, sym}
use Rattle.assert_tables.specs.Rows.{Gains}
use Rattle.dl_base.specs.declared.row.Row.{Row}
use Rattle.document_run.proofs.FactLemmas.{Tracks, kept_or_too_many_read, tracks, tracks_more}
use Rattle.document_run.proofs.facts.Facts.add.Goals as goal

pub returns : goal.returns
returns c = λ o asserted is keeps place.
    let same = subst (λ (rows : List Row). Tracks o asserted c.args.self.now.individuals rows) (sym c.in_ok-are_within.ensures.rows) (tracks o asserted c.args.self.now keeps) in
    let old = subst (λ (names : List (List ℕ)). Tracks o asserted names c.are_within.new.self.rows) (sym c.in_ok-are_within.ensures.individuals) same in
    let gains = subst (λ (rows : List Row). Gains c.in_ok-row.row rows c.add.new.self) c.in_ok-row.ensures.rows c.in_ok-add.ensures in
    let distinct = subst (λ (names : List (List ℕ)). AllPairs (λ x y. x ≢ y) names) c.are_within-2.ensures.individuals c.are_within-2.ensures.distinct in
    let more = tracks_more o asserted c.are_within.new.self.individuals c.are_within.new.self.rows old c.args.row.now c.numbered.new.self.individuals c.in_ok-row.row c.add.new.self
    c.in_ok-row.ensures.names distinct (c.in_ok-row.ensures.numbers o place) gains in
    kept_or_too_many_read o _ c.numbered.new.self.individuals c.add.new.self _ c.are_within-2.result is more c.are_within-2.ensures.individuals c.are_within-2.ensures.rows c.are_within-2.ensures.rising c.are_within-2.ensures.within
