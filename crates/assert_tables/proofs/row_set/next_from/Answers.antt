use Rattle.std.proofs.Common.{◌≡◌, ◌∷◌, [], List, Option, Some, None, Bor, ◌∙◌, ap, sym}
use Rattle.std.specs.Prelude.{MatchOption, slice_get}
use Rattle.std.specs.Option.{option_copied}
use Rattle.assert_tables.specs.declared.row_set.Mention.{Mention}
use Rattle.assert_tables.specs.Mentions.{IsLeastFrom}
use Rattle.assert_tables.proofs.SearchLemmas.{least_first}
use Rattle.assert_tables.proofs.row_set.next_from.Goals as goal

-- a step of an iterator shows the first item, if there is one
first_of : (o : Option (Bor Mention)) (all rest : List Mention) (copied : Option Mention) → copied ≡ option_copied o
    → MatchOption o ((all ≡ []) × (rest ≡ [])) (λ x. all ≡ x.now ∷ rest) → copied ≡ slice_get all 0
first_of None all rest copied is steps = is ∙ ap (λ (xs : List Mention). slice_get xs 0) (sym steps.0)
first_of (Some x) all rest copied is steps = is ∙ ap (λ (xs : List Mention). slice_get xs 0) (sym steps)

pub returns : goal.returns
returns c =
    let least : IsLeastFrom c.args.mentions.now.keys c.args.start (slice_get c.range.result 0) = least_first c.args.mentions.now c.args.start c.range.result (c.range.ensures.in_range tt) in
    let is : c.copied.result ≡ slice_get c.range.result 0 = first_of c.next.result c.range.result c.next.new.self c.copied.result c.copied.ensures c.next.ensures.steps in
    rw is least
