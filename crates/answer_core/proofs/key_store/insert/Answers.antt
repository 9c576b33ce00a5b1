use Rattle.std.proofs.Common.{refl, sym, ◌∙◌}
use Rattle.std.specs.Ordering.{nat_cmp}
use Rattle.std.specs.Cmp.Lexicographic.{slice_cmp}
use Rattle.std.proofs.lemmas.Cmp.{nat_list_cmp_total}
use Rattle.dl_base.proofs.RowLemmas.{name_same}
use Rattle.answer_core.proofs.KeySets.{inserted, looked_up, known_key}
use Rattle.answer_core.specs.Ranks.{items_of}
use Rattle.answer_core.proofs.key_store.insert.Goals as goal

pub returns-then-contains-clause-ok : goal.returns-then-contains-clause-ok
returns-then-contains-clause-ok c =
    known_key (items_of c.args.keys.now.keys) c.args.key.now
    (looked_up (λ k. k.items) (slice_cmp nat_cmp) nat_list_cmp_total name_same c.args.key.now c.args.keys.now.keys (sym c.contains.ensures ∙ c.if-contains.true))

pub returns-clause-ok : goal.returns-clause-ok
returns-clause-ok c =
    inserted (λ k. k.items) (slice_cmp nat_cmp) nat_list_cmp_total name_same c.in_ok-copy.copy c.args.keys.now.keys c.insert.new.self.keys c.args.key.now (items_of c.args.keys.now.keys)
    c.in_ok-copy.ensures.items refl c.in_ok-insert.ensures.keys
