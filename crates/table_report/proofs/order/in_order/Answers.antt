use Rattle.std.proofs.Common.{◌↔◌, List, map, Contains, sym, subst}
use Rattle.std.specs.List.Sorted.{IsStrictlySortedBy}
use Rattle.std.proofs.lemmas.List.Filters.{dedup_is}
use Rattle.table_report.specs.Gathered.{entry_of}
use Rattle.table_report.specs.TableLines.{entry_cmp}
use Rattle.table_report.specs.declared.entry.EntryRef.{EntryRef}
use Rattle.table_report.specs.contracts.entry.EntryRefPartialEq.TheImpl.{eq-value as ref_eq}
use Rattle.table_report.proofs.RefLemmas.{in_order_rises, in_order_has}
use Rattle.table_report.proofs.order.in_order.Goals as goal

pub returns-clause-rising : goal.returns-clause-rising
returns-clause-rising c =
    subst (λ (xs : List EntryRef). IsStrictlySortedBy entry_cmp (map entry_of xs)) (sym (dedup_is ref_eq.it _ _ c.dedup.ensures.filtered)) (in_order_rises _ c.sort_unstable.ensures.sorted)

pub returns-clause-same : goal.returns-clause-same
returns-clause-same c = λ x.
    subst (λ (xs : List EntryRef). Contains (map entry_of xs) x ↔ Contains (map entry_of c.args.entries.items) x) (sym (dedup_is ref_eq.it _ _ c.dedup.ensures.filtered)) (in_order_has _ _ c.sort_unstable.ensures.permutation x)
