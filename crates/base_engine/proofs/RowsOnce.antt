-- The rows of a history, the roles that are live in it and the counts of a commit are one each.
use Rattle.std.proofs.Common.{◌≡◌, ℕ, inl, inr, List, [], Some, sym, ◌∙◌, subst}
use Rattle.dl_base.specs.Ontology.{Terminology}
use Rattle.dl_base.specs.Rows.{row_cmp}
use Rattle.dl_base.specs.declared.concept.Role.{Role}
use Rattle.dl_base.specs.declared.row.NamedRow.{NamedRow}
use Rattle.dl_base.proofs.RisingLemmas.{same_rising}
use Rattle.dl_base.proofs.RowLemmas.{row_total, row_same}
use Rattle.query_shape.proofs.MatchList.{Decided, decide_nat}
use Rattle.base_store.specs.History.{History, AreRowsAfter, transactions, ontology_of}
use Rattle.base_store.proofs.AfterChanges.{transactions_once}
use Rattle.base_engine.specs.State.{MachineState, IsInitial, Raises, IsLiveIn}
use Rattle.base_engine.specs.Steps.{AreMissing, Counts}

-- ---- rows

pub rows_once : (h : History) (one other : List NamedRow) → AreRowsAfter h one → AreRowsAfter h other → one ≡ other
rows_once h one other a b = transactions_once [] (transactions h) one other a b

pub ontology_once : (h : History) (o p : Terminology) → ontology_of h ≡ Some o → ontology_of h ≡ Some p → o ≡ p
ontology_once h o p a b = let e : Some o ≡ Some p = sym a ∙ b in cc

-- ---- counts

missing_once : (these those one other : List NamedRow) → AreMissing these those one → AreMissing these those other → one ≡ other
missing_once these those one other a b =
    same_rising row_cmp row_total row_same one other a.rising b.rising (λ r there. (b.each r).1 ((a.each r).0 there)) (λ r there. (a.each r).1 ((b.each r).0 there))

pub counts_once : (old new : History) (a r b s : ℕ) → Counts old new a r → Counts old new b s → (a ≡ b) × (r ≡ s)
counts_once old new a r b s c d =
    let before : c.old ≡ d.old = rows_once old c.old d.old c.old_are d.old_are in
    let after : c.new ≡ d.new = rows_once new c.new d.new c.new_are d.new_are in
    let come : c.come ≡ d.come = missing_once d.new d.old c.come d.come
    (subst (λ (x : List NamedRow). AreMissing x d.old c.come) after (subst (λ (x : List NamedRow). AreMissing c.new x c.come) before c.come_are)) d.come_are in
    let gone : c.gone ≡ d.gone = missing_once d.old d.new c.gone d.gone
    (subst (λ (x : List NamedRow). AreMissing x d.new c.gone) before (subst (λ (x : List NamedRow). AreMissing c.old x c.gone) after c.gone_are)) d.gone_are in
    (cc (c.added_is, d.added_is, come), cc (c.removed_is, d.removed_is, gone))

-- ---- generations

-- two numbers that can't differ are equal
pub not_apart : (m n : ℕ) → ((m ≡ n → ⊥) → ⊥) → m ≡ n
not_apart m n h = by (decide_nat m n)
  where
    by : Decided (m ≡ n) → m ≡ n
    by (inl e) = e
    by (inr apart) = absurd (h apart)

pub raises_once : (old new : History) (before one other : Role → ℕ) → Raises old new before one → Raises old new before other → one ≡ other
raises_once old new before one other a b = λ i r. each r i
  where
    each : (r : Role) → one r ≡ other r
    each r = not_apart (one r) (other r) (λ apart. apart (a.kept r (λ becomes. apart (a.raised r becomes ∙ sym (b.raised r becomes))) ∙ sym (b.kept r (λ becomes. apart (a.raised r becomes ∙ sym (b.raised r becomes))))))

pub begins_once : (h : History) (s t : MachineState) → IsInitial h s → IsInitial h t → s ≡ t
begins_once h s t a b =
    λ i. record { history = (a.history ∙ sym b.history) i; session = λ k. (a.closed k ∙ sym (b.closed k)) i; handles = (a.none_given ∙ sym b.none_given) i; generation = λ r. each r i }
  where
    each : (r : Role) → s.generation r ≡ t.generation r
    each r = not_apart (s.generation r) (t.generation r) (λ apart.
        let dead : IsLiveIn h r → ⊥ = λ live. apart (a.live r live ∙ sym (b.live r live)) in
        apart (a.others r dead ∙ sym (b.others r dead)))
