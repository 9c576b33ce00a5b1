-- The states that a base stands for.
use Rattle.std.proofs.Common.{◌≡◌, ℕ, List, Contains, Option, Some, None, refl, sym, ◌∙◌, subst}
use Rattle.dl_base.specs.Numbers.{NumbersRow, StandFor}
use Rattle.dl_base.specs.Ontology.{Terminology}
use Rattle.dl_base.specs.Rows.{AreRows, row_cmp}
use Rattle.dl_base.specs.declared.row.NamedRow.{NamedRow}
use Rattle.dl_base.specs.declared.row.NamedRow.TheVariants as named
use Rattle.dl_base.specs.declared.row.Row.{Row}
use Rattle.dl_base.specs.declared.row.Row.TheVariants as numbered
use Rattle.dl_base.proofs.PlaceLemmas.{some_same}
use Rattle.dl_base.proofs.RisingLemmas.{same_rising}
use Rattle.dl_base.proofs.RowLemmas.{row_same, row_total}
use Rattle.base_store.specs.History.{AreRowsAfter, Empty, History, Over, ontology_of}
use Rattle.base_engine.specs.Alike.{AreAlike}
use Rattle.kept_base.specs.Base.{BaseState, StandsForState, StandsForAlike}
use Rattle.base_engine.specs.State.{IsBase, MachineState}
use Rattle.base_engine.proofs.AlikeSteps.{back, base}
use Rattle.base_engine.proofs.RowsOnce.{rows_once}
use Rattle.base_engine.proofs.RowsThere.{rows_are, rows_of, rows_rise}

-- ---- rows by numbers stand for one list of rows

names_one : (o : Terminology) (names : List (List ℕ)) (r x : NamedRow) (n : Row) → NumbersRow o names r n → NumbersRow o names x n → r ≡ x
names_one o names (named.Concept c a) (named.Concept d b) (numbered.Concept e n) f g =
    let concept : c ≡ d = some_same (sym f.0 ∙ g.0) in
    let individual : a ≡ b = some_same (sym f.1 ∙ g.1) in
    λ i. named.Concept (concept i) (individual i)
names_one o names (named.Role p a b) (named.Role q c d) (numbered.Role e n m) f g =
    let role : p ≡ q = some_same (sym f.0 ∙ g.0) in
    let from : a ≡ c = some_same (sym f.1 ∙ g.1) in
    let to : b ≡ d = some_same (sym f.2 ∙ g.2) in
    λ i. named.Role (role i) (from i) (to i)
names_one o names (named.Concept c a) x (numbered.Role e n m) f g = absurd f
names_one o names (named.Role p a b) x (numbered.Concept e n) f g = absurd f
names_one o names (named.Concept c a) (named.Role q d b) (numbered.Concept e n) f g = absurd g
names_one o names (named.Role p a b) (named.Concept d c) (numbered.Role e n m) f g = absurd g

within : (o : Terminology) (names : List (List ℕ)) (rows : List Row) (these those : List NamedRow) → StandFor o names rows these → StandFor o names rows those
    → (r : NamedRow) → Contains these r → Contains those r
within o names rows these those a b r there =
    let n = a.each r there in
    let x = b.only n.0 n.1 in
    subst (Contains those) (names_one o names x.0 r n.0 x.2 n.2) x.1

pub one_list : (o : Terminology) (names : List (List ℕ)) (rows : List Row) (these those : List NamedRow) → AreRows these → AreRows those → StandFor o names rows these → StandFor o names rows those
    → these ≡ those
one_list o names rows these those rise rises a b =
    same_rising row_cmp row_total row_same these those rise rises (within o names rows these those a b) (within o names rows those these b a)

-- ---- histories with the same rows

none_empty : (h : History) → ontology_of h ≡ None → h ≡ Empty
none_empty Empty e = refl
none_empty (Over o es) e = absurd (let f : Some o ≡ None = e in cc)

module _ (b : BaseState) (s u : MachineState) (a : StandsForState b s) (c : StandsForState b u) where
  same_ontology : ontology_of s.history ≡ ontology_of u.history
  same_ontology = sym a.ontology_is ∙ c.ontology_is

  rows_too : (found : Option Terminology) → ontology_of s.history ≡ found → (rows : List NamedRow) → AreRowsAfter s.history rows → AreRowsAfter u.history rows
  rows_too None e rows are =
      let here : s.history ≡ Empty = none_empty s.history e in
      let there : u.history ≡ Empty = none_empty u.history (sym same_ontology ∙ e) in
      subst (λ (h : History). AreRowsAfter h rows) (here ∙ sym there) are
  rows_too (Some o) e rows are =
      let is : rows_of s.history ≡ rows = rows_once s.history (rows_of s.history) rows (rows_are s.history) are in
      let one : IsBase s.history o (rows_of s.history) = record { ontology_is = e; rows_are = rows_are s.history } in
      let two : IsBase u.history o (rows_of u.history) = record { ontology_is = sym same_ontology ∙ e; rows_are = rows_are u.history } in
      let same : rows_of s.history ≡ rows_of u.history = one_list o b.names b.rows (rows_of s.history) (rows_of u.history) (rows_rise s.history) (rows_rise u.history)
      (a.rows_are o (rows_of s.history) one) (c.rows_are o (rows_of u.history) two) in
      subst (AreRowsAfter u.history) (sym same ∙ is) (rows_are u.history)

alike : (b : BaseState) (s u : MachineState) → StandsForState b s → StandsForState b u → AreAlike s u
alike b s u a c = record {
  histories = record {
    ontology_is = sym a.ontology_is ∙ c.ontology_is;
    rows_are = λ rows. (rows_too b s u a c (ontology_of s.history) refl rows, rows_too b u s c a (ontology_of u.history) refl rows);
    count_is = sym a.count_is ∙ c.count_is;
    used_is = sym a.used_is ∙ c.used_is;
  };
  sessions = λ i k. (sym (a.sessions_are k) ∙ c.sessions_are k) i;
  handles = sym a.handles_are ∙ c.handles_are;
  generations = λ i r. (sym (a.generations_are r) ∙ c.generations_are r) i;
}

stands : (b : BaseState) (s u : MachineState) → StandsForState b s → AreAlike s u → StandsForState b u
stands b s u a x = record {
  ontology_is = a.ontology_is ∙ x.histories.ontology_is;
  rows_are = λ o rows is. a.rows_are o rows (base u.history s.history o rows (back s.history u.history x.histories) is);
  no_rows = λ none. a.no_rows (x.histories.ontology_is ∙ none);
  used_is = a.used_is ∙ x.histories.used_is;
  count_is = a.count_is ∙ x.histories.count_is;
  sessions_are = λ k. a.sessions_are k ∙ (λ i. x.sessions i k);
  handles_are = a.handles_are ∙ x.handles;
  generations_are = λ r. a.generations_are r ∙ (λ i. x.generations i r);
}

pub stands_for_alike : StandsForAlike
stands_for_alike b s u a = (alike b s u a, stands b s u a)
