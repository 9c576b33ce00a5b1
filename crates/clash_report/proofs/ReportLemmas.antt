-- The first clash of a base is the first at the first individual that has one.
use Rattle.std.proofs.Common.{◌≡◌, ◌≢◌, ℕ, ◌+◌, ◌<◌, ◌≤◌, inl, inr, List, Contains, length, slice_get, Option, Some, None, refl, sym, ◌∙◌, ap, subst, arith}
use Rattle.std.specs.Cmp.Lexicographic.{slice_cmp}
use Rattle.std.specs.declared.cmp.Ordering.{Ordering}
use Rattle.std.specs.declared.cmp.Ordering.TheVariants.{Less, Equal, Greater}
use Rattle.std.specs.Ordering.{nat_cmp, ordering_then}
use Rattle.std.proofs.lemmas.Bool.{cases_eq, cases_lt}
use Rattle.std.proofs.lemmas.Cmp.{tied_itself}
use Rattle.assert_tables.specs.Rows.{IsNumberAbove}
use Rattle.dl_base.specs.Clashes.{Place, IsClash, IsFirstClash, place_cmp, individual_of, path_of, role_cmp}
use Rattle.dl_base.specs.Ontology.{Terminology}
use Rattle.dl_base.specs.Paths.{ClashesAfter}
use Rattle.dl_base.specs.Rows.{Held, IsIndividual, name_cmp}
use Rattle.dl_base.specs.Unfolding.{Named}
use Rattle.dl_base.specs.declared.clash.Clash.{Clash}
use Rattle.dl_base.specs.declared.concept.Role.{Role}
use Rattle.dl_base.specs.declared.row.NamedRow.{NamedRow}
use Rattle.dl_base.proofs.PathLemmas.{after, after-path, after-individual, clashes_along_roles}
use Rattle.dl_base.proofs.PlaceLemmas.{place_of}
use Rattle.role_graph.proofs.OrderLemmas.{before_both, turned_round}
use Rattle.dl_base.proofs.RowLemmas.{name_total, name_same}
use Rattle.role_graph.specs.declared.clash.RoleClash.{RoleClash}
use Rattle.role_graph.specs.FirstClashes.{clash_cmp}
use Rattle.clash_report.specs.After.{IsFirstAfter}
use Rattle.clash_report.specs.Report.{IsNamedClash, AreNamedRoles, IsReported, ComesFirst, IsLater, IsLeastFound}
use Rattle.clash_report.specs.declared.found.Found.{Found}

-- the number behind the last one that was looked at
abbrev pub past_last : Option ℕ → ℕ
past_last None = 0
past_last (Some n) = n + 1

pub above_last : (last : Option ℕ) (n : ℕ) → IsNumberAbove last n → past_last last ≤ n
above_last None n h = omega arith
above_last (Some l) n h = omega (arith, h)

pub not_below_last : (last : Option ℕ) (n : ℕ) → past_last last ≤ n → IsNumberAbove last n
not_below_last None n h = tt
not_below_last (Some l) n h = omega (arith, h)

item_same : (a b : List ℕ) → Some a ≡ Some b → a ≡ b
item_same a b e = cc

module _ (o : Terminology) (rows : List NamedRow) where
  -- no individual has a clash
  pub none_first : ((a : List ℕ) → IsIndividual rows a → IsFirstAfter o (Held o rows a) None) → IsFirstClash o rows None
  none_first none c clash =
      let parts = (clashes_along_roles o rows c).0 clash in
      none (individual_of c.element) parts.0 (record { inclusion = c.inclusion; path = path_of c.element }) parts.1

  module _ (a : List ℕ) (c : RoleClash) (individual : IsIndividual rows a) (first : IsFirstAfter o (Held o rows a) (Some c))
      (least : (b : List ℕ) → IsIndividual rows b → IsLater o rows a b) where
    path_is : path_of (after (Named a) c.path) ≡ c.path
    path_is = after-path (Named a) c.path

    clash_at : IsIndividual rows a → ClashesAfter o.inclusions (Held o rows a) c.path c.inclusion → IsClash o rows (record { element = after (Named a) c.path; inclusion = c.inclusion })
    clash_at there clashes = (clashes_along_roles o rows (record { element = after (Named a) c.path; inclusion = c.inclusion })).1
        (subst (λ (x : List ℕ × List Role). IsIndividual rows x.0 × ClashesAfter o.inclusions (Held o rows x.0) x.1 c.inclusion)
        (λ j. (sym (after-individual (Named a) c.path) j, sym path_is j)) (there, clashes))

    -- how the place of this clash stands to another
    place_order : (d : Place) → place_cmp o (record { element = after (Named a) c.path; inclusion = c.inclusion }) d
        ≡ ordering_then (name_cmp a (individual_of d.element)) (clash_cmp o c (record { inclusion = d.inclusion; path = path_of d.element }))
    place_order d =
        let name = after-individual (Named a) c.path in
        λ j. ordering_then (name_cmp (name j) (individual_of d.element))
        (ordering_then (nat_cmp (length (path_is j)) (length (path_of d.element)))
        (ordering_then (slice_cmp (role_cmp o) (path_is j) (path_of d.element))
        (nat_cmp c.inclusion d.inclusion)))

    not_before : (d : Place) → IsClash o rows d → ordering_then (name_cmp a (individual_of d.element)) (clash_cmp o c (record { inclusion = d.inclusion; path = path_of d.element })) ≢ Greater
    not_before d clash = by (name_cmp a b) refl
      where
        b : List ℕ
        b = individual_of d.element

        rest : RoleClash
        rest = record { inclusion = d.inclusion; path = path_of d.element }

        parts : IsIndividual rows (individual_of d.element) × ClashesAfter o.inclusions (Held o rows (individual_of d.element)) (path_of d.element) d.inclusion
        parts = (clashes_along_roles o rows d).0 clash

        not_greater : name_cmp a (individual_of d.element) ≢ Greater
        not_greater = elim (least (individual_of d.element) parts.0) [
          | inl none ↦ absurd (none (record { inclusion = d.inclusion; path = path_of d.element }) parts.1)
          | inr before ↦ before
        ]

        by : (r : Ordering) → name_cmp a (individual_of d.element) ≡ r
            → ordering_then (name_cmp a (individual_of d.element)) (clash_cmp o c (record { inclusion = d.inclusion; path = path_of d.element })) ≢ Greater
        by Less e = λ greater. absurd (let f : Less ≡ Greater = rw e at greater in cc)
        by Equal e = λ greater.
            let same : a ≡ individual_of d.element = name_same a (individual_of d.element) e in
            let there = subst (λ (n : List ℕ). ClashesAfter o.inclusions (Held o rows n) (path_of d.element) d.inclusion) (sym same) parts.1 in
            first.1 (record { inclusion = d.inclusion; path = path_of d.element }) there (rw e at greater)
        by Greater e = absurd (not_greater e)

    pub first_of_all : IsFirstClash o rows (Some (record { element = after (Named a) c.path; inclusion = c.inclusion }))
    first_of_all = (clash_at individual first.0, λ d clash greater. not_before d clash (sym (place_order d) ∙ greater))

    pub named_of : (n : Clash) → n.name ≡ a → AreNamedRoles o c.path n.path → n.inclusion ≡ c.inclusion → IsNamedClash o (record { element = after (Named a) c.path; inclusion = c.inclusion }) n
    named_of n name path inclusion = record {
      name = name ∙ sym (after-individual (Named a) c.path);
      path = subst (λ (p : List Role). AreNamedRoles o p n.path) (sym path_is) path;
      inclusion = inclusion;
    }

  -- one individual more
  module _ (names : List (List ℕ)) where
    pub least_at_none : IsLeastFound o rows names 0 None
    least_at_none n a below at individual = absurd (omega arith)

    later_here : (a : List ℕ) → name_cmp a a ≢ Greater
    later_here a greater = absurd (let e : Equal ≡ Greater = sym (tied_itself name_total a) ∙ greater in cc)

    -- numbers of no individual change nothing
    pub least_skips : (n m : ℕ) (x : Option Found) → ((k : ℕ) (a : List ℕ) → n ≤ k → k < m → slice_get names k ≡ Some a → IsIndividual rows a → ⊥) → IsLeastFound o rows names n x → IsLeastFound o rows names m x
    least_skips n m x nobody least = by x least
      where
        by : (y : Option Found) → IsLeastFound o rows names n y → IsLeastFound o rows names m y
        by None known = λ k a below at individual. elim (cases_lt k n) [
          | inl before ↦ known k a before at individual
          | inr past ↦ absurd (nobody k a past below at individual)
        ]
        by (Some f) known = record {
          name = known.name;
          at = known.at;
          individual = known.individual;
          first = known.first;
          least = λ k a below at individual. elim (cases_lt k n) [
            | inl before ↦ known.least k a before at individual
            | inr past ↦ absurd (nobody k a past below at individual)
          ];
        }

    -- it has no clash
    pub least_passed : (n : ℕ) (a : List ℕ) (x : Option Found) → slice_get names n ≡ Some a → IsFirstAfter o (Held o rows a) None → IsLeastFound o rows names n x → IsLeastFound o rows names (n + 1) x
    least_passed n a x at none least = by x least
      where
        here : (k : ℕ) (b : List ℕ) → k ≡ n → slice_get names k ≡ Some b → IsFirstAfter o (Held o rows b) None
        here k b same at_k = subst (λ (y : List ℕ). IsFirstAfter o (Held o rows y) None) (item_same a b (sym at ∙ ap (slice_get names) (sym same) ∙ at_k)) none

        by : (y : Option Found) → IsLeastFound o rows names n y → IsLeastFound o rows names (n + 1) y
        by None known = λ k b below at_k individual. elim (cases_eq k n) [
          | inl same ↦ here k b same at_k
          | inr other ↦ known k b (omega arith) at_k individual
        ]
        by (Some f) known = record {
          name = known.name;
          at = known.at;
          individual = known.individual;
          first = known.first;
          least = λ k b below at_k individual. elim (cases_eq k n) [
            | inl same ↦ inl (here k b same at_k)
            | inr other ↦ known.least k b (omega arith) at_k individual
          ];
        }

    -- it doesn't come before what was found
    pub least_behind : (n : ℕ) (x : Option Found) → (ComesFirst names n x → ⊥) → IsLeastFound o rows names n x → IsLeastFound o rows names (n + 1) x
    least_behind n None not_first least = absurd (not_first tt)
    least_behind n (Some f) not_first least = record {
      name = least.name;
      at = least.at;
      individual = least.individual;
      first = least.first;
      least = λ k b below at_k individual. elim (cases_eq k n) [
        | inl same ↦ inr (turned_round name_cmp name_total least.name b (λ less. not_first (b, least.name, ap (slice_get names) (sym same) ∙ at_k, least.at, less)))
        | inr other ↦ least.least k b (omega arith) at_k individual
      ];
    }

    -- it comes first, and has a clash
    pub least_taken : (n : ℕ) (a : List ℕ) (x : Option Found) (c : RoleClash) → slice_get names n ≡ Some a → IsIndividual rows a → ComesFirst names n x → IsFirstAfter o (Held o rows a) (Some c)
        → IsLeastFound o rows names n x → IsLeastFound o rows names (n + 1) (Some (record { individual = n; clash = c }))
    least_taken n a x c at there comes first least = record {
      name = a;
      at = at;
      individual = there;
      first = first;
      least = λ k b below at_k individual. elim (cases_eq k n) [
        | inl same ↦ inr (subst (λ (y : List ℕ). name_cmp a y ≢ Greater) (item_same a b (sym at ∙ ap (slice_get names) (sym same) ∙ at_k)) (later_here a))
        | inr other ↦ earlier x comes least k b (omega arith) at_k individual
      ];
    }
      where
        earlier : (y : Option Found) → ComesFirst names n y → IsLeastFound o rows names n y → (k : ℕ) (b : List ℕ) → k < n → slice_get names k ≡ Some b → IsIndividual rows b → IsLater o rows a b
        earlier None comes_first known k b below at_k individual = inl (known k b below at_k individual)
        earlier (Some f) (a', f', at_a, at_f, less) known k b below at_k individual = elim (known.least k b below at_k individual) [
          | inl none ↦ inl none
          | inr before ↦
              let same_a : a' ≡ a = item_same a' a (sym at_a ∙ at) in
              let same_f : f' ≡ known.name = item_same f' known.name (sym at_f ∙ known.at) in
              let less_now : name_cmp a known.name ≡ Less = (λ j. name_cmp (sym same_a j) (sym same_f j)) ∙ less in
              inr (before_both name_cmp name_total a known.name b less_now before)
        ]

    -- what was found among all of them is the first clash of the base
    module _ (numbered : (a : List ℕ) → IsIndividual rows a → Contains names a) where
      pub reported_none : IsLeastFound o rows names (length names) None → IsReported o rows None
      reported_none least = none_first (λ a individual.
          let there = numbered a individual in
          least there.0 a there.1 (place_of names a there) individual)

      pub reported_some : (f : Found) (c : Clash) (name : List ℕ) → IsLeastFound o rows names (length names) (Some f)
          → slice_get names f.individual ≡ Some name → c.name ≡ name → AreNamedRoles o f.clash.path c.path → c.inclusion ≡ f.clash.inclusion → IsReported o rows (Some c)
      reported_some f c name least at name_is path inclusion =
          let later = λ (b : List ℕ) (there : IsIndividual rows b). (let at_b = numbered b there in least.least at_b.0 b at_b.1 (place_of names b at_b) there) in (
            record { element = after (Named least.name) f.clash.path; inclusion = f.clash.inclusion },
            first_of_all least.name f.clash least.individual least.first later,
            named_of least.name f.clash least.individual least.first later c (name_is ∙ item_same name least.name (sym at ∙ least.at)) path inclusion,
          )
