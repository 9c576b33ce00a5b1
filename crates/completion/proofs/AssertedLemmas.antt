-- The rows of roles, taken over individual by individual.
use Rattle.std.proofs.Common.{◌≡◌, ℕ, ◌<◌, ◌⊎◌, ◌↔◌, inl, inr, List, [], ◌∷◌, ◌++◌, Contains, Option, Some, None, refl, sym, subst, arith}
use Rattle.std.proofs.lemmas.List.Elements.{Contains-append_left, Contains-push}
use Rattle.assert_tables.specs.Naming.{AreRowsNaming}
use Rattle.assert_tables.specs.Rows.{IsNumberAbove, IsNextIndividual}
use Rattle.dl_base.specs.declared.row.Row.{Row}
use Rattle.dl_base.proofs.RowLemmas.{contains_cut}
use Rattle.assert_tables.proofs.LeftLemmas.{above_on}
use Rattle.completion.specs.Gathered.{row_of_edge}
use Rattle.completion.specs.declared.edges.Edge.{Edge}

-- ---- the rows of one individual

-- those of these rows that begin there were added
pub record AreTakenFrom (these : List Row) (n : ℕ) (old edges : List Edge) : Type 0 where
  pub each : (x : Edge) → Contains edges x ↔ (((x.from ≡ n) × Contains these (row_of_edge x)) ⊎ Contains old x)

pub added_none : (n : ℕ) (old : List Edge) → AreTakenFrom [] n old old
added_none n old = record { each = λ x. (λ c. inr c, λ either. elim either [ inl h ↦ absurd (omega (arith, h.1.1)) | inr c ↦ c ]) }

pub added_more : (these : List Row) (n : ℕ) (r : Row) (old edges new : List Edge) → ((x : Edge) → Contains new x ↔ (((x.from ≡ n) × (row_of_edge x ≡ r)) ⊎ Contains edges x)) → AreTakenFrom these n old edges
    → AreTakenFrom (these ++ r ∷ []) n old new
added_more these n r old edges new adds far = record {
  each = λ x. (
    λ c. elim ((adds x).0 c) [
      | inl here ↦ inl (here.0, subst (Contains (these ++ r ∷ [])) (sym here.1) (Contains-push these r))
      | inr before ↦ elim ((far.each x).0 before) [
        | inl found ↦ inl (found.0, Contains-append_left these (r ∷ []) (row_of_edge x) found.1)
        | inr earlier ↦ inr earlier
      ]
    ],
    λ either. (adds x).1 (elim either [
      | inl h ↦ elim (contains_cut these r (row_of_edge x) h.1) [
        | inl e ↦ inl (h.0, e)
        | inr d ↦ inr ((far.each x).1 (inl (h.0, d)))
      ]
      | inr earlier ↦ inr ((far.each x).1 (inr earlier))
    ]),
  );
}

-- where they are all that name the individual, all were added
pub added_all : (rows these : List Row) (n : ℕ) (old edges : List Edge) → AreRowsNaming rows n these → AreTakenFrom these n old edges
    → (x : Edge) → Contains edges x ↔ (((x.from ≡ n) × Contains rows (row_of_edge x)) ⊎ Contains old x)
added_all rows these n old edges naming far x = (
  λ c. elim ((far.each x).0 c) [ inl h ↦ inl (h.0, ((naming.each (row_of_edge x)).0 h.1).0) | inr before ↦ inr before ],
  λ either. (far.each x).1 (elim either [
    | inl h ↦ inl (h.0, (naming.each (row_of_edge x)).1 (h.1, inl (sym h.0)))
    | inr before ↦ inr before
  ]),
)

-- ---- all individuals

-- the rows that begin at individuals up to that one were taken over
pub record TakenUpTo (rows : List Row) (after : Option ℕ) (edges : List Edge) : Type 0 where
  pub each : (x : Edge) → Contains edges x ↔ (Contains rows (row_of_edge x) × (IsNumberAbove after x.from → ⊥))

pub taken_none : (rows : List Row) → TakenUpTo rows None []
taken_none rows = record { each = λ x. (λ c. absurd (omega (arith, c.1)), λ h. absurd (h.1 tt)) }

pub taken_more : (rows : List Row) (after : Option ℕ) (i : ℕ) (edges new : List Edge) → IsNextIndividual rows after (Some i)
    → ((x : Edge) → Contains new x ↔ (((x.from ≡ i) × Contains rows (row_of_edge x)) ⊎ Contains edges x)) → TakenUpTo rows after edges → TakenUpTo rows (Some i) new
taken_more rows after i edges new next adds far = record { each = λ x. (into x, out x) }
  where
    into : (x : Edge) → Contains new x → Contains rows (row_of_edge x) × (IsNumberAbove (Some i) x.from → ⊥)
    into x c = elim ((adds x).0 c) [
      | inl here ↦ (here.1, λ less. (let same = here.0 in omega (arith, same, less)))
      | inr before ↦ (let h = (far.each x).0 before in (h.0, λ less. h.1 (above_on after i x.from next.0 less)))
    ]

    three : (n m : ℕ) → (n < m) ⊎ ((n ≡ m) ⊎ (m < n))
    three n m = grind arith

    out : (x : Edge) → Contains rows (row_of_edge x) × (IsNumberAbove (Some i) x.from → ⊥) → Contains new x
    out x (there, not_above) = elim (three x.from i) [
      | inl less ↦ (adds x).1 (inr ((far.each x).1 (there, λ above. next.2 (row_of_edge x) x.from there (inl refl) above less)))
      | inr rest ↦ elim rest [ inl same ↦ (adds x).1 (inl (same, there)) | inr more ↦ absurd (not_above more) ]
    ]

pub taken_all : (rows : List Row) (after : Option ℕ) (edges : List Edge) → IsNextIndividual rows after None → TakenUpTo rows after edges → (x : Edge) → Contains edges x ↔ Contains rows (row_of_edge x)
taken_all rows after edges none far x = (λ c. ((far.each x).0 c).0, λ there. (far.each x).1 (there, λ above. none (row_of_edge x) x.from there (inl refl) above))
