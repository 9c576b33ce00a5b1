-- What is derived at one individual, and to which roles it points.
use Rattle.std.proofs.Common.{ℕ, ◌<◌, ◌⊎◌, ◌↔◌, inl, inr, List, length, All, sym, subst, arith}
use Rattle.std.proofs.lemmas.List.Elements.{All-contains}
use Rattle.completion.specs.Individuals.{IsAt}
use Rattle.completion.specs.Numbered.{GivesBasic, HoldsBy, IsRowOf, IsRowWithin, PointsTo}
use Rattle.completion.specs.Points.{IsNeededBelow}
use Rattle.dl_base.specs.Ontology.{Terminology, IsTerminology, IsPlaced}
use Rattle.dl_base.specs.Sets.{HasBasic, HasRole}
use Rattle.dl_base.specs.declared.concept.Basic.{Basic}
use Rattle.dl_base.specs.declared.concept.Basic.TheVariants as basic
use Rattle.dl_base.specs.declared.concept.Role.{Role}
use Rattle.dl_base.specs.declared.row.Row.{Row}
use Rattle.dl_base.specs.declared.row.Row.TheVariants as row
use Rattle.horn_closure.specs.Closure.{ClosedSet, IsClosure}
use Rattle.horn_closure.proofs.ClosureLemmas.{closure_held}
use Rattle.dl_base.proofs.OntologyLemmas.{derived_placed}

-- rows of an ontology are within the limits of all ontologies
row_wider : (o : Terminology) → IsTerminology o → (r : Row) → IsRowOf o r → IsRowWithin 512 256 r
row_wider o within (row.Concept c n) h = omega (arith, within.concepts, h)
row_wider o within (row.Role p n m) h = omega (arith, within.roles, h)

pub rows_wider : (o : Terminology) (rows : List Row) → IsTerminology o → All (IsRowOf o) rows → All (IsRowWithin 512 256) rows
rows_wider o rows within all k d below = row_wider o within _ (all k d below)

module _ (o : Terminology) (rows : List Row) (within : IsTerminology o) (all : All (IsRowOf o) rows) where
  gives_placed : (r : Row) (n : ℕ) (b : Basic) → IsRowOf o r → GivesBasic r n b → IsPlaced (length o.concepts) (length o.roles) b
  gives_placed (row.Concept c a) n b h g = subst (IsPlaced (length o.concepts) (length o.roles)) (sym g.1) h
  gives_placed (row.Role p a d) n b h (inl g) = subst (IsPlaced (length o.concepts) (length o.roles)) (sym g.1) h
  gives_placed (row.Role p a d) n b h (inr g) = subst (IsPlaced (length o.concepts) (length o.roles)) (sym g.1) h

  pub holds_placed : (n : ℕ) (b : Basic) → HoldsBy rows n b → IsPlaced (length o.concepts) (length o.roles) b
  holds_placed n b h = gives_placed h.0 n b (All-contains (IsRowOf o) rows h.0 all h.1) h.2

  pub points_placed : (n : ℕ) (r : Role) → PointsTo o rows n r → r.name < length o.roles
  points_placed n r points = derived_placed o within (HoldsBy rows n) (holds_placed n) (basic.Exists r) points.derived

  module _ (n : ℕ) (held : List ℕ) (closed : ClosedSet) (holds : (b : Basic) → HasBasic held b ↔ HoldsBy rows n b) (is : IsClosure o.inclusions (HasBasic held) closed) where
    closure : IsClosure o.inclusions (HoldsBy rows n) closed
    closure = closure_held o.inclusions (HasBasic held) (HoldsBy rows n) holds closed is

    -- what is needed beside what is held is what the individual points to
    needed_points : (r : Role) → IsNeededBelow closed.derived held (length o.roles) r ↔ PointsTo o rows n r
    needed_points r = (
      λ needed. record {
        derived = (closure.derived (basic.Exists r)).0 needed.1.derived_is;
        no_row = λ h. needed.1.not_held ((holds (basic.Exists r)).1 h);
      },
      λ points. (
        points_placed n r points,
        record {
          derived_is = (closure.derived (basic.Exists r)).1 points.derived;
          not_held = λ h. points.no_row ((holds (basic.Exists r)).0 h);
        },
      ),
    )

    pub added_points : (old new : List ℕ) → ((r : Role) → HasRole new r ↔ (IsNeededBelow closed.derived held (length o.roles) r ⊎ HasRole old r))
        → (r : Role) → HasRole new r ↔ (PointsTo o rows n r ⊎ HasRole old r)
    added_points old new adds r = (
      λ has. elim ((adds r).0 has) [ inl needed ↦ inl ((needed_points r).0 needed) | inr before ↦ inr before ],
      λ either. (adds r).1 (elim either [ inl points ↦ inl ((needed_points r).1 points) | inr before ↦ inr before ]),
    )

    pub is_at_individual : (empty points : List ℕ) → ((r : Role) → HasRole empty r → ⊥) → ((r : Role) → HasRole points r ↔ (IsNeededBelow closed.derived held (length o.roles) r ⊎ HasRole empty r))
        → IsAt o rows n (record { closed = closed; points = points })
    is_at_individual empty points none adds = record {
      closure = closure;
      points = λ r. (
        λ has. elim ((added_points empty points adds r).0 has) [ inl p ↦ p | inr before ↦ absurd (none r before) ],
        λ p. (added_points empty points adds r).1 (inl p),
      );
    }
