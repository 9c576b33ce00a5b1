-- Roles between elements of the unfolding.
use Rattle.std.proofs.Common.{List, inl, inr, sym, ◌∙◌, ap, subst}
use Rattle.dl_base.specs.Derivation.{inverse, leaf}
use Rattle.dl_base.specs.Ontology.{Terminology}
use Rattle.dl_base.specs.Unfolding.{Element, Next, Exists, DerivedAt, Edge}
use Rattle.dl_base.specs.declared.concept.Role.{Role}
use Rattle.dl_base.specs.declared.concept.Basic.TheVariants as basic
use Rattle.dl_base.specs.declared.row.NamedRow.{NamedRow}
use Rattle.dl_base.proofs.RoleLemmas.{inverse_twice}
use Rattle.dl_base.proofs.RowLemmas.{back_row}

module _ (o : Terminology) (rows : List NamedRow) where
  -- a role leads back by its inverse
  pub edge_back : (r : Role) (e f : Element) → Edge o rows r e f → Edge o rows (inverse r) f e
  edge_back r e f (inl is) = inl (record { from = is.to; to = is.from; from_is = is.to_is; to_is = is.from_is; row = back_row o rows r is.from is.to is.row })
  edge_back r e f (inr (inl is)) = inr (inr (is ∙ ap (Next e) (sym (inverse_twice r))))
  edge_back r e f (inr (inr is)) = inr (inl is)

  -- where a role leads to an existing element, a successor by it is derived
  pub edge_derived : (r : Role) (e f : Element) → Exists o rows f → Edge o rows r e f → DerivedAt o rows e (basic.Exists r)
  edge_derived r e f there (inl is) = subst (λ (x : Element). DerivedAt o rows x (basic.Exists r)) (sym is.from_is) (leaf (is.to, is.row))
  edge_derived r e f there (inr (inl is)) = (subst (Exists o rows) is there).1
  edge_derived r e f there (inr (inr is)) = subst (λ (x : Element). DerivedAt o rows x (basic.Exists r)) (sym is) (leaf (ap basic.Exists (sym (inverse_twice r))))
