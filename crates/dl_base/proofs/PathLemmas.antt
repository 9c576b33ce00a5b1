-- Lists of roles that may follow, and elements of the unfolding: both say the same.
use Rattle.std.proofs.Common.{◌≡◌, ℕ, ◌<◌, List, [], ◌∷◌, ◌++◌, length, refl, sym, ◌∙◌, ap, subst, append_assoc}
use Rattle.dl_base.specs.Clashes.{Place, IsClash, individual_of, path_of}
use Rattle.dl_base.specs.Derivation.{Derives, Violates, HeldBehind}
use Rattle.dl_base.specs.Laws.{ClashesAlongRoles}
use Rattle.dl_base.specs.Ontology.{Terminology, IsTerminology, IsPlaced}
use Rattle.dl_base.specs.Paths.{MayFollow, HeldAfter, ClashesAfter}
use Rattle.dl_base.specs.Rows.{Held, IsIndividual}
use Rattle.dl_base.specs.Unfolding.{Element, Named, Next, Start, Exists}
use Rattle.dl_base.specs.declared.concept.Basic.TheVariants as basic
use Rattle.dl_base.specs.declared.concept.Role.{Role}
use Rattle.dl_base.specs.declared.row.NamedRow.{NamedRow}
use Rattle.dl_base.proofs.OntologyLemmas.{derived_placed}

-- the element at the end of the roles behind another
pub after : Element → List Role → Element
after e [] = e
after e (r ∷ rs) = after (Next e r) rs

pub after-path : (e : Element) (path : List Role) → path_of (after e path) ≡ path_of e ++ path
unfolding after
after-path e [] = sym (append-none (path_of e))
  where
    append-none : (rs : List Role) → rs ++ [] ≡ rs
    append-none [] = refl
    append-none (r ∷ rs) = ap (λ (xs : List Role). r ∷ xs) (append-none rs)
after-path e (r ∷ rs) = after-path (Next e r) rs ∙ append_assoc (path_of e) (r ∷ []) rs

pub after-individual : (e : Element) (path : List Role) → individual_of (after e path) ≡ individual_of e
unfolding after
after-individual e [] = refl
after-individual e (r ∷ rs) = after-individual (Next e r) rs

after-next : (e : Element) (path : List Role) (r : Role) → after e (path ++ r ∷ []) ≡ Next (after e path) r
unfolding after
after-next e [] r = refl
after-next e (s ∷ rs) r = after-next (Next e s) rs r

-- each element is at the end of its roles behind its individual
pub element-after : (e : Element) → after (Named (individual_of e)) (path_of e) ≡ e
unfolding after
element-after (Named a) = refl
element-after (Next e r) = after-next (Named (individual_of e)) (path_of e) r ∙ ap (λ (f : Element). Next f r) (element-after e)

module _ (o : Terminology) (rows : List NamedRow) where
  -- what exists behind an existing element is what may follow there
  pub exists_after : (e : Element) (path : List Role) → Exists o rows e → MayFollow o.inclusions (Start o rows e) path → Exists o rows (after e path)
  unfolding after
  exists_after e [] there follows = there
  exists_after e (r ∷ rs) there follows = exists_after (Next e r) rs (there, follows.0) follows.1

  pub follows_where : (e : Element) (path : List Role) → Exists o rows (after e path) → Exists o rows e × MayFollow o.inclusions (Start o rows e) path
  unfolding after
  follows_where e [] there = (there, tt)
  follows_where e (r ∷ rs) there = let rest = follows_where (Next e r) rs there in (rest.0.0, (rest.0.1, rest.1))

  -- an element begins with what is held at the end of its roles
  pub start_after : (e : Element) (path : List Role) (k : ℕ) → Violates o.inclusions (HeldAfter (Start o rows e) path) k → Violates o.inclusions (Start o rows (after e path)) k
  unfolding after
  start_after e [] k v = v
  start_after e (r ∷ rs) k v = start_after (Next e r) rs k v

  pub held_after : (e : Element) (path : List Role) (k : ℕ) → Violates o.inclusions (Start o rows (after e path)) k → Violates o.inclusions (HeldAfter (Start o rows e) path) k
  unfolding after
  held_after e [] k v = v
  held_after e (r ∷ rs) k v = held_after (Next e r) rs k v

  -- a clash is an individual and a list of roles that may follow there, with what is violated at its end
  pub clash_after : (a : List ℕ) (path : List Role) (k : ℕ) → IsIndividual rows a → ClashesAfter o.inclusions (Held o rows a) path k
      → IsClash o rows (record { element = after (Named a) path; inclusion = k })
  clash_after a path k individual clashes = record {
    exists = exists_after (Named a) path individual clashes.follows;
    violates = start_after (Named a) path k clashes.violates;
  }

  pub clash_parts : (c : Place) → IsClash o rows c → IsIndividual rows (individual_of c.element) × ClashesAfter o.inclusions (Held o rows (individual_of c.element)) (path_of c.element) c.inclusion
  clash_parts c clash =
      let is = sym (element-after c.element) in
      let first = Named (individual_of c.element) in
      let there = follows_where first (path_of c.element) (subst (Exists o rows) is clash.exists) in (
        there.0,
        record {
          follows = there.1;
          violates = held_after first (path_of c.element) c.inclusion (subst (λ (e : Element). Violates o.inclusions (Start o rows e) c.inclusion) is clash.violates);
        },
      )

pub clashes_along_roles : ClashesAlongRoles
clashes_along_roles o rows c = (
  clash_parts o rows c,
  λ (individual, clashes). subst (λ (e : Element). IsClash o rows (record { element = e; inclusion = c.inclusion })) (element-after c.element)
      (clash_after o rows (individual_of c.element) (path_of c.element) c.inclusion individual clashes),
)

-- behind a role of the ontology only roles of the ontology are derived
pub derived_role : (o : Terminology) (r s : Role) → IsTerminology o → r.name < length o.roles → Derives o.inclusions (HeldBehind r) (basic.Exists s) → s.name < length o.roles
derived_role o r s within placed d =
    derived_placed o within (HeldBehind r) (λ b is. subst (IsPlaced (length o.concepts) (length o.roles)) (sym is) placed) (basic.Exists s) d
