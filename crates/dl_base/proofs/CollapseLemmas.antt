-- Each element collapses onto a short one, at which all is derived that is derived at it.
use Rattle.std.proofs.Common.{◌≡◌, ◌≢◌, ℕ, ◌⊎◌, inl, inr, true, false, List, [], ◌∷◌, map, Contains, refl, sym, ◌∙◌, ap, subst}
use Rattle.dl_base.specs.Ontology.{Terminology}
use Rattle.dl_base.specs.Derivation.{inverse, leaf}
use Rattle.dl_base.specs.Query.{Question, terms_of}
use Rattle.dl_base.specs.Rows.{HasRow}
use Rattle.dl_base.specs.Unfolding.{Element, Named, Next, Exists, Start, DerivedAt, Edge}
use Rattle.dl_base.specs.Answers.{Holds, IsCertain}
use Rattle.dl_base.specs.ShortUnfolding.{EndPoints, IsShort}
use Rattle.dl_base.specs.ShortAnswers.{IsShortlyCertain}
use Rattle.dl_base.specs.Laws.{Collapses}
use Rattle.dl_base.specs.declared.concept.Role.{Role}
use Rattle.dl_base.specs.declared.concept.Basic.{Basic}
use Rattle.dl_base.specs.declared.concept.Basic.TheVariants as basic
use Rattle.dl_base.specs.declared.row.NamedRow.{NamedRow}
use Rattle.dl_base.specs.declared.query.Term.{Term}
use Rattle.dl_base.specs.declared.query.Term.TheVariants as term
use Rattle.dl_base.specs.declared.query.Atom.{Atom}
use Rattle.dl_base.specs.declared.query.Atom.TheVariants as atom
use Rattle.dl_base.proofs.DerivationLemmas.{cut}
use Rattle.dl_base.proofs.EdgeLemmas.{edge_back}
use Rattle.dl_base.proofs.PlaceLemmas.{flat_there}
use Rattle.dl_base.proofs.RisingLemmas.{contains_first, contains_later}
use Rattle.dl_base.proofs.RoleLemmas.{inverse_twice, one_role_or_two}
use Rattle.dl_base.proofs.RowDecisions.{SomeOrNone, has_some}
use Rattle.dl_base.proofs.RowLemmas.{ends_of_row, back_row}

module _ (o : Terminology) (rows : List NamedRow) where
  -- behind an individual: the end of a row, or the role's element where there is none
  abbrev ahead : (b : List ℕ) (r : Role) → SomeOrNone (HasRow o rows r b) → Element
  ahead b r (inl row) = Named row.0
  ahead b r (inr none) = Next (Named b) r

  -- behind a role: back where the next one is its inverse, and on where it isn't
  abbrev onward : (e : Element) (s r : Role) → (r ≡ inverse s) ⊎ (r ≢ inverse s) → Element
  onward e s r (inl back) = e
  onward e s r (inr on) = Next (Next e s) r

  -- the short element behind a short one
  abbrev pub step : Element → Role → Element
  step (Named b) r = ahead b r (has_some o rows r b)
  step (Next e s) r = onward e s r (one_role_or_two r (inverse s))

  -- the short element on which an element stands
  abbrev pub collapse : Element → Element
  collapse (Named a) = Named a
  collapse (Next e r) = step (collapse e) r

  -- the one stands on the other, which is short: whatever is derived at the one is derived at the other
  pub record Stands (e f : Element) : Type 0 where
    pub short : IsShort o rows f
    pub derives : (b : Basic) → DerivedAt o rows e b → DerivedAt o rows f b

  -- what a step leads to: a short element at which a successor by the inverse is derived, and an edge to it
  record Steps (e : Element) (r : Role) (f : Element) : Type 0 where
    short : IsShort o rows f
    back : DerivedAt o rows f (basic.Exists (inverse r))
    edge : Edge o rows r e f

  -- where the end of an element points to a role, a successor by it is derived there
  short_exists : (e : Element) (r : Role) → EndPoints o rows e r → DerivedAt o rows e (basic.Exists r)
  short_exists (Named a) r p = p.derived
  short_exists (Next e s) r p = p.derived

  steps : (e : Element) (r : Role) → IsShort o rows e → DerivedAt o rows e (basic.Exists r) → Steps e r (step e r)
  steps (Named b) r short derived = by (has_some o rows r b)
    where
      by : (d : SomeOrNone (HasRow o rows r b)) → Steps (Named b) r (ahead b r d)
      by (inl row) = record {
        short = (ends_of_row o rows r b row.0 row.1).1;
        back = leaf (b, back_row o rows r b row.0 row.1);
        edge = inl (record { from = b; to = row.0; from_is = refl; to_is = refl; row = row.1 });
      }
      by (inr none) = record {
        short = (short, record { individual = short; derived = derived; no_row = none });
        back = leaf refl;
        edge = inr (inl refl);
      }
  steps (Next e s) r short derived = by (one_role_or_two r (inverse s))
    where
      by : (d : (r ≡ inverse s) ⊎ (r ≢ inverse s)) → Steps (Next e s) r (onward e s r d)
      by (inl is) =
          let same : inverse r ≡ s = ap inverse is ∙ inverse_twice s in record {
            short = short.0;
            back = subst (λ (p : Role). DerivedAt o rows e (basic.Exists p)) (sym same) (short_exists e s short.1);
            edge = inr (inr (ap (Next e) (sym same)));
          }
      by (inr on) = record {
        short = (short, record { derived = derived; not_back = on });
        back = leaf refl;
        edge = inr (inl refl);
      }

  -- each element that exists stands on a short one
  pub stands : (e : Element) → Exists o rows e → Stands e (collapse e)
  stands (Named a) there = record { short = there; derives = λ b d. d }
  stands (Next e r) there =
      let before : Stands e (collapse e) = stands e there.0 in
      let s : Steps (collapse e) r (collapse (Next e r)) = steps (collapse e) r before.short (before.derives (basic.Exists r) there.1) in
      record {
        short = s.short;
        derives = λ b d. cut o.inclusions (Start o rows (collapse (Next e r))) (Start o rows (Next e r))
            (λ c is. subst (DerivedAt o rows (collapse (Next e r))) (sym is) s.back) d;
      }

  -- an element and what extends it stand beside each other
  stand_beside : (e : Element) (r : Role) → Exists o rows (Next e r) → Edge o rows r (collapse e) (collapse (Next e r))
  stand_beside e r there =
      let before : Stands e (collapse e) = stands e there.0 in
      (steps (collapse e) r before.short (before.derives (basic.Exists r) there.1)).edge

  -- where a named role holds of two elements, it holds where they stand
  pub edge_stays : (p : ℕ) (e f : Element) → Exists o rows e → Exists o rows f → Edge o rows (record { name = p; inverse = false }) e f
      → Edge o rows (record { name = p; inverse = false }) (collapse e) (collapse f)
  edge_stays p e f there_e there_f (inl row) = inl (record {
    from = row.from;
    to = row.to;
    from_is = ap collapse row.from_is;
    to_is = ap collapse row.to_is;
    row = row.row;
  })
  edge_stays p e f there_e there_f (inr (inl is)) =
      subst (λ (x : Element). Edge o rows (record { name = p; inverse = false }) (collapse e) (collapse x)) (sym is)
      (stand_beside e (record { name = p; inverse = false }) (subst (Exists o rows) is there_f))
  edge_stays p e f there_e there_f (inr (inr is)) =
      subst (λ (x : Element). Edge o rows (record { name = p; inverse = false }) (collapse x) (collapse f)) (sym is)
      (edge_back o rows (record { name = p; inverse = true }) (collapse f) (collapse (Next f (record { name = p; inverse = true }))) (stand_beside f (record { name = p; inverse = true }) (subst (Exists o rows) is there_e)))

  -- each short element exists
  pub short_there : (e : Element) → IsShort o rows e → Exists o rows e
  short_there (Named a) short = short
  short_there (Next e r) short = (short_there e short.0, short_exists e r short.1)

  module _ (q : Question) (key : List (List ℕ)) where
    named : (place : Term → Element) (vs key : List (List ℕ)) → map (λ v. place (term.Var v)) vs ≡ map Named key → map (λ v. collapse (place (term.Var v))) vs ≡ map Named key
    named place [] [] is = refl
    named place [] (a ∷ key) is = absurd cc
    named place (v ∷ vs) [] is = absurd cc
    named place (v ∷ vs) (a ∷ key) is =
        let head : place (term.Var v) ≡ Named a = cc in
        let tail : map (λ v. place (term.Var v)) vs ≡ map Named key = cc in
        let first : collapse (place (term.Var v)) ≡ Named a = ap collapse head in
        let rest : map (λ v. collapse (place (term.Var v))) vs ≡ map Named key = named place vs key tail in
        λ j. first j ∷ rest j

    pub on_short : IsCertain o rows q key → IsShortlyCertain o rows q key
    on_short c = record {
      place = λ t. collapse (c.place t);
      placed = record { short = λ t there. (stands (c.place t) (c.exist t there)).short; atoms = holds };
      answers = named c.place q.answers key c.answers;
      names = λ a there. ap collapse (c.names a there);
    }
      where
        there : (a : Atom) (t : Term) → Contains q.atoms a → Contains (terms_of a) t → Exists o rows (c.place t)
        there a t in_query of_it = c.exist t (flat_there terms_of q.atoms a t in_query of_it)

        holds : (a : Atom) → Contains q.atoms a → Holds o rows (λ t. collapse (c.place t)) a
        holds (atom.Concept name t) in_query =
            let h : Holds o rows c.place (atom.Concept name t) = c.atoms (atom.Concept name t) in_query in
            let exists : Exists o rows (c.place t) = there (atom.Concept name t) t in_query (contains_first t []) in
            (h.0, h.1, (stands (c.place t) exists).derives (basic.Concept h.0) h.2)
        holds (atom.Role name t u) in_query =
            let h : Holds o rows c.place (atom.Role name t u) = c.atoms (atom.Role name t u) in_query in
            let exists_t : Exists o rows (c.place t) = there (atom.Role name t u) t in_query (contains_first t (u ∷ [])) in
            let exists_u : Exists o rows (c.place u) = there (atom.Role name t u) u in_query (contains_later t (u ∷ []) u (contains_first u [])) in
            (h.0, h.1, edge_stays h.0 (c.place t) (c.place u) exists_t exists_u h.2)

    pub from_short : IsShortlyCertain o rows q key → IsCertain o rows q key
    from_short s = record {
      place = s.place;
      exist = λ t there. short_there (s.place t) (s.placed.short t there);
      answers = s.answers;
      names = s.names;
      atoms = s.placed.atoms;
    }

pub collapses : Collapses
collapses o rows q key = (on_short o rows q key, from_short o rows q key)
