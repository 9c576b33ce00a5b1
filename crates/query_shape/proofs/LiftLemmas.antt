-- What lifts of a query and of its shape.
use Rattle.std.proofs.Common.{◌≡◌, ◌≢◌, ℕ, zero, suc, ◌<◌, Bool, true, false, List, [], ◌∷◌, length, map, get_or, Some, slice_get, AllPairs, refl, sym, ◌∙◌, ap, subst, if◌then◌else◌}
use Rattle.std.proofs.lemmas.List.{length-map}
use Rattle.std.proofs.lemmas.Option.{same_Some, slice_get_within, slice_get-get_or, get_or_from_slice_get}
use Rattle.dl_base.specs.Ontology.{Terminology}
use Rattle.dl_base.specs.Answers.{Holds}
use Rattle.dl_base.specs.Unfolding.{Element, DerivedAt, Edge}
use Rattle.dl_base.specs.Completion.{Represents}
use Rattle.dl_base.specs.ShortUnfolding.{IsShort, node_of}
use Rattle.dl_base.specs.Lifting.{Lifts}
use Rattle.dl_base.specs.declared.concept.Role.{Role}
use Rattle.dl_base.specs.declared.concept.Basic.TheVariants as basic
use Rattle.dl_base.specs.declared.element.Elem.{Elem}
use Rattle.dl_base.specs.declared.row.NamedRow.{NamedRow}
use Rattle.dl_base.specs.declared.query.Term.{Term}
use Rattle.dl_base.specs.declared.query.Term.TheVariants as term
use Rattle.dl_base.specs.declared.query.Atom.{Atom}
use Rattle.dl_base.specs.declared.query.Atom.TheVariants as atom
use Rattle.query_shape.specs.Shape.{NumbersAtom}
use Rattle.query_shape.specs.ShapeLaws.{SameLifting}
use Rattle.query_shape.specs.Lifting.{HoldsOn, LiftsShape}
use Rattle.query_shape.specs.declared.layout.ShapeAtom.{ShapeAtom}
use Rattle.query_shape.specs.declared.layout.ShapeAtom.TheVariants as shape
use Rattle.query_shape.proofs.MatchLemmas.{same_term, same_itself, same_is, image_at, image_is}
use Rattle.query_shape.proofs.NumberingLemmas.{firsts_from, firsts_into, firsts_distinct}
use Rattle.dl_base.proofs.PlaceLemmas.{member_at, place_of, one_place, zip_left, zip_right, distinct_head, distinct_tail}

-- ---- the number of a term, and the term of a number

number_of : List Term → Term → ℕ
number_of [] t = 0
number_of (u ∷ us) t = if same_term t u then 0 else suc (number_of us t)

number_there : (ts : List Term) (n : ℕ) (t : Term) → AllPairs (λ t u. t ≢ u) ts → slice_get ts n ≡ Some t → number_of ts t ≡ n
unfolding number_of
number_there [] n t distinct at = absurd cc
number_there (u ∷ us) zero t distinct at =
    let same : u ≡ t = same_Some u t at in
    subst (λ (v : Term). number_of (u ∷ us) v ≡ 0) same (rw (same_itself u) refl)
number_there (u ∷ us) (suc n) t distinct at = by (same_term t u) refl (number_there us n t (distinct_tail u us distinct) at)
  where
    by : (b : Bool) → same_term t u ≡ b → number_of us t ≡ n → (if b then 0 else suc (number_of us t)) ≡ suc n
    by true e rec = absurd (distinct_head u us distinct t (member_at us n t at) (same_is t u e))
    by false e rec = ap suc rec

term_of : List Term → ℕ → Term
term_of ts k = get_or ts k (term.Named [])

term_there : (ts : List Term) (n : ℕ) (t : Term) → slice_get ts n ≡ Some t → term_of ts n ≡ t
unfolding term_of
term_there ts n t at = get_or_from_slice_get ts n t (term.Named []) at

term_at : (ts : List Term) (n : ℕ) → n < length ts → slice_get ts n ≡ Some (term_of ts n)
unfolding term_of
term_at ts n lt = slice_get-get_or ts n (term.Named []) lt

-- ---- atoms where their terms are placed

module _ (o : Terminology) (rows : List NamedRow) (ts : List Term) (concepts : AllPairs (λ x y. x ≢ y) o.concepts) (roles : AllPairs (λ x y. x ≢ y) o.roles) (by_term : Term → Element) (by_number : ℕ → Element)
    (same : (n : ℕ) (t : Term) → slice_get ts n ≡ Some t → by_number n ≡ by_term t) where
  direct : (r : Role) → r.inverse ≡ false → record { name = r.name; inverse = false } ≡ r
  direct r is = λ i. record { name = r.name; inverse = sym is i }

  holds_on : (a : Atom) (s : ShapeAtom) → NumbersAtom o ts a s → Holds o rows by_term a → HoldsOn o rows by_number s
  holds_on (atom.Concept name t) (shape.Concept c n) h (d, named, derived) =
      let concept : d ≡ c = one_place o.concepts d c name concepts named h.0 in
      subst (λ (e : Element). DerivedAt o rows e (basic.Concept c)) (sym (same n t h.1)) (subst (λ (k : ℕ). DerivedAt o rows (by_term t) (basic.Concept k)) concept derived)
  holds_on (atom.Role name t u) (shape.Role r n m) h (p, named, edge) =
      let role : p ≡ r.name = one_place o.roles p r.name name roles named h.0 in
      let whole : (record { name = p; inverse = false }) ≡ r = (λ i. record { name = role i; inverse = false }) ∙ direct r h.1 in
      let there : Edge o rows r (by_term t) (by_term u) = subst (λ (s : Role). Edge o rows s (by_term t) (by_term u)) whole edge in
      subst (λ (e : Element). Edge o rows r e (by_number m)) (sym (same n t h.2)) (subst (λ (f : Element). Edge o rows r (by_term t) f) (sym (same m u h.3)) there)
  holds_on (atom.Concept name t) (shape.Role r n m) h holds = absurd h
  holds_on (atom.Role name t u) (shape.Concept c n) h holds = absurd h

  on_holds : (a : Atom) (s : ShapeAtom) → NumbersAtom o ts a s → HoldsOn o rows by_number s → Holds o rows by_term a
  on_holds (atom.Concept name t) (shape.Concept c n) h derived =
      (c, h.0, subst (λ (e : Element). DerivedAt o rows e (basic.Concept c)) (same n t h.1) derived)
  on_holds (atom.Role name t u) (shape.Role r n m) h edge =
      let there : Edge o rows r (by_term t) (by_term u) =
      subst (λ (e : Element). Edge o rows r e (by_term u)) (same n t h.2) (subst (λ (f : Element). Edge o rows r (by_number n) f) (same m u h.3) edge) in
      (r.name, h.0, subst (λ (s : Role). Edge o rows s (by_term t) (by_term u)) (sym (direct r h.1)) there)
  on_holds (atom.Concept name t) (shape.Role r n m) h holds = absurd h
  on_holds (atom.Role name t u) (shape.Concept c n) h holds = absurd h

-- ---- placings of terms and of numbers

pub same_lifting : SameLifting
same_lifting o rows names generation q s images concepts roles is = (into, back)
  where
    into : Lifts o rows names generation q images → LiftsShape o rows names generation s (map images s.terms)
    into l = record {
      count = length-map s.terms images;
      place = λ k. l.place (term_of s.terms k);
      short = λ k lt. l.placed.short (term_of s.terms k) (firsts_from is.terms_are (term_of s.terms k) (member_at s.terms k (term_of s.terms k) (term_at s.terms k lt)));
      folds = λ k e at.
          let lt : k < length s.terms = subst (λ (n : ℕ). k < n) (length-map s.terms images) (slice_get_within (map images s.terms) k e at) in
          let there = term_at s.terms k lt in
          let member = firsts_from is.terms_are (term_of s.terms k) (member_at s.terms k (term_of s.terms k) there) in
          subst (λ (f : Elem). Represents names generation f (node_of (l.place (term_of s.terms k)))) (sym (image_is images s.terms k (term_of s.terms k) e there at)) (l.folds (term_of s.terms k) member);
      atoms = λ a there.
          let of = zip_right (NumbersAtom o s.terms) q.atoms s.atoms is.atoms_are a there in
          holds_on o rows s.terms concepts roles l.place (λ k. l.place (term_of s.terms k)) (λ n t at. ap l.place (term_there s.terms n t at)) of.0 a of.2 (l.placed.atoms of.0 of.1);
    }

    back : LiftsShape o rows names generation s (map images s.terms) → Lifts o rows names generation q images
    back l = record {
      place = λ t. l.place (number_of s.terms t);
      placed = record {
        short = λ t c.
            let member = firsts_into is.terms_are t c in
            let number : number_of s.terms t ≡ member.0 = number_there s.terms member.0 t (firsts_distinct is.terms_are) (place_of s.terms t member) in
            subst (λ (k : ℕ). IsShort o rows (l.place k)) (sym number) (l.short member.0 member.1);
        atoms = λ a there.
            let of = zip_left (NumbersAtom o s.terms) q.atoms s.atoms is.atoms_are a there in
            on_holds o rows s.terms concepts roles (λ t. l.place (number_of s.terms t)) l.place (λ n t at. ap l.place (sym (number_there s.terms n t (firsts_distinct is.terms_are) at))) a of.0 of.2 (l.atoms of.0 of.1);
      };
      folds = λ t c.
          let member = firsts_into is.terms_are t c in
          let at = place_of s.terms t member in
          let number : number_of s.terms t ≡ member.0 = number_there s.terms member.0 t (firsts_distinct is.terms_are) at in
          subst (λ (k : ℕ). Represents names generation (images t) (node_of (l.place k))) (sym number) (l.folds member.0 (images t) (image_at images s.terms member.0 t at));
    }
