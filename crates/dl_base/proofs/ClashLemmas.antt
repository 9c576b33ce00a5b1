-- The first clash of a base is one, and so is what the base replies.
use Rattle.std.proofs.Common.{◌≡◌, ◌≢◌, ℕ, ◌<◌, List, [], ◌∷◌, ◌++◌, length, get_or, Option, Some, None, refl, sym, ◌∙◌, ap, subst, arith}
use Rattle.std.specs.Cmp.{IsTotalOrder}
use Rattle.std.specs.Cmp.Lexicographic.{slice_cmp}
use Rattle.std.specs.List.{AllByRecursion}
use Rattle.std.specs.declared.cmp.Ordering.{Ordering}
use Rattle.std.specs.declared.cmp.Ordering.TheVariants.{Less, Equal, Greater}
use Rattle.std.specs.Ordering.{ordering_then, ordering_reverse, nat_cmp, on, then_cmp}
use Rattle.std.proofs.lemmas.Cmp.{nat_cmp_total, nat_list_cmp_total, lists_total, on_total, then_total}
use Rattle.std.proofs.lemmas.Option.{slice_get_within, same_Some}
use Rattle.dl_base.specs.Ontology.{Terminology, IsTerminology, IsPlaced}
use Rattle.dl_base.specs.Query.{Question}
use Rattle.dl_base.specs.Rows.{name_cmp}
use Rattle.dl_base.specs.Unfolding.{Element, Named, Next, Exists, Start}
use Rattle.dl_base.specs.Answers.{AreAnswers, key_cmp}
use Rattle.dl_base.specs.Clashes.{Place, IsFirstClash, individual_of, path_of, place_cmp, role_cmp, name_of}
use Rattle.dl_base.specs.Replies.{Replied, Answers, Inconsistent, IsReply}
use Rattle.dl_base.specs.declared.concept.Role.{Role}
use Rattle.dl_base.specs.declared.concept.Basic.{Basic}
use Rattle.dl_base.specs.declared.concept.Basic.TheVariants as basic
use Rattle.dl_base.specs.declared.row.NamedRow.{NamedRow}
use Rattle.dl_base.proofs.OntologyLemmas.{derived_placed}
use Rattle.dl_base.proofs.ElemLemmas.{bit, bit_cmp, inverse_same}
use Rattle.dl_base.proofs.RisingLemmas.{nat_same, slice_same, same_rising}
use Rattle.dl_base.proofs.RowLemmas.{total_as, name_same, then_first, then_second}

-- ---- the answers

pub answers_once : (o : Terminology) (rows : List NamedRow) (q : Question) (keys others : List (List (List ℕ))) → AreAnswers o rows q keys → AreAnswers o rows q others → keys ≡ others
answers_once o rows q keys others a b =
    same_rising key_cmp (lists_total nat_list_cmp_total) (slice_same name_cmp (slice_same nat_cmp nat_same)) keys others a.rising b.rising
    (λ key there. (b.members key).1 ((a.members key).0 there)) (λ key there. (a.members key).1 ((b.members key).0 there))

-- ---- the order of clashes

pub role_total : (o : Terminology) → IsTotalOrder (role_cmp o)
role_total o = total_as (then_cmp (on (name_of o) name_cmp) (on direction nat_cmp)) (role_cmp o)
    (λ r s. ap (ordering_then (name_cmp (name_of o r) (name_of o s))) (bit_cmp r.inverse s.inverse))
    (then_total (on_total (name_of o) nat_list_cmp_total) (on_total direction nat_cmp_total))
  where
    direction : Role → ℕ
    direction r = bit r.inverse

place_total : (o : Terminology) → IsTotalOrder (place_cmp o)
place_total o = then_total (on_total (λ (x : Place). individual_of x.element) nat_list_cmp_total)
    (then_total (on_total (λ (x : Place). length (path_of x.element)) nat_cmp_total)
    (then_total (on_total (λ (x : Place). path_of x.element) (lists_total (role_total o))) (on_total (λ (x : Place). x.inclusion) nat_cmp_total)))

-- neither comes behind the other
pub tied : {X : Type 0} (cmp : X → X → Ordering) → IsTotalOrder cmp → (x y : X) → cmp x y ≢ Greater → cmp y x ≢ Greater → cmp x y ≡ Equal
tied cmp total x y a b = by (cmp x y) refl
  where
    by : (r : Ordering) → cmp x y ≡ r → cmp x y ≡ Equal
    by Less e = absurd (b (total.antisymm y x ∙ ap ordering_reverse e))
    by Equal e = e
    by Greater e = absurd (a e)

-- ---- the roles of existing elements have names

module _ (o : Terminology) (rows : List NamedRow) (t : IsTerminology o) where
  start_placed : (e : Element) → Exists o rows e → (b : Basic) → Start o rows e b → IsPlaced (length o.concepts) (length o.roles) b
  start_placed (Named a) exists (basic.Concept c) h = slice_get_within o.concepts c h.name h.named
  start_placed (Named a) exists (basic.Exists r) h = slice_get_within o.roles r.name h.1.name h.1.named
  start_placed (Next e r) exists b h =
      let role : r.name < length o.roles = derived_placed o t (Start o rows e) (start_placed e exists.0) (basic.Exists r) exists.1 in
      subst (IsPlaced (length o.concepts) (length o.roles)) (sym h) role

  abbrev HasName : Role → Type 0
  HasName r = r.name < length o.roles

  last_too : (xs : List Role) (x : Role) → AllByRecursion HasName xs → HasName x → AllByRecursion HasName (xs ++ x ∷ [])
  last_too [] x all here = (here, tt)
  last_too (y ∷ ys) x all here = (all.0, last_too ys x all.1 here)

  path_named : (e : Element) → Exists o rows e → AllByRecursion HasName (path_of e)
  path_named (Named a) exists = tt
  path_named (Next e r) exists = last_too (path_of e) r (path_named e exists.0)
      (derived_placed o t (Start o rows e) (start_placed e exists.0) (basic.Exists r) exists.1)

  -- two roles of an ontology that compare as equal are one
  pub role_same : (r s : Role) → HasName r → HasName s → role_cmp o r s ≡ Equal → r ≡ s
  role_same r s in_r in_s e =
      let names : get_or o.roles r.name [] ≡ get_or o.roles s.name [] = name_same _ _ (then_first _ _ e) in
      let direction : r.inverse ≡ s.inverse = inverse_same r.inverse s.inverse (then_second (name_cmp (name_of o r) (name_of o s)) _ e) in
      let not_below : r.name < s.name → ⊥ = λ lt. t.distinct_roles r.name s.name [] lt in_s names in
      let not_above : s.name < r.name → ⊥ = λ lt. t.distinct_roles s.name r.name [] lt in_r (sym names) in
      let place : r.name ≡ s.name = omega arith in
      λ j. record { name = place j; inverse = direction j }

  paths_same : (xs ys : List Role) → AllByRecursion HasName xs → AllByRecursion HasName ys → slice_cmp (role_cmp o) xs ys ≡ Equal → xs ≡ ys
  paths_same [] [] a b e = refl
  paths_same [] (y ∷ ys) a b e = absurd cc
  paths_same (x ∷ xs) [] a b e = absurd cc
  paths_same (x ∷ xs) (y ∷ ys) a b e = by (role_cmp o x y) refl (paths_same xs ys a.1 b.1)
    where
      by : (r : Ordering) → role_cmp o x y ≡ r → (slice_cmp (role_cmp o) xs ys ≡ Equal → xs ≡ ys) → x ∷ xs ≡ y ∷ ys
      by Less f rest = absurd (let g : Less ≡ Equal = rw f at e in cc)
      by Equal f rest =
          let first : x ≡ y = role_same x y a.0 b.0 f in
          let others : xs ≡ ys = rest (rw f at e) in
          cc
      by Greater f rest = absurd (let g : Greater ≡ Equal = rw f at e in cc)

  -- ---- an element is its individual with its list of roles

  none_last : (xs : List Role) (x : Role) → [] ≡ xs ++ x ∷ [] → ⊥
  none_last [] x e = cc
  none_last (y ∷ ys) x e = cc

  last_same : (xs ys : List Role) (x y : Role) → xs ++ x ∷ [] ≡ ys ++ y ∷ [] → (xs ≡ ys) × (x ≡ y)
  last_same [] [] x y e = let f : x ≡ y = cc in (refl, f)
  last_same [] (z ∷ ys) x y e = absurd (none_last ys y (let f : [] ≡ ys ++ y ∷ [] = cc in f))
  last_same (z ∷ xs) [] x y e = absurd (none_last xs x (let f : [] ≡ xs ++ x ∷ [] = cc in f))
  last_same (z ∷ xs) (w ∷ ys) x y e =
      let first : z ≡ w = cc in
      let rest : xs ++ x ∷ [] ≡ ys ++ y ∷ [] = cc in
      let both = last_same xs ys x y rest in
      ((λ j. first j ∷ both.0 j), both.1)

  element_same : (e f : Element) → individual_of e ≡ individual_of f → path_of e ≡ path_of f → e ≡ f
  element_same (Named a) (Named b) i p = ap Named i
  element_same (Named a) (Next f s) i p = absurd (none_last (path_of f) s p)
  element_same (Next e r) (Named b) i p = absurd (none_last (path_of e) r (sym p))
  element_same (Next e r) (Next f s) i p =
      let both = last_same (path_of e) (path_of f) r s p in
      let before : e ≡ f = element_same e f i both.0 in
      λ j. Next (before j) (both.1 j)

  place_same : (c d : Place) → Exists o rows c.element → Exists o rows d.element → place_cmp o c d ≡ Equal → c ≡ d
  place_same c d in_c in_d e =
      let name : individual_of c.element ≡ individual_of d.element = name_same _ _ (then_first _ _ e) in
      let behind = then_second (name_cmp (individual_of c.element) (individual_of d.element)) _ e in
      let last = then_second (nat_cmp (length (path_of c.element)) (length (path_of d.element))) _ behind in
      let path : path_of c.element ≡ path_of d.element = paths_same _ _ (path_named c.element in_c) (path_named d.element in_d) (then_first _ _ last) in
      let element : c.element ≡ d.element = element_same c.element d.element name path in
      let number : c.inclusion ≡ d.inclusion = nat_same _ _ (then_second (slice_cmp (role_cmp o) (path_of c.element) (path_of d.element)) _ last) in
      λ j. record { element = element j; inclusion = number j }

  pub first_clash_once : (c d : Option Place) → IsFirstClash o rows c → IsFirstClash o rows d → c ≡ d
  first_clash_once None None a b = refl
  first_clash_once None (Some d) a b = absurd (a d b.0)
  first_clash_once (Some c) None a b = absurd (b c a.0)
  first_clash_once (Some c) (Some d) a b = ap Some (place_same c d a.0.exists b.0.exists (tied (place_cmp o) (place_total o) c d (a.1 d b.0) (b.1 c a.0)))

  pub replies_once : (q : Question) (x y : Replied) → IsReply o rows q x → IsReply o rows q y → x ≡ y
  replies_once q (Answers keys) (Answers others) a b = ap Answers (answers_once o rows q keys others a.1 b.1)
  replies_once q (Answers keys) (Inconsistent d) a b = absurd (a.0 d b.0)
  replies_once q (Inconsistent c) (Answers keys) a b = absurd (b.0 c a.0)
  replies_once q (Inconsistent c) (Inconsistent d) a b = ap Inconsistent (same_Some c d (first_clash_once (Some c) (Some d) a b))
