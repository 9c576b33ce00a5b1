-- Lists that are made one after another.
use Rattle.std.proofs.Common.{◌≡◌, ℕ, ◌+◌, ◌<◌, ◌⊎◌, ◌↔◌, inl, inr, true, false, List, [], ◌∷◌, ◌++◌, Contains, refl, sym, ◌∙◌, ap, subst, arith}
use Rattle.std.proofs.lemmas.Bool.{cases_eq}
use Rattle.std.proofs.lemmas.List.{get_or_append_left, get_or_push, length_push}
use Rattle.dl_base.specs.Ontology.{Terminology}
use Rattle.dl_base.specs.declared.concept.Basic.TheVariants as basic
use Rattle.dl_base.specs.declared.concept.Role.{Role}
use Rattle.dl_base.specs.declared.element.Elem.{Elem}
use Rattle.dl_base.specs.declared.element.Elem.TheVariants as elem
use Rattle.dl_base.specs.declared.element.Witness.{Witness}
use Rattle.dl_base.proofs.RoleLemmas.{direct_or_inverse}
use Rattle.witness_book.specs.Witnesses.{Witnesses}
use Rattle.completion.specs.Gathered.{AreConceptLists, AreElemsWith, AreListsOfNames, AreRoleLists, IsFoundWith, IsWitnessWith, role_by_place}
use Rattle.completion.specs.Members.{members_of}
use Rattle.completion.specs.TableRows.{lists_at, elements_at, no_lists, one_way}
use Rattle.completion.specs.declared.gather.Property.{Property}
use Rattle.completion.specs.declared.gather.Property.TheVariants.{Derived}
use Rattle.completion.specs.declared.individuals.AtIndividual.{AtIndividual}
use Rattle.completion.specs.declared.rows.BothWays.{BothWays}
use Rattle.completion.proofs.MembersLemmas.{number_in, witness_in}

module _ (o : Terminology) (list : List (ℕ × AtIndividual)) (b : Witnesses) where
  -- the individuals and the witnesses that have the property
  pub elems_with : (p : Property) (numbers : List ℕ) (chosen sorted : List Witness) → ((n : ℕ) → Contains numbers n ↔ IsFoundWith list p n) → ((w : Witness) → Contains chosen w ↔ IsWitnessWith o b p w)
      → ((w : Witness) → Contains sorted w ↔ Contains chosen w) → AreElemsWith o list b p (members_of numbers sorted)
  elems_with p numbers chosen sorted named shared same (elem.Named n) = (λ c. (named n).0 ((number_in numbers sorted n).0 c), λ h. (number_in numbers sorted n).1 ((named n).1 h))
  elems_with p numbers chosen sorted named shared same (elem.Shared w) = (
    λ c. (shared w).0 ((same w).0 ((witness_in numbers sorted w).0 c)),
    λ h. (witness_in numbers sorted w).1 ((same w).1 ((shared w).1 h)),
  )

  pub concepts_none : AreConceptLists o list b 0 []
  concepts_none = record { all = refl; each = λ c below. absurd (omega (arith, below)) }

  pub concepts_more : (n : ℕ) (lists : List (List Elem)) (es : List Elem) → AreElemsWith o list b (Derived (basic.Concept n)) es → AreConceptLists o list b n lists → AreConceptLists o list b (n + 1) (lists ++ es ∷ [])
  concepts_more n lists es are far = record { all = length_push lists es ∙ ap (λ (m : ℕ). m + 1) far.all; each = each }
    where
      each : (c : ℕ) → c < n + 1 → AreElemsWith o list b (Derived (basic.Concept c)) (elements_at (lists ++ es ∷ []) c)
      each c below = elim (cases_eq c n) [
        | inl same ↦
            let at : elements_at (lists ++ es ∷ []) c ≡ es = get_or_push lists es [] c (far.all ∙ sym same) in
            subst (AreElemsWith o list b (Derived (basic.Concept c))) (sym at) (subst (λ (m : ℕ). AreElemsWith o list b (Derived (basic.Concept m)) es) (sym same) are)
        | inr other ↦
            let less : c < n = omega (arith, below, other) in
            let many = far.all in
            let at : elements_at (lists ++ es ∷ []) c ≡ elements_at lists c = get_or_append_left lists (es ∷ []) [] c (omega (arith, less, many)) in
            subst (AreElemsWith o list b (Derived (basic.Concept c))) (sym at) (far.each c less)
      ]

  pub names_none : AreListsOfNames o list b 0 []
  names_none = record { all = refl; each = λ r below. absurd (omega (arith, below)) }

  pub names_more : (n : ℕ) (lists : List BothWays) (x : BothWays) → AreRoleLists o list b (role_by_place n false) x.direct → AreRoleLists o list b (role_by_place n true) x.inverse
      → AreListsOfNames o list b n lists → AreListsOfNames o list b (n + 1) (lists ++ x ∷ [])
  names_more n lists x direct inverse far = record { all = length_push lists x ∙ ap (λ (m : ℕ). m + 1) far.all; each = each }
    where
      last : (r : Role) → r.name ≡ n → lists_at (lists ++ x ∷ []) r ≡ one_way r.inverse x
      last r same = ap (one_way r.inverse) (get_or_push lists x (record { direct = no_lists; inverse = no_lists }) r.name (far.all ∙ sym same))

      here : (r : Role) → (r ≡ role_by_place n false) ⊎ (r ≡ role_by_place n true) → AreRoleLists o list b r (one_way r.inverse x)
      here r (inl is) = subst (λ (s : Role). AreRoleLists o list b s (one_way s.inverse x)) (sym is) direct
      here r (inr is) = subst (λ (s : Role). AreRoleLists o list b s (one_way s.inverse x)) (sym is) inverse

      each : (r : Role) → r.name < n + 1 → AreRoleLists o list b r (lists_at (lists ++ x ∷ []) r)
      each r below = elim (cases_eq r.name n) [
        | inl same ↦ subst (AreRoleLists o list b r) (sym (last r same)) (here r (direct_or_inverse r n same))
        | inr other ↦
            let less : r.name < n = omega (arith, below, other) in
            let many = far.all in
            let at : lists_at (lists ++ x ∷ []) r ≡ lists_at lists r = ap (one_way r.inverse) (get_or_append_left lists (x ∷ []) (record { direct = no_lists; inverse = no_lists }) r.name (omega (arith, less, many))) in
            subst (AreRoleLists o list b r) (sym at) (far.each r less)
      ]
