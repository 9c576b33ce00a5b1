-- What lists of entries gain.
use Rattle.std.proofs.Common.{◌≡◌, ◌≢◌, ◌↔◌, ◌⊎◌, ℕ, ◌+◌, ◌<◌, inl, inr, List, [], ◌∷◌, ◌++◌, map, Contains, Option, Some, None, option_map, refl, sym, ◌∙◌, ap, subst, arith}
use Rattle.std.specs.declared.cmp.Ordering.{Ordering}
use Rattle.std.specs.declared.cmp.Ordering.TheVariants.{Less, Equal, Greater}
use Rattle.std.specs.Ordering.{ordering_reverse}
use Rattle.std.proofs.lemmas.Bool.{cases_eq}
use Rattle.std.proofs.lemmas.Cmp.{tied_itself}
use Rattle.std.proofs.lemmas.List.{map-append}
use Rattle.std.proofs.lemmas.List.Elements.{Contains-push, Contains-push_cases, Contains-append_left}
use Rattle.std.proofs.lemmas.Option.{same_Some}
use Rattle.dl_base.specs.Tables.{elem_cmp, IsAbove, IsLeastAbove}
use Rattle.dl_base.specs.declared.element.Elem.{Elem}
use Rattle.dl_base.proofs.ElemLemmas.{elem_total, elem_same, upto_trans}
use Rattle.dl_base.proofs.ClashLemmas.{tied}
use Rattle.table_report.specs.TableLines.{Entry}
use Rattle.table_report.specs.Gathered.{AddsAll, IsOfGoneOver, IsGoneOver, entry_of}
use Rattle.table_report.specs.declared.entry.EntryRef.{EntryRef}

pub adds_none : (P : Entry → Type 0) (xs : List EntryRef) → ((x : Entry) → P x → ⊥) → AddsAll P xs xs
adds_none P xs none = record { each = λ x. (λ there. inr there, λ either. elim either [ inl p ↦ absurd (none x p) | inr there ↦ there ]) }

-- the same by other words
pub adds_as : (P Q : Entry → Type 0) (xs ys : List EntryRef) → ((x : Entry) → P x ↔ Q x) → AddsAll P xs ys → AddsAll Q xs ys
adds_as P Q xs ys same adds = record {
  each = λ x. (
    λ there. elim ((adds.each x).0 there) [ inl p ↦ inl ((same x).0 p) | inr before ↦ inr before ],
    λ either. (adds.each x).1 (elim either [ inl q ↦ inl ((same x).1 q) | inr before ↦ inr before ]),
  );
}

-- one after the other
pub adds_then : (P Q : Entry → Type 0) (xs ys zs : List EntryRef) → AddsAll P xs ys → AddsAll Q ys zs → AddsAll (λ x. P x ⊎ Q x) xs zs
adds_then P Q xs ys zs first second = record {
  each = λ x. (
    λ there. elim ((second.each x).0 there) [
      | inl q ↦ inl (inr q)
      | inr before ↦ elim ((first.each x).0 before) [ inl p ↦ inl (inl p) | inr b ↦ inr b ]
    ],
    λ either. (second.each x).1 (elim either [
      | inl new ↦ elim new [ inl p ↦ inr ((first.each x).1 (inl p)) | inr q ↦ inl q ]
      | inr before ↦ inr ((first.each x).1 (inr before))
    ]),
  );
}

-- what was found goes to the end
adds_last : (xs : List EntryRef) (y : EntryRef) → AddsAll (λ x. Some (entry_of y) ≡ Some x) xs (xs ++ y ∷ [])
adds_last xs y =
    let is : map entry_of (xs ++ y ∷ []) ≡ map entry_of xs ++ entry_of y ∷ [] = map-append entry_of xs (y ∷ []) in
    record {
      each = λ x. (
        λ there. elim (Contains-push_cases (map entry_of xs) (entry_of y) x (subst (λ (zs : List Entry). Contains zs x) is there)) [ inl before ↦ inr before | inr e ↦ inl (ap Some e) ],
        λ either. subst (λ (zs : List Entry). Contains zs x) (sym is) (elim either [
          | inl e ↦ subst (Contains (map entry_of xs ++ entry_of y ∷ [])) (same_Some (entry_of y) x e) (Contains-push (map entry_of xs) (entry_of y))
          | inr before ↦ Contains-append_left (map entry_of xs) (entry_of y ∷ []) x before
        ]),
      );
    }

pub adds_found : (xs ys : List EntryRef) (found : Option EntryRef) (y : EntryRef) → found ≡ Some y → ys ≡ xs ++ y ∷ [] → AddsAll (λ x. option_map entry_of found ≡ Some x) xs ys
adds_found xs ys found y is list = subst (λ (z : Option EntryRef × List EntryRef). AddsAll (λ x. option_map entry_of z.0 ≡ Some x) xs z.1) (λ j. (sym is j, sym list j)) (adds_last xs y)

-- ---- going through elements in their order

upto_or_above : (last : Option Elem) (e : Elem) → IsGoneOver last e ⊎ IsAbove last e
upto_or_above None e = inr tt
upto_or_above (Some l) e = by (elem_cmp l e) refl
  where
    by : (r : Ordering) → elem_cmp l e ≡ r → (elem_cmp e l ≢ Greater) ⊎ (elem_cmp l e ≡ Less)
    by Less is = inr is
    by Equal is = inl (λ greater. let back : elem_cmp e l ≡ ordering_reverse Equal = elem_total.antisymm e l ∙ ap ordering_reverse is in cc)
    by Greater is = inl (λ greater. let back : elem_cmp e l ≡ ordering_reverse Greater = elem_total.antisymm e l ∙ ap ordering_reverse is in cc)

upto_more : (last : Option Elem) (m e : Elem) → IsGoneOver last m → IsAbove last e → elem_cmp m e ≢ Greater
upto_more None m e upto above = absurd upto
upto_more (Some l) m e upto above = upto_trans m l e upto (λ greater. cc)

module _ (P : Elem → Type 0) (F : Elem → Entry → Type 0) where
  pub reached_none : (xs : List EntryRef) → AddsAll (IsOfGoneOver P F None) xs xs
  reached_none xs = adds_none (IsOfGoneOver P F None) xs (λ x r. r.upto)

  module _ (last : Option Elem) (e : Elem) (least : IsLeastAbove P last (Some e)) where
    into_more : (x : Entry) → IsOfGoneOver P F last x ⊎ F e x → IsOfGoneOver P F (Some e) x
    into_more x (inl r) = record { element = r.element; one = r.one; upto = upto_more last r.element e r.upto least.1; given = r.given }
    into_more x (inr given) = record { element = e; one = least.0; upto = λ greater. let self : elem_cmp e e ≡ Equal = tied_itself elem_total e in cc; given = given }

    from_more : (x : Entry) → IsOfGoneOver P F (Some e) x → IsOfGoneOver P F last x ⊎ F e x
    from_more x r = elim (upto_or_above last r.element) [
      | inl upto ↦ inl (record { element = r.element; one = r.one; upto = upto; given = r.given })
      | inr above ↦ inr (subst (λ (m : Elem). F m x) (elem_same r.element e (tied elem_cmp elem_total r.element e r.upto (least.2 r.element r.one above))) r.given)
    ]

    -- one more element
    pub reached_more : (xs ys zs : List EntryRef) → AddsAll (IsOfGoneOver P F last) xs ys → AddsAll (F e) ys zs → AddsAll (IsOfGoneOver P F (Some e)) xs zs
    reached_more xs ys zs first second = adds_as (λ x. IsOfGoneOver P F last x ⊎ F e x) (IsOfGoneOver P F (Some e)) xs zs (λ x. (into_more x, from_more x)) (adds_then (IsOfGoneOver P F last) (F e) xs ys zs first second)

  -- where none is left, all were gone through
  pub reached_all : (last : Option Elem) (xs ys : List EntryRef) → IsLeastAbove P last None → AddsAll (IsOfGoneOver P F last) xs ys → AddsAll (λ x. (e : Elem) × P e × F e x) xs ys
  reached_all last xs ys none adds = adds_as (IsOfGoneOver P F last) (λ x. (e : Elem) × P e × F e x) xs ys (λ x. (
    λ r. (r.element, r.one, r.given),
    λ found. record {
      element = found.0;
      one = found.1;
      upto = elim (upto_or_above last found.0) [ inl upto ↦ upto | inr above ↦ absurd (none found.0 found.1 above) ];
      given = found.2;
    },
  )) adds

-- ---- going through numbers in their order

-- the entry is of a number below that one
abbrev pub IsBelow : (ℕ → Entry → Type 0) → ℕ → Entry → Type 0
IsBelow F count x = (k : ℕ) × (k < count) × F k x

module _ (F : ℕ → Entry → Type 0) where
  pub below_none : (xs : List EntryRef) → AddsAll (IsBelow F 0) xs xs
  below_none xs = adds_none (IsBelow F 0) xs (λ x b. let no = b.1 in omega arith)

  -- one more number
  pub below_more : (count : ℕ) (xs ys zs : List EntryRef) → AddsAll (IsBelow F count) xs ys → AddsAll (F count) ys zs → AddsAll (IsBelow F (count + 1)) xs zs
  below_more count xs ys zs first second = adds_as (λ x. IsBelow F count x ⊎ F count x) (IsBelow F (count + 1)) xs zs (λ x. (
    λ either. elim either [
      | inl b ↦ (b.0, (let less = b.1 in omega arith), b.2)
      | inr f ↦ (count, omega arith, f)
    ],
    λ b. elim (cases_eq b.0 count) [
      | inl is ↦ inr (subst (λ (k : ℕ). F k x) is b.2)
      | inr other ↦ inl (b.0, (let less = b.1 in omega arith), b.2)
    ],
  )) (adds_then (IsBelow F count) (F count) xs ys zs first second)

  -- where no number from there on has an entry, all were gone through
  pub below_all : (count : ℕ) (xs ys : List EntryRef) → ((k : ℕ) (x : Entry) → F k x → k < count) → AddsAll (IsBelow F count) xs ys → AddsAll (λ x. (k : ℕ) × F k x) xs ys
  below_all count xs ys within adds = adds_as (IsBelow F count) (λ x. (k : ℕ) × F k x) xs ys (λ x. (λ b. (b.0, b.2), λ f. (f.0, within f.0 x f.1, f.1))) adds

-- three after one another, from nothing
pub gathers : (P Q R : Entry → Type 0) (none first second all : List EntryRef) → none ≡ [] → AddsAll P none first → AddsAll Q first second → AddsAll R second all
    → (x : Entry) → Contains (map entry_of all) x ↔ (P x ⊎ Q x ⊎ R x)
gathers P Q R none first second all empty p q r x = (
  λ there. elim ((r.each x).0 there) [
    | inl here ↦ inr (inr here)
    | inr before ↦ elim ((q.each x).0 before) [
      | inl here ↦ inr (inl here)
      | inr earlier ↦ elim ((p.each x).0 earlier) [ inl here ↦ inl here | inr none_there ↦ absurd (let in_empty : Contains (map entry_of []) x = subst (λ (xs : List EntryRef). Contains (map entry_of xs) x) empty none_there in let below = in_empty.1 in omega arith) ]
    ]
  ],
  λ either. (r.each x).1 (elim either [
    | inl here ↦ inr ((q.each x).1 (inr ((p.each x).1 (inl here))))
    | inr later ↦ elim later [ inl here ↦ inr ((q.each x).1 (inl here)) | inr here ↦ inl here ]
  ]),
)
