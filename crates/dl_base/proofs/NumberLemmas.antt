-- The number of a name in a list of names.
use Rattle.std.proofs.Common.{◌≡◌, ℕ, suc, ◌⊎◌, inl, inr, List, [], ◌∷◌, Contains, slice_get, Some, refl, sym, ap, subst, arith}
use Rattle.std.specs.declared.cmp.Ordering.{Ordering}
use Rattle.std.specs.declared.cmp.Ordering.TheVariants.{Less, Equal, Greater}
use Rattle.std.specs.Ordering.{match_ordering}
use Rattle.std.proofs.lemmas.Cmp.{tied_itself}
use Rattle.dl_base.specs.Rows.{name_cmp}
use Rattle.dl_base.proofs.RisingLemmas.{contains_cases}
use Rattle.dl_base.proofs.RowLemmas.{name_total, name_same}

-- the place of a name in a list of names
abbrev pub place_in : List (List ℕ) → List ℕ → ℕ
place_in [] a = 0
place_in (n ∷ ns) a = match_ordering (name_cmp n a) (suc (place_in ns a)) 0 (suc (place_in ns a))

pub at_its_place : (names : List (List ℕ)) (a : List ℕ) → Contains names a → slice_get names (place_in names a) ≡ Some a
at_its_place [] a c = absurd (omega arith)
at_its_place (n ∷ ns) a c = by (name_cmp n a) refl (at_its_place ns a) (contains_cases n ns a c)
  where
    by : (d : Ordering) → name_cmp n a ≡ d → (Contains ns a → slice_get ns (place_in ns a) ≡ Some a) → (a ≡ n) ⊎ Contains ns a
        → slice_get (n ∷ ns) (match_ordering d (suc (place_in ns a)) 0 (suc (place_in ns a))) ≡ Some a
    by Equal e rest there = ap Some (name_same n a e)
    by Less e rest (inl is) = absurd (let f : name_cmp n a ≡ Equal = subst (λ (x : List ℕ). name_cmp n x ≡ Equal) (sym is) (tied_itself name_total n) in cc)
    by Less e rest (inr d) = rest d
    by Greater e rest (inl is) = absurd (let f : name_cmp n a ≡ Equal = subst (λ (x : List ℕ). name_cmp n x ≡ Equal) (sym is) (tied_itself name_total n) in cc)
    by Greater e rest (inr d) = rest d
