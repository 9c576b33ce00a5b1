-- Numbers of joined terms.
use Rattle.std.proofs.Common.{◌≡◌, ℕ, zero, suc, ◌<◌, ◌≤◌, ◌==◌, ◌⊎◌, inl, inr, Bool, true, false, List, [], ◌∷◌, length, Option, Some, None, get_or, slice_index, slice_index_or, refl, sym, ◌∙◌, subst, arith, if◌then◌else◌}
use Rattle.std.proofs.lemmas.Bool.Decides.{nat_tests}
use Rattle.match_filter.specs.Links.{Linked, AreBelow, IsLinkBelow}
use Rattle.match_filter.specs.Joining.{Joined, itself, turned, through, parents, AreClasses, NoneIsLess, IsClosed, AreUnlike}
use Rattle.match_filter.specs.declared.link.Link.{Link}
use Rattle.match_filter.proofs.Totals.{total, total_falls}

-- where it is a link to a child of the same number, its parent has no lesser one
abbrev pub IsNotLess : List ℕ → ℕ → ℕ → Option Link → Type 0
IsNotLess classes parent child None = Unit {0}
IsNotLess classes parent child (Some m) = slice_index classes child ≡ slice_index classes m.child → slice_index classes parent ≤ slice_index classes m.parent

-- where it is a link, no parent of a term of its child's number has a lesser number
abbrev pub HasNoneLess : List (Option Link) → List ℕ → Option Link → Type 0
HasNoneLess links classes None = Unit {0}
HasNoneLess links classes (Some l) = NoneIsLess (Linked links) classes l.parent l.child

-- terms of one number are joined
abbrev pub AreSound : (ℕ → ℕ → Type 0) → List ℕ → Type 0
AreSound Link classes = (j k : ℕ) → j < 24 → k < 24 → slice_index classes j ≡ slice_index classes k → Joined Link j k

-- at first each term has its own
pub own_sound : (Link : ℕ → ℕ → Type 0) (classes : List ℕ) → ((k : ℕ) → k < 24 → slice_index classes k ≡ k) → AreSound Link classes
own_sound Link classes own j k at_j at_k same = subst (Joined Link j) (sym (own j at_j) ∙ (same ∙ own k at_k)) itself

-- what holds at each place holds of each link
pub at_link : (P : Option Link → Type 0) (links : List (Option Link)) → ((j : ℕ) → j < length links → P (slice_index_or links j None)) → (p c : ℕ) → Linked links p c
    → P (Some (record { parent = p; child = c }))
at_link P links each p c (j, below, at) = subst P (same links j below (Some (record { parent = p; child = c })) at) (each j below)
  where
    same : (xs : List (Option Link)) (j : ℕ) → j < length xs → (x : Option Link) → get_or xs j x ≡ x → get_or xs j None ≡ x
    same [] j lt x e = absurd (omega arith)
    same (y ∷ ys) zero lt x e = e
    same (y ∷ ys) (suc j) lt x e = same ys j (omega arith) x e

pub link_below : (count : ℕ) (links : List (Option Link)) → AreBelow count links → (p c : ℕ) → Linked links p c → (p < count) × (c < count)
link_below count links below p c l = at_link (IsLinkBelow count) links (λ j lt. below j None lt) p c l

-- closed numbers are equal for joined terms
pub closed_joined : (Link : ℕ → ℕ → Type 0) (classes : List ℕ) → IsClosed Link classes → {j k : ℕ} → Joined Link j k → slice_index classes j ≡ slice_index classes k
closed_joined Link classes closed itself = refl
closed_joined Link classes closed (turned x) = sym (closed_joined Link classes closed x)
closed_joined Link classes closed (through x y) = closed_joined Link classes closed x ∙ closed_joined Link classes closed y
closed_joined Link classes closed (parents {p} {c} {q} {d} l m x) =
    let same : slice_index classes c ≡ slice_index classes d = closed_joined Link classes closed x in
    let most = closed p c l q d m same in
    let least = closed q d m p c l (sym same) in
    omega arith

pub sound_closed : (Link : ℕ → ℕ → Type 0) (classes : List ℕ) → AreSound Link classes → IsClosed Link classes → AreClasses Link classes
sound_closed Link classes sound closed j k at_j at_k = (sound j k at_j at_k, closed_joined Link classes closed)

module _ (Link : ℕ → ℕ → Type 0) (within : (p c : ℕ) → Link p c → (p < 24) × (c < 24)) (old new : List ℕ) (from to : ℕ) (u : AreUnlike Link old from to)
    (renumbered : (k : ℕ) → k < 24 → slice_index new k ≡ (if slice_index old k == from then to else slice_index old k)) where
  at_from : (k : ℕ) → k < 24 → slice_index old k ≡ from → slice_index new k ≡ to
  at_from k lt is = let new_is = renumbered k lt in grind (arith, nat_tests)

  at_other : (k : ℕ) → k < 24 → (slice_index old k ≡ from → ⊥) → slice_index new k ≡ slice_index old k
  at_other k lt other = let new_is = renumbered k lt in grind (arith, nat_tests)

  is_from : (k : ℕ) → (slice_index old k ≡ from) ⊎ (slice_index old k ≡ from → ⊥)
  is_from k = by (slice_index old k == from) refl
    where
      by : (b : Bool) → (slice_index old k == from) ≡ b → (slice_index old k ≡ from) ⊎ (slice_index old k ≡ from → ⊥)
      by true e = inl (grind (arith, nat_tests))
      by false e = inr (λ is. grind (arith, nat_tests))

  pub still_sound : AreSound Link old → AreSound Link new
  still_sound sound j k at_j at_k same = by j k at_j at_k same (is_from j) (is_from k)
    where
      below_parent : u.parent < 24
      below_parent = (within u.parent u.child u.linked).0

      below_other : u.less.other < 24
      below_other = (within u.less.other u.less.below u.less.linked).0

      -- the two parents are joined
      joins : Joined Link u.parent u.less.other
      joins = parents u.linked u.less.linked (sound u.child u.less.below (within u.parent u.child u.linked).1 (within u.less.other u.less.below u.less.linked).1 u.less.same)

      -- a term of the number that goes is joined to one of the number that it gets
      across : (j k : ℕ) → j < 24 → k < 24 → slice_index old j ≡ from → to ≡ slice_index old k → Joined Link j k
      across j k at_j at_k is gets =
          through (sound j u.parent at_j below_parent (is ∙ u.is)) (through joins (sound u.less.other k below_other at_k (sym u.less.is ∙ gets)))

      by : (j k : ℕ) → j < 24 → k < 24 → slice_index new j ≡ slice_index new k → (slice_index old j ≡ from) ⊎ (slice_index old j ≡ from → ⊥) → (slice_index old k ≡ from) ⊎ (slice_index old k ≡ from → ⊥) → Joined Link j k
      by j k at_j at_k same (inl is) (inl also) = sound j k at_j at_k (is ∙ sym also)
      by j k at_j at_k same (inl is) (inr other) = across j k at_j at_k is (sym (at_from j at_j is) ∙ (same ∙ at_other k at_k other))
      by j k at_j at_k same (inr other) (inl is) = turned (across k j at_k at_j is (sym (at_from k at_k is) ∙ (sym same ∙ at_other j at_j other)))
      by j k at_j at_k same (inr other) (inr also) = sound j k at_j at_k (sym (at_other j at_j other) ∙ (same ∙ at_other k at_k also))

  -- and the sum of the numbers falls
  pub renumbered_falls : total 24 new < total 24 old
  renumbered_falls = total_falls 24 old new u.parent (within u.parent u.child u.linked).0 at_most falls
    where
      at_most : (k : ℕ) → k < 24 → slice_index new k ≤ slice_index old k
      at_most k lt = by (is_from k)
        where
          by : (slice_index old k ≡ from) ⊎ (slice_index old k ≡ from → ⊥) → slice_index new k ≤ slice_index old k
          by (inl is) = let gets = at_from k lt is in let less = u.less.less in omega (arith, u.is)
          by (inr other) = let keeps = at_other k lt other in omega arith

      falls : slice_index new u.parent < slice_index old u.parent
      falls = let gets = at_from u.parent (within u.parent u.child u.linked).0 (sym u.is) in let less = u.less.less in omega (arith, u.is)
