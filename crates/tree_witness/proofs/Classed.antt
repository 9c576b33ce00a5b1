-- Whether terms are joined can be decided.
use Rattle.std.proofs.Common.{◌≡◌, ℕ, zero, suc, ◌<◌, ◌≤◌, ◌==◌, inl, inr, List, [], ◌∷◌, get_or, slice_index, Contains, refl, sym, ◌∙◌, ap, subst, arith, if◌then◌else◌}
use Rattle.dl_base.specs.Derivation.{inverse}
use Rattle.dl_base.specs.declared.element.Elem.{Elem}
use Rattle.query_shape.specs.declared.layout.ShapeAtom.{ShapeAtom}
use Rattle.query_shape.specs.declared.layout.ShapeAtom.TheVariants as shape
use Rattle.query_shape.proofs.MatchList.{Decided, decide_as, decide_both, decide_nat}
use Rattle.match_filter.specs.Links.{IsLinkOf, IsLink}
use Rattle.query_shape.specs.TreeWitness.{IsOn}
use Rattle.match_filter.specs.Joining.{Joined, AreClasses, IsClosed, AreUnlike}
use Rattle.match_filter.proofs.LinkLemmas.{one_link}
use Rattle.match_filter.proofs.Choices.{decide_below, decide_on, decide_some}
use Rattle.match_filter.proofs.ClassLemmas.{AreSound, own_sound, still_sound, renumbered_falls, sound_closed}
use Rattle.match_filter.proofs.Totals.{total}

-- the first values of a function
listed : (ℕ → ℕ) → ℕ → List ℕ
listed f zero = []
listed f (suc n) = f 0 ∷ listed (λ k. f (suc k)) n

listed_at : (f : ℕ → ℕ) (n k : ℕ) → k < n → get_or (listed f n) k 0 ≡ f k
unfolding listed
listed_at f zero k lt = absurd (omega arith)
listed_at f (suc n) zero lt = refl
listed_at f (suc n) (suc k) lt = listed_at (λ j. f (suc j)) n k (omega arith)

-- the terms of one number get another
renumbered : List ℕ → ℕ → ℕ → List ℕ
renumbered classes from to = listed (λ k. if slice_index classes k == from then to else slice_index classes k) 24

renumbered_at : (classes : List ℕ) (from to k : ℕ) → k < 24 → slice_index (renumbered classes from to) k ≡ (if slice_index classes k == from then to else slice_index classes k)
unfolding renumbered
renumbered_at classes from to k lt = listed_at (λ k. if slice_index classes k == from then to else slice_index classes k) 24 k lt

module _ (images : List Elem) where
  -- the parent and child of an atom, or that it has none
  decide_link : (a : ShapeAtom) → Decided ((p : ℕ) × (c : ℕ) × IsLinkOf images a p c)
  decide_link (shape.Concept d n) = inr (λ l. l.2)
  decide_link (shape.Role r n m) = by (decide_on images r m) (decide_on images (inverse r) n)
    where
      neither : (IsOn images r m → ⊥) → (IsOn images (inverse r) n → ⊥) → (p : ℕ) × (c : ℕ) × IsLinkOf images (shape.Role r n m) p c → ⊥
      neither off up (p, c, inl (p_is, c_is, on)) = off on
      neither off up (p, c, inr (p_is, c_is, same, on)) = up on

      by : Decided (IsOn images r m) → Decided (IsOn images (inverse r) n) → Decided ((p : ℕ) × (c : ℕ) × IsLinkOf images (shape.Role r n m) p c)
      by (inl on) up = inl (n, m, inl (refl, refl, on))
      by (inr off) (inl on) = inl (m, n, inr (refl, refl, off, on))
      by (inr off) (inr up) = inr (neither off up)

  -- the parents of these atoms' children of one number have other numbers, the greater one first
  record AreUnlikeBy (classes : List ℕ) (a b : ShapeAtom) : Type 0 where
    parent : ℕ
    child : ℕ
    other : ℕ
    below : ℕ
    first : IsLinkOf images a parent child
    second : IsLinkOf images b other below
    same : slice_index classes child ≡ slice_index classes below
    less : slice_index classes other < slice_index classes parent

  decide_unlike : (classes : List ℕ) (a b : ShapeAtom) → Decided (AreUnlikeBy classes a b)
  decide_unlike classes a b = by (decide_link a) (decide_link b)
    where
      moved : (p c q d : ℕ) → IsLinkOf images a p c → IsLinkOf images b q d → AreUnlikeBy classes a b → (slice_index classes c ≡ slice_index classes d) × (slice_index classes q < slice_index classes p)
      moved p c q d l m u =
          let one = one_link images a p c u.parent u.child l u.first in
          let two = one_link images b q d u.other u.below m u.second in (
            ap (slice_index classes) one.1 ∙ (u.same ∙ ap (slice_index classes) (sym two.1)),
            subst (λ (k : ℕ). slice_index classes q < slice_index classes k) (sym one.0) (subst (λ (k : ℕ). slice_index classes k < slice_index classes u.parent) (sym two.0) u.less),
          )

      by : Decided ((p : ℕ) × (c : ℕ) × IsLinkOf images a p c) → Decided ((q : ℕ) × (d : ℕ) × IsLinkOf images b q d) → Decided (AreUnlikeBy classes a b)
      by (inl (p, c, l)) (inl (q, d, m)) =
          decide_as (λ both. record { parent = p; child = c; other = q; below = d; first = l; second = m; same = both.0; less = both.1 }) (moved p c q d l m)
          (decide_both (decide_nat (slice_index classes c) (slice_index classes d)) (decide_below (slice_index classes q) (slice_index classes p)))
      by (inl l) (inr none) = inr (λ u. none (u.other, u.below, u.second))
      by (inr none) second = inr (λ u. none (u.parent, u.child, u.first))

  module _ (atoms : List ShapeAtom) (within : (p c : ℕ) → IsLink images atoms p c → (p < 24) × (c < 24)) where
    -- two atoms with unlike parents
    abbrev HasUnlike : List ℕ → Type 0
    HasUnlike classes = (a : ShapeAtom) × Contains atoms a × ((b : ShapeAtom) × Contains atoms b × AreUnlikeBy classes a b)

    decide_has : (classes : List ℕ) → Decided (HasUnlike classes)
    decide_has classes = decide_some (λ a. (b : ShapeAtom) × Contains atoms b × AreUnlikeBy classes a b) atoms (λ a there. decide_some (AreUnlikeBy classes a) atoms (λ b where_b. decide_unlike classes a b))

    unlike : (classes : List ℕ) → (u : HasUnlike classes) → AreUnlike (IsLink images atoms) classes (slice_index classes u.2.2.parent) (slice_index classes u.2.2.other)
    unlike classes (a, there, (b, there_b, u)) = record {
      parent = u.parent;
      child = u.child;
      linked = (a, there, u.first);
      is = refl;
      less = record { other = u.other; below = u.below; linked = (b, there_b, u.second); same = u.same; is = refl; less = u.less };
    }

    closed : (classes : List ℕ) → (HasUnlike classes → ⊥) → IsClosed (IsLink images atoms) classes
    closed classes none p c (a, there, l) q d (b, there_b, m) same = by (decide_below (slice_index classes q) (slice_index classes p))
      where
        by : Decided (slice_index classes q < slice_index classes p) → slice_index classes p ≤ slice_index classes q
        by (inl less) = absurd (none (a, there, (b, there_b, record { parent = p; child = c; other = q; below = d; first = l; second = m; same = same; less = less })))
        by (inr most) = grind arith

    classes_from : (n : ℕ) (classes : List ℕ) → total 24 classes < n → AreSound (IsLink images atoms) classes → (found : List ℕ) × AreClasses (IsLink images atoms) found
    classes_from zero classes less sound = absurd (omega arith)
    classes_from (suc n) classes less sound = by (decide_has classes) (λ new. classes_from n new)
      where
        by : Decided (HasUnlike classes) → ((new : List ℕ) → total 24 new < n → AreSound (IsLink images atoms) new → (found : List ℕ) × AreClasses (IsLink images atoms) found)
            → (found : List ℕ) × AreClasses (IsLink images atoms) found
        by (inl u) rec =
            let from : ℕ = slice_index classes u.2.2.parent in
            let to : ℕ = slice_index classes u.2.2.other in
            let falls : total 24 (renumbered classes from to) < total 24 classes = renumbered_falls (IsLink images atoms) within classes (renumbered classes from to) from to (unlike classes u) (renumbered_at classes from to) in
            rec (renumbered classes from to) (omega arith) (still_sound (IsLink images atoms) within classes (renumbered classes from to) from to (unlike classes u) (renumbered_at classes from to) sound)
        by (inr none) rec = (classes, sound_closed (IsLink images atoms) classes sound (closed classes none))

    -- the terms have numbers that are the same exactly where they are joined
    some_classes : (found : List ℕ) × AreClasses (IsLink images atoms) found
    some_classes = let own : List ℕ = listed (λ k. k) 24 in classes_from (suc (total 24 own)) own (omega arith) (own_sound (IsLink images atoms) own (λ k lt. listed_at (λ k. k) 24 k lt))

    pub decide_joined : (j k : ℕ) → j < 24 → k < 24 → Decided (Joined (IsLink images atoms) j k)
    decide_joined j k at_j at_k = decide_as (some_classes.1 j k at_j at_k).0 (some_classes.1 j k at_j at_k).1 (decide_nat (slice_index some_classes.0 j) (slice_index some_classes.0 k))
