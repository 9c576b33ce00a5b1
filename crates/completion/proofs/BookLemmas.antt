-- The book after the live roles were set.
use Rattle.std.proofs.Common.{◌≡◌, ℕ, ◌+◌, ◌⊎◌, ◌↔◌, inl, inr, List, length, sym, ◌∙◌, subst, arith}
use Rattle.completion.specs.Completed.{IsBookOf, IsFirstBook}
use Rattle.completion.specs.Numbered.{IsLiveRole, IsPointedTo}
use Rattle.dl_base.specs.Ontology.{Terminology}
use Rattle.dl_base.specs.Sets.{HasRole}
use Rattle.dl_base.specs.declared.concept.Role.{Role}
use Rattle.dl_base.specs.declared.row.Row.{Row}
use Rattle.role_graph.specs.Reached.{IsReached, first, next}
use Rattle.witness_book.specs.Rising.{BecomesLive}
use Rattle.witness_book.specs.Witnesses.{IsUnused, SetsLive, Witnesses, generation_of}

-- what is reached from fewer is reached from more
reached_more : (o : Terminology) (few many : Role → Type 0) → ((r : Role) → few r → many r) → {r : Role} → IsReached o few r → IsReached o many r
reached_more o few many more {r} (first has) = first (more r has)
reached_more o few many more {r} (next before points) = next (reached_more o few many more before) points

module _ (o : Terminology) (rows : List Row) (empty pointed live : List ℕ) (none : (r : Role) → HasRole empty r → ⊥)
    (are : (r : Role) → HasRole pointed r ↔ (IsPointedTo o rows r ⊎ HasRole empty r)) (reached : (r : Role) → HasRole live r ↔ IsReached o (HasRole pointed) r) where
  pub pointed_is : (r : Role) → HasRole pointed r → IsPointedTo o rows r
  pointed_is r has = elim ((are r).0 has) [ inl p ↦ p | inr before ↦ absurd (none r before) ]

  is_pointed : (r : Role) → IsPointedTo o rows r → HasRole pointed r
  is_pointed r p = (are r).1 (inl p)

  live_is : (r : Role) → HasRole live r ↔ IsLiveRole o rows r
  live_is r = (
    λ has. reached_more o (HasRole pointed) (IsPointedTo o rows) pointed_is ((reached r).0 has),
    λ is. (reached r).1 (reached_more o (IsPointedTo o rows) (HasRole pointed) is_pointed is),
  )

  pub live_after : (old new : Witnesses) → SetsLive old live new → (r : Role) → HasRole new.live r ↔ IsLiveRole o rows r
  live_after old new sets r = subst (λ (words : List ℕ). HasRole words r ↔ IsLiveRole o rows r) (sym sets.live) (live_is r)

-- what was set is what is live now
pub set_again : (old : Witnesses) (these : List ℕ) (new : Witnesses) → SetsLive old these new → SetsLive old new.live new
set_again old these new sets = subst (λ (words : List ℕ). SetsLive old words new) (sym sets.live) sets

module _ (o : Terminology) (rows : List Row) (old new : Witnesses) (live : (r : Role) → HasRole new.live r ↔ IsLiveRole o rows r) (sets : SetsLive old new.live new) where
  pub book_of : old.roles ≡ length o.roles → IsBookOf o rows new
  book_of all = record { roles = sets.roles ∙ all; live = live }

  pub first_book : (roles : ℕ) → IsUnused roles old → IsFirstBook o rows new
  first_book roles unused = record {
    calls = (let before = unused.calls in let after = sets.calls in omega arith);
    first = λ r is.
        let becomes : BecomesLive old.live new.live r = record { now = (live r).1 is; not_before = unused.none_live r } in
        let raised : generation_of new r ≡ generation_of old r + 1 = (sets.generations r).raised becomes in
        let never : generation_of old r ≡ 0 = unused.never_live r in
        omega (arith, raised, never);
    others = λ r not.
        let kept : generation_of new r ≡ generation_of old r = (sets.generations r).kept (λ becomes. not ((live r).0 becomes.now)) in
        kept ∙ unused.never_live r;
  }
