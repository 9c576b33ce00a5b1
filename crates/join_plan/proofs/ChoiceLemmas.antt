-- Laws of costs, of the cheapest candidate, and of the lists that a planner begins with.
use Rattle.std.proofs.Common.{◌≡◌, ◌↔◌, ℕ, zero, suc, ◌+◌, ◌<◌, ◌≤◌, ◌⊎◌, inl, inr, Bool, true, false, IsTrue, List, [], ◌∷◌, ◌++◌, length, map, Some, slice_get, All, refl, sym, ◌∙◌, ap, subst, arith}
use Rattle.std.specs.List.{range_with_len}
use Rattle.std.proofs.lemmas.List.{map-append}
use Rattle.std.proofs.lemmas.List.Elements.{All-push}
use Rattle.std.proofs.lemmas.Option.{slice_get_within}
use Rattle.dl_base.specs.Tables.{TableRow}
use Rattle.dl_base.specs.declared.query.Term.{Term}
use Rattle.dl_base.specs.declared.query.Term.TheVariants as term
use Rattle.dl_base.proofs.PlaceLemmas.{last_place, place_stays, some_same, something_at}
use Rattle.query_shape.specs.Shape.{Layout}
use Rattle.query_shape.specs.declared.layout.ShapeAtom.{ShapeAtom}
use Rattle.join_plan.specs.Plans.{IsNameTerm}
use Rattle.join_plan.specs.Choice.{HasDearer, IsCheapest, IsMarked, IsNoDearer, IsOfferFor, IsSized}
use Rattle.join_plan.specs.declared.candidates.Candidate.{Candidate}
use Rattle.join_plan.specs.declared.offers.Choice.{Choice}
use Rattle.join_plan.specs.declared.offers.Cost.{Cost}
use Rattle.join_plan.specs.declared.offers.Cost.TheVariants as cost
use Rattle.join_plan.specs.declared.offers.Offer.{Offer}

-- ---- costs

pub no_dearer_itself : (a : Cost) → IsNoDearer a a
no_dearer_itself cost.Check = tt
no_dearer_itself cost.Probe = tt
no_dearer_itself (cost.Walk n) = omega arith
no_dearer_itself (cost.Scan n) = omega arith

pub no_dearer_trans : (a b c : Cost) → IsNoDearer a b → IsNoDearer b c → IsNoDearer a c
no_dearer_trans cost.Check b c h i = tt
no_dearer_trans cost.Probe cost.Check c h i = absurd h
no_dearer_trans cost.Probe cost.Probe c h i = i
no_dearer_trans cost.Probe (cost.Walk n) cost.Check h i = absurd i
no_dearer_trans cost.Probe (cost.Walk n) cost.Probe h i = absurd i
no_dearer_trans cost.Probe (cost.Walk n) (cost.Walk m) h i = tt
no_dearer_trans cost.Probe (cost.Walk n) (cost.Scan m) h i = tt
no_dearer_trans cost.Probe (cost.Scan n) cost.Check h i = absurd i
no_dearer_trans cost.Probe (cost.Scan n) cost.Probe h i = absurd i
no_dearer_trans cost.Probe (cost.Scan n) (cost.Walk m) h i = absurd i
no_dearer_trans cost.Probe (cost.Scan n) (cost.Scan m) h i = tt
no_dearer_trans (cost.Walk k) cost.Check c h i = absurd h
no_dearer_trans (cost.Walk k) cost.Probe c h i = absurd h
no_dearer_trans (cost.Walk k) (cost.Walk n) cost.Check h i = absurd i
no_dearer_trans (cost.Walk k) (cost.Walk n) cost.Probe h i = absurd i
no_dearer_trans (cost.Walk k) (cost.Walk n) (cost.Walk m) h i = omega arith
no_dearer_trans (cost.Walk k) (cost.Walk n) (cost.Scan m) h i = tt
no_dearer_trans (cost.Walk k) (cost.Scan n) cost.Check h i = absurd i
no_dearer_trans (cost.Walk k) (cost.Scan n) cost.Probe h i = absurd i
no_dearer_trans (cost.Walk k) (cost.Scan n) (cost.Walk m) h i = absurd i
no_dearer_trans (cost.Walk k) (cost.Scan n) (cost.Scan m) h i = tt
no_dearer_trans (cost.Scan k) cost.Check c h i = absurd h
no_dearer_trans (cost.Scan k) cost.Probe c h i = absurd h
no_dearer_trans (cost.Scan k) (cost.Walk n) c h i = absurd h
no_dearer_trans (cost.Scan k) (cost.Scan n) cost.Check h i = absurd i
no_dearer_trans (cost.Scan k) (cost.Scan n) cost.Probe h i = absurd i
no_dearer_trans (cost.Scan k) (cost.Scan n) (cost.Walk m) h i = absurd i
no_dearer_trans (cost.Scan k) (cost.Scan n) (cost.Scan m) h i = omega arith

-- ---- the cheapest of the first candidates

module _ (left : List Candidate) (known : List Bool) (i : ℕ) (c : Candidate) (o : Offer) (at : slice_get left i ≡ Some c) (is : IsOfferFor known c o) where
  one_more : (k : Cost) → ((j : ℕ) (d : Candidate) → j < i → slice_get left j ≡ Some d → HasDearer known k d) → IsNoDearer k o.cost
      → (j : ℕ) (d : Candidate) → j < i + 1 → slice_get left j ≡ Some d → HasDearer known k d
  one_more k before dear j d below there = by (split j)
    where
      split : (j' : ℕ) → (j' < i) ⊎ (i ≤ j')
      split j' = grind arith

      by : (j < i) ⊎ (i ≤ j) → HasDearer known k d
      by (inl earlier) = before j d earlier there
      by (inr late) =
          let here : j ≡ i = omega arith in
          let same : d ≡ c = some_same (sym (rw here at there) ∙ at) in
          rw same (record { offer = o; is = is; dear = dear })

  pub cheapest_stays : (b : Choice) → IsCheapest left i known b → IsNoDearer b.offer.cost o.cost → IsCheapest left (i + 1) known b
  cheapest_stays b h dear = record { candidate = h.candidate; there = h.there; is = h.is; least = one_more b.offer.cost h.least dear }

  weaker : (k l : Cost) (d : Candidate) → IsNoDearer k l → HasDearer known l d → HasDearer known k d
  weaker k l d less h = record { offer = h.offer; is = h.is; dear = no_dearer_trans k l h.offer.cost less h.dear }

  pub cheapest_new : (b : Choice) → IsCheapest left i known b → IsNoDearer o.cost b.offer.cost → IsCheapest left (i + 1) known (record { index = i; offer = o })
  cheapest_new b h less = record {
    candidate = c;
    there = at;
    is = is;
    least = one_more o.cost (λ j d below there. weaker o.cost b.offer.cost d less (h.least j d below there)) (no_dearer_itself o.cost);
  }

-- ---- candidates and marks, one after another

numbers_last : (a n j : ℕ) → a + n ≡ j → range_with_len a (suc n) ≡ range_with_len a n ++ j ∷ []
numbers_last a zero j e = let same : a ≡ j = omega arith in rw same refl
numbers_last a (suc n) j e = ap (λ (xs : List ℕ). a ∷ xs) (numbers_last (a + 1) n j (omega arith))

pub candidates_more : (table : List TableRow) (atoms : List ShapeAtom) (left : List Candidate) (n : ℕ) (c : Candidate) → c.place ≡ n → slice_get atoms n ≡ Some c.atom → IsSized table c
    → map (λ (d : Candidate). d.place) left ≡ range_with_len 0 n → All (λ (d : Candidate). slice_get atoms d.place ≡ Some d.atom) left → All (IsSized table) left
    → (map (λ (d : Candidate). d.place) (left ++ c ∷ []) ≡ range_with_len 0 (n + 1)) × All (λ (d : Candidate). slice_get atoms d.place ≡ Some d.atom) (left ++ c ∷ []) × All (IsSized table) (left ++ c ∷ [])
candidates_more table atoms left n c place at sized places there all = (
  map-append (λ (d : Candidate). d.place) left (c ∷ []) ∙ ap (λ (xs : List ℕ). xs ++ c.place ∷ []) places ∙ ap (λ (k : ℕ). range_with_len 0 n ++ k ∷ []) place ∙ sym (numbers_last 0 n n (omega arith)) ∙ ap (range_with_len 0) (let on : suc n ≡ n + 1 = omega arith in on),
  All-push (λ (d : Candidate). slice_get atoms d.place ≡ Some d.atom) left c there (rw place at),
  All-push (IsSized table) left c all sized,
)

pub names_more : (s : Layout) (known : List Bool) (n : ℕ) (b : Bool) (t : Term) → length known ≡ n → slice_get s.terms n ≡ Some t → IsTrue b ↔ ((name : List ℕ) × (t ≡ term.Named name))
    → ((k : ℕ) → k < n → IsMarked known k ↔ IsNameTerm s k) → (k : ℕ) → k < n + 1 → IsMarked (known ++ b ∷ []) k ↔ IsNameTerm s k
names_more s known n b t count there is before k below = by (split k)
  where
    split : (j : ℕ) → (j < n) ⊎ (n ≤ j)
    split j = grind arith

    earlier : k < n → slice_get (known ++ b ∷ []) k ≡ slice_get known k
    earlier lt =
        let x = something_at known k (omega arith) in
        place_stays known (b ∷ []) k x.0 x.1 ∙ sym x.1

    last : n ≤ k → slice_get (known ++ b ∷ []) k ≡ Some b
    last le = let here : k ≡ length known = omega arith in rw here (last_place known b)

    marked : (c : Bool) → IsTrue c → c ≡ true
    marked true h = refl
    marked false h = h

    by : (k < n) ⊎ (n ≤ k) → IsMarked (known ++ b ∷ []) k ↔ IsNameTerm s k
    by (inl lt) = (
      λ m. (before k lt).0 (sym (earlier lt) ∙ m),
      λ m. earlier lt ∙ (before k lt).1 m,
    )
    by (inr le) =
        let here : k ≡ n = omega arith in (
          λ m. let on : b ≡ true = some_same (sym (last le) ∙ m) in let named = is.0 (subst IsTrue (sym on) refl) in (named.0, rw here there ∙ ap Some named.1),
          λ m. last le ∙ ap Some (marked b (is.1 (m.0, some_same (sym (rw here there) ∙ m.1)))),
        )

pub names_all : (s : Layout) (known : List Bool) (n : ℕ) → length s.terms ≤ n → length known ≡ n → ((k : ℕ) → k < n → IsMarked known k ↔ IsNameTerm s k) → (k : ℕ) → IsMarked known k ↔ IsNameTerm s k
names_all s known n past count each k = (
  λ m. (each k (let within : k < length known = slice_get_within known k true m in omega arith)).0 m,
  λ m. (each k (let within : k < length s.terms = slice_get_within s.terms k (term.Named m.0) m.1 in omega arith)).1 m,
)
