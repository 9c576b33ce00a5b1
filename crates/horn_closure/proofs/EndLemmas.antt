-- Laws of the beginning and the end of a closure.
use Rattle.std.proofs.Common.{◌≡◌, ◌≢◌, ℕ, zero, suc, ◌+◌, ◌<◌, ◌≤◌, ◌⊎◌, inl, inr, ◌==◌, Bool, true, false, List, [], ◌∷◌, length, map, get_or, drop, slice_index, slice_index_or, slice_get, slice_set, Option, Some, None, All, refl, sym, ◌∙◌, ap, subst, arith, get_or-set_same, get_or-set_other, if◌then◌else◌}
use Rattle.std.specs.List.{AllByRecursion}
use Rattle.std.proofs.lemmas.List.{get_or_default}
use Rattle.std.proofs.lemmas.Bool.{cases_eq}
use Rattle.std.proofs.lemmas.Grind.{same_number_lists}
use Rattle.std.proofs.lemmas.List.Elements.{recursion_from_All}
use Rattle.std.proofs.lemmas.Option.{slice_get_within, get_or_from_slice_get, slice_get-get_or}
use Rattle.dl_base.proofs.DerivationLemmas.{IsClosed, least, least-all}
use Rattle.dl_base.specs.Derivation.{Derives, DerivesAll, none, each, Violates}
use Rattle.dl_base.specs.Ontology.{IsPlaced, IsWithin}
use Rattle.dl_base.specs.Sets.{place_of, HasBasic}
use Rattle.dl_base.specs.declared.concept.Basic.{Basic}
use Rattle.dl_base.specs.declared.concept.Inclusion.{Inclusion}
use Rattle.horn_closure.specs.declared.run.Found.{Found}
use Rattle.horn_closure.specs.Closure.{IsClosure, IsLeastViolated, body_lengths}
use Rattle.horn_closure.specs.Run.{count, members_at, waiting, uses_at, AreRules, IsQueueOf, IsSpent, IsFirstSpent, IsRun}
use Rattle.horn_closure.proofs.CountLemmas.{same_is, other_is, waiting_more, all_waiting, all_visited, none_waiting}
use Rattle.horn_closure.proofs.QueueLemmas.{once_each}
use Rattle.horn_closure.proofs.RunLemmas.{queued_from_has, has_from_queued, next_left}

-- the scratch of the inclusions has the number of members of each body
map_at : (inclusions : List Inclusion) (i : ℕ) (d : Inclusion) → i < length inclusions → get_or (map (λ (x : Inclusion). length x.body) inclusions) i 0 ≡ length (get_or inclusions i d).body
map_at [] i d h = absurd (omega arith)
map_at (x ∷ xs) zero d h = refl
map_at (x ∷ xs) (suc i) d h = map_at xs i d (omega arith)

map_length : (inclusions : List Inclusion) → length (map (λ (x : Inclusion). length x.body) inclusions) ≡ length inclusions
map_length [] = refl
map_length (x ∷ xs) = ap suc (map_length xs)

pub scratch_at : (inclusions : List Inclusion) (left : List ℕ) (i : ℕ) (inclusion : Inclusion) → left ≡ body_lengths inclusions → slice_get inclusions i ≡ Some inclusion → slice_index left i ≡ length inclusion.body
scratch_at inclusions left i inclusion clean at =
    ap (λ (xs : List ℕ). get_or xs i 0) clean ∙ map_at inclusions i inclusion (slice_get_within inclusions i inclusion at) ∙ ap (λ (x : Inclusion). length x.body) (get_or_from_slice_get inclusions i inclusion inclusion at)

pub scratch_length : (inclusions : List Inclusion) (left : List ℕ) → left ≡ body_lengths inclusions → length left ≡ length inclusions
scratch_length inclusions left clean = ap length clean ∙ map_length inclusions

-- each inclusion is within the limits
within_at : (inclusions : List Inclusion) (i : ℕ) (inclusion : Inclusion) → All (IsWithin 512 256) inclusions → slice_get inclusions i ≡ Some inclusion → IsWithin 512 256 inclusion
within_at inclusions i inclusion within at = subst (IsWithin 512 256) (get_or_from_slice_get inclusions i inclusion inclusion at) (within i inclusion (slice_get_within inclusions i inclusion at))

-- before any place is visited
pub run_first : (inclusions : List Inclusion) (queue : List ℕ) (found : Found) (left : List ℕ) → All (IsWithin 512 256) inclusions
    → IsQueueOf found.derived queue → found.violated ≡ None → left ≡ body_lengths inclusions → IsRun inclusions [] [] queue found left
run_first inclusions queue found left within is no_violated clean = record {
  marks = is;
  among = λ p. omega arith;
  each = scratch_length inclusions left clean;
  counts = λ i inclusion at.
      let members : slice_index left i ≡ length inclusion.body = scratch_at inclusions left i inclusion clean at in
      let all : waiting [] inclusion.body ≡ length inclusion.body = all_waiting inclusion.body in omega arith;
  fired = λ i inclusion b at heads zero_left. absurd (some i inclusion at zero_left);
  spent = rw no_violated (λ k s. some s.before s.inclusion s.at s.none_left);
}
  where
    some : (i : ℕ) (inclusion : Inclusion) → slice_get inclusions i ≡ Some inclusion → slice_index left i ≡ 0 → ⊥
    some i inclusion at zero_left =
        let fits : IsWithin 512 256 inclusion = within_at inclusions i inclusion within at in
        let members : slice_index left i ≡ length inclusion.body = scratch_at inclusions left i inclusion clean at in
        let one : 1 ≤ length inclusion.body = fits.least in
        absurd (omega arith)

-- what is waiting and what was used together are the members of a body
waiting_used : (inclusions : List Inclusion) (uses : List (List ℕ)) (i : ℕ) (inclusion : Inclusion) (queue : List ℕ) → AreRules inclusions uses → slice_get inclusions i ≡ Some inclusion
    → AllByRecursion (λ p. p < 1024) queue → ((q : ℕ) → count q queue ≤ 1) → waiting queue inclusion.body + uses_at i uses queue ≡ length inclusion.body
waiting_used inclusions uses i inclusion [] rules at inside once = let all : waiting [] inclusion.body ≡ length inclusion.body = all_waiting inclusion.body in omega arith
waiting_used inclusions uses i inclusion (p ∷ ps) rules at inside once =
    let rest : waiting ps inclusion.body + uses_at i uses ps ≡ length inclusion.body = waiting_used inclusions uses i inclusion ps rules at inside.1 (λ q. let most : count q (p ∷ ps) ≤ 1 = once q in omega arith) in
    let new : count p ps ≡ 0 = (let most : 1 + count p ps ≤ 1 = rw (same_is p) at (once p) in omega arith) in
    let fewer : waiting (p ∷ ps) inclusion.body + members_at p inclusion.body ≡ waiting ps inclusion.body = waiting_more ps (p ∷ ps) p inclusion.body (λ q. omega arith) new in
    let used : count i (slice_index_or uses p []) ≡ members_at p inclusion.body = (rules.each p inside.0).counts i inclusion at in
    omega arith

pub left_and_used : (inclusions : List Inclusion) (uses : List (List ℕ)) (queue : List ℕ) (found : Found) (left : List ℕ) (i : ℕ) (inclusion : Inclusion)
    → AreRules inclusions uses → IsRun inclusions [] queue queue found left → slice_get inclusions i ≡ Some inclusion → slice_index left i + uses_at i uses queue ≡ length inclusion.body
left_and_used inclusions uses queue found left i inclusion rules s at =
    let is : slice_index left i ≡ waiting queue inclusion.body + 0 = s.counts i inclusion at in
    let all : waiting queue inclusion.body + uses_at i uses queue ≡ length inclusion.body = waiting_used inclusions uses i inclusion queue rules at (recursion_from_All _ queue s.marks.inside) (once_each found.derived queue s.marks) in
    omega arith

pub few_used : (inclusions : List Inclusion) (uses : List (List ℕ)) (queue : List ℕ) (found : Found) (left : List ℕ) (i : ℕ)
    → AreRules inclusions uses → IsRun inclusions [] queue queue found left → i < length inclusions → slice_index left i + uses_at i uses queue ≤ 8
few_used [] uses queue found left i rules s inside = absurd (omega arith)
few_used (x ∷ xs) uses queue found left i rules s inside =
    let at : slice_get (x ∷ xs) i ≡ Some (get_or (x ∷ xs) i x) = slice_get-get_or (x ∷ xs) i x inside in
    let all : slice_index left i + uses_at i uses queue ≡ length (get_or (x ∷ xs) i x).body = left_and_used (x ∷ xs) uses queue found left i (get_or (x ∷ xs) i x) rules s at in
    let fits : IsWithin 512 256 (get_or (x ∷ xs) i x) = within_at (x ∷ xs) i (get_or (x ∷ xs) i x) rules.within at in
    let most : length (get_or (x ∷ xs) i x).body ≤ 8 = fits.most in
    omega arith

pub handed_back_at : (inclusions : List Inclusion) (uses : List (List ℕ)) (queue : List ℕ) (found : Found) (old left : List ℕ) (i : ℕ)
    → AreRules inclusions uses → IsRun inclusions [] queue queue found left → old ≡ body_lengths inclusions → i < length inclusions → slice_index left i + uses_at i uses queue ≡ slice_index old i
handed_back_at [] uses queue found old left i rules s clean inside = absurd (omega arith)
handed_back_at (x ∷ xs) uses queue found old left i rules s clean inside =
    let at : slice_get (x ∷ xs) i ≡ Some (get_or (x ∷ xs) i x) = slice_get-get_or (x ∷ xs) i x inside in
    left_and_used (x ∷ xs) uses queue found left i (get_or (x ∷ xs) i x) rules s at ∙ sym (scratch_at (x ∷ xs) old i (get_or (x ∷ xs) i x) clean at)

-- once each use is handed back the scratch is as it was
pub handed_back : (inclusions : List Inclusion) (uses : List (List ℕ)) (queue : List ℕ) (found : Found) (old left new : List ℕ)
    → AreRules inclusions uses → IsRun inclusions [] queue queue found left → old ≡ body_lengths inclusions → length new ≡ length left
    → ((i : ℕ) → i < length left → slice_index new i ≡ slice_index left i + uses_at i uses queue) → new ≡ old
handed_back inclusions uses queue found old left new rules s clean same given =
    let many : length left ≡ length inclusions = s.each in
    let many_old : length old ≡ length inclusions = scratch_length inclusions old clean in
    same_number_lists new old (omega arith) (λ k below. given k (omega arith) ∙ handed_back_at inclusions uses queue found old left k rules s clean (omega arith))

pub uses_inside : (inclusions : List Inclusion) (uses : List (List ℕ)) (left : List ℕ) (p : ℕ) → AreRules inclusions uses → length left ≡ length inclusions → p < length uses
    → All (λ i. i < length left) (slice_index_or uses p [])
uses_inside inclusions uses left p rules same below =
    let many : length uses ≡ 1024 = rules.places in rw same ((rules.each p (omega arith)).inside)

-- after one use more is handed back
pub give_one : (uses left old : List ℕ) (k j : ℕ) → k < length uses → get_or uses k 0 < length left
    → slice_index left j + count j (drop k uses) ≡ slice_index old j + count j uses
    → slice_index (slice_set left (get_or uses k 0) (slice_index left (get_or uses k 0) + 1)) j + count j (drop (k + 1) uses) ≡ slice_index old j + count j uses
give_one uses left old k j inside there before = by (get_or uses k 0 == j) refl (cases_eq j (get_or uses k 0)) step
  where
    step : slice_index left j + ((if get_or uses k 0 == j then 1 else 0) + count j (drop (k + 1) uses)) ≡ slice_index old j + count j uses
    step = rw (next_left uses k inside) at before

    by : (t : Bool) → (get_or uses k 0 == j) ≡ t → (j ≡ get_or uses k 0) ⊎ (j ≢ get_or uses k 0)
        → slice_index left j + ((if get_or uses k 0 == j then 1 else 0) + count j (drop (k + 1) uses)) ≡ slice_index old j + count j uses
        → slice_index (slice_set left (get_or uses k 0) (slice_index left (get_or uses k 0) + 1)) j + count j (drop (k + 1) uses) ≡ slice_index old j + count j uses
    by true e (inl same) s =
        let now : slice_index (slice_set left (get_or uses k 0) (slice_index left (get_or uses k 0) + 1)) j ≡ slice_index left j + 1 = rw same (get_or-set_same left (get_or uses k 0) (slice_index left (get_or uses k 0) + 1) 0 there) in
        let one : slice_index left j + (1 + count j (drop (k + 1) uses)) ≡ slice_index old j + count j uses = rw e at s in
        omega arith
    by true e (inr ne) s = absurd (let no : (get_or uses k 0 == j) ≡ false = other_is (get_or uses k 0) j (λ h. ne (sym h)) in cc)
    by false e (inl same) s = absurd (let yes : (get_or uses k 0 == j) ≡ true = rw same (same_is (get_or uses k 0)) in cc)
    by false e (inr ne) s =
        let now : slice_index (slice_set left (get_or uses k 0) (slice_index left (get_or uses k 0) + 1)) j ≡ slice_index left j = get_or-set_other left (get_or uses k 0) j (slice_index left (get_or uses k 0) + 1) 0 ne in
        let kept : slice_index left j + (0 + count j (drop (k + 1) uses)) ≡ slice_index old j + count j uses = rw e at s in
        omega arith

-- how many uses remain to be handed back of the next one
pub give_most : (uses left old : List ℕ) (k : ℕ) → k < length uses
    → slice_index left (get_or uses k 0) + count (get_or uses k 0) (drop k uses) ≡ slice_index old (get_or uses k 0) + count (get_or uses k 0) uses
    → slice_index old (get_or uses k 0) + count (get_or uses k 0) uses ≤ 8 → slice_index left (get_or uses k 0) < 8
give_most uses left old k inside before few =
    let step : slice_index left (get_or uses k 0) + (1 + count (get_or uses k 0) (drop (k + 1) uses)) ≡ slice_index old (get_or uses k 0) + count (get_or uses k 0) uses = rw (next_left uses k inside, same_is (get_or uses k 0)) at before in
    omega arith

-- a place of the queue is one of those that have uses
pub place_within : (uses : List (List ℕ)) (queue places : List ℕ) (k : ℕ) → All (λ p. p < length uses) queue → places ≡ queue → k < length places → get_or places k 0 < length uses
place_within uses queue places k within places_is inside = let all : All (λ p. p < length uses) places = rw places_is within in all k 0 inside

-- the uses that are read at a place
pub uses_read : (uses : List (List ℕ)) (queue places us found : List ℕ) (k : ℕ) → All (λ p. p < length uses) queue → places ≡ queue → k < length places
    → us ≡ found → found ≡ get_or uses (get_or places k 0) found → us ≡ slice_index_or uses (get_or places k 0) []
uses_read uses queue places us found k within places_is inside us_is found_is =
    us_is ∙ found_is ∙ get_or_default uses (get_or places k 0) found [] (place_within uses queue places k within places_is inside)

-- what remains to be handed back at the places from the next on
pub uses_next : (uses : List (List ℕ)) (places us : List ℕ) (k j : ℕ) → k < length places → us ≡ slice_index_or uses (get_or places k 0) []
    → uses_at j uses (drop k places) ≡ count j us + uses_at j uses (drop (k + 1) places)
uses_next uses places us k j inside us_is = rw (next_left places k inside, us_is) refl

-- at the end of a loop over a list nothing of it remains
pub drop_all : (xs : List ℕ) (n : ℕ) → length xs ≤ n → drop n xs ≡ []
drop_all [] zero h = refl
drop_all [] (suc n) h = refl
drop_all (x ∷ xs) zero h = absurd (omega arith)
drop_all (x ∷ xs) (suc n) h = drop_all xs n (omega arith)

-- the end of a closure: what was found is what is derived
module _ (inclusions : List Inclusion) (uses : List (List ℕ)) (held queue : List ℕ) (found : Found) (left : List ℕ) (rules : AreRules inclusions uses)
    (s : IsRun inclusions [] queue queue found left) (sound : (b : Basic) → HasBasic found.derived b → Derives inclusions (HasBasic held) b) (grows : (b : Basic) → HasBasic held b → HasBasic found.derived b) where
  visited_members : (bs : List Basic) → AllByRecursion (HasBasic found.derived) bs → AllByRecursion (λ b. 0 < count (place_of b) queue) bs
  visited_members [] h = tt
  visited_members (b ∷ bs) h = (queued_from_has found.derived queue b s.marks h.0, visited_members bs h.1)

  -- where the body of inclusion i was found, no member of it is left
  none_left_of : (i : ℕ) (inclusion : Inclusion) → slice_get inclusions i ≡ Some inclusion → AllByRecursion (HasBasic found.derived) inclusion.body → slice_index left i ≡ 0
  none_left_of i inclusion at all =
      let spent : waiting queue inclusion.body ≡ 0 = none_waiting queue inclusion.body (visited_members inclusion.body all) in
      let is : slice_index left i ≡ waiting queue inclusion.body + 0 = s.counts i inclusion at in
      omega arith

  closed : IsClosed inclusions (HasBasic found.derived)
  closed inclusion b there is all =
      let at : slice_get inclusions there.0 ≡ Some inclusion = slice_get-get_or inclusions there.0 inclusion there.1 ∙ ap Some there.2 in
      s.fired there.0 inclusion b at is (none_left_of there.0 inclusion at all)

  complete : (b : Basic) → Derives inclusions (HasBasic held) b → HasBasic found.derived b
  complete b d = least inclusions (HasBasic held) (HasBasic found.derived) closed grows d

  complete_all : (bs : List Basic) → DerivesAll inclusions (HasBasic held) bs → AllByRecursion (HasBasic found.derived) bs
  complete_all bs ds = least-all inclusions (HasBasic held) (HasBasic found.derived) closed grows ds

  spent_is_violated : (k : ℕ) → IsSpent inclusions left k → Violates inclusions (HasBasic held) k
  spent_is_violated k v =
      let is : slice_index left v.before ≡ waiting queue v.inclusion.body + 0 = s.counts v.before v.inclusion v.at in
      let zero_left : slice_index left v.before ≡ 0 = v.none_left in
      let fits : IsWithin 512 256 v.inclusion = within_at inclusions v.before v.inclusion rules.within v.at in
      record {
        before = v.before;
        number = v.number;
        inclusion = v.inclusion;
        at = v.at;
        nothing = v.nothing;
        body = derive v.inclusion.body (recursion_from_All _ v.inclusion.body fits.body) (all_visited queue v.inclusion.body (omega arith));
      }
    where
      derive : (bs : List Basic) → AllByRecursion (IsPlaced 512 256) bs → AllByRecursion (λ b. 0 < count (place_of b) queue) bs → DerivesAll inclusions (HasBasic held) bs
      derive [] placed all = none
      derive (b ∷ bs) placed all = each (sound b (has_from_queued found.derived queue b s.marks placed.0 all.0)) (derive bs placed.1 all.1)

  violated_is_spent : (k : ℕ) → Violates inclusions (HasBasic held) k → IsSpent inclusions left k
  violated_is_spent k v = record {
    before = v.before;
    number = v.number;
    inclusion = v.inclusion;
    at = v.at;
    nothing = v.nothing;
    none_left = none_left_of v.before v.inclusion v.at (complete_all v.inclusion.body v.body);
  }

  pub end_closure : IsClosure inclusions (HasBasic held) (record { derived = found.derived; violated = found.violated })
  end_closure = record { derived = λ b. (sound b, complete b); violated = by found.violated s.spent }
    where
      by : (v : Option ℕ) → IsFirstSpent inclusions left v → IsLeastViolated inclusions (HasBasic held) v
      by None f = λ k v. f k (violated_is_spent k v)
      by (Some k) f = (spent_is_violated k f.0, λ j below v. f.1 j below (violated_is_spent j v))
