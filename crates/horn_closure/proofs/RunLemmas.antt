-- Laws of a closure on its way.
use Rattle.std.proofs.Common.{◌≡◌, ◌≢◌, ℕ, zero, suc, ◌+◌, ◌-◌, ◌<◌, ◌≤◌, ◌⊎◌, inl, inr, ◌==◌, Bool, true, false, List, [], ◌∷◌, ◌++◌, length, take, drop, get_or, slice_index, slice_get, slice_set, Option, Some, None, min, MatchOption, All, Contains, refl, sym, ◌∙◌, ap, subst, arith, add-one, drop-cons, get_or-set_same, get_or-set_other, length-set, append_assoc, length-append}
use Rattle.std.specs.List.{AllByRecursion}
use Rattle.std.proofs.lemmas.Bool.{cases_eq}
use Rattle.std.proofs.lemmas.Grind.{take_at_read}
use Rattle.std.proofs.lemmas.List.{get_or_default, take-append-le}
use Rattle.std.proofs.lemmas.List.Elements.{recursion_from_All, All-get_or}
use Rattle.std.proofs.lemmas.Option.{get_or_from_slice_get, slice_get-get_or}
use Rattle.dl_base.proofs.DerivationLemmas.{cut}
use Rattle.dl_base.proofs.SetLemmas.{place_of-lt}
use Rattle.dl_base.specs.Derivation.{Derives, DerivesAll, leaf, node, none, each}
use Rattle.dl_base.specs.Ontology.{IsPlaced, IsWithin}
use Rattle.dl_base.specs.Sets.{place_of, HasBasic}
use Rattle.dl_base.specs.declared.concept.Basic.{Basic}
use Rattle.dl_base.specs.declared.concept.Head.{Head}
use Rattle.dl_base.specs.declared.concept.Head.TheVariants as head
use Rattle.dl_base.specs.declared.concept.Inclusion.{Inclusion}
use Rattle.horn_closure.specs.declared.run.Found.{Found}
use Rattle.horn_closure.proofs.CountLemmas.{same_is, other_is, count-append, count_more, count_last, count-take, waiting_more, all_visited}
use Rattle.horn_closure.proofs.QueueLemmas.{bit-lt, once_each}
use Rattle.horn_closure.specs.Run.{count, members_at, waiting, bit, AreUses, AreRules, IsQueueOf, IsSpent, IsFirstSpent, IsRun, Marks, MarksDerived}

-- what is in the queue is in the set
pub has_from_queued : (words queue : List ℕ) (b : Basic) → IsQueueOf words queue → IsPlaced 512 256 b → 0 < count (place_of b) queue → HasBasic words b
has_from_queued words queue b is placed queued =
    let same : count (place_of b) queue ≡ bit words (place_of b) = is.each (place_of b) (place_of-lt b placed) in
    let most : bit words (place_of b) < 2 = bit-lt words (place_of b) in
    record { placed = placed; there = omega arith }

pub queued_from_has : (words queue : List ℕ) (b : Basic) → IsQueueOf words queue → HasBasic words b → 0 < count (place_of b) queue
queued_from_has words queue b is has =
    let same : count (place_of b) queue ≡ bit words (place_of b) = is.each (place_of b) (place_of-lt b has.placed) in
    let set : bit words (place_of b) ≡ 1 = has.there in omega arith

-- where the place of each is visited each is derived
pub derived_all : (inclusions : List Inclusion) (words queue visited : List ℕ) (bs : List Basic) → IsQueueOf words queue → ((p : ℕ) → count p visited ≤ count p queue)
    → AllByRecursion (IsPlaced 512 256) bs → AllByRecursion (λ b. 0 < count (place_of b) visited) bs → DerivesAll inclusions (HasBasic words) bs
derived_all inclusions words queue visited [] is among placed all = none
derived_all inclusions words queue visited (b ∷ bs) is among placed all =
    let here : 0 < count (place_of b) visited = all.0 in
    let most : count (place_of b) visited ≤ count (place_of b) queue = among (place_of b) in
    each (leaf (has_from_queued words queue b is placed.0 (omega arith))) (derived_all inclusions words queue visited bs is among placed.1 all.1)

-- how the inclusions of which no member is left change with one number
module _ (inclusions : List Inclusion) (left : List ℕ) (i w : ℕ) where
  still_spent : (k : ℕ) (s : IsSpent inclusions left k) → s.before ≢ i → IsSpent inclusions (slice_set left i w) k
  still_spent k s other = record {
    before = s.before;
    number = s.number;
    inclusion = s.inclusion;
    at = s.at;
    nothing = s.nothing;
    none_left = get_or-set_other left i s.before w 0 other ∙ s.none_left;
  }

  was_spent : (k : ℕ) (s : IsSpent inclusions (slice_set left i w) k) → s.before ≢ i → IsSpent inclusions left k
  was_spent k s other = record {
    before = s.before;
    number = s.number;
    inclusion = s.inclusion;
    at = s.at;
    nothing = s.nothing;
    none_left = sym (get_or-set_other left i s.before w 0 other) ∙ s.none_left;
  }

  not_before : (k : ℕ) (s : IsSpent inclusions left k) → slice_index left i ≡ w + 1 → s.before ≢ i
  not_before k s was e = let zero_left : slice_index left i ≡ 0 = subst (λ (j : ℕ). slice_index left j ≡ 0) e s.none_left in absurd (omega arith)

  -- where inclusion i isn't among them
  pub spent_kept : (v : Option ℕ) → slice_index left i ≡ w + 1 → ((k : ℕ) (s : IsSpent inclusions (slice_set left i w) k) → s.before ≢ i)
      → IsFirstSpent inclusions left v → IsFirstSpent inclusions (slice_set left i w) v
  spent_kept None was never first = λ k s. first k (was_spent k s (never k s))
  spent_kept (Some k) was never first = (still_spent k first.0 (not_before k first.0 was), λ j below s. first.1 j below (was_spent j s (never j s)))

  -- where it is one more of them
  pub spent_more : (v : Option ℕ) (least : ℕ) → slice_index left i ≡ w + 1 → IsSpent inclusions (slice_set left i w) (i + 1) → MatchOption v (least ≡ i + 1) (λ first. least ≡ min first (i + 1))
      → IsFirstSpent inclusions left v → IsFirstSpent inclusions (slice_set left i w) (Some least)
  spent_more None least was here is first = (
    rw is here,
    λ j below s. elim (cases_eq s.before i) [
      | inl e ↦ let number : j ≡ s.before + 1 = s.number in absurd (omega arith)
      | inr other ↦ first j (was_spent j s other)
    ],
  )
  spent_more (Some k) least was here is first = by (k - (i + 1)) refl
    where
      by : (d : ℕ) → k - (i + 1) ≡ d → IsFirstSpent inclusions (slice_set left i w) (Some least)
      by zero e =
          let same : least ≡ k = omega arith in (
            rw same (still_spent k first.0 (not_before k first.0 was)),
            λ j below s. elim (cases_eq s.before i) [
              | inl e ↦ let number : j ≡ s.before + 1 = s.number in absurd (omega arith)
              | inr other ↦ first.1 j (omega arith) (was_spent j s other)
            ],
          )
      by (suc d) e =
          let same : least ≡ i + 1 = omega arith in (
            rw same here,
            λ j below s. elim (cases_eq s.before i) [
              | inl e ↦ let number : j ≡ s.before + 1 = s.number in absurd (omega arith)
              | inr other ↦ first.1 j (omega arith) (was_spent j s other)
            ],
          )

-- of inclusion i one use fewer remains to be counted
pub run_less : (inclusions : List Inclusion) (i w : ℕ) (remaining visited queue queue' : List ℕ) (found found' : Found) (left : List ℕ)
    → i < length inclusions → slice_index left i ≡ w + 1
    → IsQueueOf found'.derived queue' → ((p : ℕ) → count p queue ≤ count p queue') → ((b : Basic) → HasBasic found.derived b → HasBasic found'.derived b)
    → ((inclusion : Inclusion) (b : Basic) → slice_get inclusions i ≡ Some inclusion → inclusion.head ≡ head.Basic b → w ≡ 0 → HasBasic found'.derived b)
    → IsFirstSpent inclusions (slice_set left i w) found'.violated
    → IsRun inclusions (i ∷ remaining) visited queue found left → IsRun inclusions remaining visited queue' found' (slice_set left i w)
run_less inclusions i w remaining visited queue queue' found found' left inside was marks longer grows fires spent s = record {
  marks = marks;
  among = λ p. let before : count p visited ≤ count p queue = s.among p in let more : count p queue ≤ count p queue' = longer p in omega arith;
  each = length-set left i w ∙ s.each;
  counts = λ j inclusion at. counts_at j (i == j) refl inclusion at;
  fired = λ j inclusion b at is zero_left. fired_at j (cases_eq j i) inclusion b at is zero_left;
  spent = spent;
}
  where
    in_left : i < length left
    in_left = let same : length left ≡ length inclusions = s.each in omega arith

    counts_at : (j : ℕ) (t : Bool) → (i == j) ≡ t → (inclusion : Inclusion) → slice_get inclusions j ≡ Some inclusion
        → slice_index (slice_set left i w) j ≡ waiting visited inclusion.body + count j remaining
    counts_at j true e inclusion at =
        let same : j ≡ i = by_test e in
        let now : slice_index (slice_set left i w) j ≡ w = rw same (get_or-set_same left i w 0 in_left) in
        let old : slice_index left j ≡ waiting visited inclusion.body + (1 + count j remaining) = rw e at (s.counts j inclusion at) in
        let here : slice_index left j ≡ w + 1 = rw same was in
        omega arith
      where
        by_test : (i == j) ≡ true → j ≡ i
        by_test e = elim (cases_eq j i) [ inl same ↦ same | inr ne ↦ let no : (i == j) ≡ false = other_is i j (λ e. ne (sym e)) in absurd (cc) ]
    counts_at j false e inclusion at =
        let ne : j ≢ i = λ same. (let yes : (i == i) ≡ true = same_is i in let no : (i == i) ≡ false = rw same at e in absurd (cc)) in
        let old : slice_index left j ≡ waiting visited inclusion.body + (0 + count j remaining) = rw e at (s.counts j inclusion at) in
        let now : slice_index (slice_set left i w) j ≡ slice_index left j = get_or-set_other left i j w 0 ne in
        omega arith

    fired_at : (j : ℕ) → (j ≡ i) ⊎ (j ≢ i) → (inclusion : Inclusion) (b : Basic) → slice_get inclusions j ≡ Some inclusion → inclusion.head ≡ head.Basic b
        → slice_index (slice_set left i w) j ≡ 0 → HasBasic found'.derived b
    fired_at j (inl same) inclusion b at is zero_left =
        let now : slice_index (slice_set left i w) j ≡ w = rw same (get_or-set_same left i w 0 in_left) in
        fires inclusion b (rw same at at) is (sym now ∙ zero_left)
    fired_at j (inr ne) inclusion b at is zero_left = grows b (s.fired j inclusion b at is (sym (get_or-set_other left i j w 0 ne) ∙ zero_left))

pub nothing_after : (xs : List ℕ) → xs ≡ xs ++ []
nothing_after [] = refl
nothing_after (x ∷ xs) = ap (λ (ys : List ℕ). x ∷ ys) (nothing_after xs)

pub nothing_advances : (inclusions : List Inclusion) (words queue : List ℕ) → MarksDerived inclusions words queue words queue
nothing_advances inclusions words queue = record { sound = λ b has. leaf has; grows = λ b has. has; longer = ([], nothing_after queue) }

-- one advance after another
pub advances_both : (inclusions : List Inclusion) (m m' m'' q q' q'' : List ℕ)
    → MarksDerived inclusions m q m' q' → MarksDerived inclusions m' q' m'' q'' → MarksDerived inclusions m q m'' q''
advances_both inclusions m m' m'' q q' q'' a b = record {
  sound = λ c has. cut inclusions (HasBasic m) (HasBasic m') a.sound (b.sound c has);
  grows = λ c has. b.grows c (a.grows c has);
  longer = (a.longer.0 ++ b.longer.0, b.longer.1 ∙ ap (λ (xs : List ℕ). xs ++ b.longer.0) a.longer.1 ∙ append_assoc q a.longer.0 b.longer.0);
}

-- a queue that is longer has what was there
pub longer_counts : (queue queue' more : List ℕ) → queue' ≡ queue ++ more → (p : ℕ) → count p queue ≤ count p queue'
longer_counts queue queue' more is p = let split : count p queue' ≡ count p queue + count p more = ap (count p) is ∙ count-append p queue more in omega arith

-- the mark of the head of an inclusion whose body is derived
pub mark_advances : (inclusions : List Inclusion) (inclusion : Inclusion) (b : Basic) (old queue new queue' : List ℕ)
    → Contains inclusions inclusion → inclusion.head ≡ head.Basic b → DerivesAll inclusions (HasBasic old) inclusion.body
    → Marks b old queue new queue' → MarksDerived inclusions old queue new queue'
mark_advances inclusions inclusion b old queue new queue' there is body m = record {
  sound = λ c has. elim ((m.adds c).0 has) [
    | inl e ↦ subst (Derives inclusions (HasBasic old)) (sym e) (node inclusion there is body)
    | inr before ↦ leaf before
  ];
  grows = λ c has. (m.adds c).1 (inr has);
  longer = m.longer;
}

-- the body of an inclusion of which no member is left
pub body_derived : (inclusions : List Inclusion) (i : ℕ) (inclusion : Inclusion) (remaining visited queue : List ℕ) (found : Found) (left : List ℕ)
    → IsRun inclusions (i ∷ remaining) visited queue found left → slice_get inclusions i ≡ Some inclusion → IsWithin 512 256 inclusion → slice_index left i ≡ 1
    → DerivesAll inclusions (HasBasic found.derived) inclusion.body
body_derived inclusions i inclusion remaining visited queue found left s at fits one =
    let old : slice_index left i ≡ waiting visited inclusion.body + (1 + count i remaining) = rw (same_is i) at (s.counts i inclusion at) in
    derived_all inclusions found.derived queue visited inclusion.body s.marks s.among (recursion_from_All _ inclusion.body fits.body) (all_visited visited inclusion.body (omega arith))

-- inclusion i by its place
module _ (inclusions : List Inclusion) (i : ℕ) (d : Inclusion) (inside : i < length inclusions) where
  pub at_place_i : slice_get inclusions i ≡ Some (get_or inclusions i d)
  at_place_i = slice_get-get_or inclusions i d inside

  pub is_there : Contains inclusions (get_or inclusions i d)
  is_there = (i, inside, get_or_from_slice_get inclusions i (get_or inclusions i d) (get_or inclusions i d) at_place_i)

  pub head_is : (h : Head) (inclusion : Inclusion) → (get_or inclusions i d).head ≡ h → slice_get inclusions i ≡ Some inclusion → inclusion.head ≡ h
  head_is h inclusion is at = sym (ap (λ (x : Inclusion). x.head) (get_or_from_slice_get inclusions i inclusion d at)) ∙ is

-- of inclusion i some members are left
pub settled_some : (inclusions : List Inclusion) (i w : ℕ) (remaining visited queue : List ℕ) (found : Found) (left : List ℕ)
    → i < length inclusions → slice_index left i ≡ w + 1 → 0 < w → IsRun inclusions (i ∷ remaining) visited queue found left
    → IsRun inclusions remaining visited queue found (slice_set left i w) × MarksDerived inclusions found.derived queue found.derived queue
settled_some inclusions i w remaining visited queue found left inside was some s = (
  run_less inclusions i w remaining visited queue queue found found left inside was s.marks (λ p. omega arith) (λ b h. h) (λ inclusion b at is zero_left. absurd (omega arith))
      (spent_kept inclusions left i w found.violated was (λ k spent. λ e. never spent.before spent.none_left e) s.spent) s,
  nothing_advances inclusions found.derived queue,
)
  where
    never : (j : ℕ) → slice_index (slice_set left i w) j ≡ 0 → j ≡ i → ⊥
    never j none_left e =
        let same : length left ≡ length inclusions = s.each in
        let now : slice_index (slice_set left i w) i ≡ w = get_or-set_same left i w 0 (omega arith) in
        let zero_left : slice_index (slice_set left i w) i ≡ 0 = subst (λ (k : ℕ). slice_index (slice_set left i w) k ≡ 0) e none_left in
        absurd (omega arith)

-- none is left, and its head is marked
pub settled_basic : (inclusions : List Inclusion) (i w : ℕ) (d : Inclusion) (b : Basic) (remaining visited queue queue' : List ℕ) (found found' : Found) (left : List ℕ)
    → i < length inclusions → All (IsWithin 512 256) inclusions → (get_or inclusions i d).head ≡ head.Basic b → slice_index left i ≡ w + 1 → w ≡ 0
    → found'.violated ≡ found.violated → Marks b found.derived queue found'.derived queue' → IsRun inclusions (i ∷ remaining) visited queue found left
    → IsRun inclusions remaining visited queue' found' (slice_set left i w) × MarksDerived inclusions found.derived queue found'.derived queue'
settled_basic inclusions i w d b remaining visited queue queue' found found' left inside within is was zero_left same_violated m s =
    let fits : IsWithin 512 256 (get_or inclusions i d) = All-get_or (IsWithin 512 256) inclusions i d inside within in
    let body : DerivesAll inclusions (HasBasic found.derived) (get_or inclusions i d).body =
    body_derived inclusions i (get_or inclusions i d) remaining visited queue found left s (at_place_i inclusions i d inside) fits (omega arith) in (
      run_less inclusions i w remaining visited queue queue' found found' left inside was m.marks (longer_counts queue queue' m.longer.0 m.longer.1) (λ c has. (m.adds c).1 (inr has))
          (λ inclusion c at is' zero_left'.
          let heads : head.Basic c ≡ head.Basic b = sym is' ∙ head_is inclusions i d inside (head.Basic b) inclusion is at in
          let same : c ≡ b = cc in
          (m.adds c).1 (inl same))
          (rw same_violated (spent_kept inclusions left i w found.violated was
          (λ k spent. λ e. clash (head_is inclusions i d inside (head.Basic b) spent.inclusion is (subst (λ (j : ℕ). slice_get inclusions j ≡ Some spent.inclusion) e spent.at)) spent.nothing) s.spent)) s,
      mark_advances inclusions (get_or inclusions i d) b found.derived queue found'.derived queue' (is_there inclusions i d inside) is body m,
    )
  where
    clash : {h : Head} → h ≡ head.Basic b → h ≡ head.Nothing → ⊥
    clash one two = absurd (cc)

-- none is left, and its head is nothing
pub settled_nothing : (inclusions : List Inclusion) (i w : ℕ) (d : Inclusion) (least : ℕ) (remaining visited queue : List ℕ) (found found' : Found) (left : List ℕ)
    → i < length inclusions → (get_or inclusions i d).head ≡ head.Nothing → slice_index left i ≡ w + 1 → w ≡ 0
    → found'.derived ≡ found.derived → found'.violated ≡ Some least → MatchOption found.violated (least ≡ i + 1) (λ first. least ≡ min first (i + 1))
    → IsRun inclusions (i ∷ remaining) visited queue found left
    → IsRun inclusions remaining visited queue found' (slice_set left i w) × MarksDerived inclusions found.derived queue found.derived queue
settled_nothing inclusions i w d least remaining visited queue found found' left inside is was zero_left same_derived violated least_is s = (
  run_less inclusions i w remaining visited queue queue found found' left inside was (rw same_derived s.marks) (λ p. omega arith) (λ b h. rw same_derived h)
      (λ inclusion c at is' zero_left'.
      let heads : head.Basic c ≡ head.Nothing = sym is' ∙ head_is inclusions i d inside head.Nothing inclusion is at in absurd (cc))
      (rw violated (spent_more inclusions left i w found.violated least was now least_is s.spent)) s,
  nothing_advances inclusions found.derived queue,
)
  where
    now : IsSpent inclusions (slice_set left i w) (i + 1)
    now = record {
      before = i;
      number = refl;
      inclusion = get_or inclusions i d;
      at = at_place_i inclusions i d inside;
      nothing = is;
      none_left = (let same : length left ≡ length inclusions = s.each in let here : slice_index (slice_set left i w) i ≡ w = get_or-set_same left i w 0 (omega arith) in omega arith);
    }

-- what the next turn of a loop takes
pub next_left : (xs : List ℕ) (i : ℕ) → i < length xs → drop i xs ≡ get_or xs i 0 ∷ drop (i + 1) xs
next_left xs i h = rw (add-one, drop-cons xs i 0)

-- where inclusion i remains to be counted, some member of it is left
pub some_left : (inclusions : List Inclusion) (i : ℕ) (remaining visited queue : List ℕ) (found : Found) (left : List ℕ)
    → i < length inclusions → IsRun inclusions (i ∷ remaining) visited queue found left → 0 < slice_index left i
some_left [] i remaining visited queue found left inside s = absurd (omega arith)
some_left (x ∷ xs) i remaining visited queue found left inside s =
    let at : slice_get (x ∷ xs) i ≡ Some (get_or (x ∷ xs) i x) = slice_get-get_or (x ∷ xs) i x inside in
    let old : slice_index left i ≡ waiting visited (get_or (x ∷ xs) i x).body + (1 + count i remaining) = rw (same_is i) at (s.counts i _ at) in
    omega arith

-- a place that comes next in the queue wasn't visited
pub new_place : (words queue : List ℕ) (k : ℕ) → IsQueueOf words queue → k < length queue → count (get_or queue k 0) (take k queue) ≡ 0
new_place words queue k is inside =
    let split : take (k + 1) queue ≡ take k queue ++ get_or queue k 0 ∷ [] = (take_at_read queue k 0 inside).1 in
    let more : count (get_or queue k 0) (take k queue ++ get_or queue k 0 ∷ []) ≡ count (get_or queue k 0) (take k queue) + 1 = count_last (get_or queue k 0) (take k queue) in
    let whole : count (get_or queue k 0) (take (k + 1) queue) ≡ count (get_or queue k 0) (take k queue ++ get_or queue k 0 ∷ []) = ap (count (get_or queue k 0)) split in
    let most : count (get_or queue k 0) (take (k + 1) queue) ≤ count (get_or queue k 0) queue = count-take (get_or queue k 0) (k + 1) queue in
    let once : count (get_or queue k 0) queue ≤ 1 = once_each words queue is (get_or queue k 0) in
    omega arith

-- the uses of the place that is visited next remain to be counted
pub visited_next : (inclusions : List Inclusion) (us queue : List ℕ) (k : ℕ) (found : Found) (left : List ℕ)
    → k < length queue → AreUses inclusions (get_or queue k 0) us → IsRun inclusions [] (take k queue) queue found left
    → IsRun inclusions us (take (k + 1) queue) queue found left
visited_next inclusions us queue k found left inside uses s = record {
  marks = s.marks;
  among = λ p. count-take p (k + 1) queue;
  each = s.each;
  counts = λ i inclusion at.
      let old : slice_index left i ≡ waiting (take k queue) inclusion.body + 0 = s.counts i inclusion at in
      let split : take (k + 1) queue ≡ take k queue ++ get_or queue k 0 ∷ [] = (take_at_read queue k 0 inside).1 in
      let fewer : waiting (take (k + 1) queue) inclusion.body + members_at (get_or queue k 0) inclusion.body ≡ waiting (take k queue) inclusion.body
      = waiting_more (take k queue) (take (k + 1) queue) (get_or queue k 0) inclusion.body (λ q. rw split (count_more q (get_or queue k 0) (take k queue))) (new_place found.derived queue k s.marks inside) in
      let times_is : count i us ≡ members_at (get_or queue k 0) inclusion.body = uses.counts i inclusion at in
      omega arith;
  fired = s.fired;
  spent = s.spent;
}

-- the front of a queue that has become longer
pub same_front : (queue queue' more : List ℕ) (n : ℕ) → queue' ≡ queue ++ more → n ≤ length queue → take n queue' ≡ take n queue
same_front queue queue' more n is below = ap (take n) is ∙ take-append-le n queue more below

-- the uses of a place of the queue
pub uses_of_place : (inclusions : List Inclusion) (uses : List (List ℕ)) (words queue places us found : List ℕ) (k : ℕ) → AreRules inclusions uses → IsQueueOf words queue
    → k < length queue → places ≡ queue → us ≡ found → found ≡ get_or uses (get_or places k 0) found → AreUses inclusions (get_or queue k 0) us
uses_of_place inclusions uses words queue places us found k rules is inside places_is us_is found_is =
    let below : get_or queue k 0 < 1024 = is.inside k 0 inside in
    let many : length uses ≡ 1024 = rules.places in
    let there : us ≡ get_or uses (get_or queue k 0) [] = us_is ∙ found_is ∙ ap (λ (xs : List ℕ). get_or uses (get_or xs k 0) found) places_is ∙ get_or_default uses (get_or queue k 0) found [] (omega arith) in
    rw there (rules.each (get_or queue k 0) below)

pub longer_length : (queue queue' more : List ℕ) → queue' ≡ queue ++ more → length queue ≤ length queue'
longer_length queue queue' more is = let split : length queue' ≡ length queue + length more = ap length is ∙ length-append queue more in omega arith

-- at the end of a loop over uses none remains
pub none_remain : (inclusions : List Inclusion) (us visited queue : List ℕ) (found : Found) (left : List ℕ) (k : ℕ) → length us ≤ k
    → IsRun inclusions (drop k us) visited queue found left → IsRun inclusions [] visited queue found left
none_remain inclusions us visited queue found left k past s = subst (λ (xs : List ℕ). IsRun inclusions xs visited queue found left) (drop-all us k past) s
  where
    drop-all : (xs : List ℕ) (n : ℕ) → length xs ≤ n → drop n xs ≡ []
    drop-all [] zero h = refl
    drop-all [] (suc n) h = refl
    drop-all (x ∷ xs) zero h = absurd (omega arith)
    drop-all (x ∷ xs) (suc n) h = drop-all xs n (omega arith)

-- the whole queue is visited
pub whole_visited : (inclusions : List Inclusion) (queue : List ℕ) (found : Found) (left : List ℕ) (k : ℕ) → length queue ≤ k
    → IsRun inclusions [] (take k queue) queue found left → IsRun inclusions [] queue queue found left
whole_visited inclusions queue found left k past s = subst (λ (xs : List ℕ). IsRun inclusions [] xs queue found left) (take-all queue k past) s
  where
    take-all : (xs : List ℕ) (n : ℕ) → length xs ≤ n → take n xs ≡ xs
    take-all [] zero h = refl
    take-all [] (suc n) h = refl
    take-all (x ∷ xs) zero h = absurd (omega arith)
    take-all (x ∷ xs) (suc n) h = ap (λ (ys : List ℕ). x ∷ ys) (take-all xs n (omega arith))
