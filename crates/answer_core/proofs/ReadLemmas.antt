-- What a match has at the answer places.
use Rattle.std.proofs.Common.{◌≡◌, ◌↔◌, ℕ, ◌⊎◌, inl, inr, ◌<◌, ◌≤◌, true, List, [], ◌∷◌, length, get_or, All, Contains, slice_get, slice_index, Some, refl, sym, ◌∙◌, ap, subst, arith}
use Rattle.std.specs.List.{AllByRecursion}
use Rattle.std.proofs.lemmas.List.Elements.{All-cons, All-nil, All-contains, Contains-get_or, recursion_from_All}
use Rattle.std.proofs.lemmas.Option.{slice_get-get_or, slice_get_within, get_or_from_slice_get}
use Rattle.dl_base.specs.declared.element.Elem.{Elem}
use Rattle.dl_base.specs.declared.element.Elem.TheVariants as elem
use Rattle.query_shape.specs.Lifting.{DecidesLifting}
use Rattle.query_shape.specs.Shape.{Layout}
use Rattle.answer_core.specs.Found.{IsOf, HasIndividual, HaveIndividuals, AddsKey, AddsLifted, AreWithin}
use Rattle.join_ops.specs.Orders.{AgreeUpTo}
use Rattle.answer_core.proofs.ListLemmas.{zip_each, zip_at}
use Rattle.dl_base.proofs.PlaceLemmas.{some_same}

-- the image at a place
pub stands_here : (images : List Elem) (count p n : ℕ) (d : Elem) → p < length images → IsOf count (get_or images p d) n → HasIndividual images count p n
stands_here images count p n d below is = (slice_get-get_or images p d below ∙ ap Some is.0, is.1)

-- each place that was gone through
pub reads_all : (images : List Elem) (count : ℕ) (places key : List ℕ) (i : ℕ) → length key ≡ length places → length places ≤ i
    → ((k : ℕ) → k < i → HasIndividual images count (get_or places k 0) (get_or key k 0)) → HaveIndividuals images places count key
reads_all images count places key i long all stands = zip_each (HasIndividual images count) places key (sym long) each
  where
    each : (k p n : ℕ) → slice_get places k ≡ Some p → slice_get key k ≡ Some n → HasIndividual images count p n
    each k p n at_p at_n =
        let below : k < length places = slice_get_within places k p at_p in
        let stand : HasIndividual images count (get_or places k 0) (get_or key k 0) = stands k (omega arith) in
        subst (λ (x : ℕ). HasIndividual images count x n) (get_or_from_slice_get places k p 0 at_p)
        (subst (λ (y : ℕ). HasIndividual images count (get_or places k 0) y) (get_or_from_slice_get key k n 0 at_n) stand)

-- where a place has no individual, nothing is read
pub reads_not : (images : List Elem) (count : ℕ) (places : List ℕ) (i : ℕ) (d : Elem) → i < length places → ((n : ℕ) → IsOf count (get_or images (get_or places i 0) d) n → ⊥)
    → (numbers : List ℕ) → HaveIndividuals images places count numbers → ⊥
reads_not images count places i d below none numbers reads =
    let found = zip_at (HasIndividual images count) places numbers i (get_or places i 0) reads (slice_get-get_or places i 0 below) in
    none found.0 (get_or_from_slice_get images (get_or places i 0) (elem.Named found.0) d found.2.0, found.2.1)

named_same : {n m : ℕ} → elem.Named n ≡ elem.Named m → n ≡ m
named_same e = cc

-- one key is read
pub reads_same : (images : List Elem) (count : ℕ) (places key other : List ℕ) → HaveIndividuals images places count key → HaveIndividuals images places count other → other ≡ key
reads_same images count [] [] [] r s = refl
reads_same images count [] [] (m ∷ ms) r s = absurd s
reads_same images count [] (n ∷ ns) other r s = absurd r
reads_same images count (p ∷ ps) [] other r s = absurd r
reads_same images count (p ∷ ps) (n ∷ ns) [] r s = absurd s
reads_same images count (p ∷ ps) (n ∷ ns) (m ∷ ms) r s =
    let head : m ≡ n = named_same (some_same (sym s.0.0 ∙ r.0.0)) in
    let tail : ms ≡ ns = reads_same images count ps ns ms r.1 s.1 in
    λ j. head j ∷ tail j

-- where the key that is read is there, so is any that is read
pub known_read : (images : List Elem) (count : ℕ) (places key numbers : List ℕ) (found : List (List ℕ)) → Contains found key → HaveIndividuals images places count key → HaveIndividuals images places count numbers
    → Contains found numbers
known_read images count places key numbers found there reads other = subst (Contains found) (sym (reads_same images count places key numbers reads other)) there

pub adds_read : (images : List Elem) (count : ℕ) (places key : List ℕ) (old new : List (List ℕ)) → AddsKey old key new → HaveIndividuals images places count key
    → (numbers : List ℕ) → Contains new numbers ↔ (Contains old numbers ⊎ HaveIndividuals images places count numbers)
adds_read images count places key old new adds reads numbers = (
  λ c. elim ((adds numbers).0 c) [ inl d ↦ inl d | inr e ↦ inr (subst (HaveIndividuals images places count) (sym e) reads) ],
  λ either. (adds numbers).1 (elim either [ inl d ↦ inl d | inr r ↦ inr (reads_same images count places key numbers reads r) ]),
)

-- where the images lift, their key is added
pub adds_lifted : (s : Layout) (images : List Elem) (count : ℕ) (places key : List ℕ) (old new : List (List ℕ)) → DecidesLifting s images true → AddsKey old key new → HaveIndividuals images places count key
    → AddsLifted s images places count old new
adds_lifted s images count places key old new decides adds reads = λ o rows names generation table base match numbers.
    let lifts = (decides o rows names generation table base.distinct base.completed match).0 refl in
    let read = adds_read images count places key old new adds reads numbers in
    (λ c. elim (read.0 c) [ inl d ↦ inl d | inr r ↦ inr (lifts, r) ], λ either. read.1 (elim either [ inl d ↦ inl d | inr both ↦ inr both.1 ]))

-- what is read are numbers below the count
pub reads_within : (es : List Elem) (count : ℕ) (places numbers : List ℕ) → HaveIndividuals es places count numbers → All (λ n. n < count) numbers
reads_within es count [] [] r = All-nil (λ n. n < count)
reads_within es count [] (n ∷ ns) r = absurd r
reads_within es count (p ∷ ps) [] r = absurd r
reads_within es count (p ∷ ps) (n ∷ ns) r = All-cons (λ n. n < count) n ns r.0.1 (reads_within es count ps ns r.1)

pub added_within : (es : List Elem) (count : ℕ) (places key : List ℕ) (old new : List (List ℕ)) → AddsKey old key new → HaveIndividuals es places count key → AreWithin count old → AreWithin count new
added_within es count places key old new adds reads within k d below = elim ((adds (get_or new k d)).0 (Contains-get_or new k d below)) [
  | inl was ↦ All-contains (All (λ n. n < count)) old (get_or new k d) within was
  | inr is ↦ subst (All (λ n. n < count)) (sym is) (reads_within es count places key reads)
]

-- what is read is told by the images up to the last of the places
pub reads_along : (levels : List ℕ) (n : ℕ) (images others : List Elem) (count : ℕ) (places numbers : List ℕ) → AgreeUpTo levels n images others → All (λ p. p < length levels) places → All (λ p. slice_index levels p < n) places
    → HaveIndividuals images places count numbers → HaveIndividuals others places count numbers
reads_along levels n images others count places numbers agree within first reads =
    along places numbers (recursion_from_All (λ (p : ℕ). p < length levels) places within) (recursion_from_All (λ (p : ℕ). slice_index levels p < n) places first) reads
  where
    along : (places numbers : List ℕ) → AllByRecursion (λ (p : ℕ). p < length levels) places → AllByRecursion (λ (p : ℕ). slice_index levels p < n) places → HaveIndividuals images places count numbers → HaveIndividuals others places count numbers
    along [] [] within first reads = reads
    along [] (m ∷ ms) within first reads = absurd reads
    along (p ∷ ps) [] within first reads = absurd reads
    along (p ∷ ps) (m ∷ ms) within first reads =
        let same : slice_get images p ≡ slice_get others p = agree p (get_or levels p 0) (slice_get-get_or levels p 0 within.0) first.0 in
        ((sym same ∙ reads.0.0, reads.0.1), along ps ms within.1 first.1 reads.1)
