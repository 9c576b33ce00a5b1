-- Names of a book and of the newcomers behind it.
use Rattle.std.proofs.Common.{◌≡◌, ◌≢◌, ◌⊎◌, ◌<◌, ◌+◌, inl, inr, ℕ, List, [], ◌∷◌, ◌++◌, AllPairs, Contains, Some, get_or, length, take, slice_get, sym, ◌∙◌, ap, subst, arith, length-append}
use Rattle.std.proofs.lemmas.List.{append_assoc, get_or-append-add, get_or_append_left, get_or-take, get_or_default, length-take-le, take_more}
use Rattle.std.proofs.lemmas.List.Elements.{Contains-append_cases, Contains-append_right}
use Rattle.std.proofs.lemmas.List.Quantifiers.{all_pairs_push}
use Rattle.std.proofs.lemmas.Option.{get_or_from_slice_get, slice_get-get_or, slice_get_within}
use Rattle.dl_base.specs.Book.{Interns}
use Rattle.dl_base.specs.Rows.{name_cmp}
use Rattle.dl_base.proofs.RowLemmas.{name_same, name_total}
use Rattle.row_changes.proofs.Members.{member_or_not}

has_name : (names : List (List ℕ)) (name : List ℕ) → Contains names name ⊎ (Contains names name → ⊥)
has_name = member_or_not name_cmp name_total name_same

-- a place behind a book
pub place_behind : (book new : List (List ℕ)) (k : ℕ) (x : List ℕ) → slice_get new k ≡ Some x → slice_get (book ++ new) (length book + k) ≡ Some x
place_behind book new k x at =
    let below : length book + k < length (book ++ new) = omega (arith, slice_get_within new k x at, length-append book new) in
    slice_get-get_or (book ++ new) (length book + k) x below ∙ ap Some (get_or-append-add book new k x ∙ get_or_from_slice_get new k x x at)

-- no name in either
pub in_neither : (book new : List (List ℕ)) (x : List ℕ) → (Contains book x → ⊥) → (Contains new x → ⊥) → Contains (book ++ new) x → ⊥
in_neither book new x not_book not_new c = elim (Contains-append_cases book new x c) [ inl b ↦ not_book b | inr n ↦ not_new n ]

-- a name that the book lacks
pub interns_behind : (book old new : List (List ℕ)) (name : List ℕ) (k : ℕ) → (Contains book name → ⊥) → Interns old name new k → Interns (book ++ old) name (book ++ new) (length book + k)
interns_behind book old new name k not_book interns = record {
  there = place_behind book new k name interns.there;
  known = λ c. elim (Contains-append_cases book old name c) [ inl b ↦ absurd (not_book b) | inr o ↦ ap (λ (xs : List (List ℕ)). book ++ xs) (interns.known o) ];
  added = λ absent. ap (λ (xs : List (List ℕ)). book ++ xs) (interns.added (λ o. absent (Contains-append_right book old name o))) ∙ sym (append_assoc book old (name ∷ []));
}

-- distinct names stay so
pub interned_distinct : (old new : List (List ℕ)) (name : List ℕ) (k : ℕ) → AllPairs (λ x y. x ≢ y) old → Interns old name new k → AllPairs (λ x y. x ≢ y) new
interned_distinct old new name k distinct interns = elim (has_name old name) [
  | inl c ↦ subst (AllPairs (λ x y. x ≢ y)) (sym (interns.known c)) distinct
  | inr absent ↦ subst (AllPairs (λ x y. x ≢ y)) (sym (interns.added absent))
      (all_pairs_push (λ x y. x ≢ y) old name distinct (λ i d below e. absent (i, below, get_or_default old i name d below ∙ e)))
]

-- ---- the newcomers, one after the other

not_among : (book new : List (List ℕ)) (i : ℕ) (name : List ℕ) → AllPairs (λ x y. x ≢ y) (book ++ new) → slice_get new i ≡ Some name → Contains (book ++ take i new) name → ⊥
not_among book new i name distinct at c = elim (Contains-append_cases book (take i new) name c) [
  | inl b ↦ distinct b.0 (length book + i) name (let below = b.1 in omega (arith, below)) inside (get_or_append_left book new name b.0 b.1 ∙ (b.2 ∙ sym here))
  | inr t ↦ distinct (length book + t.0) (length book + i) name (let below = t.1 in omega (arith, below, short)) inside
      (get_or-append-add book new t.0 name ∙ (sym (get_or-take i new t.0 name (let below = t.1 in omega (arith, below, short))) ∙ (t.2 ∙ sym here)))
]
  where
    within : i < length new
    within = slice_get_within new i name at

    short : length (take i new) ≡ i
    short = length-take-le i new (omega (arith, within))

    inside : length book + i < length (book ++ new)
    inside = omega (arith, within, length-append book new)

    here : get_or (book ++ new) (length book + i) name ≡ name
    here = get_or-append-add book new i name ∙ get_or_from_slice_get new i name name at

pub newcomer_taken : (book new mid now : List (List ℕ)) (i : ℕ) (name : List ℕ) (id : ℕ) → AllPairs (λ x y. x ≢ y) (book ++ new) → slice_get new i ≡ Some name → mid ≡ book ++ take i new → Interns mid name now id
    → now ≡ book ++ take (i + 1) new
newcomer_taken book new mid now i name id distinct at is interns =
    let absent : Contains mid name → ⊥ = λ c. not_among book new i name distinct at (subst (λ (xs : List (List ℕ)). Contains xs name) is c) in
    let more : take (i + 1) new ≡ take i new ++ name ∷ [] = take_more new i name (slice_get_within new i name at) ∙ ap (λ (x : List ℕ). take i new ++ x ∷ []) (get_or_from_slice_get new i name name at) in
    interns.added absent ∙ (ap (λ (xs : List (List ℕ)). xs ++ name ∷ []) is ∙ (append_assoc book (take i new) (name ∷ []) ∙ ap (λ (xs : List (List ℕ)). book ++ xs) (sym more)))
