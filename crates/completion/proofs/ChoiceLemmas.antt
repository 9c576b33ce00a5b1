-- Numbers and witnesses that are chosen one after another.
use Rattle.std.proofs.Common.{◌≡◌, ℕ, ◌+◌, ◌<◌, ◌⊎◌, ◌↔◌, inl, inr, true, false, List, [], ◌∷◌, ◌++◌, map, Contains, refl, sym, ◌∙◌, ap, subst, arith}
use Rattle.std.specs.BTreeMap.{is_at}
use Rattle.std.specs.List.{AllByRecursion}
use Rattle.std.specs.List.Sorted.{IsStrictlySortedBy}
use Rattle.std.specs.Map.{keys_of}
use Rattle.std.specs.declared.cmp.Ordering.{Ordering}
use Rattle.std.specs.declared.cmp.Ordering.TheVariants.{Less, Equal, Greater}
use Rattle.std.specs.Ordering.{nat_cmp, is_eq}
use Rattle.std.proofs.lemmas.Bool.{cases_eq}
use Rattle.std.proofs.lemmas.Cmp.{nat_cmp_total}
use Rattle.std.proofs.lemmas.List.Elements.{Contains-append_left, Contains-push}
use Rattle.std.proofs.lemmas.Map.Keys.{IsDistinct-from_sorted}
use Rattle.std.proofs.lemmas.Map.Views.{Contains-from_lookup, lookup-from_Contains}
use Rattle.std.specs.Cmp.{eq_by_cmp_equiv}
use Rattle.dl_base.specs.Sets.{HasRole}
use Rattle.dl_base.specs.Ontology.{Terminology}
use Rattle.dl_base.specs.declared.concept.Role.{Role}
use Rattle.dl_base.specs.declared.element.Witness.{Witness}
use Rattle.dl_base.proofs.RisingLemmas.{contains_cases, contains_first, contains_later, nat_same}
use Rattle.dl_base.proofs.RowLemmas.{contains_cut}
use Rattle.dl_base.proofs.RoleLemmas.{direct_or_inverse}
use Rattle.witness_book.specs.Witnesses.{Witnesses, current_witness, generation_of}
use Rattle.completion.specs.Gathered.{AreLiveWithin, IsFoundWith, IsHad, IsHadBehind, IsWitnessWith, role_by_place}
use Rattle.completion.specs.declared.gather.Property.{Property}
use Rattle.completion.specs.declared.individuals.AtIndividual.{AtIndividual}

-- ---- a rising list stays so behind a greater item

all_push : {X : Type 0} (P : X → Type 0) (xs : List X) (y : X) → AllByRecursion P xs → P y → AllByRecursion P (xs ++ y ∷ [])
all_push P [] y all p = (p, tt)
all_push P (x ∷ xs) y all p = (all.0, all_push P xs y all.1 p)

pub rises_push : {X : Type 0} (cmp : X → X → Ordering) (xs : List X) (y : X) → IsStrictlySortedBy cmp xs → ((x : X) → Contains xs x → cmp x y ≡ Less) → IsStrictlySortedBy cmp (xs ++ y ∷ [])
unfolding IsStrictlySortedBy
rises_push cmp [] y rises below = (tt, tt)
rises_push cmp (x ∷ xs) y rises below =
    (all_push (λ z. cmp x z ≡ Less) xs y rises.0 (below x (contains_first x xs)), rises_push cmp xs y rises.1 (λ z c. below z (contains_later x xs z c)))

-- ---- entries in the order of their numbers

pub before_next : (es : List (ℕ × AtIndividual)) (n : ℕ) (x : AtIndividual) (rest : List (ℕ × AtIndividual)) → IsStrictlySortedBy nat_cmp (keys_of (es ++ (n, x) ∷ rest)) → (m : ℕ) (y : AtIndividual) → Contains es (m, y) → nat_cmp m n ≡ Less
unfolding IsStrictlySortedBy
before_next [] n x rest rises m y c = absurd (omega (arith, c.1))
before_next (e ∷ es) n x rest rises m y c = elim (contains_cases e es (m, y) c) [
  | inl is ↦ subst (λ (k : ℕ). nat_cmp k n ≡ Less) (sym (ap (λ (f : ℕ × AtIndividual). f.0) is)) (all_middle es rises.0)
  | inr later ↦ before_next es n x rest rises.1 m y later
]
  where
    all_middle : (fs : List (ℕ × AtIndividual)) → AllByRecursion (λ k. nat_cmp e.0 k ≡ Less) (keys_of (fs ++ (n, x) ∷ rest)) → nat_cmp e.0 n ≡ Less
    all_middle [] all = all.0
    all_middle (f ∷ fs) all = all_middle fs all.1

-- these are the numbers of the entries that have the property
pub record ChosenUpTo (p : Property) (es : List (ℕ × AtIndividual)) (numbers : List ℕ) : Type 0 where
  pub rises : IsStrictlySortedBy nat_cmp numbers
  pub each : (n : ℕ) → Contains numbers n ↔ ((x : AtIndividual) × Contains es (n, x) × IsHad p x)

pub chosen_none : (p : Property) → ChosenUpTo p [] []
unfolding IsStrictlySortedBy
chosen_none p = record { rises = tt; each = λ n. (λ c. absurd (omega (arith, c.1)), λ h. absurd (omega (arith, h.1.1))) }

module _ (p : Property) (es rest : List (ℕ × AtIndividual)) (numbers : List ℕ) (n : ℕ) (x : AtIndividual) (rises : IsStrictlySortedBy nat_cmp (keys_of (es ++ (n, x) ∷ rest))) (far : ChosenUpTo p es numbers) where
  pub chosen_more : IsHad p x → ChosenUpTo p (es ++ (n, x) ∷ []) (numbers ++ n ∷ [])
  chosen_more had = record {
    rises = rises_push nat_cmp numbers n far.rises (λ m c. (let found = (far.each m).0 c in before_next es n x rest rises m found.0 found.1));
    each = λ m. (
      λ c. elim (contains_cut numbers n m c) [
        | inl same ↦ (x, subst (λ (k : ℕ). Contains (es ++ (n, x) ∷ []) (k, x)) (sym same) (Contains-push es (n, x)), had)
        | inr before ↦ (let found = (far.each m).0 before in (found.0, Contains-append_left es ((n, x) ∷ []) (m, found.0) found.1, found.2))
      ],
      λ h. elim (contains_cut es (n, x) (m, h.0) h.1) [
        | inl same ↦ subst (Contains (numbers ++ n ∷ [])) (sym (ap (λ (e : ℕ × AtIndividual). e.0) same)) (Contains-push numbers n)
        | inr before ↦ Contains-append_left numbers (n ∷ []) m ((far.each m).1 (h.0, before, h.2))
      ],
    );
  }

  pub chosen_past : (IsHad p x → ⊥) → ChosenUpTo p (es ++ (n, x) ∷ []) numbers
  chosen_past not_had = record {
    rises = far.rises;
    each = λ m. (
      λ c. (let found = (far.each m).0 c in (found.0, Contains-append_left es ((n, x) ∷ []) (m, found.0) found.1, found.2)),
      λ h. elim (contains_cut es (n, x) (m, h.0) h.1) [
        | inl same ↦ absurd (not_had (subst (IsHad p) (ap (λ (e : ℕ × AtIndividual). e.1) same) h.2))
        | inr before ↦ (far.each m).1 (h.0, before, h.2)
      ],
    );
  }

same_at : (n m : ℕ) → is_at (nat_cmp n) m ≡ true → n ≡ m
same_at n m h = by (nat_cmp n m) refl h
  where
    by : (r : Ordering) → nat_cmp n m ≡ r → is_eq r ≡ true → n ≡ m
    by Less e f = absurd cc
    by Equal e f = nat_same n m e
    by Greater e f = absurd cc

pub chosen_all : (p : Property) (es : List (ℕ × AtIndividual)) (numbers : List ℕ) → IsStrictlySortedBy nat_cmp (keys_of es) → ChosenUpTo p es numbers → (n : ℕ) → Contains numbers n ↔ IsFoundWith es p n
chosen_all p es numbers rises far n = (
  λ c. (let found = (far.each n).0 c in (found.0, lookup-from_Contains (eq_by_cmp_equiv nat_cmp_total) n found.0 es (IsDistinct-from_sorted nat_cmp (keys_of es) rises) found.1, found.2)),
  λ h. (far.each n).1 (h.0, Contains-from_lookup same_at n h.0 es h.1, h.2),
)

-- ---- witnesses

module _ (o : Terminology) (b : Witnesses) (p : Property) where
  pub pushed_with : (s : Role) (old new : List Witness) (w : Witness) → HasRole b.live s → w ≡ current_witness b s → IsHadBehind o p s → new ≡ old ++ w ∷ []
      → (v : Witness) → Contains new v ↔ (((v.role ≡ s) × IsWitnessWith o b p v) ⊎ Contains old v)
  pushed_with s old new w live is behind push v = (into, out)
    where
      current : IsWitnessWith o b p (current_witness b s)
      current = record { current = record { live = live; generation = refl }; behind = behind }

      into : Contains new v → ((v.role ≡ s) × IsWitnessWith o b p v) ⊎ Contains old v
      into c = elim (contains_cut old w v (subst (λ (ws : List Witness). Contains ws v) push c)) [
        | inl same ↦ (let whole : v ≡ current_witness b s = same ∙ is in inl (ap (λ (u : Witness). u.role) whole, subst (IsWitnessWith o b p) (sym whole) current))
        | inr before ↦ inr before
      ]

      out : ((v.role ≡ s) × IsWitnessWith o b p v) ⊎ Contains old v → Contains new v
      out (inl (role, with_it)) =
          let generation : v.generation ≡ generation_of b s = with_it.current.generation ∙ ap (generation_of b) role in
          let whole : v ≡ current_witness b s = λ j. record { role = role j; generation = generation j } in
          subst (λ (ws : List Witness). Contains ws v) (sym push) (subst (Contains (old ++ w ∷ [])) (is ∙ sym whole) (Contains-push old w))
      out (inr before) = subst (λ (ws : List Witness). Contains ws v) (sym push) (Contains-append_left old (w ∷ []) v before)

  -- these are the current witnesses of roles of the first so many names
  pub record ChosenBelow (names : ℕ) (ws : List Witness) : Type 0 where
    pub each : (w : Witness) → Contains ws w ↔ ((w.role.name < names) × IsWitnessWith o b p w)

  pub below_none : ChosenBelow 0 []
  below_none = record { each = λ w. (λ c. absurd (omega (arith, c.1)), λ h. absurd (omega (arith, h.0))) }

  pub below_more : (name : ℕ) (ws half new : List Witness)
      → ((w : Witness) → Contains half w ↔ (((w.role ≡ role_by_place name false) × IsWitnessWith o b p w) ⊎ Contains ws w))
      → ((w : Witness) → Contains new w ↔ (((w.role ≡ role_by_place name true) × IsWitnessWith o b p w) ⊎ Contains half w))
      → ChosenBelow name ws → ChosenBelow (name + 1) new
  below_more name ws half new first second far = record { each = λ w. (into w, out w) }
    where
      into : (w : Witness) → Contains new w → (w.role.name < name + 1) × IsWitnessWith o b p w
      into w c = elim ((second w).0 c) [
        | inl here ↦ (let same : w.role.name ≡ name = ap (λ (r : Role). r.name) here.0 in omega arith, here.1)
        | inr before ↦ elim ((first w).0 before) [
          | inl here ↦ (let same : w.role.name ≡ name = ap (λ (r : Role). r.name) here.0 in omega arith, here.1)
          | inr earlier ↦ (let h = (far.each w).0 earlier in (let low = h.0 in omega (arith, low), h.1))
        ]
      ]

      out : (w : Witness) → (w.role.name < name + 1) × IsWitnessWith o b p w → Contains new w
      out w h = elim (cases_eq w.role.name name) [
        | inl same ↦ elim (direct_or_inverse w.role name same) [
          | inl direct ↦ (second w).1 (inr ((first w).1 (inl (direct, h.1))))
          | inr inverse ↦ (second w).1 (inl (inverse, h.1))
        ]
        | inr other ↦ (second w).1 (inr ((first w).1 (inr ((far.each w).1 (let low = h.0 in omega (arith, low, other), h.1)))))
      ]

  pub below_all : (names : ℕ) (ws : List Witness) → AreLiveWithin names b → ChosenBelow names ws → (w : Witness) → Contains ws w ↔ IsWitnessWith o b p w
  below_all names ws within far w = (λ c. ((far.each w).0 c).1, λ h. (far.each w).1 (within w.role h.current.live, h))

pub map_push : {X Y : Type 0} (f : X → Y) (xs : List X) (x : X) → map f (xs ++ x ∷ []) ≡ map f xs ++ f x ∷ []
map_push f [] x = refl
map_push f (y ∷ ys) x = ap (λ zs. f y ∷ zs) (map_push f ys x)
