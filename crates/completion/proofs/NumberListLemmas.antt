-- Lists of numbers that grow side by side.
use Rattle.std.proofs.Common.{◌≡◌, ℕ, ◌+◌, ◌*◌, ◌<◌, ◌≤◌, ◌⊎◌, ◌↔◌, inl, inr, false, true, List, [], ◌∷◌, ◌++◌, length, get_or, set, slice_get, All, Contains, Some, refl, sym, ◌∙◌, subst, arith}
use Rattle.std.specs.List.Sorted.{IsStrictlySortedBy}
use Rattle.std.specs.Map.{keys_of}
use Rattle.std.specs.Ordering.{nat_cmp}
use Rattle.std.proofs.lemmas.Bool.{cases_eq}
use Rattle.std.proofs.lemmas.List.{get_or_past, get_or-set_other, get_or-set_same, length-set, length_push}
use Rattle.std.proofs.lemmas.Option.{slice_get_within, slice_get-get_or}
use Rattle.role_graph.proofs.ClashLemmas.{nat_less}
use Rattle.dl_base.specs.declared.concept.Basic.TheVariants as basic
use Rattle.dl_base.specs.declared.concept.Role.{Role}
use Rattle.dl_base.proofs.PlaceLemmas.{last_place, place_stays, some_same}
use Rattle.completion.specs.Gathered.{IsFoundWith, role_by_place}
use Rattle.completion.specs.Numbers.{AreAddedToEach, AreNumberLists, AreNumbersWith, AreOfRole, AreRoleProperties, IsAddedTo, IsTakenFrom}
use Rattle.completion.specs.declared.gather.Property.{Property}
use Rattle.completion.specs.declared.gather.Property.TheVariants.{Derived, Pointing}
use Rattle.completion.specs.declared.individuals.AtIndividual.{AtIndividual}
use Rattle.completion.proofs.OrderLemmas.{nat_less as less_nat}
use Rattle.completion.proofs.ChoiceLemmas.{ChosenUpTo, before_next, chosen_all, chosen_more, chosen_none, chosen_past, rises_push}

-- a number above all others keeps the order
pub rises_above : (numbers : List ℕ) (n : ℕ) → IsStrictlySortedBy nat_cmp numbers → ((m : ℕ) → Contains numbers m → m < n) → IsStrictlySortedBy nat_cmp (numbers ++ n ∷ [])
rises_above numbers n rises above = rises_push nat_cmp numbers n rises (λ m c. nat_less m n (above m c))

pub none_rises : IsStrictlySortedBy nat_cmp []
unfolding IsStrictlySortedBy
none_rises = tt

below_or_not : (n m : ℕ) → (n < m) ⊎ (m ≤ n)
below_or_not n m = grind arith

-- ---- one individual, list by list

-- the lists before this place have the number where it belongs, and the others are as before
pub record AreAddedBelow (n : ℕ) (x : AtIndividual) (properties : List Property) (old new : List (List ℕ)) (place : ℕ) : Type 0 where
  pub all : length new ≡ length old
  pub done : (i : ℕ) (p : Property) → i < place → slice_get properties i ≡ Some p → IsAddedTo n x p (get_or old i []) (get_or new i [])
  pub left : (i : ℕ) → place ≤ i → get_or new i [] ≡ get_or old i []

pub added_none : (n : ℕ) (x : AtIndividual) (properties : List Property) (old : List (List ℕ)) → AreAddedBelow n x properties old old 0
added_none n x properties old = record { all = refl; done = λ i p below. absurd (omega (arith, below)); left = λ i past. refl }

-- whatever stands for what isn't there
pub any_default : {X : Type 0} (xs : List X) (i : ℕ) (d e : X) → i < length xs → get_or xs i d ≡ get_or xs i e
any_default xs i d e below = some_same (sym (slice_get-get_or xs i d below) ∙ slice_get-get_or xs i e below)

pub added_more : (n : ℕ) (x : AtIndividual) (properties : List Property) (old mid : List (List ℕ)) (place : ℕ) (e : Property) (d list new : List ℕ)
    → place < length properties → place < length old → list ≡ get_or mid place d → IsAddedTo n x (get_or properties place e) list new
    → AreAddedBelow n x properties old mid place → AreAddedBelow n x properties old (set mid place new) (place + 1)
added_more n x properties old mid place e d list new inside within is added far = record {
  all = length-set mid place new ∙ far.all;
  done = λ i p below has. elim (cases_eq i place) [
    | inl same ↦ subst (λ (k : ℕ). IsAddedTo n x p (get_or old k []) (get_or (set mid place new) k [])) (sym same) (here p (subst (λ (k : ℕ). slice_get properties k ≡ Some p) same has))
    | inr other ↦ subst (IsAddedTo n x p (get_or old i [])) (sym (get_or-set_other mid place i new [] other)) (far.done i p (omega (arith, below, other)) has)
  ];
  left = λ i past. get_or-set_other mid place i new [] (λ e. omega (arith, past, e)) ∙ far.left i (omega (arith, past));
}
  where
    q : Property
    q = get_or properties place e

    at : slice_get properties place ≡ Some q
    at = slice_get-get_or properties place e inside

    same_one : (p : Property) → slice_get properties place ≡ Some p → q ≡ p
    same_one p has = some_same (sym at ∙ has)

    now : get_or (set mid place new) place [] ≡ new
    now = let many = far.all in get_or-set_same mid place new [] (omega (arith, within, many))

    before : list ≡ get_or old place []
    before = is ∙ (any_default mid place d [] (let many = far.all in omega (arith, within, many)) ∙ far.left place (omega arith))

    here : (p : Property) → slice_get properties place ≡ Some p → IsAddedTo n x p (get_or old place []) (get_or (set mid place new) place [])
    here p has = subst (λ (r : Property). IsAddedTo n x r (get_or old place []) (get_or (set mid place new) place [])) (same_one p has)
        (subst (λ (xs : List ℕ). IsAddedTo n x q xs (get_or (set mid place new) place [])) before (subst (IsAddedTo n x q list) (sym now) added))

pub added_all : (n : ℕ) (x : AtIndividual) (properties : List Property) (old new : List (List ℕ)) (place : ℕ) → length properties ≤ place → AreAddedBelow n x properties old new place → AreAddedToEach n x properties old new
added_all n x properties old new place whole far = record {
  all = far.all;
  each = λ i p has. far.done i p (let below = slice_get_within properties i p has in omega (arith, below, whole)) has;
}

-- ---- individual after individual

-- each list has the numbers of the entries that have the property at its place
pub record AreChosenUpTo (properties : List Property) (es : List (ℕ × AtIndividual)) (lists : List (List ℕ)) : Type 0 where
  pub all : length lists ≡ length properties
  pub each : (i : ℕ) (p : Property) → slice_get properties i ≡ Some p → ChosenUpTo p es (get_or lists i [])

pub all_none : (properties : List Property) (lists : List (List ℕ)) → length lists ≡ length properties → All (λ (l : List ℕ). l ≡ []) lists → AreChosenUpTo properties [] lists
all_none properties lists all empty = record {
  all = all;
  each = λ i p has. subst (ChosenUpTo p []) (sym (empty i [] (let below = slice_get_within properties i p has in omega (arith, below, all)))) (chosen_none p);
}

module _ (properties : List Property) (es rest : List (ℕ × AtIndividual)) (n : ℕ) (x : AtIndividual) (rises : IsStrictlySortedBy nat_cmp (keys_of (es ++ (n, x) ∷ rest))) (lists : List (List ℕ)) (far : AreChosenUpTo properties es lists) where
  -- the next number is above all that stand in a list
  pub above_all : (i m : ℕ) → Contains (get_or lists i []) m → m < n
  above_all i m c = elim (below_or_not i (length properties)) [
    | inl below ↦ (
        let found = ((far.each i (get_or properties i default_property) (slice_get-get_or properties i default_property below)).each m).0 c in
        less_nat m n (before_next es n x rest rises m found.0 found.1)
        )
    | inr past ↦ absurd (let many = far.all in let empty : get_or lists i [] ≡ [] = get_or_past lists i [] (omega (arith, many, past)) in nobody (subst (λ (xs : List ℕ). Contains xs m) empty c))
  ]
    where
      default_property : Property
      default_property = Pointing (record { name = 0; inverse = false })

      nobody : Contains [] m → ⊥
      nobody d = omega (arith, d.1)

  pub all_more : (new : List (List ℕ)) → AreAddedToEach n x properties lists new → AreChosenUpTo properties (es ++ (n, x) ∷ []) new
  all_more new added = record {
    all = added.all ∙ far.all;
    each = λ i p has. by i p has (added.each i p has);
  }
    where
      by : (i : ℕ) (p : Property) → slice_get properties i ≡ Some p → IsAddedTo n x p (get_or lists i []) (get_or new i []) → ChosenUpTo p (es ++ (n, x) ∷ []) (get_or new i [])
      by i p has (inl (had, is)) = subst (ChosenUpTo p (es ++ (n, x) ∷ [])) (sym is) (chosen_more p es rest (get_or lists i []) n x rises (far.each i p has) had)
      by i p has (inr (past, is)) = subst (ChosenUpTo p (es ++ (n, x) ∷ [])) (sym is) (chosen_past p es rest (get_or lists i []) n x rises (far.each i p has) past)

-- and so of all entries
pub lists_all : (properties : List Property) (es : List (ℕ × AtIndividual)) (lists : List (List ℕ)) → IsStrictlySortedBy nat_cmp (keys_of es) → AreChosenUpTo properties es lists → AreNumberLists es properties 0 lists
lists_all properties es lists rises far = record { all = far.all; each = λ i p from has. chosen_all p es (get_or lists i []) rises (far.each i p has) }

-- ---- a list that is taken

-- from the next place on the lists are as they were
pub lists_left : (es : List (ℕ × AtIndividual)) (properties : List Property) (place : ℕ) (old new : List (List ℕ)) (list : List ℕ) → IsTakenFrom place old list new → AreNumberLists es properties place old → AreNumberLists es properties (place + 1) new
lists_left es properties place old new list taken are = record {
  all = taken.all ∙ are.all;
  each = λ i p from has n. subst (λ (xs : List ℕ). Contains xs n ↔ IsFoundWith es p n) (sym (taken.others i (λ e. omega (arith, from, e)))) (are.each i p (omega (arith, from)) has n);
}

pub list_taken : (es : List (ℕ × AtIndividual)) (properties : List Property) (place : ℕ) (p : Property) (old new : List (List ℕ)) (list : List ℕ) → IsTakenFrom place old list new → AreNumberLists es properties place old
    → slice_get properties place ≡ Some p → AreNumbersWith es p list
list_taken es properties place p old new list taken are has n = subst (λ (xs : List ℕ). Contains xs n ↔ IsFoundWith es p n) (sym taken.taken) (are.each place p (omega arith) has n)

-- two lists that are taken one behind the other
pub two_left : (es : List (ℕ × AtIndividual)) (properties : List Property) (place : ℕ) (old mid new : List (List ℕ)) (first second : List ℕ) → IsTakenFrom place old first mid → IsTakenFrom (place + 1) mid second new
    → AreNumberLists es properties place old → AreNumberLists es properties (place + 2) new
two_left es properties place old mid new first second one two are =
    let more = lists_left es properties (place + 1) mid new second two (lists_left es properties place old mid first one are) in
    subst (λ (from : ℕ). AreNumberLists es properties from new) (omega arith) more

-- ---- the properties of roles

last_one : (xs : List Property) (x : Property) (k : ℕ) → k ≡ length xs → slice_get (xs ++ x ∷ []) k ≡ Some x
last_one xs x k e = subst (λ (n : ℕ). slice_get (xs ++ x ∷ []) n ≡ Some x) (sym e) (last_place xs x)

abbrev pub four : ℕ → List Property → List Property
four n ps = (((ps ++ Derived (basic.Exists (role_by_place n false)) ∷ []) ++ Pointing (role_by_place n false) ∷ []) ++ Derived (basic.Exists (role_by_place n true)) ∷ []) ++ Pointing (role_by_place n true) ∷ []

pub roles_more : (n : ℕ) (ps : List Property) → AreRoleProperties n ps → AreRoleProperties (n + 1) (four n ps)
roles_more n ps are = record {
  all = let many = are.all in let e = length_push ps a in let f = length_push one b in let g = length_push two c in let h = length_push three d in omega (arith, many, e, f, g, h);
  direct = λ p below. elim (cases_eq p n) [
    | inl same ↦ subst (λ (q : ℕ). AreOfRole (four n ps) (4 * q) (role_by_place q false)) (sym same) here
    | inr other ↦ more (4 * p) (role_by_place p false) (are.direct p (omega (arith, below, other)))
  ];
  inverse = λ p below. elim (cases_eq p n) [
    | inl same ↦ subst (λ (q : ℕ). AreOfRole (four n ps) (4 * q + 2) (role_by_place q true)) (sym same) behind
    | inr other ↦ more (4 * p + 2) (role_by_place p true) (are.inverse p (omega (arith, below, other)))
  ];
}
  where
    a : Property
    a = Derived (basic.Exists (role_by_place n false))

    b : Property
    b = Pointing (role_by_place n false)

    c : Property
    c = Derived (basic.Exists (role_by_place n true))

    d : Property
    d = Pointing (role_by_place n true)

    one : List Property
    one = ps ++ a ∷ []

    two : List Property
    two = one ++ b ∷ []

    three : List Property
    three = two ++ c ∷ []

    keep : (k : ℕ) (x : Property) → slice_get ps k ≡ Some x → slice_get (four n ps) k ≡ Some x
    keep k x at = place_stays three (d ∷ []) k x (place_stays two (c ∷ []) k x (place_stays one (b ∷ []) k x (place_stays ps (a ∷ []) k x at)))

    more : (k : ℕ) (r : Role) → AreOfRole ps k r → AreOfRole (four n ps) k r
    more k r there = record { leads = keep k (Derived (basic.Exists r)) there.leads; points = keep (k + 1) (Pointing r) there.points }

    here : AreOfRole (four n ps) (4 * n) (role_by_place n false)
    here = record {
      leads = let many = are.all in place_stays three (d ∷ []) (4 * n) a (place_stays two (c ∷ []) (4 * n) a (place_stays one (b ∷ []) (4 * n) a (last_one ps a (4 * n) (omega (arith, many)))));
      points = let many = are.all in let e = length_push ps a in place_stays three (d ∷ []) (4 * n + 1) b (place_stays two (c ∷ []) (4 * n + 1) b (last_one one b (4 * n + 1) (omega (arith, many, e))));
    }

    behind : AreOfRole (four n ps) (4 * n + 2) (role_by_place n true)
    behind = record {
      leads = let many = are.all in let e = length_push ps a in let f = length_push one b in place_stays three (d ∷ []) (4 * n + 2) c (last_one two c (4 * n + 2) (omega (arith, many, e, f)));
      points = let many = are.all in let e = length_push ps a in let f = length_push one b in let g = length_push two c in last_one three d (4 * n + 2 + 1) (omega (arith, many, e, f, g));
    }
