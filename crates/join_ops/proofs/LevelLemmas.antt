-- How a search goes from level to level.
use Rattle.std.proofs.Common.{◌≡◌, ◌≤◌, ◌<◌, ℕ, zero, suc, ◌⊎◌, inl, inr, Bool, true, false, not, List, [], ◌∷◌, ◌++◌, Option, Some, None, length, take, map, Contains, slice_get, refl, sym, ap, ◌∙◌, subst, arith, append_assoc}
use Rattle.std.proofs.lemmas.List.{length-map, length-take-le}
use Rattle.std.proofs.lemmas.List.Elements.{All-contains}
use Rattle.std.proofs.lemmas.Option.{slice_get-map, slice_get_within}
use Rattle.std.specs.Option.{option_map}
use Rattle.std.specs.declared.cmp.Ordering.TheVariants.{Greater}
use Rattle.dl_base.specs.declared.concept.Role.{Role}
use Rattle.dl_base.specs.Tables.{TableRow, turned_row, IsAbove, IsLeastAbove, IsWitnessOf, elem_cmp}
use Rattle.dl_base.specs.declared.element.Elem.{Elem}
use Rattle.dl_base.specs.declared.element.Elem.TheVariants as elem
use Rattle.dl_base.proofs.PlaceLemmas.{member_at, place_stays, some_same, something_at}
use Rattle.query_shape.specs.Shape.{HoldsAt, IsBelow, IsTermOf}
use Rattle.query_shape.specs.declared.layout.ShapeAtom.{ShapeAtom}
use Rattle.query_shape.specs.declared.layout.ShapeAtom.TheVariants as shape
use Rattle.join_ops.specs.Joins.{SearchPlace, Start, Behind, Past, IsFound, IsBehindPlace}
use Rattle.join_ops.specs.Conditions.{AreTwins, IsLevelOf, IsUnder, Meets}
use Rattle.join_ops.specs.Levels.{fixed_of, fixed_on, Offers, EdgeLeadsTo, HoldsByOffer, IsAlong, IsTwinBy, IsFromFront, Serves, IsSource, IsTermLevel, AreLevels, Fits, IsBeyond, IsFoundFront, IsAtFront, IsLeast}
use Rattle.join_ops.specs.declared.condition.Condition.{Condition}
use Rattle.join_ops.specs.declared.condition.Condition.TheVariants as condition
use Rattle.join_ops.specs.declared.condition.Twins.{Twins}
use Rattle.join_ops.specs.declared.level.Level.{Level}
use Rattle.join_ops.specs.declared.source.Edge.{Edge}
use Rattle.join_ops.specs.declared.source.Source.{Source}
use Rattle.join_ops.specs.declared.source.Source.TheVariants as source
use Rattle.join_ops.proofs.Beyond.{deeper_beyond, deeper_within, back_beyond, back_within, last_least, last_beyond, behind_beyond, beyond_behind, beyond_whole, beyond_cut}

-- lists that begin with others
pub get_front : {X : Type 0} (xs ys : List X) (k : ℕ) → k < length xs → slice_get (xs ++ ys) k ≡ slice_get xs k
get_front [] ys k below = absurd (omega arith)
get_front (x ∷ xs) ys zero below = refl
get_front (x ∷ xs) ys (suc k) below = get_front xs ys k (omega arith)

pub get_at : {X : Type 0} (xs : List X) (x : X) (ys : List X) → slice_get (xs ++ x ∷ ys) (length xs) ≡ Some x
get_at [] x ys = refl
get_at (y ∷ xs) x ys = get_at xs x ys

pub length_more : {X : Type 0} (xs : List X) (x : X) → length (xs ++ x ∷ []) ≡ suc (length xs)
length_more [] x = refl
length_more (y ∷ xs) x = ap suc (length_more xs x)

length_rest : {X : Type 0} (xs : List X) (x : X) (ys : List X) → length xs < length (xs ++ x ∷ ys)
length_rest [] x ys = omega arith
length_rest (y ∷ xs) x ys = let more = length_rest xs x ys in omega (arith, more)

taken_front : {X : Type 0} (xs : List X) (x : X) (ys : List X) → take (suc (length xs)) (xs ++ x ∷ ys) ≡ xs ++ x ∷ []
taken_front [] x ys = refl
taken_front (y ∷ xs) x ys = ap (λ zs. y ∷ zs) (taken_front xs x ys)

pub holds_front : (table : List TableRow) (xs ys : List Elem) (a : ShapeAtom) → IsBelow (length xs) a → HoldsAt table (xs ++ ys) a → HoldsAt table xs a
holds_front table xs ys (shape.Concept c n) below h = (h.0, sym (get_front xs ys n below) ∙ h.1, h.2)
holds_front table xs ys (shape.Role r n m) below h = (h.0, h.1, sym (get_front xs ys n below.0) ∙ h.2, sym (get_front xs ys m below.1) ∙ h.3, h.4)

pub holds_more : (table : List TableRow) (xs ys : List Elem) (a : ShapeAtom) → HoldsAt table xs a → HoldsAt table (xs ++ ys) a
holds_more table xs ys (shape.Concept c n) h = (h.0, place_stays xs ys n h.0 h.1, h.2)
holds_more table xs ys (shape.Role r n m) h = (h.0, h.1, place_stays xs ys n h.0 h.2, place_stays xs ys m h.1 h.3, h.4)

-- what is met by elements in front is met with more behind them, and the other way round
pub met_front : (table : List TableRow) (xs ys : List Elem) (c : Condition) → IsUnder (length xs) c → Meets table (xs ++ ys) c → Meets table xs c
met_front table xs ys (condition.Atom a) under h = holds_front table xs ys a under h
met_front table xs ys (condition.Twins t) under h = record {
  parent = h.parent;
  child = h.child;
  twin = h.twin;
  parent_is = sym (get_front xs ys t.parent under.0) ∙ h.parent_is;
  child_is = sym (get_front xs ys t.child under.1) ∙ h.child_is;
  twin_is = sym (get_front xs ys t.twin under.2) ∙ h.twin_is;
  one = h.one;
}

pub met_more : (table : List TableRow) (xs ys : List Elem) (c : Condition) → IsUnder (length xs) c → Meets table xs c → Meets table (xs ++ ys) c
met_more table xs ys (condition.Atom a) under h = holds_more table xs ys a h
met_more table xs ys (condition.Twins t) under h = record {
  parent = h.parent;
  child = h.child;
  twin = h.twin;
  parent_is = get_front xs ys t.parent under.0 ∙ h.parent_is;
  child_is = get_front xs ys t.child under.1 ∙ h.child_is;
  twin_is = get_front xs ys t.twin under.2 ∙ h.twin_is;
  one = h.one;
}

-- ---- what a source gives

turned_back : (table : List TableRow) (turned : Bool) (p : ℕ) (e f : Elem) → Contains table (turned_row (not turned) p f e) → Contains table (turned_row turned p e f)
turned_back table false p e f c = c
turned_back table true p e f c = c

-- a source that offers nothing but where the edge leads
pub along_leads : (table : List TableRow) (g : Edge) (s : Source) (front : List Elem) (e : Elem) → IsAlong g s → Offers table s front e → EdgeLeadsTo table g front e
along_leads table g s front e (inl is) offered = subst (λ (t : Source). Offers table t front e) is offered
along_leads table g s front e (inr twin) offered = (subst (λ (t : Source). Offers table t front e) twin.1 offered).0

pub gives_back : (s : Source) (r : Role) (n m k : ℕ) → IsAlong (record { role = record { name = r.name; inverse = not r.inverse }; from = m }) s → n ≡ k → HoldsByOffer s k (condition.Atom (shape.Role r n m))
gives_back s r n m k along at table front e long within offered =
    let is = along_leads table (record { role = record { name = r.name; inverse = not r.inverse }; from = m }) s front e along offered in
    (e, is.0, subst (λ (i : ℕ). slice_get (front ++ e ∷ []) i ≡ Some e) (long ∙ sym at) (get_at front e []), place_stays front (e ∷ []) m is.0 is.1, turned_back table r.inverse r.name e is.0 is.2)

pub gives_twins : (s : Source) (t : Twins) (k : ℕ) → IsTwinBy t s → t.twin ≡ k → HoldsByOffer s k (condition.Twins t)
gives_twins s t k by at table front e long within offered =
    let here : Offers table (source.Twin by.0 t) front e = subst (λ (x : Source). Offers table x front e) by.1 offered in
    let inside : IsFromFront k (source.Twin by.0 t) = subst (IsFromFront k) by.1 within in
    let parent = something_at front t.parent (omega (arith, inside.1, long)) in
    record {
      parent = parent.0;
      child = here.1.0;
      twin = e;
      parent_is = place_stays front (e ∷ []) t.parent parent.0 parent.1;
      child_is = place_stays front (e ∷ []) t.child here.1.0 here.1.1;
      twin_is = subst (λ (i : ℕ). slice_get (front ++ e ∷ []) i ≡ Some e) (long ∙ sym at) (get_at front e []);
      one = λ witness. some_same (sym (here.1.2 witness) ∙ parent.1);
    }

-- where the child's element is no witness, any elements are twins
pub twins_apart : (t : Twins) (elements : List Elem) (child : Elem) → t.parent < length elements → t.twin < length elements → slice_get elements t.child ≡ Some child → (IsWitnessOf t.role child → ⊥) → AreTwins t elements
twins_apart t elements child parent_within twin_within at apart =
    let parent = something_at elements t.parent parent_within in
    let twin = something_at elements t.twin twin_within in
    record {
      parent = parent.0;
      child = child;
      twin = twin.0;
      parent_is = parent.1;
      child_is = at;
      twin_is = twin.1;
      one = λ witness. absurd (apart witness);
    }

-- there the edge alone tells what is offered
pub least_apart : (table : List TableRow) (s : Source) (g : Edge) (t : Twins) (front : List Elem) (child : Elem) (after r : Option Elem) → s ≡ source.Twin g t → slice_get front t.child ≡ Some child → (IsWitnessOf t.role child → ⊥)
    → IsLeastAbove (EdgeLeadsTo table g front) after r → IsLeastAbove (Offers table s front) after r
least_apart table s g t front child after r is at apart least = subst (λ (o : Source). IsLeastAbove (Offers table o front) after r) (sym is) (by r least)
  where
    by : (r : Option Elem) → IsLeastAbove (EdgeLeadsTo table g front) after r → IsLeastAbove (Offers table (source.Twin g t) front) after r
    by None none = λ e offered over. none e offered.0 over
    by (Some e) least = ((least.0, (child, at, λ witness. absurd (apart witness))), least.1, λ f offered over. least.2 f offered.0 over)

below_more : (k j : ℕ) (a : ShapeAtom) → k ≤ j → IsBelow k a → IsBelow j a
below_more k j (shape.Concept c n) more below = omega arith
below_more k j (shape.Role r n m) more below = (omega (arith, below.0), omega (arith, below.1))

under_more : (k j : ℕ) (c : Condition) → k ≤ j → IsUnder k c → IsUnder j c
under_more k j (condition.Atom a) more under = below_more k j a more under
under_more k j (condition.Twins t) more under = (omega (arith, under.0), omega (arith, under.1), omega (arith, under.2))

leads_front : (table : List TableRow) (g : Edge) (front ys : List Elem) (e : Elem) → g.from < length front → EdgeLeadsTo table g (front ++ ys) e → EdgeLeadsTo table g front e
leads_front table g front ys e within h = (h.0, sym (get_front front ys g.from within) ∙ h.1, h.2)

offers_front : (table : List TableRow) (s : Source) (front ys : List Elem) (e : Elem) → IsFromFront (length front) s → Offers table s (front ++ ys) e → Offers table s front e
offers_front table (source.Named n) front ys e within h = h
offers_front table (source.Concept c) front ys e within h = h
offers_front table (source.Outgoing r) front ys e within h = h
offers_front table (source.Edge g) front ys e within h = leads_front table g front ys e within h
offers_front table (source.Twin g t) front ys e within h = (
  leads_front table g front ys e within.0 h.0,
  (h.1.0, sym (get_front front ys t.child within.2) ∙ h.1.1, λ witness. sym (get_front front ys t.parent within.1) ∙ h.1.2 witness),
)

fixed_at : (levels : List Level) (k : ℕ) (l : Level) → slice_get levels k ≡ Some l → slice_get (map fixed_on levels) k ≡ Some (fixed_on l)
fixed_at levels k l at = slice_get-map fixed_on levels k ∙ ap (option_map fixed_on) at

pub levels_long : (levels : List Level) → length (map fixed_on levels) ≡ length levels
levels_long levels = length-map levels fixed_on

named_is : (s : Source) (n : ℕ) → fixed_of s ≡ Some n → s ≡ source.Named n
named_is (source.Named m) n h = cc
named_is (source.Concept c) n h = absurd cc
named_is (source.Outgoing r) n h = absurd cc
named_is (source.Edge g) n h = absurd cc
named_is (source.Twin g t) n h = absurd cc

pub last_or : (n k : ℕ) → n < suc k → (n < k) ⊎ (k ≡ n)
last_or zero zero below = inr refl
last_or zero (suc k) below = inl (omega arith)
last_or (suc n) zero below = absurd (omega arith)
last_or (suc n) (suc k) below = by (last_or n k (omega arith))
  where
    by : (n < k) ⊎ (k ≡ n) → (suc n < suc k) ⊎ (suc k ≡ suc n)
    by (inl less) = inl (omega arith)
    by (inr same) = inr (ap suc same)

none_below : (a : ShapeAtom) → IsBelow 0 a → ⊥
none_below (shape.Concept c n) below = omega arith
none_below (shape.Role r n m) below = omega (arith, below.0)

none_under : (c : Condition) → IsUnder 0 c → ⊥
none_under (condition.Atom a) under = none_below a under
none_under (condition.Twins t) under = omega (arith, under.0)

last_of_atom : (k : ℕ) (a : ShapeAtom) → IsBelow (suc k) a → IsBelow k a ⊎ IsTermOf k a
last_of_atom k (shape.Concept c n) below = last_or n k below
last_of_atom k (shape.Role r n m) below = elim (last_or n k below.0) [
  | inl first ↦ elim (last_or m k below.1) [ inl last ↦ inl (first, last) | inr same ↦ inr (inr same) ]
  | inr same ↦ inr (inl same)
]

-- a condition under the next level is under this one, or speaks of it
last_level : (k : ℕ) (c : Condition) → IsUnder (suc k) c → IsUnder k c ⊎ IsLevelOf k c
last_level k (condition.Atom a) under = last_of_atom k a under
last_level k (condition.Twins t) under = elim (last_or t.parent k under.0) [
  | inl parent ↦ elim (last_or t.child k under.1) [
    | inl child ↦ elim (last_or t.twin k under.2) [ inl twin ↦ inl (parent, child, twin) | inr same ↦ inr (inr (inr same)) ]
    | inr same ↦ inr (inr (inl same))
  ]
  | inr same ↦ inr (inl same)
]

-- what a level offers comes from what is in front
pub level_within : (conditions : List Condition) (k : ℕ) (l : Level) → IsTermLevel conditions k l → IsFromFront k l.source
level_within conditions k l is = elim is.source_is [
  | inl named ↦ subst (IsFromFront k) (sym named.1) tt
  | inr (inl serving) ↦ serving.2.within
  | inr (inr (g, t, same, edge, there, at_twin)) ↦ subst (IsFromFront k) (sym same) (edge.2.within, at_twin.1, at_twin.2)
]

-- the element of a match fits where the terms in front have the match's
module _ (table : List TableRow) (conditions : List Condition) (levels : List Level) (are : AreLevels conditions levels) where
  match_offers : (front : List Elem) (m : Elem) (rest : List Elem) (l : Level) → slice_get levels (length front) ≡ Some l
      → IsFound table conditions (map fixed_on levels) (front ++ m ∷ rest) → Offers table l.source front m
  match_offers front m rest l at found = by (are (length front) l at).source_is
    where
      serves : (a : ShapeAtom) → Contains conditions (condition.Atom a) → (s : Source) → Serves (length front) s a → Offers table s (front ++ m ∷ rest) m
      serves a there s serving = serving.offers table (front ++ m ∷ rest) m (found.met (condition.Atom a) there) (get_at front m rest)

      by : IsSource conditions (length front) l.source → Offers table l.source front m
      by (inl named) =
          let fixed : slice_get (map fixed_on levels) (length front) ≡ Some (Some named.0) = fixed_at levels (length front) l at ∙ ap (λ t. Some (fixed_of t)) named.1 in
          let there : slice_get (front ++ m ∷ rest) (length front) ≡ Some (elem.Named named.0) = found.fixed_are (length front) named.0 fixed in
          let here = get_at front m rest in
          let is : m ≡ elem.Named named.0 = cc in
          subst (λ t. Offers table t front m) (sym named.1) is
      by (inr (inl serving)) = offers_front table l.source front (m ∷ rest) m serving.2.within (serves serving.0 serving.1 l.source serving.2)
      by (inr (inr (g, t, is, edge, there, at_twin))) =
          let twins : AreTwins t (front ++ m ∷ rest) = found.met (condition.Twins t) there in
          let here : slice_get (front ++ m ∷ rest) t.twin ≡ Some m = subst (λ (i : ℕ). slice_get (front ++ m ∷ rest) i ≡ Some m) (sym at_twin.0) (get_at front m rest) in
          let same : twins.twin ≡ m = some_same (sym twins.twin_is ∙ here) in
          let whole : Offers table (source.Twin g t) (front ++ m ∷ rest) m = (
            serves edge.0 edge.1 (source.Edge g) edge.2,
            (twins.child, twins.child_is, λ witness. twins.parent_is ∙ ap Some (sym (twins.one witness) ∙ same)),
          ) in
          subst (λ (s : Source). Offers table s front m) (sym is) (offers_front table (source.Twin g t) front (m ∷ rest) m (edge.2.within, at_twin.1, at_twin.2) whole)

  pub match_fits : (front : List Elem) (m : Elem) (rest : List Elem) (l : Level) → slice_get levels (length front) ≡ Some l
      → IsFound table conditions (map fixed_on levels) (front ++ m ∷ rest) → Fits table conditions l front m
  match_fits front m rest l at found = record {
    offered = match_offers front m rest l at found;
    passes = λ i c there is.
        let under = All-contains (λ (i : ℕ). (c : Condition) × (slice_get conditions i ≡ Some c) × IsUnder (suc (length front)) c) l.checks.items i (are (length front) l at).checks_are.under there in
        let same : under.0 ≡ c = some_same (sym under.1 ∙ is) in
        let met : Meets table ((front ++ m ∷ []) ++ rest) c = rw append_assoc (found.met c (member_at conditions i c is)) in
        met_front table (front ++ m ∷ []) rest c (rw (length_more front m) (subst (IsUnder (suc (length front))) same under.2)) met;
  }

  -- a front with an element that fits
  front_grows : (front : List Elem) (e : Elem) (l : Level) → slice_get levels (length front) ≡ Some l
      → IsFoundFront table conditions (map fixed_on levels) front → Fits table conditions l front e → IsFoundFront table conditions (map fixed_on levels) (front ++ e ∷ [])
  front_grows front e l at is fits = record {
    met = λ c there under. now_met c there (rw (length_more front e) at under);
    fixed_are = λ k n below fixed. term k n (rw (length_more front e) at below) fixed;
  }
    where
      here : IsTermLevel conditions (length front) l
      here = are (length front) l at

      -- a condition that speaks of the new level
      last_met : (c : Condition) → Contains conditions c → IsLevelOf (length front) c → IsUnder (suc (length front)) c → Meets table (front ++ e ∷ []) c
      last_met c there speaks under = elim (here.checks_are.all c there speaks under) [
        | inl checked ↦ fits.passes checked.0 c checked.1 checked.2
        | inr gives ↦ gives table front e refl (level_within conditions (length front) l here) fits.offered
      ]

      now_met : (c : Condition) → Contains conditions c → IsUnder (suc (length front)) c → Meets table (front ++ e ∷ []) c
      now_met c there under = elim (last_level (length front) c under) [
        | inl before ↦ met_more table front (e ∷ []) c before (is.met c there before)
        | inr speaks ↦ last_met c there speaks under
      ]

      term : (k n : ℕ) → k < suc (length front) → slice_get (map fixed_on levels) k ≡ Some (Some n) → slice_get (front ++ e ∷ []) k ≡ Some (elem.Named n)
      term k n below fixed = by (last_or k (length front) below)
        where
          by : (k < length front) ⊎ (length front ≡ k) → slice_get (front ++ e ∷ []) k ≡ Some (elem.Named n)
          by (inl less) = place_stays front (e ∷ []) k (elem.Named n) (is.fixed_are k n less fixed)
          by (inr same) =
              let there : slice_get (map fixed_on levels) (length front) ≡ Some (Some n) = ap (λ (j : ℕ). slice_get (map fixed_on levels) j) same ∙ fixed in
              let known = fixed_at levels (length front) l at in
              let gives : fixed_on l ≡ Some n = cc in
              let named = named_is l.source n gives in
              let is_it : e ≡ elem.Named n = subst (λ t. Offers table t front e) named fits.offered in
              let last : slice_get (front ++ e ∷ []) (length front) ≡ Some e = get_at front e [] in
              ap (λ (j : ℕ). slice_get (front ++ e ∷ []) j) (sym same) ∙ last ∙ ap Some is_it

  front_back : (front : List Elem) (a : Elem) → IsFoundFront table conditions (map fixed_on levels) (front ++ a ∷ []) → IsFoundFront table conditions (map fixed_on levels) front
  front_back front a is = record {
    met = λ t c under. met_front table front (a ∷ []) t under (is.met t c (under_more (length front) (length (front ++ a ∷ [])) t (omega (arith, length_more front a)) under));
    fixed_are = λ k n below fixed. sym (get_front front (a ∷ []) k below) ∙ is.fixed_are k n (omega (arith, length_more front a)) fixed;
  }

  long : (images : List Elem) → IsFound table conditions (map fixed_on levels) images → length images ≡ length levels
  long images found = found.count ∙ levels_long levels

  not_above : (front : List Elem) (after : Option Elem) (e : Elem) (l : Level) (images : List Elem) → slice_get levels (length front) ≡ Some l
      → IsLeastAbove (Fits table conditions l front) after (Some e) → IsFound table conditions (map fixed_on levels) images
      → (m : Elem) (rest : List Elem) → images ≡ front ++ m ∷ rest → IsAbove after m → elem_cmp e m ≡ Greater → ⊥
  not_above front after e s images at least found m rest same over greater =
      least.2 m (match_fits front m rest s at (subst (IsFound table conditions (map fixed_on levels)) same found)) over greater

  pub goes_deeper : (place : SearchPlace) (front : List Elem) (after : Option Elem) (e : Elem) (l : Level) → slice_get levels (length front) ≡ Some l
      → suc (suc (length front)) ≤ length levels → IsLeastAbove (Fits table conditions l front) after (Some e)
      → IsAtFront table conditions (map fixed_on levels) place front after → IsAtFront table conditions (map fixed_on levels) place (front ++ e ∷ []) None
  goes_deeper place front after e s at more least is = record {
    front_is = front_grows front e s at is.front_is least.0;
    beyond = λ images found behind. deeper_beyond front after e images (is.beyond images found behind) (not_above front after e s images at least found) (omega (arith, more, long images found));
    behind = λ images count over. is.behind images count (deeper_within front after e images least.1 over);
  }

  pub goes_back : (place : SearchPlace) (front : List Elem) (a : Elem) (after : Option Elem) (l : Level) → slice_get levels (length (front ++ a ∷ [])) ≡ Some l
      → IsLeastAbove (Fits table conditions l (front ++ a ∷ [])) after None
      → IsAtFront table conditions (map fixed_on levels) place (front ++ a ∷ []) after → IsAtFront table conditions (map fixed_on levels) place front (Some a)
  goes_back place front a after s at none is = record {
    front_is = front_back front a is.front_is;
    beyond = λ images found behind. back_beyond front a after images (is.beyond images found behind)
        (λ m rest same over. none m (match_fits (front ++ a ∷ []) m rest s at (subst (IsFound table conditions (map fixed_on levels)) same found)) over);
    behind = λ images count over. is.behind images count (back_within front a after images over);
  }

  found_front : (front : List Elem) → length front ≡ length levels → ((c : Condition) → Contains conditions c → IsUnder (length levels) c)
      → IsFoundFront table conditions (map fixed_on levels) front → IsFound table conditions (map fixed_on levels) front
  found_front front count under is = record {
    count = count ∙ sym (levels_long levels);
    met = λ c there. is.met c there (rw count (under c there));
    fixed_are = λ k n fixed. is.fixed_are k n (let within = slice_get_within (map fixed_on levels) k (Some n) fixed in omega (arith, within, count, levels_long levels)) fixed;
  }

  pub gives_least : (place : SearchPlace) (front : List Elem) (after : Option Elem) (e : Elem) (l : Level) → slice_get levels (length front) ≡ Some l
      → suc (length front) ≡ length levels → ((c : Condition) → Contains conditions c → IsUnder (length levels) c)
      → IsLeastAbove (Fits table conditions l front) after (Some e)
      → IsAtFront table conditions (map fixed_on levels) place front after → IsLeast table conditions (map fixed_on levels) place (front ++ e ∷ [])
  gives_least place front after e s at count under least is =
      let whole : length (front ++ e ∷ []) ≡ length levels = length_more front e ∙ count in
      record {
        found = found_front (front ++ e ∷ []) whole under (front_grows front e s at is.front_is least.0);
        behind = is.behind (front ++ e ∷ []) (whole ∙ sym (levels_long levels)) (last_beyond front after e least.1);
        least = λ others found behind. last_least front after e others (is.beyond others found behind) (not_above front after e s others at least found) (long others found ∙ sym count);
      }

  pub gives_none : (place : SearchPlace) (after : Option Elem) (l : Level) → slice_get levels 0 ≡ Some l → IsLeastAbove (Fits table conditions l []) after None
      → IsAtFront table conditions (map fixed_on levels) place [] after
      → (others : List Elem) → IsFound table conditions (map fixed_on levels) others → IsBehindPlace place others → ⊥
  gives_none place after s at none is [] found behind = is.beyond [] found behind
  gives_none place after s at none is (m ∷ rest) found behind = none m (match_fits [] m rest s at found) (is.beyond (m ∷ rest) found behind)

  pub starts : 1 ≤ length levels → IsAtFront table conditions (map fixed_on levels) Start [] None
  starts some = record {
    front_is = record {
      met = λ c there under. absurd (none_under c under);
      fixed_are = λ k n below fixed. absurd (omega arith);
    };
    beyond = λ images found behind. by images (long images found);
    behind = λ images count over. tt;
  }
    where
      by : (images : List Elem) → length images ≡ length levels → IsBeyond [] None images
      by [] count = absurd (omega arith)
      by (x ∷ xs) count = tt

  pub stands : (front : List Elem) (a : Elem) → suc (length front) ≡ length levels → IsFound table conditions (map fixed_on levels) (front ++ a ∷ [])
      → IsAtFront table conditions (map fixed_on levels) (Behind (front ++ a ∷ [])) front (Some a)
  stands front a count found = record {
    front_is = front_back front a (record { met = λ t c under. found.met t c; fixed_are = λ k n below fixed. found.fixed_are k n fixed });
    beyond = λ images other behind. behind_beyond front a images (long images other ∙ sym count) behind;
    behind = λ images same over. beyond_behind front a images (same ∙ levels_long levels ∙ sym count) over;
  }

  pub stands_past : (front : List Elem) (a : Elem) (rest : List Elem) → IsFound table conditions (map fixed_on levels) (front ++ a ∷ rest)
      → IsAtFront table conditions (map fixed_on levels) (Past (suc (length front)) (front ++ a ∷ rest)) front (Some a)
  stands_past front a rest found = record {
    front_is = record {
      met = λ t c under. met_front table front (a ∷ rest) t under (found.met t c);
      fixed_are = λ k n below fixed. sym (get_front front (a ∷ rest) k below) ∙ found.fixed_are k n fixed;
    };
    beyond = λ images other behind. beyond_whole front (Some a) images (behind_beyond front a (take (suc (length front)) images) (cut images other.count) (rw (← taken_front front a rest) behind));
    behind = λ images same over. rw (taken_front front a rest) (beyond_behind front a (take (suc (length front)) images) (cut images same) (beyond_cut front (Some a) images over));
  }
    where
      cut : (images : List Elem) → length images ≡ length (map fixed_on levels) → length (take (suc (length front)) images) ≡ suc (length front)
      cut images same = length-take-le (suc (length front)) images (omega (arith, same, found.count, length_rest front a rest))
