-- A fresh area while it is initialised.
use Rattle.std.proofs.Common.{◌≡◌, ◌≢◌, ◌≤◌, inl, inr, ⊎_elim, ℕ, List, [], ◌∷◌, ◌++◌, length, get_or, take, drop, refl, sym, ◌∙◌, ap, subst, arith, take-append-drop}
use Rattle.std.proofs.lemmas.Bool.{cases_eq}
use Rattle.std.proofs.lemmas.List.Elements.{All-nil}
use Rattle.host_io.specs.Disk.{IsTorn, put}
use Rattle.area_layout.specs.Layout.{header_bytes}
use Rattle.gated_log.specs.Entries.{Bounds, BeginsWithEntries, IsEntry, IsFresh, Stands, top}
use Rattle.gated_log.specs.Opening.{Opens, initialised}
use Rattle.gated_log.specs.Stops.{HoldsNothing}
use Rattle.gated_log.proofs.Tears.{one_byte}

-- the header, and a closed gate
abbrev pub closed_top : List ℕ
closed_top = header_bytes (record { version = 1; epoch = 1 }) ++ 0 ∷ []

pub initial_is : (old : List ℕ) → 1 ≤ length old → put 0 (1 ∷ []) (put 1 closed_top old) ≡ initialised old
initial_is [] le = absurd (omega (arith, le))
initial_is (x ∷ xs) le = refl

pub short_initial : (old : List ℕ) → length old ≤ 1 → initialised (put 0 (0 ∷ []) old) ≡ initialised old
short_initial [] le = refl
short_initial (x ∷ []) le = refl
short_initial (x ∷ y ∷ xs) le = absurd (omega (arith, le))

pub short_put : (old : List ℕ) → length old ≤ 1 → put 0 (0 ∷ []) old ≡ 0 ∷ []
short_put [] le = refl
short_put (x ∷ []) le = refl
short_put (x ∷ y ∷ xs) le = absurd (omega (arith, le))

-- a write into a short area that leaves no more than one byte
pub short_stays : (old c : List ℕ) → length old ≤ 1 → IsTorn 0 1 old c → IsFresh c
short_stays old c le torn = inl (omega (arith, le, torn.no_longer))

-- a write behind a closed gate
pub shut_stays : (n : ℕ) (old c : List ℕ) → 1 ≤ length old → get_or old 0 0 ≢ 1 → IsTorn 1 n old c → IsFresh c
shut_stays n [] c le shut torn = absurd (omega (arith, le))
shut_stays n (x ∷ xs) [] le shut torn = inl (omega arith)
shut_stays n (x ∷ xs) (y ∷ ys) le shut torn = let first : y ∷ [] ≡ x ∷ [] = torn.before in inr (λ one. shut (let e : y ≡ x = cc in sym e ∙ one))

pub nothing_begins : (b : Bounds) (old : List ℕ) → BeginsWithEntries b (initialised old) [] (0 ∷ drop 18 old)
nothing_begins b old = record { each = All-nil (IsEntry b); fits = tt; spelled = refl }

pub nothing_stands : (b : Bounds) (old : List ℕ) → Stands b (initialised old) []
nothing_stands b old = record { gate = 0; more = drop 18 old; closed = omega arith; begins = nothing_begins b old }

-- while the header gate of an initialised area is opened
pub gate_turns : (b : Bounds) (old c : List ℕ) → 1 ≤ length old → IsTorn 0 1 (put 1 closed_top old) c → HoldsNothing b c
gate_turns b [] c le torn = absurd (omega (arith, le))
gate_turns b (x ∷ xs) c le torn =
    let is : c ≡ put 0 (get_or c 0 0 ∷ []) (put 1 closed_top (x ∷ xs)) = one_byte 0 (put 1 closed_top (x ∷ xs)) c (omega arith) torn in
    ⊎_elim
    (λ one. inr (subst (λ l. Stands b l []) (sym (is ∙ ap (λ y. put 0 (y ∷ []) (put 1 closed_top (x ∷ xs))) one)) (nothing_stands b (x ∷ xs))))
    (λ other. inl (inr other))
    (cases_eq (get_or c 0 0) 1)

-- an area with the header is not fresh
pub top_not_fresh : (area : List ℕ) → take 17 area ≡ top → IsFresh area → ⊥
top_not_fresh [] is fresh = let e : 0 ≡ 17 = ap length is in omega (arith, e)
top_not_fresh (x ∷ []) is fresh = let e : 1 ≡ 17 = ap length is in omega (arith, e)
top_not_fresh (x ∷ y ∷ ys) is fresh = let e : x ≡ 1 = cc in ⊎_elim (λ short. omega (arith, short)) (λ shut. shut e) fresh

pub top_begins : (b : Bounds) (area : List ℕ) → take 17 area ≡ top → BeginsWithEntries b area [] (drop 17 area)
top_begins b area is = record { each = All-nil (IsEntry b); fits = tt; spelled = sym (take-append-drop 17 area) ∙ ap (λ (l : List ℕ). l ++ drop 17 area) is }

pub opens_fresh : (b : Bounds) (area : List ℕ) → IsFresh area → Opens b area (initialised area)
opens_fresh b area fresh = record { fresh = λ f. refl; other = λ no. absurd (no fresh); rest = 0 ∷ drop 18 area; begins = nothing_begins b area }

pub opens_whole : (b : Bounds) (area : List ℕ) → take 17 area ≡ top → Opens b area area
opens_whole b area is = record { fresh = λ f. absurd (top_not_fresh area is f); other = λ no. refl; rest = drop 17 area; begins = top_begins b area is }
