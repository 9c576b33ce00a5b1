-- An area read twice: the entries of the one reading are the first of the other's.
use Rattle.std.proofs.Common.{◌≡◌, ◌≢◌, ◌⊎◌, ◌≤◌, ◌+◌, inl, inr, ⊎_elim, ℕ, List, [], ◌∷◌, ◌++◌, length, get_or, take, drop, refl, sym, ◌∙◌, ap, subst, arith, append_assoc, length-append}
use Rattle.std.proofs.lemmas.List.{append_cancel_left, append-nil, take_at, drop_at}
use Rattle.std.specs.List.{All}
use Rattle.std.proofs.lemmas.List.Elements.{All-head, All-tail}
use Rattle.gated_log.specs.Entries.{Bounds, BeginsWithEntries, Entry, IsWithinLimit, IsBroken, IsEntry, OffendsBehind, body, gate_place, spelling, top}
use Rattle.gated_log.specs.Laws.{FreshHasNoHeader, FreshNeverOffends, OffendsOnce, StandsOnce, StandsOrOffends}
use Rattle.gated_log.proofs.Behind.{length-body}
use Rattle.gated_log.proofs.Fresh.{top_not_fresh}
use Rattle.gated_log.proofs.Gates.{head_of_one}

-- bytes behind a gate begin with one entry at most
pub body_of_one : (b : Bounds) (e f : Entry) (xs ys : List ℕ) → IsEntry b e → IsEntry b f → body e ++ xs ≡ body f ++ ys → (e ≡ f) × (xs ≡ ys)
body_of_one b e f xs ys is_e is_f is = (both, rests)
  where
    heads : (e.kind ≡ f.kind) × (length e.payload ≡ length f.payload)
    heads = head_of_one (record { kind = e.kind; len = length e.payload }) (record { kind = f.kind; len = length f.payload }) (omega (arith, is_e.payload)) (omega (arith, is_f.payload)) (ap (take 5) is)

    tails : e.payload ++ xs ≡ f.payload ++ ys
    tails = ap (drop 5) is

    payloads : e.payload ≡ f.payload
    payloads = sym (take_at e.payload xs (length e.payload) refl) ∙ ap (take (length e.payload)) tails ∙ take_at f.payload ys (length e.payload) (sym heads.1)

    rests : xs ≡ ys
    rests = sym (drop_at e.payload xs (length e.payload) refl) ∙ ap (drop (length e.payload)) tails ∙ drop_at f.payload ys (length e.payload) (sym heads.1)

    both : e ≡ f
    both = ap (λ n. record { kind = n; payload = e.payload }) heads.0 ∙ ap (λ (l : List ℕ). record { kind = f.kind; payload = l }) payloads

-- the one list begins with the other, and what is behind it is spelled behind
pub record GoesBeyond (es fs : List Entry) (xs ys : List ℕ) : Type 0 where
  pub more : List Entry
  pub all : fs ≡ es ++ more
  pub rest : xs ≡ spelling more ++ ys

pub compared : (b : Bounds) (es fs : List Entry) (xs ys : List ℕ) → All (IsEntry b) es → All (IsEntry b) fs → spelling es ++ xs ≡ spelling fs ++ ys → GoesBeyond es fs xs ys ⊎ GoesBeyond fs es ys xs
compared b [] fs xs ys are_e are_f is = inl (record { more = fs; all = refl; rest = is })
compared b (e ∷ es) [] xs ys are_e are_f is = inr (record { more = e ∷ es; all = refl; rest = sym is })
compared b (e ∷ es) (f ∷ fs) xs ys are_e are_f is =
    let behind : body e ++ (spelling es ++ xs) ≡ body f ++ (spelling fs ++ ys) = sym (append_assoc (body e) (spelling es) xs) ∙ ap (drop 1) is ∙ append_assoc (body f) (spelling fs) ys in
    let one = body_of_one b e f (spelling es ++ xs) (spelling fs ++ ys) (All-head (IsEntry b) e es are_e) (All-head (IsEntry b) f fs are_f) behind in
    ⊎_elim
    (λ r. inl (record { more = r.more; all = ap (λ (l : List Entry). f ∷ l) r.all ∙ ap (λ (x : Entry). x ∷ es ++ r.more) (sym one.0); rest = r.rest }))
    (λ r. inr (record { more = r.more; all = ap (λ (l : List Entry). e ∷ l) r.all ∙ ap (λ (x : Entry). x ∷ fs ++ r.more) one.0; rest = r.rest }))
    (compared b es fs xs ys (All-tail (IsEntry b) e es are_e) (All-tail (IsEntry b) f fs are_f) one.1)

pub begun_twice : (b : Bounds) (area : List ℕ) (es fs : List Entry) (xs ys : List ℕ) → BeginsWithEntries b area es xs → BeginsWithEntries b area fs ys → GoesBeyond es fs xs ys ⊎ GoesBeyond fs es ys xs
begun_twice b area es fs xs ys first second = compared b es fs xs ys first.each second.each
    (append_cancel_left top (spelling es ++ xs) (spelling fs ++ ys) (sym (append_assoc top (spelling es) xs) ∙ sym first.spelled ∙ second.spelled ∙ append_assoc top (spelling fs) ys))

spelling-append : (es fs : List Entry) → spelling (es ++ fs) ≡ spelling es ++ spelling fs
spelling-append [] fs = refl
spelling-append (e ∷ es) fs = ap (λ (l : List ℕ). 1 ∷ body e ++ l) (spelling-append es fs) ∙ ap (λ (l : List ℕ). 1 ∷ l) (sym (append_assoc (body e) (spelling es) (spelling fs)))

place_of : (limit : ℕ) (es : List Entry) (m : Entry) (ms : List Entry) → IsWithinLimit limit (es ++ m ∷ ms) → gate_place (es ++ m ∷ ms) ≤ limit
place_of limit [] m ms fits = fits
place_of limit (e ∷ es) m ms fits = fits

-- the gate behind an entry in the midst is not past the limit
pub inner_fits : (limit : ℕ) (es : List Entry) (m : Entry) (ms : List Entry) → IsWithinLimit limit (es ++ m ∷ ms) → gate_place es + 6 + length m.payload ≤ limit
inner_fits limit es m ms fits = omega (arith, place_of limit es m ms fits, ap length (spelling-append es (m ∷ ms)), length-append (spelling es) (spelling (m ∷ ms)), length-append (body m) (spelling ms), length-body m)

pub inner_entry : (b : Bounds) (es : List Entry) (m : Entry) (ms : List Entry) → All (IsEntry b) (es ++ m ∷ ms) → IsEntry b m
inner_entry b [] m ms all = All-head (IsEntry b) m ms all
inner_entry b (e ∷ es) m ms all = inner_entry b es m ms (All-tail (IsEntry b) e (es ++ m ∷ ms) all)

-- no entry stands behind a closed gate
pub closed_ends : (gate : ℕ) (rest : List ℕ) (more : List Entry) (ys : List ℕ) → gate ≢ 1 → gate ∷ rest ≡ spelling more ++ ys → more ≡ []
closed_ends gate rest [] ys closed is = refl
closed_ends gate rest (m ∷ ms) ys closed is = absurd (closed (ap (λ (l : List ℕ). get_or l 0 0) is))

-- nor where the area offends
offence_ends : (b : Bounds) (es : List Entry) (xs : List ℕ) (at : ℕ) (more : List Entry) (ys : List ℕ) → at ≡ gate_place es → (xs ≡ []) ⊎ IsBroken b at xs
    → All (IsEntry b) (es ++ more) → IsWithinLimit b.limit (es ++ more) → xs ≡ spelling more ++ ys → more ≡ []
offence_ends b es xs at [] ys place offence each fits is = refl
offence_ends b es xs at (m ∷ ms) ys place offence each fits is = absurd (⊎_elim
    (λ none. let e : 0 ≡ length (1 ∷ body m ++ spelling ms ++ ys) = ap length (sym none ∙ is) in omega (arith, e))
    (λ broken. broken.not_whole m (spelling ms ++ ys) (inner_entry b es m ms each) (omega (arith, place, inner_fits b.limit es m ms fits))
    (ap (drop 1) (sym broken.is_open ∙ is) ∙ append_assoc (body m) (spelling ms) ys))
    offence)

pub alone : (es : List Entry) (more : List Entry) (fs : List Entry) → fs ≡ es ++ more → more ≡ [] → fs ≡ es
alone es more fs all none = all ∙ ap (λ (l : List Entry). es ++ l) none ∙ append-nil es

pub stands_once : StandsOnce
stands_once b area es fs first second = ⊎_elim
    (λ r. sym (alone es r.more fs r.all (closed_ends first.gate first.more r.more (second.gate ∷ second.more) first.closed r.rest)))
    (λ r. alone fs r.more es r.all (closed_ends second.gate second.more r.more (first.gate ∷ first.more) second.closed r.rest))
    (begun_twice b area es fs (first.gate ∷ first.more) (second.gate ∷ second.more) first.begins second.begins)

-- where the area offends, no longer list begins it
ends_there : (b : Bounds) (area : List ℕ) (at : ℕ) (o : OffendsBehind b area at) (fs : List Entry) (ys : List ℕ) → BeginsWithEntries b area fs ys → GoesBeyond o.entries fs o.rest ys → (fs ≡ o.entries) × (o.rest ≡ ys)
ends_there b area at o fs ys begins r =
    let none = offence_ends b o.entries o.rest at r.more ys o.place o.offence (subst (All (IsEntry b)) r.all begins.each) (subst (IsWithinLimit b.limit) r.all begins.fits) r.rest in
    (alone o.entries r.more fs r.all none, r.rest ∙ ap (λ (l : List Entry). spelling l ++ ys) none)

-- a closed gate is no offence
no_offence : (b : Bounds) (at gate : ℕ) (rest : List ℕ) → gate ≢ 1 → ((gate ∷ rest ≡ []) ⊎ IsBroken b at (gate ∷ rest)) → ⊥
no_offence b at gate rest closed offence = ⊎_elim
    (λ none. let e : length (gate ∷ rest) ≡ 0 = ap length none in omega (arith, e))
    (λ broken. closed (ap (λ (l : List ℕ). get_or l 0 0) broken.is_open))
    offence

pub begins_top : (b : Bounds) (area : List ℕ) (es : List Entry) (rest : List ℕ) → BeginsWithEntries b area es rest → take 17 area ≡ top
begins_top b area es rest begins = ap (take 17) (begins.spelled ∙ append_assoc top (spelling es) rest) ∙ take_at top (spelling es ++ rest) 17 refl

pub stands_or_offends : StandsOrOffends
stands_or_offends b area es at stands offends = ⊎_elim
    (λ header. header.wrong (begins_top b area es (stands.gate ∷ stands.more) stands.begins))
    (λ behind. ⊎_elim
    (λ r. let same = (ends_there b area at behind es (stands.gate ∷ stands.more) stands.begins r).1 in
    no_offence b at stands.gate stands.more stands.closed (subst (λ (l : List ℕ). (l ≡ []) ⊎ IsBroken b at l) same behind.offence))
    (λ r. let none = closed_ends stands.gate stands.more r.more behind.rest stands.closed r.rest in
    let same : stands.gate ∷ stands.more ≡ behind.rest = r.rest ∙ ap (λ (l : List Entry). spelling l ++ behind.rest) none in
    no_offence b at stands.gate stands.more stands.closed (subst (λ (l : List ℕ). (l ≡ []) ⊎ IsBroken b at l) (sym same) behind.offence))
    (begun_twice b area behind.entries es behind.rest (stands.gate ∷ stands.more) behind.begins stands.begins))
    offends

pub offends_once : OffendsOnce
offends_once b area at place first second = ⊎_elim
    (λ header. ⊎_elim
    (λ other. header.place ∙ sym other.place)
    (λ behind. absurd (header.wrong (begins_top b area behind.entries behind.rest behind.begins)))
    second)
    (λ one. ⊎_elim
    (λ header. absurd (header.wrong (begins_top b area one.entries one.rest one.begins)))
    (λ two. ⊎_elim
    (λ r. one.place ∙ ap gate_place (sym (ends_there b area at one two.entries two.rest two.begins r).0) ∙ sym two.place)
    (λ r. one.place ∙ ap gate_place (ends_there b area place two one.entries one.rest one.begins r).0 ∙ sym two.place)
    (begun_twice b area one.entries two.entries one.rest two.rest one.begins two.begins))
    second)
    first

pub fresh_has_no_header : FreshHasNoHeader
fresh_has_no_header b area es rest begins fresh = top_not_fresh area (begins_top b area es rest begins) fresh

pub fresh_never_offends : FreshNeverOffends
fresh_never_offends b area at offends fresh = ⊎_elim
    (λ header. header.not_fresh fresh)
    (λ behind. fresh_has_no_header b area behind.entries behind.rest behind.begins fresh)
    offends
