-- An area keeps one history, or offends at one place, and never both.
use Rattle.std.proofs.Common.{◌≡◌, ◌≢◌, ◌⊎◌, ⊎_elim, ℕ, List, [], ◌∷◌, ◌++◌, length, get_or, drop, refl, sym, ◌∙◌, ap, subst, arith, append_assoc}
use Rattle.std.specs.List.{All}
use Rattle.gated_log.specs.Entries.{BeginsWithEntries, Entry, IsWithinLimit, IsEntry, IsFresh, body, gate_place, spelling, within}
use Rattle.gated_log.proofs.LawLemmas.{alone, begins_top, begun_twice, closed_ends, fresh_has_no_header, inner_entry, inner_fits, stands_once}
use Rattle.base_store.specs.History.{History, Empty}
use Rattle.base_store.specs.Legal.{Leads, Tells}
use Rattle.base_store.specs.Area.{HoldsHistory, IsDamagedBehind, IsStuck, area_limit}
use Rattle.base_store.specs.Laws.{DamagedOnce, KeepsOnce, KeepsOrIsDamaged}
use Rattle.base_store.proofs.Told.{leads_once, leads_split}

pub held_once : (area : List ℕ) (g h : History) → HoldsHistory area g → HoldsHistory area h → g ≡ h
held_once area g h a b =
    let same = stands_once (within area_limit) area a.entries b.entries a.stands b.stands in
    leads_once Empty b.entries g h (subst (λ (es : List Entry). Tells es g) same a.told) b.told

fresh_holds_none : (area : List ℕ) (h : History) → IsFresh area → HoldsHistory area h → ⊥
fresh_holds_none area h fresh a = fresh_has_no_header (within area_limit) area a.entries (a.stands.gate ∷ a.stands.more) a.stands.begins fresh

pub keeps_once : KeepsOnce
keeps_once area g h first second = ⊎_elim
    (λ fresh. ⊎_elim
    (λ other. fresh.1 ∙ sym other.1)
    (λ held. absurd (fresh_holds_none area h fresh.0 held))
    second)
    (λ held. ⊎_elim
    (λ fresh. absurd (fresh_holds_none area g fresh.0 held))
    (λ other. held_once area g h held other)
    second)
    first

-- where an area is damaged, no longer list of legal entries begins it
damage_ends : (area : List ℕ) (at : ℕ) (d : IsDamagedBehind area at) (more : List Entry) (fs : List Entry) (ys : List ℕ) (h : History)
    → BeginsWithEntries (within area_limit) area fs ys → Tells fs h → fs ≡ d.entries ++ more → d.rest ≡ spelling more ++ ys → more ≡ []
damage_ends area at d [] fs ys h begins told all rest = refl
damage_ends area at d (m ∷ ms) fs ys h begins told all rest = absurd (⊎_elim
    (λ none. let e : 0 ≡ length (1 ∷ body m ++ spelling ms ++ ys) = ap length (sym none ∙ rest) in omega (arith, e))
    (λ stuck.
    let each = subst (All (IsEntry (within area_limit))) all begins.each in
    let fits = subst (IsWithinLimit area_limit) all begins.fits in
    let split = leads_split Empty d.entries (m ∷ ms) h (subst (λ (es : List Entry). Tells es h) all told) in
    let next = subst (λ (k : History). Leads k (m ∷ ms) h) (leads_once Empty d.entries split.0 d.history split.1 d.told) split.2 in
    stuck.not_legal m (spelling ms ++ ys) next.0 (inner_entry (within area_limit) d.entries m ms each) (omega (arith, d.place, inner_fits area_limit d.entries m ms fits))
    (ap (drop 1) (sym stuck.is_open ∙ rest) ∙ append_assoc (body m) (spelling ms) ys) next.1)
    d.offence)

-- a closed gate is no damage
no_damage : (h : History) (at gate : ℕ) (rest : List ℕ) → gate ≢ 1 → ((gate ∷ rest ≡ []) ⊎ IsStuck h at (gate ∷ rest)) → ⊥
no_damage h at gate rest closed offence = ⊎_elim
    (λ none. let e : length (gate ∷ rest) ≡ 0 = ap length none in omega (arith, e))
    (λ stuck. closed (ap (λ (l : List ℕ). get_or l 0 0) stuck.is_open))
    offence

held_undamaged : (area : List ℕ) (h : History) (at : ℕ) → HoldsHistory area h → IsDamagedBehind area at → ⊥
held_undamaged area h at a d =
    let s = a.stands in
    ⊎_elim
    (λ r. let none = damage_ends area at d r.more a.entries (s.gate ∷ s.more) h s.begins a.told r.all r.rest in
    let same : d.rest ≡ s.gate ∷ s.more = r.rest ∙ ap (λ (l : List Entry). spelling l ++ s.gate ∷ s.more) none in
    no_damage d.history at s.gate s.more s.closed (subst (λ (l : List ℕ). (l ≡ []) ⊎ IsStuck d.history at l) same d.offence))
    (λ r. let none = closed_ends s.gate s.more r.more d.rest s.closed r.rest in
    let same : s.gate ∷ s.more ≡ d.rest = r.rest ∙ ap (λ (l : List Entry). spelling l ++ d.rest) none in
    no_damage d.history at s.gate s.more s.closed (subst (λ (l : List ℕ). (l ≡ []) ⊎ IsStuck d.history at l) (sym same) d.offence))
    (begun_twice (within area_limit) area d.entries a.entries d.rest (s.gate ∷ s.more) d.begins s.begins)

pub keeps_or_is_damaged : KeepsOrIsDamaged
keeps_or_is_damaged area h at keeps damaged = ⊎_elim
    (λ fresh. ⊎_elim
    (λ top. top.not_fresh fresh.0)
    (λ behind. fresh_has_no_header (within area_limit) area behind.entries behind.rest behind.begins fresh.0)
    damaged)
    (λ held. ⊎_elim
    (λ top. top.wrong (begins_top (within area_limit) area held.entries (held.stands.gate ∷ held.stands.more) held.stands.begins))
    (λ behind. held_undamaged area h at held behind)
    damaged)
    keeps

pub damaged_once : DamagedOnce
damaged_once area at place first second = ⊎_elim
    (λ top. ⊎_elim
    (λ other. top.place ∙ sym other.place)
    (λ behind. absurd (top.wrong (begins_top (within area_limit) area behind.entries behind.rest behind.begins)))
    second)
    (λ one. ⊎_elim
    (λ top. absurd (top.wrong (begins_top (within area_limit) area one.entries one.rest one.begins)))
    (λ two. ⊎_elim
    (λ r. let same = alone one.entries r.more two.entries r.all (damage_ends area at one r.more two.entries two.rest two.history two.begins two.told r.all r.rest) in
    one.place ∙ ap gate_place (sym same) ∙ sym two.place)
    (λ r. let same = alone two.entries r.more one.entries r.all (damage_ends area place two r.more one.entries one.rest one.history one.begins one.told r.all r.rest) in
    one.place ∙ ap gate_place same ∙ sym two.place)
    (begun_twice (within area_limit) area one.entries two.entries one.rest two.rest one.begins two.begins))
    second)
    first
