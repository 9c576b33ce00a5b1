-- Generations are never lacking: only finitely many roles can be live.
use Rattle.std.proofs.Common.{◌≡◌, ◌==◌, ℕ, zero, suc, ◌+◌, ◌*◌, ◌<◌, ◌≤◌, ◌⊎◌, inl, inr, Bool, true, false, List, length, None, refl, sym, ◌∙◌, ap, subst, arith, if◌then◌else◌}
use Rattle.std.proofs.lemmas.Bool.Decides.{Decides-eqb}
use Rattle.dl_base.specs.Completion.{IsLive}
use Rattle.dl_base.specs.Derivation.{HeldBehind}
use Rattle.dl_base.specs.Ontology.{IsPlaced, IsTerminology, Terminology}
use Rattle.dl_base.specs.Sets.{role_place}
use Rattle.dl_base.specs.Unfolding.{Named, Start}
use Rattle.dl_base.specs.declared.concept.Basic.TheVariants as basic
use Rattle.dl_base.specs.declared.concept.Role.{Role}
use Rattle.dl_base.specs.declared.row.NamedRow.{NamedRow}
use Rattle.dl_base.proofs.OntologyLemmas.{derived_placed}
use Rattle.dl_base.proofs.SetLemmas.{role_place-same}
use Rattle.query_shape.proofs.MatchList.{Decided}
use Rattle.base_store.specs.History.{History}
use Rattle.gen_arena.specs.Store.{empty_store}
use Rattle.base_engine.specs.State.{BecomesLiveIn, IsLiveIn, IsWithinLimits, handle_limit}
use Rattle.base_engine.specs.StepLaws.{BeginningNeverLacks, GenerationsNeverLack}
use Rattle.base_engine.proofs.Outcomes.{start_placed}
use Rattle.base_engine.proofs.RowsThere.{above}

-- ---- live roles are the ontology's

live_placed : (o : Terminology) (rows : List NamedRow) (t : IsTerminology o) (r : Role) → IsLive o rows r → r.name < length o.roles
live_placed o rows t r (IsLive.first a points) = derived_placed o t (Start o rows (Named a)) (start_placed o rows t (Named a) points.individual) (basic.Exists r) points.derived
live_placed o rows t r (IsLive.next {s = s} live points) =
    let placed = live_placed o rows t s live in
    derived_placed o t (HeldBehind s) (λ b h. subst (IsPlaced (length o.concepts) (length o.roles)) (sym h) placed) (basic.Exists r) points.derived

below_all : (o : Terminology) → IsTerminology o → (r : Role) → r.name < length o.roles → role_place r < 512
below_all o t r below = by r.inverse
  where
    by : (b : Bool) → 2 * r.name + (if b then 1 else 0) < 512
    by true = omega (arith, below, t.roles)
    by false = omega (arith, below, t.roles)

live_below : (h : History) → IsWithinLimits h → (r : Role) → IsLiveIn h r → role_place r < 512
live_below h within r live = let t = within live.o live.base.ontology_is in below_all live.o t r (live_placed live.o live.rows t r live.live)

-- ---- a choice for each role

not_undecided : (P : Type 0) → (Decided P → ⊥) → ⊥
not_undecided P none = none (inr (λ p. none (inl p)))

same_or_not : (n m : ℕ) → (((n == m) ≡ true) × (n ≡ m)) ⊎ (((n == m) ≡ false) × (n ≡ m → ⊥))
same_or_not n m = by (n == m) refl
  where
    by : (b : Bool) → (n == m) ≡ b → (((n == m) ≡ true) × (n ≡ m)) ⊎ (((n == m) ≡ false) × (n ≡ m → ⊥))
    by true e = inl (e, (Decides-eqb n m).0 e)
    by false e = inr (e, λ same. let f : (n == m) ≡ true = (Decides-eqb n m).1 same in cc)

module _ (P : Role → Type 0) (yes no : Role → ℕ) where
  record Chosen (m : ℕ) : Type 0 where
    choice : Role → ℕ
    has : (r : Role) → role_place r < m → P r → choice r ≡ yes r
    has_not : (r : Role) → role_place r < m → (P r → ⊥) → choice r ≡ no r
    past : (r : Role) → m ≤ role_place r → choice r ≡ no r

  abbrev AtPlace : ℕ → Type 0
  AtPlace m = (r : Role) × (role_place r ≡ m) × P r

  abbrev pick : ℕ → (Role → ℕ) → Role → ℕ
  pick m rest r = if role_place r == m then yes r else rest r

  here : (m : ℕ) (rest : Role → ℕ) (r : Role) → (role_place r == m) ≡ true → pick m rest r ≡ yes r
  here m rest r e = ap (λ (b : Bool). if b then yes r else rest r) e

  elsewhere : (m : ℕ) (rest : Role → ℕ) (r : Role) → (role_place r == m) ≡ false → pick m rest r ≡ rest r
  elsewhere m rest r e = ap (λ (b : Bool). if b then yes r else rest r) e

  more : (m : ℕ) → Chosen m → Decided (AtPlace m) → Chosen (suc m)
  more m c (inl at) = record {
    choice = pick m c.choice;
    has = λ r below p. elim (same_or_not (role_place r) m) [
      | inl is ↦ here m c.choice r is.0
      | inr other ↦ elsewhere m c.choice r other.0 ∙ c.has r (let apart = other.1 in omega (arith, below, apart)) p
    ];
    has_not = λ r below not. elim (same_or_not (role_place r) m) [
      | inl is ↦ absurd (not (subst P (role_place-same at.0 r (at.1 ∙ sym is.1)) at.2))
      | inr other ↦ elsewhere m c.choice r other.0 ∙ c.has_not r (let apart = other.1 in omega (arith, below, apart)) not
    ];
    past = λ r behind. elim (same_or_not (role_place r) m) [
      | inl is ↦ absurd (let same = is.1 in omega (arith, behind, same))
      | inr other ↦ elsewhere m c.choice r other.0 ∙ c.past r (omega (arith, behind))
    ];
  }
  more m c (inr none) = record {
    choice = c.choice;
    has = λ r below p. elim (same_or_not (role_place r) m) [
      | inl is ↦ absurd (none (r, is.1, p))
      | inr other ↦ c.has r (let apart = other.1 in omega (arith, below, apart)) p
    ];
    has_not = λ r below not. elim (same_or_not (role_place r) m) [
      | inl is ↦ c.past r (let same = is.1 in omega (arith, same))
      | inr other ↦ c.has_not r (let apart = other.1 in omega (arith, below, apart)) not
    ];
    past = λ r behind. c.past r (omega (arith, behind));
  }

  chosen : (m : ℕ) → (Chosen m → ⊥) → ⊥
  chosen zero none = none (record { choice = no; has = λ r below p. absurd (omega (arith, below)); has_not = λ r below not. refl; past = λ r behind. refl })
  chosen (suc m) none = chosen m (λ c. not_undecided (AtPlace m) (λ d. none (more m c d)))

  -- where only the first roles can have P
  pub choice_never_lacks : (m : ℕ) → ((r : Role) → P r → role_place r < m)
      → (((f : Role → ℕ) × ((r : Role) → P r → f r ≡ yes r) × ((r : Role) → (P r → ⊥) → f r ≡ no r)) → ⊥) → ⊥
  choice_never_lacks m bound none = chosen m (λ c. none (c.choice, λ r p. c.has r (bound r p) p, λ r not. by c r not (above (role_place r) m)))
    where
      by : (c : Chosen m) (r : Role) → (P r → ⊥) → (role_place r < m) ⊎ (m ≤ role_place r) → c.choice r ≡ no r
      by c r not (inl below) = c.has_not r below not
      by c r not (inr behind) = c.past r behind

pub generations_never_lack : GenerationsNeverLack
generations_never_lack earlier later before within none =
    choice_never_lacks (BecomesLiveIn earlier later) (λ r. before r + 1) before 512 (λ r becomes. live_below later within r becomes.now)
    (λ found. none (found.0, record { raised = found.1; kept = found.2 }))

pub beginning_never_lacks : BeginningNeverLacks
beginning_never_lacks h within none =
    choice_never_lacks (IsLiveIn h) (λ r. 1) (λ r. 0) 512 (live_below h within)
    (λ found. none (record { history = h; session = λ n. None; handles = empty_store handle_limit; generation = found.0 }, record { history = refl; closed = λ n. refl; none_given = refl; live = found.1; others = found.2 }))
