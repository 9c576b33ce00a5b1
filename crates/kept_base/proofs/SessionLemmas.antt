-- Sessions that are closed, opened and appended to.
use Rattle.std.proofs.Common.{◌≡◌, ◌≢◌, ◌==◌, ℕ, ◌<◌, Bool, true, false, List, Option, Some, None, Result, Ok, Err, length, get_or, set, refl, sym, ◌∙◌, ap, subst, arith, if◌then◌else◌}
use Rattle.std.specs.Prelude.{OnOk}
use Rattle.std.proofs.lemmas.List.{get_or-set_same, get_or-set_other, get_or_default}
use Rattle.std.proofs.lemmas.Bool.Decides.{nat_tests}
use Rattle.dl_base.specs.declared.row.NamedChange.{NamedChange}
use Rattle.kept_base.specs.Sessions.{PutsSession, session_in}
use Rattle.base_engine.specs.Steps.{appended}

-- the list with one session set
pub session_put : (k : ℕ) (changes : Option (List NamedChange)) (old : List (Option (List NamedChange))) → k < length old → PutsSession k changes old (set old k changes)
session_put k changes old inside n = by (n == k) refl
  where
    by : (b : Bool) → (n == k) ≡ b → get_or (set old k changes) n None ≡ (if b then changes else get_or old n None)
    by true e =
        let same : n ≡ k = grind (arith, nat_tests) in
        ap (λ (m : ℕ). get_or (set old k changes) m None) same ∙ get_or-set_same old k changes None inside
    by false e = let other : n ≢ k = λ same. (let no : (n == k) ≡ true = grind (arith, nat_tests) in let clash : true ≡ false = sym no ∙ e in cc) in get_or-set_other old k n changes None other

-- the list with one more change of an open session
pub session_more : {T E : Type 0} (k : ℕ) (change : NamedChange) (old now : List (Option (List NamedChange))) (was new : Option (List NamedChange)) (result : Result T E) → old ≡ now → k < length old
    → was ≡ get_or old k was → ((changes : List NamedChange) → was ≡ Some changes → OnOk result (new ≡ Some (appended changes change)))
    → (changes : List NamedChange) → session_in now k ≡ Some changes → OnOk result (PutsSession k (Some (appended changes change)) now (set old k new))
session_more k change old now was new (Err e) same inside at more changes is = tt
session_more k change old now was new (Ok v) same inside at more changes is =
    let here : was ≡ Some changes = at ∙ (get_or_default old k was None inside ∙ (ap (λ (xs : List (Option (List NamedChange))). get_or xs k None) same ∙ is)) in
    let put : PutsSession k new old (set old k new) = session_put k new old inside in
    subst (λ (xs : List (Option (List NamedChange))). PutsSession k (Some (appended changes change)) xs (set old k new)) same
    (subst (λ (c : Option (List NamedChange)). PutsSession k c old (set old k new)) (more changes here) put)
