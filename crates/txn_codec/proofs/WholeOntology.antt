-- What reading all bytes of an ontology gives.
use Rattle.std.proofs.Common.{◌≡◌, ℕ, zero, suc, ◌-◌, ◌≤◌, Bool, true, false, List, [], ◌∷◌, length, Result, Ok, Err, refl, subst, arith, inl, inr, Contains, Some, slice_get}
use Rattle.std.specs.List.{list_any}
use Rattle.std.specs.Str.{bytes_eq}
use Rattle.grammar.specs.Reading.{Outcome, whole}
use Rattle.grammar.specs.Grammar.{Grammar, IsFaultAt}
use Rattle.grammar.specs.Grammar.{Contains as HasValue}
use Rattle.grammar.proofs.Exact.{IsExact, Anything, Nothing, IsWhole, exact_fewer, exact_whole}
use Rattle.grammar.proofs.FaultPlaces.{not_before}
use Rattle.dl_base.specs.Ontology.{Terminology}
use Rattle.dl_base.proofs.ExtendLemmas.{contains_any}
use Rattle.txn_codec.specs.Checked.{Checked, IsLeastFault}
use Rattle.txn_codec.specs.OntologyPayload.{ontology, ontology_payload}
use Rattle.txn_codec.specs.PiecesReading.{name_length_at, spelled_name_at}
use Rattle.txn_codec.specs.OntologyReading.{new_name_at, ontology_at}
use Rattle.txn_codec.proofs.CheckedRules.{IsChecked, IsFlawed}
use Rattle.txn_codec.proofs.OntologyRules.{any_contains, checks_ontology}
use Rattle.txn_codec.proofs.Flawless.{flawless}

-- what a reading of all bytes gives
pub record IsOne {V : Type 0} (c : Checked V) (text : List ℕ) (v : V) : Type 0 where
  pub is : c.loose text v
  pub only : (w : V) → c.loose text w → w ≡ v

pub record IsRefused {V : Type 0} (c : Checked V) (text : List ℕ) (left : ℕ) : Type 0 where
  pub within : left ≤ length text
  pub least : IsLeastFault c text (length text - left)

abbrev pub IsWholeChecked : {V : Type 0} → Checked V → List ℕ → Result V ℕ → Type 0
IsWholeChecked c text (Ok v) = IsOne c text v
IsWholeChecked c text (Err left) = IsRefused c text left

loose_fault : {V : Type 0} (c : Checked V) (text : List ℕ) (left : ℕ) → left ≤ length text → IsFaultAt c.loose text (length text - left) → ((at : ℕ) → c.flaw text at → ⊥) → IsRefused c text left
loose_fault c text left within f clean = record {
  within = within;
  least = record {
    here = inl f;
    no_fault_before = λ at f'. not_before c.loose text (length text - left) at f.within f.before f';
    no_flaw_before = λ at f'. absurd (clean at f');
  };
}

first_flaw : {V : Type 0} (c : Checked V) (text : List ℕ) (left : ℕ) → IsFlawed c text left → IsRefused c text left
first_flaw c text left e =
    let place : e.place ≡ length text - left = omega (arith, e.left_is) in
    record {
      within = omega (arith, e.left_is);
      least = subst (λ (n : ℕ). IsLeastFault c text n) place record {
        here = inr e.is;
        no_fault_before = λ at f. not_before c.loose text e.place at (omega (arith, e.left_is)) e.begins f;
        no_flaw_before = e.least;
      };
    }

nothing_else : {V : Type 0} (g : Grammar V) (text : List ℕ) (r : Outcome V) → IsExact g Anything text r → IsWhole g text (whole r)
nothing_else g text r e = exact_whole g text r (exact_fewer g Anything Nothing text r (λ v k f. tt) e)

checked_whole : {V : Type 0} (c : Checked V) (text : List ℕ) (r : Outcome V) → IsChecked c text r → IsWholeChecked c text (whole r)
checked_whole c text (Ok (v, [])) e = let p = nothing_else c.loose text (Ok (v, [])) e.read in record { is = p.is; only = p.only }
checked_whole c text (Ok (v, x ∷ xs)) e =
    let p = nothing_else c.loose text (Ok (v, x ∷ xs)) e.read in
    loose_fault c text (length (x ∷ xs)) p.within p.fault e.clean
checked_whole c text (Err left) (inl e) =
    let p = nothing_else c.loose text (Err left) e.fault in
    loose_fault c text left p.within p.fault e.clean
checked_whole c text (Err left) (inr e) = first_flaw c text left e

pub whole_ontology : (text : List ℕ) (r : Result Terminology ℕ) → whole (ontology_at text) ≡ r → IsWholeChecked ontology text r
whole_ontology text r e = subst (λ (x : Result Terminology ℕ). IsWholeChecked ontology text x) e (checked_whole ontology text (ontology_at text) (checks_ontology text).is)

-- where there is a fault or a flaw, the bytes are no payload
pub no_payload : (text : List ℕ) (at : ℕ) → IsLeastFault ontology text at → HasValue ontology_payload text → ⊥
no_payload text at l s = elim (l.here) [
  | inl f ↦ f.outside (s.0, s.1.0)
  | inr f ↦ flawless text s.0 at s.1 f
]

-- ---- names

pub some_bytes : (text : List ℕ) (x : List ℕ × List ℕ) → spelled_name_at text ≡ Ok x → 1 ≤ length text
unfolding spelled_name_at name_length_at
some_bytes [] x e = absurd (cc)
some_bytes (c ∷ cs) x e = omega arith

pub known_name : (earlier : List (List ℕ)) (text name rest : List ℕ) → spelled_name_at text ≡ Ok (name, rest) → Contains earlier name → new_name_at earlier text ≡ Err (length text - 1)
unfolding new_name_at
known_name earlier text name rest e c = rw (e, contains_any earlier name c) refl

pub unknown_name : (earlier : List (List ℕ)) (text name rest : List ℕ) → spelled_name_at text ≡ Ok (name, rest) → (Contains earlier name → ⊥) → new_name_at earlier text ≡ Ok (name, rest)
unfolding new_name_at
unknown_name earlier text name rest e c =
    let none : list_any (bytes_eq name) earlier ≡ false = by (list_any (bytes_eq name) earlier) refl in
    rw (e, none) refl
  where
    by : (b : Bool) → list_any (bytes_eq name) earlier ≡ b → b ≡ false
    by true h = absurd (c (any_contains earlier name h))
    by false h = refl

pub contains_at : (names : List (List ℕ)) (k : ℕ) (name : List ℕ) → slice_get names k ≡ Some name → Contains names name
contains_at [] k name e = absurd (cc)
contains_at (x ∷ xs) zero name e = let same : x ≡ name = cc in (0, omega arith, same)
contains_at (x ∷ xs) (suc k) name e = let c = contains_at xs k name e in (suc c.0, omega (arith, c.1), c.2)
