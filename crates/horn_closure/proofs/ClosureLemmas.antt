-- Closures of sets that hold the same.
use Rattle.std.proofs.Common.{ℕ, ◌↔◌, List, [], ◌∷◌, Option, Some, None}
use Rattle.std.specs.List.{AllByRecursion}
use Rattle.dl_base.specs.Derivation.{Derives, Violates}
use Rattle.dl_base.specs.declared.concept.Basic.{Basic}
use Rattle.dl_base.specs.declared.concept.Inclusion.{Inclusion}
use Rattle.dl_base.proofs.DerivationLemmas.{monotone, all-derived, derives-all}
use Rattle.horn_closure.specs.Closure.{ClosedSet, IsClosure, IsLeastViolated}

-- where more is held, more is violated
module _ (inclusions : List Inclusion) (held more : Basic → Type 0) (from : (b : Basic) → held b → more b) where
  all_monotone : (bs : List Basic) → AllByRecursion (Derives inclusions held) bs → AllByRecursion (Derives inclusions more) bs
  all_monotone [] h = tt
  all_monotone (b ∷ bs) h = (monotone inclusions held more from h.0, all_monotone bs h.1)

  violates_more : (k : ℕ) → Violates inclusions held k → Violates inclusions more k
  violates_more k v = record {
    before = v.before;
    number = v.number;
    inclusion = v.inclusion;
    at = v.at;
    nothing = v.nothing;
    body = derives-all inclusions more v.inclusion.body (all_monotone v.inclusion.body (all-derived inclusions held v.inclusion.body v.body));
  }

-- where the same is held, the closure is the same
pub closure_held : (inclusions : List Inclusion) (held same : Basic → Type 0) → ((b : Basic) → held b ↔ same b) → (c : ClosedSet) → IsClosure inclusions held c → IsClosure inclusions same c
closure_held inclusions held same is c closure = record {
  derived = λ b. (λ has. monotone inclusions held same there ((closure.derived b).0 has), λ d. (closure.derived b).1 (monotone inclusions same held back d));
  violated = by c.violated closure.violated;
}
  where
    there : (b : Basic) → held b → same b
    there b = (is b).0

    back : (b : Basic) → same b → held b
    back b = (is b).1

    by : (v : Option ℕ) → IsLeastViolated inclusions held v → IsLeastViolated inclusions same v
    by None f = λ k v. f k (violates_more inclusions same held back k v)
    by (Some k) f = (violates_more inclusions held same there k f.0, λ j below v. f.1 j below (violates_more inclusions same held back j v))
