-- Laws of derivation. Later proofs cite these and go by no induction on derivations.
use Rattle.std.proofs.Common.{◌≡◌, zero, suc, List, [], ◌∷◌, Contains, All, arith}
use Rattle.std.specs.List.{AllByRecursion}
use Rattle.dl_base.specs.Derivation.{Derives, DerivesAll, leaf, node, none, each}
use Rattle.dl_base.specs.declared.concept.Basic.{Basic}
use Rattle.dl_base.specs.declared.concept.Head.TheVariants as head
use Rattle.dl_base.specs.declared.concept.Inclusion.{Inclusion}

-- a set is closed under the inclusions
abbrev pub IsClosed : List Inclusion → (Basic → Type 0) → Type 0
IsClosed inclusions p = (i : Inclusion) (b : Basic) → Contains inclusions i → i.head ≡ head.Basic b → AllByRecursion p i.body → p b

module _ (inclusions : List Inclusion) (held p : Basic → Type 0) (closed : IsClosed inclusions p) (has : (b : Basic) → held b → p b) where
  mutual
    -- what is derived is in each closed set that has what is held
    pub least : {b : Basic} → Derives inclusions held b → p b
    least {b} (leaf h) = has b h
    least {b} (node i there is body) = closed i b there is (least-all body)

    pub least-all : {bs : List Basic} → DerivesAll inclusions held bs → AllByRecursion p bs
    least-all none = tt
    least-all (each d ds) = (least d, least-all ds)

-- each member is derived
pub derives-all : (inclusions : List Inclusion) (held : Basic → Type 0) (bs : List Basic) → AllByRecursion (Derives inclusions held) bs → DerivesAll inclusions held bs
derives-all inclusions held [] h = none
derives-all inclusions held (b ∷ bs) h = each h.0 (derives-all inclusions held bs h.1)

-- what is derived from derived concepts is derived
pub cut : (inclusions : List Inclusion) (held more : Basic → Type 0) → ((b : Basic) → more b → Derives inclusions held b) → {b : Basic} → Derives inclusions more b → Derives inclusions held b
cut inclusions held more from d =
    least inclusions more (Derives inclusions held) (λ i b there is body. node i there is (derives-all inclusions held i.body body)) from d

-- from more, more is derived
pub monotone : (inclusions : List Inclusion) (held more : Basic → Type 0) → ((b : Basic) → held b → more b) → {b : Basic} → Derives inclusions held b → Derives inclusions more b
monotone inclusions held more from d = cut inclusions more held (λ b h. leaf (from b h)) d

-- each derivation of a list
pub all-derived : (inclusions : List Inclusion) (held : Basic → Type 0) (bs : List Basic) → DerivesAll inclusions held bs → AllByRecursion (Derives inclusions held) bs
all-derived inclusions held bs none = tt
all-derived inclusions held bs (each d ds) = (d, all-derived inclusions held _ ds)

-- both ways of saying that P holds of each item
pub all-of : {X : Type 0} (P : X → Type 0) (xs : List X) → AllByRecursion P xs → All P xs
all-of P [] h k d below = absurd (omega arith)
all-of P (x ∷ xs) h zero d below = h.0
all-of P (x ∷ xs) h (suc k) d below = all-of P xs h.1 k d (omega arith)

pub all-by : {X : Type 0} (P : X → Type 0) (xs : List X) → All P xs → AllByRecursion P xs
all-by P [] h = tt
all-by P (x ∷ xs) h = (h 0 x (omega arith), all-by P xs (λ k d below. h (suc k) d (omega arith)))
