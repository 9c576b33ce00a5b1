-- What is derived of an ontology is of the ontology.
use Rattle.std.proofs.Common.{◌≡◌, ℕ, ◌≤◌, List, length, All, Contains, subst, arith}
use Rattle.std.specs.List.{AllByRecursion}
use Rattle.std.proofs.lemmas.List.Elements.{All-contains, All-weaker}
use Rattle.dl_base.specs.Derivation.{Derives}
use Rattle.dl_base.specs.Ontology.{Terminology, IsTerminology, IsPlaced, IsPlacedHead, IsWithin}
use Rattle.dl_base.specs.declared.concept.Basic.{Basic}
use Rattle.dl_base.specs.declared.concept.Basic.TheVariants as basic
use Rattle.dl_base.specs.declared.concept.Head.{Head}
use Rattle.dl_base.specs.declared.concept.Head.TheVariants as head
use Rattle.dl_base.specs.declared.concept.Inclusion.{Inclusion}
use Rattle.dl_base.proofs.DerivationLemmas.{least}

basic_wider : (c r c' r' : ℕ) (b : Basic) → c ≤ c' → r ≤ r' → IsPlaced c r b → IsPlaced c' r' b
basic_wider c r c' r' (basic.Concept x) hc hr h = omega arith
basic_wider c r c' r' (basic.Exists x) hc hr h = omega arith

head_wider : (c r c' r' : ℕ) (h : Head) → c ≤ c' → r ≤ r' → IsPlacedHead c r h → IsPlacedHead c' r' h
head_wider c r c' r' (head.Basic b) hc hr p = basic_wider c r c' r' b hc hr p
head_wider c r c' r' head.Nothing hc hr p = tt

-- what is within is within more
pub all_wider : (c r c' r' : ℕ) (is : List Inclusion) → c ≤ c' → r ≤ r' → All (IsWithin c r) is → All (IsWithin c' r') is
all_wider c r c' r' is hc hr all = All-weaker (IsWithin c r) (IsWithin c' r') (λ i w. record {
  least = w.least;
  most = w.most;
  body = All-weaker (IsPlaced c r) (IsPlaced c' r') (λ b p. basic_wider c r c' r' b hc hr p) i.body w.body;
  head = head_wider c r c' r' i.head hc hr w.head;
}) is all

-- the inclusions of an ontology are within the greatest one's
pub within_limits : (o : Terminology) → IsTerminology o → All (IsWithin 512 256) o.inclusions
within_limits o t = all_wider (length o.concepts) (length o.roles) 512 256 o.inclusions t.concepts t.roles t.within

-- what is derived from concepts of an ontology is of the ontology
pub derived_placed : (o : Terminology) → IsTerminology o → (held : Basic → Type 0) → ((b : Basic) → held b → IsPlaced (length o.concepts) (length o.roles) b)
    → (b : Basic) → Derives o.inclusions held b → IsPlaced (length o.concepts) (length o.roles) b
derived_placed o within held placed b d = least o.inclusions held (IsPlaced (length o.concepts) (length o.roles)) closed placed d
  where
    closed : (i : Inclusion) (c : Basic) → Contains o.inclusions i → i.head ≡ head.Basic c → AllByRecursion (IsPlaced (length o.concepts) (length o.roles)) i.body → IsPlaced (length o.concepts) (length o.roles) c
    closed i c there is body =
        let fits : IsWithin (length o.concepts) (length o.roles) i = All-contains (IsWithin (length o.concepts) (length o.roles)) o.inclusions i within.within there in
        subst (λ (h : Head). IsPlacedHead (length o.concepts) (length o.roles) h) is fits.head
