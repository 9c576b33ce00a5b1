-- Terms that have to stand on one element, and terms that can be placed below others.
use Rattle.std.specs.Prelude.{◌≡◌, ◌↔◌, ◌<◌, ◌≤◌, ℕ, Bool, true, false, List, Some, slice_get, slice_index, slice_index_or}
use Rattle.dl_base.specs.declared.element.Elem.{Elem}

-- The least equivalence by which the parents of joined children are joined. So the parents of one child are.
pub data Joined (Link : ℕ → ℕ → Type 0) : ℕ → ℕ → Type 0 where
  itself : {k : ℕ} → Joined Link k k
  turned : {j k : ℕ} → Joined Link j k → Joined Link k j
  through : {j k l : ℕ} → Joined Link j k → Joined Link k l → Joined Link j l
  parents : {p c q d : ℕ} → Link p c → Link q d → Joined Link c d → Joined Link p q

-- No endless chain leads upward from the term: each parent of a term that is joined to it is grounded.
pub data IsGrounded (Link : ℕ → ℕ → Type 0) : ℕ → Type 0 where
  ground : {k : ℕ} → ((p c : ℕ) → Link p c → Joined Link c k → IsGrounded Link p) → IsGrounded Link k

-- joined terms have one image
abbrev pub Agree : (ℕ → ℕ → Type 0) → List Elem → Type 0
Agree Link images = (j k : ℕ) (e f : Elem) → slice_get images j ≡ Some e → slice_get images k ≡ Some f → Joined Link j k → e ≡ f

-- terms below 24 have one number in the list exactly where they are joined
abbrev pub AreClasses : (ℕ → ℕ → Type 0) → List ℕ → Type 0
AreClasses Link classes = (j k : ℕ) → j < 24 → k < 24 → (slice_index classes j ≡ slice_index classes k) ↔ Joined Link j k

-- terms of one number have one image
abbrev pub AgreeBy : List ℕ → List Elem → Type 0
AgreeBy classes images = (j k : ℕ) (e f : Elem) → slice_get images j ≡ Some e → slice_get images k ≡ Some f → slice_index classes j ≡ slice_index classes k → e ≡ f

-- no parent of a term of this number has a lesser one than the other
abbrev pub NoneIsLess : (ℕ → ℕ → Type 0) → List ℕ → ℕ → ℕ → Type 0
NoneIsLess Link classes parent child = (q d : ℕ) → Link q d → slice_index classes child ≡ slice_index classes d → slice_index classes parent ≤ slice_index classes q

-- the number of some parent of a term of the child's number, which is less than that of its parent
pub record IsLess (Link : ℕ → ℕ → Type 0) (classes : List ℕ) (parent child to : ℕ) : Type 0 where
  pub other : ℕ
  pub below : ℕ
  pub linked : Link other below
  pub same : slice_index classes child ≡ slice_index classes below
  pub is : to ≡ slice_index classes other
  pub less : to < slice_index classes parent

-- the parents of terms of one number have one number
abbrev pub IsClosed : (ℕ → ℕ → Type 0) → List ℕ → Type 0
IsClosed Link classes = (p c : ℕ) → Link p c → NoneIsLess Link classes p c

-- the numbers of two parents of terms of one number, the greater one first
pub record AreUnlike (Link : ℕ → ℕ → Type 0) (classes : List ℕ) (from to : ℕ) : Type 0 where
  pub parent : ℕ
  pub child : ℕ
  pub linked : Link parent child
  pub is : from ≡ slice_index classes parent
  pub less : IsLess Link classes parent child to

-- some term of this number has a parent that waits
abbrev pub WaitsAbove : (ℕ → ℕ → Type 0) → List ℕ → List Bool → ℕ → Type 0
WaitsAbove Link classes waiting class = (p : ℕ) × (c : ℕ) × Link p c × (slice_index classes c ≡ class) × (slice_index_or waiting p false ≡ true)

-- the term waits, and no parent of its class does
pub record IsFree (Link : ℕ → ℕ → Type 0) (classes : List ℕ) (waiting : List Bool) (k : ℕ) : Type 0 where
  pub below : k < 24
  pub waits : slice_index_or waiting k false ≡ true
  pub none_above : WaitsAbove Link classes waiting (slice_index classes k) → ⊥

-- no term is free: each that waits has a parent that does
abbrev pub NoneIsFree : (ℕ → ℕ → Type 0) → List ℕ → List Bool → Type 0
NoneIsFree Link classes waiting = (k : ℕ) → k < 24 → slice_index_or waiting k false ≡ true → WaitsAbove Link classes waiting (slice_index classes k)
