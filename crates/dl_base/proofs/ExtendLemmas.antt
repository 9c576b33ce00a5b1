-- laws of what an axiom adds
use Rattle.std.proofs.Common.{◌≡◌, ◌≢◌, ℕ, zero, suc, ◌+◌, ◌-◌, ◌<◌, ◌≤◌, Bool, true, false, List, [], ◌∷◌, ◌++◌, length, get_or, take, Err, All, AllPairs, Contains, refl, sym, ◌∙◌, ap, subst, arith, true≢false, if◌then◌else◌, append_assoc, length-append, ◌||◌}
use Rattle.std.specs.List.{list_any, AllZip}
use Rattle.std.specs.Str.{bytes_eq}
use Rattle.std.proofs.lemmas.Slice.Eq.{bytes_eq-Decides}
use Rattle.std.proofs.lemmas.Grind.{take_at_read, fold-append}
use Rattle.std.proofs.lemmas.List.Elements.{All-weaker, All-append, All-nil, All-cons, All-head, All-tail, Contains-push, Contains-append_left}
use Rattle.std.proofs.lemmas.Option.{slice_get_within}
use Rattle.dl_base.specs.Ontology.{Terminology, IsTerminology, IsPlaced, IsPlacedHead, IsWithin}
use Rattle.dl_base.proofs.OntologyLemmas.{all_wider}
use Rattle.dl_base.proofs.PlaceLemmas.{zip_push, zip_length}
use Rattle.indexmap.proofs.CallerLemmas.{Contains-list_any}
use Rattle.dl_base.specs.Book.{Interns}
use Rattle.dl_base.specs.Axiom.{with_name, with_names, Numbers, NumbersInclusion, AddsInclusions, IsNamed, IsNamedHead, AreNamed, NumbersHead, Statement, IsStatement, Passes, IsExtended, Adds, Extends}
use Rattle.dl_base.specs.declared.concept.Basic.{Basic}
use Rattle.dl_base.specs.declared.concept.Basic.TheVariants as basic
use Rattle.dl_base.specs.declared.concept.Head.{Head}
use Rattle.dl_base.specs.declared.concept.Head.TheVariants as head
use Rattle.dl_base.specs.declared.ontology.ExtendError.{ExtendError}
use Rattle.dl_base.specs.declared.ontology.ExtendError.TheVariants as errors
use Rattle.dl_base.specs.declared.ontology.Which.{Which}
use Rattle.dl_base.specs.declared.ontology.Which.TheVariants as which
use Rattle.dl_base.specs.declared.axiom.NamedBasic.{NamedBasic}
use Rattle.dl_base.specs.declared.axiom.NamedBasic.TheVariants as named
use Rattle.dl_base.specs.declared.axiom.NamedHead.{NamedHead}
use Rattle.dl_base.specs.declared.axiom.NamedHead.TheVariants as named_head
use Rattle.dl_base.specs.declared.concept.Inclusion.{Inclusion}
use Rattle.dl_base.specs.declared.axiom.NamedInclusion.{NamedInclusion}

-- a name of a list is found in it
pub contains_any : (names : List (List ℕ)) (name : List ℕ) → Contains names name → list_any (bytes_eq name) names ≡ true
contains_any [] name c = absurd (omega arith)
contains_any (x ∷ xs) name (zero, below, at) = rw ((bytes_eq-Decides name x).1 (sym at)) refl
contains_any (x ∷ xs) name (suc k, below, at) = by (bytes_eq name x) (contains_any xs name (k, omega arith, at))
  where
    by : (b : Bool) → list_any (bytes_eq name) xs ≡ true → (b || list_any (bytes_eq name) xs) ≡ true
    by true h = refl
    by false h = h

-- what `intern` leaves
pub interned_is : (old new : List (List ℕ)) (name : List ℕ) (id : ℕ) → Interns old name new id → new ≡ with_name old name
interned_is old new name id i = by (list_any (bytes_eq name) old) refl
  where
    by : (b : Bool) → list_any (bytes_eq name) old ≡ b → new ≡ with_name old name
    by true e = rw e (i.known (Contains-list_any bytes_eq (λ x y h. (bytes_eq-Decides x y).0 h) old name e))
    by false e = rw e (i.added (λ c. true≢false (sym (contains_any old name c) ∙ e)))

pub names_more : (old names : List (List ℕ)) (k : ℕ) (d : List ℕ) → k < length names
    → with_names old (take (k + 1) names) ≡ with_name (with_names old (take k names)) (get_or names k d)
names_more old names k d below = ap (with_names old) (take_at_read names k d below).1 ∙ fold-append with_name old (take k names) (get_or names k d ∷ [])

with_name_grows : (names : List (List ℕ)) (name : List ℕ) → length names ≤ length (with_name names name)
with_name_grows names name = by (list_any (bytes_eq name) names)
  where
    by : (b : Bool) → length names ≤ length (if b then names else names ++ name ∷ [])
    by true = omega arith
    by false = rw length-append (omega arith)

pub names_grow : (names more : List (List ℕ)) → length names ≤ length (with_names names more)
names_grow names [] = omega arith
names_grow names (x ∷ xs) =
    let first : length names ≤ length (with_name names x) = with_name_grows names x in
    let rest : length (with_name names x) ≤ length (with_names (with_name names x) xs) = names_grow (with_name names x) xs in
    omega arith

-- where too many are there early, too many are there at the end
pub names_too_many : (old names : List (List ℕ)) (k most : ℕ) → most < length (with_names old (take k names)) → most < length (with_names old names)
names_too_many old [] zero most h = h
names_too_many old [] (suc k) most h = h
names_too_many old (x ∷ xs) zero most h =
    let grow : length old ≤ length (with_names old (x ∷ xs)) = names_grow old (x ∷ xs) in omega arith
names_too_many old (x ∷ xs) (suc k) most h = names_too_many (with_name old x) xs k most h

pub adds_more : (cs rs : List (List ℕ)) (old new : List Inclusion) (more : List NamedInclusion) (k : ℕ) (d : NamedInclusion) (j : Inclusion) → k < length more
    → AddsInclusions cs rs old (take k more) new → NumbersInclusion cs rs (get_or more k d) j → AddsInclusions cs rs old (take (k + 1) more) (new ++ j ∷ [])
adds_more cs rs old new more k d j below a n = rw (take_at_read more k d below).1 (record {
  added = a.added ++ j ∷ [];
  last = rw a.last (append_assoc old a.added (j ∷ []));
  each = zip_push (NumbersInclusion cs rs) (take k more) a.added (get_or more k d) j a.each n;
})

-- one more member of a body by its place
pub body_more : (cs rs : List (List ℕ)) (body : List NamedBasic) (new : List Basic) (k : ℕ) (d : NamedBasic) (b : Basic) → k < length body
    → AllZip (Numbers cs rs) (take k body) new → Numbers cs rs (get_or body k d) b → AllZip (Numbers cs rs) (take (k + 1) body) (new ++ b ∷ [])
body_more cs rs body new k d b below all n = rw (take_at_read body k d below).1 (zip_push (Numbers cs rs) (take k body) new (get_or body k d) b all n)

-- a book after one more name
pub book_more : (old book new names : List (List ℕ)) (name : List ℕ) (k id : ℕ) → k < length names → book ≡ with_names old (take k names)
    → name ≡ get_or names k name → Interns book name new id → new ≡ with_names old (take (k + 1) names)
book_more old book new names name k id below was is i =
    interned_is book new name id i ∙ (ap (λ (b : List (List ℕ)). with_name b name) was ∙ (ap (with_name (with_names old (take k names))) is ∙ sym (names_more old names k name below)))

-- the axiom's names are in the books after it
pub name_there : (names : List (List ℕ)) (name : List ℕ) → Contains (with_name names name) name
name_there names name = by (list_any (bytes_eq name) names) refl
  where
    by : (b : Bool) → list_any (bytes_eq name) names ≡ b → Contains (if b then names else names ++ name ∷ []) name
    by true e = Contains-list_any bytes_eq (λ x y h. (bytes_eq-Decides x y).0 h) names name e
    by false e = Contains-push names name

pub name_stays : (names : List (List ℕ)) (more name : List ℕ) → Contains names name → Contains (with_name names more) name
name_stays names more name c = by (list_any (bytes_eq more) names)
  where
    by : (b : Bool) → Contains (if b then names else names ++ more ∷ []) name
    by true = c
    by false = Contains-append_left names (more ∷ []) name c

names_stay : (old names : List (List ℕ)) (name : List ℕ) → Contains old name → Contains (with_names old names) name
names_stay old [] name c = c
names_stay old (x ∷ xs) name c = names_stay (with_name old x) xs name (name_stays old x name c)

pub names_there : (old names : List (List ℕ)) (name : List ℕ) → Contains names name → Contains (with_names old names) name
names_there old [] name c = absurd (omega arith)
names_there old (x ∷ xs) name (zero, below, at) = rw (sym at) (names_stay (with_name old x) xs x (name_there old x))
names_there old (x ∷ xs) name (suc k, below, at) = names_there (with_name old x) xs name (k, omega arith, at)

basic_named : (cs rs cs' rs' : List (List ℕ)) (b : NamedBasic) → ((n : List ℕ) → Contains cs n → Contains cs' n) → ((n : List ℕ) → Contains rs n → Contains rs' n)
    → IsNamed cs rs b → IsNamed cs' rs' b
basic_named cs rs cs' rs' (named.Concept n) f g h = f n h
basic_named cs rs cs' rs' (named.Exists r) f g h = g r.name h

head_named : (cs rs cs' rs' : List (List ℕ)) (b : NamedHead) → ((n : List ℕ) → Contains cs n → Contains cs' n) → ((n : List ℕ) → Contains rs n → Contains rs' n)
    → IsNamedHead cs rs b → IsNamedHead cs' rs' b
head_named cs rs cs' rs' (named_head.Basic b) f g h = basic_named cs rs cs' rs' b f g h
head_named cs rs cs' rs' named_head.Nothing f g h = tt

pub all_named : (cs rs cs' rs' : List (List ℕ)) (is : List NamedInclusion) → ((n : List ℕ) → Contains cs n → Contains cs' n) → ((n : List ℕ) → Contains rs n → Contains rs' n)
    → All (AreNamed cs rs) is → All (AreNamed cs' rs') is
all_named cs rs cs' rs' is f g all = All-weaker (AreNamed cs rs) (AreNamed cs' rs') (λ i n. record {
  body = All-weaker (IsNamed cs rs) (IsNamed cs' rs') (λ b h. basic_named cs rs cs' rs' b f g h) i.body n.body;
  head = head_named cs rs cs' rs' i.head f g n.head;
}) is all

-- what R gives of each pair, where P holds of the first
zip_all : {A B : Type 0} (R : A → B → Type 0) (P : A → Type 0) (Q : B → Type 0) → ((a : A) (b : B) → P a → R a b → Q b)
    → (xs : List A) (ys : List B) → All P xs → AllZip R xs ys → All Q ys
zip_all R P Q gives [] [] ps all = All-nil Q
zip_all R P Q gives [] (b ∷ ys) ps all = absurd all
zip_all R P Q gives (a ∷ xs) [] ps all = absurd all
zip_all R P Q gives (a ∷ xs) (b ∷ ys) ps all =
    All-cons Q b ys (gives a b (All-head P a xs ps) all.0) (zip_all R P Q gives xs ys (All-tail P a xs ps) all.1)

numbered_placed : (cs rs : List (List ℕ)) (n : NamedBasic) (b : Basic) → Numbers cs rs n b → IsPlaced (length cs) (length rs) b
numbered_placed cs rs (named.Concept n) (basic.Concept c) h = slice_get_within cs c n h
numbered_placed cs rs (named.Exists r) (basic.Exists s) h = slice_get_within rs s.name r.name h.0
numbered_placed cs rs (named.Concept n) (basic.Exists s) h = absurd h
numbered_placed cs rs (named.Exists r) (basic.Concept c) h = absurd h

numbered_head_placed : (cs rs : List (List ℕ)) (n : NamedHead) (h : Head) → NumbersHead cs rs n h → IsPlacedHead (length cs) (length rs) h
numbered_head_placed cs rs (named_head.Basic n) (head.Basic b) h = numbered_placed cs rs n b h
numbered_head_placed cs rs named_head.Nothing head.Nothing h = tt
numbered_head_placed cs rs (named_head.Basic n) head.Nothing h = absurd h
numbered_head_placed cs rs named_head.Nothing (head.Basic b) h = absurd h

-- a numbered inclusion is within the books
numbered_within : (cs rs : List (List ℕ)) (i : NamedInclusion) (j : Inclusion) → (1 ≤ length i.body) × (length i.body ≤ 8) → NumbersInclusion cs rs i j
    → IsWithin (length cs) (length rs) j
numbered_within cs rs i j size n =
    let same : length j.body ≡ length i.body = zip_length (Numbers cs rs) i.body j.body n.body in
    record {
      least = omega arith;
      most = omega arith;
      body = zip_all (Numbers cs rs) (λ _. Unit {0}) (IsPlaced (length cs) (length rs)) (λ a b _ h. numbered_placed cs rs a b h) i.body j.body (λ k d below. tt) n.body;
      head = numbered_head_placed cs rs i.head j.head n.head;
    }

pub statement_added : (o : Terminology) (a : Statement) (new : Terminology) → IsTerminology o → IsStatement a → All (λ i. length i.body ≤ 8) a.inclusions
    → (new.concepts ≡ with_names o.concepts a.concepts) × (length new.concepts ≤ 512) × AllPairs (λ x y. x ≢ y) new.concepts
    → (new.roles ≡ with_names o.roles a.roles) × (length new.roles ≤ 256) × AllPairs (λ x y. x ≢ y) new.roles
    → length a.inclusions ≤ 4096 - length o.inclusions → AddsInclusions new.concepts new.roles o.inclusions a.inclusions new.inclusions
    → IsTerminology new × IsExtended o a new
statement_added o a new t s short cs rs room adds =
    let same : length adds.added ≡ length a.inclusions = zip_length (NumbersInclusion new.concepts new.roles) a.inclusions adds.added adds.each in
    let few : length o.inclusions ≤ 4096 = t.inclusions in
    let grow_c : length o.concepts ≤ length new.concepts = rw cs.0 (names_grow o.concepts a.concepts) in
    let grow_r : length o.roles ≤ length new.roles = rw rs.0 (names_grow o.roles a.roles) in
    let old : All (IsWithin (length new.concepts) (length new.roles)) o.inclusions = all_wider _ _ _ _ o.inclusions grow_c grow_r t.within in
    let more : All (IsWithin (length new.concepts) (length new.roles)) adds.added =
    zip_all (NumbersInclusion new.concepts new.roles) (λ i. (1 ≤ length i.body) × (length i.body ≤ 8)) _ (λ i j size n. numbered_within new.concepts new.roles i j size n)
    a.inclusions adds.added (λ k d below. (s.some k d below, short k d below)) adds.each in (
      record {
        concepts = cs.1;
        roles = rs.1;
        inclusions = rw adds.last (rw length-append (omega arith));
        distinct_concepts = cs.2;
        distinct_roles = rs.2;
        within = rw adds.last (All-append (IsWithin (length new.concepts) (length new.roles)) o.inclusions adds.added old more);
      },
      record { passes_none = none; concepts = cs.0; roles = rs.0; inclusions = adds },
    )
  where
    none : (w : Which) → Passes o a w → ⊥
    none which.Conjuncts h = h short
    none which.Concepts h = let c : length new.concepts ≡ length (with_names o.concepts a.concepts) = ap length cs.0 in let few : length new.concepts ≤ 512 = cs.1 in absurd (omega arith)
    none which.Roles h = let c : length new.roles ≡ length (with_names o.roles a.roles) = ap length rs.0 in let few : length new.roles ≤ 256 = rs.1 in absurd (omega arith)
    none which.Inclusions h = let few : length o.inclusions ≤ 4096 = t.inclusions in absurd (omega arith)

pub adds_err : (o : Terminology) (a : Statement) (new : Terminology) (e : ExtendError) → Adds o a (Err e) new → Extends o a (Err e)
adds_err o a new (errors.TooMany w) h = h
adds_err o a new errors.NoMemory h = tt

-- the same of an ontology and a statement that equal these
pub adds_err_as : (o o' : Terminology) (a a' : Statement) (new : Terminology) (e : ExtendError) → o ≡ o' → a ≡ a' → Adds o a (Err e) new → Extends o' a' (Err e)
adds_err_as o o' a a' new e p q h =
    subst (λ (x : Terminology). Extends x a' (Err e)) p (subst (λ (y : Statement). Extends o y (Err e)) q (adds_err o a new e h))
