-- A payload has no flaw.
use Rattle.std.proofs.Common.{◌≡◌, ◌≢◌, ℕ, zero, suc, ◌<◌, ◌≤◌, Bool, true, false, cond, List, [], ◌∷◌, ◌++◌, length, get_or, Ok, Err, refl, sym, ap, subst, ◌∙◌, append_assoc, arith, inl, inr, Contains, All, AllPairs, length-append}
use Rattle.std.specs.Prelude.{◌==◌}
use Rattle.std.proofs.lemmas.List.{append-nil, append_cancel_left}
use Rattle.std.proofs.lemmas.List.Elements.{All-contains}
use Rattle.grammar.specs.Grammar.{Grammar, Sequence, means, many, literal}
use Rattle.grammar.specs.Reading.{Outcome}
use Rattle.grammar.proofs.Exact.{SameHead-refl, IsExact, Anything}
use Rattle.dl_base.specs.Ontology.{Terminology, IsTerminology, IsPlaced, IsPlacedHead, IsWithin}
use Rattle.dl_base.specs.declared.concept.Basic.{Basic}
use Rattle.dl_base.specs.declared.concept.Basic.TheVariants as basic
use Rattle.dl_base.specs.declared.concept.Head.{Head}
use Rattle.dl_base.specs.declared.concept.Inclusion.{Inclusion}
use Rattle.txn_codec.specs.Pieces.{number, spelled_name, exactly}
use Rattle.txn_codec.specs.PiecesReading.{number_at, spelled_name_at}
use Rattle.txn_codec.specs.Checked.{Checked, plain, spoiled, ◌>>=◌, exactly_checked}
use Rattle.txn_codec.specs.OntologyPayload.{count_to, byte_within, new_name, names, limit_of, basic_of, tagged, member, tagged_head, some_head, inclusion, inclusions, ontology, ontology_payload}
use Rattle.txn_codec.specs.OntologyReading.{count_at}
use Rattle.txn_codec.proofs.SpelledNames.{reads_number, reads_spelled_name}
use Rattle.txn_codec.proofs.OntologyRules.{exact_count}

-- a text of the grammar at the front of bytes is the only one there
pub record Unique {V : Type 0} (g : Grammar V) : Type 0 where
  pub one : (t k t' k' : List ℕ) (v v' : V) → g t v → g t' v' → t ++ k ≡ t' ++ k' → (t ≡ t') × (v ≡ v')

unique_by : {V : Type 0} (g : Grammar V) (text : List ℕ) (r : Outcome V) → IsExact g Anything text r → (t k t' k' : List ℕ) (v v' : V) → g t v → g t' v' → text ≡ t ++ k → text ≡ t' ++ k' → (t ≡ t') × (v ≡ v')
unique_by g text (Ok x) e t k t' k' v v' s s' cut cut' =
    let a = e.only t v k x.1 s tt (sym cut ∙ e.parts) (SameHead-refl x.1) in
    let b = e.only t' v' k' x.1 s' tt (sym cut' ∙ e.parts) (SameHead-refl x.1) in
    (a.0 ∙ sym b.0, a.1 ∙ sym b.1)
unique_by g text (Err left) e t k t' k' v v' s s' cut cut' = absurd (e.never t v k e.rest s tt (sym cut ∙ e.parts) (SameHead-refl e.rest))

unique_exact : {V : Type 0} (g : Grammar V) (read : List ℕ → Outcome V) → ((text : List ℕ) → IsExact g Anything text (read text)) → Unique g
unique_exact g read each = record { one = λ t k t' k' v v' s s' cut. unique_by g (t ++ k) (read (t ++ k)) (each (t ++ k)) t k t' k' v v' s s' refl cut }

unique_number : (n : ℕ) → Unique (number n)
unique_number n = unique_exact (number n) (number_at n) (λ text. (reads_number n).is)

unique_name : Unique spelled_name
unique_name = unique_exact spelled_name spelled_name_at (λ text. reads_spelled_name.is)

unique_count : (most : ℕ) → Unique (count_to most)
unique_count most = unique_exact (count_to most) (count_at most) (λ text. exact_count most text)

unique_byte : (least most : ℕ) → Unique (byte_within least most)
unique_byte least most = record {
  one = λ t k t' k' v v' s s' cut.
      let all : v ∷ k ≡ v' ∷ k' = ap (λ (a : List ℕ). a ++ k) (sym s.0) ∙ cut ∙ ap (λ (a : List ℕ). a ++ k') s'.0 in
      let same : v ≡ v' = cc in
      (s.0 ∙ ap (λ (a : ℕ). a ∷ []) same ∙ sym s'.0, same);
}

unique_literal : (es : List ℕ) → Unique (literal es)
unique_literal es = record { one = λ t k t' k' v v' s s' cut. (s ∙ sym s', refl) }

unique_means : {V : Type 0} {v : V} → Unique (means v)
unique_means = record { one = λ t k t' k' v v' s s' cut. (s.0 ∙ sym s'.0, s.1 ∙ sym s'.1) }

unique_then : {V W : Type 0} {g : Grammar V} {h : V → Grammar W} → Unique g → ((v : V) → Unique (h v)) → Unique (Sequence g h)
unique_then {V} {W} {g} {h} a b = record { one = λ t k t' k' w w' s s' cut. both t k t' k' w w' s s' cut }
  where
    both : (t k t' k' : List ℕ) (w w' : W) → Sequence g h t w → Sequence g h t' w' → t ++ k ≡ t' ++ k' → (t ≡ t') × (w ≡ w')
    both t k t' k' w w' s s' cut =
        let whole : s.front ++ (s.back ++ k) ≡ s'.front ++ (s'.back ++ k') =
        sym (append_assoc s.front s.back k) ∙ ap (λ (x : List ℕ). x ++ k) (sym s.parts) ∙ cut ∙ ap (λ (x : List ℕ). x ++ k') s'.parts ∙ append_assoc s'.front s'.back k' in
        let p = a.one s.front (s.back ++ k) s'.front (s'.back ++ k') s.met s'.met s.in_first s'.in_first whole in
        let rest : s.back ++ k ≡ s'.back ++ k' = append_cancel_left s.front (s.back ++ k) (s'.back ++ k') (whole ∙ ap (λ (x : List ℕ). x ++ (s'.back ++ k')) (sym p.0)) in
        let q = (b s.met).one s.back k s'.back k' w w' s.in_second (subst (λ (v : V). h v s'.back w') (sym p.1) s'.in_second) rest in
        (s.parts ∙ ap (λ (x : List ℕ). x ++ s.back) p.0 ∙ ap (λ (x : List ℕ). s'.front ++ x) q.0 ∙ sym s'.parts, q.1)

unique_many : {V : Type 0} (g : Grammar V) → Unique g → (t k t' k' : List ℕ) (vs vs' : List V) → many g t vs → many g t' vs' → length vs ≡ length vs' → t ++ k ≡ t' ++ k' → (t ≡ t') × (vs ≡ vs')
unique_many g a t k t' k' [] [] m m' len cut = (m ∙ sym m', refl)
unique_many g a t k t' k' [] (v' ∷ vs') m m' len cut = absurd (omega (arith, len))
unique_many g a t k t' k' (v ∷ vs) [] m m' len cut = absurd (omega (arith, len))
unique_many {V} g a t k t' k' (v ∷ vs) (v' ∷ vs') m m' len cut =
    let whole : m.0 ++ (m.1 ++ k) ≡ m'.0 ++ (m'.1 ++ k') =
    sym (append_assoc m.0 m.1 k) ∙ ap (λ (x : List ℕ). x ++ k) (sym m.2) ∙ cut ∙ ap (λ (x : List ℕ). x ++ k') m'.2 ∙ append_assoc m'.0 m'.1 k' in
    let p = a.one m.0 (m.1 ++ k) m'.0 (m'.1 ++ k') v v' m.3 m'.3 whole in
    let rest : m.1 ++ k ≡ m'.1 ++ k' = append_cancel_left m.0 (m.1 ++ k) (m'.1 ++ k') (whole ∙ ap (λ (x : List ℕ). x ++ (m'.1 ++ k')) (sym p.0)) in
    let q = unique_many g a m.1 k m'.1 k' vs vs' m.4 m'.4 (omega (arith, len)) rest in
    (m.2 ∙ ap (λ (x : List ℕ). x ++ m.1) p.0 ∙ ap (λ (x : List ℕ). m'.0 ++ x) q.0 ∙ sym m'.2, ap (λ (x : V). x ∷ vs) p.1 ∙ ap (λ (x : List V). v' ∷ x) q.1)

unique_exactly : {V : Type 0} {g : Grammar V} (n : ℕ) → Unique g → Unique (exactly n g)
unique_exactly {V} {g} n a = record { one = λ t k t' k' vs vs' s s' cut. unique_many g a t k t' k' vs vs' s.0 s'.0 (omega (arith, s.1, s.2, s'.1, s'.2)) cut }

-- ---- no flaw in a text, whatever stands behind

pub record IsTidy {V : Type 0} (c : Checked V) (t : List ℕ) : Type 0 where
  pub no_flaw : (k : List ℕ) (at : ℕ) → c.flaw (t ++ k) at → ⊥

tidy_plain : {V : Type 0} {g : Grammar V} {t : List ℕ} → IsTidy (plain g) t
tidy_plain = record { no_flaw = λ k at f. f }

tidy_spoiled : {V : Type 0} {g : Grammar V} {place : ℕ} {bad : V → Type 0} {t : List ℕ} (v : V) → Unique g → g t v → (bad v → ⊥) → IsTidy (spoiled g place bad) t
tidy_spoiled {V} {g} {place} {bad} {t} v a s good = record {
  no_flaw = λ k at f. let p = a.one t k f.front f.back v f.met s f.fits f.parts in good (subst bad (sym p.1) f.is_bad);
}

tidy_then : {V W : Type 0} {c : Checked V} {d : V → Checked W} {t : List ℕ} {w : W} → Unique c.loose → (s : Sequence c.loose (λ v. (d v).loose) t w) → IsTidy c s.front → IsTidy (d s.met) s.back → IsTidy (c >>= d) t
tidy_then {V} {W} {c} {d} {t} {w} a s first second = record {
  no_flaw = λ k at f.
      let whole : t ++ k ≡ s.front ++ (s.back ++ k) = ap (λ (x : List ℕ). x ++ k) s.parts ∙ append_assoc s.front s.back k in
      elim f [
        | inl x ↦ first.no_flaw (s.back ++ k) at (subst (λ (b : List ℕ). c.flaw b at) whole x)
        | inr b ↦
            let cut : s.front ++ (s.back ++ k) ≡ b.front ++ b.back = sym whole ∙ b.parts in
            let p = a.one s.front (s.back ++ k) b.front b.back s.met b.met s.in_first b.fits cut in
            let rest : s.back ++ k ≡ b.back = append_cancel_left s.front (s.back ++ k) b.back (cut ∙ ap (λ (x : List ℕ). x ++ b.back) (sym p.0)) in
            second.no_flaw k b.place (subst (λ (x : List ℕ). (d s.met).flaw x b.place) (sym rest) (subst (λ (v : V). (d v).flaw b.back b.place) (sym p.1) b.is))
      ];
}

-- each of a list in its turn
module _ {V : Type 0} (g : Grammar V) (a : Unique g) (flaws : List V → List ℕ → ℕ → Type 0) (all : List V) (each : (earlier more : List V) (v : V) (t k : List ℕ) (at : ℕ) → all ≡ earlier ++ v ∷ more → g t v → flaws earlier (t ++ k) at → ⊥) where
  none_in : (before vs : List V) (t k : List ℕ) (front back : List ℕ) (earlier : List V) (place : ℕ) → all ≡ before ++ vs → many g t vs → many g front earlier → length earlier < length vs → t ++ k ≡ front ++ back
      → flaws (before ++ earlier) back place → ⊥
  none_in before [] t k front back earlier place whole m f lt cut is = omega (arith, lt)
  none_in before (v ∷ vs) t k front back [] place whole m f lt cut is =
      let here : back ≡ m.0 ++ (m.1 ++ k) = sym (cut ∙ ap (λ (x : List ℕ). x ++ back) f) ∙ ap (λ (x : List ℕ). x ++ k) m.2 ∙ append_assoc m.0 m.1 k in
      each before vs v m.0 (m.1 ++ k) place whole m.3
      (subst (λ (x : List ℕ). flaws before x place) here (subst (λ (x : List V). flaws x back place) (append-nil before) is))
  none_in before (v ∷ vs) t k front back (e ∷ es) place whole m f lt cut is =
      let all-of : m.0 ++ (m.1 ++ k) ≡ f.0 ++ (f.1 ++ back) =
      sym (append_assoc m.0 m.1 k) ∙ ap (λ (x : List ℕ). x ++ k) (sym m.2) ∙ cut ∙ ap (λ (x : List ℕ). x ++ back) f.2 ∙ append_assoc f.0 f.1 back in
      let p = a.one m.0 (m.1 ++ k) f.0 (f.1 ++ back) v e m.3 f.3 all-of in
      let rest : m.1 ++ k ≡ f.1 ++ back = append_cancel_left m.0 (m.1 ++ k) (f.1 ++ back) (all-of ∙ ap (λ (x : List ℕ). x ++ (f.1 ++ back)) (sym p.0)) in
      none_in (before ++ v ∷ []) vs m.1 k f.1 back es place (whole ∙ sym (append_assoc before (v ∷ []) vs)) m.4 f.4 (omega (arith, lt)) rest
      (subst (λ (x : List V). flaws x back place) (ap (λ (x : V). before ++ x ∷ es) (sym p.1) ∙ sym (append_assoc before (v ∷ []) es)) is)

  tidy_each : (n : ℕ) (t : List ℕ) → exactly n g t all → IsTidy (exactly_checked n g flaws) t
  tidy_each n t s = record {
    no_flaw = λ k at f. none_in [] all t k f.front f.back f.met f.place refl s.0 f.fits.0 (omega (arith, s.1, f.fits.1)) f.parts f.is;
  }

-- ---- ontologies

unique_tagged : (concepts roles tag : ℕ) → Unique (tagged concepts roles tag).loose
unique_tagged concepts roles tag = unique_then (unique_number 2) (λ n. unique_means)

unique_member : (concepts roles : ℕ) → Unique (member concepts roles).loose
unique_member concepts roles = unique_then (unique_byte 1 3) (λ tag. unique_tagged concepts roles tag)

unique_tagged_head : (concepts roles tag : ℕ) → Unique (tagged_head concepts roles tag).loose
unique_tagged_head concepts roles zero = unique_then (unique_literal (0 ∷ 0 ∷ [])) (λ _. unique_means)
unique_tagged_head concepts roles (suc t) = unique_then (unique_tagged concepts roles (suc t)) (λ b. unique_means)

unique_head : (concepts roles : ℕ) → Unique (some_head concepts roles).loose
unique_head concepts roles = unique_then (unique_byte 0 3) (λ tag. unique_tagged_head concepts roles tag)

unique_inclusion : (concepts roles : ℕ) → Unique (inclusion concepts roles).loose
unique_inclusion concepts roles =
    unique_then (unique_byte 1 8) (λ n. unique_then (unique_exactly n (unique_member concepts roles)) (λ body. unique_then (unique_head concepts roles) (λ head. unique_means)))

unique_names : (most : ℕ) → Unique (names most).loose
unique_names most = unique_then (unique_count most) (λ n. unique_exactly n unique_name)

unique_inclusions : (concepts roles : ℕ) → Unique (inclusions concepts roles).loose
unique_inclusions concepts roles = unique_then (unique_count 4096) (λ n. unique_exactly n (unique_inclusion concepts roles))

pub unique_ontology : Unique ontology.loose
unique_ontology = unique_then (unique_names 512) (λ concepts. unique_then (unique_names 256) (λ roles. unique_then (unique_inclusions (length concepts) (length roles)) (λ is. unique_means)))

in_range : (concepts roles tag n : ℕ) → IsPlaced concepts roles (basic_of tag n) → limit_of concepts roles tag ≤ n → ⊥
in_range concepts roles tag n is le = by (tag == 1) is le
  where
    by : (b : Bool) → IsPlaced concepts roles (cond b (basic.Concept n) (basic.Exists (record { name = n; inverse = tag == 3 }))) → cond b concepts roles ≤ n → ⊥
    by true is le = omega (arith, is, le)
    by false is le = omega (arith, is, le)

tidy_tagged : (concepts roles tag : ℕ) (t : List ℕ) (b : Basic) → (tagged concepts roles tag).loose t b → IsPlaced concepts roles b → IsTidy (tagged concepts roles tag) t
tidy_tagged concepts roles tag t b s is =
    tidy_then (unique_number 2) s
    (tidy_spoiled s.met (unique_number 2) s.in_first (in_range concepts roles tag s.met (subst (λ (x : Basic). IsPlaced concepts roles x) s.in_second.1 is)))
    tidy_plain

tidy_member : (concepts roles : ℕ) (t : List ℕ) (b : Basic) → (member concepts roles).loose t b → IsPlaced concepts roles b → IsTidy (member concepts roles) t
tidy_member concepts roles t b s is = tidy_then (unique_byte 1 3) s tidy_plain (tidy_tagged concepts roles s.met s.back b s.in_second is)

tidy_tagged_head : (concepts roles tag : ℕ) (t : List ℕ) (h : Head) → (tagged_head concepts roles tag).loose t h → IsPlacedHead concepts roles h → IsTidy (tagged_head concepts roles tag) t
tidy_tagged_head concepts roles zero t h s is = tidy_then (unique_literal (0 ∷ 0 ∷ [])) s tidy_plain tidy_plain
tidy_tagged_head concepts roles (suc n) t h s is =
    tidy_then (unique_tagged concepts roles (suc n)) s
    (tidy_tagged concepts roles (suc n) s.front s.met s.in_first (subst (λ (x : Head). IsPlacedHead concepts roles x) s.in_second.1 is))
    tidy_plain

tidy_head : (concepts roles : ℕ) (t : List ℕ) (h : Head) → (some_head concepts roles).loose t h → IsPlacedHead concepts roles h → IsTidy (some_head concepts roles) t
tidy_head concepts roles t h s is = tidy_then (unique_byte 0 3) s tidy_plain (tidy_tagged_head concepts roles s.met s.back h s.in_second is)

one_of : {X : Type 0} (P : X → Type 0) (earlier more : List X) (x : X) (all : List X) → all ≡ earlier ++ x ∷ more → All P all → P x
one_of {X} P earlier more x all e h = All-contains P all x h (subst (λ (l : List X). Contains l x) (sym e) (middle earlier))
  where
    middle : (earlier : List X) → Contains (earlier ++ x ∷ more) x
    middle [] = (0, omega arith, refl)
    middle (y ∷ ys) = let c = middle ys in (suc c.0, omega (arith, c.1), c.2)

tidy_inclusion : (concepts roles : ℕ) (t : List ℕ) (i : Inclusion) → (inclusion concepts roles).loose t i → IsWithin concepts roles i → IsTidy (inclusion concepts roles) t
tidy_inclusion concepts roles t i s is =
    let b = s.in_second in
    let h = b.in_second in
    let i-is : i ≡ record { body = b.met; head = h.met } = h.in_second.1 in
    let w : IsWithin concepts roles (record { body = b.met; head = h.met }) = subst (λ (x : Inclusion). IsWithin concepts roles x) i-is is in
    tidy_then (unique_byte 1 8) s tidy_plain
    (tidy_then (unique_exactly s.met (unique_member concepts roles)) b
    (tidy_each (member concepts roles).loose (unique_member concepts roles) (λ _. (member concepts roles).flaw) b.met
    (λ earlier more v t' k at e g f. (tidy_member concepts roles t' v g (one_of (IsPlaced concepts roles) earlier more v b.met e w.body)).no_flaw k at f)
    s.met b.front b.in_first)
    (tidy_then (unique_head concepts roles) h (tidy_head concepts roles h.front h.met h.in_first w.head) tidy_plain))

front_item : (xs ys : List (List ℕ)) (k : ℕ) (d : List ℕ) → k < length xs → get_or (xs ++ ys) k d ≡ get_or xs k d
front_item [] ys k d lt = absurd (omega (arith, lt))
front_item (x ∷ xs) ys zero d lt = refl
front_item (x ∷ xs) ys (suc k) d lt = front_item xs ys k d (omega (arith, lt))

seam_item : (xs ys : List (List ℕ)) (x d : List ℕ) → get_or (xs ++ x ∷ ys) (length xs) d ≡ x
seam_item [] ys x d = refl
seam_item (y ∷ xs) ys x d = seam_item xs ys x d

distinct_from : (earlier more : List (List ℕ)) (v : List ℕ) (all : List (List ℕ)) → all ≡ earlier ++ v ∷ more → AllPairs (λ x y. x ≢ y) all → Contains earlier v → ⊥
distinct_from earlier more v all e d c =
    let apart : AllPairs (λ x y. x ≢ y) (earlier ++ v ∷ more) = subst (λ (l : List (List ℕ)). AllPairs (λ x y. x ≢ y) l) e d in
    let inside : length earlier < length (earlier ++ v ∷ more) = omega (arith, length-append earlier (v ∷ more)) in
    apart c.0 (length earlier) v c.1 inside (front_item earlier (v ∷ more) c.0 v c.1 ∙ c.2 ∙ sym (seam_item earlier more v v))

tidy_names : (most : ℕ) (t : List ℕ) (vs : List (List ℕ)) → (names most).loose t vs → AllPairs (λ x y. x ≢ y) vs → IsTidy (names most) t
tidy_names most t vs s d =
    tidy_then (unique_count most) s tidy_plain
    (tidy_each spelled_name unique_name (λ earlier. (new_name earlier).flaw) vs
    (λ earlier more v t' k at e g f. (tidy_spoiled {place = 1} {bad = Contains earlier} v unique_name g (distinct_from earlier more v vs e d)).no_flaw k at f)
    s.met s.back s.in_second)

tidy_inclusions : (concepts roles : ℕ) (t : List ℕ) (is : List Inclusion) → (inclusions concepts roles).loose t is → All (IsWithin concepts roles) is → IsTidy (inclusions concepts roles) t
tidy_inclusions concepts roles t is s within =
    tidy_then (unique_count 4096) s tidy_plain
    (tidy_each (inclusion concepts roles).loose (unique_inclusion concepts roles) (λ _. (inclusion concepts roles).flaw) is
    (λ earlier more v t' k at e g f. (tidy_inclusion concepts roles t' v g (one_of (IsWithin concepts roles) earlier more v is e within)).no_flaw k at f)
    s.met s.back s.in_second)

tidy_ontology : (t : List ℕ) (o : Terminology) → ontology.loose t o → IsTerminology o → IsTidy ontology t
tidy_ontology t o s is =
    let r = s.in_second in
    let i = r.in_second in
    let o-is : o ≡ record { concepts = s.met; roles = r.met; inclusions = i.met } = i.in_second.1 in
    let w : IsTerminology (record { concepts = s.met; roles = r.met; inclusions = i.met }) = subst IsTerminology o-is is in
    tidy_then (unique_names 512) s (tidy_names 512 s.front s.met s.in_first w.distinct_concepts)
    (tidy_then (unique_names 256) r (tidy_names 256 r.front r.met r.in_first w.distinct_roles)
    (tidy_then (unique_inclusions (length s.met) (length r.met)) i (tidy_inclusions (length s.met) (length r.met) i.front i.met i.in_first w.within) tidy_plain))

-- a payload has no flaw
pub flawless : (text : List ℕ) (o : Terminology) (at : ℕ) → ontology_payload text o → ontology.flaw text at → ⊥
flawless text o at p f = (tidy_ontology text o p.0 p.1).no_flaw [] at (subst (λ (a : List ℕ). ontology.flaw a at) (sym (append-nil text)) f)
