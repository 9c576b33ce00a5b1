-- Every area is fresh, stands for entries, or offends: an area is read up to its closed gate, or to the gate where it offends.
use Rattle.std.proofs.Common.{◌≡◌, ◌≢◌, ◌⊎◌, ◌≤◌, ◌+◌, ◌*◌, inl, inr, ⊎_elim, ℕ, zero, suc, List, [], ◌∷◌, ◌++◌, length, get_or, take, drop, refl, sym, ◌∙◌, ap, arith, append_assoc, length-append, take-append-drop}
use Rattle.std.proofs.lemmas.Bool.{cases_eq, cases_lt}
use Rattle.std.proofs.lemmas.List.{length-drop, length-take}
use Rattle.area_layout.specs.Layout.{head_bytes}
use Rattle.area_layout.specs.declared.entry_head.EntryHead.{EntryHead}
use Rattle.gated_log.specs.Entries.{Bounds, BeginsWithEntries, Entry, IsEntry, IsFresh, OffendsBehind, Stands, body, gate_place, top}
use Rattle.gated_log.specs.Laws.{IsOneOfThree}
use Rattle.gated_log.proofs.Behind.{begins_more}
use Rattle.gated_log.proofs.Fresh.{top_begins}

same_or_not : (xs ys : List ℕ) → (xs ≡ ys) ⊎ (xs ≢ ys)
same_or_not [] [] = inl refl
same_or_not [] (y ∷ ys) = inr (λ e. cc)
same_or_not (x ∷ xs) [] = inr (λ e. cc)
same_or_not (x ∷ xs) (y ∷ ys) = ⊎_elim
    (λ head. ⊎_elim (λ tail. inl (cc)) (λ other. inr (λ e. other (ap (drop 1) e))) (same_or_not xs ys))
    (λ other. inr (λ e. other (ap (λ (l : List ℕ). get_or l 0 0) e)))
    (cases_eq x y)

fresh_or_not : (area : List ℕ) → IsFresh area ⊎ (IsFresh area → ⊥)
fresh_or_not area = ⊎_elim
    (λ long. ⊎_elim
    (λ is_open. inr (λ fresh. ⊎_elim (λ short. omega (arith, short, long)) (λ shut. shut is_open) fresh))
    (λ shut. inl (inr shut))
    (cases_eq (get_or area 0 0) 1))
    (λ short. inl (inl short))
    (cases_lt 1 (length area))

-- the bytes behind an open gate begin with this entry, and the gate behind it is not past the limit
record HasEntry (b : Bounds) (gate : ℕ) (behind : List ℕ) (e : Entry) (more : List ℕ) : Type 0 where
  is : IsEntry b e
  fits : gate + 6 + length e.payload ≤ b.limit
  spelled : behind ≡ body e ++ more

-- the length that four bytes spell
length_in : List ℕ → ℕ
length_in xs = get_or xs 1 0 * 16777216 + get_or xs 2 0 * 65536 + get_or xs 3 0 * 256 + get_or xs 4 0

module _ (b : Bounds) (gate : ℕ) (behind : List ℕ) where
  -- the only head that the bytes may begin with
  head : EntryHead
  head = record { kind = get_or behind 0 0; len = length_in behind }

  -- what an entry behind the gate would say of the bytes
  record Agrees : Type 0 where
    front : take 5 behind ≡ head_bytes head
    least_kind : 1 ≤ get_or behind 0 0
    greatest_kind : get_or behind 0 0 ≤ b.greatest_kind
    payload : length_in behind ≤ 8388608
    fits : gate + 6 + length_in behind ≤ b.limit
    whole : length_in behind ≤ length (drop 5 behind)

  agrees : (e : Entry) (more : List ℕ) → HasEntry b gate behind e more → Agrees
  unfolding head length_in
  agrees e more h =
      let kind : get_or behind 0 0 ≡ e.kind = ap (λ (l : List ℕ). get_or l 0 0) h.spelled in
      let len : length_in behind ≡ length e.payload = omega (arith, h.is.payload, ap (λ (l : List ℕ). get_or l 1 0) h.spelled, ap (λ (l : List ℕ). get_or l 2 0) h.spelled, ap (λ (l : List ℕ). get_or l 3 0) h.spelled, ap (λ (l : List ℕ). get_or l 4 0) h.spelled) in
      let tail : drop 5 behind ≡ e.payload ++ more = ap (drop 5) h.spelled in
      record {
        front = ap (take 5) h.spelled ∙ ap (λ n. head_bytes (record { kind = n; len = length e.payload })) (sym kind) ∙ ap (λ n. head_bytes (record { kind = get_or behind 0 0; len = n })) (sym len);
        least_kind = omega (arith, kind, h.is.least_kind);
        greatest_kind = omega (arith, kind, h.is.greatest_kind);
        payload = omega (arith, len, h.is.payload);
        fits = omega (arith, len, h.fits);
        whole = omega (arith, len, ap length tail, length-append e.payload more);
      }

  entry_when : Agrees → (e : Entry) × (more : List ℕ) × HasEntry b gate behind e more
  unfolding head
  entry_when a =
      let payload = take (length_in behind) (drop 5 behind) in
      let more = drop (length_in behind) (drop 5 behind) in
      let e : Entry = record { kind = get_or behind 0 0; payload = payload } in
      let long : length payload ≡ length_in behind = omega (arith, length-take (length_in behind) (drop 5 behind), a.whole) in (
        e,
        more,
        record {
          is = record { least_kind = a.least_kind; greatest_kind = a.greatest_kind; payload = omega (arith, long, a.payload) };
          fits = omega (arith, long, a.fits);
          spelled = sym (take-append-drop 5 behind)
              ∙ ap (λ (l : List ℕ). l ++ drop 5 behind) a.front
              ∙ ap (λ n. head_bytes (record { kind = get_or behind 0 0; len = n }) ++ drop 5 behind) (sym long)
              ∙ ap (λ (l : List ℕ). head_bytes (record { kind = get_or behind 0 0; len = length payload }) ++ l) (sym (take-append-drop (length_in behind) (drop 5 behind)))
              ∙ sym (append_assoc (head_bytes (record { kind = get_or behind 0 0; len = length payload })) payload more);
        },
      )

  within_or_not : Agrees ⊎ (Agrees → ⊥)
  within_or_not =
      ⊎_elim
      (λ front. ⊎_elim (λ few. inr (λ a. omega (arith, few, a.least_kind)))
      (λ least. ⊎_elim (λ great. inr (λ a. omega (arith, great, a.greatest_kind)))
      (λ greatest. ⊎_elim (λ long. inr (λ a. omega (arith, long, a.payload)))
      (λ payload. ⊎_elim (λ past. inr (λ a. omega (arith, past, a.fits)))
      (λ fits. ⊎_elim (λ cut. inr (λ a. omega (arith, cut, a.whole)))
      (λ whole. inl (record { front = front; least_kind = least; greatest_kind = greatest; payload = payload; fits = fits; whole = whole }))
      (cases_lt (length (drop 5 behind)) (length_in behind)))
      (cases_lt b.limit (gate + 6 + length_in behind)))
      (cases_lt 8388608 (length_in behind)))
      (cases_lt b.greatest_kind (get_or behind 0 0)))
      (cases_lt (get_or behind 0 0) 1))
      (λ other. inr (λ a. other a.front))
      (same_or_not (take 5 behind) (head_bytes head))

  entry_or_none : ((e : Entry) × (more : List ℕ) × HasEntry b gate behind e more) ⊎ ((e : Entry) (more : List ℕ) → HasEntry b gate behind e more → ⊥)
  entry_or_none = ⊎_elim (λ a. inl (entry_when a)) (λ none. inr (λ e more h. none (agrees e more h))) within_or_not

Ends : Bounds → List ℕ → Type 0
Ends b area = ((es : List Entry) × Stands b area es) ⊎ ((at : ℕ) × OffendsBehind b area at)

-- from a gate on, in so many steps at most
read_on : (n : ℕ) (b : Bounds) (area : List ℕ) (entries : List Entry) (rest : List ℕ) → length rest ≤ n → BeginsWithEntries b area entries rest → Ends b area
unfolding Ends
read_on n b area entries [] le s = inr (gate_place entries, record { entries = entries; rest = []; begins = s; place = refl; offence = inl refl })
read_on zero b area entries (g ∷ behind) le s = absurd (omega arith)
read_on (suc n) b area entries (g ∷ behind) le s = ⊎_elim
    (λ is_open. ⊎_elim
    (λ found. read_on n b area (entries ++ found.0 ∷ []) found.1 (omega (arith, le, ap length found.2.spelled, length-append (body found.0) found.1))
    (begins_more b area entries found.0 (g ∷ behind) found.1 s found.2.is found.2.fits (ap (λ x. x ∷ behind) is_open ∙ ap (λ (l : List ℕ). 1 ∷ l) found.2.spelled)))
    (λ none. inr (
      gate_place entries,
      record {
        entries = entries;
        rest = g ∷ behind;
        begins = s;
        place = refl;
        offence = inr (record {
          behind = behind;
          is_open = ap (λ x. x ∷ behind) is_open;
          not_whole = λ e more is fits spelled. none e more (record { is = is; fits = fits; spelled = spelled });
        });
      },
    ))
    (entry_or_none b (gate_place entries) behind))
    (λ closed. inl (entries, record { gate = g; more = behind; closed = closed; begins = s }))
    (cases_eq g 1)

pub is_one_of_three : IsOneOfThree
unfolding Ends
is_one_of_three b area = ⊎_elim
    (λ fresh. inl fresh)
    (λ other. ⊎_elim
    (λ headed. ⊎_elim
    (λ stands. inr (inl stands))
    (λ offends. inr (inr (offends.0, inr offends.1)))
    (read_on (length area) b area [] (drop 17 area) (omega (arith, length-drop {A = ℕ} 17 area)) (top_begins b area headed)))
    (λ wrong. inr (inr (0, inl (record { place = refl; not_fresh = other; wrong = wrong }))))
    (same_or_not (take 17 area) top))
    (fresh_or_not area)
