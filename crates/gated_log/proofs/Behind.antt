-- What an area with a new entry behind its closed gate stands for.
use Rattle.std.proofs.Common.{◌≡◌, ◌≢◌, ◌⊎◌, ◌<◌, ◌≤◌, ◌+◌, inl, inr, ⊎_elim, ℕ, List, [], ◌∷◌, ◌++◌, length, take, drop, sym, ◌∙◌, ap, subst, arith, append_assoc, length-append, take-append-drop}
use Rattle.std.proofs.lemmas.List.{take_at, drop_at, append-nil}
use Rattle.std.proofs.lemmas.List.Elements.{All-push}
use Rattle.std.proofs.lemmas.Bool.{cases_eq}
use Rattle.host_io.specs.Disk.{put}
use Rattle.area_layout.specs.Layout.{head_bytes}
use Rattle.gated_log.specs.Entries.{top, Bounds, Entry, body, spelling, BeginsWithEntries, IsWithinLimit, Stands, gate_place, IsEntry}

pub spelling-push : (es : List Entry) (e : Entry) → spelling (es ++ e ∷ []) ≡ spelling es ++ 1 ∷ body e
spelling-push [] e = ap (λ (l : List ℕ). 1 ∷ l) (append-nil (body e))
spelling-push (d ∷ es) e =
    ap (λ (l : List ℕ). 1 ∷ body d ++ l) (spelling-push es e)
    ∙ ap (λ (l : List ℕ). 1 ∷ l) (sym (append_assoc (body d) (spelling es) (1 ∷ body e)))

pub length-body : (e : Entry) → length (body e) ≡ 5 + length e.payload
length-body e = length-append (head_bytes (record { kind = e.kind; len = length e.payload })) e.payload

-- the gate behind one more entry
pub place_more : (entries : List Entry) (e : Entry) → gate_place (entries ++ e ∷ []) ≡ gate_place entries + 6 + length e.payload
place_more entries e = omega (arith, ap length (spelling-push entries e), length-append (spelling entries) (1 ∷ body e), length-body e)

pub fits_when : (limit : ℕ) (entries : List Entry) → gate_place entries ≤ limit → IsWithinLimit limit entries
fits_when limit [] le = tt
fits_when limit (e ∷ es) le = le

-- the area with one more of its entries in front
pub begins_more : (b : Bounds) (area : List ℕ) (entries : List Entry) (e : Entry) (rest more : List ℕ) → BeginsWithEntries b area entries rest → IsEntry b e → gate_place entries + 6 + length e.payload ≤ b.limit
    → rest ≡ 1 ∷ body e ++ more → BeginsWithEntries b area (entries ++ e ∷ []) more
begins_more b area entries e rest more s is le spelled = record {
  each = All-push (IsEntry b) entries e s.each is;
  fits = fits_when b.limit (entries ++ e ∷ []) (omega (arith, place_more entries e));
  spelled = s.spelled
      ∙ ap (λ (l : List ℕ). top ++ spelling entries ++ l) spelled
      ∙ append_assoc top (spelling entries) (1 ∷ body e ++ more)
      ∙ ap (λ (l : List ℕ). top ++ l) (sym (append_assoc (spelling entries) (1 ∷ body e) more))
      ∙ ap (λ (l : List ℕ). top ++ (l ++ more)) (sym (spelling-push entries e))
      ∙ sym (append_assoc top (spelling (entries ++ e ∷ [])) more);
}

module _ (b : Bounds) (old : List ℕ) (entries : List Entry) (s : Stands b old entries) (end : ℕ) (place : gate_place entries ≡ end) where
  -- the header and the entries
  before : List ℕ
  before = top ++ spelling entries

  size : length before ≡ end
  unfolding before
  size = length-append top (spelling entries) ∙ place

  pub gate_within : end < length old
  unfolding before
  gate_within = omega (arith, ap length s.begins.spelled, length-append before (s.gate ∷ s.more), size)

  up_to_gate : take (end + 1) old ≡ before ++ s.gate ∷ []
  unfolding before
  up_to_gate =
      ap (take (end + 1)) (s.begins.spelled ∙ sym (append_assoc before (s.gate ∷ []) s.more))
      ∙ take_at (before ++ s.gate ∷ []) s.more (end + 1) (omega (arith, length-append before (s.gate ∷ []), size))

  -- bytes with the same front up to the closed gate stand for the same entries
  pub same_front : (c : List ℕ) → take (end + 1) c ≡ take (end + 1) old → Stands b c entries
  unfolding before
  same_front c is = record {
    gate = s.gate;
    more = drop (end + 1) c;
    closed = s.closed;
    begins = record {
      each = s.begins.each;
      fits = s.begins.fits;
      spelled = sym (take-append-drop (end + 1) c) ∙ ap (λ (l : List ℕ). l ++ drop (end + 1) c) (is ∙ up_to_gate) ∙ append_assoc before (s.gate ∷ []) (drop (end + 1) c);
    };
  }

  -- bytes behind the gate, and any byte in its place
  with_gate : (x : ℕ) (bytes : List ℕ) → put end (x ∷ []) (put (end + 1) bytes old) ≡ before ++ (x ∷ bytes ++ drop (end + 1 + length bytes) old)
  unfolding before
  with_gate x bytes =
      let rest = drop (end + 1 + length bytes) old in
      let front = before ++ s.gate ∷ [] in
      let long : length front ≡ end + 1 = omega (arith, length-append before (s.gate ∷ []), size) in
      let written : put (end + 1) bytes old ≡ front ++ (bytes ++ rest) =
      ap (λ (l : List ℕ). l ++ bytes ++ rest) up_to_gate ∙ append_assoc front bytes rest in
      let same : put (end + 1) bytes old ≡ before ++ (s.gate ∷ bytes ++ rest) = written ∙ append_assoc before (s.gate ∷ []) (bytes ++ rest) in
      let head : take end (put (end + 1) bytes old) ≡ before = ap (take end) same ∙ take_at before (s.gate ∷ bytes ++ rest) end size in
      let tail : drop (end + 1) (put (end + 1) bytes old) ≡ bytes ++ rest = ap (drop (end + 1)) written ∙ drop_at front (bytes ++ rest) (end + 1) long in
      ap (λ (l : List ℕ). l ++ (x ∷ []) ++ drop (end + 1) (put (end + 1) bytes old)) head
      ∙ ap (λ (l : List ℕ). before ++ (x ∷ []) ++ l) tail
      ∙ append_assoc before (x ∷ []) (bytes ++ rest)

  -- a closed gate leaves the entries as they were
  pub shut : (x : ℕ) (bytes : List ℕ) → x ≢ 1 → Stands b (put end (x ∷ []) (put (end + 1) bytes old)) entries
  unfolding before
  shut x bytes closed = record {
    gate = x;
    more = bytes ++ drop (end + 1 + length bytes) old;
    closed = closed;
    begins = record { each = s.begins.each; fits = s.begins.fits; spelled = with_gate x bytes };
  }

  -- an open one adds the entry
  pub opened : (e : Entry) → IsEntry b e → end + 6 + length e.payload ≤ b.limit → Stands b (put end (1 ∷ []) (put (end + 1) (body e ++ 0 ∷ []) old)) (entries ++ e ∷ [])
  unfolding before
  opened e is le =
      let bytes = body e ++ 0 ∷ [] in
      let rest = drop (end + 1 + length bytes) old in
      let so_far : BeginsWithEntries b (put end (1 ∷ []) (put (end + 1) bytes old)) entries (1 ∷ bytes ++ rest) = record { each = s.begins.each; fits = s.begins.fits; spelled = with_gate 1 bytes } in
      record {
        gate = 0;
        more = rest;
        closed = omega arith;
        begins = begins_more b (put end (1 ∷ []) (put (end + 1) bytes old)) entries e (1 ∷ bytes ++ rest) (0 ∷ rest) so_far is (omega (arith, place, le)) (ap (λ (l : List ℕ). 1 ∷ l) (append_assoc (body e) (0 ∷ []) rest));
      }

  pub either : (e : Entry) → IsEntry b e → end + 6 + length e.payload ≤ b.limit → (x : ℕ)
      → Stands b (put end (x ∷ []) (put (end + 1) (body e ++ 0 ∷ []) old)) entries ⊎ Stands b (put end (x ∷ []) (put (end + 1) (body e ++ 0 ∷ []) old)) (entries ++ e ∷ [])
  either e is le x = ⊎_elim
      (λ one. inr (subst (λ v. Stands b (put end (v ∷ []) (put (end + 1) (body e ++ 0 ∷ []) old)) (entries ++ e ∷ [])) (sym one) (opened e is le)))
      (λ other. inl (shut x (body e ++ 0 ∷ []) other))
      (cases_eq x 1)
