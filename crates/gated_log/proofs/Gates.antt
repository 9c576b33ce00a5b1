-- What was read at a gate, and what it says of the area.
use Rattle.std.proofs.Common.{◌≡◌, ◌≢◌, ◌⊎◌, ◌<◌, ◌≤◌, ◌+◌, ◌^◌, ℕ, List, [], ◌∷◌, ◌++◌, length, get_or, take, drop, sym, ◌∙◌, ap, subst, arith, append_assoc, length-append, take-append-drop, min}
use Rattle.std.proofs.lemmas.List.{drop_at, length-take, take_min}
use Rattle.host_io.specs.Disk.{IsCopy}
use Rattle.area_layout.specs.Layout.{head_bytes}
use Rattle.area_layout.specs.declared.entry_head.EntryHead.{EntryHead}
use Rattle.gated_log.specs.Entries.{Bounds, Entry, BeginsWithEntries, IsBroken, IsEntry, OffendsBehind, Stands, body, gate_place, spelling, top}
use Rattle.gated_log.specs.Front.{IsOpen, IsHeadWithin}
use Rattle.gated_log.specs.Reading.{entry_in}
use Rattle.gated_log.proofs.Behind.{begins_more, place_more}

-- the front of the buffer, as far as it was filled, is the front of what stands there
pub copied : (bytes : List ℕ) (at count n : ℕ) (buffer : List ℕ) → IsCopy bytes at count buffer → length buffer ≡ n → take count buffer ≡ take n (drop at bytes)
copied bytes at count n buffer is long = is.front ∙ ap (λ m. take m (drop at bytes)) (is.count_is ∙ ap (λ m. min m (length (drop at bytes))) long) ∙ take_min n (drop at bytes)

-- the same bytes are the head of one entry alone
pub head_of_one : (h k : EntryHead) → h.len < 2 ^ 32 → k.len < 2 ^ 32 → head_bytes h ≡ head_bytes k → (h.kind ≡ k.kind) × (h.len ≡ k.len)
head_of_one h k h_fits k_fits is = (ap (λ (l : List ℕ). get_or l 0 0) is, omega (arith, h_fits, k_fits, ap (λ (l : List ℕ). get_or l 1 0) is, ap (λ (l : List ℕ). get_or l 2 0) is, ap (λ (l : List ℕ). get_or l 3 0) is, ap (λ (l : List ℕ). get_or l 4 0) is))

module _ (b : Bounds) (area : List ℕ) (entries : List Entry) (rest : List ℕ) (s : BeginsWithEntries b area entries rest) (gate : ℕ) (place : gate_place entries ≡ gate) where
  before : List ℕ
  before = top ++ spelling entries

  size : length before ≡ gate
  unfolding before
  size = length-append top (spelling entries) ∙ place

  -- the rest stands at the gate
  pub rest_at : drop gate area ≡ rest
  unfolding before
  rest_at = ap (drop gate) s.spelled ∙ drop_at before rest gate size

  -- a closed gate ends the entries
  pub ends : (byte : ℕ) (more : List ℕ) → rest ≡ byte ∷ more → byte ≢ 1 → Stands b area entries
  ends byte more is closed = record { gate = byte; more = more; closed = closed; begins = subst (BeginsWithEntries b area entries) is s }

  pub offends : (rest ≡ []) ⊎ IsBroken b gate rest → OffendsBehind b area gate
  offends offence = record { entries = entries; rest = rest; begins = s; place = sym place; offence = offence }

  module _ (h : EntryHead) (open_at : IsOpen rest h) (inside : IsHeadWithin b gate h) where
    fits : h.len < 2 ^ 32
    fits = omega (arith, inside.payload)

    -- the payload stands behind the head
    pub payload_at : drop (gate + 6) area ≡ drop 5 open_at.behind
    unfolding before
    payload_at =
        let front = before ++ (1 ∷ head_bytes h) in
        let all : rest ≡ (1 ∷ head_bytes h) ++ drop 5 open_at.behind =
        open_at.is_open ∙ ap (λ (l : List ℕ). 1 ∷ l) (sym (take-append-drop 5 open_at.behind) ∙ ap (λ (l : List ℕ). l ++ drop 5 open_at.behind) open_at.head) in
        ap (drop (gate + 6)) (s.spelled ∙ ap (λ (l : List ℕ). before ++ l) all ∙ sym (append_assoc before (1 ∷ head_bytes h) (drop 5 open_at.behind)))
        ∙ drop_at front (drop 5 open_at.behind) (gate + 6) (omega (arith, length-append before (1 ∷ head_bytes h), size))

    -- all of the payload is there
    pub goes_on : (buffer : List ℕ) → h.len ≤ length (drop (gate + 6) area) → take h.len buffer ≡ take h.len (drop (gate + 6) area) → (more : List ℕ) × BeginsWithEntries b area (entries ++ entry_in h.kind h.len buffer ∷ []) more × (gate_place (entries ++ entry_in h.kind h.len buffer ∷ []) ≡ gate + 6 + h.len)
    goes_on buffer enough same =
        let e = entry_in h.kind h.len buffer in
        let payload = take h.len (drop 5 open_at.behind) in
        let more = drop h.len (drop 5 open_at.behind) in
        let payload_is : e.payload ≡ payload = same ∙ ap (take h.len) payload_at in
        let long : length e.payload ≡ h.len = omega (arith, ap length same, length-take h.len (drop (gate + 6) area), enough) in
        let is : IsEntry b e = record { least_kind = inside.least_kind; greatest_kind = inside.greatest_kind; payload = omega (arith, long, inside.payload) } in
        let spelled : rest ≡ 1 ∷ body e ++ more =
        open_at.is_open
        ∙ ap (λ (l : List ℕ). 1 ∷ l) (sym (take-append-drop 5 open_at.behind))
        ∙ ap (λ (l : List ℕ). 1 ∷ l ++ drop 5 open_at.behind) open_at.head
        ∙ ap (λ (l : List ℕ). 1 ∷ head_bytes h ++ l) (sym (take-append-drop h.len (drop 5 open_at.behind)))
        ∙ ap (λ (l : List ℕ). 1 ∷ head_bytes h ++ (l ++ more)) (sym payload_is)
        ∙ ap (λ n. 1 ∷ head_bytes (record { kind = h.kind; len = n }) ++ (e.payload ++ more)) (sym long)
        ∙ ap (λ (l : List ℕ). 1 ∷ l) (sym (append_assoc (head_bytes (record { kind = h.kind; len = length e.payload })) e.payload more)) in
        (more, begins_more b area entries e rest more s is (omega (arith, long, inside.fits, place)) spelled, omega (arith, place_more entries e, place, long))

    -- the payload ends too early
    pub cut_off : length (drop (gate + 6) area) < h.len → IsBroken b gate rest
    cut_off few = record {
      behind = open_at.behind;
      is_open = open_at.is_open;
      not_whole = λ e more is le spelled.
          let k : EntryHead = record { kind = e.kind; len = length e.payload } in
          let heads : head_bytes h ≡ head_bytes k = sym open_at.head ∙ ap (take 5) spelled in
          let same = head_of_one h k fits (omega (arith, is.payload)) heads in
          let tail : drop 5 open_at.behind ≡ e.payload ++ more = ap (drop 5) spelled in
          omega (arith, few, ap length payload_at, ap length tail, length-append e.payload more, same.1);
    }
