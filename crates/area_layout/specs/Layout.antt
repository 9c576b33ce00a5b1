-- The spelling of the header of an area, and of the head of an entry. Numbers are unsigned and stand with their most
-- significant byte first.
use Rattle.std.specs.Prelude.{◌≡◌, ◌≢◌, ◌≤◌, ◌<◌, ◌^◌, ◌⊎◌, ℕ, List, ◌∷◌, ◌++◌, length, take, get_or, codes, Result, Ok, Err}
use Rattle.byteorder.specs.Endian.{big_bytes}
use Rattle.area_layout.specs.declared.header.Header.{Header}
use Rattle.area_layout.specs.declared.entry_head.EntryHead.{EntryHead}
use Rattle.area_layout.specs.declared.fault.LayoutError.{LayoutError}
use Rattle.area_layout.specs.declared.fault.LayoutError.TheVariants.{Short, Bad}

abbrev pub magic : List ℕ
magic = codes "OBDA"

-- the version is a number of 4 bytes, and the epoch one of 8
pub record IsHeader (h : Header) : Type 0 where
  pub version : h.version < 2 ^ 32
  pub epoch : h.epoch < 2 ^ 64

-- the magic, four bytes of version and eight of epoch
abbrev pub header_bytes : Header → List ℕ
header_bytes h = magic ++ big_bytes 4 h.version ++ big_bytes 8 h.epoch

-- this byte is the first one that is not the magic's
pub record IsFirstWrong (bytes : List ℕ) (at : ℕ) : Type 0 where
  pub within : at < 4
  pub before : take at bytes ≡ take at magic
  pub here : get_or bytes at 0 ≢ get_or magic at 0

-- what reading a header answers
abbrev pub HeaderAt : List ℕ → Result Header LayoutError → Type 0
HeaderAt bytes (Ok h) = (take 16 bytes ≡ header_bytes h) × IsHeader h
HeaderAt bytes (Err (Short n)) = (length bytes < 16) × (n ≡ length bytes)
HeaderAt bytes (Err (Bad at)) = (16 ≤ length bytes) × IsFirstWrong bytes at

abbrev pub IsKind : ℕ → Type 0
IsKind kind = (1 ≤ kind) × (kind ≤ 4)

-- the kind is from 1 to 4, and the payload has at most 8,388,608 bytes
pub record IsHead (h : EntryHead) : Type 0 where
  pub kind : IsKind h.kind
  pub len : h.len ≤ 8388608

-- one byte of kind, and four of length
abbrev pub head_bytes : EntryHead → List ℕ
head_bytes h = h.kind ∷ big_bytes 4 h.len

-- The first field that is out of range stands at this place: the kind at 0, or the length at 1.
abbrev pub IsWrongAt : EntryHead → ℕ → Type 0
IsWrongAt h at = ((at ≡ 0) × (IsKind h.kind → ⊥)) ⊎ ((at ≡ 1) × IsKind h.kind × (8388608 < h.len))

-- five bytes spell these two fields, whatever their range
pub record Spells (bytes : List ℕ) (h : EntryHead) : Type 0 where
  pub spelled : take 5 bytes ≡ head_bytes h
  pub fits : h.len < 2 ^ 32

-- what reading the head of an entry answers
abbrev pub HeadAt : List ℕ → Result EntryHead LayoutError → Type 0
HeadAt bytes (Ok h) = Spells bytes h × IsHead h
HeadAt bytes (Err (Short n)) = (length bytes < 5) × (n ≡ length bytes)
HeadAt bytes (Err (Bad at)) = (5 ≤ length bytes) × (h : EntryHead) × Spells bytes h × IsWrongAt h at
