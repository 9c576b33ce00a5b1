-- Laws of the layout.
use Rattle.std.specs.Prelude.{◌≡◌, ℕ, List, ◌++◌, Result, Ok}
use Rattle.area_layout.specs.declared.header.Header.{Header}
use Rattle.area_layout.specs.declared.entry_head.EntryHead.{EntryHead}
use Rattle.area_layout.specs.declared.fault.LayoutError.{LayoutError}
use Rattle.area_layout.specs.Layout.{IsHeader, header_bytes, HeaderAt, IsHead, head_bytes, HeadAt}

abbrev pub HeaderAnsweredOnce : Type 0
HeaderAnsweredOnce = (bytes : List ℕ) (r s : Result Header LayoutError) → HeaderAt bytes r → HeaderAt bytes s → r ≡ s

abbrev pub HeaderReadBack : Type 0
HeaderReadBack = (h : Header) (behind : List ℕ) (r : Result Header LayoutError) → IsHeader h → HeaderAt (header_bytes h ++ behind) r → r ≡ Ok h

abbrev pub HeadAnsweredOnce : Type 0
HeadAnsweredOnce = (bytes : List ℕ) (r s : Result EntryHead LayoutError) → HeadAt bytes r → HeadAt bytes s → r ≡ s

abbrev pub HeadReadBack : Type 0
HeadReadBack = (h : EntryHead) (behind : List ℕ) (r : Result EntryHead LayoutError) → IsHead h → HeadAt (head_bytes h ++ behind) r → r ≡ Ok h
