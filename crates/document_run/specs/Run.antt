-- What one call reads and prints, and how it ends.
use Rattle.std.specs.Prelude.{◌≡◌, ℕ, ◌≤◌, List, [], ◌∷◌, ◌++◌, length, map, Option, Some, Result, Ok, Err, codes}
use Rattle.std.specs.Option.{ForSome}
use Rattle.host_io.specs.Host.{ShowsFront}
use Rattle.dl_base.specs.Ontology.{Terminology}
use Rattle.dl_base.specs.Query.{Question}
use Rattle.dl_base.specs.Replies.{Replied, IsReply}
use Rattle.dl_base.specs.declared.row.NamedRow.{NamedRow}
use Rattle.script_reader.specs.Lines.{AreLines, line_of}
use Rattle.script_reader.specs.Feeding.{LineSoFar, IsBehind}
use Rattle.document_run.specs.Document.{IsDocument, Asks, Refused as IsRefused}
use Rattle.document_run.specs.Drafting.{KeepsDraft, IsReplyShown, IsWhole}
use Rattle.reply_text.specs.ReplyText.{text_of_reply}
use Rattle.reply_text.specs.declared.reply.Reply.{Reply}
use Rattle.document_run.specs.declared.document.Document.{Document}
use Rattle.document_run.specs.declared.document.Draft.{Draft}
use Rattle.document_run.specs.declared.ending.DocumentEnding.{DocumentEnding}
use Rattle.document_run.specs.declared.ending.DocumentEnding.TheVariants as ending

-- These bytes are a document without an offending line, and this is the text of the reply to it.
pub record RepliesTo (bytes text : List ℕ) : Type 0 where
  pub ontology : Terminology
  pub rows : List NamedRow
  pub query : Question
  pub document : IsDocument bytes (Asks ontology rows query)
  pub reply : Replied
  pub is_reply : IsReply ontology rows query reply
  pub shown : Reply
  pub is_shown : IsReplyShown ontology reply shown
  pub text_is : text ≡ text_of_reply shown

-- a front of the input was read, and this rest is left
pub record Reads (input : List ℕ) (left : Option (List ℕ)) (read rest : List ℕ) : Type 0 where
  pub parts : input ≡ read ++ rest
  pub is_left : left ≡ Some rest

-- the source gave its end after no more bytes than are allowed
pub record GaveEnd (read rest : List ℕ) : Type 0 where
  pub all : rest ≡ []
  pub within : length read ≤ 67108864

-- what a reply's ending says of what is printed, where that is told: the whole text of the reply, a front of it, or nothing
abbrev pub Replies : DocumentEnding → List ℕ → Option (List ℕ) → Option (List ℕ) → Type 0
Replies ending.Done read old new = (text : List ℕ) × RepliesTo read text × ForSome old (λ before. new ≡ Some (before ++ text))
Replies ending.PrintFault read old new = (text : List ℕ) × RepliesTo read text × ForSome old (λ before. ShowsFront before text new)
Replies ending.NoMemory read old new = new ≡ old
Replies (ending.Refused code line) read old new = ⊥
Replies ending.InputTooLarge read old new = ⊥
Replies ending.ReadFault read old new = ⊥

-- what an ending before anything is printed says of the bytes that were read
abbrev pub EndsEarly : DocumentEnding → List ℕ → List ℕ → Type 0
EndsEarly (ending.Refused code line) read rest = GaveEnd read rest × IsDocument read (IsRefused code line)
EndsEarly ending.InputTooLarge read rest = length read ≡ 67108865
EndsEarly ending.ReadFault read rest = length read ≤ 67108864
EndsEarly ending.NoMemory read rest = length read ≤ 67108864
EndsEarly ending.Done read rest = ⊥
EndsEarly ending.PrintFault read rest = ⊥

-- what each ending says of the bytes that were read and of what is printed
abbrev pub DocumentEnds : DocumentEnding → List ℕ → List ℕ → Option (List ℕ) → Option (List ℕ) → Type 0
DocumentEnds ending.Done read rest old new = GaveEnd read rest × Replies ending.Done read old new
DocumentEnds ending.PrintFault read rest old new = GaveEnd read rest × Replies ending.PrintFault read old new
DocumentEnds (ending.Refused code line) read rest old new = EndsEarly (ending.Refused code line) read rest × (new ≡ old)
DocumentEnds ending.InputTooLarge read rest old new = EndsEarly ending.InputTooLarge read rest × (new ≡ old)
DocumentEnds ending.ReadFault read rest old new = EndsEarly ending.ReadFault read rest × (new ≡ old)
DocumentEnds ending.NoMemory read rest old new = EndsEarly ending.NoMemory read rest × (new ≡ old)

-- the call read a front of the input and ended as its ending says
pub record DocumentRan (ending : DocumentEnding) (input : List ℕ) (left old new : Option (List ℕ)) : Type 0 where
  pub read : List ℕ
  pub rest : List ℕ
  pub reads : Reads input left read rest
  pub ends : DocumentEnds ending read rest old new

-- ---- while the input is read

-- the bytes so far: the line that was begun last, and what the lines that ended say
pub record IsReading (read : List ℕ) (line : LineSoFar) (draft : Draft) : Type 0 where
  pub held : IsBehind read line
  pub keeps : KeepsDraft (map line_of held.pieces) draft

-- the bytes are a whole document, and this is what it says
pub record IsDocumentOf (bytes : List ℕ) (document : Document) : Type 0 where
  pub lines : List (List ℕ)
  pub cut : AreLines bytes lines
  pub whole : IsWhole lines document

-- what the bytes are, where they are all
abbrev pub IsRead : Result Document DocumentEnding → List ℕ → Type 0
IsRead (Ok document) read = IsDocumentOf read document
IsRead (Err (ending.Refused code line)) read = IsDocument read (IsRefused code line)
IsRead (Err ending.NoMemory) read = Unit {0}
IsRead (Err ending.Done) read = ⊥
IsRead (Err ending.PrintFault) read = ⊥
IsRead (Err ending.ReadFault) read = ⊥
IsRead (Err ending.InputTooLarge) read = ⊥

-- a document was read to its end, or reading ended as the status says
abbrev pub ReadingStops : Result Document DocumentEnding → List ℕ → List ℕ → Type 0
ReadingStops (Ok document) read rest = GaveEnd read rest × IsDocumentOf read document
ReadingStops (Err ending) read rest = EndsEarly ending read rest

-- reading took a front of the input
pub record HasStopped (result : Result Document DocumentEnding) (input : List ℕ) (left : Option (List ℕ)) : Type 0 where
  pub read : List ℕ
  pub rest : List ℕ
  pub reads : Reads input left read rest
  pub stops : ReadingStops result read rest

-- an ending before anything is printed
abbrev pub IsEarly : DocumentEnding → Type 0
IsEarly (ending.Refused code line) = Unit {0}
IsEarly ending.InputTooLarge = Unit {0}
IsEarly ending.ReadFault = Unit {0}
IsEarly ending.NoMemory = Unit {0}
IsEarly ending.Done = ⊥
IsEarly ending.PrintFault = ⊥

-- a refusal, or want of memory
abbrev pub IsFinal : DocumentEnding → Type 0
IsFinal ending.NoMemory = Unit {0}
IsFinal (ending.Refused code line) = Unit {0}
IsFinal ending.Done = ⊥
IsFinal ending.ReadFault = ⊥
IsFinal ending.PrintFault = ⊥
IsFinal ending.InputTooLarge = ⊥
