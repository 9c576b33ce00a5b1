-- What a status tells of the ending that it is of.
use Rattle.std.proofs.Common.{◌≡◌, ◌⊎◌, inl, inr, ℕ, ap, ◌∙◌}
use Rattle.document_run.specs.declared.ending.DocumentEnding.{DocumentEnding}
use Rattle.document_run.specs.declared.ending.DocumentEnding.TheVariants as document
use Rattle.run_loop.specs.declared.ending.Ending.{Ending}
use Rattle.run_loop.specs.declared.ending.Ending.TheVariants as script
use Rattle.obda_run.specs.Status.{document_status, script_status}
use Rattle.obda_run.specs.declared.status.Status.{Status}
use Rattle.obda_run.specs.declared.status.Status.TheVariants as status

-- ---- of a document

pub refused_as : (code line : ℕ) (s : Status) (e : DocumentEnding) → s ≡ document_status e
    → (e ≡ document.Refused code line) ⊎ (e ≡ document.ReadFault) ⊎ (e ≡ document.NoMemory)
    → (s ≡ status.Refused code line) ⊎ (s ≡ status.ReadFault) ⊎ (s ≡ status.NoMemory)
refused_as code line s e is (inl a) = inl (is ∙ ap document_status a)
refused_as code line s e is (inr (inl a)) = inr (inl (is ∙ ap document_status a))
refused_as code line s e is (inr (inr a)) = inr (inr (is ∙ ap document_status a))

pub answered_as : (s : Status) (e : DocumentEnding) → s ≡ document_status e
    → (e ≡ document.Done) ⊎ (e ≡ document.ReadFault) ⊎ (e ≡ document.PrintFault) ⊎ (e ≡ document.NoMemory)
    → (s ≡ status.Done) ⊎ (s ≡ status.ReadFault) ⊎ (s ≡ status.PrintFault) ⊎ (s ≡ status.NoMemory)
answered_as s e is (inl a) = inl (is ∙ ap document_status a)
answered_as s e is (inr (inl a)) = inr (inl (is ∙ ap document_status a))
answered_as s e is (inr (inr (inl a))) = inr (inr (inl (is ∙ ap document_status a)))
answered_as s e is (inr (inr (inr a))) = inr (inr (inr (is ∙ ap document_status a)))

-- ---- of a script

pub damaged_as : (at : ℕ) (s : Status) (e : Ending) → s ≡ script_status e
    → (e ≡ script.Damaged 0 at) ⊎ (e ≡ script.DiskFault) ⊎ (e ≡ script.NoMemory)
    → (s ≡ status.Damaged 0 at) ⊎ (s ≡ status.DiskFault) ⊎ (s ≡ status.NoMemory)
damaged_as at s e is (inl a) = inl (is ∙ ap script_status a)
damaged_as at s e is (inr (inl a)) = inr (inl (is ∙ ap script_status a))
damaged_as at s e is (inr (inr a)) = inr (inr (is ∙ ap script_status a))

pub was_damaged : (area at : ℕ) (e : Ending) → script_status e ≡ status.Damaged area at → e ≡ script.Damaged area at
was_damaged area at (script.Damaged a b) same = cc
was_damaged area at script.Done same = absurd cc
was_damaged area at script.ReadFault same = absurd cc
was_damaged area at script.PrintFault same = absurd cc
was_damaged area at script.DiskFault same = absurd cc
was_damaged area at script.NoMemory same = absurd cc
was_damaged area at script.InputTooLarge same = absurd cc
