-- The reader of changes is exact.
use Rattle.std.proofs.Common.{ℕ, List}
use Rattle.std.specs.Prelude.{◌==◌}
use Rattle.grammar.proofs.Exact.{Anything, Nothing}
use Rattle.grammar.proofs.Rules.{Reads, first_literal, reads_any, reads_literal, reads_means, reads_or, reads_fewer}
use Rattle.txn_codec.specs.Changes.{sign, row, change, changes_payload}
use Rattle.txn_codec.specs.ChangesReading.{sign_at, row_at, change_at, changes_at}
use Rattle.txn_codec.proofs.SpelledNames.{reads_number, reads_spelled_name, reads_times}

reads_sign : {text : List ℕ} → Reads sign Anything text (sign_at text)
unfolding sign_at
reads_sign =
    reads_or (λ c. c == 1) (first_literal (λ c. c == 1)) (first_literal (λ c. c == 1))
    (reads_any _ reads_literal (λ _ rest. reads_means))
    (reads_any _ reads_literal (λ _ rest. reads_means))

reads_row : {text : List ℕ} → Reads row Anything text (row_at text)
unfolding row_at
reads_row =
    reads_or (λ c. c == 2) (first_literal (λ c. c == 2)) (first_literal (λ c. c == 2))
    (reads_any _ reads_literal (λ _ rest.
    reads_any _ reads_spelled_name (λ concept rest.
    reads_any _ reads_spelled_name (λ individual rest.
    reads_means))))
    (reads_any _ reads_literal (λ _ rest.
    reads_any _ reads_spelled_name (λ role rest.
    reads_any _ reads_spelled_name (λ from rest.
    reads_any _ reads_spelled_name (λ to rest.
    reads_means)))))

pub reads_change : {text : List ℕ} → Reads change Anything text (change_at text)
unfolding change_at
reads_change =
    reads_any _ reads_sign (λ add rest.
    reads_any _ reads_row (λ r rest.
    reads_means))

pub reads_changes : {text : List ℕ} → Reads changes_payload Nothing text (changes_at text)
unfolding changes_at
reads_changes = reads_fewer (λ v k f. tt)
    (reads_any _ (reads_number 4) (λ n rest.
    reads_times n rest (λ text. reads_change)))
