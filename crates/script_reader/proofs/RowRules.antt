-- The reading of a row is exact.
use Rattle.std.proofs.Common.{ℕ, true, false, List, refl}
use Rattle.grammar.specs.Bytes.{is_name_byte}
use Rattle.grammar.specs.Grammar.{Grammar, ◌>>=◌, ◌>>◌, ◌∣◌, means}
use Rattle.grammar.specs.Blanks.{some_blanks}
use Rattle.grammar.proofs.Exact.{Nothing, Same, same_trans, same_front, same_after, same_or}
use Rattle.grammar.proofs.Rules.{Reads, FirstIs, first_then, first_or, first_some_blanks, reads_stop, reads_some_blanks, reads_means, reads_or, reads_last, reads_same, first_nothing}
use Rattle.grammar.proofs.ByteKinds.{starting_not_blank, blank_not}
use Rattle.dl_base.specs.Names.{name}
use Rattle.dl_base.proofs.NameRules.{first_name, reads_name, reads_whole_name}
use Rattle.dl_base.specs.declared.row.NamedRow.{NamedRow}
use Rattle.dl_base.specs.declared.row.NamedRow.TheVariants as row
use Rattle.script_reader.specs.DocLines.{row_text}
use Rattle.script_reader.specs.RowReading.{row_text_at, third_at}

-- what may stand behind two names
abbrev behind_two : List ℕ → List ℕ → Grammar NamedRow
behind_two first second = means (row.Concept first second) ∣ (some_blanks >> (name >>= λ third. means (row.Role first second third)))

abbrev by_names : Grammar NamedRow
by_names = name >>= λ first. some_blanks >> (name >>= λ second. behind_two first second)

same_rows : Same by_names row_text
same_rows = same_trans (same_after (λ first. same_trans (same_after (λ _. same_front)) same_front)) same_front

reads_third : (first second : List ℕ) {text : List ℕ} → Reads (behind_two first second) Nothing text (third_at first second text)
unfolding third_at
reads_third first second = reads_same same_or
    (reads_or (λ c. true) (first_then (first_some_blanks (λ c is. refl))) first_nothing
    (reads_stop _ reads_some_blanks (λ _. first_then (first_name starting_not_blank refl)) (λ _ rest. reads_last reads_whole_name (λ v k f. f)))
    reads_means)

first_behind : (first second : List ℕ) → FirstIs (behind_two first second) Nothing is_name_byte false
first_behind first second = first_or first_nothing (first_then (first_some_blanks (blank_not is_name_byte refl refl)))

pub reads_row : {text : List ℕ} → Reads row_text Nothing text (row_text_at text)
unfolding row_text_at
reads_row = reads_same same_rows
    (reads_stop _ reads_name (λ first. first_then (first_some_blanks (blank_not is_name_byte refl refl))) (λ first rest.
    reads_stop _ reads_some_blanks (λ _. first_then (first_name starting_not_blank refl)) (λ _ rest.
    reads_stop _ reads_name (λ second. first_behind first second) (λ second rest. reads_third first second))))
