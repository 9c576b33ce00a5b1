-- Blanks between the parts of a text.
use Rattle.std.specs.Prelude.{ℕ, List}
use Rattle.grammar.specs.Bytes.{is_blank}
use Rattle.grammar.specs.Grammar.{Grammar, bytes_of_kind, some_bytes_of}

-- `_` is any number of blanks
abbrev pub blanks : Grammar (List ℕ)
blanks = bytes_of_kind is_blank

-- `__` is one or more
abbrev pub some_blanks : Grammar (List ℕ)
some_blanks = some_bytes_of is_blank
