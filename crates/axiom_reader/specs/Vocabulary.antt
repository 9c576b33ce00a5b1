-- Lists of names that grow.
use Rattle.std.specs.Prelude.{◌≡◌, ℕ, List}
use Rattle.dl_base.specs.Axiom.{with_names}
use Rattle.axiom_reader.specs.declared.vocabulary.Vocabulary.{Vocabulary}

-- with the new ones of these names at the ends
pub record AddsNames (old : Vocabulary) (concept_names role_names : List (List ℕ)) (new : Vocabulary) : Type 0 where
  pub concepts : new.concepts ≡ with_names old.concepts concept_names
  pub roles : new.roles ≡ with_names old.roles role_names
