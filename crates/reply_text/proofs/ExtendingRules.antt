-- Bytes that were appended to in several steps.
use Rattle.std.proofs.Common.{◌≡◌, ℕ, List, ◌++◌, append_assoc, ap, ◌∙◌}
use Rattle.reply_text.specs.Extending.{IsAppendedTo}

pub extends_further : (old part now new : List ℕ) → now ≡ old ++ part → IsAppendedTo now new → IsAppendedTo old new
extends_further old part now new e x = record { more = part ++ x.more; is = x.is ∙ ap (λ (a : List ℕ). a ++ x.more) e ∙ append_assoc old part x.more }
