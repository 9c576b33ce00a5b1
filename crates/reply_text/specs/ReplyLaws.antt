-- Laws of the texts of replies.
use Rattle.std.specs.Prelude.{◌≡◌, []}
use Rattle.reply_text.specs.declared.reply.Reply.{Reply}
use Rattle.reply_text.specs.ReplyText.{text_of_reply}

-- no reply's text is empty
abbrev pub NeverEmpty : Type 0
NeverEmpty = (r : Reply) → text_of_reply r ≡ [] → ⊥
