use Rattle.std.proofs.Common.{◌≡◌, [], ◌∷◌}
use Rattle.reply_text.specs.ReplyText.{text_of_reply}
use Rattle.reply_text.specs.declared.reply.Reply.{Reply}
use Rattle.reply_text.specs.declared.reply.Reply.TheVariants as reply
use Rattle.reply_text.proofs.laws.never_empty.Goals as goal

some : (r : Reply) → text_of_reply r ≡ [] → ⊥
some reply.Done e = cc
some (reply.Committed number added removed) e = cc
some (reply.Loaded inclusions) e = cc
some (reply.Reopened transactions) e = cc
some (reply.Prepared h) e = cc
some (reply.Answers []) e = cc
some (reply.Answers (k ∷ ks)) e = cc
some reply.Consistent e = cc
some (reply.Inconsistent c) e = cc
some (reply.Table []) e = cc
some (reply.Table ([] ∷ lines)) e = cc
some (reply.Table ((c ∷ cs) ∷ lines)) e = cc
some (reply.Error x) e = cc

pub returns : goal.returns
returns c = some
