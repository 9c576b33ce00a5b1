use Rattle.std.proofs.Common.{◌≡◌, ◌++◌, take, codes}
use Rattle.reply_text.specs.ReplyText.{behind_spaces}
use Rattle.reply_text.proofs.text.append_key.Given as goal

abbrev pub invariant-loop-name : goal.invariant-loop-name
invariant-loop-name l = l.out.items ≡ l.fn.out.items ++ codes "answer" ++ behind_spaces (take l.name-index l.name-items)
