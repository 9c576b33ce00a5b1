use Rattle.std.proofs.Common.{◌≡◌, ◌++◌, take, map}
use Rattle.reply_text.specs.ReplyText.{behind_spaces, role_text}
use Rattle.reply_text.proofs.text.append_roles.Given as goal

abbrev pub invariant-loop-role : goal.invariant-loop-role
invariant-loop-role l = l.out.items ≡ l.fn.out.items ++ behind_spaces (map role_text (take l.role-index l.roles))
