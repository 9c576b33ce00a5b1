-- StepsTo that follow each other.
use Rattle.std.proofs.Common.{◌≡◌, ◌==◌, ℕ, ◌<◌, ◌≤◌, Bool, true, false, List, [], ◌∷◌, length, Option, Some, None, refl, ◌∙◌, ap, subst, arith, if◌then◌else◌}
use Rattle.std.specs.List.{AllByRecursion}
use Rattle.std.proofs.lemmas.Bool.Decides.{nat_tests}
use Rattle.dl_base.specs.declared.row.NamedChange.{NamedChange}
use Rattle.dl_base.proofs.DerivationLemmas.{all-by}
use Rattle.reply_text.specs.ReplyText.{IsAcknowledgement}
use Rattle.reply_text.specs.declared.reply.Reply.{Reply}
use Rattle.script_reader.specs.declared.request.Request.{Request}
use Rattle.base_engine.specs.Calls.{TouchesArea}
use Rattle.base_engine.specs.Requests.{IsGiven}
use Rattle.base_engine.specs.RunLaws.{AsManyReplies, NoneOpenAbove, OtherRepliesLeaveHistory, OthersLeaveHistory, StepsGoOn}
use Rattle.base_engine.specs.State.{MachineState, put_session}
use Rattle.base_engine.specs.Steps.{AllStep, Does, StepsTo}

pub steps_go_on : StepsGoOn
steps_go_on s t u [] [] q r all step = (u, subst (λ (z : MachineState). StepsTo z q r u) all.1 step, (refl, refl))
steps_go_on s t u [] (x ∷ replies) q r all step = absurd (let e = all.0 in cc)
steps_go_on s t u (p ∷ requests) [] q r all step = absurd all
steps_go_on s t u (p ∷ requests) (x ∷ replies) q r all step = (all.0, all.1, steps_go_on all.0 t u requests replies q r all.2 step)

pub as_many_replies : AsManyReplies
as_many_replies s t [] replies all = ap (λ (rs : List Reply). length rs) all.0
as_many_replies s t (q ∷ requests) [] all = absurd all
as_many_replies s t (q ∷ requests) (r ∷ replies) all = let rest : length replies ≡ length requests = as_many_replies all.0 t requests replies all.2 in omega (arith, rest)

does_leave : (s t : MachineState) (q : Request) (r : Reply) → Does s q r t → (IsAcknowledgement r → ⊥) → t.history ≡ s.history
does_leave s t q r Does.block other = absurd (other tt)
does_leave s t q r Does.begin other = absurd (other tt)
does_leave s t q r (Does.add changes are) other = absurd (other tt)
does_leave s t q r (Does.del changes are) other = absurd (other tt)
does_leave s t q r (Does.commit c) other = absurd (other tt)
does_leave s t q r Does.abort other = absurd (other tt)
does_leave s t q r (Does.ask x) other = refl
does_leave s t q r Does.prepare other = refl
does_leave s t q r (Does.run p named x) other = refl
does_leave s t q r Does.drop other = absurd (other tt)
does_leave s t q r (Does.consistent o rows b x) other = refl
does_leave s t q r (Does.inconsistent o rows place b x named) other = refl
does_leave s t q r (Does.tables o rows b x) other = refl
does_leave s t q r Does.tidy other = absurd (other tt)
does_leave s t q r (Does.reopen i) other = absurd (other tt)

pub other_replies_leave_history : OtherRepliesLeaveHistory
other_replies_leave_history s t q r (StepsTo.refused refused) other = refl
other_replies_leave_history s t q r (StepsTo.done accepted does) other = does_leave s t q r does other

does_keep : (s t : MachineState) (q : Request) (r : Reply) → Does s q r t → (TouchesArea q → ⊥) → t.history ≡ s.history
does_keep s t q r Does.block other = absurd (other tt)
does_keep s t q r Does.begin other = refl
does_keep s t q r (Does.add changes are) other = refl
does_keep s t q r (Does.del changes are) other = refl
does_keep s t q r (Does.commit c) other = absurd (other tt)
does_keep s t q r Does.abort other = refl
does_keep s t q r (Does.ask x) other = refl
does_keep s t q r Does.prepare other = refl
does_keep s t q r (Does.run p named x) other = refl
does_keep s t q r Does.drop other = refl
does_keep s t q r (Does.consistent o rows b x) other = refl
does_keep s t q r (Does.inconsistent o rows place b x named) other = refl
does_keep s t q r (Does.tables o rows b x) other = refl
does_keep s t q r Does.tidy other = refl
does_keep s t q r (Does.reopen i) other = absurd (other tt)

pub others_leave_history : OthersLeaveHistory
others_leave_history s t q r (StepsTo.refused refused) other = refl
others_leave_history s t q r (StepsTo.done accepted does) other = does_keep s t q r does other

-- ---- sessions above 15

-- another session than the one that is written
other_session : (s : MachineState) (k n : ℕ) (found : Option (List NamedChange)) → k ≤ 15 → 15 < n → s.session n ≡ None → (put_session k found s).session n ≡ None
other_session s k n found small great closed = by (n == k) refl
  where
    by : (b : Bool) → (n == k) ≡ b → (if b then found else s.session n) ≡ None
    by true e = absurd (let same : n ≡ k = grind (arith, nat_tests) in omega (arith, same, small, great))
    by false e = closed

does_close : (s t : MachineState) (q : Request) (r : Reply) (n : ℕ) → IsGiven q → 15 < n → s.session n ≡ None → Does s q r t → t.session n ≡ None
does_close s t q r n given great closed Does.block = closed
does_close s t q r n given great closed (Does.begin {k = k}) = other_session s k n (Some []) given great closed
does_close s t q r n given great closed (Does.add {k = k} changes are) = other_session s k n _ given great closed
does_close s t q r n given great closed (Does.del {k = k} changes are) = other_session s k n _ given great closed
does_close s t q r n given great closed (Does.commit {k = k} c) = ap (λ (z : MachineState). z.session n) c.state ∙ other_session s k n None given great closed
does_close s t q r n given great closed (Does.abort {k = k}) = other_session s k n None given great closed
does_close s t q r n given great closed (Does.ask x) = closed
does_close s t q r n given great closed Does.prepare = closed
does_close s t q r n given great closed (Does.run p named x) = closed
does_close s t q r n given great closed Does.drop = closed
does_close s t q r n given great closed (Does.consistent o rows b x) = closed
does_close s t q r n given great closed (Does.inconsistent o rows place b x named) = closed
does_close s t q r n given great closed (Does.tables o rows b x) = closed
does_close s t q r n given great closed Does.tidy = closed
does_close s t q r n given great closed (Does.reopen i) = i.closed n

step_closes : (s t : MachineState) (q : Request) (r : Reply) (n : ℕ) → IsGiven q → 15 < n → s.session n ≡ None → StepsTo s q r t → t.session n ≡ None
step_closes s t q r n given great closed (StepsTo.refused refused) = closed
step_closes s t q r n given great closed (StepsTo.done accepted does) = does_close s t q r n given great closed does

all_close : (s t : MachineState) (requests : List Request) (replies : List Reply) (n : ℕ) → AllByRecursion IsGiven requests → 15 < n → s.session n ≡ None → AllStep s requests replies t
    → t.session n ≡ None
all_close s t [] replies n given great closed all = ap (λ (z : MachineState). z.session n) all.1 ∙ closed
all_close s t (q ∷ requests) [] n given great closed all = absurd all
all_close s t (q ∷ requests) (r ∷ replies) n given great closed all =
    all_close all.0 t requests replies n given.1 great (step_closes s all.0 q r n given.0 great closed all.1) all.2

pub none_open_above : NoneOpenAbove
none_open_above h requests replies t k given a great = all_close a.first t requests replies k (all-by IsGiven requests given) great (a.initial.closed k) a.steps
