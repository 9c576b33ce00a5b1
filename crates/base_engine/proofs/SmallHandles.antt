-- Small steps about prepared queries.
use Rattle.std.proofs.Common.{◌≡◌, Some, refl, sym, subst, arith}
use Rattle.dl_base.specs.Laws.{staff, who_is_staff}
use Rattle.gen_arena.specs.Store.{IsGone, IsHandleStore, without}
use Rattle.gen_arena.specs.declared.handle.Handle.{Handle}
use Rattle.gen_arena.specs.declared.handle.Gone.TheVariants as gone
use Rattle.gen_arena.proofs.LawLemmas.{begins_as_store, drops_removed}
use Rattle.gen_arena.proofs.StoreLemmas.{IsHandleStore-with_value}
use Rattle.base_store.specs.History.{History, ontology_of}
use Rattle.script_reader.specs.declared.command.Command.TheVariants as command
use Rattle.base_engine.specs.State.{handle_limit}
use Rattle.base_engine.specs.Refusals.{UsesHandle}
use Rattle.base_engine.specs.Steps.{Does, StepsTo}
use Rattle.base_engine.specs.StepExamples
use Rattle.base_engine.specs.StepExamples.{bare_base, first_handle, keeping, no_handle, one_kept, resting, with_ann}
use Rattle.base_engine.proofs.RefusalTable.{of_using, prepare_refusals}
use Rattle.base_engine.proofs.SmallSteps.{known_staff, staff_are_answered}

one_store : IsHandleStore one_kept
one_store = IsHandleStore-with_value who_is_staff no_handle (begins_as_store handle_limit) (omega arith)

pub prepare_keeps : StepExamples.PrepareKeeps
prepare_keeps generation = StepsTo.done ((prepare_refusals (resting bare_base generation) who_is_staff staff refl).3 known_staff (omega arith)) Does.prepare

pub run_answers : StepExamples.RunAnswers
run_answers generation =
    StepsTo.done ((of_using (keeping with_ann one_kept generation) (command.Run first_handle) first_handle staff UsesHandle.run refl).2 one_store (who_is_staff, refl))
    (Does.run who_is_staff refl (staff_are_answered refl))

pub drop_forgets : StepExamples.DropForgets
drop_forgets generation = (
  StepsTo.done ((of_using (keeping bare_base one_kept generation) (command.Drop first_handle) first_handle staff UsesHandle.drop refl).2 one_store (who_is_staff, refl)) Does.drop,
  (of_using (keeping bare_base (without first_handle one_kept) generation) (command.Run first_handle) first_handle staff UsesHandle.run refl).1 1
      (drops_removed one_kept first_handle who_is_staff one_store refl, refl),
  StepsTo.done ((prepare_refusals (keeping bare_base (without first_handle one_kept) generation) who_is_staff staff refl).3 known_staff (omega arith)) Does.prepare,
)

-- no handle is given in a store without slots
none_given : (h : Handle) → IsGone no_handle h gone.Never
none_given h given = (let least = given.least in let most = given.most in omega (arith, least, most))

pub reopen_forgets_handles : StepExamples.ReopenForgetsHandles
reopen_forgets_handles s t o h initial has =
    let there : ontology_of t.history ≡ Some o = subst (λ (x : History). ontology_of x ≡ Some o) (sym initial.history) has in
    let never : IsGone t.handles h gone.Never = subst (λ x. IsGone x h gone.Never) (sym initial.none_given) (none_given h) in
    ((of_using t (command.Run h) h o UsesHandle.run there).0 never, (of_using t (command.Drop h) h o UsesHandle.drop there).0 never)
