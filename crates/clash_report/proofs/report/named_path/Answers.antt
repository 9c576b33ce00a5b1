use Rattle.std.proofs.Common.{false, ℕ, List, Some, slice_get, refl, get_or, take, sym, ◌∙◌, ap, subst}
use Rattle.std.proofs.lemmas.List.{take_more}
use Rattle.dl_base.specs.declared.axiom.NamedRole.{NamedRole}
use Rattle.dl_base.specs.declared.concept.Role.{Role}
use Rattle.clash_report.specs.Report.{IsNamedRole, AreNamedRoles}
use Rattle.dl_base.proofs.PlaceLemmas.{zip_push}
use Rattle.clash_report.proofs.report.named_path.Goals as goal

pub loop-r-preserved : goal.loop-r-preserved
loop-r-preserved c =
    let o = c.args.o.now in
    let path = c.args.path.now in
    let r = get_or path c.loop-r.r-index (record { name = 0; inverse = false }) in
    let more = take_more path c.loop-r.r-index (record { name = 0; inverse = false }) c.loop-r-test.true in
    let n : NamedRole = record { name = c.in_ok-name.name; inverse = r.inverse } in
    let named : IsNamedRole o r n = record {
      name = ap (λ (names : List (List ℕ)). slice_get names r.name) (sym c.roles.ensures.names) ∙ c.name.ensures ∙ ap Some (sym c.in_ok-name.ensures);
      inverse = refl;
    } in
    subst (λ (x : List Role × List NamedRole). AreNamedRoles o x.0 x.1) (λ j. (sym more j, sym c.in_ok-push.ensures.ok j))
    (zip_push (IsNamedRole o) (take c.loop-r.r-index path) c.loop-r.named r n c.loop-r.invariant named)
