use Rattle.std.proofs.Common.{◌<◌, ◌≤◌, ◌+◌, Result, Some, length, sym, subst, arith}
use Rattle.dl_base.specs.Ontology.{Terminology}
use Rattle.axiom_reader.specs.declared.block.BlockError.{BlockError}
use Rattle.txn_codec.specs.Spelling.{ontology_bytes}
use Rattle.reply_text.specs.declared.reply.Refusal.TheVariants as refusal
use Rattle.script_reader.specs.declared.request.Request.TheVariants as request
use Rattle.kept_base.specs.Base.{BaseState}
use Rattle.kept_base.specs.Doing.{DecidesRefusal}
use Rattle.kept_base.proofs.TakenBlocks.{line_offends, log_full, nothing_derived, there_already}
use Rattle.kept_base.proofs.base.Base.accepted.Goals as goal

pub returns-in-Some : goal.returns-in-Some
returns-in-Some c = there_already c.args.self.now c.args.block c.in-Some.field-0.now c.in-Some.ensures

pub returns-then-fits : goal.returns-then-fits
returns-then-fits c =
    let o = c.in-Ok.ontology in
    let store = c.self.inside.store in
    let room : store.used + 6 + length (ontology_bytes o) ≤ 1073741824 = grind (arith, c.if-fits.ensures, c.if-fits.true, c.ontology_len.ensures.len) in
    (c.in-Ok.is, record { none = nothing_derived c.args.self.now.reasoned c.in_default.ensures; room = subst (λ (b : BaseState). b.store.used + 6 + length (ontology_bytes o) ≤ 1073741824) c.self.view_is room })

pub returns-else-fits : goal.returns-else-fits
returns-else-fits c =
    let o = c.in-Ok.ontology in
    let store = c.self.inside.store in
    let past : 1073741824 < store.used + 6 + length (ontology_bytes o) = grind (arith, c.if-fits.ensures, c.if-fits.false, c.ontology_len.ensures.len) in
    subst (λ (r : Result Terminology BlockError). DecidesRefusal c.args.self.now (request.Block r) (Some refusal.LogFull)) (sym c.in-Ok.is)
    (log_full c.args.self.now o c.in_default.ensures (subst (λ (b : BaseState). 1073741824 < b.store.used + 6 + length (ontology_bytes o)) c.self.view_is past))

pub returns-in-Err : goal.returns-in-Err
returns-in-Err c =
    subst (λ (r : Result Terminology BlockError). DecidesRefusal c.args.self.now (request.Block r) (Some (refusal.Block c.in-Err.error))) (sym c.in-Err.is)
    (line_offends c.args.self.now c.in-Err.error c.in_default.ensures)
