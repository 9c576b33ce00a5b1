use Rattle.std.proofs.Common.{All, Some, None, ap, subst, arith}
use Rattle.query_shape.specs.ShapeFault.{IsKnown}
use Rattle.reply_text.specs.declared.reply.Refusal.TheVariants as refusal
use Rattle.script_reader.specs.declared.command.Command.TheVariants as command
use Rattle.script_reader.specs.declared.request.Request.TheVariants as request
use Rattle.base_engine.specs.Refusals.{LacksNameIn}
use Rattle.kept_base.specs.Base.{BaseState, IsKnownIn, ontology_in}
use Rattle.kept_base.specs.Doing.{DecidesRefusal}
use Rattle.kept_base.proofs.DecidedRefusals.{at_none, at_some, wants_ontology}
use Rattle.kept_base.proofs.PreparedQueries.{prepares, prepares_full, prepares_unknown}
use Rattle.kept_base.proofs.base.Base.prepare_refusal.Goals as goal

pub returns-in_default-clause-decides : goal.returns-in_default-clause-decides
returns-in_default-clause-decides c =
    let asked = command.Prepare c.args.query.now in
    subst (λ (b : BaseState). DecidesRefusal b (request.Plain asked) (Some refusal.NoOntology)) c.self.view_is (wants_ontology _ asked tt (ap ontology_in c.in_default.is))

pub returns-in-Some-2-clause-decides : goal.returns-in-Some-2-clause-decides
returns-in-Some-2-clause-decides c =
    let q = c.args.query.now in
    let o = c.in-Some.reasoner.ontology in
    subst (λ (b : BaseState). DecidesRefusal b (request.Plain (command.Prepare q)) (Some c.in-Some-2.refusal)) c.self.view_is (prepares_unknown _ o (ap ontology_in c.in-Some.is) q c.in-Some-2.refusal
    (at_some (All (IsKnown o) q.atoms) (LacksNameIn o q) c.in_ok-refusal.field-0 c.in-Some-2.refusal c.in-Some-2.is c.in_ok-refusal.ensures))

pub returns-in-None-clause-decides : goal.returns-in-None-clause-decides
returns-in-None-clause-decides c =
    let q = c.args.query.now in
    let o = c.in-Some.reasoner.ontology in
    subst (λ (b : BaseState). DecidesRefusal b (request.Plain (command.Prepare q)) (Some refusal.NoSlot)) c.self.view_is (prepares_full _ o (ap ontology_in c.in-Some.is) q
    (at_none (All (IsKnown o) q.atoms) (LacksNameIn o q) c.in_ok-refusal.field-0 c.in-None.is c.in_ok-refusal.ensures)
    (let none = c.if-room-eq0.true in let room = c.room.ensures.room in omega (arith, none, room)))

pub returns-in-None-2-clause-decides : goal.returns-in-None-2-clause-decides
returns-in-None-2-clause-decides c =
    let q = c.args.query.now in
    let o = c.in-Some.reasoner.ontology in
    subst (λ (b : BaseState). DecidesRefusal b (request.Plain (command.Prepare q)) None) c.self.view_is (prepares _ o (ap ontology_in c.in-Some.is) q
    (at_none (All (IsKnown o) q.atoms) (LacksNameIn o q) c.in_ok-refusal.field-0 c.in-None.is c.in_ok-refusal.ensures)
    (let some = c.if-room-eq0.false in let room = c.room.ensures.room in omega (arith, some, room)))

pub returns-in-None-2-clause-known : goal.returns-in-None-2-clause-known
returns-in-None-2-clause-known c = λ none.
    let q = c.args.query.now in
    let o = c.in-Some.reasoner.ontology in
    subst (λ (b : BaseState). IsKnownIn b.reasoned q) c.self.view_is (record {
      o = o;
      ontology_is = ap ontology_in c.in-Some.is;
      known = at_none (All (IsKnown o) q.atoms) (LacksNameIn o q) c.in_ok-refusal.field-0 c.in-None.is c.in_ok-refusal.ensures;
    })
