use Rattle.std.proofs.Common.{List, subst, sym}
use Rattle.dl_base.specs.declared.row.Row.{Row}
use Rattle.document_run.specs.Drafting.{IsWhole}
use Rattle.document_run.specs.Sound.{IsSoundDocument, document_of}
use Rattle.document_run.proofs.reply.document_reply.Goals as goal

pub reply_by-requires-clause-sound : goal.reply_by-requires-clause-sound
reply_by-requires-clause-sound g c =
    subst (λ (rows : List Row). IsSoundDocument (document_of c.args.document.ontology c.args.document.facts.individuals rows c.args.document.asked)) (sym c.in_ok-rows.ensures) c.requires.sound

pub returns : goal.returns
returns g c = λ lines whole. c.reply_by.ensures lines
    (subst (λ (rows : List Row). IsWhole lines (document_of c.args.document.ontology c.args.document.facts.individuals rows c.args.document.asked)) (sym c.in_ok-rows.ensures) whole)
