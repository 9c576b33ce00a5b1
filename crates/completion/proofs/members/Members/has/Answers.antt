use Rattle.std.proofs.Common.{◌↔◌, IsTrue, Contains, List, ℕ, subst, sym}
use Rattle.completion.proofs.MembersLemmas.{number_in, witness_in}
use Rattle.dl_base.specs.declared.element.Elem.{Elem}
use Rattle.dl_base.specs.declared.element.Elem.TheVariants as elem
use Rattle.dl_base.specs.declared.element.Witness.{Witness}
use Rattle.completion.proofs.members.Members.has.Goals as goal

pub returns-in-Named : goal.returns-in-Named
returns-in-Named c =
    let says = subst (λ (ns : List ℕ). IsTrue c.has_number.result ↔ Contains ns c.in-Named.individual) c.as_slice.ensures.value c.has_number.ensures in
    let there = number_in c.self.inside.individuals.items c.self.inside.witnesses.items c.in-Named.individual in
    subst (λ (e : Elem). IsTrue c.has_number.result ↔ Contains c.args.self.now e) (sym c.in-Named.is)
    (subst (λ (es : List Elem). IsTrue c.has_number.result ↔ Contains es (elem.Named c.in-Named.individual)) c.self.view_is (λ yes. there.1 (says.0 yes), λ has. says.1 (there.0 has)))

pub returns-in-Shared : goal.returns-in-Shared
returns-in-Shared c =
    let says = subst (λ (ws : List Witness). IsTrue c.has_witness.result ↔ Contains ws c.in-Shared.witness) c.as_slice-in-Shared.ensures.value c.has_witness.ensures in
    let there = witness_in c.self.inside.individuals.items c.self.inside.witnesses.items c.in-Shared.witness in
    subst (λ (e : Elem). IsTrue c.has_witness.result ↔ Contains c.args.self.now e) (sym c.in-Shared.is)
    (subst (λ (es : List Elem). IsTrue c.has_witness.result ↔ Contains es (elem.Shared c.in-Shared.witness)) c.self.view_is (λ yes. there.1 (says.0 yes), λ has. says.1 (there.0 has)))
