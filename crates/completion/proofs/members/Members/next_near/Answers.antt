use Rattle.std.proofs.Common.{Contains, List, ℕ, Some, None, subst}
use Rattle.std.specs.Ordering.{nat_cmp}
use Rattle.completion.proofs.MembersLemmas.{least_none, least_number, least_witness}
use Rattle.completion.specs.Members.{IsFirstPast, is_number_passed, is_witness_passed}
use Rattle.dl_base.specs.Tables.{IsLeastAbove, witness_cmp}
use Rattle.dl_base.specs.declared.element.Elem.{Elem}
use Rattle.dl_base.specs.declared.element.Elem.TheVariants as elem
use Rattle.dl_base.specs.declared.element.Witness.{Witness}
use Rattle.completion.proofs.members.Members.next_near.Goals as goal

pub returns-in-Some : goal.returns-in-Some
returns-in-Some c =
    subst (λ (es : List Elem). IsLeastAbove (Contains es) c.args.after (Some (elem.Named c.in-Some.individual))) c.self.view_is
    (least_number c.self.inside.individuals.items c.self.inside.witnesses.items c.args.after c.in-Some.individual
    (subst (λ (ns : List ℕ). IsFirstPast nat_cmp (is_number_passed c.args.after) ns (Some c.in-Some.individual)) c.as_slice.ensures.value c.in-Some.ensures))

pub returns-in-Some-witness : goal.returns-in-Some-witness
returns-in-Some-witness c =
    subst (λ (es : List Elem). IsLeastAbove (Contains es) c.args.after (Some (elem.Shared c.in-Some-witness.witness))) c.self.view_is
    (least_witness c.self.inside.individuals.items c.self.inside.witnesses.items c.args.after c.in-Some-witness.witness
    (subst (λ (ns : List ℕ). IsFirstPast nat_cmp (is_number_passed c.args.after) ns None) c.as_slice.ensures.value c.in-None.ensures)
    (subst (λ (ws : List Witness). IsFirstPast witness_cmp (is_witness_passed c.args.after) ws (Some c.in-Some-witness.witness)) c.as_slice-in-None.ensures.value c.in-Some-witness.ensures))

pub returns-in-None-witness : goal.returns-in-None-witness
returns-in-None-witness c =
    subst (λ (es : List Elem). IsLeastAbove (Contains es) c.args.after None) c.self.view_is
    (least_none c.self.inside.individuals.items c.self.inside.witnesses.items c.args.after
    (subst (λ (ns : List ℕ). IsFirstPast nat_cmp (is_number_passed c.args.after) ns None) c.as_slice.ensures.value c.in-None.ensures)
    (subst (λ (ws : List Witness). IsFirstPast witness_cmp (is_witness_passed c.args.after) ws None) c.as_slice-in-None.ensures.value c.in-None-witness.ensures))
