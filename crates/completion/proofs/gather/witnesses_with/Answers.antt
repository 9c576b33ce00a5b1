use Rattle.std.proofs.Common.{◌≡◌, ◌⊎◌, ◌↔◌, ℕ, List, Contains, length, ap, subst, arith}
use Rattle.completion.proofs.ChoiceLemmas.{ChosenBelow, below_all, below_more}
use Rattle.completion.specs.Gathered.{IsWitnessWith}
use Rattle.dl_base.specs.declared.concept.Role.{Role}
use Rattle.dl_base.specs.declared.element.Witness.{Witness}
use Rattle.completion.proofs.gather.witnesses_with.Goals as goal

pub loop-name-preserved : goal.loop-name-preserved
loop-name-preserved c =
    let o = c.args.rules.now in
    let b = c.args.book.now in
    let half = c.push_with.new.witnesses.items in
    let new = c.push_with-in-loop-name.new.witnesses.items in
    below_more o b c.args.property c.loop-name.name c.loop-name.witnesses.items half new c.in_ok-push_with.ensures
    (subst (λ (r : Role). (w : Witness) → Contains new w ↔ (((w.role ≡ r) × IsWitnessWith o b c.args.property w) ⊎ Contains half w)) c.inverted.ensures c.in_ok-push_with-2.ensures)
    c.loop-name.invariant

pub returns : goal.returns
returns c =
    let o = c.args.rules.now in
    let names : length c.roles.result.now ≡ length o.roles = ap (λ (xs : List (List ℕ)). length xs) c.roles.ensures.names in
    let end : c.loop-name.name ≡ length o.roles = (let a = c.loop-name.auto.name-end in let b = c.loop-name-test.false in omega (arith, names)) in
    below_all o c.args.book.now c.args.property (length o.roles) c.loop-name.witnesses.items c.requires.live
    (subst (λ (n : ℕ). ChosenBelow o c.args.book.now c.args.property n c.loop-name.witnesses.items) end c.loop-name.invariant)
