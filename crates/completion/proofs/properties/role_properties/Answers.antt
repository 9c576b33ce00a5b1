use Rattle.std.proofs.Common.{true, false, ◌+◌, ◌++◌, ◌∷◌, [], List, ap, sym, ◌∙◌, subst}
use Rattle.completion.specs.Numbers.{AreRoleProperties}
use Rattle.completion.specs.Gathered.{role_by_place}
use Rattle.completion.specs.declared.gather.Property.{Property}
use Rattle.completion.specs.declared.gather.Property.TheVariants.{Derived, Pointing}
use Rattle.dl_base.specs.declared.concept.Basic.TheVariants as basic
use Rattle.dl_base.specs.declared.concept.Role.{Role}
use Rattle.completion.proofs.NumberListLemmas.{roles_more}
use Rattle.completion.proofs.properties.role_properties.Goals as goal

pub loop-name-preserved : goal.loop-name-preserved
loop-name-preserved c =
    let third = c.in_ok-push-3.ensures.items ∙ ap (λ (xs : List Property). xs ++ Derived (basic.Exists c.inverted.result) ∷ []) (c.in_ok-push-2.ensures.items
    ∙ ap (λ (xs : List Property). xs ++ Pointing (role_by_place c.loop-name.name false) ∷ []) c.in_ok-push.ensures.items) in
    let pushed = c.in_ok-push-4.ensures.items ∙ ap (λ (xs : List Property). xs ++ Pointing c.inverted-in-loop-name.result ∷ []) third in
    let end : List Property → Role → Role → List Property = λ (xs : List Property) (r s : Role). (xs ++ Derived (basic.Exists r) ∷ []) ++ Pointing s ∷ [] in
    let direct : List Property = (c.loop-name.properties.items ++ Derived (basic.Exists (role_by_place c.loop-name.name false)) ∷ []) ++ Pointing (role_by_place c.loop-name.name false) ∷ [] in
    subst (AreRoleProperties (c.loop-name.name + 1)) (sym (pushed ∙ (ap (λ (r : Role). end direct r c.inverted-in-loop-name.result) c.inverted.ensures
    ∙ ap (λ (s : Role). end direct (role_by_place c.loop-name.name true) s) c.inverted-in-loop-name.ensures)))
    (roles_more c.loop-name.name c.loop-name.properties.items c.loop-name.invariant)
