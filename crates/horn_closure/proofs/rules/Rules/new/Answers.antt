use Rattle.std.proofs.Common.{◌≡◌, ◌∙◌}
use Rattle.dl_base.proofs.OntologyLemmas.{within_limits}
use Rattle.horn_closure.proofs.rules.Rules.new.Goals as goal

pub invariant_of-result : goal.invariant_of-result
invariant_of-result c =
    let o = c.args.o.now in
    let concepts : c.in_ok-concepts.concepts ≡ o.concepts = c.in_ok-concepts.ensures ∙ c.concepts.ensures.names in
    let roles : c.in_ok-roles.roles ≡ o.roles = c.in_ok-roles.ensures ∙ c.roles.ensures.names in
    let same : c.in_ok-inclusions.inclusions.items ≡ o.inclusions = c.in_ok-inclusions.ensures ∙ c.inclusions.ensures.list in
    rw (concepts, roles, same) (record {
      within = c.inclusions.ensures.within;
      rules = record {
        few = c.inclusions.ensures.within.inclusions;
        within = within_limits _ c.inclusions.ensures.within;
        places = c.in_ok-uses.ensures.places;
        each = rw c.inclusions-2.ensures.list at c.in_ok-uses.ensures.each;
      };
    })
