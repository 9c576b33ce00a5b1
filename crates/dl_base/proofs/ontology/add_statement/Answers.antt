use Rattle.std.proofs.Common.{sym, Contains, subst, List, ℕ}
use Rattle.std.proofs.lemmas.Bool.Decides.{when_true}
use Rattle.dl_base.proofs.ExtendLemmas.{all_named, names_there, statement_added}
use Rattle.dl_base.proofs.ontology.add_statement.Goals as goal

pub add_inclusions-requires : goal.add_inclusions-requires
add_inclusions-requires c =
    let concepts = when_true _ _ c.if-not-branch.false c.in_ok-add_names.ensures.ok in
    let roles = when_true _ _ c.if-not-branch-2.false c.in_ok-add_names-2.ensures.ok in
    all_named c.args.concept_names.now c.args.role_names.now c.add_names.new.book c.add_names-2.new.book c.args.more.now
    (λ n there. subst (λ (book : List (List ℕ)). Contains book n) (sym concepts.0) (names_there c.args.concepts.now c.args.concept_names.now n there))
    (λ n there. subst (λ (book : List (List ℕ)). Contains book n) (sym roles.0) (names_there c.args.roles.now c.args.role_names.now n there))
    c.requires.added.named

pub returns : goal.returns
returns c =
    statement_added _ _ _ c.requires.old c.requires.added (c.are_short.ensures.0 c.if-not-are_short.false)
    (when_true _ _ c.if-not-branch.false c.in_ok-add_names.ensures.ok)
    (when_true _ _ c.if-not-branch-2.false c.in_ok-add_names-2.ensures.ok)
    (rw c.items.ensures at c.if-more-items.false) c.in_ok-add_inclusions.ensures
