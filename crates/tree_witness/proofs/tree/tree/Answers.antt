use Rattle.std.proofs.Common.{◌≡◌, ◌+◌, ◌≤◌, ◌++◌, ◌∷◌, [], List, length, true≢false, sym, ◌∙◌, ap, subst, arith}
use Rattle.std.proofs.lemmas.List.{length_push}
use Rattle.tree_witness.specs.Trees.{IsGrown, IsNext, HasTerm, ExtendsTree}
use Rattle.tree_witness.specs.declared.tree.ReachedTerm.{ReachedTerm}
use Rattle.tree_witness.proofs.TreeLemmas.{IsGrowing, top_growing, growing_more, few_terms, none_grown, all_grown}
use Rattle.tree_witness.proofs.tree.tree.Goals as goal

pub grows-init : goal.grows-init
grows-init c = rw (c.in_ok-push.ensures.items, c.in_ok-tree.ensures.items, c.new.ensures) (top_growing c.args.terms c.args.oriented.now c.args.root c.requires.root)

pub returns-in_default-clause-tree : goal.returns-in_default-clause-tree
returns-in_default-clause-tree c =
    rw c.from_vec.ensures (all_grown c.args.terms c.args.oriented.now c.args.root c.grows.tree.items c.grows.invariant (subst (IsGrown c.args.oriented.now c.args.root.role) c.as_slice.ensures.value c.in_default.ensures))

pub returns-then-has_term-clause-tree : goal.returns-then-has_term-clause-tree
returns-then-has_term-clause-tree c =
    none_grown c.args.terms c.args.oriented.now c.args.root c.grows.tree.items c.grows.invariant c.in-Some.next.place c.in-Some.next.atom
    (subst (λ (t : List ReachedTerm). IsNext c.args.oriented.now c.args.root.role t c.in-Some.next.place c.in-Some.next.atom) c.as_slice.ensures.value c.in-Some.ensures)
    (subst (λ (t : List ReachedTerm). HasTerm t c.in-Some.next.atom.to) c.as_slice-in-grows.ensures.value (c.has_term.ensures.0 c.if-has_term.true))

-- one term more
more : (c : goal.In_ok-push-2) → IsGrowing c.args.terms c.args.oriented.now c.args.root (c.grows.tree.items ++ c.in_ok-added.added ∷ [])
more c =
    growing_more c.args.terms c.args.oriented.now c.args.root c.grows.tree.items c.grows.invariant c.in-Some.next.place c.in-Some.next.atom c.in_ok-added.added c.requires.oriented
    (subst (λ (t : List ReachedTerm). IsNext c.args.oriented.now c.args.root.role t c.in-Some.next.place c.in-Some.next.atom) c.as_slice.ensures.value c.in-Some.ensures)
    (λ has. absurd (true≢false (sym (c.has_term.ensures.1 (subst (λ (t : List ReachedTerm). HasTerm t c.in-Some.next.atom.to) (sym c.as_slice-in-grows.ensures.value) has)) ∙ c.if-has_term.false)))
    (subst (λ (t : List ReachedTerm). ExtendsTree c.args.root.role t c.in-Some.next.place c.in-Some.next.atom c.in_ok-added.added) c.as_slice-in-grows-2.ensures.value c.in_ok-added.ensures)

pub grows-smaller : goal.grows-smaller
unfolding more
grows-smaller c =
    let few : length (c.grows.tree.items ++ c.in_ok-added.added ∷ []) ≤ c.args.terms = few_terms c.args.terms c.args.oriented.now c.args.root _ (more c) in
    let longer : length (c.grows.tree.items ++ c.in_ok-added.added ∷ []) ≡ length c.grows.tree.items + 1 = length_push c.grows.tree.items c.in_ok-added.added in
    let is : length c.push-in-grows.new.self.items ≡ length (c.grows.tree.items ++ c.in_ok-added.added ∷ []) = ap length c.in_ok-push-2.ensures.items in
    omega arith

pub grows-preserved : goal.grows-preserved
unfolding more
grows-preserved c = subst (IsGrowing c.args.terms c.args.oriented.now c.args.root) (sym c.in_ok-push-2.ensures.items) (more c)
