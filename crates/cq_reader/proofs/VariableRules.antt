-- The variables of a query's text are bare.
use Rattle.std.proofs.Common.{◌≡◌, ℕ, List, [], ◌∷◌, Contains, sym, ◌∙◌, subst, arith, inl, inr}
use Rattle.std.specs.Prelude.{flat_map}
use Rattle.std.proofs.lemmas.List.Elements.{Contains-append_cases}
use Rattle.grammar.specs.Grammar.{many}
use Rattle.dl_base.specs.Names.{IsVariableName}
use Rattle.dl_base.specs.Query.{Question, HasBareVariables, terms, terms_of}
use Rattle.dl_base.specs.declared.query.Term.{Term}
use Rattle.dl_base.specs.declared.query.Term.TheVariants.{Var, Named}
use Rattle.dl_base.specs.declared.query.Atom.{Atom}
use Rattle.dl_base.proofs.RisingLemmas.{contains_cases}
use Rattle.cq_reader.specs.QueryText.{term, atom, listed, query}

same_variable : (v w : List ℕ) → Var v ≡ Var w → v ≡ w
same_variable v w e = cc

bare_term : (text : List ℕ) (t : Term) → term text t → (v : List ℕ) → Var v ≡ t → IsVariableName v
bare_term text t (inl s) v e =
    let bare = s.in_first.in_second in
    let is : v ≡ s.in_first.back = same_variable v s.met (e ∙ s.in_second.1) ∙ bare.2 in
    subst IsVariableName (sym is) (bare.0, bare.1)
bare_term text t (inr s) v e = absurd (let f : Var v ≡ Named s.met = e ∙ s.in_second.1 in cc)

one_of : (t : Term) (v : List ℕ) → Contains (t ∷ []) (Var v) → Var v ≡ t
one_of t v c = elim (contains_cases t [] (Var v) c) [ inl e ↦ e | inr d ↦ absurd (omega (arith, d.1)) ]

bare_atom : (text : List ℕ) (a : Atom) → atom text a → (v : List ℕ) → Contains (terms_of a) (Var v) → IsVariableName v
bare_atom text a (inl s) v there =
    let t = s.in_second.in_second.in_second in
    let is = t.in_second.in_second.in_second.1 in
    bare_term t.front t.met t.in_first v (one_of t.met v (subst (λ (b : Atom). Contains (terms_of b) (Var v)) is there))
bare_atom text a (inr s) v there =
    let t = s.in_second.in_second.in_second in
    let u = t.in_second.in_second.in_second.in_second in
    let is = u.in_second.in_second.in_second.1 in
    elim (contains_cases t.met (u.met ∷ []) (Var v) (subst (λ (b : Atom). Contains (terms_of b) (Var v)) is there)) [
      | inl e ↦ bare_term t.front t.met t.in_first v e
      | inr d ↦ bare_term u.front u.met u.in_first v (one_of u.met v d)
    ]

bare_atoms : (text : List ℕ) (as' : List Atom) → many (listed atom) text as' → (v : List ℕ) → Contains (flat_map terms_of as') (Var v) → IsVariableName v
bare_atoms text [] s v there = absurd (omega (arith, there.1))
bare_atoms text (a ∷ as') s v there = elim (Contains-append_cases (terms_of a) (flat_map terms_of as') (Var v) there) [
  | inl c ↦ (let x = s.3.in_second.in_second in bare_atom x.back a x.in_second v c)
  | inr c ↦ bare_atoms s.1 as' s.4 v c
]

pub bare_variables : (text : List ℕ) (q : Question) → query text q → HasBareVariables q
bare_variables text q s v there =
    let first = s.in_second.in_second.in_second.in_second.in_second.in_second.in_second.in_second in
    let others = first.in_second in
    let is = others.in_second.1 in
    elim (Contains-append_cases (terms_of first.met) (flat_map terms_of others.met) (Var v) (subst (λ (p : Question). Contains (terms p) (Var v)) is there)) [
      | inl c ↦ bare_atom first.front first.met first.in_first v c
      | inr c ↦ bare_atoms others.front others.met others.in_first v c
    ]
