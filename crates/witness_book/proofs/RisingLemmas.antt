-- Generations that were raised for the first so many role names.
use Rattle.std.proofs.Common.{◌≡◌, ℕ, ◌+◌, ◌<◌, ◌≤◌, inl, inr, Bool, List, length, get_or, set, refl, sym, ◌∙◌, ap, subst, arith}
use Rattle.std.proofs.lemmas.Bool.{cases_eq}
use Rattle.std.proofs.lemmas.List.{get_or-set_same, get_or-set_other}
use Rattle.dl_base.specs.declared.concept.Role.{Role}
use Rattle.witness_book.specs.Rising.{Rises, generation_at, generation_in, never}
use Rattle.witness_book.specs.declared.generations.Generations.{Generations}

pub record RisenBelow (before after : List ℕ) (place : ℕ) (old new : List Generations) : Type 0 where
  pub below : (r : Role) → r.name < place → Rises before after r (generation_at old r) (generation_at new r)
  pub rest : (k : ℕ) (d : Generations) → place ≤ k → get_or new k d ≡ get_or old k d

pub risen_none : (before after : List ℕ) (old : List Generations) → RisenBelow before after 0 old old
risen_none before after old = record { below = λ r less. absurd (omega arith); rest = λ k d past. refl }

pub risen_more : (before after : List ℕ) (place : ℕ) (old now : List Generations) (g : Generations) → place < length now
    → ((inverse : Bool) → Rises before after (record { name = place; inverse = inverse }) (generation_in (get_or now place never) inverse) (generation_in g inverse))
    → RisenBelow before after place old now → RisenBelow before after (place + 1) old (set now place g)
risen_more before after place old now g inside rises are = record {
  below = λ r less. elim (cases_eq r.name place) [
    | inl same ↦
        let at : get_or (set now place g) r.name never ≡ g = ap (λ k. get_or (set now place g) k never) same ∙ get_or-set_same now place g never inside in
        let was : get_or old r.name never ≡ get_or now place never = ap (λ k. get_or old k never) same ∙ sym (are.rest place never (omega arith)) in
        let rise : Rises before after r (generation_in (get_or now place never) r.inverse) (generation_in g r.inverse) =
        subst (λ (k : ℕ). Rises before after (record { name = k; inverse = r.inverse }) (generation_in (get_or now place never) r.inverse) (generation_in g r.inverse)) (sym same) (rises r.inverse) in
        subst (λ (x : Generations × Generations). Rises before after r (generation_in x.0 r.inverse) (generation_in x.1 r.inverse)) (λ j. (sym was j, sym at j)) rise
    | inr other ↦
        subst (λ (x : Generations). Rises before after r (generation_at old r) (generation_in x r.inverse)) (sym (get_or-set_other now place r.name g never other)) (are.below r (omega arith))
  ];
  rest = λ k d past. get_or-set_other now place k g d (λ e. absurd (omega arith)) ∙ are.rest k d (omega arith);
}
