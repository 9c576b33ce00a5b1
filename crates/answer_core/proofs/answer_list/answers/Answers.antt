use Rattle.std.proofs.Common.{◌↔◌, ◌∙◌, ap, refl, sym, subst, length, List, ℕ, Contains}
use Rattle.dl_base.specs.Answers.{AreAnswers}
use Rattle.answer_core.specs.Binding.{BoundQuery, IsBoundTo, IsFixedTerm}
use Rattle.answer_core.specs.Found.{IsFoundKey, AreWithin}
use Rattle.dl_base.proofs.PlaceLemmas.{zip_length}
use Rattle.answer_core.proofs.FoundLemmas.{no_answers, answers_result}
use Rattle.answer_core.proofs.answer_list.answers.Goals as goal

pub returns-then-not-has_names : goal.returns-then-not-has_names
returns-then-not-has_names g c = λ o rows generation q terminology query bound completed.
    let b : BoundQuery = record { shape = c.b.inside.shape; answers = c.b.inside.answers } in
    let here : IsBoundTo o q b = subst (λ (x : BoundQuery). IsBoundTo o q x) (sym c.b.view_is) bound in
    subst (λ (keys : List (List (List ℕ))). AreAnswers o rows q keys) (sym c.new.ensures)
    (no_answers o rows c.args.individuals.now generation (g.T.Tables.rows c.args.t.now) q b here query completed (λ known. absurd (let f = c.if-not-has_names.ensures.1 known in cc)))

pub found_keys-requires : goal.found_keys-requires
found_keys-requires g c =
    ap length c.as_slice.ensures.value ∙ zip_length (IsFixedTerm c.args.individuals.now) c.b.inside.shape.terms c.in_ok-fixed.fixed.items c.in_ok-fixed.ensures
    ∙ ap (λ (b : BoundQuery). length b.shape.terms) c.b.view_is

pub spelled-requires : goal.spelled-requires
spelled-requires g c = subst (λ (count : ℕ). AreWithin count c.in_ok-found.found) c.len.ensures.len c.in_ok-found.ensures.within

pub returns : goal.returns
returns g c = λ o rows generation q terminology query bound completed.
    let b : BoundQuery = record { shape = c.b.inside.shape; answers = c.b.inside.answers } in
    let here : IsBoundTo o q b = subst (λ (x : BoundQuery). IsBoundTo o q x) (sym c.b.view_is) bound in
    answers_result o rows c.args.individuals.now generation (g.T.Tables.rows c.args.t.now) q b c.in_ok-fixed.fixed.items terminology here c.len.ensures.distinct c.in_ok-fixed.ensures (c.if-not-has_names.ensures.0 refl)
    query completed c.in_ok-found.found c.spelled.result
    (rw (c.as_slice.ensures.value, c.len.ensures.len) at (subst (λ (x : BoundQuery). (numbers : List ℕ) → Contains c.in_ok-found.found numbers
    ↔ IsFoundKey o rows c.args.individuals.now generation (g.T.Tables.rows c.args.t.now) x c.as_slice.result.now c.len.result numbers) (sym c.b.view_is)
    (c.in_ok-found.ensures.lifted o rows c.args.individuals.now generation (record { distinct = c.len.ensures.distinct; completed = completed }))))
    c.spelled.ensures
