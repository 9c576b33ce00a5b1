use Rattle.std.proofs.Common.{◌≡◌, ◌++◌, ◌∷◌, [], ℕ, List, Vec, Global, OnOk, ap, ◌∙◌, subst, sym}
use Rattle.std.proofs.lemmas.List.{map-append}
use Rattle.answer_core.specs.Found.{AddsKey}
use Rattle.answer_core.specs.Ranks.{items_of}
use Rattle.answer_core.proofs.KeySets.{adds_behind_result, adds_between}
use Rattle.answer_core.proofs.key_store.KeyStore.add.Goals as goal

pub returns-then-not-self-clause-ok : goal.returns-then-not-self-clause-ok
returns-then-not-self-clause-ok c =
    subst (λ (old : List (List ℕ)). OnOk c.insert.result (AddsKey old c.args.key.now (items_of c.self.inside.listed.items ++ items_of c.insert.new.keys.keys))) c.self.view_is
    (adds_behind_result c.insert.result (items_of c.self.inside.listed.items) (items_of c.self.inside.others.keys) (items_of c.insert.new.keys.keys) c.args.key.now c.insert.ensures.ok)

pub returns-clause-ok : goal.returns-clause-ok
returns-clause-ok c =
    let reads : items_of c.push.new.self.items ≡ items_of c.self.inside.listed.items ++ c.args.key.now ∷ [] =
    ap items_of c.in_ok-push.ensures.items ∙ map-append (λ (r : Vec ℕ Global). r.items) c.self.inside.listed.items (c.in_ok-copy.copy ∷ [])
    ∙ ap (λ (x : List ℕ). items_of c.self.inside.listed.items ++ x ∷ []) c.in_ok-copy.ensures.items in
    subst (λ (old : List (List ℕ)). AddsKey old c.args.key.now (items_of c.push.new.self.items ++ items_of c.self.inside.others.keys)) c.self.view_is
    (subst (λ (new : List (List ℕ)). AddsKey (items_of c.self.inside.listed.items ++ items_of c.self.inside.others.keys) c.args.key.now (new ++ items_of c.self.inside.others.keys)) (sym reads)
    (adds_between (items_of c.self.inside.listed.items) (items_of c.self.inside.others.keys) c.args.key.now))
