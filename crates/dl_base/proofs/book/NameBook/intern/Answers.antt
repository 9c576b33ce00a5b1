use Rattle.std.proofs.Common.{◌≡◌, ℕ, List, [], ◌∷◌, ◌++◌, Contains, ◌∙◌, length, arith, ◌<◌, ap}
use Rattle.std.proofs.lemmas.List.Elements.{recursion_from_All}
use Rattle.std.proofs.lemmas.Map.Entries.{length-values_of}
use Rattle.std.specs.Map.{values_of}
use Rattle.indexmap.proofs.CallerLemmas.{insert_entry-new}
use Rattle.dl_base.specs.Book.{Interns}
use Rattle.dl_base.proofs.BookLemmas.{lookup_absent, book_pushed, interned_new}
use Rattle.dl_base.proofs.book.NameBook.intern.Goals as goal

absent_of : (c : goal.Joined-branch-4) → Contains (values_of c.self.inside.names.entries) c.args.name.now → ⊥
absent_of c = λ there. c.in_default.ensures (rw (c.bytes.ensures.bytes, ← c.self.view_is) there)

entries_of : (c : goal.Joined-branch-4) → c.insert.new.self.entries ≡ c.self.inside.names.entries ++ (c.in_ok-key.key, c.args.name.now) ∷ []
entries_of c =
    let bytes : c.in_ok-key.key.items ≡ c.args.name.now = c.in_ok-key.ensures.items ∙ c.bytes-2.ensures.bytes in
    let none = lookup_absent (λ k. k.items) c.args.name.now c.self.inside.names.entries (recursion_from_All _ _ c.self.invariant.same) (absent_of c) in
    let new = insert_entry-new _ c.self.inside.names c.in_ok-key.key c.in_ok-name.name (rw bytes none) in
    c.in_ok-insert.ensures.entries ∙ (new ∙ ap (λ (n : List ℕ). c.self.inside.names.entries ++ (c.in_ok-key.key, n) ∷ []) c.in_ok-name.ensures)

pub invariant_of-self-2 : goal.invariant_of-self-2
invariant_of-self-2 c =
    let bytes : c.in_ok-key.key.items ≡ c.args.name.now = c.in_ok-key.ensures.items ∙ c.bytes-2.ensures.bytes in
    let len : length (values_of c.self.inside.names.entries) ≡ length c.self.inside.names.entries = length-values_of c.self.inside.names.entries in
    let few : length (values_of c.self.inside.names.entries) < 4000000000 = rw c.self.view_is c.requires in
    rw (entries_of c) (book_pushed (λ k. k.items) c.args.name.now _ _ c.self.invariant bytes (omega arith) (absent_of c))

pub returns-clause-ok : goal.returns-clause-ok
returns-clause-ok c =
    let done : Interns (values_of c.self.inside.names.entries) c.args.name.now (values_of c.insert.new.self.entries) (length c.self.inside.names.entries) =
    rw (entries_of c) (interned_new (λ k. k.items) c.args.name.now c.self.inside.names.entries c.in_ok-key.key (absent_of c)) in
    rw (← c.self.view_is, c.len-at.ensures.len) done
