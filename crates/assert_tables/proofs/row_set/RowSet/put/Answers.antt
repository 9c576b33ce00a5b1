use Rattle.std.proofs.Common.{arith, ◌≡◌, ◌↔◌, ◌∙◌, Contains, sym, true, false}
use Rattle.std.specs.BTreeSet.{contains}
use Rattle.assert_tables.specs.Mentions.{rows_of}
use Rattle.assert_tables.specs.Rows.{first_of, last_of}
use Rattle.assert_tables.specs.contracts.row_set.MentionOrd.TheImpl.{cmp-value as mention_order}
use Rattle.assert_tables.specs.declared.row_set.Mention.{Mention}
use Rattle.dl_base.proofs.RisingLemmas.{Adds}
use Rattle.assert_tables.proofs.MentionLemmas.{BothAdded, added_are, added_gains, both_added, found, has_row, in_set, kept_gains, mention, not_found, put_back, rows_few, same_are, same_rows, set_adds, set_removes}
use Rattle.assert_tables.proofs.row_set.RowSet.put.Goals as goal

there : (c : goal.Then-not-branch) → Contains (rows_of c.self.inside.mentions.keys) c.args.row
there c =
    (has_row c.self.inside.mentions c.args.row c.self.invariant).0
    (rw (← c.first_mention-first.ensures) (found _ _ c.in_ok-insert.ensures.added c.if-not-branch.true))

pub returns-then-not-branch-clause-added : goal.returns-then-not-branch-clause-added
returns-then-not-branch-clause-added c = rw (← c.self.view_is) (there c)

pub returns-then-not-branch-clause-ok : goal.returns-then-not-branch-clause-ok
returns-then-not-branch-clause-ok c =
    let same : c.insert.new.self.keys ≡ c.self.inside.mentions.keys = rw c.if-not-branch.true at c.in_ok-insert.ensures.unchanged in
    rw (same, ← c.self.view_is) (kept_gains c.args.row c.self.inside.mentions.keys (there c))

one : (c : goal.After-len) → Adds (mention (first_of c.args.row) c.args.row) c.self.inside.mentions.keys c.insert.new.self.keys
one c = rw (← c.first_mention-first.ensures) (set_adds _ _ _ c.in_ok-insert.ensures.keys)

two : (c : goal.After-len) → Adds (mention (last_of c.args.row) c.args.row) c.insert.new.self.keys c.insert-2.new.self.keys
two c = rw (← c.last_mention-last.ensures) (set_adds _ _ _ c.in-Ok.ensures.keys)

both : (c : goal.After-len) → BothAdded c.args.row c.self.inside.mentions.keys c.insert-2.new.self.keys
both c = both_added _ _ _ _ (one c) (two c)

pub invariant_of-self-in-Ok : goal.invariant_of-self-in-Ok
invariant_of-self-in-Ok c = added_are c.args.row _ _ c.self.invariant (both c)

pub returns-in-Ok-clause-added : goal.returns-in-Ok-clause-added
returns-in-Ok-clause-added c = rw (← c.self.view_is) (λ there.
    let is : contains mention_order.it c.self.inside.mentions c.first_mention-first.result ≡ true =
    rw c.first_mention-first.ensures ((has_row c.self.inside.mentions c.args.row c.self.invariant).1 there) in
    let not_there = not_found _ _ c.in_ok-insert.ensures.added c.if-not-branch.false in
    absurd (let f : false ≡ true = sym not_there ∙ is in cc))

pub returns-in-Ok-clause-ok : goal.returns-in-Ok-clause-ok
returns-in-Ok-clause-ok c = rw (← c.self.view_is) (added_gains c.args.row _ _ (both c))

-- the first mention was put in and taken out again
back : (c : goal.After-remove) → (m : Mention) → Contains c.remove.new.self.keys m ↔ Contains c.self.inside.mentions.keys m
back c =
    let kept : c.insert-2.new.self.keys ≡ c.insert.new.self.keys = c.in-Err.ensures.err in
    let absent : Contains c.self.inside.mentions.keys c.first_mention-first.result → ⊥ = λ there.
    absurd (let f : false ≡ true = sym (not_found _ _ c.in_ok-insert.ensures.added c.if-not-branch.false) ∙ (in_set c.self.inside.mentions c.first_mention-first.result).1 there in cc) in
    let adds = set_adds _ _ _ c.in_ok-insert.ensures.keys in
    put_back c.first_mention-first.result c.self.inside.mentions.keys c.insert-2.new.self.keys c.remove.new.self.keys absent (rw kept adds)
    (set_removes c.insert-2.new.self c.remove.new.self c.first_mention-first.result c.remove.ensures.updates.0)

pub invariant_of-self-in-Err : goal.invariant_of-self-in-Err
invariant_of-self-in-Err c = same_are _ _ (back c) c.self.invariant

pub returns-in-Err-clause-err : goal.returns-in-Err-clause-err
returns-in-Err-clause-err c = rw (← c.self.view_is) (same_rows c.self.inside.mentions.keys c.remove.new.self.keys (back c))

pub returns-in-Ok-clause-few : goal.returns-in-Ok-clause-few
returns-in-Ok-clause-few c =
    let most = rows_few c.insert-2.new.self.keys in
    let small = c.len.ensures.small in
    let is = c.len.ensures.len in
    omega (arith, most, small, is)
