use Rattle.std.proofs.Common.{◌↔◌, ◌≢◌, Contains}
use Rattle.assert_tables.specs.Rows.{first_of, last_of}
use Rattle.assert_tables.specs.declared.row_set.Mention.{Mention}
use Rattle.assert_tables.proofs.MentionLemmas.{BothRemoved, both_removed, mention, removed_are, removed_loses, set_removes, took}
use Rattle.assert_tables.proofs.row_set.RowSet.take.Goals as goal

one : (c : goal.After-remove) → (m : Mention) → Contains c.remove-removed.new.self.keys m ↔ ((m ≢ mention (first_of c.args.row) c.args.row) × Contains c.self.inside.mentions.keys m)
one c = rw (← c.first_mention-first.ensures) (set_removes c.self.inside.mentions c.remove-removed.new.self c.first_mention-first.result c.remove-removed.ensures.updates.0)

two : (c : goal.After-remove) → (m : Mention) → Contains c.remove.new.self.keys m ↔ ((m ≢ mention (last_of c.args.row) c.args.row) × Contains c.remove-removed.new.self.keys m)
two c = rw (← c.last_mention-last.ensures) (set_removes c.remove-removed.new.self c.remove.new.self c.last_mention-last.result c.remove.ensures.updates.0)

both : (c : goal.After-remove) → BothRemoved c.args.row c.self.inside.mentions.keys c.remove.new.self.keys
both c = both_removed c.args.row c.self.inside.mentions.keys c.remove-removed.new.self.keys c.remove.new.self.keys (one c) (two c)

pub invariant_of-self : goal.invariant_of-self
invariant_of-self c = removed_are c.args.row c.self.inside.mentions.keys c.remove.new.self.keys c.self.invariant (both c)

pub returns-clause-rows : goal.returns-clause-rows
returns-clause-rows c = rw (← c.self.view_is) (removed_loses c.args.row c.self.inside.mentions.keys c.remove.new.self.keys c.self.invariant (both c))

pub returns-clause-removed : goal.returns-clause-removed
returns-clause-removed c = rw (← c.self.view_is) (took c.self.inside.mentions c.args.row c.self.invariant c.remove-removed.result (rw (← c.first_mention-first.ensures) c.remove-removed.ensures.test))
