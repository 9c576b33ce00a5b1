use Rattle.std.proofs.Common.{◌≡◌, ◌↔◌, ◌<◌, ◌*◌, ℕ, Some, option_map, length, refl, ap, subst, ◌∙◌, arith}
use Rattle.dl_base.specs.Sets.{role_place}
use Rattle.dl_base.specs.declared.concept.Role.{Role}
use Rattle.witness_book.specs.Witnesses.{Witnesses}
use Rattle.table_report.specs.Gathered.{IsOfLive, entry_of}
use Rattle.table_report.specs.TableLines.{Entry}
use Rattle.table_report.proofs.AddsLemmas.{adds_as, below_none, below_more, below_all}
use Rattle.table_report.proofs.LookupLemmas.{IsAtPlace, place_entries, place_within}
use Rattle.table_report.proofs.gather.add_witnesses.Goals as goal

pub loop-place-init : goal.loop-place-init
loop-place-init c = below_none (IsAtPlace c.args.ontology.now c.args.tables.now.book) c.args.entries.now.items

pub loop-place-preserved : goal.loop-place-preserved
loop-place-preserved c =
    let o = c.args.ontology.now in
    let book = c.args.tables.now.book in
    let found = option_map entry_of c.witness_entry-found.result in
    below_more (IsAtPlace o book) c.loop-place.place c.args.entries.now.items c.loop-place.entries.items c.push_found.new.entries.items c.loop-place.invariant
    (adds_as (λ x. found ≡ Some x) (IsAtPlace o book c.loop-place.place) c.loop-place.entries.items c.push_found.new.entries.items
    (λ x. place_entries o book c.loop-place.place c.role_at.result found x c.role_at.ensures.place
    (subst (λ (b : Witnesses). (y : Entry) → (found ≡ Some y) ↔ IsOfLive o b c.role_at.result y) c.book.ensures c.witness_entry-found.ensures)) c.in_ok-push_found.ensures)

pub returns : goal.returns
returns c =
    let o = c.args.ontology.now in
    let book = c.args.tables.now.book in
    adds_as (λ x. (k : ℕ) × IsAtPlace o book k x) (λ x. (r : Role) × IsOfLive o book r x) c.args.entries.now.items c.loop-place.entries.items
    (λ x. (λ found. (found.1.0, found.1.2), λ found. (role_place found.0, (found.0, refl, found.1))))
    (below_all (IsAtPlace o book) c.loop-place.place c.args.entries.now.items c.loop-place.entries.items
    (λ k x found.
    let within : k < 2 * length o.roles = place_within o book k x found in
    let all = c.len-place-end.ensures.len ∙ ap length c.roles.ensures.names in
    let past = c.loop-place-test.false in
    omega arith) c.loop-place.invariant)
