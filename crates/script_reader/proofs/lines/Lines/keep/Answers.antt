use Rattle.std.proofs.Common.{◌≡◌, ◌-◌, ◌++◌, ◌∙◌, List, ℕ, length, take, min, arith, ap, Result, Ok, Err, if◌then◌else◌}
use Rattle.std.specs.Prelude.{is_ok, IsOk}
use Rattle.std.proofs.lemmas.List.{length-take}
use Rattle.script_reader.specs.Feeding.{LineSoFar}
use Rattle.script_reader.proofs.LineLemmas.{kept_some}
use Rattle.script_reader.proofs.FeedingLemmas.{so_far}
use Rattle.script_reader.proofs.lines.Lines.keep.Goals as goal

extended : {T E : Type 0} (r : Result T E) (old new more : List ℕ) → new ≡ (if is_ok r then old ++ more else old) → IsOk r → new ≡ old ++ more
extended (Ok v) old new more is done = is
extended (Err e) old new more is done = absurd cc

pub returns : goal.returns
returns c =
    let same : length c.as_slice.result.now ≡ length c.self.inside.bytes.items = ap length c.as_slice.ensures.value in
    let is : c.min-some.result ≡ min (length c.args.input.now) (4098 - length c.self.inside.bytes.items) =
    c.min-some.ensures ∙ ap (λ n. min (length c.args.input.now) (4098 - n)) same in
    let done : IsOk c.extend_from_slice.result = c.extend_from_slice.ensures.succeeds (omega (arith, is, same, c.as_slice.ensures.len, length-take c.min-some.result c.args.input.now)) in
    let bytes : c.extend_from_slice.new.self.items ≡ take 4098 (c.self.inside.bytes.items ++ c.args.input.now) =
    extended c.extend_from_slice.result c.self.inside.bytes.items c.extend_from_slice.new.self.items (take c.min-some.result c.args.input.now) c.extend_from_slice.ensures.items done
    ∙ kept_some c.self.inside.bytes.items c.args.input.now c.min-some.result (omega (arith, same, c.as_slice.ensures.len)) is in
    ap (λ (l : List ℕ). so_far l c.self.inside.ended) bytes
    ∙ ap (λ (l : LineSoFar). so_far (take 4098 (l.bytes ++ c.args.input.now)) l.ended) c.self.view_is
