use Rattle.std.proofs.Common.{◌≡◌, refl, ◌∙◌, Some, ap, arith}
use Rattle.std.proofs.lemmas.Option.{slice_get_read}
use Rattle.std.proofs.lemmas.Slice.Eq.{bytes_eq-Decides}
use Rattle.query_shape.proofs.numbering.known_number.Goals as goal

pub returns-then-eq : goal.returns-then-eq
returns-then-eq c =
    let same : c.index-terms-number.result ≡ c.args.term.now = grind (arith, bytes_eq-Decides) in
    slice_get_read c.args.terms.now _ _ _ refl c.loop-number-test.true c.index-terms-number.is ∙ ap Some same

pub returns : goal.returns
returns c = λ there. c.loop-number.invariant there.0 c.args.term.now (omega (arith, there.1)) there.2
