use Rattle.std.proofs.Common.{◌≡◌, ◌≤◌, ◌-◌, ℕ, List, ◌++◌, Ok, refl, ap, ◌∙◌, arith}
use Rattle.std.specs.Prelude.{codes}
use Rattle.std.proofs.lemmas.Bool.{le-ltb}
use Rattle.std.proofs.lemmas.List.{length-take}
use Rattle.grammar.specs.Bytes.{is_kind}
use Rattle.grammar.specs.Reading.{expect_at}
use Rattle.grammar.specs.declared.bytes.Kind.TheVariants.{Angled}
use Rattle.txn_codec.specs.PiecesReading.{angled_of_at, exactly_at}
use Rattle.txn_codec.proofs.SizedNames.{angled_is_front}
use Rattle.txn_codec.proofs.pieces.skim_angled.Goals as goal

-- the three parts make the whole
angled_parts : (n : ℕ) (text inside inner close rest : List ℕ) → 3 ≤ n → expect_at (codes "<") text ≡ Ok (tt, inside) → exactly_at (is_kind Angled) (n - 2) inside ≡ Ok (inner, close)
    → expect_at (codes ">") close ≡ Ok (tt, rest) → angled_of_at n text ≡ Ok (codes "<" ++ inner ++ codes ">", rest)
unfolding angled_of_at
angled_parts n text inside inner close rest least left middle right = rw (le-ltb n 3 least, left, middle, right) refl

pub slice_bounds-result-end : goal.slice_bounds-result-end
slice_bounds-result-end c =
    let whole = angled_parts c.args.n c.args.text.now c.in_ok-inside.inside.now c.in_ok-close.field-0-0.now c.in_ok-close.close.now c.in_ok-rest.rest.now c.if-n-lt3.false c.in_ok-inside.ensures c.in_ok-close.ensures c.in_ok-rest.ensures in
    omega (arith, (angled_is_front c.args.n c.args.text.now _ _ c.if-n-lt3.false (omega arith) whole).0, length-take c.args.n c.args.text.now)

pub returns : goal.returns
returns c =
    let whole = angled_parts c.args.n c.args.text.now c.in_ok-inside.inside.now c.in_ok-close.field-0-0.now c.in_ok-close.close.now c.in_ok-rest.rest.now c.if-n-lt3.false c.in_ok-inside.ensures c.in_ok-close.ensures c.in_ok-rest.ensures in
    whole ∙ ap (λ (name : List ℕ). Ok (name, c.in_ok-rest.rest.now)) (angled_is_front c.args.n c.args.text.now _ _ c.if-n-lt3.false (omega arith) whole).1
