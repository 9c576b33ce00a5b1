use Rattle.std.proofs.Common.{ℕ, ◌-◌, ◌≡◌, suc, drop, sym, ◌∙◌, subst, arith}
use Rattle.script_reader.specs.DocLines.{AreBlank}
use Rattle.script_reader.proofs.BlankRules.{blank_before, next_blank, cut_at}
use Rattle.script_reader.proofs.doc_line.without_blanks_behind.Goals as goal

pub returns-then-not-next_is_kind : goal.returns-then-not-next_is_kind
returns-then-not-next_is_kind c =
    let n = c.loop-end.end - 1 in
    cut_at n c.loop-end.end c.args.text.now (omega (arith, c.loop-end-test.true)) c.loop-end.invariant.within
    (next_blank n c.args.text.now _ c.next_is_kind.ensures ∙ c.if-not-next_is_kind.true) c.loop-end.invariant.blank

pub loop-end-preserved : goal.loop-end-preserved
loop-end-preserved c =
    let n = c.loop-end.end - 1 in
    let up : suc n ≡ c.loop-end.end = omega (arith, c.loop-end-test.true) in
    record {
      within = omega (arith, c.loop-end.invariant.within);
      blank = blank_before n c.args.text.now (omega (arith, up, c.loop-end.invariant.within))
          (next_blank n c.args.text.now _ c.next_is_kind.ensures ∙ c.if-not-next_is_kind.false)
          (subst (λ (m : ℕ). AreBlank (drop m c.args.text.now)) (sym up) c.loop-end.invariant.blank);
    }
