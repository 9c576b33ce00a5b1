use Rattle.std.proofs.Common.{arith}
use Rattle.area_layout.proofs.Digits.{back_4}
use Rattle.area_layout.proofs.numbers.u32_at.Goals as goal

pub returns : goal.returns
returns c = back_4 _ _ c.requires (λ i. omega (arith, c.type_inv.bytes i)) c.read_u32.ensures
