use Rattle.std.proofs.Common.{arith}
use Rattle.area_layout.proofs.Digits.{back_8}
use Rattle.area_layout.proofs.numbers.u64_at.Goals as goal

pub returns : goal.returns
returns c = back_8 _ _ c.requires (λ i. omega (arith, c.type_inv.bytes i)) c.read_u64.ensures
