use Rattle.std.proofs.Common.{◌≡◌, ◌≤◌, true, length, sym, refl, ◌∙◌, arith}
use Rattle.std.proofs.Math.Nat.{mul-zero, zero-div, zero-mod}
use Rattle.dch_types.specs.declared.channel.Side.{Side}
use Rattle.dch_frame.specs.Downlinks.{flexible_weight, stands_below}
use Rattle.dch_frame.proofs.Greatest.{stands_le, ceil_le}
use Rattle.dch_frame.proofs.flexible.first_places.Goals as goal

-- where no combination weighs anything, a format that stands in one has no bits
pub returns-then-most-eq0-clause-value : goal.returns-then-most-eq0-clause-value
returns-then-most-eq0-clause-value c =
    let side : Side = c.args.side.now in
    let found : stands_below side c.args.i c.args.f (length side.combinations) ≡ true = sym c.is_used.ensures ∙ c.if-not-is_used.false in
    let none : flexible_weight side c.args.i c.args.f ≡ 0 = omega (arith, stands_le side c.args.i c.args.f (length side.combinations) c.requires.channel found, c.requires.most, c.if-most-eq0.true) in
    rw (found, none, mul-zero, zero-div, zero-mod) refl

pub returns-else-most-eq0-clause-small : goal.returns-else-most-eq0-clause-small
returns-else-most-eq0-clause-small c =
    let side : Side = c.args.side.now in
    let found : stands_below side c.args.i c.args.f (length side.combinations) ≡ true = sym c.is_used.ensures ∙ c.if-not-is_used.false in
    let order : c.flexible_weight.result ≤ c.args.most = omega (arith, c.flexible_weight.ensures.value, stands_le side c.args.i c.args.f (length side.combinations) c.requires.channel found, c.requires.most) in
    omega (arith, c.div_ceil-else-most-eq0.ensures, ceil_le c.args.ndata c.flexible_weight.result c.args.most order (omega (arith, c.if-most-eq0.false)))
