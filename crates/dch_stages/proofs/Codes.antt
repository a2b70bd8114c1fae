-- Codes of one size are no more than the cells that they have.
use Rattle.std.proofs.Math.Nat.{div-le_self, div-mul-le_self}

pub ruleset code_counts = (div-le_self, div-mul-le_self)
