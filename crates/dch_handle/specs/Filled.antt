-- Whether something is held.
use Rattle.std.specs.Prelude.{Bool, true, false, Option, None, Some}

abbrev pub filled : {X : Type 0} → Option X → Bool
filled None = false
filled (Some x) = true
