use Rattle.std.proofs.Common.{◌≡◌, ℕ, zero, suc, get_or, refl}
use Rattle.std.specs.Prelude.{replicate}
use Rattle.dch_trellis.specs.Search.{no_votes}
use Rattle.dch_tests.proofs.trellis.zeros_of.Goals as goal

none : (n j : ℕ) → (get_or (replicate n no_votes) j no_votes).ones ≡ 0
none zero j = refl
none (suc n) zero = refl
none (suc n) (suc j) = none n j

pub loop-i-init : goal.loop-i-init
loop-i-init c = none 28
