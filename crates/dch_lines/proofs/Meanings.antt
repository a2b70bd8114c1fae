-- A line that says something is not refused.
use Rattle.std.proofs.Common.{◌≡◌}
use Rattle.std.specs.Prelude.{Ok, Err, Result}
use Rattle.dch_script.specs.declared.event.LineError.{LineError}

pub ok_err : {A : Type 0} (a : A) (r : Result A LineError) (why : LineError) → r ≡ Ok a → r ≡ Err why → ⊥
ok_err a r why ok err = cc
