-- What an option that is filled holds.
use mathlib.Core.Path.{◌≡◌, refl}
use Rattle.std.proofs.lemmas.Bool.{false≢true}
use Rattle.std.specs.Prelude.{true, Option, None, Some}
use Rattle.dch_handle.specs.Filled.{filled}

pub content : {X : Type 0} (o : Option X) → filled o ≡ true → (x : X) × (o ≡ Some x)
content None is_filled = absurd (false≢true is_filled)
content (Some x) is_filled = (x, refl)
