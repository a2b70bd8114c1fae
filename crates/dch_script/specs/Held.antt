-- What a report holds.
use Rattle.std.specs.Prelude.{ℕ, List}

-- the text so far, and the most bytes that it may have
pub record Held : Type 0 where
  pub text : List ℕ
  pub most : ℕ
