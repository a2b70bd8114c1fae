-- Where a walk over a stream stands.
use Rattle.std.specs.Prelude.{ℕ, ◌+◌, ◌-◌, ◌*◌}
use Rattle.dch_frame.specs.declared.pattern.Kind.{Kind}
use Rattle.dch_frame.specs.declared.pattern.Kind.TheVariants.{Same, Repeat, Puncture}
use Rattle.dch_frame.specs.declared.pattern.Pattern.{Pattern}
use Rattle.dch_frame.specs.Patterns.{changes}

-- the pattern, and how many of its bits were passed
pub record Place : Type 0 where
  pub pattern : Pattern
  pub bit : ℕ

-- the error counter after m bits: e_minus was taken off m times, and e_plus added at each change
abbrev pub counter_at : Kind → ℕ → ℕ
counter_at Same m = 0
counter_at (Repeat steps) m = steps.e_ini + changes steps m * steps.e_plus - m * steps.e_minus
counter_at (Puncture steps) m = steps.e_ini + changes steps m * steps.e_plus - m * steps.e_minus
