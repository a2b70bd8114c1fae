-- How the cause for which the frame of a leg isn't taken is reported.
use Rattle.std.specs.Prelude.{ℕ}
use Rattle.dch_combine.specs.declared.error.CombineError.{CombineError}
use Rattle.dch_combine.specs.declared.error.CombineError.TheVariants.{Cfn, Frame}
use Rattle.dch_node.specs.IubFrames.{refusal_number}

-- the number of a cause
abbrev pub error_number : CombineError → ℕ
error_number (Frame error) = refusal_number error
error_number (Cfn cfn) = 7
