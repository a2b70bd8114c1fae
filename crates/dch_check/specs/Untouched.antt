-- A run that neither read nor wrote.
use Rattle.std.specs.Prelude.{[]}
use Rattle.std.specs.Io.KnownBytes.{Consumes, Appends}
use Rattle.dch_io.specs.Ends.{End}

-- the source gave nothing, and the sink took nothing
abbrev pub IsUntouched : End → End → Type 0
IsUntouched source sink = Consumes source.before source.now [] × Appends sink.before sink.now []
