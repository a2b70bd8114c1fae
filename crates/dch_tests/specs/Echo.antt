-- The rules of a handler that answers a line three times, or once where no more can be written.
use Rattle.std.specs.Prelude.{◌≡◌, ◌++◌, codes}
use Rattle.dch_script.specs.declared.event.LineError.TheVariants.{Long}
use Rattle.dch_lines.specs.Semantics.{Semantics}

abbrev pub echoing : Semantics (Unit {0})
echoing = record {
  handles = λ _ _ _ text. text ≡ codes "once\n" ++ codes "again\nagain\n";
  begins = λ _ _ _ text. text ≡ codes "once\n";
  refuses = λ _ _ why. why ≡ Long;
  wants_memory = λ _ _. Unit {0};
  closing = λ _ _. codes "end\n";
}
