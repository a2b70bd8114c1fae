use Rattle.std.proofs.Common.{◌≡◌, ◌+◌, ◌<◌, ◌≤◌, ℕ, length}
use Rattle.std.specs.Prelude.{slice_index}
use Rattle.dch_types.specs.Parts.{channel_at}
use Rattle.dch_iub.specs.Answers.{AreKnown, number_in}
use Rattle.dch_iub.specs.Shape.{number_place}
use Rattle.dch_iub.proofs.judge.read_numbers.Given as goal

abbrev pub invariant-loop-i : goal.invariant-loop-i
invariant-loop-i l = record {
  place : l.at ≡ number_place l.side l.set l.i;
  few : l.at ≤ 2 + l.i;
  long : length l.numbers ≡ 8;
  each : (j : ℕ) → j < l.i → (channel_at l.side j).set ≡ l.set → number_in l.side l.set l.frame j ≡ slice_index l.numbers j;
  known : AreKnown l.side l.set l.frame l.i;
}
