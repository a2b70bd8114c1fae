use Rattle.std.proofs.Common.{◌≡◌, length}
use Rattle.dch_margin.proofs.FromZeros.{NoneBegins}
use Rattle.dch_margin.proofs.nearest.nearest_coded.Given as goal

abbrev pub invariant-loop-k : goal.invariant-loop-k
invariant-loop-k l = record {
  none : NoneBegins l.rate l.fn.votes (length l.fn.block) l.filler l.least l.k;
  votes : l.votes ≡ l.fn.votes;
  long : length l.block ≡ length l.fn.block;
  kept : l.trellis ≡ l.fn.trellis;
}
