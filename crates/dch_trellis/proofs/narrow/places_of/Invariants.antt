use Rattle.std.proofs.Common.{◌≡◌, ◌+◌, ◌*◌, ◌/◌, ◌%◌, ◌<◌, ℕ, get_or, length}
use Rattle.dch_trellis.proofs.narrow.places_of.Given as goal

abbrev pub invariant-loop-i : goal.invariant-loop-i
invariant-loop-i l = record {
  long : length l.places ≡ 256;
  placed : (s : ℕ) → s < 2 * l.i → get_or l.places s 0 ≡ 2 * get_or l.classes (s / 2) 0 + s % 2;
}
