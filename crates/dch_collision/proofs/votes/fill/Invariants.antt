use Rattle.std.proofs.Common.{◌≡◌, ◌<◌, ℕ, get_or}
use Rattle.std.specs.Prelude.{false}
use Rattle.dch_trellis.specs.Search.{no_votes}
use Rattle.dch_collision.specs.Hidden.{vote_for}
use Rattle.dch_collision.proofs.votes.fill.Given as goal

abbrev pub invariant-loop-t : goal.invariant-loop-t
invariant-loop-t l = (t : ℕ) → t < l.t → get_or l.votes t no_votes ≡ vote_for l.zeros l.ones (get_or l.sent_flags t false)
