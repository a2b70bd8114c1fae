use Rattle.std.proofs.lemmas.List.{get_or-replicate}
use Rattle.dch_collision.proofs.legal_counting.ones.Goals as goal

pub returns : goal.returns
returns c a less = get_or-replicate 128 a 1 0 less
