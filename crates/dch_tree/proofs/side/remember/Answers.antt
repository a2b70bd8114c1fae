use Rattle.std.proofs.Common.{◌≡◌, ◌==◌, ◌&&◌, true, arith}
use Rattle.std.proofs.lemmas.Grind.{common_steps}
use Rattle.std.specs.List.{list_any}
use Rattle.dch_tree.proofs.Sets.{found_again}
use Rattle.dch_tree.proofs.side.remember.Goals as goal

pub returns-else-not-has : goal.returns-else-not-has
returns-else-not-has c =
    let there : list_any (λ other. other.set == c.in-Some.pair.set && other.frames == c.in-Some.pair.frames) c.args.seen.now.items ≡ true = grind (arith, common_steps) in
    λ test none. rw c.in-Some.is (found_again test c.args.seen.now.items c.in-Some.pair there)
