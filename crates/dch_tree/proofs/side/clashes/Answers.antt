use Rattle.std.proofs.Common.{sym, ◌∙◌}
use Rattle.dch_tree.proofs.Sets.{clashes_by_map}
use Rattle.dch_tree.proofs.side.clashes.Goals as goal

pub returns-in-Some : goal.returns-in-Some
returns-in-Some c = rw c.in-Some.is (c.has_another.ensures ∙ sym (clashes_by_map c.in-Some.pair c.args.seen.now))
