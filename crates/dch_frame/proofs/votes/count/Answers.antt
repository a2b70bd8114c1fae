use Rattle.std.proofs.Common.{ap, ◌∙◌, sym, length}
use Rattle.dch_frame.specs.declared.pattern.Kind.{Kind}
use Rattle.dch_frame.specs.Patterns.{copies, copies_below}
use Rattle.dch_frame.proofs.Changes.{below-same}
use Rattle.dch_frame.specs.Votes.{votes_among}
use Rattle.dch_frame.proofs.Counts.{counted_same}
use Rattle.dch_frame.proofs.votes.count.Goals as goal

pub count_same-requires : goal.count_same-requires
count_same-requires c = c.requires.cells ∙ ap (λ (kind : Kind). copies_below kind c.args.pattern.now.len) c.in-Same.is ∙ below-same c.args.pattern.now.len ∙ sym c.requires.room

pub returns-in-Same : goal.returns-in-Same
returns-in-Same c m v inside =
    counted_same c.args.cells.now c.count_same.new.out (length c.count_same.new.out) c.count_same.ensures m v inside
    ∙ ap (λ (kind : Kind). votes_among c.args.cells.now (copies_below kind m) (copies kind m)) (sym c.in-Same.is)
