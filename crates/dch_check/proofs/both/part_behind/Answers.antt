use Rattle.std.proofs.Common.{◌≤◌, ◌+◌, ◌-◌, ◌∙◌, sym, length, drop, length-drop, arith, rules}
use Rattle.std.proofs.lemmas.List.{take_all}
use Rattle.dch_check.proofs.Seconds.{behind_is, behind_whole}
use Rattle.dch_check.proofs.both.part_behind.Goals as goal

pub slice_bounds-result-count : goal.slice_bounds-result-count
slice_bounds-result-count c = behind_whole c.args.text.now c.args.at c.requires

pub slice_bounds-result-start : goal.slice_bounds-result-start
slice_bounds-result-start c = let whole : c.args.at + 4 ≤ length c.args.text.now = behind_whole c.args.text.now c.args.at c.requires in search rules

pub returns : goal.returns
returns c =
    take_all (length c.args.text.now - (c.args.at + 4)) (drop (c.args.at + 4) c.args.text.now) (omega (arith, length-drop (c.args.at + 4) c.args.text.now))
    ∙ sym (behind_is c.args.text.now c.args.at c.requires)
