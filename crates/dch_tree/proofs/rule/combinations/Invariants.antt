use Rattle.std.proofs.Common.{◌≡◌, ◌++◌, drop, option_map}
use Rattle.toml.specs.View.{items_view}
use Rattle.dch_tree.specs.Rules.{each, combination_of}
use Rattle.dch_tree.proofs.rule.combinations.Given as goal

abbrev pub invariant-loop-item : goal.invariant-loop-item
invariant-loop-item l = option_map (λ xs. l.combinations ++ xs) (each combination_of (items_view (drop l.item-index l.item-items))) ≡ each combination_of (items_view l.item-items)
