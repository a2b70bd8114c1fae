use Rattle.std.proofs.Common.{sym, ◌∙◌}
use Rattle.toml.specs.View.{view}
use Rattle.dch_tree.specs.Rules.{combination_of}
use Rattle.dch_tree.proofs.Each.{each_more, each_fails, each_done, list_said}
use Rattle.dch_tree.proofs.rule.combinations.Goals as goal

pub loop-item-preserved : goal.loop-item-preserved
loop-item-preserved c =
    rw c.in_ok-push.ensures.ok
    (each_more combination_of c.loop-item.combinations _ c.in-Some-2.combination c.deref-item-items.result.now c.loop-item.item-index c.item-item.result c.loop-item-test.true c.item-item.is (sym c.in-Some-2.is ∙ c.in_ok-combination.ensures) c.loop-item.invariant)

pub returns-in_default-2 : goal.returns-in_default-2
returns-in_default-2 c =
    list_said combination_of (view c.args.value.now) c.in-Some.items.now.items _ _ c.in-Some.ensures c.deref-item-items.ensures.value
    (each_fails combination_of c.loop-item.combinations _ c.deref-item-items.result.now c.loop-item.item-index c.item-item.result c.loop-item-test.true c.item-item.is (sym c.in_default-2.is ∙ c.in_ok-combination.ensures) c.loop-item.invariant)

pub returns : goal.returns
returns c =
    list_said combination_of (view c.args.value.now) c.in-Some.items.now.items _ _ c.in-Some.ensures c.deref-item-items.ensures.value
    (each_done combination_of c.loop-item.combinations _ c.deref-item-items.result.now c.loop-item.item-index c.loop-item-test.false c.loop-item.invariant)
