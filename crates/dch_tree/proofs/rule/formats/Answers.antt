use Rattle.std.proofs.Common.{sym, ◌∙◌}
use Rattle.toml.specs.View.{view}
use Rattle.dch_tree.specs.Rules.{format_of}
use Rattle.dch_tree.proofs.Each.{each_more, each_fails, each_done, list_said}
use Rattle.dch_tree.proofs.rule.formats.Goals as goal

pub loop-item-preserved : goal.loop-item-preserved
loop-item-preserved c =
    rw c.in_ok-push.ensures.ok
    (each_more format_of c.loop-item.formats _ c.in-Some-format.format c.deref-item-items.result.now c.loop-item.item-index c.item-item.result c.loop-item-test.true c.item-item.is (sym c.in-Some-format.is ∙ c.format.ensures) c.loop-item.invariant)

pub returns-in_default-format : goal.returns-in_default-format
returns-in_default-format c =
    list_said format_of (view c.args.value.now) c.in-Some.items.now.items _ _ c.in-Some.ensures c.deref-item-items.ensures.value
    (each_fails format_of c.loop-item.formats _ c.deref-item-items.result.now c.loop-item.item-index c.item-item.result c.loop-item-test.true c.item-item.is (sym c.in_default-format.is ∙ c.format.ensures) c.loop-item.invariant)

pub returns : goal.returns
returns c =
    list_said format_of (view c.args.value.now) c.in-Some.items.now.items _ _ c.in-Some.ensures c.deref-item-items.ensures.value
    (each_done format_of c.loop-item.formats _ c.deref-item-items.result.now c.loop-item.item-index c.loop-item-test.false c.loop-item.invariant)
