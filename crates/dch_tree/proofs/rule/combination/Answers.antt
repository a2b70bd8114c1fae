use Rattle.std.proofs.Common.{sym, ap, ◌∙◌, option_map}
use Rattle.toml.specs.View.{view}
use Rattle.dch_tree.specs.Rules.{member_of}
use Rattle.dch_tree.proofs.Each.{each_more, each_fails, each_done, list_said}
use Rattle.dch_tree.proofs.rule.combination.Goals as goal

pub loop-item-preserved : goal.loop-item-preserved
loop-item-preserved c =
    rw c.in_ok-push.ensures.ok
    (each_more member_of c.loop-item.formats _ c.in-Some-member.format c.deref-item-items.result.now c.loop-item.item-index c.item-item.result c.loop-item-test.true c.item-item.is (sym c.in-Some-member.is ∙ c.member.ensures) c.loop-item.invariant)

pub returns-in_default-member : goal.returns-in_default-member
returns-in_default-member c =
    ap (λ o. option_map (λ formats. record { formats = formats }) o) (list_said member_of (view c.args.value.now) c.in-Some.items.now.items _ _ c.in-Some.ensures c.deref-item-items.ensures.value
    (each_fails member_of c.loop-item.formats _ c.deref-item-items.result.now c.loop-item.item-index c.item-item.result c.loop-item-test.true c.item-item.is (sym c.in_default-member.is ∙ c.member.ensures) c.loop-item.invariant))

pub returns : goal.returns
returns c =
    ap (λ o. option_map (λ formats. record { formats = formats }) o) (list_said member_of (view c.args.value.now) c.in-Some.items.now.items _ _ c.in-Some.ensures c.deref-item-items.ensures.value
    (each_done member_of c.loop-item.formats _ c.deref-item-items.result.now c.loop-item.item-index c.loop-item-test.false c.loop-item.invariant))
