use Rattle.std.proofs.Common.{◌≡◌, ◌<◌, ◌-◌, ◌∙◌, ap, arith, length, sym}
use Rattle.dch_layer2.specs.Sharing.{share}
use Rattle.dch_layer2.proofs.Filling.{can_fill, fill_more}
use Rattle.dch_layer2.proofs.starting.fill.Goals as goal

pub build-requires : goal.build-requires
build-requires c =
    let is : c.share-count.result ≡ share c.args.head c.args.size (length c.args.blocks.now.good - c.args.from) = c.share-count.ensures.value ∙ ap (λ n. share c.args.head c.args.size (n - c.args.from)) c.count.ensures in
    let below : c.loop-k.k < share c.args.head c.args.size (length c.args.blocks.now.good - c.args.from) = omega (arith, c.loop-k-test.true, is) in
    can_fill c.args.head c.args.size (length c.args.blocks.now.good - c.args.from) c.loop-k.k c.args.from c.args.bearer.now c.loop-k.bearer c.args.blocks.now c.loop-k.blocks c.block_mut.result.now c.requires.offers below
    (c.block_mut.ensures.long ∙ (c.loop-k.invariant.shape.size ∙ c.requires.size)) c.loop-k.invariant.fills

pub loop-k-preserved : goal.loop-k-preserved
loop-k-preserved c =
    fill_more c.loop-k.k c.args.from c.args.bearer.now c.loop-k.bearer c.build.new.self c.args.blocks.now c.loop-k.blocks c.build.new.out (sym (ap length c.block_mut.ensures.value) ∙ c.block_mut.ensures.long) (c.build.auto.out ∙ c.block_mut.ensures.long) c.loop-k.invariant c.build.ensures
