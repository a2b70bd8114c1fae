use Rattle.std.proofs.Common.{◌≡◌, ℕ, length, arith, ap, sym, ◌∙◌, subst}
use Rattle.dch_frame.specs.declared.pattern.Pattern.{Pattern}
use Rattle.dch_frame.specs.Patterns.{copies}
use Rattle.dch_frame.specs.Uplinks.{uplink_pattern, weight_of}
use Rattle.dch_frame.proofs.SharesLemmas.{shared_le}
use Rattle.dch_frame.proofs.Sizes.{largest_most}
use Rattle.dch_collision.specs.Copies.{frame_size}
use Rattle.dch_collision.proofs.FrameSizes.{frame_size-plan}
use Rattle.dch_margin.specs.Counts.{AreCounts}
use Rattle.dch_margin.proofs.counting.count_frame.Goals as goal

pub count-requires-clause-few : goal.count-requires-clause-few
count-requires-clause-few c =
    omega (arith, c.frame.ensures.kept, c.requires.plan.most, largest_most c.args.config.now.largest c.requires.good.largest, shared_le (weight_of c.args.config.now.side c.args.c) (length c.args.config.now.side.channels) c.args.plan.now.ndata c.args.i c.requires.channel)

pub returns : goal.returns
returns c =
    let size : frame_size c.args.config.now c.args.c ≡ c.args.plan.now.ndata = frame_size-plan c.args.config.now c.args.c c.args.plan.now c.requires.plan in
    let pattern : c.frame.result ≡ uplink_pattern c.args.config.now.side c.args.c (frame_size c.args.config.now c.args.c) c.args.i c.args.n =
    c.frame.ensures.value ∙ ap (λ (n : ℕ). uplink_pattern c.args.config.now.side c.args.c n c.args.i c.args.n) (sym size) in
    subst (λ (p : Pattern). AreCounts (copies p.kind) c.count.new.votes) pattern c.count.ensures
