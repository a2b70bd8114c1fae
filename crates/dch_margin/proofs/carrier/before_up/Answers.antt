use Rattle.std.proofs.Common.{◌≡◌, ◌+◌, ◌∙◌, ℕ, length, arith, ap, sym}
use Rattle.std.specs.Prelude.{slice_index}
use Rattle.dch_types.specs.Sums.{total}
use Rattle.dch_types.proofs.Sums.{part_le, total-more, total-zero, total_same}
use Rattle.dch_frame.specs.Uplinks.{sent_of}
use Rattle.dch_collision.specs.Copies.{frame_size}
use Rattle.dch_collision.proofs.FrameSizes.{frame_size-plan}
use Rattle.dch_margin.proofs.carrier.before_up.Goals as goal

pub loop-j-init : goal.loop-j-init
loop-j-init c = sym (total-zero (slice_index c.args.plan.now.sent))

pub overflow_add-before : goal.overflow_add-before
overflow_add-before c = omega (arith, c.loop-j.invariant, part_le (slice_index c.args.plan.now.sent) c.loop-j.j (length c.args.config.now.side.channels) (omega arith), c.requires.plan.all_sent, c.requires.plan.most)

pub loop-j-preserved : goal.loop-j-preserved
loop-j-preserved c = ap (λ n. n + slice_index c.args.plan.now.sent c.loop-j.j) c.loop-j.invariant ∙ sym (total-more (slice_index c.args.plan.now.sent) c.loop-j.j)

pub returns : goal.returns
returns c =
    let side = c.args.config.now.side in
    let end : c.loop-j.j ≡ c.args.i = omega arith in
    c.loop-j.invariant ∙ ap (λ (j : ℕ). total (slice_index c.args.plan.now.sent) j) end
    ∙ total_same (slice_index c.args.plan.now.sent) (sent_of side c.args.c (frame_size c.args.config.now c.args.c)) c.args.i
    (λ j before. c.requires.plan.sent j (omega (arith, before, c.requires.channel)) ∙ ap (λ (n : ℕ). sent_of side c.args.c n j) (sym (frame_size-plan c.args.config.now c.args.c c.args.plan.now c.requires.plan)))
