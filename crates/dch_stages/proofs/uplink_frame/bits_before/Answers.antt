use Rattle.std.proofs.Common.{◌+◌, ◌≤◌, arith, ap, sym, ◌∙◌}
use Rattle.std.specs.Prelude.{slice_index}
use Rattle.dch_types.specs.Sums.{total}
use Rattle.dch_types.proofs.Sums.{part_le, total-more, total-zero}
use Rattle.dch_stages.proofs.uplink_frame.bits_before.Goals as goal

pub loop-before-init : goal.loop-before-init
loop-before-init c = sym (total-zero (slice_index c.args.plan.now.sent))

pub overflow_add-bits : goal.overflow_add-bits
overflow_add-bits c =
    let sent = slice_index c.args.plan.now.sent in
    let room : total sent c.loop-before.before + sent c.loop-before.before ≤ total sent c.args.channel = part_le sent c.loop-before.before c.args.channel (omega arith) in
    omega (arith, room, c.loop-before.invariant, c.requires.small)

pub loop-before-preserved : goal.loop-before-preserved
loop-before-preserved c =
    let sent = slice_index c.args.plan.now.sent in
    ap (λ bits. bits + sent c.loop-before.before) c.loop-before.invariant ∙ sym (total-more sent c.loop-before.before)
