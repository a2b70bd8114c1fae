use Rattle.std.proofs.Common.{◌≢◌, ◌<◌, ◌≤◌, sym, ◌∙◌, length, arith}
use Rattle.dch_types.specs.Limits.{idled}
use Rattle.dch_config.proofs.Combinations.{idled_more, idled_stop, idled_done, length-idled, same_formats-other}
use Rattle.dch_config.proofs.side.are_idled.Goals as goal

pub returns-then-other-formats : goal.returns-then-other-formats
returns-then-other-formats c =
    let other : length c.args.other.now ≢ length (idled c.args.frames c.args.channels.now c.args.formats.now) =
    λ same. c.if-other-formats.true (same ∙ length-idled c.args.frames c.args.channels.now c.args.formats.now) in
    sym (same_formats-other c.args.other.now (idled c.args.frames c.args.channels.now c.args.formats.now) other)

pub loop-i-preserved : goal.loop-i-preserved
loop-i-preserved c =
    let within : c.loop-i.i < length c.args.other.now = omega arith in
    sym (idled_more c.args.frames c.args.channels.now c.args.formats.now c.args.other.now c.loop-i.i c.loop-i-test.true within
    (sym c.from.ensures ∙ (c.if-from-idled_format.false ∙ c.idled_format.ensures))) ∙ c.loop-i.invariant

pub returns-then-from-idled_format : goal.returns-then-from-idled_format
returns-then-from-idled_format c =
    let within : c.loop-i.i < length c.args.other.now = omega arith in
    sym (sym c.loop-i.invariant ∙ idled_stop c.args.frames c.args.channels.now c.args.formats.now c.args.other.now c.loop-i.i c.loop-i-test.true within
    (λ same. c.if-from-idled_format.true (c.from.ensures ∙ (same ∙ sym c.idled_format.ensures))))

pub returns : goal.returns
returns c =
    let done : length c.args.other.now ≤ c.loop-i.i = omega arith in
    sym (sym c.loop-i.invariant ∙ idled_done c.args.frames c.args.channels.now c.args.formats.now c.args.other.now c.loop-i.i c.loop-i-test.false done)
