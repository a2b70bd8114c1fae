use Rattle.std.proofs.Common.{◌≡◌, ◌+◌, ◌*◌, ◌%◌, ℕ, List, length, get_or, arith, ap, ◌∙◌}
use Rattle.std.proofs.lemmas.List.{get_or_default}
use Rattle.dch_bits.specs.declared.bit.Trit.{Trit}
use Rattle.dch_bits.specs.declared.bit.Trit.TheVariants.{Off}
use Rattle.dch_tti.specs.Loaded.{frame_number}
use Rattle.dch_dlphy.specs.Frames.{bits_per_frame}
use Rattle.dch_dlphy.proofs.Sent.{sent_is}
use Rattle.dch_dlphy.proofs.writer.write_channel.Goals as goal

pub returns : goal.returns
returns c q inside =
    let planned = c.args.accepted.now in
    let i : ℕ = c.args.i in
    let n : ℕ = c.args.cfn % c.frames_of.result in
    let places : ℕ = length c.copy_segment.new.out in
    let frame : n ≡ frame_number planned.config.downlink.side i c.args.cfn = ap (λ f. c.args.cfn % f) c.frames_of.ensures.value in
    let size : places ≡ bits_per_frame planned c.args.combination i = c.copy_segment.auto.out ∙ c.requires.room in
    c.copy_segment.ensures q inside
    ∙ ap (λ (cells : List Trit). get_or cells (n * places + q) Off) c.cells.ensures
    ∙ sent_is planned c.args.tti_buffers.now c.args.cfn c.args.combination i q n places c.index-tti_buffers-i.result size frame (c.index-tti_buffers-i.is ∙ get_or_default c.args.tti_buffers.now i _ _ (omega (arith, c.requires.channel, c.requires.opened.channels)))
