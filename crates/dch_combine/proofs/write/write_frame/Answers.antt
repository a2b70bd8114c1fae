use Rattle.std.proofs.Common.{◌≡◌, ◌≤◌, ◌∙◌, List, ℕ, ap, length, subst, sym}
use Rattle.std.proofs.lemmas.List.{length-take-le}
use Rattle.dch_types.specs.declared.channel.Dir.TheVariants.{Up}
use Rattle.dch_iub.specs.Forms.{IsWrittenForm}
use Rattle.dch_iub.specs.Shape.{formats_of, frame_octets}
use Rattle.dch_combine.proofs.Writing.{frame_fits, front_is}
use Rattle.dch_combine.proofs.write.write_frame.Goals as goal

pub returns-clause-written : goal.returns-clause-written
returns-clause-written c =
    let config = c.args.accepted.now.config in
    let len : c.frame_len-len.result ≡ frame_octets config Up c.args.set (formats_of c.args.blocks.now) =
    c.frame_len-len.ensures ∙ ap (λ s. frame_octets config Up s (formats_of c.args.blocks.now)) c.requires.blocks.numbered in
    let fits : c.frame_len-len.result ≤ length c.args.out.now = subst (λ n. n ≤ length c.args.out.now) (sym len) (frame_fits config c.args.set (length c.args.out.now) c.args.blocks.now c.requires.blocks c.requires.room) in
    let long : length c.write_ul.new.out ≡ c.frame_len-len.result = c.write_ul.auto.out ∙ length-take-le c.frame_len-len.result c.args.out.now fits in
    subst (λ (frame : List ℕ). IsWrittenForm config Up c.args.set frame c.args.cfn c.args.qe c.args.blocks.now) (sym (front_is c.frame_len-len.result c.write_ul.new.out _ long)) c.write_ul.ensures
