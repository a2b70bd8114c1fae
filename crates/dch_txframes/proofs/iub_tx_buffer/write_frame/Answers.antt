use Rattle.std.proofs.Common.{◌≡◌, ◌≤◌, ◌∙◌, ℕ, List, length, ap, sym, subst}
use Rattle.std.proofs.lemmas.List.{length-take-le}
use Rattle.dch_iub.specs.Forms.{IsWrittenForm}
use Rattle.dch_iub.specs.Shape.{formats_of, frame_octets}
use Rattle.dch_txframes.specs.Sending.{qe_sent}
use Rattle.dch_txframes.proofs.Lengths.{frame-fits, front_is}
use Rattle.dch_txframes.proofs.iub_tx_buffer.write_frame.Goals as goal

pub returns-clause-fits : goal.returns-clause-fits
returns-clause-fits c =
    let config = c.args.accepted.now.config in
    let len : c.frame_len-len.result ≡ frame_octets config c.args.dir c.args.set (formats_of c.args.blocks.now) =
    c.frame_len-len.ensures ∙ ap (λ s. frame_octets config c.args.dir s (formats_of c.args.blocks.now)) c.requires.blocks.numbered in
    subst (λ n. n ≤ length c.args.out.now) (sym len) (frame-fits config c.args.dir c.args.set (length c.args.out.now) c.args.blocks.now c.requires.blocks c.requires.room)

pub returns-clause-written : goal.returns-clause-written
returns-clause-written c =
    let config = c.args.accepted.now.config in
    let fits : c.frame_len-len.result ≤ length c.args.out.now = returns-clause-fits c in
    let long : length c.write.new.out ≡ c.frame_len-len.result = c.write.auto.out ∙ length-take-le c.frame_len-len.result c.args.out.now fits in
    subst (λ (frame : List ℕ). IsWrittenForm config c.args.dir c.args.set frame c.args.cfn (qe_sent config c.args.dir) c.args.blocks.now) (sym (front_is c.frame_len-len.result c.write.new.out _ long)) c.write.ensures
