use Rattle.std.proofs.Common.{◌∙◌, ℕ, List, ap}
use Rattle.dch_types.specs.declared.channel.Dir.TheVariants.{Up}
use Rattle.dch_types.specs.declared.config.Config.{Config}
use Rattle.dch_iub.proofs.Written.{filled_frame, frame_room, marked, tail_padded}
use Rattle.dch_iub.proofs.write.write_ul.Goals as goal

pub fill_ul-requires-clause-room : goal.fill_ul-requires-clause-room
fill_ul-requires-clause-room c =
    c.requires.room
    ∙ frame_room c.args.accepted.now.config Up c.args.set c.numbers_of-numbers.result c.args.blocks.now c.side-side.result.now c.config.result.now.payload_check
    c.side-side.ensures.value (ap (λ (g : Config). g.payload_check) c.config.ensures.value) c.requires.opened c.numbers_of-numbers.ensures

pub returns : goal.returns
returns c =
    let side = c.side-side.result.now in
    let set : ℕ = c.args.set in
    let held = c.args.blocks.now in
    let numbers : List ℕ = c.numbers_of-numbers.result in
    let frame : List ℕ = c.fill_ul.new.out in
    filled_frame c.args.accepted.now.config Up set c.args.cfn c.args.qe frame numbers held side c.config.result.now.payload_check
    c.side-side.ensures.value (ap (λ (g : Config). g.payload_check) c.config.ensures.value) c.requires.opened (c.fill_ul.auto.out ∙ c.requires.room)
    (record {
      numbered = c.numbers_of-numbers.ensures;
      front = c.fill_ul.ensures.front;
      tail = λ formats. record {
        quality = c.fill_ul.ensures.quality;
        marks = marked side set frame numbers held (record { numbered = c.numbers_of-numbers.ensures; formats = formats }) c.fill_ul.ensures.marked;
      };
      padding = tail_padded side set frame numbers held c.fill_ul.ensures.marked;
      check = c.fill_ul.ensures.check;
    })
