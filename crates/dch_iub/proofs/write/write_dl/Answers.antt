use Rattle.std.proofs.Common.{◌∙◌, ap}
use Rattle.dch_types.specs.declared.channel.Dir.TheVariants.{Down}
use Rattle.dch_types.specs.declared.config.Config.{Config}
use Rattle.dch_iub.proofs.Written.{filled_frame, frame_room}
use Rattle.dch_iub.proofs.write.write_dl.Goals as goal

pub fill_dl-requires-clause-room : goal.fill_dl-requires-clause-room
fill_dl-requires-clause-room c =
    c.requires.room
    ∙ frame_room c.args.accepted.now.config Down c.args.set c.numbers_of-numbers.result c.args.blocks.now c.side-side.result.now c.config.result.now.payload_check
    c.side-side.ensures.value (ap (λ (g : Config). g.payload_check) c.config.ensures.value) c.requires.opened c.numbers_of-numbers.ensures

pub returns : goal.returns
returns c =
    filled_frame c.args.accepted.now.config Down c.args.set c.args.cfn 0 c.fill_dl.new.out c.numbers_of-numbers.result c.args.blocks.now c.side-side.result.now c.config.result.now.payload_check
    c.side-side.ensures.value (ap (λ (g : Config). g.payload_check) c.config.ensures.value) c.requires.opened (c.fill_dl.auto.out ∙ c.requires.room)
    (record { numbered = c.numbers_of-numbers.ensures; front = c.fill_dl.ensures.front; tail = λ formats. tt; padding = tt; check = c.fill_dl.ensures.check })
