use Rattle.std.proofs.Common.{◌∙◌, ap, sym}
use Rattle.dch_types.specs.declared.channel.Side.{Side}
use Rattle.dch_types.specs.Timing.{ends, set_frames}
use Rattle.dch_link.proofs.Timing.{set_there}
use Rattle.dch_link.proofs.soft.Soft.ended.Goals as goal

pub returns-then-ends-clause-there : goal.returns-then-ends-clause-there
returns-then-ends-clause-there c =
    let cfn = c.self.inside.cfn in
    set_there c.args.accepted.now.config.uplink.side c.args.set cfn
    (ap (λ (s : Side). ends (set_frames s c.args.set) cfn) (sym c.side.ensures.value) ∙ ap (λ n. ends n cfn) (sym c.set_frames-frames.ensures) ∙ sym c.ends.ensures.value ∙ c.if-ends.true)
