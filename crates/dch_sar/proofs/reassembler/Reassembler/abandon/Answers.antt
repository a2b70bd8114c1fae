use Rattle.std.proofs.Common.{◌-◌, ◌∙◌, ap}
use Rattle.dch_sar.specs.Taking.{dropped}
use Rattle.dch_sar.specs.Stored.{stored}
use Rattle.dch_sar.proofs.Cuts.{abandoned}
use Rattle.dch_sar.proofs.reassembler.Reassembler.abandon.Goals as goal

pub returns : goal.returns
returns c =
    ap (λ b. stored c.self.inside.sizes.items b.items) c.truncate_back.ensures
    ∙ (abandoned c.self.inside.sizes.items c.self.inside.octets.items c.self.inside.part _ c.self.invariant.0 (ap (λ n. n - c.self.inside.part) c.len.ensures.len)
    ∙ ap dropped c.self.view_is)
