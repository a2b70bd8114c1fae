use Rattle.std.proofs.Common.{◌+◌, ◌∙◌, ℕ, ap, refl}
use Rattle.std.specs.Prelude.{◌%◌}
use Rattle.circular_buffer.specs.Buffer.{Buffer, buffer}
use Rattle.dch_amsend.specs.Ages.{aged}
use Rattle.dch_amsend.proofs.Aging.{ages_tick, tick_ages}
use Rattle.dch_amsend.proofs.ages.Ages.tick.Goals as goal

pub invariant_of-self : goal.invariant_of-self
invariant_of-self c = tick_ages c.self.inside.oldest c.oldest_from-self-inside.result c.self.inside.tick ((c.self.inside.tick + 1) % 65536) c.self.inside.kept.items refl c.self.invariant c.oldest_from-self-inside.ensures.within c.oldest_from-self-inside.ensures.same c.oldest_from-self-inside.ensures.younger

pub returns : goal.returns
returns c =
    ap (λ us. buffer us c.self.inside.kept.capacity) (c.oldest_from-self-inside.ensures.same ∙ ages_tick c.self.inside.oldest c.self.inside.tick 65535 c.self.inside.kept.items c.self.invariant.falling c.self.invariant.younger)
    ∙ ap (λ (b : Buffer ℕ). buffer (aged b.items) b.capacity) c.self.view_is
