use Rattle.std.proofs.Common.{◌≡◌, ◌-◌, ◌∙◌, ℕ, ap, arith, drop, length, subst, sym}
use Rattle.circular_buffer.specs.Buffer.{Buffer, buffer}
use Rattle.dch_amsend.specs.Ages.{AreAges, ages_at}
use Rattle.dch_amsend.proofs.Aging.{ages-drop, drop_ages, length-ages}
use Rattle.dch_amsend.proofs.ages.Ages.truncate_front.Goals as goal

pub invariant_of-self : goal.invariant_of-self
invariant_of-self c =
    let excess : c.saturating_sub-excess.result ≡ length c.self.inside.kept.items - c.args.len = omega arith in
    let left : c.saturating_sub-self-inside.result ≡ c.self.inside.oldest - (length c.self.inside.kept.items - c.args.len) = omega (arith, excess) in
    subst (λ n. AreAges n c.self.inside.tick c.truncate_front.new.self.items) (sym left)
    (subst (λ (b : Buffer ℕ). AreAges (c.self.inside.oldest - (length c.self.inside.kept.items - c.args.len)) c.self.inside.tick b.items) (sym c.truncate_front.ensures) (drop_ages (length c.self.inside.kept.items - c.args.len) c.self.inside.oldest c.self.inside.tick c.self.inside.kept.items c.self.invariant))

pub returns : goal.returns
returns c =
    let excess : c.saturating_sub-excess.result ≡ length c.self.inside.kept.items - c.args.len = omega arith in
    let left : c.saturating_sub-self-inside.result ≡ c.self.inside.oldest - (length c.self.inside.kept.items - c.args.len) = omega (arith, excess) in
    ap (λ n. buffer (ages_at n c.self.inside.tick c.truncate_front.new.self.items) c.truncate_front.new.self.capacity) left
    ∙ (ap (λ (b : Buffer ℕ). buffer (ages_at (c.self.inside.oldest - (length c.self.inside.kept.items - c.args.len)) c.self.inside.tick b.items) b.capacity) c.truncate_front.ensures
    ∙ (ap (λ us. buffer us c.self.inside.kept.capacity) (ages-drop (length c.self.inside.kept.items - c.args.len) c.self.inside.oldest c.self.inside.tick c.self.inside.kept.items ∙ ap (λ n. drop (n - c.args.len) (ages_at c.self.inside.oldest c.self.inside.tick c.self.inside.kept.items)) (sym (length-ages c.self.inside.oldest c.self.inside.tick c.self.inside.kept.items)))
    ∙ ap (λ (b : Buffer ℕ). buffer (drop (length b.items - c.args.len) b.items) b.capacity) c.self.view_is))
