use Rattle.std.proofs.Common.{◌≡◌, ◌-◌, ◌<◌, ◌++◌, ℕ, [], ◌∷◌, ◌∙◌, ap, arith, drop, length, length-append, subst, sym}
use Rattle.circular_buffer.specs.Buffer.{Buffer, buffer}
use Rattle.dch_amsend.specs.Ages.{AreAges, ages_at}
use Rattle.dch_amsend.proofs.Aging.{ages_push, length-ages, push_ages}
use Rattle.dch_amsend.proofs.ages.Ages.push.Goals as goal

pub invariant_of-self : goal.invariant_of-self
invariant_of-self c =
    let room : length c.self.inside.kept.items < c.self.inside.kept.capacity = subst (λ n. n < c.self.inside.kept.capacity) (length-ages c.self.inside.oldest c.self.inside.tick c.self.inside.kept.items) (subst (λ (b : Buffer ℕ). length b.items < b.capacity) (sym c.self.view_is) c.requires) in
    let all : length (c.self.inside.kept.items ++ c.self.inside.tick ∷ []) - c.self.inside.kept.capacity ≡ 0 = omega (arith, room, length-append c.self.inside.kept.items (c.self.inside.tick ∷ [])) in
    subst (λ (b : Buffer ℕ). AreAges c.self.inside.oldest c.self.inside.tick b.items) (sym (c.push_back.ensures.items ∙ ap (λ n. buffer (drop n (c.self.inside.kept.items ++ c.self.inside.tick ∷ [])) c.self.inside.kept.capacity) all))
    (push_ages c.self.inside.oldest c.self.inside.tick c.self.inside.kept.items (omega arith) c.self.invariant)

pub returns : goal.returns
returns c =
    let room : length c.self.inside.kept.items < c.self.inside.kept.capacity = subst (λ n. n < c.self.inside.kept.capacity) (length-ages c.self.inside.oldest c.self.inside.tick c.self.inside.kept.items) (subst (λ (b : Buffer ℕ). length b.items < b.capacity) (sym c.self.view_is) c.requires) in
    let all : length (c.self.inside.kept.items ++ c.self.inside.tick ∷ []) - c.self.inside.kept.capacity ≡ 0 = omega (arith, room, length-append c.self.inside.kept.items (c.self.inside.tick ∷ [])) in
    ap (λ (b : Buffer ℕ). buffer (ages_at c.self.inside.oldest c.self.inside.tick b.items) b.capacity) (c.push_back.ensures.items ∙ ap (λ n. buffer (drop n (c.self.inside.kept.items ++ c.self.inside.tick ∷ [])) c.self.inside.kept.capacity) all)
    ∙ (ap (λ us. buffer us c.self.inside.kept.capacity) (ages_push c.self.inside.oldest c.self.inside.tick c.self.inside.kept.items (omega arith) c.self.invariant.within)
    ∙ ap (λ (b : Buffer ℕ). buffer (b.items ++ 0 ∷ []) b.capacity) c.self.view_is)
