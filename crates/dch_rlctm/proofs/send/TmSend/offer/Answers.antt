use Rattle.std.proofs.Common.{◌≡◌, ◌≤◌, ◌<◌, ◌++◌, ◌∙◌, List, [], ◌∷◌, ℕ, All, arith, length, sym, ap, refl}
use Rattle.std.proofs.lemmas.List.{get_or_default}
use Rattle.dch_bits.specs.declared.bit.Bit.{Bit}
use Rattle.dch_rlctm.specs.Waiting.{cut}
use Rattle.dch_rlctm.proofs.Cuts.{among_within, cut-push, stored-push, put-whole, Puts, length-cut, answer-accepted, answer-full}
use Rattle.dch_rlctm.proofs.send.TmSend.offer.Goals as goal

-- the unit is within the greatest size
within : (c : goal.After-fill_from_slice) → length c.args.unit.now ≤ c.self.inside.most
within c =
    rw (ap (λ w. w.most) c.self.view_is)
    (among_within c.args.sizes.now (length c.args.unit.now) c.args.self.now.most (sym c.has_size.ensures ∙ c.if-not-has_size.false) c.requires)

puts : (c : goal.After-fill_from_slice) → Puts c.self.inside.sizes.items c.self.inside.bits.items c.args.unit.now c.self.inside.most c.self.inside.sizes.capacity c.self.inside.bits.capacity
puts c = record { stored = c.self.invariant.0; full = c.self.invariant.1; few = c.in-Ok.ensures.variant.0 refl; small = within c }

pub overflow_cast-unit : goal.overflow_cast-unit
overflow_cast-unit c =
    let sizes : List ℕ = c.args.sizes.now in
    let fit : All (λ m. m ≤ 65535) sizes = λ k d below. omega (arith, c.type_inv.sizes k, get_or_default sizes k d 0 below) in
    omega (arith, among_within sizes (length c.args.unit.now) 65535 (sym c.has_size.ensures ∙ c.if-not-has_size.false) fit)

pub invariant_of-self : goal.invariant_of-self
invariant_of-self c =
    rw (c.in-Ok.ensures.ok, c.fill_from_slice.ensures.items, put-whole (puts c) c.fill_from_slice.result c.fill_from_slice.ensures.count)
    (stored-push _ _ _ _ _ c.self.invariant.0 refl (within c), c.self.invariant.1)

pub returns-in-Ok-clause-answer : goal.returns-in-Ok-clause-answer
returns-in-Ok-clause-answer c =
    let count : length c.args.self.now.units ≡ length c.self.inside.sizes.items = ap (λ w. length w.units) (sym c.self.view_is) ∙ length-cut c.self.inside.sizes.items c.self.inside.bits.items in
    let room : length c.self.inside.sizes.items < c.self.inside.sizes.capacity = c.in-Ok.ensures.variant.0 refl in
    answer-accepted c.args.sizes.now c.args.unit.now c.args.self.now (sym c.is_empty.ensures ∙ c.if-is_empty.false) (sym c.has_size.ensures ∙ c.if-not-has_size.false) (omega (arith, ap (λ w. w.buffer) c.self.view_is))

pub returns-in-Ok-clause-after : goal.returns-in-Ok-clause-after
returns-in-Ok-clause-after c =
    let unit : List Bit = c.args.unit.now in
    let sizes : List ℕ = c.self.inside.sizes.items in
    let pushed : cut (sizes ++ length unit ∷ []) (c.self.inside.bits.items ++ unit) ≡ cut sizes c.self.inside.bits.items ++ unit ∷ [] =
    cut-push sizes (length unit) c.self.inside.bits.items unit c.self.invariant.0.whole refl in
    rw (c.in-Ok.ensures.ok, c.fill_from_slice.ensures.items, put-whole (puts c) c.fill_from_slice.result c.fill_from_slice.ensures.count, pushed, ← c.self.view_is) refl

pub returns-in-Err-clause-answer : goal.returns-in-Err-clause-answer
returns-in-Err-clause-answer c =
    let count : length c.args.self.now.units ≡ length c.self.inside.sizes.items = ap (λ w. length w.units) (sym c.self.view_is) ∙ length-cut c.self.inside.sizes.items c.self.inside.bits.items in
    let full : c.self.inside.sizes.capacity ≤ length c.self.inside.sizes.items = grind (arith, c.in-Err.ensures.variant.1) in
    answer-full c.args.sizes.now c.args.unit.now c.args.self.now (sym c.is_empty.ensures ∙ c.if-is_empty.false) (sym c.has_size.ensures ∙ c.if-not-has_size.false) (omega (arith, ap (λ w. w.buffer) c.self.view_is))
