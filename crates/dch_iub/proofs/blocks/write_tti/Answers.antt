use Rattle.std.proofs.Common.{◌≡◌, ◌+◌, ◌*◌, ◌≤◌, ◌∙◌, ℕ, List, length, take, arith, ap, subst, below_more}
use Rattle.std.specs.Int.{div_ceil}
use Rattle.std.proofs.lemmas.Nat.{row_fits}
use Rattle.dch_bits.specs.declared.bit.Bit.{Bit}
use Rattle.dch_accept.specs.Blocks.{Held, block_at}
use Rattle.dch_iub.specs.Steps.{IsPacked}
use Rattle.dch_iub.proofs.Fronts.{front_less, packed_front}
use Rattle.dch_iub.proofs.blocks.write_tti.Goals as goal

pub loop-b-preserved : goal.loop-b-preserved
loop-b-preserved c =
    let held : Held = c.args.blocks.now in
    let at : ℕ = c.args.at in
    let b : ℕ = c.loop-b.b in
    let w : ℕ = div_ceil held.size 8 in
    let out : List ℕ = c.loop-b.out in
    let new : List ℕ = c.write_bits.new.out in
    let place : at + b * c.args.octets ≡ at + b * w = ap (λ m. at + b * m) c.requires.octets in
    let bits : List Bit = c.block.result.now in
    let wide : div_ceil (length bits) 8 ≡ w = ap (λ m. div_ceil m 8) c.block.ensures.long in
    let here : IsPacked new (at + b * w) w (block_at held b) =
    subst (λ (bs : List Bit). IsPacked new (at + b * w) w bs) c.block.ensures.value
    (subst (λ (p : ℕ). IsPacked new p w bits) place (subst (λ (m : ℕ). IsPacked new (at + b * c.args.octets) m bits) wide c.write_bits.ensures.packed)) in
    let before : take (at + b * w) new ≡ take (at + b * w) out = subst (λ (p : ℕ). take p new ≡ take p out) place c.write_bits.ensures.before in record {
      packed = below_more (λ q. IsPacked new (at + q * w) w (block_at held q)) b
          (λ q early. let fits : q * w + w ≤ b * w = row_fits q w b w early (omega arith) in
          packed_front (at + b * w) new out (at + q * w) w (block_at held q) (omega arith) before (c.loop-b.invariant.packed q early))
          here;
      before = front_less at (at + b * w) new out (omega arith) before ∙ c.loop-b.invariant.before;
    }
