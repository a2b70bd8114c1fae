use Rattle.std.proofs.Common.{◌≡◌, ◌+◌, ◌∙◌, ℕ, ap, ap₂, arith, sym}
use Rattle.dch_types.specs.Parts.{format_number}
use Rattle.dch_types.proofs.Sums.{total-more, total-zero}
use Rattle.dch_frame.specs.Downlinks.{places_of}
use Rattle.dch_margin.proofs.carrier.before_down.Goals as goal

pub loop-j-init : goal.loop-j-init
loop-j-init c = record {
  sum = sym (total-zero (λ j. places_of c.args.config.now j (format_number c.args.config.now.side c.args.c j)));
  few = omega arith;
}

pub loop-j-preserved : goal.loop-j-preserved
loop-j-preserved c =
    let places : ℕ → ℕ = λ j. places_of c.args.config.now j (format_number c.args.config.now.side c.args.c j) in
    let here : c.places_down-before.result ≡ places c.loop-j.j = c.places_down-before.ensures.value ∙ ap (λ (f : ℕ). places_of c.args.config.now c.loop-j.j f)
    (c.tfi-format.ensures.value ∙ ap₂ (λ (a b : ℕ). format_number c.args.config.now.side a b) c.from.ensures c.from-in-loop-j.ensures) in
    record {
      sum = ap₂ (λ (a b : ℕ). a + b) c.loop-j.invariant.sum here ∙ sym (total-more places c.loop-j.j);
      few = omega (arith, c.loop-j.invariant.few, c.places_down-before.ensures.few);
    }
