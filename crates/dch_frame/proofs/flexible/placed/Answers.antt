use Rattle.std.proofs.Common.{◌≡◌, ℕ, sym, ap, ◌∙◌, arith}
use Rattle.dch_types.specs.Parts.{format_number}
use Rattle.dch_types.proofs.Sums.{total-zero, total-more}
use Rattle.dch_frame.specs.Places.{place_at}
use Rattle.dch_frame.proofs.flexible.placed.Goals as goal

pub loop-i-init : goal.loop-i-init
loop-i-init c = (sym (total-zero (λ i. place_at c.args.table.now i (format_number c.args.side.now c.args.c i))), omega arith)

pub loop-i-preserved : goal.loop-i-preserved
loop-i-preserved c =
    let places : ℕ → ℕ = λ i. place_at c.args.table.now i (format_number c.args.side.now c.args.c i) in
    let here : c.at-places.result ≡ places c.loop-i.i = c.at-places.ensures.value ∙ ap (place_at c.args.table.now c.loop-i.i) c.tfi.ensures.value in
    (omega (arith, total-more places c.loop-i.i, here, c.loop-i.invariant.0), omega arith)
