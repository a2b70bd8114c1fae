use Rattle.std.proofs.Common.{◌≡◌, ◌==◌, ◌||◌, true, false, sym, ◌∙◌, ap}
use Rattle.std.proofs.lemmas.Bool.{eq-eqb, ne_eqb}
use Rattle.dch_types.specs.Parts.{format_number}
use Rattle.dch_frame.specs.Downlinks.{stands_below}
use Rattle.dch_frame.proofs.Greatest.{is_used-zero, is_used-more}
use Rattle.dch_frame.proofs.flexible.is_used.Goals as goal
use Rattle.dch_frame.proofs.flexible.is_used.Goals.{then-tfi-f, else-tfi-f}

pub loop-c-init : goal.loop-c-init
loop-c-init c = sym (is_used-zero c.args.side.now c.args.i c.args.f)

pub loop-c-preserved : goal.loop-c-preserved
loop-c-preserved c =
    let more = is_used-more c.args.side.now c.args.i c.args.f c.loop-c.c in
    elim c.if-tfi-f.branch [
      | then-tfi-f w ↦
          let is : (format_number c.args.side.now c.loop-c.c c.args.i == c.args.f) ≡ true = eq-eqb _ _ (sym c.tfi.ensures.value ∙ w.if-tfi-f.true) in
          w.found-is ∙ eq-eqb c.tfi.result c.args.f w.if-tfi-f.true ∙ sym (more ∙ ap (λ b. b || stands_below c.args.side.now c.args.i c.args.f c.loop-c.c) is)
      | else-tfi-f w ↦
          let is : (format_number c.args.side.now c.loop-c.c c.args.i == c.args.f) ≡ false = ne_eqb _ _ (λ e. w.if-tfi-f.false (c.tfi.ensures.value ∙ e)) in
          w.found-is ∙ c.loop-c.invariant ∙ sym (more ∙ ap (λ b. b || stands_below c.args.side.now c.args.i c.args.f c.loop-c.c) is)
    ]
