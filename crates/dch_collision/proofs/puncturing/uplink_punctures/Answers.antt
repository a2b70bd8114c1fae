use Rattle.std.proofs.Common.{◌||◌, sym, ◌∙◌, ap}
use Rattle.dch_collision.specs.Counted.{removes_below}
use Rattle.dch_collision.proofs.Punctured.{removes-zero, removes-more}
use Rattle.dch_collision.proofs.puncturing.uplink_punctures.Goals as goal
use Rattle.dch_collision.proofs.puncturing.uplink_punctures.Goals.{then-gives_and_removes, else-gives_and_removes}

pub loop-c-init : goal.loop-c-init
loop-c-init c = sym (removes-zero c.args.config.now c.args.i c.args.f)

pub loop-c-preserved : goal.loop-c-preserved
loop-c-preserved c =
    let more = removes-more c.args.config.now c.args.i c.args.f c.loop-c.c in
    elim c.if-gives_and_removes.branch [
      | then-gives_and_removes w ↦
          w.punctures-is ∙ sym (more ∙ ap (λ b. b || removes_below c.args.config.now c.args.i c.args.f c.loop-c.c) (sym c.gives_and_removes.ensures ∙ w.if-gives_and_removes.true))
      | else-gives_and_removes w ↦
          w.punctures-is ∙ c.loop-c.invariant ∙ sym (more ∙ ap (λ b. b || removes_below c.args.config.now c.args.i c.args.f c.loop-c.c) (sym c.gives_and_removes.ensures ∙ w.if-gives_and_removes.false))
    ]
