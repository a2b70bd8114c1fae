use Rattle.std.proofs.Common.{◌≡◌, ◌+◌, ◌∙◌, ℕ, List, ap, refl, sym, subst}
use Rattle.dch_types.specs.declared.channel.Side.{Side}
use Rattle.dch_nodeb.specs.Moves.{AreReady, IsReady}
use Rattle.dch_types.specs.Timing.{set_frames, starts}
use Rattle.dch_nodeb.specs.Values.{IubRxBuffer}
use Rattle.dch_nodeb.proofs.Keeping.{place_in, ready_off, ready_on}
use Rattle.dch_nodeb.proofs.iub_rx_buffer.ready.Goals as goal
use Rattle.dch_nodeb.proofs.iub_rx_buffer.ready.Goals.{then-starts, else-starts}

pub loop-set-preserved : goal.loop-set-preserved
loop-set-preserved c =
    let planned = c.args.accepted.now in
    let set : ℕ = c.loop-set.set in
    let frames : c.set_frames.result ≡ set_frames planned.config.downlink.side set = c.set_frames.ensures ∙ ap (λ (side : Side). set_frames side set) c.side-side.ensures.value in
    let test : starts (set_frames planned.config.downlink.side set) c.args.cfn ≡ c.starts.result =
    ap (λ (f : ℕ). starts f c.args.cfn) (sym frames) ∙ sym c.starts.ensures.value in
    elim c.if-starts.branch [
      | then-starts w ↦ subst (λ (rx_buffers : List IubRxBuffer). AreReady planned c.args.cfn (set + 1) c.args.rx_buffers.now rx_buffers) (sym w.rx_buffers-is)
          (ready_on planned c.args.cfn set c.args.rx_buffers.now c.loop-set.rx_buffers w.ready.new.self c.loop-set.invariant c.loop-set-test.true (test ∙ w.if-starts.true)
          (subst (λ (p : IubRxBuffer). IsReady c.args.cfn p w.ready.new.self) (place_in planned c.loop-set.rx_buffers set set w.index-rx_buffers-set.result c.loop-set.invariant.opened refl c.loop-set-test.true) w.ready.ensures))
      | else-starts w ↦ subst (λ (rx_buffers : List IubRxBuffer). AreReady planned c.args.cfn (set + 1) c.args.rx_buffers.now rx_buffers) (sym w.rx_buffers-is)
          (ready_off planned c.args.cfn set c.args.rx_buffers.now c.loop-set.rx_buffers c.loop-set.invariant (test ∙ w.if-starts.false))
    ]
