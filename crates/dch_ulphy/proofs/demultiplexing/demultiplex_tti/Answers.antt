use Rattle.std.proofs.Common.{◌≡◌, ◌*◌, ◌<◌, ℕ, length, arith, ap, sym, ◌∙◌, subst}
use Rattle.dch_types.specs.Limits.{IsFrames}
use Rattle.dch_types.specs.Parts.{channel_at}
use Rattle.dch_inter.specs.Places.{frame_of}
use Rattle.dch_inter.proofs.FirstColumns.{frame_of-below}
use Rattle.dch_frame.proofs.Carried.{whole_rows}
use Rattle.dch_tti.specs.RxFrames.{rx_frame_at, tti_place}
use Rattle.dch_ulphy.proofs.Demultiplexed.{heard_none, heard_more}
use Rattle.dch_ulphy.proofs.demultiplexing.demultiplex_tti.Goals as goal

pub loop-n-init : goal.loop-n-init
loop-n-init c = heard_none _ _ _ _

pub loop-n-preserved : goal.loop-n-preserved
loop-n-preserved c =
    let reader = c.args.rx_frames.now in
    heard_more c.args.accepted.now reader c.args.channel c.loop-n.n c.loop-n.votes c.demultiplex_frame.new.votes c.frame.result.now c.demultiplex_frame.auto.votes
    (c.frame.ensures ∙ ap (λ f. rx_frame_at reader.frames (tti_place reader.cfn f c.loop-n.n)) c.frames_of-frames.ensures.value)
    c.demultiplex_frame.ensures.votes c.demultiplex_frame.ensures.few c.demultiplex_frame.ensures.same c.loop-n.invariant

-- each bit goes to a radio frame of the TTI
in_frames : (f frames rows len j : ℕ) → f ≡ frames → IsFrames f → 0 < f → len ≡ rows * frames → j < len → frame_of frames len j < f
in_frames f frames rows len j same is some whole inside =
    subst (λ frames. frame_of frames len j < f) same (frame_of-below f len j is (whole_rows f rows len some (whole ∙ ap (λ f. rows * f) (sym same))) inside)

pub returns-clause-votes : goal.returns-clause-votes
returns-clause-votes c j v inside =
    c.loop-n.invariant.votes j v inside (omega (
      arith,
      in_frames c.frames_of-frames.result (channel_at c.args.accepted.now.config.uplink.side c.args.channel).frames (length c.args.counted.now) (length c.loop-n.votes) j
          c.frames_of-frames.ensures.value c.frames_of-frames.ensures.frames c.frames_of-frames.ensures.some (c.loop-n.auto.votes ∙ c.requires.whole) inside,
    ))

pub returns-clause-few : goal.returns-clause-few
returns-clause-few c j v inside =
    c.loop-n.invariant.few j v inside (omega (
      arith,
      in_frames c.frames_of-frames.result (channel_at c.args.accepted.now.config.uplink.side c.args.channel).frames (length c.args.counted.now) (length c.loop-n.votes) j
          c.frames_of-frames.ensures.value c.frames_of-frames.ensures.frames c.frames_of-frames.ensures.some (c.loop-n.auto.votes ∙ c.requires.whole) inside,
    ))
