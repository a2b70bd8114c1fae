-- The lines of a radio frame in which no damage has an effect.
use Rattle.std.proofs.Common.{◌≡◌, ◌<◌, ◌++◌, ℕ, zero, suc, List, [], ◌∷◌, Option, Some, None, length, arith, refl, sym, subst, inl, inr}
use Rattle.dch_bits.specs.declared.bit.Bit.{Bit}
use Rattle.dch_types.specs.declared.channel.Dir.TheVariants.{Down, Up}
use Rattle.dch_types.specs.Timing.{ends}
use Rattle.dch_accept.specs.Plans.{Planned}
use Rattle.dch_node.specs.Lines.{Line, Phy, joined}
use Rattle.dch_node.specs.Values.{Radio}
use Rattle.dch_layer2.specs.Layers.{ticks}
use Rattle.dch_linkcmd.specs.NodebSteps.{IsDeparture, radio_line}
use Rattle.dch_linkcmd.proofs.Steady.{tells}
use Rattle.dch_linkcmd.specs.RncSteps.{IsTick as IsRncTick, sent_line, sent_lines}
use Rattle.dch_linkcmd.specs.UeSteps.{IsTick as IsUeTick, has_read}
use Rattle.dch_linkcmd.specs.Checks.{IsSublist, good_in}
use Rattle.dch_linkcmd.specs.LinkLink.{LinkState}
use Rattle.dch_linkcmd.specs.LinkStages.{AreCompared}
use Rattle.dch_runlaw.specs.Frames.{IsFrame}
use Rattle.dch_runlaw.specs.Clear.{FrameClear}
use Rattle.dch_runlaw.specs.ClearSound.{AreSound}
use Rattle.dch_runlaw.proofs.ClearDownFrame.{DownFrame, DownStand, Fed, departure, down_side, fed_all, frames_on}
use Rattle.dch_runlaw.proofs.ClearNodes.{rnc_tick, ue_tick}
use Rattle.dch_runlaw.proofs.ClearSound.{below_sound, no_checks, self_sub, sound-append}
use Rattle.dch_runlaw.proofs.ClearUpFrame.{UpFrame}

line_sound : (set : ℕ) (o : Option (List ℕ)) → AreSound (sent_line set o)
line_sound set None = tt
line_sound set (Some octets) = (refl, tt)

sent_sound : (iub : ℕ → Option (List ℕ)) (n : ℕ) → AreSound (sent_lines iub n)
sent_sound iub zero = tt
sent_sound iub (suc s) = sound-append (sent_lines iub s) (sent_line s (iub s)) (sent_sound iub s) (line_sound s (iub s))

joined_sound : (lines : ℕ → List Line) (n : ℕ) → ((s : ℕ) → s < n → AreSound (lines s)) → AreSound (joined lines n)
joined_sound lines zero each = tt
joined_sound lines (suc s) each = sound-append (joined lines s) (lines s) (joined_sound lines s (λ k early. each k (omega (arith, early)))) (each s (omega arith))

radio_sound : (o : Option Radio) (radio : Radio) → o ≡ Some radio → AreSound (radio_line o ∷ [])
radio_sound o radio is = subst (λ (o : Option Radio). AreSound (radio_line o ∷ [])) (sym is) (refl, tt)

pub frame_sound : (planned : Planned) (old new : LinkState) (lines : List Line) (f : IsFrame old new lines) → FrameClear old new lines f → DownStand planned old → DownFrame planned old new lines f → UpFrame planned old new lines f → AreSound lines
frame_sound planned old new lines f clear s d u = subst AreSound (sym f.reported)
    (sound-append (first ++ joined f.fed_lines 8 ++ f.down_output.lines ++ (f.ue_output.lines ++ f.checks) ++ f.up_output.lines) (joined f.rnc_lines 8)
    (sound-append (first ++ joined f.fed_lines 8 ++ f.down_output.lines ++ (f.ue_output.lines ++ f.checks)) f.up_output.lines
    (sound-append (first ++ joined f.fed_lines 8 ++ f.down_output.lines) (f.ue_output.lines ++ f.checks)
    (sound-append (first ++ joined f.fed_lines 8) f.down_output.lines
    (sound-append first (joined f.fed_lines 8)
    (subst AreSound (sym ticked.reported) (sent_sound f.rnc_output.iub 8))
    (subst AreSound (sym fed.quiet) tt))
    (subst AreSound (sym left.reported) (radio_sound f.down_output.sent d.sends.radio d.sends.is)))
    (sound-append f.ue_output.lines f.checks
    (subst AreSound (sym tick.reported) (sound-append (has_read planned new.ue.state.readings f.kept.layer).lines (Phy Up tick.radio.tfci tick.radio.cells ∷ [])
    (below_sound planned.config Down new.ue.state.readings (length planned.config.downlink.side.channels) (ticks planned.config f.kept.layer) d.clean) (refl, tt)))
    (subst AreSound (sym none) tt)))
    (subst AreSound (sym u.all_said) (joined_sound u.said 8 u.sound_said)))
    (joined_sound f.rnc_lines 8 u.sound_taken))
  where
    first : List Line
    first = f.rnc_output.lines

    ticked : IsRncTick planned old.rnc.state f.rnc f.rnc_output
    ticked = rnc_tick planned old new lines f s.active

    tick : IsUeTick planned f.kept new.ue.state f.ue_output
    tick = ue_tick planned old new lines f s.active

    fed : Fed planned old new lines f 8
    fed = fed_all planned old new lines f s.active clear 8 (omega arith)

    left : IsDeparture planned (f.fed 8) f.node_b f.down_output
    left = departure planned old new lines f fed

    fits : (i : ℕ) → i < length planned.config.downlink.side.channels → IsSublist (good_in (new.ue.state.readings i)) (f.rnc.layer.given i).blocks
    fits i inside = elim (tells (ends (frames_on (down_side planned) i) old.rnc.state.cfn)) [
      | inl over ↦ subst (λ (xs : List (List Bit)). IsSublist xs (f.rnc.layer.given i).blocks) (sym (d.taken_is i inside over.0)) (self_sub (f.rnc.layer.given i).blocks)
      | inr on ↦ subst (λ (xs : List (List Bit)). IsSublist xs (f.rnc.layer.given i).blocks) (sym (d.none_is i inside on.0)) tt
    ]

    compared : AreCompared Down planned.config.downlink.side new.ue.state.readings f.rnc.layer f.checks
    compared = subst (λ (p : Planned). AreCompared Down p.config.downlink.side new.ue.state.readings f.rnc.layer f.checks) s.active.rnc f.compared

    none : f.checks ≡ []
    none = no_checks Down (λ i. good_in (new.ue.state.readings i)) (λ i. (f.rnc.layer.given i).blocks) (length planned.config.downlink.side.channels) f.checks fits compared
