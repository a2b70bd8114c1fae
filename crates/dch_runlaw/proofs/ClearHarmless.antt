-- Where no damage is done, each frame arrives as it was sent.
use Rattle.std.proofs.Common.{◌≡◌, ◌∙◌, ℕ, List, [], ◌∷◌, Option, Some, None, true, false, refl, sym, ap}
use Rattle.std.specs.Int.Bits.{xor_zero_r}
use Rattle.std.specs.Prelude.{bit_xor}
use Rattle.dch_types.specs.declared.channel.Dir.{Dir}
use Rattle.dch_types.specs.declared.channel.Dir.TheVariants.{Down, Up}
use Rattle.dch_damage.specs.Damage.{Damage, flips, iub_after, mask_on, radio_after}
use Rattle.dch_damage.specs.Turns.{turned_bit, turned_cell}
use Rattle.dch_damage.proofs.Changed.{unchanged}
use Rattle.dch_node.specs.Lines.{Line}
use Rattle.dch_node.specs.Values.{Radio}
use Rattle.dch_linkcmd.specs.UeState.{BlockedCombination as UeBlocked, OfferedUnit as UeOffered}
use Rattle.dch_linkcmd.specs.RncState.{BlockedCombination as RncBlocked, OfferedUnit as RncOffered}
use Rattle.dch_linkcmd.specs.Events.{BlockedCombination, Damages, Event as LinkEvent, Happens, OfferedUnit}
use Rattle.dch_linkcmd.specs.LinkLink.{LinkState}
use Rattle.dch_runlaw.specs.Frames.{IsFrame}
use Rattle.dch_runlaw.specs.Runs.{Between, Event, Frame, Runs}
use Rattle.dch_runlaw.proofs.Keeping.{but_rnc, but_ue}
use Rattle.dch_runlaw.specs.Clear.{AreHarmless, FrameClear, IsClear, IsHarmless}

-- what arrives where no damage waits
radio_whole : (dir : Dir) (o : Option Radio) → radio_after [] dir o ≡ o
radio_whole dir None = refl
radio_whole dir (Some radio) =
    let tfci = unchanged (λ place. turned_bit (flips [] dir true place)) radio.tfci (λ k bit early. refl) in
    let cells = unchanged (λ place. turned_cell (flips [] dir false place)) radio.cells (λ k cell early. refl) in
    λ t. Some (record { tfci = sym tfci t; cells = sym cells t })

iub_whole : (dir : Dir) (s : ℕ) (o : Option (List ℕ)) → iub_after [] dir s o ≡ o
iub_whole dir s None = refl
iub_whole dir s (Some octets) = ap (λ (l : List ℕ). Some l) (sym (unchanged (λ k octet. bit_xor octet (mask_on [] dir s k)) octets (λ k octet early. xor_zero_r octet)))

frame_clear : (old new : LinkState) (lines : List Line) (f : IsFrame old new lines) → old.damage ≡ [] → FrameClear old new lines f
frame_clear old new lines f none = record {
  iub_down = λ s small. ap (λ (d : List Damage). iub_after d Down s (f.rnc_output.iub s)) none ∙ iub_whole Down s (f.rnc_output.iub s);
  radio_down = ap (λ (d : List Damage). radio_after d Down f.down_output.sent) none ∙ radio_whole Down f.down_output.sent;
  radio_up = ap (λ (d : List Damage). radio_after d Up f.ue_output.sent) none ∙ radio_whole Up f.ue_output.sent;
  iub_up = λ s small. ap (λ (d : List Damage). iub_after d Up s (f.up_output.iub s)) none ∙ iub_whole Up s (f.up_output.iub s);
}

-- none waits after an event that does none
still_none : (old new : LinkState) (event : LinkEvent) (lines : List Line) → Happens old event new lines → IsHarmless event → old.damage ≡ [] → new.damage ≡ []
still_none old new (OfferedUnit Up b octets bits) lines happens harmless none = (but_ue old new (UeOffered b octets bits) happens.0).damage ∙ none
still_none old new (OfferedUnit Down b octets bits) lines happens harmless none = (but_rnc old new (RncOffered b octets bits) happens.0).damage ∙ none
still_none old new (BlockedCombination Up c on) lines happens harmless none = (but_ue old new (UeBlocked c on) happens.0).damage ∙ none
still_none old new (BlockedCombination Down c on) lines happens harmless none = (but_rnc old new (RncBlocked c on) happens.0).damage ∙ none
still_none old new (Damages damage) lines happens harmless none = absurd harmless

pub none_left : (events : List Event) (old new : LinkState) (lines : List Line) → Runs old events new lines → old.damage ≡ [] → AreHarmless events → new.damage ≡ []
none_left [] old new lines run none harmless = ap (λ (l : LinkState). l.damage) run.0 ∙ none
none_left (Between event ∷ events) old new lines run none harmless = none_left events run.next new run.rest run.later (still_none old run.next event run.own run.step harmless.0 none) harmless.1
none_left (Frame ∷ events) old new lines run none harmless = none_left events run.next new run.rest run.later run.step.damage harmless

pub clear_from : (events : List Event) (old new : LinkState) (lines : List Line) (run : Runs old events new lines) → old.damage ≡ [] → AreHarmless events → IsClear events old new lines run
clear_from [] old new lines run none harmless = tt
clear_from (Between event ∷ events) old new lines run none harmless =
    (tt, clear_from events run.next new run.rest run.later (still_none old run.next event run.own run.step harmless.0 none) harmless.1)
clear_from (Frame ∷ events) old new lines run none harmless =
    (frame_clear old run.next run.own run.step.frame none, clear_from events run.next new run.rest run.later run.step.damage harmless)
