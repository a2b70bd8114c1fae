-- What arrives of frames, and that it fits where it goes.
use Rattle.std.proofs.Common.{◌≡◌, ◌<◌, ◌≤◌, ◌∙◌, ℕ, suc, List, [], ◌∷◌, length, if◌then◌else◌, Bool, true, false, refl, sym, subst, ap, Option, Some, None}
use Rattle.std.specs.Borrow.{Bor}
use Rattle.dch_bits.specs.declared.bit.Bit.{Bit}
use Rattle.dch_types.specs.declared.channel.Dir.{Dir}
use Rattle.dch_types.specs.Parts.{side_of}
use Rattle.dch_types.specs.Timing.{has_set}
use Rattle.dch_accept.specs.Frames.{tfci_bits}
use Rattle.dch_accept.specs.Plans.{Planned}
use Rattle.dch_accept.specs.declared.frame.FrameView.{FrameView}
use Rattle.dch_tti.specs.RxFrames.{HasTfci}
use Rattle.dch_node.specs.Values.{Radio}
use Rattle.dch_txframes.specs.Lending.{octets_of, radio_of}
use Rattle.dch_damage.specs.Damage.{Damage, each_changed, flips, iub_after, is_lost, radio_after}
use Rattle.dch_damage.specs.Lending.{octets_of as octets_hit, radio_of as radio_hit}
use Rattle.dch_damage.specs.Opened.{HasIubRoom, HasRadioRoom, IsDamageOf}
use Rattle.dch_damage.specs.Tables.{Tables, radio_at, set_at}
use Rattle.dch_damage.specs.Turns.{turned_bit, turned_cell}
use Rattle.dch_link.specs.Fitting.{MayFitIub, MayFitRadio}

-- what is lent is seen in one way
pub octets_same : (octets : Option (Bor (List ℕ))) → octets_hit octets ≡ octets_of octets
octets_same None = refl
octets_same (Some octets) = refl

pub radio_same : (frame : Option FrameView) → radio_hit frame ≡ radio_of frame
radio_same None = refl
radio_same (Some frame) = refl

-- the tables have room for what fits a configuration
pub iub_room : (planned : Planned) (tables : Tables) (dir : Dir) (set : ℕ) (octets : Option (List ℕ)) → IsDamageOf planned tables → set < 8 → MayFitIub planned dir set octets → HasIubRoom tables dir set octets
iub_room planned tables dir set None is few fits = tt
iub_room planned tables dir set (Some octets) is few fits =
    subst (λ (n : ℕ). n ≤ length (set_at tables dir set).masks) (sym fits.long) (is.iub dir set few fits.numbers fits.formats)

pub radio_room : (planned : Planned) (tables : Tables) (dir : Dir) (radio : Option Radio) → IsDamageOf planned tables → MayFitRadio planned dir radio → HasRadioRoom tables dir radio
radio_room planned tables dir None is fits = tt
radio_room planned tables dir (Some radio) is fits = record {
  tfci = subst (λ (n : ℕ). n ≤ length (radio_at tables dir).tfci) (sym fits.tfci) (is.radio dir).tfci;
  cells = subst (λ (n : ℕ). n ≤ length (radio_at tables dir).cells) (sym fits.cells) ((is.radio dir).cells fits.combination fits.listed);
}

-- an Iub frame that arrives is one of a set that there is
pub set_there : (planned : Planned) (dir : Dir) (set : ℕ) (damage : List Damage) (sent : Option (List ℕ)) (octets : List ℕ) → MayFitIub planned dir set sent → Some octets ≡ iub_after damage dir set sent → has_set (side_of planned.config dir) set ≡ true
set_there planned dir set damage None octets fits arrives = cc arrives
set_there planned dir set damage (Some sent) octets fits arrives = fits.there

length-each : {X : Type 0} (change : ℕ → X → X) (xs : List X) → length (each_changed change xs) ≡ length xs
length-each change [] = refl
length-each change (x ∷ xs) = ap suc (length-each (λ place. change (suc place)) xs)

-- the TFCI bits of a radio frame that there is
abbrev tfci_if : Option Radio → List Bit
tfci_if None = []
tfci_if (Some radio) = radio.tfci

-- a radio frame that arrives has as many TFCI bits as it was sent with
pub tfci_kept : (planned : Planned) (dir : Dir) (damage : List Damage) (sent : Option Radio) (frame : Option FrameView) → MayFitRadio planned dir sent → radio_of frame ≡ radio_after damage dir sent → HasTfci planned dir frame
tfci_kept planned dir damage sent None fits arrives = tt
tfci_kept planned dir damage None (Some frame) fits arrives = cc arrives
tfci_kept planned dir damage (Some sent) (Some frame) fits arrives = by_loss (is_lost damage dir) arrives
  where
    by_loss : (lost : Bool) → ◌≡◌ {A = Option Radio} (Some (record { tfci = frame.tfci.now; cells = frame.cells.now })) (if lost then None else Some (record {
      tfci = each_changed (λ place. turned_bit (flips damage dir true place)) sent.tfci;
      cells = each_changed (λ place. turned_cell (flips damage dir false place)) sent.cells;
    })) → length frame.tfci.now ≡ tfci_bits planned.config dir
    by_loss true arrives = cc arrives
    by_loss false arrives =
        let same : frame.tfci.now ≡ each_changed (λ place. turned_bit (flips damage dir true place)) sent.tfci = ap tfci_if arrives in
        ap (λ (l : List Bit). length l) same ∙ length-each (λ place. turned_bit (flips damage dir true place)) sent.tfci ∙ fits.tfci
