-- What the calls on transport channels do, and the status that each gives.
use Rattle.std.specs.Prelude.{◌≡◌, ◌≢◌, ◌<◌, ◌⊎◌, ◌&&◌, ◌==◌, ◌++◌, ℕ, List, Bool, true, false, Option, Some, None, drop, if◌then◌else◌, length, map, nat_lt}
use Rattle.dch_bits.specs.declared.bit.Bit.{Bit}
use Rattle.dch_bits.specs.declared.bit.Trit.{Trit}
use Rattle.dch_bits.specs.Text.{cell_letter, letter_of}
use Rattle.dch_types.specs.declared.channel.Dir.{Dir}
use Rattle.dch_types.specs.declared.channel.Dir.TheVariants.{Up, Down}
use Rattle.dch_types.specs.Parts.{channel_at, format_at, side_of}
use Rattle.dch_accept.specs.declared.frame.FrameView.{FrameView}
use Rattle.dch_accept.specs.Blocks.{Held, bits_of as format_bits}
use Rattle.dch_accept.specs.Cells.{frame_cells}
use Rattle.dch_accept.specs.Frames.{Frame, most_cells, tfci_bits}
use Rattle.dch_accept.specs.Plans.{Planned}
use Rattle.dch_tti.specs.Loaded.{AreFormats, loaded_at}
use Rattle.dch_tti.specs.Pushed.{IsPushed}
use Rattle.dch_handle.specs.Channels.{Trchs, IsFrame, IsLoaded, IsRead, heard_in, loaded_in}
use Rattle.dch_handle.specs.Codes.{bits_of, cells_of, has_bad_cell, has_bad_letter}
use Rattle.dch_handle.specs.Statuses.{bad_code, bad_letter, bad_size, done}
use Rattle.dch_handle.specs.declared.tti.Tti.{Tti}
use Rattle.dch_handle.specs.declared.tti.TtiFormat.{TtiFormat}

-- channel i of a direction has format f
abbrev pub has_format : Planned → Dir → ℕ → ℕ → Bool
has_format planned dir i f =
    let side = side_of planned.config dir in
    nat_lt i (length side.channels) && nat_lt f (length (channel_at side i).formats)

-- the radio frames of a TTI of channel i in format f, its blocks and their size
pub record IsFormatTold (planned : Planned) (dir : Dir) (i f : ℕ) (told : TtiFormat) : Type 0 where
  pub frames : told.frames ≡ (channel_at (side_of planned.config dir) i).frames
  pub blocks : told.blocks ≡ (format_at (channel_at (side_of planned.config dir) i) f).number
  pub size : told.size ≡ (format_at (channel_at (side_of planned.config dir) i) f).size

-- the status of a call that loads the letters of the blocks of format f of channel i
abbrev pub load_status : Planned → Dir → ℕ → ℕ → List ℕ → ℕ
load_status planned dir i f text =
    if has_format planned dir i f
    then (if length text == format_bits (format_at (channel_at (side_of planned.config dir) i) f)
    then (if has_bad_letter text then bad_letter else done)
    else bad_size)
    else bad_code

-- the blocks of format f of channel i are loaded, and nothing else changed
pub record Loads (dir : Dir) (i f : ℕ) (blocks : List Bit) (old new : Trchs) : Type 0 where
  pub loaded : IsLoaded old.planned dir i f blocks (loaded_at (loaded_in new dir) i)
  pub others : (j : ℕ) → j ≢ i → loaded_at (loaded_in new dir) j ≡ loaded_at (loaded_in old dir) j
  pub up : dir ≡ Down → new.up ≡ old.up
  pub down : dir ≡ Up → new.down ≡ old.down
  pub same : new ≡ record old { up = new.up; down = new.down }

-- so many letters of TFCI bits and of cells are those of a radio frame of combination c
pub record IsLongAs (planned : Planned) (dir : Dir) (c bits places : ℕ) : Type 0 where
  pub tfci : bits ≡ tfci_bits planned.config dir
  pub cells : places ≡ frame_cells planned dir c

-- the loaded formats are those of combination c
abbrev pub AreLoadedFor : Trchs → Dir → ℕ → Type 0
AreLoadedFor trchs dir c = AreFormats (side_of trchs.planned.config dir) c (loaded_in trchs dir)

-- the letters of the radio frame of a CFN in combination c
pub record IsWritten (trchs : Trchs) (dir : Dir) (cfn c : ℕ) (tfci cells : List ℕ) : Type 0 where
  pub frame : Frame
  pub is : IsFrame trchs.planned dir (loaded_in trchs dir) cfn c frame
  pub bits : tfci ≡ map letter_of frame.tfci
  pub places : cells ≡ map cell_letter frame.cells

-- the status of a call that takes the letters of a received radio frame
abbrev pub take_status : Planned → Dir → List ℕ → List ℕ → ℕ
take_status planned dir tfci cells =
    if length tfci == tfci_bits planned.config dir
    then (if nat_lt (most_cells planned.config dir) (length cells) then bad_size
    else (if has_bad_letter tfci then bad_letter else (if has_bad_cell cells then bad_letter else done)))
    else bad_size

-- a received radio frame is taken, or that it is missing, and nothing else changed
pub record Takes (dir : Dir) (cfn : ℕ) (frame : Option FrameView) (old new : Trchs) : Type 0 where
  pub pushed : IsPushed old.planned dir cfn frame (heard_in old dir) (heard_in new dir)
  pub up : dir ≡ Down → new.heard_up ≡ old.heard_up
  pub down : dir ≡ Up → new.heard_down ≡ old.heard_down
  pub same : new ≡ record old { heard_up = new.heard_up; heard_down = new.heard_down }

-- the radio frame that these letters write
pub record TakesText (dir : Dir) (cfn : ℕ) (tfci cells : List ℕ) (old new : Trchs) : Type 0 where
  pub frame : FrameView
  pub bits : frame.tfci.now ≡ bits_of tfci
  pub places : frame.cells.now ≡ cells_of cells
  pub takes : Takes dir cfn (Some frame) old new

-- the format, the blocks and their size of a TTI that was read
pub record IsToldBy (held : Held) (tti : Tti) : Type 0 where
  pub format : tti.format ≡ held.format
  pub blocks : tti.blocks ≡ length held.good
  pub size : tti.size ≡ held.size

-- the mark of a good block is 1, and of a bad one 0
abbrev pub mark_of : Bool → ℕ
mark_of true = 1
mark_of false = 0

-- blocks are shown at the front of two buffers, by their letters and their marks
pub record AreShown (held : Held) (letters marks letters_new marks_new : List ℕ) : Type 0 where
  pub bits : letters_new ≡ map letter_of held.bits ++ drop (length held.bits) letters
  pub good : marks_new ≡ map mark_of held.good ++ drop (length held.good) marks

-- one of the buffers is shorter
abbrev pub AreTooLong : Held → List ℕ → List ℕ → Type 0
AreTooLong held letters marks = (length letters < length held.bits) ⊎ (length marks < length held.good)

-- the TTI of channel i is read and shown
pub record IsReadInto (trchs : Trchs) (dir : Dir) (i : ℕ) (letters marks letters_new marks_new : List ℕ)
    (tti : Tti) : Type 0 where
  pub held : Held
  pub read : IsRead trchs.planned dir (heard_in trchs dir) i held
  pub told : IsToldBy held tti
  pub shown : AreShown held letters marks letters_new marks_new

-- the TTI of channel i is read, and its blocks are more than there is room for
pub record IsReadPast (trchs : Trchs) (dir : Dir) (i : ℕ) (letters marks : List ℕ) (tti : Tti) : Type 0 where
  pub held : Held
  pub read : IsRead trchs.planned dir (heard_in trchs dir) i held
  pub told : IsToldBy held tti
  pub more : AreTooLong held letters marks
