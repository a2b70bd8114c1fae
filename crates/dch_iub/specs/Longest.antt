-- The longest frame of a set.
use Rattle.std.specs.Prelude.{◌≡◌, ◌+◌, ◌*◌, ◌<◌, ◌≤◌, ℕ, List, length}
use Rattle.dch_types.specs.declared.channel.Dir.{Dir}
use Rattle.dch_types.specs.declared.channel.Dir.TheVariants.{Up, Down}
use Rattle.dch_types.specs.declared.channel.Format.{Format}
use Rattle.dch_types.specs.declared.channel.Trch.{Trch}
use Rattle.dch_types.specs.declared.config.Config.{Config}
use Rattle.dch_types.specs.Parts.{format_at, side_of}
use Rattle.dch_accept.specs.Padded.{format_octets}
use Rattle.dch_iub.specs.Shape.{AreFormats, frame_octets}

-- the bits that the blocks of a format take in a frame, and in the uplink their marks
abbrev pub weight : Dir → Format → ℕ
weight Up format = 8 * format_octets format + format.number
weight Down format = 8 * format_octets format

-- no format of a channel takes more bits than this one, of the first ones
pub record IsGreatest (dir : Dir) (channel : Trch) (formats number : ℕ) : Type 0 where
  pub there : number < length channel.formats
  pub most : (f : ℕ) → f < formats → weight dir (format_at channel f) ≤ weight dir (format_at channel number)

-- a length that some formats of a set's channels give, and none exceed
pub record IsLongest (config : Config) (dir : Dir) (set n : ℕ) : Type 0 where
  pub numbers : List ℕ
  pub formats : AreFormats (side_of config dir) set numbers
  pub reached : frame_octets config dir set numbers ≡ n
  pub most : (others : List ℕ) → AreFormats (side_of config dir) set others → frame_octets config dir set others ≤ n
