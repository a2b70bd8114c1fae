-- The keys of a channel: their faults, and what they say.
use Rattle.std.specs.Prelude.{ℕ, List, [], ◌∷◌, ◌++◌, codes}
use Rattle.toml.specs.Data.{Members}
use Rattle.dch_types.specs.declared.channel.Coding.TheVariants.{Uncoded}
use Rattle.dch_types.specs.declared.channel.Crc.TheVariants.{C0}
use Rattle.dch_types.specs.declared.channel.Trch.{Trch}
use Rattle.dch_tree.specs.declared.fault.Fault.{Fault}
use Rattle.dch_tree.specs.Rules.{number_within, frames_of_tti, coding_of, crc_of, formats_of}
use Rattle.dch_tree.specs.Tables.{unknown, need, field}

-- the keys of a channel
abbrev pub channel_keys : List (List ℕ)
channel_keys = codes "tti" ∷ codes "code" ∷ codes "crc" ∷ codes "rm" ∷ codes "set" ∷ codes "formats" ∷ []

-- the faults of the keys of a channel
unfoldable pub channel_faults : List ℕ → Members → List Fault
channel_faults path ms =
    unknown path channel_keys ms
    ++ need frames_of_tti path (codes "tti") ms
    ++ need coding_of path (codes "code") ms
    ++ need crc_of path (codes "crc") ms
    ++ need (number_within 1 256) path (codes "rm") ms
    ++ need (number_within 0 7) path (codes "set") ms
    ++ need formats_of path (codes "formats") ms

unfoldable pub channel_of : Members → Trch
channel_of ms = record {
  frames = field 1 frames_of_tti (codes "tti") ms;
  coding = field Uncoded coding_of (codes "code") ms;
  crc = field C0 crc_of (codes "crc") ms;
  rm = field 1 (number_within 1 256) (codes "rm") ms;
  set = field 0 (number_within 0 7) (codes "set") ms;
  formats = field [] formats_of (codes "formats") ms;
}
