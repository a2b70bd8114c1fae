-- The combined frame is written to the front of a longer list.
use Rattle.std.proofs.Common.{◌≡◌, ◌<◌, ◌≤◌, ◌++◌, ℕ, List, length, take, drop, arith, sym, subst}
use Rattle.std.proofs.Math.Seq.{drop-append_seam, take-append_seam}
use Rattle.dch_types.specs.declared.channel.Dir.TheVariants.{Up}
use Rattle.dch_types.specs.declared.config.Config.{Config}
use Rattle.dch_types.specs.Parts.{channel_at}
use Rattle.dch_accept.specs.HeldSets.{HeldSet, IsSetOf}
use Rattle.dch_iub.specs.Shape.{AreFormats, formats_of, frame_octets}
use Rattle.dch_iub.proofs.Sums.{formats_of-at}
use Rattle.dch_combine.specs.Opened.{HoldsLongest}

-- the formats of a set's blocks are formats of its channels
formats_are : (config : Config) (set : ℕ) (held : HeldSet) → IsSetOf config Up set held → AreFormats config.uplink.side set (formats_of held)
formats_are config set held is i inside member =
    subst (λ n. n < length (channel_at config.uplink.side i).formats) (sym (formats_of-at held i (subst (λ n. i < n) (sym is.rooms.all) inside))) (is.formats i inside member).there

-- what has room for the longest frame has room for the frame of these blocks
pub frame_fits : (config : Config) (set octets : ℕ) (held : HeldSet) → IsSetOf config Up set held → HoldsLongest config set octets → frame_octets config Up set (formats_of held) ≤ octets
frame_fits config set octets held is room = omega (arith, room.is.most (formats_of held) (formats_are config set held is), room.fits)

-- what stands in front, and what is behind it
pub front_is : (len : ℕ) (front rest : List ℕ) → length front ≡ len → take len (front ++ rest) ≡ front
front_is len front rest long = subst (λ n. take n (front ++ rest) ≡ front) long (take-append_seam front rest)

pub rest_is : (len : ℕ) (front rest : List ℕ) → length front ≡ len → drop len (front ++ rest) ≡ rest
rest_is len front rest long = subst (λ n. drop n (front ++ rest) ≡ rest) long (drop-append_seam front rest)
