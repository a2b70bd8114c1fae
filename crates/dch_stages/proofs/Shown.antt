-- What is loaded of a channel is short enough to be shown.
use Rattle.std.proofs.Common.{◌≡◌, ◌<◌, ◌≤◌, ◌*◌, ℕ, length, arith, sym, subst}
use Rattle.std.proofs.lemmas.Grind.{div_ceil_times}
use Rattle.dch_types.specs.Lengths.{padded}
use Rattle.dch_types.specs.Limits.{IsDownlink, IsFrames}
use Rattle.dch_types.specs.Parts.{channel_at}
use Rattle.dch_types.specs.declared.config.Downlink.{Downlink}
use Rattle.dch_accept.specs.Plans.{Planned}
use Rattle.dch_frame.specs.Downlinks.{IsDownlinkPlan, places_of}
use Rattle.dch_dlphy.specs.Loaded.{matching_of}
use Rattle.dch_accept.proofs.TtiPlaces.{tti_room}

pub padded_short : (frames bits : ℕ) → IsFrames frames → bits ≤ 131072 → padded bits frames ≤ 460800
padded_short frames bits is few = omega (arith, is, few, div_ceil_times bits frames (omega (arith, is)))

-- the places of a format in all radio frames of a TTI
pub places_short : (planned : Planned) (i f : ℕ) → IsDownlink planned.config.downlink → IsDownlinkPlan planned.config.downlink planned.downlink → i < length planned.config.downlink.side.channels → f < length (channel_at planned.config.downlink.side i).formats
    → (channel_at planned.config.downlink.side i).frames * (matching_of planned i f).cells ≤ 457920
places_short planned i f good plan inside there =
    let downlink : Downlink = planned.config.downlink in
    let cells : (matching_of planned i f).cells ≡ places_of downlink i f = ((plan.rows i inside).matchings f there).cells in
    subst (λ n. (channel_at downlink.side i).frames * n ≤ 457920) (sym cells) (tti_room downlink i f good inside there)
