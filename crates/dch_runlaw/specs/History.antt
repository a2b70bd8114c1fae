-- When an acknowledged bearer of two ends is the pair of a history (TS 25.322 11.3).
use Rattle.std.specs.Prelude.{◌≡◌, ◌≤◌, ◌++◌, ◌==◌, ℕ, List, [], ◌∷◌, Bool, true, false, Some, filter, length, not}
use Rattle.dch_types.specs.declared.channel.Dir.{Dir}
use Rattle.dch_types.specs.declared.bearer.Mode.TheVariants.{Am}
use Rattle.dch_types.specs.declared.config.Config.{Config}
use Rattle.dch_config.specs.Bearers.{has_ct}
use Rattle.dch_bits.specs.declared.bit.Bit.{Bit}
use Rattle.dch_mac.specs.declared.answer.Demux.{Demux}
use Rattle.dch_mac.specs.declared.answer.Demux.TheVariants.{To, Reserved, NoBearer, Nobody}
use Rattle.dch_mac.specs.Receivers.{receiver}
use Rattle.dch_amlaw.specs.Pair.{At, Block, End, Far, IsSafe, Lose, Near, Pair, after, opened}
use Rattle.dch_amlaw.specs.Lossless.{AreWhole, NoneLost, is_loss}
use Rattle.dch_layer2.specs.UnitLines.{unit_lines}
use Rattle.dch_layer2.specs.Bearings.{Acknowledged, bearer_in, channel_of, pdu_octets, rules_in}
use Rattle.dch_runlaw.specs.Lines.{lines_of}
use Rattle.dch_runlaw.specs.Worlds.{Log, Side, World}

-- the bearers of a channel can be told apart: there is one alone, or each has a logical channel of its own
pub record AreApart (config : Config) (dir : Dir) (i : ℕ) : Type 0 where
  pub least : (b : ℕ) → has_ct config dir i ≡ true → channel_of config dir b ≡ Some i → 1 ≤ (bearer_in config b).logical
  pub most : (b : ℕ) → has_ct config dir i ≡ true → channel_of config dir b ≡ Some i → (bearer_in config b).logical ≤ 15
  pub other : (b c : ℕ) → has_ct config dir i ≡ true → channel_of config dir b ≡ Some i → channel_of config dir c
      ≡ Some i → (bearer_in config b).logical ≡ (bearer_in config c).logical → b ≡ c
  pub alone : (b c : ℕ) → has_ct config dir i ≡ false → channel_of config dir b ≡ Some i → channel_of config dir c
      ≡ Some i → b ≡ c

-- an acknowledged bearer with its channel from the near end, and its channel to it
pub record IsAmBearer (config : Config) (out into : Dir) (b up down : ℕ) : Type 0 where
  pub mode : (bearer_in config b).mode ≡ Am
  pub window : (rules_in config b).window ≤ 2048
  pub least : 1 ≤ (bearer_in config b).priority
  pub most : (bearer_in config b).priority ≤ 8
  pub up_is : channel_of config out b ≡ Some up
  pub down_is : channel_of config into b ≡ Some down
  pub up_apart : AreApart config out up
  pub down_apart : AreApart config into down
  pub up_size : pdu_octets config out b ≤ 126
  pub down_size : pdu_octets config into b ≤ 126

-- the bearer's entity at an end is that of an end of the pair; all lines on what came for it are the units that were
-- handed up there
pub record IsEndOf (into : Dir) (b : ℕ) (side : Side) (e : End) : Type 0 where
  pub bearing : side.layer.bearings b ≡ Acknowledged e.entity.sender e.entity.receiver
  pub lines : lines_of b side.said ≡ unit_lines into b e.entity.receiver.reading.units

-- and so at both ends
pub record ArePair (out into : Dir) (b : ℕ) (w : World) (p : Pair) : Type 0 where
  pub near : IsEndOf into b w.near p.near
  pub far : IsEndOf out b w.far p.far

-- the pair of the bearer after a history
abbrev pub pair_after : Config → Dir → Dir → ℕ → List At → Pair
pair_after config out into b events = after (rules_in config b)
    (opened (rules_in config b) (pdu_octets config out b) (pdu_octets config into b)) events

-- the calls among the events of a history: all but losses on the way
abbrev pub calls_of : List At → List At
calls_of events = filter (λ event. not (is_loss event)) events

-- these calls are, with losses on the way between them, a history of an acknowledged bearer's two ends, and it is safe
pub record IsHistory (config : Config) (out into : Dir) (b : ℕ) (calls : List At) (w : World) : Type 0 where
  pub events : List At
  pub called : calls_of events ≡ calls
  pub pair : ArePair out into b w (pair_after config out into b events)
  pub safe : IsSafe (rules_in config b) (pair_after config out into b events)

-- all blocks on their way to an end are lost
abbrev pub near_lost : List Block → List At
near_lost [] = []
near_lost (block ∷ line) = Near Lose ∷ near_lost line

abbrev pub far_lost : List Block → List At
far_lost [] = []
far_lost (block ∷ line) = Far Lose ∷ far_lost line

-- and so at both ends
abbrev pub all_lost : Pair → List At
all_lost p = near_lost p.back ++ far_lost p.out

-- the events of two parts: what is in flight after the first part is lost
abbrev pub events_over : Config → Dir → Dir → ℕ → List At → List At → List At
events_over config out into b earlier later = earlier ++ (all_lost (pair_after config out into b earlier) ++ later)

-- over two parts, the first of which led to a world: its calls are a history that led there, and with the calls of the
-- second part the whole history goes on from it
pub record IsHistoryOver (config : Config) (out into : Dir) (b : ℕ) (first second : List At)
    (mid w : World) : Type 0 where
  pub before : IsHistory config out into b first mid
  pub later : List At
  pub called : calls_of later ≡ second
  pub pair : ArePair out into b w (pair_after config out into b (events_over config out into b before.events later))
  pub safe : IsSafe (rules_in config b)
      (pair_after config out into b (events_over config out into b before.events later))

-- a block of a channel is for bearer b
abbrev pub is_to : ℕ → Demux → Bool
is_to b (To c skip) = b == c
is_to b Reserved = false
is_to b (NoBearer ct) = false
is_to b Nobody = false

abbrev pub is_mine : Config → Dir → ℕ → ℕ → List Bit → Bool
is_mine config dir b i block = is_to b (receiver config dir i block)

-- so many blocks are in flight as the bearer gave to the channel since those that were taken
abbrev pub AreLeft : Config → Dir → ℕ → ℕ → Log → List Block → Type 0
AreLeft config dir b i log line = (rest : List (List Bit)) → log.given ≡ log.taken ++ rest → length line
    ≡ length (filter (is_mine config dir b i) rest)

-- these calls alone are a history of which they are the ends, and nothing is lost in it: handed up are, in order, the
-- accepted units whose length indicator was sent before the blocks that are still in flight
pub record IsWholeHistory (config : Config) (out into : Dir) (b up down : ℕ) (calls : List At)
    (w : World) : Type 0 where
  pub none_lost : NoneLost calls
  pub pair : ArePair out into b w (pair_after config out into b calls)
  pub whole : AreWhole (pair_after config out into b calls)
  pub out_left : AreLeft config out b up (w.out up) (pair_after config out into b calls).out
  pub back_left : AreLeft config into b down (w.back down) (pair_after config out into b calls).back
