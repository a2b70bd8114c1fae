-- What is loaded of the channels, one of them anew.
use Rattle.std.proofs.Common.{◌≡◌, ◌<◌, ℕ, List, [], sym, ◌∙◌, subst, inl, inr, length, get_or, arith, ap}
use Rattle.std.specs.Prelude.{None}
use Rattle.std.proofs.Math.ListN.{set}
use Rattle.std.proofs.lemmas.Bool.{cases_eq}
use Rattle.std.proofs.lemmas.List.{get_or_default, get_or-set_other, get_or-set_same, length-set}
use Rattle.dch_types.specs.declared.channel.Dir.{Dir}
use Rattle.dch_types.specs.declared.channel.Side.{Side}
use Rattle.dch_types.specs.Parts.{channel_at, side_of}
use Rattle.dch_accept.specs.declared.room.TtiRoom.{TtiRoom}
use Rattle.dch_accept.specs.Plans.{Planned}
use Rattle.dch_accept.specs.Rooms.{HoldsTti, most_room, no_tti_room, tti_room}
use Rattle.dch_accept.proofs.Rooms.{holds_tti}
use Rattle.dch_tti.specs.Loaded.{AreEmpty, AreLong, AreWithin, IsEnough, IsLong, Loaded, loaded_at}

abbrev no_load : Loaded
no_load = record { format = None; cells = []; room = no_tti_room }

-- a channel is loaded anew, in the same room
pub tti_set : (planned : Planned) (dir : Dir) (cells : ℕ → ℕ → ℕ) (tti : List Loaded) (i : ℕ) (loaded : Loaded) → AreLong planned dir cells tti → i < length (side_of planned.config dir).channels
    → IsLong (channel_at (side_of planned.config dir) i) (cells i) loaded → loaded.room ≡ (loaded_at tti i).room → AreLong planned dir cells (set tti i loaded)
tti_set planned dir cells tti i loaded is inside long room =
    let side : Side = side_of planned.config dir in
    let here : loaded_at (set tti i loaded) i ≡ loaded = get_or-set_same tti i loaded no_load (omega (arith, is.channels)) in
    record {
      channels = length-set tti i loaded ∙ is.channels;
      rooms = λ k there. elim (cases_eq k i) [
        | inl same ↦ subst (λ k. (loaded_at (set tti i loaded) k).room ≡ tti_room planned dir k) (sym same) (ap (λ (l : Loaded). l.room) here ∙ room ∙ is.rooms i inside)
        | inr other ↦ ap (λ (l : Loaded). l.room) (get_or-set_other tti i k loaded no_load other) ∙ is.rooms k there
      ];
      long = λ k there. elim (cases_eq k i) [
        | inl same ↦ subst (λ k. IsLong (channel_at side k) (cells k) (loaded_at (set tti i loaded) k)) (sym same)
            (subst (IsLong (channel_at side i) (cells i)) (sym here) long)
        | inr other ↦ subst (IsLong (channel_at side k) (cells k)) (sym (get_or-set_other tti i k loaded no_load other)) (is.long k there)
      ];
    }

-- nothing loaded is long enough
pub tti_empty : (planned : Planned) (dir : Dir) (cells : ℕ → ℕ → ℕ) (tti : List Loaded) → AreEmpty planned dir (length (side_of planned.config dir).channels) tti → AreLong planned dir cells tti
tti_empty planned dir cells tti empty = record {
  channels = empty.all;
  rooms = empty.rooms;
  long = λ i there f inside is. let none = empty.none i in cc;
}

-- memory for a direction's greatest TTI is enough for that of each of its channels
pub within_empty : (planned : Planned) (dir : Dir) (bits cells : ℕ) (tti : List Loaded) → bits ≡ (most_room planned dir).coding.bits → cells ≡ (most_room planned dir).cells
    → AreEmpty planned dir (length (side_of planned.config dir).channels) tti → AreWithin bits cells tti
within_empty planned dir bits cells tti all_bits all_cells empty i inside =
    let there : i < length (side_of planned.config dir).channels = omega (arith, empty.all, inside) in
    let holds : HoldsTti (most_room planned dir) (tti_room planned dir i) = holds_tti planned dir i there in
    subst (λ (room : TtiRoom). IsEnough bits cells room) (sym (empty.rooms i there)) (record { bits = omega (arith, holds.coding.bits, all_bits); cells = omega (arith, holds.cells, all_cells) })

-- and stays so when one is loaded
pub within_set : (bits cells : ℕ) (tti : List Loaded) (i : ℕ) (loaded : Loaded) → AreWithin bits cells tti → i < length tti → loaded.room ≡ (loaded_at tti i).room → AreWithin bits cells (set tti i loaded)
within_set bits cells tti i loaded within inside room k there = elim (cases_eq k i) [
  | inl same ↦
      let here : (loaded_at (set tti i loaded) i).room ≡ (loaded_at tti i).room = ap (λ (l : Loaded). l.room) (get_or-set_same tti i loaded no_load inside) ∙ room in
      subst (λ k. IsEnough bits cells (loaded_at (set tti i loaded) k).room) (sym same) (subst (IsEnough bits cells) (sym here) (within i inside))
  | inr other ↦
      let here : (loaded_at (set tti i loaded) k).room ≡ (loaded_at tti k).room = ap (λ (l : Loaded). l.room) (get_or-set_other tti i k loaded no_load other) in
      subst (IsEnough bits cells) (sym here) (within k (omega (arith, there, length-set tti i loaded)))
]

-- a buffer is what is loaded in its place
pub loaded_in : (tti : List Loaded) (i : ℕ) (buffer : Loaded) → buffer ≡ get_or tti i buffer → i < length tti → buffer ≡ loaded_at tti i
loaded_in tti i buffer is inside = is ∙ get_or_default tti i buffer no_load inside

-- and what is loaded anew is what is loaded there then
pub loaded_set : (tti : List Loaded) (i : ℕ) (loaded : Loaded) → i < length tti → loaded_at (set tti i loaded) i ≡ loaded
loaded_set tti i loaded inside = get_or-set_same tti i loaded no_load inside
