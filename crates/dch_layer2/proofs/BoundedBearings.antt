-- What a bearer holds stays limited.
use Rattle.std.proofs.Common.{◌≡◌, ◌≤◌, ◌/◌, ℕ, zero, suc, List, Result, Ok, Err, length, drop, arith, refl, ap, sym, subst}
use Rattle.dch_bits.specs.declared.bit.Bit.{Bit}
use Rattle.dch_bits.specs.declared.offer.Offer.{Offer}
use Rattle.dch_types.specs.declared.bearer.Mode.{Mode}
use Rattle.dch_types.specs.declared.bearer.Mode.TheVariants.{Tm, Um, Am}
use Rattle.dch_types.specs.declared.channel.Dir.{Dir}
use Rattle.dch_types.specs.declared.config.Config.{Config}
use Rattle.dch_rlcpdu.specs.declared.am.AmView.{AmView}
use Rattle.dch_rlcpdu.specs.declared.handed.PduError.{PduError}
use Rattle.dch_rlcpdu.specs.declared.um.UmView.{UmView}
use Rattle.dch_rlcpdu.specs.Am.{am_reading}
use Rattle.dch_rlcpdu.specs.Um.{um_reading}
use Rattle.dch_rlcum.specs.Receiving.{Receiving}
use Rattle.dch_am.specs.Entities.{Turn, Tells, Moves, Sends as SendsData, Rests, receiver_after, turn}
use Rattle.dch_am.specs.Receiver.{Receiver}
use Rattle.dch_am.specs.Rules.{Rules}
use Rattle.dch_am.specs.Sender.{Sender}
use Rattle.dch_amlaw.specs.Bounded.{IsBoundedReceiver}
use Rattle.dch_amlaw.proofs.Receivers.{IsLightView, receiver_opened, view_bounded}
use Rattle.dch_amlaw.proofs.Views.{reading_light}
use Rattle.dch_layer2.specs.Bearings.{Bearing, Transparent, Unacknowledged, Acknowledged, Sends, after_answer, bearer_in, opened_bearing, opened_mode, rules_in, ticked}
use Rattle.dch_layer2.specs.Building.{Builds, Gives}
use Rattle.dch_layer2.specs.Hearing.{hears, hears_am, hears_um, receiver_of}
use Rattle.dch_layer2.specs.Octets.{octets_from, octets_of}
use Rattle.dch_layer2.specs.BoundedBearers.{IsBounded, IsBoundedAm, IsBoundedUm}

um_bounded : (config : Config) (dir : Dir) (b : ℕ) (view : Result UmView PduError) (s : Sends) (r : Receiving) → IsBoundedUm config b r → IsBounded config b (hears_um dir b view s r).bearing
um_bounded config dir b (Ok view) s r is = record { mode = is.mode; settled = refl }
um_bounded config dir b (Err e) s r is = is

-- what was read comes, if anything was
reading_bounded : (rules : Rules) (r : Receiver) (view : Result AmView PduError) → IsLightView view → IsBoundedReceiver rules.window r → IsBoundedReceiver rules.window (receiver_of rules view r)
reading_bounded rules r (Ok view) light is = view_bounded rules r view light is
reading_bounded rules r (Err e) light is = is

am_bounded : (config : Config) (dir : Dir) (b : ℕ) (view : Result AmView PduError) (s : Sender) (r : Receiver) → IsLightView view → IsBoundedAm config b r → IsBounded config b (hears_am (rules_in config b) dir b view s r).bearing
am_bounded config dir b view s r light is = record { mode = is.mode; receiver = reading_bounded (rules_in config b) r view light is.receiver }

pub length-octets_from : (n : ℕ) (bits : List Bit) → length (octets_from n bits) ≡ n
length-octets_from zero bits = refl
length-octets_from (suc n) bits = ap suc (length-octets_from n (drop 8 bits))

-- a PDU of so many bits may come
abbrev pub MayCome : ℕ → Bearing → Type 0
MayCome bits (Transparent w us) = bits ≤ 5000
MayCome bits (Unacknowledged s r) = bits / 8 ≤ 125
MayCome bits (Acknowledged s r) = bits / 8 ≤ 126

-- which is light in acknowledged mode
pub octets_light : (bits : List Bit) → length bits / 8 ≤ 126 → IsLightView (am_reading (octets_of bits))
octets_light bits may = reading_light (octets_of bits) (omega (arith, length-octets_from (length bits / 8) bits, may))

pub bits_bounded : (config : Config) (dir : Dir) (b : ℕ) (bits : List Bit) (bearing : Bearing) → MayCome (length bits) bearing → IsBounded config b bearing → IsBounded config b (hears config dir b bits bearing).bearing
bits_bounded config dir b bits (Transparent w us) may is = tt
bits_bounded config dir b bits (Unacknowledged s r) may is = um_bounded config dir b (um_reading (octets_of bits)) s r is
bits_bounded config dir b bits (Acknowledged s r) may is = am_bounded config dir b (am_reading (octets_of bits)) s r (octets_light bits may) is

-- an answer, a tick and blocks that are built keep it limited
pub answer_bounded : (config : Config) (b : ℕ) (o : Offer) (octets : List ℕ) (bits : List Bit) (bearing : Bearing) → IsBounded config b bearing → IsBounded config b (after_answer o octets bits bearing)
answer_bounded config b o octets bits (Transparent w us) is = tt
answer_bounded config b o octets bits (Unacknowledged s r) is = is
answer_bounded config b o octets bits (Acknowledged s r) is = is

pub tick_bounded : (config : Config) (b : ℕ) (bearing : Bearing) → IsBounded config b bearing → IsBounded config b (ticked config b bearing)
tick_bounded config b (Transparent w us) is = tt
tick_bounded config b (Unacknowledged s r) is = is
tick_bounded config b (Acknowledged s r) is = record { mode = is.mode; receiver = record { light = is.receiver.light; inside = is.receiver.inside } }

turn_bounded : (config : Config) (b : ℕ) (r : Receiver) (t : Turn) → IsBoundedAm config b r → IsBoundedAm config b (receiver_after t (rules_in config b) r)
turn_bounded config b r Tells is = record { mode = is.mode; receiver = record { light = is.receiver.light; inside = is.receiver.inside } }
turn_bounded config b r Moves is = is
turn_bounded config b r SendsData is = is
turn_bounded config b r Rests is = is

build_bounded : (config : Config) (out : Dir) (b : ℕ) (old next : Bearing) (block : List Bit) → Builds config out b old next block → IsBounded config b old → IsBounded config b next
build_bounded config out b (Transparent w us) next block is held = subst (IsBounded config b) (sym is.next_is) tt
build_bounded config out b (Unacknowledged s r) next block is held = subst (IsBounded config b) (sym is.next_is) held
build_bounded config out b (Acknowledged s r) next block is held = subst (IsBounded config b) (sym is.next_is) (turn_bounded config b r (turn (rules_in config b) s r) held)

pub give_bounded : (config : Config) (out : Dir) (b n : ℕ) (old new : Bearing) (blocks : List (List Bit)) → Gives config out b n old new blocks → IsBounded config b old → IsBounded config b new
give_bounded config out b zero old new blocks is held = subst (IsBounded config b) (sym is.0) held
give_bounded config out b (suc n) old new blocks is held = give_bounded config out b n is.next new is.rest is.later (build_bounded config out b old is.next is.block is.first held)

-- at opening
pub opened_bounded : (config : Config) (out : Dir) (b : ℕ) → IsBounded config b (opened_bearing config out b)
opened_bounded config out b = go (bearer_in config b).mode refl
  where
    go : (m : Mode) → (bearer_in config b).mode ≡ m → IsBounded config b (opened_mode config out b m)
    go Tm e = tt
    go Um e = record { mode = e; settled = refl }
    go Am e = record { mode = e; receiver = receiver_opened (rules_in config b) }
