-- No transparent unit is empty.
use Rattle.std.proofs.Common.{◌≡◌, ◌<◌, ◌++◌, ℕ, zero, suc, List, [], ◌∷◌, Result, Ok, Err, length, arith, refl, sym, subst}
use Rattle.std.proofs.lemmas.Bool.Decides.{nat_tests}
use Rattle.dch_bits.specs.declared.bit.Bit.{Bit}
use Rattle.dch_bits.specs.declared.offer.Offer.{Offer}
use Rattle.dch_bits.specs.declared.offer.Offer.TheVariants.{Accepted, Full, WrongSize}
use Rattle.dch_types.specs.declared.channel.Dir.{Dir}
use Rattle.dch_types.specs.declared.bearer.Mode.{Mode}
use Rattle.dch_types.specs.declared.bearer.Mode.TheVariants.{Tm, Um, Am}
use Rattle.dch_types.specs.declared.config.Config.{Config}
use Rattle.dch_rlcpdu.specs.Um.{um_reading}
use Rattle.dch_rlcpdu.specs.declared.handed.PduError.{PduError}
use Rattle.dch_rlcpdu.specs.declared.um.UmView.{UmView}
use Rattle.dch_rlctm.specs.Waiting.{Waiting, after_offer, answer_of}
use Rattle.dch_rlcum.specs.Receiving.{Receiving}
use Rattle.dch_layer2.specs.Bearings.{Acknowledged, Bearing, Sends, Transparent, Unacknowledged, after_answer, answers, bearer_in, channel_of, opened_bearing, opened_mode, sizes_on, ticked}
use Rattle.dch_layer2.specs.Building.{Builds, Gives}
use Rattle.dch_layer2.specs.Hearing.{hears, hears_um}
use Rattle.dch_layer2.specs.Octets.{octets_of}
use Rattle.dch_layer2.specs.Sharing.{HasBits, HaveBits}

have_more : (us : List (List Bit)) (u : List Bit) → HaveBits us → 0 < length u → HaveBits (us ++ u ∷ [])
have_more [] u have some = (some, tt)
have_more (x ∷ xs) u have some = (have.0, have_more xs u have.1 some)

-- at opening
opened_by : (config : Config) (out : Dir) (b : ℕ) (mode : Mode) → HasBits (opened_mode config out b mode)
opened_by config out b Tm = record { units = tt }
opened_by config out b Um = record { units = tt }
opened_by config out b Am = record { units = tt }

pub opened_bits : (config : Config) (out : Dir) (b : ℕ) → HasBits (opened_bearing config out b)
opened_bits config out b = opened_by config out b (bearer_in config b).mode

-- after an offer: an empty unit isn't accepted
unit_bits : (sizes : List ℕ) (bits : List Bit) (w : Waiting) (o : Offer) → o ≡ answer_of sizes bits w → HaveBits w.units → HaveBits (after_offer o bits w).units
unit_bits sizes bits w Accepted e have = have_more w.units bits have some
  where
    some : 0 < length bits
    some = grind (arith, nat_tests, e)
unit_bits sizes bits w Full e have = have
unit_bits sizes bits w WrongSize e have = have

pub offered_bits : (config : Config) (out : Dir) (b : ℕ) (octets : List ℕ) (bits : List Bit) (bearing : Bearing) → HasBits bearing → HasBits (after_answer (answers config out b octets bits bearing) octets bits bearing)
offered_bits config out b octets bits (Transparent w us) has = record { units = unit_bits (sizes_on config out (channel_of config out b)) bits w (answer_of (sizes_on config out (channel_of config out b)) bits w) refl has.units }
offered_bits config out b octets bits (Unacknowledged s r) has = record { units = tt }
offered_bits config out b octets bits (Acknowledged s r) has = record { units = tt }

-- after a tick
pub ticked_bits : (config : Config) (b : ℕ) (bearing : Bearing) → HasBits bearing → HasBits (ticked config b bearing)
ticked_bits config b (Transparent w us) has = has
ticked_bits config b (Unacknowledged s r) has = has
ticked_bits config b (Acknowledged s r) has = record { units = tt }

-- after a block came
um_bits : (dir : Dir) (b : ℕ) (view : Result UmView PduError) (s : Sends) (r : Receiving) → HasBits (hears_um dir b view s r).bearing
um_bits dir b (Ok view) s r = record { units = tt }
um_bits dir b (Err e) s r = record { units = tt }

pub heard_bits : (config : Config) (into : Dir) (b : ℕ) (bits : List Bit) (bearing : Bearing) → HasBits bearing → HasBits (hears config into b bits bearing).bearing
heard_bits config into b bits (Transparent w us) has = has
heard_bits config into b bits (Unacknowledged s r) has = um_bits into b (um_reading (octets_of bits)) s r
heard_bits config into b bits (Acknowledged s r) has = record { units = tt }

-- after blocks were built
built_bits : (config : Config) (out : Dir) (b : ℕ) (old next : Bearing) (block : List Bit) → Builds config out b old next block → HasBits old → HasBits next
built_bits config out b (Transparent w us) next block built has = subst HasBits (sym built.next_is) (record { units = (subst HaveBits built.units has.units).1 })
built_bits config out b (Unacknowledged s r) next block built has = subst HasBits (sym built.next_is) (record { units = tt })
built_bits config out b (Acknowledged s r) next block built has = subst HasBits (sym built.next_is) (record { units = tt })

pub given_bits : (config : Config) (out : Dir) (b n : ℕ) (old next : Bearing) (blocks : List (List Bit)) → Gives config out b n old next blocks → HasBits old → HasBits next
given_bits config out b zero old next blocks given has = subst HasBits (sym given.0) has
given_bits config out b (suc n) old next blocks given has = given_bits config out b n given.next next given.rest given.later (built_bits config out b old given.next given.block given.first has)
