-- What a bearer tells comes out of the bytes of what it holds and of what comes, and nothing else changes those.
use Rattle.std.proofs.Common.{◌≡◌, ◌<◌, ◌≤◌, ◌+◌, ◌/◌, ◌∙◌, ◌++◌, ℕ, zero, suc, List, [], ◌∷◌, Bool, Result, Ok, Err, length, drop, arith, refl, ap, sym, subst}
use Rattle.std.proofs.lemmas.List.{drop_at}
use Rattle.dch_bits.specs.declared.bit.Bit.{Bit}
use Rattle.dch_bits.specs.declared.offer.Offer.{Offer}
use Rattle.dch_types.specs.declared.bearer.Mode.{Mode}
use Rattle.dch_types.specs.declared.bearer.Mode.TheVariants.{Tm, Um, Am}
use Rattle.dch_types.specs.declared.channel.Dir.{Dir}
use Rattle.dch_types.specs.declared.config.Config.{Config}
use Rattle.dch_layer2.specs.ConfigGood.{IsGood, IsRules}
use Rattle.dch_indication.specs.Lines.{Line, Outside, PduBad}
use Rattle.dch_rlcpdu.specs.declared.am.AmView.{AmView}
use Rattle.dch_rlcpdu.specs.declared.am.AmView.TheVariants.{Payload, Status, Reset, ResetAck}
use Rattle.dch_rlcpdu.specs.declared.handed.PduError.{PduError}
use Rattle.dch_rlcpdu.specs.declared.handed.PduError.TheVariants.{Short, Reserved as ReservedValue, Indicator, Sufi}
use Rattle.dch_rlcpdu.specs.declared.um.UmView.{UmView}
use Rattle.dch_rlcpdu.specs.Am.{am_reading}
use Rattle.dch_rlcpdu.specs.Um.{um_reading}
use Rattle.dch_layer2.specs.Receiving.{Receiving, after_pdu as after_um}
use Rattle.dch_am.specs.Entities.{Turn, Tells, Moves, Sends as SendsData, Rests, receiver_after, turn}
use Rattle.dch_am.specs.Receiver.{Receiver}
use Rattle.dch_am.specs.Rules.{Rules}
use Rattle.dch_am.specs.Sender.{Sender}
use Rattle.dch_amlaw.specs.Bounded.{IsBoundedReceiver}
use Rattle.dch_steptext.specs.ReceiverBytes.{Takes, part_bytes, receiver_bytes, units_bytes}
use Rattle.dch_steptext.proofs.PlaceBytes.{run_above}
use Rattle.dch_amlaw.proofs.Receivers.{IsLightView}
use Rattle.dch_steptext.proofs.ReceiverBytes.{keeps, receiver_most, view_taken}
use Rattle.dch_script.specs.LineText.{text_of}
use Rattle.dch_layer2.specs.Bearings.{Bearing, Transparent, Unacknowledged, Acknowledged, Sends, after_answer, bearer_in, opened_bearing, opened_mode, rules_in, ticked}
use Rattle.dch_layer2.specs.Building.{Builds, Gives}
use Rattle.dch_layer2.specs.Hearing.{hears, hears_am, hears_um, lines_by, new_units, receiver_of}
use Rattle.dch_rlcpdu.specs.Errors.{error_number}
use Rattle.dch_layer2.specs.Octets.{octets_of}
use Rattle.dch_layer2.specs.UnitLines.{line_if, unit_lines}
use Rattle.dch_layer2.specs.BoundedBearers.{IsBounded, IsBoundedAm, IsBoundedUm}
use Rattle.dch_layer2.proofs.BoundedBearings.{MayCome, length-octets_from, octets_light}
use Rattle.dch_steptext.specs.Bytes.{bearing_bytes}
use Rattle.dch_steptext.proofs.Texts.{bits_line, line_if_long, short_line, text_long, told, told_within}
use Rattle.dch_steptext.proofs.UmReceivers.{IsFew, held_pdu, reading_few}

-- the lines on a block are paid out of what the bearer held, and of 5,200 bytes
abbrev pub IsPaid : Config → ℕ → Bearing → Bearing → List Line → Type 0
IsPaid config b old new lines = length (text_of lines) + bearing_bytes config b new ≤ bearing_bytes config b old + 5200

error_small : (e : PduError) → error_number e < 1000
error_small Short = omega arith
error_small ReservedValue = omega arith
error_small Indicator = omega arith
error_small Sufi = omega arith

um_paid : (config : Config) (dir : Dir) (b : ℕ) (view : Result UmView PduError) (s : Sends) (r : Receiving) → b < 100 → IsFew view → IsBoundedUm config b r → IsPaid config b (Unacknowledged s r) (hears_um dir b view s r).bearing (hears_um dir b view s r).lines
um_paid config dir b (Ok view) s r small few is =
    let none : units_bytes r.waiting ≡ 0 = ap units_bytes is.settled in
    omega (arith, told_within dir b (after_um view r).waiting small, held_pdu 124 view r few, none)
um_paid config dir b (Err e) s r small few is = omega (arith, short_line (PduBad dir b (error_number e)) (omega (arith, small), error_small e))

-- the lines around the units
lines_long : (rules : Rules) (dir : Dir) (b : ℕ) (view : Result AmView PduError) (s : Sender) (r : Receiver) (units : List (List ℕ)) → b < 100 → length (text_of (lines_by rules dir b view s r units)) ≤ told dir b units + 80
lines_long rules dir b (Ok (Payload sn poll c piggyback)) s r units small = around _ _
  where
    around : (first last : Bool) → length (text_of (line_if first (Outside dir b) ++ unit_lines dir b units ++ line_if last (Outside dir b))) ≤ told dir b units + 80
    around first last = omega (arith, text_long (line_if first (Outside dir b) ++ unit_lines dir b units) (line_if last (Outside dir b)), text_long (line_if first (Outside dir b)) (unit_lines dir b units), line_if_long first dir b small, line_if_long last dir b small)
lines_long rules dir b (Ok (Status fields)) s r units small = before _
  where
    before : (first : Bool) → length (text_of (line_if first (Outside dir b) ++ unit_lines dir b units)) ≤ told dir b units + 80
    before first = omega (arith, text_long (line_if first (Outside dir b)) (unit_lines dir b units), line_if_long first dir b small)
lines_long rules dir b (Ok (Reset rsn hfni)) s r units small = omega arith
lines_long rules dir b (Ok (ResetAck rsn hfni)) s r units small = omega arith
lines_long rules dir b (Err e) s r units small = omega (arith, short_line (PduBad dir b (error_number e)) (omega (arith, small), error_small e))

-- what was read comes, if anything was
reading_taken : (rules : Rules) (r : Receiver) (view : Result AmView PduError) → IsLightView view → IsBoundedReceiver rules.window r → Takes rules.window r (receiver_of rules view r) 1116
reading_taken rules r (Ok view) light is = view_taken rules r view light is
reading_taken rules r (Err e) light is = keeps rules.window r 1116

am_paid : (config : Config) (dir : Dir) (b : ℕ) (view : Result AmView PduError) (s : Sender) (r : Receiver) → b < 100 → IsLightView view → IsBoundedAm config b r → IsPaid config b (Acknowledged s r) (hears_am (rules_in config b) dir b view s r).bearing (hears_am (rules_in config b) dir b view s r).lines
am_paid config dir b view s r small light is =
    let rules : Rules = rules_in config b in
    let now : Receiver = receiver_of rules view r in
    let t : Takes rules.window r now 1116 = reading_taken rules r view light is.receiver in
    let units : new_units r now ≡ t.more = ap (drop (length r.reading.units)) t.units ∙ drop_at r.reading.units t.more (length r.reading.units) refl in
    let same : units_bytes (new_units r now) ≡ units_bytes t.more = ap units_bytes units in
    omega (arith, lines_long rules dir b view s r (new_units r now) small, told_within dir b (new_units r now) small, same, t.paid)

pub bits_paid : (config : Config) (dir : Dir) (b : ℕ) (bits : List Bit) (bearing : Bearing) → b < 100 → MayCome (length bits) bearing → IsBounded config b bearing → IsPaid config b bearing (hears config dir b bits bearing).bearing (hears config dir b bits bearing).lines
bits_paid config dir b bits (Transparent w us) small may is = omega (arith, bits_line dir b bits small, may)
bits_paid config dir b bits (Unacknowledged s r) small may is = um_paid config dir b (um_reading (octets_of bits)) s r small (reading_few (octets_of bits) (omega (arith, length-octets_from (length bits / 8) bits, may))) is
bits_paid config dir b bits (Acknowledged s r) small may is = am_paid config dir b (am_reading (octets_of bits)) s r small (octets_light bits may) is

-- a bearer holds as much as before
abbrev pub HoldsAsMuch : Config → ℕ → Bearing → Bearing → Type 0
HoldsAsMuch config b old new = bearing_bytes config b new ≡ bearing_bytes config b old

pub answer_holds : (config : Config) (b : ℕ) (o : Offer) (octets : List ℕ) (bits : List Bit) (bearing : Bearing) → HoldsAsMuch config b bearing (after_answer o octets bits bearing)
answer_holds config b o octets bits (Transparent w us) = refl
answer_holds config b o octets bits (Unacknowledged s r) = refl
answer_holds config b o octets bits (Acknowledged s r) = refl

pub tick_holds : (config : Config) (b : ℕ) (bearing : Bearing) → HoldsAsMuch config b bearing (ticked config b bearing)
tick_holds config b (Transparent w us) = refl
tick_holds config b (Unacknowledged s r) = refl
tick_holds config b (Acknowledged s r) = refl

turn_holds : (rules : Rules) (r : Receiver) (t : Turn) → receiver_bytes rules.window (receiver_after t rules r) ≡ receiver_bytes rules.window r
turn_holds rules r Tells = refl
turn_holds rules r Moves = refl
turn_holds rules r SendsData = refl
turn_holds rules r Rests = refl

build_holds : (config : Config) (out : Dir) (b : ℕ) (old next : Bearing) (block : List Bit) → Builds config out b old next block → HoldsAsMuch config b old next
build_holds config out b (Transparent w us) next block is = subst (HoldsAsMuch config b (Transparent w us)) (sym is.next_is) refl
build_holds config out b (Unacknowledged s r) next block is = subst (HoldsAsMuch config b (Unacknowledged s r)) (sym is.next_is) refl
build_holds config out b (Acknowledged s r) next block is = subst (HoldsAsMuch config b (Acknowledged s r)) (sym is.next_is) (turn_holds (rules_in config b) r (turn (rules_in config b) s r))

pub give_holds : (config : Config) (out : Dir) (b n : ℕ) (old new : Bearing) (blocks : List (List Bit)) → Gives config out b n old new blocks → HoldsAsMuch config b old new
give_holds config out b zero old new blocks is = subst (HoldsAsMuch config b old) (sym is.0) refl
give_holds config out b (suc n) old new blocks is = give_holds config out b n is.next new is.rest is.later ∙ build_holds config out b old is.next is.block is.first

-- at opening
pub opened_bytes : (config : Config) (out : Dir) (b : ℕ) → bearing_bytes config b (opened_bearing config out b) ≡ 0
opened_bytes config out b = go (bearer_in config b).mode
  where
    go : (m : Mode) → bearing_bytes config b (opened_mode config out b m) ≡ 0
    go Tm = refl
    go Um = refl
    go Am = omega (arith, run_above [] 0 (rules_in config b).window (omega arith))

-- how much a bearer holds at most
part_few : (part : List ℕ) → part_bytes part ≤ 3009
part_few [] = omega arith
part_few (x ∷ xs) = omega arith

pub bearing_few : (config : Config) (b : ℕ) (bearing : Bearing) → IsGood config → b < length config.bearers → IsBounded config b bearing → bearing_bytes config b bearing ≤ 2400000
bearing_few config b (Transparent w us) good inside is = omega arith
bearing_few config b (Unacknowledged s r) good inside is = omega (arith, part_few r.part)
bearing_few config b (Acknowledged s r) good inside is =
    let rules : IsRules (bearer_in config b).rules = (good.bearers b inside).rules in
    omega (arith, receiver_most (rules_in config b).window r is.receiver, rules.most_window)
