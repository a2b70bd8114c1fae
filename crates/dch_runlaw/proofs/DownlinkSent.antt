-- What is read of a downlink TTI that is kept as it was sent, or of which few cells are changed.
use Rattle.std.proofs.Common.{◌≡◌, ◌<◌, ◌∙◌, ℕ, List, Option, Some, None, length, arith, sym, subst}
use Rattle.std.proofs.lemmas.Nat.{mod_below}
use Rattle.dch_bits.specs.declared.bit.Bit.{Bit}
use Rattle.dch_types.specs.declared.channel.Dir.TheVariants.{Down}
use Rattle.dch_types.specs.Parts.{channel_at}
use Rattle.dch_accept.specs.Plans.{IsPlanned, Planned}
use Rattle.dch_tti.specs.RxFrames.{Finds, IsFound, IsReaderOf, RxFrame, RxFrames, rx_frame_at, tti_place}
use Rattle.dch_tti.proofs.Sent.{none_bad}
use Rattle.dch_dlphy.specs.Damaged.{WasDamaged}
use Rattle.dch_dlphy.specs.Read.{IsTtiRead}
use Rattle.dch_dlphy.specs.Sent.{WasSent}
use Rattle.dch_dlphy.proofs.Damaged.{AreListed, damaged_arrives, damaged_give, none_damaged, opened_listed}
use Rattle.dch_node.specs.RxFrames.{AreHeard, KeepsRadio}
use Rattle.dch_node.specs.Values.{Radio}
use Rattle.dch_runlaw.specs.SentRead.{IsReadAsSent}

-- a combination that is found in a frame that came is listed
found_listed : (planned : Planned) (frame : Option Radio) (kept : RxFrame) (c : ℕ) → KeepsRadio planned Down frame kept → kept.combination ≡ Some c → c < length planned.config.downlink.side.combinations
found_listed planned None kept c keeps found = absurd (let both : None ≡ Some c = sym keeps ∙ found in cc)
found_listed planned (Some radio) kept c keeps found =
    let is : IsFound planned Down radio.tfci (length radio.cells) c = subst (Finds planned Down radio.tfci (length radio.cells)) found keeps.found in
    is.listed

pub heard_listed : (planned : Planned) (cfn i : ℕ) (frames : ℕ → Option Radio) (reader : RxFrames) → AreHeard planned Down cfn frames reader → AreListed planned i reader
heard_listed planned cfn i frames reader heard n c below found =
    let k : ℕ = tti_place reader.cfn (channel_at planned.config.downlink.side i).frames n in
    found_listed planned (frames k) (rx_frame_at reader.frames k) c (heard.kept k (mod_below _ 8 (omega arith))) found

listed_damaged : (planned : Planned) (reader : RxFrames) (i f : ℕ) (blocks : List Bit) → IsPlanned planned → AreListed planned i reader → i < length planned.config.downlink.side.channels
    → WasDamaged planned reader i f blocks → IsReadAsSent planned Down (IsTtiRead planned) reader i f blocks
listed_damaged planned reader i f blocks good listed inside is = record {
  good = λ n bad. none_bad planned.config.downlink.side reader i f n (damaged_give planned reader i f blocks inside is) bad;
  number = λ held read. (damaged_arrives planned reader i f blocks held good inside listed is read).0;
  arrives = λ held read. (damaged_arrives planned reader i f blocks held good inside listed is read).1;
}

pub downlink_damaged : (planned : Planned) (cfn : ℕ) (frames : ℕ → Option Radio) (reader : RxFrames) (i f : ℕ) (blocks : List Bit) → IsPlanned planned → AreHeard planned Down cfn frames reader → i < length planned.config.downlink.side.channels
    → WasDamaged planned reader i f blocks → IsReadAsSent planned Down (IsTtiRead planned) reader i f blocks
downlink_damaged planned cfn frames reader i f blocks good heard inside is = listed_damaged planned reader i f blocks good (heard_listed planned cfn i frames reader heard) inside is

pub downlink_sent : (planned : Planned) (cfn : ℕ) (frames : ℕ → Option Radio) (reader : RxFrames) (i f : ℕ) (blocks : List Bit) → IsPlanned planned → AreHeard planned Down cfn frames reader → i < length planned.config.downlink.side.channels
    → WasSent planned reader i f blocks → IsReadAsSent planned Down (IsTtiRead planned) reader i f blocks
downlink_sent planned cfn frames reader i f blocks good heard inside was =
    let listed : AreListed planned i reader = heard_listed planned cfn i frames reader heard in
    listed_damaged planned reader i f blocks good listed inside (none_damaged planned reader i f blocks good inside listed was)

pub downlink_opened : (planned : Planned) (reader : RxFrames) (i f : ℕ) (blocks : List Bit) → IsPlanned planned → IsReaderOf planned Down reader → i < length planned.config.downlink.side.channels
    → WasSent planned reader i f blocks → IsReadAsSent planned Down (IsTtiRead planned) reader i f blocks
downlink_opened planned reader i f blocks good opened inside was =
    let listed : AreListed planned i reader = opened_listed planned i reader opened in
    listed_damaged planned reader i f blocks good listed inside (none_damaged planned reader i f blocks good inside listed was)
