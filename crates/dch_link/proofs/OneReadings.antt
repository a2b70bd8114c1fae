-- What is read of channels in two ways has the same good blocks, and is compared with one result.
use Rattle.std.proofs.Common.{◌≡◌, ◌<◌, ◌+◌, ◌∙◌, ◌++◌, ℕ, zero, suc, List, [], ◌∷◌, length, arith, refl, ap, ap₂, sym, inl, inr, Bool, false}
use Rattle.std.specs.Prelude.{◌==◌, if◌then◌else◌, slice_index_or}
use Rattle.std.proofs.lemmas.Bool.Decides.{eqb_tells}
use Rattle.dch_bits.specs.declared.bit.Bit.{Bit}
use Rattle.dch_types.specs.declared.channel.Dir.{Dir}
use Rattle.dch_types.specs.declared.channel.Dir.TheVariants.{Up}
use Rattle.dch_types.specs.Parts.{channel_at}
use Rattle.dch_accept.specs.Blocks.{Held, block_at}
use Rattle.dch_accept.specs.HeldSets.{held_at}
use Rattle.dch_accept.specs.Plans.{Planned}
use Rattle.dch_iub.specs.Back.{IsReadBack}
use Rattle.dch_iub.proofs.Back.{one_reading}
use Rattle.dch_iub.proofs.Refused.{no_form}
use Rattle.dch_node.specs.Lines.{Line}
use Rattle.dch_node.specs.Values.{Output}
use Rattle.dch_layer2.specs.Reading.{Bad, Nothing, Read, Reading}
use Rattle.dch_ue.specs.Same.{ReadsSame}
use Rattle.dch_rnc.specs.State.{State as RncState, set_readings}
use Rattle.dch_rnc.specs.Steps.{IsArrival, IsReadFrame}
use Rattle.dch_rnc.proofs.Taking.{reading_off, reading_on}
use Rattle.dch_link.specs.Checks.{AreChecked, IsChecked, good_blocks, good_from, good_in}
use Rattle.dch_link.proofs.Reporting.{checked-same}

-- blocks of the same bits and marks
good_from-same : (held again : Held) (k count : ℕ) → again.good ≡ held.good → ((b : ℕ) → b < k + count → block_at again b ≡ block_at held b) → good_from again k count ≡ good_from held k count
good_from-same held again k zero marks blocks = refl
good_from-same held again k (suc count) marks blocks =
    ap (λ (g : List Bool). if slice_index_or g k false then block_at again k ∷ good_from again (k + 1) count else good_from again (k + 1) count) marks
    ∙ ap₂ (λ (b : List Bit) (bs : List (List Bit)). if slice_index_or held.good k false then b ∷ bs else bs) (blocks k (omega arith))
    (good_from-same held again (k + 1) count marks (λ b early. blocks b (omega (arith, early))))

good_blocks-same : (held again : Held) → again.size ≡ held.size → again.good ≡ held.good → ((b : ℕ) → b < length again.good → block_at again b ≡ block_at held b) → good_blocks again ≡ good_blocks held
good_blocks-same held again size marks blocks =
    ap (λ n. if n == 0 then [] else good_from again 0 (length again.good)) size
    ∙ ap (λ (bs : List (List Bit)). if held.size == 0 then [] else bs)
    (good_from-same held again 0 (length again.good) marks (λ b early. blocks b (omega (arith, early))) ∙ ap (λ (g : List Bool). good_from held 0 (length g)) marks)

-- readings of a terminal that say the same
pub good_same : (reading other : Reading) → ReadsSame reading other → good_in other ≡ good_in reading
good_same Nothing other same = ap good_in same
good_same (Read held) other same =
    ap good_in same.is ∙ ap good_blocks same.blocks ∙ good_blocks-same held (record held { room = same.again.room }) refl refl (λ b early. refl)
good_same (Bad frame) other same = ap good_in same

-- two readings of an Iub frame
read_good : (planned : Planned) (old new older newer : RncState) (set : ℕ) (octets : List ℕ) (output more : Output) → IsReadFrame planned old set octets new output → IsReadFrame planned older set octets newer more
    → (i : ℕ) → i < length planned.config.uplink.side.channels → good_in (newer.readings i) ≡ good_in (new.readings i)
read_good planned old new older newer set octets output more a b i inside =
    let side = planned.config.uplink.side in
    let back : IsReadBack Up side set a.cfn b.cfn a.qe b.qe a.held b.held = one_reading planned.config Up set a.cfn a.qe b.cfn b.qe octets a.held b.held a.read b.read in
    let each : good_in (set_readings side set b.held i) ≡ good_in (set_readings side set a.held i) = elim (eqb_tells (channel_at side i).set set) [
      | inl same ↦
          ap good_in (reading_on side set b.held i inside same.1)
          ∙ good_blocks-same (held_at a.held.blocks i) (held_at b.held.blocks i) (back.ttis i inside same.1).size (back.marks.marks i inside same.1) (back.ttis i inside same.1).blocks
          ∙ sym (ap good_in (reading_on side set a.held i inside same.1))
      | inr apart ↦ ap good_in (reading_off side set b.held i apart.1 ∙ sym (reading_off side set a.held i apart.1))
    ] in
    ap (λ (s : RncState). good_in (s.readings i)) b.state ∙ each ∙ sym (ap (λ (s : RncState). good_in (s.readings i)) a.state)

pub arrival_good : (planned : Planned) (old new older newer : RncState) (set : ℕ) (octets : List ℕ) (output more : Output) → IsArrival planned old set octets new output → IsArrival planned older set octets newer more
    → (i : ℕ) → i < length planned.config.uplink.side.channels → good_in (newer.readings i) ≡ good_in (new.readings i)
arrival_good planned old new older newer set octets output more (inl a) (inl b) i inside = read_good planned old new older newer set octets output more a b i inside
arrival_good planned old new older newer set octets output more (inl a) (inr b) i inside = absurd (no_form planned.config Up set octets b.error b.cause a.cfn a.qe a.held a.read)
arrival_good planned old new older newer set octets output more (inr a) (inl b) i inside = absurd (no_form planned.config Up set octets a.error a.cause b.cfn b.qe b.held b.read)
arrival_good planned old new older newer set octets output more (inr a) (inr b) i inside =
    ap (λ (s : RncState). good_in (s.readings i)) b.state ∙ sym (ap (λ (s : RncState). good_in (s.readings i)) a.state)

-- one result for a channel, and for all
own_one : (dir : Dir) (i : ℕ) (taken given : List (List Bit)) (lines rest : List Line) → IsChecked dir i taken given lines → IsChecked dir i taken given rest → rest ≡ lines
own_one dir i taken given lines rest (inl a) (inl b) = b.1 ∙ sym a.1
own_one dir i taken given lines rest (inl a) (inr b) = absurd (b.0 a.0)
own_one dir i taken given lines rest (inr a) (inl b) = absurd (a.0 b.0)
own_one dir i taken given lines rest (inr a) (inr b) = b.1 ∙ sym a.1

checked_one : (dir : Dir) (taken given : ℕ → List (List Bit)) (n : ℕ) (lines rest : List Line) → AreChecked dir taken given n lines → AreChecked dir taken given n rest → rest ≡ lines
checked_one dir taken given zero lines rest a b = b ∙ sym a
checked_one dir taken given (suc n) lines rest a b =
    b.all ∙ ap₂ (λ (ls ms : List Line). ls ++ ms) (checked_one dir taken given n a.front b.front a.before b.before) (own_one dir n (taken n) (given n) a.own b.own a.is b.is) ∙ sym a.all

pub checks_one : (dir : Dir) (taken given other more : ℕ → List (List Bit)) (n : ℕ) (lines rest : List Line) → ((i : ℕ) → i < n → other i ≡ taken i) → ((i : ℕ) → i < n → more i ≡ given i)
    → AreChecked dir taken given n lines → AreChecked dir other more n rest → rest ≡ lines
checks_one dir taken given other more n lines rest same also a b = checked_one dir taken given n lines rest a (checked-same dir other more taken given n rest same also b)
