-- The frames of the legs become one frame alone.
use Rattle.std.proofs.Common.{◌≡◌, ◌*◌, ◌<◌, ◌≤◌, ◌∙◌, ℕ, List, Option, Bool, false, length, take, drop, arith, ap, sym, subst, inl, inr}
use Rattle.std.proofs.lemmas.Bool.{cases_lt}
use Rattle.std.proofs.lemmas.List.{ext_get_or}
use Rattle.dch_bits.specs.declared.bit.Bit.{Bit}
use Rattle.dch_types.specs.declared.channel.Dir.TheVariants.{Up}
use Rattle.dch_types.specs.declared.channel.Trch.{Trch}
use Rattle.dch_types.specs.declared.config.Config.{Config}
use Rattle.dch_types.specs.Parts.{channel_at, format_at}
use Rattle.dch_accept.specs.Blocks.{Held, bits_of, block_at}
use Rattle.dch_accept.specs.HeldSets.{HasFormat, held_at}
use Rattle.dch_iub.specs.Forms.{IsWrittenForm}
use Rattle.dch_iub.proofs.OneWriting.{written_one}
use Rattle.dch_accept.proofs.Parts.{same_parts}
use Rattle.dch_combine.specs.Combined.{HasGoodBlock, IsBest, IsCombinedBlock, IsCombinedFrame, IsCombinedTti, IsLeading, IsLowest}
use Rattle.dch_combine.specs.Legs.{LegFrame, blocks_in}
use Rattle.dch_combine.specs.Steps.{IsSameBlock}

-- there is one lowest number
one_lowest : (P : ℕ → Type 0) (j k : ℕ) → IsLowest P j → IsLowest P k → j ≡ k
one_lowest P j k a b = elim (cases_lt j k) [
  | inl less ↦ absurd (b.lowest j less a.holds)
  | inr more ↦ elim (cases_lt k j) [ inl less ↦ absurd (a.lowest k less b.holds) | inr same ↦ omega (arith, more, same) ]
]

one_lead : (legs : ℕ → Option LegFrame) (i j k : ℕ) → IsLeading legs i j → IsLeading legs i k → j ≡ k
one_lead legs i j k (inl a) (inl b) = one_lowest _ j k a b
one_lead legs i j k (inl a) (inr b) = absurd (b.none j a.holds)
one_lead legs i j k (inr a) (inl b) = absurd (a.none k b.holds)
one_lead legs i j k (inr a) (inr b) = one_lowest _ j k a.frame b.frame

one_block : (legs : ℕ → Option LegFrame) (i lead b : ℕ) (held other : Held) → other.format ≡ held.format → IsCombinedBlock legs i lead b held → IsCombinedBlock legs i lead b other → IsSameBlock b held other
one_block legs i lead b held other format (inl x) (inl y) =
    let again : IsLowest (λ k. HasGoodBlock (blocks_in (legs k) i) held.format b) y.leg = subst (λ f. IsLowest (λ k. HasGoodBlock (blocks_in (legs k) i) f b) y.leg) format y.lowest in
    let leg : y.leg ≡ x.leg = one_lowest (λ k. HasGoodBlock (blocks_in (legs k) i) held.format b) y.leg x.leg again x.lowest in
    record {
      bits = y.bits ∙ (ap (λ k. block_at (blocks_in (legs k) i) b) leg ∙ sym x.bits);
      good = y.good ∙ sym x.good;
    }
one_block legs i lead b held other format (inl x) (inr y) = absurd (y.none x.leg (subst (λ f. HasGoodBlock (blocks_in (legs x.leg) i) f b) (sym format) x.lowest.holds))
one_block legs i lead b held other format (inr x) (inl y) = absurd (x.none y.leg (subst (λ f. HasGoodBlock (blocks_in (legs y.leg) i) f b) format y.lowest.holds))
one_block legs i lead b held other format (inr x) (inr y) = record { bits = y.bits ∙ sym x.bits; good = y.bad ∙ sym x.bad }

-- the combined blocks of a channel are told, but for the room that they have
one_tti : (channel : Trch) (legs : ℕ → Option LegFrame) (i : ℕ) (held other : Held) → HasFormat channel held → HasFormat channel other → IsCombinedTti legs i held → IsCombinedTti legs i other → other ≡ record held { room = other.room }
one_tti channel legs i held other has again x y =
    let lead : y.lead ≡ x.lead = one_lead legs i y.lead x.lead y.leading x.leading in
    let format : other.format ≡ held.format = y.format ∙ (ap (λ k. (blocks_in (legs k) i).format) lead ∙ sym x.format) in
    let size : other.size ≡ held.size = again.size ∙ (ap (λ f. (format_at channel f).size) format ∙ sym has.size) in
    let count : length other.good ≡ length held.good = again.count ∙ (ap (λ f. (format_at channel f).number) format ∙ sym has.count) in
    let blocks : (b : ℕ) → b < length other.good → IsSameBlock b held other = λ b inside.
    one_block legs i x.lead b held other format (x.blocks b (subst (λ n. b < n) count inside)) (subst (λ k. IsCombinedBlock legs i k b other) lead (y.blocks b inside)) in
    let good : other.good ≡ held.good = ext_get_or false other.good held.good count (λ b inside. (blocks b inside).good) in
    let n : ℕ = (format_at channel held.format).number in
    let bits : other.bits ≡ held.bits = same_parts other.bits held.bits n held.size
    (again.long ∙ (ap (λ f. bits_of (format_at channel f)) format ∙ ap (λ s. n * s) (sym has.size))) (has.long ∙ ap (λ s. n * s) (sym has.size))
    (λ b inside. ap (λ s. take s (drop (b * s) other.bits)) (sym size) ∙ (blocks b (omega (arith, inside, count, has.count))).bits) in
    ap (λ f. record { format = f; size = other.size; bits = other.bits; good = other.good; room = other.room }) format
    ∙ (ap (λ s. record { format = held.format; size = s; bits = other.bits; good = other.good; room = other.room }) size
    ∙ (ap (λ (bs : List Bit). record { format = held.format; size = held.size; bits = bs; good = other.good; room = other.room }) bits
    ∙ ap (λ (gs : List Bool). record { format = held.format; size = held.size; bits = held.bits; good = gs; room = other.room }) good))

one_best : (legs : ℕ → Option LegFrame) (a b : ℕ) → IsBest legs a → IsBest legs b → b ≡ a
one_best legs a b x y =
    let below : a ≤ y.frame.qe = x.least y.leg y.frame y.is in
    let above : b ≤ x.frame.qe = y.least x.leg x.frame x.is in
    omega (arith, below, above, x.reached, y.reached)

pub one_frame : (config : Config) (set cfn : ℕ) (legs : ℕ → Option LegFrame) (frame other : List ℕ) → IsCombinedFrame config set legs cfn frame → IsCombinedFrame config set legs cfn other → other ≡ frame
one_frame config set cfn legs frame other a b =
    written_one config Up set cfn a.qe other frame b.held a.held
    (λ i inside member. one_tti (channel_at config.uplink.side i) legs i (held_at b.held.blocks i) (held_at a.held.blocks i) (b.written.read.formats i inside member) (a.written.read.formats i inside member) (b.channels i inside member) (a.channels i inside member))
    b.octets a.octets (subst (λ q. IsWrittenForm config Up set other cfn q b.held) (one_best legs a.qe b.qe a.best b.best) b.written) a.written
