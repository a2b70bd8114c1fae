-- A downlink Iub frame follows from what layer 2 gave to the channels of its set.
use Rattle.std.proofs.Common.{◌≡◌, ◌<◌, ◌≤◌, ◌+◌, ◌*◌, ◌∙◌, ℕ, List, length, take, drop, refl, ap, ap₂, sym, subst, true, false, Option, Some, None}
use Rattle.std.specs.Int.{div_ceil}
use Rattle.dch_bits.specs.declared.bit.Bit.{Bit}
use Rattle.dch_bits.specs.declared.bit.Bit.TheVariants.{Zero}
use Rattle.dch_bits.specs.Octets.{bit_of_octets}
use Rattle.dch_types.specs.declared.channel.Dir.TheVariants.{Down}
use Rattle.dch_types.specs.declared.channel.Side.{Side}
use Rattle.dch_types.specs.declared.channel.Trch.{Trch}
use Rattle.dch_types.specs.declared.config.Config.{Config}
use Rattle.dch_types.specs.Parts.{channel_at, format_at}
use Rattle.dch_accept.specs.Blocks.{Held}
use Rattle.dch_accept.specs.HeldSets.{HasFormat, HeldSet, held_at}
use Rattle.dch_accept.specs.Padded.{bits_from}
use Rattle.dch_iub.specs.Forms.{ArePadded, IsWrittenForm, StandAt}
use Rattle.dch_iub.specs.Shape.{ForSet, blocks_place}
use Rattle.dch_iub.proofs.OneWriting.{written_one}
use Rattle.dch_layer2.specs.Layers.{Given, Layer}
use Rattle.dch_layer2.specs.Joined.{joined_bits}
use Rattle.dch_rnc.specs.Moves.{IsSameBlocks}
use Rattle.dch_rnc.specs.Steps.{IsDownlinkFrame, IsSent}

-- blocks of one format with the same bits have as many blocks of one size
same_count : (channel : Trch) (held again : Held) → HasFormat channel held → HasFormat channel again → IsSameBlocks held again → length again.good ≡ length held.good
same_count channel held again a b same = b.count ∙ ap (λ f. (format_at channel f).number) same.format ∙ sym a.count

same_size : (channel : Trch) (held again : Held) → HasFormat channel held → HasFormat channel again → IsSameBlocks held again → again.size ≡ held.size
same_size channel held again a b same = b.size ∙ ap (λ f. (format_at channel f).size) same.format ∙ sym a.size

stands_as : (frame : List ℕ) (at : ℕ) (held again : Held) → length again.good ≡ length held.good → again.size ≡ held.size → again.bits ≡ held.bits → StandAt frame at again → StandAt frame at held
stands_as frame at held again count size bits stands k inside =
    ap (λ n. bits_at frame at k n) (sym size) ∙ stands k (subst (λ n. k < n) (sym count) inside) ∙ ap₂ (λ (n : ℕ) (b : List Bit). take n (drop (k * n) b)) size bits
  where
    bits_at : List ℕ → ℕ → ℕ → ℕ → List Bit
    bits_at frame at k n = bits_from frame (8 * (at + k * div_ceil n 8)) n

padded_as : (frame : List ℕ) (at : ℕ) (held again : Held) → length again.good ≡ length held.good → again.size ≡ held.size → ArePadded frame at again → ArePadded frame at held
padded_as frame at held again count size padded b k inside =
    subst (λ n. n ≤ k → k < 8 * div_ceil n 8 → bit_of_octets frame (8 * (at + b * div_ceil n 8) + k) ≡ Zero) size (padded b k (subst (λ n. b < n) (sym count) inside))

-- a frame with the same formats and bits
written_as : (config : Config) (cfn set : ℕ) (frame : List ℕ) (held again : HeldSet) → ForSet config.downlink.side set (λ i. HasFormat (channel_at config.downlink.side i) (held_at held.blocks i))
    → ForSet config.downlink.side set (λ i. IsSameBlocks (held_at held.blocks i) (held_at again.blocks i)) → IsWrittenForm config Down set frame cfn 0 again → IsWrittenForm config Down set frame cfn 0 held
written_as config cfn set frame held again formats same is =
    let side : Side = config.downlink.side in
    let count : ForSet side set (λ i. length (held_at again.blocks i).good ≡ length (held_at held.blocks i).good) =
    (λ i inside member. same_count (channel_at side i) (held_at held.blocks i) (held_at again.blocks i) (formats i inside member) (is.read.formats i inside member) (same i inside member)) in
    let size : ForSet side set (λ i. (held_at again.blocks i).size ≡ (held_at held.blocks i).size) =
    (λ i inside member. same_size (channel_at side i) (held_at held.blocks i) (held_at again.blocks i) (formats i inside member) (is.read.formats i inside member) (same i inside member)) in
    record {
      read = record {
        numbers = is.read.numbers;
        numbered = λ i inside member. sym (same i inside member).format ∙ is.read.numbered i inside member;
        formats = formats;
        header = is.read.header;
        long = is.read.long;
        blocks = λ i inside member.
            stands_as frame (blocks_place side set is.read.numbers i) (held_at held.blocks i) (held_at again.blocks i) (count i inside member) (size i inside member) (same i inside member).bits (is.read.blocks i inside member);
        tail = tt;
        check = is.read.check;
      };
      spare = is.spare;
      padding = λ i inside member. padded_as frame (blocks_place side set is.read.numbers i) (held_at held.blocks i) (held_at again.blocks i) (count i inside member) (size i inside member) (is.padding i inside member);
      tail_padding = tt;
    }

frame_one : (config : Config) (cfn : ℕ) (layer other : Layer) (set : ℕ) (octets more : List ℕ) → ((i : ℕ) → i < length config.downlink.side.channels → other.given i ≡ layer.given i)
    → IsDownlinkFrame config cfn layer set octets → IsDownlinkFrame config cfn other set more → more ≡ octets
frame_one config cfn layer other set octets more same a b =
    let side : Side = config.downlink.side in
    let alike : ForSet side set (λ i. IsSameBlocks (held_at a.held.blocks i) (held_at b.held.blocks i)) = (λ i inside member. record {
      format = (b.given i inside member).format ∙ ap (λ (g : Given). g.format) (same i inside) ∙ sym (a.given i inside member).format;
      bits = (b.given i inside member).bits ∙ ap (λ (g : Given). joined_bits g.blocks) (same i inside) ∙ sym (a.given i inside member).bits;
    }) in
    written_one config Down set cfn 0 more octets a.held a.held (λ i inside member. refl) b.whole a.whole (written_as config cfn set more a.held b.held a.written.read.formats alike b.written) a.written

-- a set sends one frame, or none
pub sent_one : (config : Config) (cfn : ℕ) (layer other : Layer) (set : ℕ) (sent more : Option (List ℕ)) → ((i : ℕ) → i < length config.downlink.side.channels → other.given i ≡ layer.given i)
    → IsSent config cfn layer set sent → IsSent config cfn other set more → more ≡ sent
sent_one config cfn layer other set None None same a b = refl
sent_one config cfn layer other set None (Some more) same a b = absurd (let both : false ≡ true = sym a ∙ b.0 in cc)
sent_one config cfn layer other set (Some octets) None same a b = absurd (let both : false ≡ true = sym b ∙ a.0 in cc)
sent_one config cfn layer other set (Some octets) (Some more) same a b = ap (λ (o : List ℕ). Some o) (frame_one config cfn layer other set octets more same a.1 b.1)
