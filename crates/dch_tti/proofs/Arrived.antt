-- The blocks that are written and marked are those that were read, and where little is damaged those that were sent.
use Rattle.std.proofs.Common.{◌≡◌, ◌+◌, ◌<◌, ◌≤◌, ℕ, List, length, take, drop, get_or, arith, ap, sym, ◌∙◌, subst}
use Rattle.std.specs.Prelude.{◌↔◌, IsTrue, false, reverse}
use Rattle.std.proofs.lemmas.List.{take_at}
use Rattle.dch_bits.specs.declared.bit.Bit.{Bit}
use Rattle.dch_bits.specs.declared.bit.Vote.{Vote}
use Rattle.dch_types.specs.declared.channel.Coding.{Coding}
use Rattle.dch_types.specs.declared.channel.Crc.{Crc}
use Rattle.dch_types.specs.declared.channel.Format.{Format}
use Rattle.dch_types.specs.declared.channel.Trch.{Trch}
use Rattle.dch_types.specs.Lengths.{crc_size, joined_bits, coded_bits, tti_bits}
use Rattle.dch_coding.specs.Parity.{IsAttached}
use Rattle.dch_coding.specs.Ttis.{AreJoined, part}
use Rattle.dch_accept.specs.Blocks.{Held, bits_of, block_at}
use Rattle.dch_accept.specs.BlockLending.{with_bits}
use Rattle.dch_accept.specs.Frames.{overwritten}
use Rattle.dch_accept.proofs.Parts.{same_parts}
use Rattle.dch_tti.specs.JoinedBits.{AreRead}
use Rattle.dch_tti.specs.Corrected.{ReadsCorrectable}
use Rattle.dch_tti.specs.Received.{IsReceived, ArrivesAs}
use Rattle.dch_tti.proofs.Lengths.{joined_le}
use Rattle.dch_tti.proofs.Parts.{length-part}
use Rattle.dch_tti.proofs.Corrected.{joined_corrected}

-- a list that is written over whole
overwritten_all : (xs ws : List Bit) → length ws ≡ length xs → overwritten xs ws ≡ ws
overwritten_all xs ws long = take_at ws (drop (length ws) xs) (length xs) long

-- what was written and marked after a shape was taken
pub received_are : (channel : Trch) (number : ℕ) (format : Format) (votes : List Vote) (shaped held : Held) (written joined : List Bit) (size count : ℕ) → size ≡ format.size → count ≡ format.number → shaped.format ≡ number → shaped.size ≡ format.size → length shaped.good ≡ format.number → length shaped.bits ≡ bits_of format → length written ≡ length shaped.bits → held ≡ record (with_bits shaped written) { good = held.good } → length held.good ≡ length shaped.good → length joined ≡ joined_bits channel format → AreRead channel.coding votes joined → ((i : ℕ) → i < count → part i size written ≡ take size (part i (size + crc_size channel.crc) joined)) → ((i : ℕ) → i < length held.good → IsTrue (get_or held.good i false) ↔ IsAttached channel.crc (take size (part i (size + crc_size channel.crc) joined)) (part i (size + crc_size channel.crc) joined)) → IsReceived channel number format votes held
received_are channel number format votes shaped held written joined size count size_is count_is numbered sized counted whole long same marked all read fronts marks =
    let w : ℕ = crc_size channel.crc in
    let bits_is : held.bits ≡ written = ap (λ (h : Held). h.bits) same ∙ overwritten_all shaped.bits written long in
    let size_of : held.size ≡ format.size = ap (λ (h : Held). h.size) same ∙ sized in
    let front : (i : ℕ) → i < format.number → block_at held i ≡ take format.size (part i (format.size + w) joined) = λ i inside.
    ap (λ (bits : List Bit). part i held.size bits) bits_is
    ∙ ap (λ n. part i n written) (size_of ∙ sym size_is)
    ∙ fronts i (omega (arith, count_is))
    ∙ ap (λ n. take n (part i (n + w) joined)) size_is in
    record {
      numbered = ap (λ (h : Held). h.format) same ∙ numbered;
      sized = size_of;
      whole = ap length bits_is ∙ long ∙ whole;
      counted = marked ∙ counted;
      joined = joined;
      long = all;
      read = read;
      blocks = λ i inside. record {
        front = front i inside;
        fits =
            subst (λ (block : List Bit). IsTrue (get_or held.good i false) ↔ IsAttached channel.crc block (part i (format.size + w) joined)) (sym (front i inside))
            (subst (λ (n : ℕ). IsTrue (get_or held.good i false) ↔ IsAttached channel.crc (take n (part i (n + w) joined)) (part i (n + w) joined)) size_is (marks i (omega (arith, marked, counted))));
      };
    }

-- a block stands in front of its parity
attached_front : (crc : Crc) (block out : List Bit) (size : ℕ) → length block ≡ size → IsAttached crc block out → take size out ≡ block
attached_front crc block out size long attached = ap (take size) attached.whole ∙ take_at block (reverse attached.parity) size long

-- where the joined bits of blocks are read, the blocks are received, all good
arrived_as : (channel : Trch) (number : ℕ) (format : Format) (votes : List Vote) (held : Held) (blocks joined : List Bit) (received : IsReceived channel number format votes held) → length blocks ≡ bits_of format → AreJoined channel format blocks joined → received.joined ≡ joined → ArrivesAs blocks held
arrived_as channel number format votes held blocks joined received whole are same =
    let width : ℕ = format.size + crc_size channel.crc in
    let fits : (i : ℕ) → i < format.number → length (part i format.size blocks) ≡ format.size = λ i inside. length-part blocks format.number format.size i inside (omega (arith, whole)) in
    let block : (i : ℕ) → i < format.number → block_at held i ≡ part i format.size blocks = λ i inside.
    (received.blocks i inside).front
    ∙ ap (λ (bits : List Bit). take format.size (part i width bits)) same
    ∙ attached_front channel.crc (part i format.size blocks) (part i width joined) format.size (fits i inside) (are.parts i inside) in
    record {
      same = same_parts held.bits blocks format.number format.size received.whole whole
          (λ i inside. ap (λ n. part i n held.bits) (sym received.sized) ∙ block i inside);
      good = λ i inside.
          let within : i < format.number = omega (arith, received.counted) in
          (received.blocks i within).fits.1
          (subst (λ (bits : List Bit). IsAttached channel.crc (block_at held i) (part i width bits)) (sym same)
          (subst (λ (b : List Bit). IsAttached channel.crc b (part i width joined)) (sym (block i within)) (are.parts i within)));
    }

read_long : (channel : Trch) (number : ℕ) (format : Format) (votes : List Vote) (held : Held) (received : IsReceived channel number format votes held) → length votes ≡ tti_bits channel format → length votes ≡ coded_bits channel.coding (length received.joined)
unfolding tti_bits
read_long channel number format votes held received size = size ∙ ap (coded_bits channel.coding) (sym received.long)

-- a TTI of which each code block is correctable gives its blocks, all good
pub arrived_correctable : (channel : Trch) (number : ℕ) (format : Format) (votes : List Vote) (held : Held) → IsReceived channel number format votes held → length votes ≡ tti_bits channel format → length votes ≤ 131072 → ReadsCorrectable channel format votes held
arrived_correctable channel number format votes held received size short blocks bits sent whole are correctable =
    let coding : Coding = channel.coding in
    let joined : List Bit = received.joined in
    let long : length votes ≡ coded_bits coding (length joined) = read_long channel number format votes held received size in
    arrived_as channel number format votes held blocks bits received whole are
    (joined_corrected coding votes joined bits sent (omega (arith, joined_le (length joined) coding, long, short)) long (are.whole ∙ sym received.long) received.read correctable)
