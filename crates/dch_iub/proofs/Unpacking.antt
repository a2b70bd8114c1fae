-- Blocks that were read from their octets stand there.
use Rattle.std.proofs.Common.{◌≡◌, ◌+◌, ◌*◌, ◌<◌, ◌≤◌, ℕ, List, length, take, drop, arith, ap, sym, subst, ◌∙◌, true}
use Rattle.std.specs.Int.{div_ceil}
use Rattle.std.proofs.lemmas.Grind.{div_ceil_times}
use Rattle.std.proofs.lemmas.List.{length-replicate}
use Rattle.std.proofs.lemmas.Nat.{row_fits}
use Rattle.dch_types.specs.declared.channel.Format.{Format}
use Rattle.dch_types.specs.declared.channel.Trch.{Trch}
use Rattle.dch_types.specs.Parts.{format_at}
use Rattle.dch_accept.specs.Blocks.{Held}
use Rattle.dch_accept.specs.Padded.{IsUnpacked, bits_from, format_octets}
use Rattle.dch_iub.specs.Taken.{IsTaken}
use Rattle.dch_iub.proofs.Fronts.{bits_from-part_at}

pub unpacked_taken : (channel : Trch) (number at n : ℕ) (frame : List ℕ) (held : Held) → number < length channel.formats → n ≡ format_octets (format_at channel number)
    → IsUnpacked number (format_at channel number) (take n (drop at frame)) held → IsTaken channel number frame at held
unpacked_taken channel number at n frame held there whole known =
    let format : Format = format_at channel number in
    let named : (f : ℕ) → f ≡ number → format_at channel f ≡ format = λ f e. ap (format_at channel) e in
    let count : length held.good ≡ format.number = ap length known.good ∙ length-replicate format.number true in
    let same : format ≡ format_at channel held.format = ap (format_at channel) (sym known.numbered) in record {
      numbered = known.numbered;
      has = record {
        there = subst (λ f. f < length channel.formats) (sym known.numbered) there;
        size = known.sized ∙ ap (λ (f : Format). f.size) same;
        count = count ∙ ap (λ (f : Format). f.number) same;
        long = known.long ∙ ap (λ (f : Format). f.number * f.size) same;
      };
      stand = λ b inside.
          let w : ℕ = div_ceil format.size 8 in
          let covers : format.size ≤ w * 8 = (div_ceil_times format.size 8 (omega arith)).0 in
          let early : b < format.number = omega (arith, inside, count) in
          let fits : b * w + w ≤ format.number * w = row_fits b w format.number w early (omega arith) in
          let place : 8 * at + 8 * (b * w) ≡ 8 * (at + b * w) = omega arith in
          ap (λ size. bits_from frame (8 * (at + b * div_ceil size 8)) size) known.sized
          ∙ ap (λ p. bits_from frame p format.size) (sym place)
          ∙ sym (bits_from-part_at frame at n (8 * (b * w)) format.size (omega (arith, covers, fits, whole)))
          ∙ sym (known.blocks b early);
    }
