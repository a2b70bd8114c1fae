use Rattle.std.proofs.Common.{◌≡◌, ◌≢◌, ◌<◌, ◌≤◌, ◌-◌, ◌*◌, ◌/◌, ◌∙◌, ℕ, List, length, get_or, arith, sym, subst, get_or-set_other, get_or-set_same}
use Rattle.std.specs.Prelude.{slice_set, slice_index}
use Rattle.std.proofs.Math.ListN.{length-set}
use Rattle.dch_bits.specs.declared.bit.Bit.{Bit}
use Rattle.dch_coding.specs.Parity.{IsCheck, header_polynomial}
use Rattle.dch_types.specs.Limits.{IsChannel}
use Rattle.dch_types.specs.Parts.{channel_at}
use Rattle.dch_accept.specs.Padded.{bits_from}
use Rattle.dch_iub.specs.Shape.{header_octets, number_place}
use Rattle.dch_iub.proofs.Fronts.{front_at}
use Rattle.dch_iub.proofs.Headers.{header_bits}
use Rattle.dch_iub.proofs.header.write_header.Goals as goal

pub returns-clause-header : goal.returns-clause-header
returns-clause-header c =
    let side = c.args.side.now in
    let set : ℕ = c.args.set in
    let numbers : List ℕ = c.args.numbers.now in
    let old : List ℕ = c.write_numbers-header.new.out in
    let check : ℕ = c.header_check.result in
    let new : List ℕ = slice_set old 0 (2 * check) in
    let start : List ℕ = slice_set (slice_set c.args.out.now 0 0) 1 c.args.cfn in
    let whole : length old ≡ length start = c.write_numbers-header.auto.out in
    let room : 2 ≤ length c.args.out.now = omega (arith, c.requires.room) in
    let some : 0 < length old = omega (arith, whole, length-set c.args.out.now 0 0, length-set (slice_set c.args.out.now 0 0) 1 c.args.cfn) in
    let head : 0 < length c.args.out.now = omega arith in
    let second : 1 < length (slice_set c.args.out.now 0 0) = rw length-set (omega arith) in
    let apart : 0 ≢ 1 = omega arith in
    let cleared : get_or (slice_set c.args.out.now 0 0) 0 0 ≡ 0 = rw get_or-set_same in
    let zero : get_or old 0 0 ≡ 0 =
    front_at 2 old start 0 0 (omega arith) c.write_numbers-header.ensures.before ∙ get_or-set_other (slice_set c.args.out.now 0 0) 1 0 c.args.cfn 0 apart ∙ cleared in
    let cfn : get_or old 1 0 ≡ c.args.cfn = front_at 2 old start 1 0 (omega arith) c.write_numbers-header.ensures.before ∙ rw get_or-set_same in
    let first : get_or new 0 0 ≡ 2 * check = rw get_or-set_same in
    let place : c.write_numbers-header.result ≡ header_octets side set = c.write_numbers-header.ensures.place in record {
      check = subst (λ (n : ℕ). IsCheck header_polynomial (bits_from new 7 (8 * header_octets side set - 7)) n) (let half : check ≡ get_or new 0 0 / 2 = omega arith in half)
          (subst (λ (bs : List Bit). IsCheck header_polynomial bs check) (sym (header_bits old check (8 * header_octets side set - 7) some zero))
          (subst (λ (n : ℕ). IsCheck header_polynomial (bits_from old 7 (8 * n - 7)) check) place c.header_check.ensures.check));
      is_data = omega (arith, first);
      named = (let other : 1 ≢ 0 = omega arith in get_or-set_other old 0 1 (2 * check) 0 other ∙ cfn);
      formats = λ i inside member.
          let channel : IsChannel (channel_at side i) = c.requires.side.channels i inside in
          let known : slice_index numbers i < length (channel_at side i).formats = c.requires.formats i inside member in
          let other : number_place side set i ≢ 0 = omega arith in
          let shown : slice_index new (number_place side set i) ≡ slice_index numbers i = rw get_or-set_other (c.write_numbers-header.ensures.named i inside member) in
          omega (arith, shown, known, channel.few);
    }
