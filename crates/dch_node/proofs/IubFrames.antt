-- An Iub frame is taken in one way.
use Rattle.std.proofs.Common.{◌≡◌, ◌+◌, ◌*◌, ◌<◌, ◌∙◌, ℕ, List, length, take, drop, arith, ap, ap₂, sym, refl, inl, inr}
use Rattle.std.specs.Prelude.{◌⊎◌, Bool, slice_index}
use Rattle.dch_bits.specs.declared.bit.Bit.{Bit}
use Rattle.dch_types.specs.declared.channel.Dir.{Dir}
use Rattle.dch_types.specs.declared.channel.Format.{Format as BlockFormat}
use Rattle.dch_types.specs.declared.channel.Side.{Side}
use Rattle.dch_types.specs.declared.channel.Trch.{Trch}
use Rattle.dch_types.specs.declared.config.Config.{Config}
use Rattle.dch_types.specs.Parts.{channel_at, format_at, side_of}
use Rattle.dch_accept.specs.Blocks.{Held, bits_of}
use Rattle.dch_accept.specs.HeldSets.{HasFormat, HeldSet, held_at}
use Rattle.dch_accept.proofs.Parts.{same_parts}
use Rattle.dch_iub.specs.Answers.{AreRead, IsBadPayload, IsControl, IsCut, IsFault, IsOtherLength, IsSound, IsSpoiled, IsUnknown, IsWhole, number_in}
use Rattle.dch_iub.specs.Back.{IsReadBack, IsSameTti}
use Rattle.dch_iub.specs.Forms.{IsReadForm}
use Rattle.dch_iub.specs.Shape.{check_octets}
use Rattle.dch_iub.specs.declared.error.IubError.{IubError}
use Rattle.dch_iub.specs.declared.error.IubError.TheVariants.{Short, HeaderCheck, Control, Format, Length, PayloadCheck}
use Rattle.dch_iub.proofs.Back.{one_reading}
use Rattle.dch_iub.proofs.Sums.{payload_end-same}
use Rattle.dch_node.specs.IubFrames.{IsSameReading, refusal_number}

-- what is wrong with the start of a frame whose header is not there, and of one whose header is there
short_whole : (side : Side) (set : ℕ) (frame : List ℕ) → (length frame ≡ 0) ⊎ IsCut side set frame → ¬ IsWhole side set frame
short_whole side set frame (inl none) whole = omega (arith, none, whole.start.some)
short_whole side set frame (inr cut) whole = omega (arith, cut.short, whole.whole)

short_control : (side : Side) (set : ℕ) (frame : List ℕ) → (length frame ≡ 0) ⊎ IsCut side set frame → ¬ IsControl frame
short_control side set frame (inl none) control = omega (arith, none, control.some)
short_control side set frame (inr cut) control = omega (arith, control.is_control, cut.start.is_data)

control_whole : (side : Side) (set : ℕ) (frame : List ℕ) → IsControl frame → ¬ IsWhole side set frame
control_whole side set frame control whole = omega (arith, control.is_control, whole.start.is_data)

spoiled_sound : (side : Side) (set : ℕ) (frame : List ℕ) → IsSpoiled side set frame → ¬ IsSound side set frame
spoiled_sound side set frame spoiled sound = spoiled.check sound.check

-- a format that its channel doesn't have, and formats that all channels have
unknown_read : (side : Side) (set : ℕ) (frame : List ℕ) (f : ℕ) (numbers : List ℕ) → IsUnknown side set frame f → ¬ AreRead side set frame numbers
unknown_read side set frame f numbers unknown read =
    let i : ℕ = unknown.channel in
    let shown : number_in side set frame i ≡ slice_index numbers i = read.each i unknown.inside unknown.member in
    let known : slice_index numbers i < length (channel_at side i).formats = read.known i unknown.inside unknown.member in
    omega (arith, shown, known, unknown.number, unknown.none)

-- another length than that of the formats, and just that
length_payload : (dir : Dir) (side : Side) (on : Bool) (set : ℕ) (frame : List ℕ) → IsOtherLength dir side on set frame → ¬ IsBadPayload dir side on set frame
length_payload dir side on set frame other bad =
    other.other (bad.full.long ∙ ap (λ n. n + check_octets on) (payload_end-same dir side set bad.numbers other.numbers (λ i inside member.
    sym (bad.full.read.each i inside member) ∙ other.read.each i inside member)))

-- a frame is refused by one number
pub one_number : (dir : Dir) (side : Side) (on : Bool) (set : ℕ) (frame : List ℕ) (error other : IubError) → IsFault dir side on set frame error → IsFault dir side on set frame other
    → refusal_number other ≡ refusal_number error
one_number dir side on set frame Short Short a b = refl
one_number dir side on set frame Short HeaderCheck a b = absurd (short_whole side set frame a b.there)
one_number dir side on set frame Short Control a b = absurd (short_control side set frame a b)
one_number dir side on set frame Short (Format f) a b = absurd (short_whole side set frame a b.header.there)
one_number dir side on set frame Short Length a b = absurd (short_whole side set frame a b.read.header.there)
one_number dir side on set frame Short PayloadCheck a b = absurd (short_whole side set frame a b.full.read.header.there)
one_number dir side on set frame HeaderCheck Short a b = absurd (short_whole side set frame b a.there)
one_number dir side on set frame HeaderCheck HeaderCheck a b = refl
one_number dir side on set frame HeaderCheck Control a b = absurd (control_whole side set frame b a.there)
one_number dir side on set frame HeaderCheck (Format f) a b = absurd (spoiled_sound side set frame a b.header)
one_number dir side on set frame HeaderCheck Length a b = absurd (spoiled_sound side set frame a b.read.header)
one_number dir side on set frame HeaderCheck PayloadCheck a b = absurd (spoiled_sound side set frame a b.full.read.header)
one_number dir side on set frame Control Short a b = absurd (short_control side set frame b a)
one_number dir side on set frame Control HeaderCheck a b = absurd (control_whole side set frame a b.there)
one_number dir side on set frame Control Control a b = refl
one_number dir side on set frame Control (Format f) a b = absurd (control_whole side set frame a b.header.there)
one_number dir side on set frame Control Length a b = absurd (control_whole side set frame a b.read.header.there)
one_number dir side on set frame Control PayloadCheck a b = absurd (control_whole side set frame a b.full.read.header.there)
one_number dir side on set frame (Format f) Short a b = absurd (short_whole side set frame b a.header.there)
one_number dir side on set frame (Format f) HeaderCheck a b = absurd (spoiled_sound side set frame b a.header)
one_number dir side on set frame (Format f) Control a b = absurd (control_whole side set frame b a.header.there)
one_number dir side on set frame (Format f) (Format g) a b = refl
one_number dir side on set frame (Format f) Length a b = absurd (unknown_read side set frame f b.numbers a b.read)
one_number dir side on set frame (Format f) PayloadCheck a b = absurd (unknown_read side set frame f b.numbers a b.full.read)
one_number dir side on set frame Length Short a b = absurd (short_whole side set frame b a.read.header.there)
one_number dir side on set frame Length HeaderCheck a b = absurd (spoiled_sound side set frame b a.read.header)
one_number dir side on set frame Length Control a b = absurd (control_whole side set frame b a.read.header.there)
one_number dir side on set frame Length (Format f) a b = absurd (unknown_read side set frame f a.numbers b a.read)
one_number dir side on set frame Length Length a b = refl
one_number dir side on set frame Length PayloadCheck a b = absurd (length_payload dir side on set frame a b)
one_number dir side on set frame PayloadCheck Short a b = absurd (short_whole side set frame b a.full.read.header.there)
one_number dir side on set frame PayloadCheck HeaderCheck a b = absurd (spoiled_sound side set frame b a.full.read.header)
one_number dir side on set frame PayloadCheck Control a b = absurd (control_whole side set frame b a.full.read.header.there)
one_number dir side on set frame PayloadCheck (Format f) a b = absurd (unknown_read side set frame f a.numbers b a.full.read)
one_number dir side on set frame PayloadCheck Length a b = absurd (length_payload dir side on set frame b a)
one_number dir side on set frame PayloadCheck PayloadCheck a b = refl

-- by a small number
pub refusal_small : (error : IubError) → refusal_number error < 1000
refusal_small Short = omega arith
refusal_small HeaderCheck = omega arith
refusal_small Control = omega arith
refusal_small (Format f) = omega arith
refusal_small Length = omega arith
refusal_small PayloadCheck = omega arith

-- blocks of one format that are the same one by one have the same bits
pub same_bits : (channel : Trch) (old new : Held) → HasFormat channel old → HasFormat channel new → IsSameTti old new → new.bits ≡ old.bits
same_bits channel old new has_old has_new same =
    let format : BlockFormat = format_at channel old.format in
    same_parts new.bits old.bits format.number format.size (has_new.long ∙ ap (λ f. bits_of (format_at channel f)) same.format) has_old.long
    (λ r inside.
    ap (λ n. take n (drop (r * n) new.bits)) (sym (same.size ∙ has_old.size))
    ∙ same.blocks r (omega (arith, inside, same.count, has_old.count))
    ∙ ap (λ n. take n (drop (r * n) old.bits)) has_old.size)

-- a frame is read in one way
pub one_frame : (config : Config) (dir : Dir) (set cfn qe other_cfn other_qe : ℕ) (frame : List ℕ) (held other : HeldSet) → IsReadForm config dir set frame cfn qe held
    → IsReadForm config dir set frame other_cfn other_qe other → IsSameReading (side_of config dir) set cfn other_cfn held other
one_frame config dir set cfn qe other_cfn other_qe frame held other first second =
    let back : IsReadBack dir (side_of config dir) set cfn other_cfn qe other_qe held other = one_reading config dir set cfn qe other_cfn other_qe frame held other first second in
    record {
      named = back.cfn;
      blocks = λ i inside member.
          let same : IsSameTti (held_at held.blocks i) (held_at other.blocks i) = back.ttis i inside member in
          ap₂ (λ (f : ℕ) (bits : List Bit). record { format = f; bits = bits }) same.format
          (same_bits (channel_at (side_of config dir) i) (held_at held.blocks i) (held_at other.blocks i) (first.formats i inside member) (second.formats i inside member) same);
    }
