-- A frame that is refused has no read form, and what was taken is in the read form.
use Rattle.std.proofs.Common.{◌≡◌, ◌<◌, ℕ, List, length, arith, sym, subst, ◌∙◌, inl, inr}
use Rattle.std.specs.Prelude.{slice_index, Result, Ok, Err, IfOk, IfErr, OnErr}
use Rattle.dch_types.specs.declared.channel.Dir.TheVariants.{Down, Up}
use Rattle.dch_iub.specs.declared.read.IubUl.{IubUl}
use Rattle.dch_types.specs.declared.channel.Dir.{Dir}
use Rattle.dch_types.specs.declared.channel.Trch.{Trch}
use Rattle.dch_types.specs.declared.config.Config.{Config}
use Rattle.dch_types.specs.Parts.{channel_at, side_of}
use Rattle.dch_accept.specs.Blocks.{Held}
use Rattle.dch_accept.specs.HeldSets.{AreIdleFormats, HeldSet, HasFormat, IsSetOf, held_at}
use Rattle.dch_accept.specs.Blocks.{HoldsFormats}
use Rattle.dch_iub.specs.declared.error.IubError.{IubError}
use Rattle.dch_iub.specs.declared.error.IubError.TheVariants.{Short, HeaderCheck, Control, Format, Length, PayloadCheck}
use Rattle.dch_iub.specs.Shape.{ForSet, header_octets}
use Rattle.dch_iub.specs.Forms.{IsPayloadCheck, IsReadForm}
use Rattle.dch_iub.specs.Answers.{AreRead, IsCause, number_in}
use Rattle.dch_iub.specs.Taken.{IsKept, IsMarkedAs, IsReceived, IsTaken}
use Rattle.dch_iub.proofs.Sums.{frame_octets-same, payload_end-same}

-- the numbers that were read are those of any read form
same_numbers : (config : Config) (dir : Dir) (set cfn qe : ℕ) (frame numbers : List ℕ) (held : HeldSet) → AreRead (side_of config dir) set frame numbers → (form : IsReadForm config dir set frame cfn qe held)
    → ForSet (side_of config dir) set (λ i. slice_index numbers i ≡ slice_index form.numbers i)
same_numbers config dir set cfn qe frame numbers held read form i inside member = sym (read.each i inside member) ∙ form.header.formats i inside member

pub no_form : (config : Config) (dir : Dir) (set : ℕ) (frame : List ℕ) (error : IubError) → IsCause config dir set frame error → (cfn qe : ℕ) (held : HeldSet) → ¬ IsReadForm config dir set frame cfn qe held
no_form config dir set frame Short (inl none) cfn qe held form = omega (arith, none, form.long)
no_form config dir set frame Short (inr cut) cfn qe held form = omega (arith, cut.short, form.long)
no_form config dir set frame HeaderCheck spoiled cfn qe held form = spoiled.check form.header.check
no_form config dir set frame Control control cfn qe held form = omega (arith, control.is_control, form.header.is_data)
no_form config dir set frame (Format f) unknown cfn qe held form =
    let i : ℕ = unknown.channel in
    let shown : number_in (side_of config dir) set frame i ≡ slice_index form.numbers i = form.header.formats i unknown.inside unknown.member in
    let held_number : (held_at held.blocks i).format ≡ slice_index form.numbers i = form.numbered i unknown.inside unknown.member in
    let there : (held_at held.blocks i).format < length (channel_at (side_of config dir) i).formats = (form.formats i unknown.inside unknown.member).there in
    omega (arith, shown, held_number, there, unknown.number, unknown.none)
no_form config dir set frame Length other cfn qe held form =
    other.other (form.long ∙ sym (frame_octets-same config dir set other.numbers form.numbers (same_numbers config dir set cfn qe frame other.numbers held other.read form)))
no_form config dir set frame PayloadCheck bad cfn qe held form =
    bad.check (subst (λ (end : ℕ). IsPayloadCheck frame (header_octets (side_of config dir) set) end)
    (sym (payload_end-same dir (side_of config dir) set bad.numbers form.numbers (same_numbers config dir set cfn qe frame bad.numbers held bad.full.read form)))
    (form.check bad.is_on))

pub received_form : (config : Config) (dir : Dir) (set cfn qe : ℕ) (frame : List ℕ) (held : HeldSet) → IsReceived dir (side_of config dir) config.payload_check set frame cfn qe held → IsReadForm config dir set frame cfn qe held
received_form config dir set cfn qe frame held received = record {
  numbers = received.numbers;
  numbered = λ i inside member. (received.taken i inside member).numbered;
  formats = λ i inside member. (received.taken i inside member).has;
  header = record {
    check = received.is_good.full.read.header.check;
    is_data = received.is_good.full.read.header.there.start.is_data;
    named = received.named;
    formats = received.is_good.full.read.each;
  };
  long = received.is_good.full.long;
  blocks = λ i inside member. (received.taken i inside member).stand;
  tail = received.tail;
  check = received.is_good.check;
}

-- a set that was opened stays so as its blocks are replaced
pub kept_set : (config : Config) (dir : Dir) (set : ℕ) (old new : HeldSet) → IsSetOf config dir set old → IsKept old new
    → ForSet (side_of config dir) set (λ i. HasFormat (channel_at (side_of config dir) i) (held_at new.blocks i)) → IsSetOf config dir set new
kept_set config dir set old new opened kept formats = record {
  numbered = kept.same_set ∙ opened.numbered;
  idle = subst (λ idle. AreIdleFormats (side_of config dir) set (length (side_of config dir).channels) idle) (sym kept.same_idle) opened.idle;
  rooms = record {
    all = kept.same_length ∙ opened.rooms.all;
    each = λ i inside member. subst (λ (room : ℕ). HoldsFormats (channel_at (side_of config dir) i) (length (channel_at (side_of config dir) i).formats) room) (sym (kept.same_rooms i)) (opened.rooms.each i inside member);
  };
  formats = formats;
}

-- blocks that were taken stand where they stood as their marks change
pub taken_marked : (channel : Trch) (number at : ℕ) (frame : List ℕ) (old new : Held) → IsTaken channel number frame at old → IsMarkedAs old new → IsTaken channel number frame at new
taken_marked channel number at frame old new taken marked =
    subst (λ (h : Held). IsTaken channel number frame at h) (sym marked.same) (record {
      numbered = taken.numbered;
      has = record { there = taken.has.there; size = taken.has.size; count = marked.count ∙ taken.has.count; long = taken.has.long };
      stand = λ b inside. taken.stand b (subst (λ n. b < n) marked.count inside);
    })

-- the same of an answer
pub no_form_of : {X : Type 0} (config : Config) (dir : Dir) (set : ℕ) (frame : List ℕ) (answer : Result X IubError) → IfErr answer (IsCause config dir set frame)
    → OnErr answer ((cfn qe : ℕ) (held : HeldSet) → ¬ IsReadForm config dir set frame cfn qe held)
no_form_of config dir set frame (Ok x) cause = tt
no_form_of config dir set frame (Err error) cause = no_form config dir set frame error cause

pub read_of : (config : Config) (set : ℕ) (frame : List ℕ) (held : HeldSet) (answer : Result IubUl IubError)
    → IfOk answer (λ read. IsReceived Up (side_of config Up) config.payload_check set frame read.cfn read.qe held) → IfOk answer (λ read. IsReadForm config Up set frame read.cfn read.qe held)
read_of config set frame held (Ok read) received = received_form config Up set read.cfn read.qe frame held received
read_of config set frame held (Err error) received = tt

pub read_down : (config : Config) (set : ℕ) (frame : List ℕ) (held : HeldSet) (answer : Result ℕ IubError)
    → IfOk answer (λ cfn. IsReceived Down (side_of config Down) config.payload_check set frame cfn 0 held) → IfOk answer (λ cfn. IsReadForm config Down set frame cfn 0 held)
read_down config set frame held (Ok cfn) received = received_form config Down set cfn 0 frame held received
read_down config set frame held (Err error) received = tt
