-- What is reported and sent of a set's TTI is one.
use Rattle.std.proofs.Common.{◌≡◌, ◌<◌, ◌∙◌, ℕ, List, [], ◌∷◌, arith, ap, ap₂, sym, subst, inl, inr, Option, Some, true, false}
use Rattle.std.specs.Prelude.{Err}
use Rattle.std.proofs.lemmas.Bool.{cases_lt}
use Rattle.dch_types.specs.declared.channel.Dir.TheVariants.{Up}
use Rattle.dch_types.specs.declared.channel.Side.{Side}
use Rattle.dch_types.specs.Limits.{IsSide}
use Rattle.dch_types.specs.Timing.{ends, set_frames, started}
use Rattle.dch_accept.specs.HeldSets.{held_at}
use Rattle.dch_accept.specs.Plans.{Planned}
use Rattle.dch_tti.specs.Formats.{IsBadFrame}
use Rattle.dch_tti.specs.RxFrames.{RxFrames}
use Rattle.dch_tti.proofs.Alike.{KeepTheSame, bad_alike, format_alike}
use Rattle.dch_tti.proofs.OneReading.{format_one}
use Rattle.dch_tti.proofs.Sent.{none_bad}
use Rattle.dch_ulphy.proofs.Alike.{read_alike}
use Rattle.dch_ulphy.proofs.One.{read_one}
use Rattle.dch_iub.specs.Forms.{IsWrittenForm}
use Rattle.dch_iub.proofs.OneWriting.{AreSameBlocks, written_one}
use Rattle.dch_node.specs.Lines.{BadTti, Iub, Line}
use Rattle.dch_nodeb.specs.Steps.{DeliversSet, IsBadTti, IsLost, IsSentUp}

-- readers that keep the same serve a set alike
bad_tti_alike : (side : Side) (one other : RxFrames) (set channel frame : ℕ) → KeepTheSame one other → IsBadTti side one set channel frame → IsBadTti side other set channel frame
bad_tti_alike side one other set channel frame same is = record {
  inside = is.inside;
  member = is.member;
  bad = bad_alike side one other channel frame same is.bad;
  before = λ j early member.
      let readable = is.before j early member in record { format = readable.format; is = format_alike side one other j readable.format same readable.is };
}

pub delivers_alike : (planned : Planned) (one other : RxFrames) (set : ℕ) (lines : List Line) (iub : Option (List ℕ)) → KeepTheSame one other → DeliversSet planned one set lines iub → DeliversSet planned other set lines iub
delivers_alike planned one other set lines iub same (inl waits) =
    inl (record { on = ap (ends (set_frames planned.config.uplink.side set)) same.cfn ∙ waits.on; quiet = waits.quiet; none = waits.none })
delivers_alike planned one other set lines iub same (inr (inl lost)) = inr (inl (record {
  over = ap (ends (set_frames planned.config.uplink.side set)) same.cfn ∙ lost.over;
  channel = lost.channel;
  frame = lost.frame;
  is = bad_tti_alike planned.config.uplink.side one other set lost.channel lost.frame same lost.is;
  reported = lost.reported;
  none = lost.none;
}))
delivers_alike planned one other set lines iub same (inr (inr up)) = inr (inr (record {
  over = ap (ends (set_frames planned.config.uplink.side set)) same.cfn ∙ up.over;
  held = up.held;
  read = λ i inside member. read_alike planned one other i (held_at up.held.blocks i) same (up.read i inside member);
  octets = up.octets;
  whole = up.whole;
  written = subst (λ n. IsWrittenForm planned.config Up set up.octets (started (set_frames planned.config.uplink.side set) n) planned.config.qe up.held) (sym same.cfn) up.written;
  reported = up.reported;
  sent = up.sent;
}))

-- the first bad channel, and its first bad frame, is one
readable_first : (side : Side) (reader : RxFrames) (set channel frame other bad : ℕ) → IsBadTti side reader set channel frame → IsBadTti side reader set other bad → channel < other → ⊥
readable_first side reader set channel frame other bad one later early =
    let readable = later.before channel early one.member in none_bad side reader channel readable.format frame readable.is.all one.bad

same_channel : (side : Side) (reader : RxFrames) (set channel frame other bad : ℕ) → IsBadTti side reader set channel frame → IsBadTti side reader set other bad → other ≡ channel
same_channel side reader set channel frame other bad one two = elim (cases_lt channel other) [
  | inl early ↦ absurd (readable_first side reader set channel frame other bad one two early)
  | inr late ↦ elim (cases_lt other channel) [
    | inl early ↦ absurd (readable_first side reader set other bad channel frame two one early)
    | inr both ↦ omega (arith, late, both)
  ]
]

same_frame : (side : Side) (reader : RxFrames) (channel frame bad : ℕ) → IsBadFrame side reader channel frame → IsBadFrame side reader channel bad → bad ≡ frame
same_frame side reader channel frame bad one two =
    let both : Err bad ≡ Err frame = format_one side reader channel (Err bad) (Err frame) (omega (arith, one.inside)) two one in cc

lost_one : (side : Side) (reader : RxFrames) (set : ℕ) (lines more : List Line) (iub other : Option (List ℕ)) → IsLost side reader set lines iub → IsLost side reader set more other → (more ≡ lines) × (other ≡ iub)
lost_one side reader set lines more iub other a b =
    let channel : b.channel ≡ a.channel = same_channel side reader set a.channel a.frame b.channel b.frame a.is b.is in
    let frame : b.frame ≡ a.frame = same_frame side reader a.channel a.frame b.frame a.is.bad (subst (λ i. IsBadFrame side reader i b.frame) channel b.is.bad) in
    (b.reported ∙ ap₂ (λ (i n : ℕ). BadTti Up i n ∷ []) channel frame ∙ sym a.reported, b.none ∙ sym a.none)

-- a TTI that can be read isn't lost
lost_read : (planned : Planned) (reader : RxFrames) (set : ℕ) (lines more : List Line) (iub other : Option (List ℕ)) → IsLost planned.config.uplink.side reader set lines iub → IsSentUp planned reader set more other → ⊥
lost_read planned reader set lines more iub other a b =
    let read = b.read a.channel a.is.inside a.is.member in none_bad planned.config.uplink.side reader a.channel (held_at b.held.blocks a.channel).format a.frame read.format.all a.is.bad

sent_one : (planned : Planned) (reader : RxFrames) (set : ℕ) (lines more : List Line) (iub other : Option (List ℕ)) → IsSide planned.config.uplink.side
    → IsSentUp planned reader set lines iub → IsSentUp planned reader set more other → (more ≡ lines) × (other ≡ iub)
sent_one planned reader set lines more iub other good a b =
    let side : Side = planned.config.uplink.side in
    let same : AreSameBlocks side set a.held b.held = λ i inside member. read_one planned reader i (held_at b.held.blocks i) (held_at a.held.blocks i) good inside (b.read i inside member) (a.read i inside member) in
    let octets : a.octets ≡ b.octets = written_one planned.config Up set (started (set_frames side set) reader.cfn) planned.config.qe a.octets b.octets a.held b.held same
    a.whole b.whole a.written b.written in
    (b.reported ∙ ap (λ (o : List ℕ). Iub Up set o ∷ []) (sym octets) ∙ sym a.reported, b.sent ∙ ap (λ (o : List ℕ). Some o) (sym octets) ∙ sym a.sent)

-- a TTI ends or doesn't
on_and_over : (frames cfn : ℕ) → ends frames cfn ≡ false → ends frames cfn ≡ true → ⊥
on_and_over frames cfn on over = let both : false ≡ true = sym on ∙ over in cc

pub delivers_one : (planned : Planned) (reader : RxFrames) (set : ℕ) (lines more : List Line) (iub other : Option (List ℕ)) → IsSide planned.config.uplink.side
    → DeliversSet planned reader set lines iub → DeliversSet planned reader set more other → (more ≡ lines) × (other ≡ iub)
delivers_one planned reader set lines more iub other good (inl a) (inl b) = (b.quiet ∙ sym a.quiet, b.none ∙ sym a.none)
delivers_one planned reader set lines more iub other good (inl a) (inr (inl b)) = absurd (on_and_over (set_frames planned.config.uplink.side set) reader.cfn a.on b.over)
delivers_one planned reader set lines more iub other good (inl a) (inr (inr b)) = absurd (on_and_over (set_frames planned.config.uplink.side set) reader.cfn a.on b.over)
delivers_one planned reader set lines more iub other good (inr (inl a)) (inl b) = absurd (on_and_over (set_frames planned.config.uplink.side set) reader.cfn b.on a.over)
delivers_one planned reader set lines more iub other good (inr (inl a)) (inr (inl b)) = lost_one planned.config.uplink.side reader set lines more iub other a b
delivers_one planned reader set lines more iub other good (inr (inl a)) (inr (inr b)) = absurd (lost_read planned reader set lines more iub other a b)
delivers_one planned reader set lines more iub other good (inr (inr a)) (inl b) = absurd (on_and_over (set_frames planned.config.uplink.side set) reader.cfn b.on a.over)
delivers_one planned reader set lines more iub other good (inr (inr a)) (inr (inl b)) = absurd (lost_read planned reader set more lines other iub b a)
delivers_one planned reader set lines more iub other good (inr (inr a)) (inr (inr b)) = sent_one planned reader set lines more iub other good a b
