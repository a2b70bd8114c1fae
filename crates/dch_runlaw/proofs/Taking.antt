-- What the network controller takes of a TTI of which one leg got all as it was sent, or with little damage.
use Rattle.std.proofs.Common.{◌≡◌, ◌<◌, ◌+◌, ◌*◌, ◌%◌, ◌∙◌, ℕ, zero, suc, List, [], ◌∷◌, length, true, false, Option, Some, None, take, drop, arith, refl, sym, ap, ap₂, subst, inl, inr}
use Rattle.std.specs.Prelude.{◌==◌, nat_lt, slice_index_or}
use Rattle.std.proofs.lemmas.Bool.{cases_eq, cases_lt, eq-eqb}
use Rattle.std.proofs.lemmas.Bool.Decides.{eqb_tells, nat_tests}
use Rattle.std.proofs.lemmas.List.{length-append, length-replicate}
use Rattle.std.proofs.Math.Nat.{zero-mul}
use Rattle.dch_bits.specs.declared.bit.Bit.{Bit}
use Rattle.dch_types.specs.declared.channel.Dir.TheVariants.{Up}
use Rattle.dch_types.specs.declared.channel.Side.{Side}
use Rattle.dch_types.specs.declared.channel.Trch.{Trch}
use Rattle.dch_types.specs.Parts.{channel_at, format_at}
use Rattle.dch_types.specs.Timing.{ends, set_frames, started}
use Rattle.dch_accept.specs.Blocks.{Held, bits_of, block_at}
use Rattle.dch_accept.specs.HeldSets.{HasFormat, HeldSet, held_at}
use Rattle.dch_accept.specs.Plans.{IsPlanned, Planned}
use Rattle.dch_iub.specs.Back.{IsReadBack, IsSameTti}
use Rattle.dch_iub.proofs.Back.{one_reading}
use Rattle.dch_iub.proofs.Refused.{no_form}
use Rattle.dch_combine.specs.Combined.{IsCombinedFrame, IsGoodBlock}
use Rattle.dch_combine.specs.Legs.{LegFrame, blocks_in}
use Rattle.dch_combine.specs.Sent.{AreSent, HasAll, IsSentBlock, TakesSent}
use Rattle.dch_combine.proofs.Frames.{good_inside}
use Rattle.dch_combine.proofs.Sent.{takes_sent}
use Rattle.dch_node.specs.Lines.{Line}
use Rattle.dch_node.specs.Values.{Radio}
use Rattle.dch_layer2.specs.Layers.{Given, Layer}
use Rattle.dch_layer2.specs.Joined.{CarriesGiven, joined_bits}
use Rattle.dch_layer2.specs.Reading.{Read}
use Rattle.dch_linkcmd.proofs.Steady.{set_frames-member, tells}
use Rattle.dch_linkcmd.specs.RncState.{IubFrame as IubFrameUp, State as RncState, set_readings}
use Rattle.dch_linkcmd.specs.RncSteps.{IsArrival}
use Rattle.dch_linkcmd.specs.Checks.{good_blocks, good_from, good_in}
use Rattle.dch_linkcmd.specs.LinkSoft.{SoftState, given as given_up}
use Rattle.dch_linkcmd.specs.SoftStages.{AtStage, GivesFrame, RncGoes, WhereOver}
use Rattle.dch_linkcmd.specs.soft_stage.Stage.{Stage}
use Rattle.dch_linkcmd.specs.soft_stage.Stage.TheVariants.{Combine}
use Rattle.dch_runlaw.specs.Intervals.{AreGood, MayComeDamaged}
use Rattle.dch_runlaw.specs.Sized.{AreSized}
use Rattle.dch_runlaw.proofs.ClearBlocks.{arrive_good}
use Rattle.dch_node.proofs.IubFrames.{same_bits}
use Rattle.dch_runlaw.proofs.ClearTtis.{over_or_on}
use Rattle.dch_runlaw.proofs.IntervalCounting.{starts_zero}
use Rattle.dch_runlaw.specs.Legs.{AreAllGiven, ArrivesAtLeg, AsSent, GetsSo, OthersAreSent, TakesGiven, as_sent, tti_sent}
use Rattle.dch_runlaw.specs.SoftRuns.{Move, Point, Runs, opened_point}
use Rattle.dch_runlaw.specs.Ttis.{InTti, Tti}
use Rattle.dch_runlaw.proofs.Agreeing.{Agree, AgreeAt, frames_of, opened_agree, runs_agree, up_side}
use Rattle.dch_runlaw.proofs.Changes.{rnc_step}
use Rattle.dch_runlaw.proofs.Coming.{frames_are}
use Rattle.dch_runlaw.proofs.Counting.{Counted, counted, sent_before}
use Rattle.dch_runlaw.proofs.Delivering.{Came, CameAt, Ends, HasFrame, last_frame, over_at, runs_come, set_own}
use Rattle.dch_runlaw.proofs.IntervalSets.{SetSent, near_readable, same_readable}
use Rattle.dch_runlaw.proofs.Phases.{Phase, Taken, phase_of}

-- blocks that were given have their format
sent_format : (channel : Trch) (given : Given) → given.format < length channel.formats → length (joined_bits given.blocks) ≡ bits_of (format_at channel given.format) → HasFormat channel (as_sent channel given)
sent_format channel given there whole = record {
  there = there;
  size = refl;
  count = length-replicate (format_at channel given.format).number true;
  long = whole;
}

-- the same bits in the same format
same_block : (channel : Trch) (given : Given) (held : Held) (b : ℕ) → HasFormat channel held → CarriesGiven given held → block_at held b ≡ block_at (as_sent channel given) b
same_block channel given held b has carries =
    let size : held.size ≡ (format_at channel given.format).size = has.size ∙ ap (λ f. (format_at channel f).size) carries.format in
    ap₂ (λ n (bits : List Bit). take n (drop (b * n) bits)) size carries.bits

count_is : (channel : Trch) (given : Given) (held : Held) → HasFormat channel held → held.format ≡ given.format → length held.good ≡ length (as_sent channel given).good
count_is channel given held has format = has.count ∙ ap (λ f. (format_at channel f).number) format ∙ sym (length-replicate (format_at channel given.format).number true)

-- the good blocks of leg k's frame are those that were sent, and these are all good
own_sent : (channel : Trch) (given : Given) (held : Held) (b : ℕ) → HasFormat channel held → CarriesGiven given held → IsGoodBlock held b → IsSentBlock (as_sent channel given) b held
own_sent channel given held b has carries is_good = record {
  format = carries.format;
  there = subst (λ n. b < n) (count_is channel given held has carries.format) (good_inside held b is_good);
  bits = same_block channel given held b has carries;
}

all_sent : (channel : Trch) (given : Given) (held : Held) → HasFormat channel held → CarriesGiven given held → AreGood held → HasAll (as_sent channel given) held
all_sent channel given held has carries good = record {
  format = carries.format;
  good = λ b inside. good b (subst (λ n. b < n) (sym (count_is channel given held has carries.format)) inside);
}

are_sent : (planned : Planned) (set k i : ℕ) (layer : Layer) (frames : ℕ → Option LegFrame) → i < length (up_side planned).channels → (channel_at (up_side planned) i).set ≡ set → (has : HasFrame planned set layer (frames k))
    → OthersAreSent frames k i (as_sent (channel_at (up_side planned) i) (layer.given i)) → AreSent frames i (as_sent (channel_at (up_side planned) i) (layer.given i))
are_sent planned set k i layer frames inside member has others j b is_good = elim (cases_eq j k) [
  | inl own ↦ (
      let channel : Trch = channel_at (up_side planned) i in
      let sent : Held = as_sent channel (layer.given i) in
      let same : frames j ≡ Some has.frame = ap frames own ∙ has.is in
      let good : IsGoodBlock (blocks_in (Some has.frame) i) b = subst (λ (o : Option LegFrame). IsGoodBlock (blocks_in o i) b) same is_good in
      subst (λ (o : Option LegFrame). IsSentBlock sent b (blocks_in o i)) (sym same)
      (own_sent channel (layer.given i) (held_at has.frame.held.blocks i) b (has.whole i inside member) (has.carries i inside member) good))
  | inr other ↦ others j b other is_good
]

-- blocks that are read of an Iub frame are those that were written to it
read_sent : (sent held other : Held) → IsSameTti held other → other.good ≡ held.good → TakesSent sent held → TakesSent sent other
read_sent sent held other same marks takes = record {
  all = λ b inside. let both = takes.all b inside in (good_to b both.0, block_to b both.1 (good_to b both.0));
  only = λ b is_good. block_to b (takes.only b (good_from_other b is_good)) is_good;
}
  where
    good_to : (b : ℕ) → IsGoodBlock held b → IsGoodBlock other b
    good_to b is_good = ap (λ goods. slice_index_or goods b false) marks ∙ is_good

    good_from_other : (b : ℕ) → IsGoodBlock other b → IsGoodBlock held b
    good_from_other b is_good = ap (λ goods. slice_index_or goods b false) (sym marks) ∙ is_good

    block_to : (b : ℕ) → IsSentBlock sent b held → IsGoodBlock other b → IsSentBlock sent b other
    block_to b block is_good = record { format = same.format ∙ block.format; there = block.there; bits = same.blocks b (good_inside other b is_good) ∙ block.bits }

-- where some were sent, all that were read are those
all_given : (channel : Trch) (given : Given) (held : Held) → HasFormat channel (as_sent channel given) → HasFormat channel held → TakesSent (as_sent channel given) held → 0 < (format_at channel given.format).number → AreAllGiven given held
all_given channel given held has_sent has takes some =
    let sent : Held = as_sent channel given in
    let number : length sent.good ≡ (format_at channel given.format).number = has_sent.count in
    let format : held.format ≡ given.format = (takes.all 0 (omega (arith, number, some))).1.format in
    let count : length held.good ≡ length sent.good = count_is channel given held has format in
    let same : IsSameTti sent held = record {
      format = format;
      size = has.size ∙ ap (λ f. (format_at channel f).size) format;
      count = count;
      blocks = λ b inside. (takes.all b (subst (λ n. b < n) count inside)).1.bits;
    } in
    record {
      carries = record { format = format; bits = same_bits channel sent held has_sent has same };
      good = λ b inside. (takes.all b (subst (λ n. b < n) count inside)).0;
    }

-- where none were, no good block is read
none_good : (held : Held) (k count : ℕ) → ((b : ℕ) → IsGoodBlock held b → ⊥) → good_from held k count ≡ []
none_good held k zero none = refl
none_good held k (suc count) none = elim (tells (slice_index_or held.good k false)) [
  | inl fine ↦ absurd (none k fine.0)
  | inr bad ↦ rw bad.0 (none_good held (k + 1) count none)
]

none_taken : (held : Held) → ((b : ℕ) → IsGoodBlock held b → ⊥) → good_blocks held ≡ []
none_taken held none = elim (eqb_tells held.size 0) [
  | inl empty ↦ rw empty.0 refl
  | inr some ↦ rw some.0 (none_good held 0 (length held.good) none)
]

no_blocks : (size : ℕ) (blocks : List (List Bit)) → AreSized size blocks → length (joined_bits blocks) ≡ 0 → blocks ≡ []
no_blocks size [] sized whole = refl
no_blocks size (block ∷ later) sized whole = absurd (omega (arith, whole, length-append block (joined_bits later), sized.0, sized.1))

-- the blocks that are taken as good, one after another
taken_is : (channel : Trch) (given : Given) (held : Held) → HasFormat channel (as_sent channel given) → HasFormat channel held → AreSized (format_at channel given.format).size given.blocks → TakesSent (as_sent channel given) held → good_in (Read held) ≡ given.blocks
taken_is channel given held has_sent has sized takes = elim (cases_lt 0 (format_at channel given.format).number) [
  | inl some ↦ (
      let all : AreAllGiven given held = all_given channel given held has_sent has takes some in
      let size : held.size ≡ (format_at channel given.format).size = has.size ∙ ap (λ f. (format_at channel f).size) all.carries.format in
      let count : length held.good ≡ (format_at channel given.format).number = has.count ∙ ap (λ f. (format_at channel f).number) all.carries.format in
      arrive_good held (format_at channel given.format).size (format_at channel given.format).number given.blocks size count has_sent.long sized (record { same = all.carries.bits; good = all.good }))
  | inr zero_many ↦ (
      let number : (format_at channel given.format).number ≡ 0 = omega (arith, zero_many) in
      let bits : length (joined_bits given.blocks) ≡ 0 = has_sent.long ∙ ap (λ n. n * (format_at channel given.format).size) number ∙ zero-mul (format_at channel given.format).size in
      let none : (b : ℕ) → IsGoodBlock held b → ⊥ = λ b is_good. omega (arith, (takes.only b is_good).there, has_sent.count, number) in
      none_taken held none ∙ sym (no_blocks (format_at channel given.format).size given.blocks sized bits))
]

own_set : (side : Side) (set i : ℕ) (held : HeldSet) → i < length side.channels → (channel_at side i).set ≡ set → set_readings side set held i ≡ Read (held_at held.blocks i)
own_set side set i held inside member =
    let a : nat_lt i (length side.channels) ≡ true = grind (arith, nat_tests, inside) in
    let b : ((channel_at side i).set == set) ≡ true = eq-eqb (channel_at side i).set set member in
    rw (a, b) refl

-- the network controller takes the combined frame
record Reads (planned : Planned) (i : ℕ) (given : Given) (new : SoftState) : Type 0 where
  held : Held
  read : new.rnc.state.readings i ≡ Read held
  has : HasFormat (channel_at (up_side planned) i) held
  sent : TakesSent (as_sent (channel_at (up_side planned) i) given) held

reads : (planned : Planned) (set k i cfn : ℕ) (layer : Layer) (old new : SoftState) (octets : List ℕ) → i < length (up_side planned).channels → (channel_at (up_side planned) i).set ≡ set → old.rnc.state.planned ≡ planned
    → HasFormat (channel_at (up_side planned) i) (as_sent (channel_at (up_side planned) i) (layer.given i)) → (has : HasFrame planned set layer (old.frames set k)) → OthersAreSent (old.frames set) k i (as_sent (channel_at (up_side planned) i) (layer.given i))
    → IsCombinedFrame planned.config set (old.frames set) cfn octets → RncGoes (given_up old set) (IubFrameUp set octets) new → Reads planned i (layer.given i) new
reads planned set k i cfn layer old new octets inside member active has_sent has others combined goes =
    let channel : Trch = channel_at (up_side planned) i in
    let sent : Held = as_sent channel (layer.given i) in
    let held : Held = held_at combined.held.blocks i in
    let all : HasAll sent (blocks_in (old.frames set k) i) = subst (λ (o : Option LegFrame). HasAll sent (blocks_in o i)) (sym has.is)
    (all_sent channel (layer.given i) (held_at has.frame.held.blocks i) (has.whole i inside member) (has.carries i inside member) (has.good i inside member)) in
    let takes : TakesSent sent held = takes_sent channel (old.frames set) i k sent held has_sent (combined.written.read.formats i inside member) (combined.channels i inside member)
    (are_sent planned set k i layer (old.frames set) inside member has others) all in
    let step : IsArrival planned old.rnc.state set octets new.rnc.state new.rnc.last =
    subst (λ (p : Planned). IsArrival p old.rnc.state set octets new.rnc.state new.rnc.last) active (rnc_step (given_up old set) new (IubFrameUp set octets) goes) in
    elim step [
      | inl read ↦ (
          let back : IsReadBack Up (up_side planned) set cfn read.cfn combined.qe read.qe combined.held read.held =
          one_reading planned.config Up set cfn combined.qe read.cfn read.qe octets combined.held read.held combined.written.read read.read in
          record {
            held = held_at read.held.blocks i;
            read = ap (λ (r : RncState). r.readings i) read.state ∙ own_set (up_side planned) set i read.held inside member;
            has = read.read.formats i inside member;
            sent = read_sent sent held (held_at read.held.blocks i) (back.ttis i inside member) (back.marks.marks i inside member) takes;
          })
      | inr refused ↦ absurd (no_form planned.config Up set octets refused.error refused.cause cfn combined.qe combined.held combined.written.read)
    ]

-- a TTI at whose end the frames of the legs are combined
pub leg_takes : (planned : Planned) (first legs k i : ℕ) (moves : List Move) (mid last : Point) (new : SoftState) (lines own : List Line) → Runs (opened_point planned first legs) moves mid lines → IsPlanned planned → first % 8 ≡ 0 → k < legs → i < length planned.config.uplink.side.channels
    → (t : Tti (channel_at planned.config.uplink.side i).frames (channel_at planned.config.uplink.side i).set mid last) → ArrivesAtLeg planned k (channel_at planned.config.uplink.side i).frames (channel_at planned.config.uplink.side i).set mid last t
    → OthersAreSent (last.soft.frames (channel_at planned.config.uplink.side i).set) k i (as_sent (channel_at planned.config.uplink.side i) (last.soft.ue.state.layer.given i)) → AtStage (Combine (channel_at planned.config.uplink.side i).set) last.soft new own
    → TakesGiven planned (channel_at planned.config.uplink.side i).set i (last.soft.ue.state.layer.given i) (channel_at planned.config.uplink.side i).frames mid last t new
leg_takes planned first legs k i moves mid last new lines own run good eighth there inside t arrives others passes = elim gives [
  | inl nothing ↦ absurd (let both : None ≡ Some has.frame = sym (nothing.none k) ∙ has.is in cc)
  | inr frame ↦ (
      let combined : IsCombinedFrame planned.config set (last.soft.frames set) cfn frame.octets = subst (λ (p : Planned). IsCombinedFrame p.config set (last.soft.frames set) cfn frame.octets) b.rnc_active frame.combined in
      let r : Reads planned i given new = reads planned set k i cfn layer last.soft new frame.octets inside refl b.rnc_active has_sent has others combined frame.comes in
      record {
        stays = all.stays;
        octets = frame.octets;
        comes = frame.comes;
        held = r.held;
        read = r.read;
        taken = ap good_in r.read ∙ taken_is channel given r.held has_sent r.has (b.ue.layer.given.sized i inside) r.sent;
        sent = r.sent;
        all = λ some. all_given channel given r.held has_sent r.has r.sent some;
      })
]
  where
    channel : Trch
    channel = channel_at (up_side planned) i

    set : ℕ
    set = channel.set

    small : set < 8
    small = omega (arith, (good.good.uplink.side.channels i inside).set)

    layer : Layer
    layer = last.soft.ue.state.layer

    given : Given
    given = layer.given i

    a : AgreeAt planned legs k set mid
    a = runs_agree planned legs k set moves (opened_point planned first legs) mid lines good there small run (opened_agree planned first legs k set good eighth)

    before : Agree planned legs k (phase_of k set last.stage) last.soft
    before = runs_agree planned legs k set t.moves mid last t.lines good there small t.run a

    b : Agree planned legs k Taken last.soft
    b = subst (λ (p : Phase). Agree planned legs k p last.soft) (ap (phase_of k set) t.at_end ∙ (set_own k set).0) before

    zero_at : mid.soft.cfn % frames_of planned i ≡ 0
    zero_at = starts_zero (frames_of planned i) mid.soft.cfn (frames_are planned i good inside) t.at_start

    starts_all : (j : ℕ) → j < length (up_side planned).channels → (channel_at (up_side planned) j).set ≡ set → 0 < mid.soft.cfn % frames_of planned j → ⊥
    starts_all j within member some =
        let same : frames_of planned j ≡ frames_of planned i = good.good.uplink.side.sets j i within inside member in
        let none : mid.soft.cfn % frames_of planned j ≡ 0 = ap (λ n. mid.soft.cfn % n) same ∙ zero_at in
        omega (arith, some, none)

    came : (Comes : Option Radio → Option Radio → Type 0) (sent : ℕ → Option Radio) → ((n : ℕ) → Comes (sent n) ((mid.soft.legs k).node_b.state.frames n)) → InTti (GetsSo Comes k set) channel.frames set mid last t → Came planned Comes k set (tti_sent k channel.frames set mid last t sent) Taken last.soft
    came Comes sent come gets =
        let start : CameAt planned Comes k set sent mid =
        subst (λ (stage : Stage). Came planned Comes k set sent (phase_of k set stage) mid.soft) (sym t.at_rest) (record { halves = λ j within member some. absurd (starts_all j within member some); come = come; up = tt }) in
        subst (λ (p : Phase). Came planned Comes k set (tti_sent k channel.frames set mid last t sent) p last.soft) (ap (phase_of k set) t.at_end ∙ (set_own k set).0)
        (runs_come planned Comes legs k set sent t.moves mid last t.lines good there small t.run gets a start)

    all : Counted planned i given t.moves mid last t.lines t.run
    all =
        let none : sent_before mid.stage ≡ 0 = ap sent_before t.at_rest in
        counted planned legs k set i given t.moves mid last t.lines good there small inside t.run a (omega (arith, zero_at, none, t.count)) (ap sent_before t.at_end) refl

    over_here : Ends planned set last.soft.cfn
    over_here = ap (λ n. ends n last.soft.cfn) (set_frames-member (up_side planned) i good.good.uplink.side inside) ∙ (elim (over_or_on (frames_of planned i) last.soft.cfn (frames_are planned i good inside)) [
      | inl done ↦ done.2
      | inr more ↦ absurd (omega (arith, more.0, all.at_end))
    ])

    all_sent_of : (Comes : Option Radio → Option Radio → Type 0) (sent : ℕ → Option Radio) → Came planned Comes k set sent Taken last.soft → SetSent planned set layer last.soft.cfn sent
    all_sent_of Comes sent c = record {
      halves = c.halves;
      ends = λ j within member. last_frame planned set last.soft.cfn j good within member over_here;
      wholes = b.ue.layer.given.whole;
    }

    has : HasFrame planned set layer (last.soft.frames set k)
    has = elim arrives [
      | inl gets ↦ (
          let before_frames : ℕ → Option Radio = (mid.soft.legs k).node_b.state.frames in
          let sent : ℕ → Option Radio = tti_sent k channel.frames set mid last t before_frames in
          let c : Came planned AsSent k set sent Taken last.soft = came AsSent before_frames (λ n. refl) gets in
          c.up over_here (same_readable planned set layer last.soft.cfn sent (last.soft.legs k).node_b.state.frames good (all_sent_of AsSent sent c) c.come))
      | inr little ↦ (
          let sent : ℕ → Option Radio = tti_sent k channel.frames set mid last t (λ n. None) in
          let c : Came planned MayComeDamaged k set sent Taken last.soft = came MayComeDamaged (λ n. None) (λ n. tt) little.arrive in
          c.up over_here (near_readable planned set layer last.soft.cfn sent (last.soft.legs k).node_b.state.frames good (all_sent_of MayComeDamaged sent c) c.come little.differ))
    ]

    has_sent : HasFormat channel (as_sent channel given)
    has_sent = sent_format channel given (subst (λ n. n < length channel.formats) (has.carries i inside refl).format (has.whole i inside refl).there) (b.ue.layer.given.whole i inside)

    cfn : ℕ
    cfn = started (set_frames (up_side planned) set) last.soft.cfn

    gives : GivesFrame cfn set last.soft new own
    gives = subst (λ (o : Option ℕ). WhereOver o (λ cfn. GivesFrame cfn set) last.soft new own) (over_at planned set last.soft b.rnc_active over_here) passes
