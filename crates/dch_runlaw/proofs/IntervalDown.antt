-- A downlink TTI whose radio frames all arrive as they were sent, or with little damage.
use Rattle.std.proofs.Common.{◌≡◌, ◌<◌, ◌≤◌, ◌+◌, ◌%◌, ◌∙◌, ℕ, List, [], ◌∷◌, length, true, false, Option, Some, None, arith, refl, sym, ap, subst, inl, inr}
use Rattle.std.specs.Prelude.{◌==◌, if◌then◌else◌, map}
use Rattle.std.specs.List.{range_with_len}
use Rattle.dch_types.specs.declared.channel.Dir.TheVariants.{Down}
use Rattle.dch_types.specs.Limits.{IsFrames}
use Rattle.dch_types.specs.Parts.{channel_at, format_at}
use Rattle.dch_types.specs.Timing.{ends, starts}
use Rattle.dch_accept.specs.Blocks.{Held, bits_of}
use Rattle.dch_accept.specs.HeldSets.{HasFormat}
use Rattle.dch_accept.specs.Plans.{IsPlanned, Planned}
use Rattle.dch_tti.specs.RxFrames.{RxFrames}
use Rattle.dch_dlphy.specs.Damaged.{WasDamaged}
use Rattle.dch_dlphy.specs.Frames.{multiplexed}
use Rattle.dch_dlphy.specs.Loaded.{IsLoaded}
use Rattle.dch_dlphy.specs.Read.{IsTtiRead}
use Rattle.dch_dlphy.specs.Sent.{WasSent}
use Rattle.dch_dlphy.proofs.Damaged.{none_damaged}
use Rattle.dch_dlphy.proofs.One.{loaded_one}
use Rattle.dch_tti.proofs.Sent.{sent_formats}
use Rattle.dch_tti.specs.Loaded.{Loaded, loaded_at}
use Rattle.dch_node.specs.Lines.{Line}
use Rattle.dch_node.specs.RxFrames.{AreHeard}
use Rattle.dch_node.specs.Values.{Blocks, Radio}
use Rattle.dch_layer2.specs.Reading.{Bad, Nothing, Read, Reading}
use Rattle.dch_linkcmd.specs.NodebState.{State as NodeBState}
use Rattle.dch_linkcmd.specs.NodebSteps.{IsRadio, IsRadioFrame}
use Rattle.dch_linkcmd.proofs.Steady.{tells}
use Rattle.dch_linkcmd.specs.UeState.{State as UeState, frames_now}
use Rattle.dch_linkcmd.specs.UeSteps.{IsReading}
use Rattle.dch_linkcmd.specs.LinkLink.{LinkState}
use Rattle.dch_runlaw.specs.SentRead.{IsReadAsSent}
use Rattle.dch_runlaw.proofs.DownlinkSent.{downlink_damaged, heard_listed}
use Rattle.dch_runlaw.specs.Frames.{IsFrame}
use Rattle.dch_runlaw.specs.Runs.{Between, Event, Frame, Runs}
use Rattle.dch_runlaw.specs.Parts.{Begins}
use Rattle.dch_runlaw.proofs.Begun.{begun, begun_agree}
use Rattle.dch_runlaw.proofs.ClearBetween.{Same, between}
use Rattle.dch_runlaw.proofs.ClearDown.{AnyLast, AnyStep}
use Rattle.dch_runlaw.proofs.ClearSent.{IsSentRadio, all_sent, heard_as}
use Rattle.dch_runlaw.proofs.ClearTtis.{Half, half_more, half_next, over_or_on}
use Rattle.dch_runlaw.specs.Intervals.{AreGood, ArrivesDamaged, ArrivesDown, DownAsGiven, InFrames, InTti, Tti, frames_come, frames_sent, tti_sent, with_sent}
use Rattle.dch_runlaw.proofs.IntervalAgree.{Agree, Parts, down_side, parts, runs_agree, stays}
use Rattle.dch_runlaw.proofs.IntervalCombinations.{finds_all}
use Rattle.dch_runlaw.proofs.IntervalDamaged.{all_damaged, come_tti, near_combinations, near_tti}
use Rattle.dch_runlaw.proofs.IntervalCounting.{Stayed, Watch, starts_zero, stayed}
use Rattle.dch_runlaw.proofs.IntervalWhole.{given_still}

abbrev frames_of : Planned → ℕ → ℕ
frames_of planned i = (channel_at (down_side planned) i).frames

-- what is loaded of channel i, and the first radio frames of its TTI, as they were sent
abbrev DownLoaded : Planned → ℕ → Blocks → Loaded → Type 0
DownLoaded planned i blocks loaded = IsLoaded planned i blocks.format blocks.bits loaded

abbrev DownHalf : Planned → ℕ → Blocks → ℕ → (ℕ → Option Radio) → ℕ → Type 0
DownHalf planned i blocks cfn frames count = Half (frames_of planned i) (DownLoaded planned i blocks) (IsSentRadio planned Down (multiplexed planned) i) AnyLast AnyStep cfn frames count

abbrev DownOn : Planned → ℕ → (ℕ → Option Radio) → LinkState → Type 0
DownOn planned i g link = 0 < link.rnc.state.cfn % frames_of planned i → DownHalf planned i (link.node_b.state.given i) link.rnc.state.cfn g (link.rnc.state.cfn % frames_of planned i)

-- the blocks that the Node B has for a channel
abbrev down_watch : (planned : Planned) (i : ℕ) → IsPlanned planned → Watch planned (frames_of planned i) Blocks
down_watch planned i good = record {
  value = λ link. link.node_b.state.given i;
  frame_value = λ old new lines f. f.node_b.given i;
  same = λ old new r. ap (λ (b : NodeBState). b.given i) r.node_b;
  after = λ old new lines f a. (parts planned old new lines f good a).given_new i;
  before = λ old new lines f a off.
      let p : Parts planned old new lines f = parts planned old new lines f good a in
      p.given_is i ∙ given_still (down_side planned) (f.fed 8) i (ap (starts (frames_of planned i)) (p.fed.same_cfn ∙ a.node_b_cfn) ∙ off) ∙ ap (λ (g : ℕ → Blocks). g i) p.fed.given;
}

-- one radio frame more was sent
frame_half : (planned : Planned) (old new : LinkState) (lines : List Line) (f : IsFrame old new lines) (i : ℕ) (g : ℕ → Option Radio) → IsPlanned planned → i < length (down_side planned).channels → Agree planned old → ArrivesDamaged Down old new lines f → DownOn planned i g old
    → DownHalf planned i (f.node_b.given i) old.rnc.state.cfn (with_sent Down old new lines f g) (old.rnc.state.cfn % frames_of planned i + 1)
frame_half planned old new lines f i g good inside a arrives on =
    half_more (frames_of planned i) (DownLoaded planned i (f.node_b.given i)) (IsSentRadio planned Down (multiplexed planned) i) AnyLast AnyLast AnyStep c g (with_sent Down old new lines f g) arrives.radio sent.combination (loaded_at sent.tti i)
    is
    (loaded_one planned i (f.node_b.given i).format (f.node_b.given i).bits)
    frames_are
    (sent.loaded i inside)
    (record {
      tti = sent.tti;
      cfn = f.node_b.cfn;
      frame = sent.frame;
      formats = λ j within. (sent.loaded j within).format ∙ ap (λ n. Some n) (sent.formats j within);
      listed = sent.listed;
      holds = refl;
      number = ap (λ n. n % frames_of planned i) p.node_b_cfn;
      written = sent.written;
      tfci = sent.tfci;
      cells = sent.cells;
    })
    tt
    (λ some d last. tt)
    (λ some. subst (λ (b : Blocks). DownHalf planned i b c g (c % frames_of planned i))
    (sym (w.before old new lines f a (off some))) (on some))
  where
    c : ℕ
    c = old.rnc.state.cfn

    is : IsFrames (frames_of planned i)
    is = (good.good.downlink.side.channels i inside).frames

    p : Parts planned old new lines f
    p = parts planned old new lines f good a

    w : Watch planned (frames_of planned i) Blocks
    w = down_watch planned i good

    off : 0 < c % frames_of planned i → starts (frames_of planned i) c ≡ false
    off some = elim (tells (starts (frames_of planned i) c)) [
      | inl first ↦ absurd (omega (arith, some, starts_zero (frames_of planned i) c is first.0))
      | inr other ↦ other.0
    ]

    sent : IsRadioFrame planned f.node_b arrives.radio
    sent = subst (IsRadio planned f.node_b) arrives.sent p.departs.radio

    frames_are : (k : ℕ) → with_sent Down old new lines f g k ≡ (if k == c % 8 then Some arrives.radio else g k)
    frames_are k = ap (λ (o : Option Radio). if k == c % 8 then o else g k) arrives.sent

-- so the TTI goes on
frame_on : (planned : Planned) (old new : LinkState) (lines : List Line) (f : IsFrame old new lines) (i : ℕ) (g : ℕ → Option Radio) → IsPlanned planned → i < length (down_side planned).channels → Agree planned old → ArrivesDamaged Down old new lines f → DownOn planned i g old → DownOn planned i (with_sent Down old new lines f g) new
frame_on planned old new lines f i g good inside a arrives on = λ some.
    let p : Parts planned old new lines f = parts planned old new lines f good a in
    let c : ℕ = old.rnc.state.cfn in
    let h : ℕ → Option Radio = with_sent Down old new lines f g in
    let more : 0 < ((c + 1) % 256) % frames_of planned i = subst (λ n. 0 < n % frames_of planned i) p.next_cfn some in
    subst (λ n. DownHalf planned i (new.node_b.state.given i) n h (n % frames_of planned i)) (sym p.next_cfn)
    (subst (λ (b : Blocks). DownHalf planned i b ((c + 1) % 256) h (((c + 1) % 256) % frames_of planned i)) (sym (p.given_new i))
    (half_next (frames_of planned i) (DownLoaded planned i (f.node_b.given i)) (IsSentRadio planned Down (multiplexed planned) i) AnyLast AnyStep c h (good.good.downlink.side.channels i inside).frames
    (frame_half planned old new lines f i g good inside a arrives on) more))

between_on : (planned : Planned) (old new : LinkState) (i : ℕ) (g : ℕ → Option Radio) → Same old new → DownOn planned i g old → DownOn planned i g new
between_on planned old new i g r on = λ some.
    let n : ℕ = frames_of planned i in
    subst (λ c. DownHalf planned i (new.node_b.state.given i) c g (c % n)) (sym r.cfn)
    (subst (λ (b : NodeBState). DownHalf planned i (b.given i) old.rnc.state.cfn g (old.rnc.state.cfn % n)) (sym r.node_b)
    (on (subst (λ c. 0 < c % n) r.cfn some)))

run_on : (planned : Planned) (events : List Event) (old new : LinkState) (lines : List Line) (run : Runs old events new lines) (i : ℕ) (g : ℕ → Option Radio) → IsPlanned planned → i < length (down_side planned).channels → Agree planned old → InFrames (ArrivesDamaged Down) events old new lines run
    → DownOn planned i g old → DownOn planned i (frames_sent Down events old new lines run g) new
run_on planned [] old new lines run i g good inside a arrive on = subst (DownOn planned i g) (sym run.0) on
run_on planned (Between event ∷ events) old new lines run i g good inside a arrive on =
    let same : Same old run.next = (between old run.next event run.own run.step).0 in
    run_on planned events run.next new run.rest run.later i g good inside (stays planned old run.next same a) arrive (between_on planned old run.next i g same on)
run_on planned (Frame ∷ events) old new lines run i g good inside a arrive on =
    let f : IsFrame old run.next run.own = run.step.frame in
    run_on planned events run.next new run.rest run.later i (with_sent Down old run.next run.own f g) good inside (parts planned old run.next run.own f good a).agree arrive.1 (frame_on planned old run.next run.own f i g good inside a arrive.0 on)

-- all of them were sent, so what keeps them is a TTI that was sent
whole_sent : (planned : Planned) (i cfn count : ℕ) (blocks : Blocks) (frames : ℕ → Option Radio) (reader : RxFrames) → length (down_side planned).combinations ≤ 128 → AreHeard planned Down cfn frames reader → DownHalf planned i blocks cfn frames count
    → count ≡ frames_of planned i → length blocks.bits ≡ bits_of (format_at (channel_at (down_side planned) i) blocks.format) → WasSent planned reader i blocks.format blocks.bits
whole_sent planned i cfn count blocks frames reader few heard half all whole = record {
  sequence = map half.sequence (range_with_len 0 (frames_of planned i));
  sent = record {
    loaded = half.loaded;
    from = half.from;
    whole = whole;
    frames = all_sent planned Down (multiplexed planned) i cfn count (DownLoaded planned i blocks) AnyLast AnyStep frames reader few heard half all;
  };
}

-- what is read of it
record ReadsBack (planned : Planned) (i : ℕ) (blocks : Blocks) (r : Reading) : Type 0 where
  held : Held
  read : r ≡ Read held
  whole : HasFormat (channel_at (down_side planned) i) held
  format : held.format ≡ blocks.format
  bits : held.bits ≡ blocks.bits
  good : AreGood held

reads_back : (planned : Planned) (cfn : ℕ) (frames : ℕ → Option Radio) (i : ℕ) (blocks : Blocks) (reader : RxFrames) (r : Reading) → IsPlanned planned → i < length (down_side planned).channels → AreHeard planned Down cfn frames reader
    → WasDamaged planned reader i blocks.format blocks.bits → ends (frames_of planned i) reader.cfn ≡ true → IsReading planned reader i r → ReadsBack planned i blocks r
reads_back planned cfn frames i blocks reader Nothing good inside heard was over is = let off : ends (frames_of planned i) reader.cfn ≡ false = is in absurd (cc)
reads_back planned cfn frames i blocks reader (Bad frame) good inside heard was over is =
    absurd ((downlink_damaged planned cfn frames reader i blocks.format blocks.bits good heard inside was).good frame is.1)
reads_back planned cfn frames i blocks reader (Read held) good inside heard was over is =
    let read : IsTtiRead planned reader i held = is.1 in
    let sent : IsReadAsSent planned Down (IsTtiRead planned) reader i blocks.format blocks.bits = downlink_damaged planned cfn frames reader i blocks.format blocks.bits good heard inside was in
    let arrives = sent.arrives held read in
    record {
      held = held;
      read = refl;
      whole = record { there = read.format.inside; size = read.blocks.sized; count = read.blocks.counted; long = read.blocks.whole };
      format = sent.number held read;
      bits = arrives.same;
      good = arrives.good;
    }

-- the readers of the last radio frame of a TTI
record Ends (planned : Planned) (i : ℕ) (mid new : LinkState) (t : Tti (frames_of planned i) mid new) : Type 0 where
  reader : RxFrames
  heard : AreHeard planned Down t.last.rnc.state.cfn (frames_come Down new) reader
  reading : IsReading planned reader i (new.ue.state.readings i)

ends_in : (planned : Planned) (i : ℕ) (mid new : LinkState) (t : Tti (frames_of planned i) mid new) → IsPlanned planned → i < length (down_side planned).channels → Agree planned t.last → Ends planned i mid new t
ends_in planned i mid new t good inside b =
    let p : Parts planned t.last new t.last_lines t.step.frame = parts planned t.last new t.last_lines t.step.frame good b in
    record {
      reader = p.ticks.rx_frames;
      heard = heard_as planned Down t.step.frame.kept.cfn t.last.rnc.state.cfn (frames_now t.step.frame.kept) new.ue.state.frames p.ticks.rx_frames p.kept_cfn (λ k. ap (λ (x : UeState). x.frames k) p.ticks.state) p.ticks.kept;
      reading = p.ticks.readings i inside;
    }

pub down_interval : (planned : Planned) (i : ℕ) (events : List Event) (start mid new : LinkState) (lines : List Line) → IsPlanned planned → Begins planned start → Runs start events mid lines → i < length planned.config.downlink.side.channels
    → (t : Tti (channel_at planned.config.downlink.side i).frames mid new) → ArrivesDown planned i (channel_at planned.config.downlink.side i).frames mid new t → DownAsGiven planned i (channel_at planned.config.downlink.side i).frames mid new t
down_interval planned i events start mid new lines good begins run inside t arrive = record {
  given = new.node_b.state.given i;
  stays = all.inside;
  combinations = finds_all planned Down (frames_of planned i) mid new t good a is near;
  held = back.held;
  read = back.read;
  whole = back.whole;
  format = back.format ∙ ap (λ (b : Blocks). b.format) now;
  bits = back.bits ∙ ap (λ (b : Blocks). b.bits) now;
  good = back.good;
}
  where
    is : IsFrames (frames_of planned i)
    is = (good.good.downlink.side.channels i inside).frames

    a : Agree planned mid
    a = runs_agree planned events start mid lines run good (begun_agree planned start good (begun planned start good begins))

    b : Agree planned t.last
    b = runs_agree planned t.events mid t.last t.lines t.run good a

    f : IsFrame t.last new t.last_lines
    f = t.step.frame

    p : Parts planned t.last new t.last_lines f
    p = parts planned t.last new t.last_lines f good b

    c : ℕ
    c = t.last.rnc.state.cfn

    all : Stayed planned (frames_of planned i) Blocks (down_watch planned i good) mid new t
    all = stayed planned (frames_of planned i) Blocks (down_watch planned i good) mid new t good is a

    now : f.node_b.given i ≡ new.node_b.state.given i
    now = all.inside.1

    near : InTti (ArrivesDamaged Down) (frames_of planned i) mid new t
    near = elim arrive [
      | inl arrives ↦ all_damaged Down (frames_of planned i) mid new t arrives
      | inr little ↦ little.arrive
    ]

    end : Ends planned i mid new t
    end = ends_in planned i mid new t good inside b

    half : (g : ℕ → Option Radio) → DownHalf planned i (f.node_b.given i) c (tti_sent Down (frames_of planned i) mid new t g) (c % frames_of planned i + 1)
    half g = frame_half planned t.last new t.last_lines f i (frames_sent Down t.events mid t.last t.lines t.run g) good inside b near.1
        (run_on planned t.events mid t.last t.lines t.run i g good inside a near.0 (λ some. absurd (omega (arith, some, starts_zero (frames_of planned i) mid.rnc.state.cfn is t.at_start))))

    whole : length (f.node_b.given i).bits ≡ bits_of (format_at (channel_at (down_side planned) i) (f.node_b.given i).format)
    whole = subst (λ (b : Blocks). length b.bits ≡ bits_of (format_at (channel_at (down_side planned) i) b.format)) (p.given_new i) (p.agree.given i inside)

    was : (g : ℕ → Option Radio) (reader : RxFrames) → AreHeard planned Down c (tti_sent Down (frames_of planned i) mid new t g) reader → WasSent planned reader i (f.node_b.given i).format (f.node_b.given i).bits
    was g reader heard = whole_sent planned i c (c % frames_of planned i + 1) (f.node_b.given i) (tti_sent Down (frames_of planned i) mid new t g) reader good.good.downlink.side.few_combinations heard (half g) all.at_end whole

    damaged : WasDamaged planned end.reader i (f.node_b.given i).format (f.node_b.given i).bits
    damaged = elim arrive [
      | inl arrives ↦
          none_damaged planned end.reader i (f.node_b.given i).format (f.node_b.given i).bits good inside (heard_listed planned c i (frames_come Down new) end.reader end.heard)
          (was (frames_come Down mid) end.reader (heard_as planned Down c c (frames_come Down new) (tti_sent Down (frames_of planned i) mid new t (frames_come Down mid)) end.reader refl (λ k. sym (come_tti planned Down (frames_of planned i) mid new t good a arrives k)) end.heard))
      | inr little ↦
          let sent : WasSent planned little.differ.sent i (f.node_b.given i).format (f.node_b.given i).bits = was (λ k. None) little.differ.sent little.differ.heard in
          record {
            sent = little.differ.sent;
            was = sent;
            combinations = near_combinations planned Down (multiplexed planned) i c (c % frames_of planned i + 1) (DownLoaded planned i (f.node_b.given i)) AnyLast AnyStep (tti_sent Down (frames_of planned i) mid new t (λ k. None)) (frames_come Down new) little.differ.sent end.reader good.good.downlink.side.few_combinations little.differ.heard end.heard
                (near_tti planned Down (frames_of planned i) mid new t good a near) (half (λ k. None)) all.at_end;
            few = little.differ.few end.reader end.heard (f.node_b.given i).format (sent_formats planned Down (multiplexed planned) little.differ.sent i (f.node_b.given i).format sent.sequence sent.sent.loaded sent.sent.frames sent.sent.from.format inside);
          }
    ]

    over : ends (frames_of planned i) c ≡ true
    over = elim (over_or_on (frames_of planned i) c is) [
      | inl done ↦ done.2
      | inr more ↦ absurd (omega (arith, more.0, all.at_end))
    ]

    back : ReadsBack planned i (f.node_b.given i) (new.ue.state.readings i)
    back = reads_back planned c (frames_come Down new) i (f.node_b.given i) end.reader (new.ue.state.readings i) good inside end.heard damaged (ap (ends (frames_of planned i)) end.heard.last ∙ over) end.reading
