-- What a tick reads of a channel is one.
use Rattle.std.proofs.Common.{◌≡◌, ◌<◌, ◌∙◌, ℕ, List, Option, Some, None, length, arith, refl, ap, ap₂, sym, subst, inl, inr, true, false}
use Rattle.std.specs.Prelude.{◌%◌, ◌==◌, Err, if◌then◌else◌}
use Rattle.std.proofs.lemmas.Bool.Decides.{leb_tells}
use Rattle.dch_bits.specs.declared.bit.Trit.{Trit}
use Rattle.dch_bits.specs.declared.bit.Vote.{Vote}
use Rattle.dch_types.specs.declared.channel.Dir.TheVariants.{Down}
use Rattle.dch_types.specs.declared.channel.Side.{Side}
use Rattle.dch_types.specs.Limits.{IsSide}
use Rattle.dch_types.specs.Parts.{channel_at}
use Rattle.dch_types.specs.Timing.{ends}
use Rattle.dch_inter.specs.Places.{frame_of, place_of}
use Rattle.dch_accept.specs.Blocks.{Held}
use Rattle.dch_accept.specs.Plans.{IsPlanned, Planned}
use Rattle.dch_tti.specs.Formats.{IsBadFrame}
use Rattle.dch_tti.specs.RxFrames.{RxFrames, frame_at}
use Rattle.dch_tti.proofs.Alike.{KeepTheSame, bad_alike, reading_alike, same_cells, same_combination}
use Rattle.dch_tti.proofs.OneReading.{format_one}
use Rattle.dch_tti.proofs.Sent.{none_bad}
use Rattle.dch_dlphy.specs.Loaded.{tti_cells}
use Rattle.dch_dlphy.specs.Read.{AreVotes, IsTtiRead, received_cell, tti_cell}
use Rattle.dch_dlphy.proofs.One.{read_one}
use Rattle.dch_node.specs.Values.{Output, Radio}
use Rattle.dch_node.proofs.RxFrames.{heard_same}
use Rattle.dch_layer2.specs.Reading.{Bad, Nothing, Read, Reading}
use Rattle.dch_ue.specs.Same.{ReadsSame}
use Rattle.dch_ue.specs.State.{State, Tick, frames_now}
use Rattle.dch_ue.specs.Steps.{IsReading, IsTick, Steps}

-- kept frames that are the same as far as a reader looks show the same cells
cell_same : (planned : Planned) (i m : ℕ) (a b : Option ℕ) (xs ys : List Trit) → b ≡ a → ((c : ℕ) → a ≡ Some c → ys ≡ xs) → received_cell planned i b ys m ≡ received_cell planned i a xs m
cell_same planned i m None b xs ys same cells = ap (λ o. received_cell planned i o ys m) same
cell_same planned i m (Some c) b xs ys same cells = ap (λ o. received_cell planned i o ys m) same ∙ ap (λ zs. received_cell planned i (Some c) zs m) (cells c (λ t. Some c))

tti_cell-same : (planned : Planned) (one other : RxFrames) (i len p : ℕ) → KeepTheSame one other → tti_cell planned other i len p ≡ tti_cell planned one i len p
tti_cell-same planned one other i len p same =
    let side : Side = planned.config.downlink.side in
    let n : ℕ = frame_of (channel_at side i).frames len p in
    cell_same planned i (place_of (channel_at side i).frames len p) (frame_at side one i n).combination (frame_at side other i n).combination (frame_at side one i n).cells (frame_at side other i n).cells
    (same_combination side one other i n same) (λ c found. same_cells side one other i n c same found)

-- and so give the same votes, and the same reading
votes_alike : (planned : Planned) (one other : RxFrames) (i f : ℕ) (votes : List Vote) → KeepTheSame one other → AreVotes planned one i f votes → AreVotes planned other i f votes
votes_alike planned one other i f votes same counted = record {
  cells = counted.cells;
  kept = record { kept = counted.kept.kept; are = λ p inside. counted.kept.are p inside ∙ sym (tti_cell-same planned one other i (tti_cells planned i f) p same) };
  are = counted.are;
}

tti_alike : (planned : Planned) (one other : RxFrames) (i : ℕ) (held : Held) → KeepTheSame one other → IsTtiRead planned one i held → IsTtiRead planned other i held
tti_alike planned one other i held same = reading_alike planned Down (AreVotes planned) one other i held same (λ f votes counted. votes_alike planned one other i f votes same counted)

read_alike : (planned : Planned) (one other : RxFrames) (i : ℕ) (reading : Reading) → KeepTheSame one other → IsReading planned one i reading → IsReading planned other i reading
read_alike planned one other i Nothing same is = ap (ends (channel_at planned.config.downlink.side i).frames) same.cfn ∙ is
read_alike planned one other i (Read held) same is = (ap (ends (channel_at planned.config.downlink.side i).frames) same.cfn ∙ is.0, tti_alike planned one other i held same is.1)
read_alike planned one other i (Bad frame) same is = (ap (ends (channel_at planned.config.downlink.side i).frames) same.cfn ∙ is.0, bad_alike planned.config.downlink.side one other i frame same is.1)

-- a TTI ends or goes on
on_and_over : (frames cfn : ℕ) → ends frames cfn ≡ false → ends frames cfn ≡ true → ⊥
on_and_over frames cfn on over = let both : false ≡ true = sym on ∙ over in cc

-- its first bad frame is one
same_frame : (side : Side) (reader : RxFrames) (i frame bad : ℕ) → IsBadFrame side reader i frame → IsBadFrame side reader i bad → bad ≡ frame
same_frame side reader i frame bad one two = let both : Err bad ≡ Err frame = format_one side reader i (Err bad) (Err frame) (omega (arith, one.inside)) two one in cc

-- what is read of a channel is one
reading_one : (planned : Planned) (reader : RxFrames) (i : ℕ) (reading other : Reading) → IsSide planned.config.downlink.side → i < length planned.config.downlink.side.channels
    → IsReading planned reader i reading → IsReading planned reader i other → ReadsSame reading other
reading_one planned reader i Nothing Nothing good inside a b = refl
reading_one planned reader i Nothing (Read held) good inside a b = absurd (on_and_over (channel_at planned.config.downlink.side i).frames reader.cfn a b.0)
reading_one planned reader i Nothing (Bad frame) good inside a b = absurd (on_and_over (channel_at planned.config.downlink.side i).frames reader.cfn a b.0)
reading_one planned reader i (Read held) Nothing good inside a b = absurd (on_and_over (channel_at planned.config.downlink.side i).frames reader.cfn b a.0)
reading_one planned reader i (Read held) (Read again) good inside a b = record { again = again; is = refl; blocks = read_one planned reader i again held good inside b.1 a.1 }
reading_one planned reader i (Read held) (Bad frame) good inside a b = absurd (none_bad planned.config.downlink.side reader i held.format frame a.1.format.all b.1)
reading_one planned reader i (Bad frame) Nothing good inside a b = absurd (on_and_over (channel_at planned.config.downlink.side i).frames reader.cfn b a.0)
reading_one planned reader i (Bad frame) (Read held) good inside a b = absurd (none_bad planned.config.downlink.side reader i held.format frame b.1.format.all a.1)
reading_one planned reader i (Bad frame) (Bad bad) good inside a b = ap Bad (same_frame planned.config.downlink.side reader i frame bad a.1 b.1)

nothing_same : (reading other : Reading) → reading ≡ Nothing → other ≡ Nothing → ReadsSame reading other
nothing_same reading other a b = subst (λ (r : Reading). ReadsSame r other) (sym a) b

-- the radio frames with that of the CFN among them
pub frames_same : (old older : State) (k : ℕ) → older.cfn ≡ old.cfn → older.came ≡ old.came → older.frames k ≡ old.frames k → frames_now older k ≡ frames_now old k
frames_same old older k cfn came frames =
    ap (λ n. if k == n % 8 then older.came else older.frames k) cfn
    ∙ ap₂ (λ (c f : Option Radio). if k == old.cfn % 8 then c else f) came frames

ticks_one : (planned : Planned) (old new older newer : State) (output more : Output) → IsSide planned.config.downlink.side → older.cfn ≡ old.cfn → older.came ≡ old.came → ((k : ℕ) → older.frames k ≡ old.frames k)
    → IsTick planned old new output → IsTick planned older newer more → (i : ℕ) → ReadsSame (new.readings i) (newer.readings i)
ticks_one planned old new older newer output more good cfn came frames a b i = elim (leb_tells (length planned.config.downlink.side.channels) i) [
  | inl late ↦ nothing_same (new.readings i) (newer.readings i) (a.no_more i late.1) (b.no_more i late.1)
  | inr inside ↦ (
      let keep : KeepTheSame b.rx_frames a.rx_frames = heard_same planned Down older.cfn old.cfn (frames_now older) (frames_now old) b.rx_frames a.rx_frames (sym cfn) (λ k. sym (frames_same old older k cfn came (frames k))) b.kept a.kept in
      reading_one planned a.rx_frames i (new.readings i) (newer.readings i) good inside.1 (a.readings i inside.1) (read_alike planned b.rx_frames a.rx_frames i (newer.readings i) keep (b.readings i inside.1)))
]

-- the readings of a tick follow from the configuration, the CFN and the radio frames
pub tick_reading : (old new older newer : State) (output more : Output) → IsPlanned old.planned → older.planned ≡ old.planned → older.cfn ≡ old.cfn → older.came ≡ old.came → ((k : ℕ) → older.frames k ≡ old.frames k)
    → Steps old Tick new output → Steps older Tick newer more → (i : ℕ) → ReadsSame (new.readings i) (newer.readings i)
tick_reading old new older newer output more planned same cfn came frames a b =
    ticks_one old.planned old new older newer output more planned.good.downlink.side cfn came frames a (subst (λ (p : Planned). IsTick p older newer more) same b)
