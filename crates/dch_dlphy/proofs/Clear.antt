-- No two code blocks of a TTI that is kept as it was sent are made one by rate matching.
use Rattle.std.proofs.Common.{◌≡◌, ◌<◌, ℕ, List, length, replicate, arith, ap, sym, ◌∙◌, subst}
use Rattle.std.specs.Prelude.{slice_index}
use Rattle.std.proofs.lemmas.List.{get_or-replicate, length-replicate}
use Rattle.dch_bits.specs.declared.bit.Bit.{Bit}
use Rattle.dch_types.specs.declared.channel.Dir.TheVariants.{Down}
use Rattle.dch_types.specs.declared.channel.Side.{Side}
use Rattle.dch_types.specs.Limits.{IsDownlink, IsFrames}
use Rattle.dch_types.specs.Parts.{channel_at, format_number}
use Rattle.dch_frame.specs.declared.pattern.Pattern.{Pattern}
use Rattle.dch_frame.specs.Downlinks.{IsDownlinkPlan}
use Rattle.dch_frame.specs.Patterns.{copies}
use Rattle.dch_collision.specs.Sequences.{IsLegal}
use Rattle.dch_collision.specs.Clear.{HasNoCollision, IsClear, joined_in}
use Rattle.dch_accept.specs.Plans.{Planned}
use Rattle.dch_tti.specs.RxFrames.{RxFrames}
use Rattle.dch_tti.proofs.Sent.{sent_number}
use Rattle.dch_dlphy.specs.Frames.{multiplexed}
use Rattle.dch_dlphy.specs.Read.{tti_pattern}
use Rattle.dch_dlphy.specs.Sent.{IsSentTti}
use Rattle.dch_dlphy.proofs.Arrived.{IsListed}

-- one combination in all radio frames
all_one : (n c k : ℕ) → k < n → slice_index (replicate n c) k ≡ c
all_one n c k inside = get_or-replicate n k c 0 inside

-- is a legal sequence
one_legal : (side : Side) (i f c : ℕ) → c < length side.combinations → format_number side c i ≡ f → IsLegal side i f (replicate (channel_at side i).frames c)
one_legal side i f c listed format =
    let frames : ℕ = (channel_at side i).frames in
    let long : length (replicate frames c) ≡ frames = length-replicate frames c in
    let here : (n : ℕ) → n < length (replicate frames c) → slice_index (replicate frames c) n ≡ c = λ n inside. all_one frames c n (omega (arith, inside, long)) in
    record {
      whole = long;
      there = λ n inside. subst (λ c. c < length side.combinations) (sym (here n inside)) listed;
      format = λ n inside. ap (λ c. format_number side c i) (here n inside) ∙ format;
      constant = λ j n m channel inside within same. ap (λ c. format_number side c j) (here n inside ∙ sym (here m within));
    }

-- so the format is one of those that acceptance looked at
pub downlink_clear : (planned : Planned) (reader : RxFrames) (i f : ℕ) (sequence : List ℕ) (blocks : List Bit) → IsDownlink planned.config.downlink → IsDownlinkPlan planned.config.downlink planned.downlink → IsListed planned i sequence → i < length planned.config.downlink.side.channels
    → IsSentTti planned reader i f sequence blocks → IsClear planned.config → HasNoCollision (channel_at planned.config.downlink.side i).coding (joined_in planned.config.downlink.side i f) (copies (tti_pattern planned i f).kind)
downlink_clear planned reader i f sequence blocks good plan listing channel sent clear =
    let side : Side = planned.config.downlink.side in
    let frames : ℕ = (channel_at side i).frames in
    let is : IsFrames frames = (good.side.channels i channel).frames in
    let frame = sent.frames 0 (omega (arith, is)) in
    let c : ℕ = slice_index sequence 0 in
    let listed : c < length side.combinations = listing 0 (omega (arith, is)) in
    let format : format_number side c i ≡ f = sent_number planned Down (multiplexed planned) i f 0 c sent.loaded _ frame sent.from.format channel in
    let there : f < length (channel_at side i).formats = subst (λ f. f < length (channel_at side i).formats) format ((good.side.combinations c listed).formats i channel) in
    subst (λ (pattern : Pattern). HasNoCollision (channel_at side i).coding (joined_in side i f) (copies pattern.kind)) (sym ((plan.rows i channel).matchings f there).pattern)
    (clear.down i channel f (replicate frames c) (one_legal side i f c listed format))
