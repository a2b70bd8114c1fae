-- What is kept of radio frames that came is the same as far as a reader looks.
use Rattle.std.proofs.Common.{◌≡◌, ◌<◌, ◌∙◌, ℕ, Option, Some, None, sym, subst}
use Rattle.dch_types.specs.declared.channel.Dir.{Dir}
use Rattle.dch_accept.specs.Plans.{Planned}
use Rattle.dch_tti.specs.RxFrames.{RxFrame, RxFrames, rx_frame_at}
use Rattle.dch_tti.proofs.Alike.{KeepTheSame}
use Rattle.dch_tti.proofs.OneReading.{kept_one}
use Rattle.dch_node.specs.RxFrames.{AreHeard, KeepsRadio}
use Rattle.dch_node.specs.Values.{Radio}

radio_combination : (planned : Planned) (dir : Dir) (frame : Option Radio) (one other : RxFrame) → KeepsRadio planned dir frame one → KeepsRadio planned dir frame other → other.combination ≡ one.combination
radio_combination planned dir None one other a b = b ∙ sym a
radio_combination planned dir (Some radio) one other a b = sym (kept_one planned dir radio.tfci radio.cells one other a b).0

radio_cells : (planned : Planned) (dir : Dir) (frame : Option Radio) (one other : RxFrame) (c : ℕ) → KeepsRadio planned dir frame one → KeepsRadio planned dir frame other → one.combination ≡ Some c → other.cells ≡ one.cells
radio_cells planned dir None one other c a b found = absurd (let both : None ≡ Some c = sym a ∙ found in cc)
radio_cells planned dir (Some radio) one other c a b found = sym ((kept_one planned dir radio.tfci radio.cells one other a b).1 c found)

-- the same radio frames were heard
pub heard_same : (planned : Planned) (dir : Dir) (cfn other_cfn : ℕ) (frames others : ℕ → Option Radio) (one other : RxFrames) → other_cfn ≡ cfn → ((k : ℕ) → others k ≡ frames k)
    → AreHeard planned dir cfn frames one → AreHeard planned dir other_cfn others other → KeepTheSame one other
heard_same planned dir cfn other_cfn frames others one other same alike a b =
    let there : (k : ℕ) → k < 8 → KeepsRadio planned dir (frames k) (rx_frame_at other.frames k) = λ k inside. subst (λ (f : Option Radio). KeepsRadio planned dir f (rx_frame_at other.frames k)) (alike k) (b.kept k inside) in record {
      cfn = b.last ∙ same ∙ sym a.last;
      combination = λ k inside. radio_combination planned dir (frames k) (rx_frame_at one.frames k) (rx_frame_at other.frames k) (a.kept k inside) (there k inside);
      cells = λ k c inside found. radio_cells planned dir (frames k) (rx_frame_at one.frames k) (rx_frame_at other.frames k) c (a.kept k inside) (there k inside) found;
    }
