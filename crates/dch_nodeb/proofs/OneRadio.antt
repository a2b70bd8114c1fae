-- A state gives one downlink radio frame.
use Rattle.std.proofs.Common.{◌≡◌, ◌<◌, ◌∙◌, ℕ, length, arith, refl, ap, sym, subst, inl, inr, Option, Some, None}
use Rattle.std.proofs.lemmas.Bool.{cases_lt}
use Rattle.dch_accept.specs.Plans.{Planned}
use Rattle.dch_dlphy.specs.Frames.{IsFrame}
use Rattle.dch_dlphy.specs.Loaded.{IsLoaded}
use Rattle.dch_dlphy.proofs.One.{loaded_one}
use Rattle.dch_dlphy.proofs.OneFrame.{frame_same}
use Rattle.dch_tti.specs.Loaded.{loaded_at}
use Rattle.dch_node.specs.Values.{Blocks, Radio}
use Rattle.dch_nodeb.specs.State.{State}
use Rattle.dch_nodeb.specs.Steps.{AreRunning, IsRadio, IsRadioFrame}

-- the channels run the same blocks
abbrev RunTheSame : Planned → State → State → Type 0
RunTheSame planned new newer = (i : ℕ) → i < length planned.config.downlink.side.channels → newer.given i ≡ new.given i

running_back : (planned : Planned) (new newer : State) (c : ℕ) → RunTheSame planned new newer → AreRunning planned.config.downlink.side c newer.given → AreRunning planned.config.downlink.side c new.given
running_back planned new newer c same running i inside = ap (λ (b : Blocks). b.format) (sym (same i inside)) ∙ running i inside

running_on : (planned : Planned) (new newer : State) (c : ℕ) → RunTheSame planned new newer → AreRunning planned.config.downlink.side c new.given → AreRunning planned.config.downlink.side c newer.given
running_on planned new newer c same running i inside = ap (λ (b : Blocks). b.format) (same i inside) ∙ running i inside

-- the first combination with the formats that run is one
first_one : (planned : Planned) (new newer : State) (one other : Radio) → RunTheSame planned new newer → (a : IsRadioFrame planned new one) → (b : IsRadioFrame planned newer other) → b.combination ≡ a.combination
first_one planned new newer one other same a b = elim (cases_lt a.combination b.combination) [
  | inl early ↦ absurd (b.first a.combination early (running_on planned new newer a.combination same a.formats))
  | inr late ↦ elim (cases_lt b.combination a.combination) [
    | inl early ↦ absurd (a.first b.combination early (running_back planned new newer b.combination same b.formats))
    | inr both ↦ omega (arith, late, both)
  ]
]

frame_one : (planned : Planned) (new newer : State) (one other : Radio) → newer.cfn ≡ new.cfn → RunTheSame planned new newer → IsRadioFrame planned new one → IsRadioFrame planned newer other → other ≡ one
frame_one planned new newer one other cfn same a b =
    let loaded : (i : ℕ) → i < length planned.config.downlink.side.channels → loaded_at b.tti i ≡ loaded_at a.tti i = λ i inside.
    loaded_one planned i (new.given i).format (new.given i).bits (loaded_at b.tti i) (loaded_at a.tti i)
    (subst (λ (g : Blocks). IsLoaded planned i g.format g.bits (loaded_at b.tti i)) (same i inside) (b.loaded i inside)) (a.loaded i inside) in
    let there : IsFrame planned b.tti new.cfn a.combination b.frame =
    subst (λ n. IsFrame planned b.tti n a.combination b.frame) cfn (subst (λ c. IsFrame planned b.tti newer.cfn c b.frame) (first_one planned new newer one other same a b) b.written) in
    let frames = frame_same planned b.tti a.tti new.cfn a.combination b.frame a.frame loaded there a.written in
    let tfci : other.tfci ≡ one.tfci = b.tfci ∙ frames.0 ∙ sym a.tfci in
    let cells : other.cells ≡ one.cells = b.cells ∙ frames.1 ∙ sym a.cells in
    λ t. record { tfci = tfci t; cells = cells t }

-- states that run the same at one CFN give one radio frame, or none
pub radio_one : (planned : Planned) (new newer : State) (sent other : Option Radio) → newer.cfn ≡ new.cfn → RunTheSame planned new newer → IsRadio planned new sent → IsRadio planned newer other → other ≡ sent
radio_one planned new newer None None cfn same a b = refl
radio_one planned new newer None (Some other) cfn same a b = absurd (a b.combination b.listed (running_back planned new newer b.combination same b.formats))
radio_one planned new newer (Some one) None cfn same a b = absurd (b a.combination a.listed (running_on planned new newer a.combination same a.formats))
radio_one planned new newer (Some one) (Some other) cfn same a b = ap (λ (r : Radio). Some r) (frame_one planned new newer one other cfn same a b)
