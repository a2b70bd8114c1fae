-- A TTI whose radio frames are kept in the combinations in which they were written, with few cells changed.
use Rattle.std.specs.Prelude.{ℕ, List}
use Rattle.dch_bits.specs.declared.bit.Bit.{Bit}
use Rattle.dch_frame.specs.Patterns.{copies, copies_below}
use Rattle.dch_accept.specs.Plans.{Planned}
use Rattle.dch_tti.specs.Damaged.{AreFewChanged, AreSameCombinations, changed_among}
use Rattle.dch_tti.specs.RxFrames.{RxFrames}
use Rattle.dch_dlphy.specs.Loaded.{tti_cells}
use Rattle.dch_dlphy.specs.Read.{tti_cell, tti_pattern}
use Rattle.dch_dlphy.specs.Sent.{WasSent}

-- the changes among the cells of coded bit j of a TTI in format f
abbrev pub tti_changes : Planned → ℕ → ℕ → RxFrames → RxFrames → ℕ → ℕ
tti_changes planned i f sent received j =
    let kind = (tti_pattern planned i f).kind in
    let len = tti_cells planned i f in
    changed_among (tti_cell planned sent i len) (tti_cell planned received i len) (copies_below kind j) (copies kind j)

-- blocks were sent, and the radio frames of their TTI are kept in their combinations, with few cells changed
pub record WasDamaged (planned : Planned) (reader : RxFrames) (i f : ℕ) (blocks : List Bit) : Type 0 where
  pub sent : RxFrames
  pub was : WasSent planned sent i f blocks
  pub combinations : AreSameCombinations planned.config.downlink.side i sent reader
  pub few : AreFewChanged planned.config.downlink.side i f (copies (tti_pattern planned i f).kind)
      (tti_changes planned i f sent reader)
