-- The frames in receive buffers.
use Rattle.std.proofs.Common.{rules, ◌≡◌, ◌<◌, ◌≤◌, ℕ, List, length, refl, ap, inl, inr, Option, Some, None, false, get_or}
use Rattle.std.specs.Prelude.{IsSome}
use Rattle.std.proofs.lemmas.Bool.{cases_lt}
use Rattle.std.proofs.lemmas.List.{get_or_default, get_or_past}
use Rattle.dch_accept.specs.Blocks.{Held}
use Rattle.dch_accept.specs.HeldSets.{HeldSet, held_at}
use Rattle.dch_combine.specs.declared.leg.LegBuffer.{LegBuffer}
use Rattle.dch_combine.specs.Combined.{IsGoodBlock}
use Rattle.dch_combine.specs.Legs.{LegFrame, blocks_in}
use Rattle.dch_combine.specs.Values.{frame_if, frames_in, leg_at}

-- a fact holds of no number
pub of_none : (P : ℕ → Type 0) (n : ℕ) → ((j : ℕ) → j < n → ¬ P j) → ((j : ℕ) → n ≤ j → ¬ P j) → (j : ℕ) → ¬ P j
of_none P n before past j = elim (cases_lt j n) [ inl less ↦ before j less | inr more ↦ past j more ]

-- the receive buffer of a leg that is there, whatever stands for one past the end
pub leg_here : (legs : List LegBuffer) (k : ℕ) (other : LegBuffer) → k < length legs → get_or legs k other ≡ leg_at legs k
leg_here legs k other inside = get_or_default legs k other _ inside

-- a leg that isn't there has no frame
pub no_leg : (legs : List LegBuffer) (k : ℕ) → length legs ≤ k → frames_in legs k ≡ None
no_leg legs k past = ap (λ (buffer : LegBuffer). frame_if buffer.qe buffer.blocks) (get_or_past legs k _ past)

-- no block is good where there is none; and one that is good is there
pub no_good : (i b : ℕ) → ¬ IsGoodBlock (blocks_in None i) b
no_good i b good = absurd (cc)

pub good_inside : (held : Held) (b : ℕ) → IsGoodBlock held b → b < length held.good
good_inside held b good = elim (cases_lt b (length held.good)) [
  | inl there ↦ there
  | inr past ↦ (let none : get_or held.good b false ≡ false = get_or_past held.good b false past in absurd (cc))
]

-- the blocks of channel i in a receive buffer with a frame
pub blocks_here : (qe : Option ℕ) (held : HeldSet) (i : ℕ) → IsSome (frame_if qe held) → blocks_in (frame_if qe held) i ≡ held_at held.blocks i
blocks_here None held i some = absurd (search rules)
blocks_here (Some qe) held i some = refl

-- a leg with a good block has a frame
pub good_frame : (leg : Option LegFrame) (i b : ℕ) → IsGoodBlock (blocks_in leg i) b → IsSome leg
good_frame None i b good = absurd (no_good i b good)
good_frame (Some frame) i b good = search rules
