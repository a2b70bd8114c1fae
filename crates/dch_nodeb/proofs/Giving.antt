-- The downlink channels that are loaded one after another.
use Rattle.std.proofs.Common.{◌≡◌, ◌≢◌, ◌+◌, ◌∙◌, ℕ, List, arith, sym, subst, inl, inr, true, false}
use Rattle.std.proofs.lemmas.Bool.Decides.{eqb_tells}
use Rattle.dch_types.specs.Parts.{channel_at}
use Rattle.dch_accept.specs.Blocks.{Held}
use Rattle.dch_accept.specs.HeldSets.{held_at}
use Rattle.dch_accept.specs.Plans.{Planned}
use Rattle.dch_tti.specs.Loaded.{Loaded}
use Rattle.dch_dlphy.specs.Loaded.{IsLoaded}
use Rattle.dch_types.specs.Timing.{starts}
use Rattle.dch_nodeb.specs.Moves.{AreGiven, IsGiven, IsUntouched, Loads}
use Rattle.dch_nodeb.specs.Values.{IubRxBuffer, DownlinkTransmitter, rx_buffer_at}

given_still : (planned : Planned) (i : ℕ) (held : Held) (now new : DownlinkTransmitter) → IsUntouched i now new → IsGiven planned i held now → IsGiven planned i held new
given_still planned i held now new same given = record {
  loaded = subst (λ (l : Loaded). IsLoaded planned i held.format held.bits l) (sym same.loaded) given.loaded;
  noted = same.noted ∙ given.noted;
}

untouched_on : (i : ℕ) (old now new : DownlinkTransmitter) → IsUntouched i old now → IsUntouched i now new → IsUntouched i old new
untouched_on i old now new first second = record { loaded = second.loaded ∙ first.loaded; noted = second.noted ∙ first.noted }

-- one more channel was loaded
pub given_on : (planned : Planned) (cfn i : ℕ) (rx_buffers : List IubRxBuffer) (held : Held) (old now new : DownlinkTransmitter) → AreGiven planned cfn i rx_buffers old now
    → starts (channel_at planned.config.downlink.side i).frames cfn ≡ true → held ≡ held_at (rx_buffer_at rx_buffers (channel_at planned.config.downlink.side i).set).held.blocks i
    → Loads planned i held now new → AreGiven planned cfn (i + 1) rx_buffers old new
given_on planned cfn i rx_buffers held old now new are on same loads =
    let side = planned.config.downlink.side in
    record {
      opened = loads.opened;
      on = λ k early starting. elim (eqb_tells k i) [
        | inl is ↦ subst (λ n. IsGiven planned n (held_at (rx_buffer_at rx_buffers (channel_at side n).set).held.blocks n) new) (sym is.1)
            (subst (λ (h : Held). IsGiven planned i h new) same loads.given)
        | inr other ↦ (let apart : k ≢ i = other.1 in given_still planned k (held_at (rx_buffer_at rx_buffers (channel_at side k).set).held.blocks k) now new (loads.others k apart) (are.on k (omega arith) starting))
      ];
      off = λ k early waiting. elim (eqb_tells k i) [
        | inl is ↦ (let clash : starts (channel_at side i).frames cfn ≡ false = subst (λ n. starts (channel_at side n).frames cfn ≡ false) is.1 waiting in absurd (cc (sym on ∙ clash)))
        | inr other ↦ (let apart : k ≢ i = other.1 in untouched_on k old now new (are.off k (omega arith) waiting) (loads.others k apart))
      ];
      later = λ k late. (let apart : k ≢ i = omega arith in untouched_on k old now new (are.later k (omega arith)) (loads.others k apart));
      sent = loads.sent ∙ are.sent;
    }

pub given_off : (planned : Planned) (cfn i : ℕ) (rx_buffers : List IubRxBuffer) (old now : DownlinkTransmitter) → AreGiven planned cfn i rx_buffers old now → starts (channel_at planned.config.downlink.side i).frames cfn ≡ false
    → AreGiven planned cfn (i + 1) rx_buffers old now
given_off planned cfn i rx_buffers old now are off =
    let side = planned.config.downlink.side in
    record {
      opened = are.opened;
      on = λ k early starting. elim (eqb_tells k i) [
        | inl is ↦ (let clash : starts (channel_at side i).frames cfn ≡ true = subst (λ n. starts (channel_at side n).frames cfn ≡ true) is.1 starting in absurd (cc (sym off ∙ clash)))
        | inr other ↦ (let apart : k ≢ i = other.1 in are.on k (omega arith) starting)
      ];
      off = λ k early waiting. elim (eqb_tells k i) [
        | inl is ↦ are.later k (omega (arith, is.1))
        | inr other ↦ (let apart : k ≢ i = other.1 in are.off k (omega arith) waiting)
      ];
      later = λ k late. are.later k (omega arith);
      sent = are.sent;
    }
