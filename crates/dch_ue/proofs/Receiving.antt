-- The TTIs of a receiver: as they are read and hidden.
use Rattle.std.proofs.Common.{◌≡◌, ◌≢◌, ◌+◌, ◌<◌, ◌∙◌, ℕ, List, length, get_or, arith, ap, sym, subst, inl, inr, Option, None, false, get_or-set_same, get_or-set_other}
use Rattle.std.specs.Prelude.{slice_set}
use Rattle.std.proofs.lemmas.Bool.Decides.{eqb_tells, leb_tells}
use Rattle.std.proofs.lemmas.List.{get_or_default, get_or_past, length-set}
use Rattle.dch_types.specs.declared.channel.Dir.TheVariants.{Down}
use Rattle.dch_types.specs.Parts.{channel_at}
use Rattle.dch_types.specs.Timing.{ends}
use Rattle.dch_accept.specs.Blocks.{HoldsTtis}
use Rattle.dch_accept.specs.Plans.{Planned}
use Rattle.dch_tti.specs.declared.outcome.TtiOutcome.{TtiOutcome}
use Rattle.dch_tti.specs.RxFrames.{IsReaderOf, RxFrames}
use Rattle.dch_ue.specs.Moves.{AreClearedTo, AreReadTo}
use Rattle.dch_ue.specs.Opened.{IsReceiverOf}
use Rattle.dch_ue.specs.Steps.{IsReading}
use Rattle.dch_ue.specs.Values.{DownlinkReceiver, RxTti, reading_if, reading_of, tti_at}

-- a TTI, whatever stands for one past the end
pub tti_in : (ttis : List RxTti) (i : ℕ) (other : RxTti) → i < length ttis → get_or ttis i other ≡ tti_at ttis i
tti_in ttis i other inside = get_or_default ttis i other _ inside

-- the TTI of one more channel ends, and is read
pub read_next : (planned : Planned) (rx_frames : RxFrames) (i : ℕ) (ttis : List RxTti) (new : RxTti) → AreReadTo planned rx_frames i ttis → i < length planned.config.downlink.side.channels
    → IsReading planned rx_frames i (reading_of new) → new.held.room ≡ (tti_at ttis i).held.room → AreReadTo planned rx_frames (i + 1) (slice_set ttis i new)
read_next planned rx_frames i ttis new are inside reading room =
    let own : tti_at (slice_set ttis i new) i ≡ new = get_or-set_same ttis i new _ (subst (λ n. i < n) (sym are.opened.all) inside) in
    record {
      opened = record {
        all = length-set ttis i new ∙ are.opened.all;
        each = λ k there. elim (eqb_tells k i) [
          | inl same ↦ subst (λ n. HoldsTtis planned.config.downlink.side (tti_at (slice_set ttis i new) n).held.room) (sym same.1)
              (subst (λ n. HoldsTtis planned.config.downlink.side n) (sym (ap (λ (t : RxTti). t.held.room) own ∙ room)) (are.opened.each i inside))
          | inr other ↦ subst (λ (t : RxTti). HoldsTtis planned.config.downlink.side t.held.room) (sym (get_or-set_other ttis i k new _ other.1)) (are.opened.each k there)
        ];
      };
      readings = λ k early. elim (eqb_tells k i) [
        | inl same ↦ subst (λ n. IsReading planned rx_frames n (reading_of (tti_at (slice_set ttis i new) n))) (sym same.1)
            (subst (λ (t : RxTti). IsReading planned rx_frames i (reading_of t)) (sym own) reading)
        | inr other ↦ (
            let apart : k ≢ i = other.1 in
            let less : k < i = omega arith in
            subst (λ (t : RxTti). IsReading planned rx_frames k (reading_of t)) (sym (get_or-set_other ttis i k new _ apart)) (are.readings k less))
      ];
      later = λ k late.
          let apart : k ≢ i = (λ (e : k ≡ i). omega (arith, late, e)) in
          ap (λ (t : RxTti). t.outcome) (get_or-set_other ttis i k new _ apart) ∙ are.later k (omega (arith, late));
    }

-- or goes on
pub read_skipped : (planned : Planned) (rx_frames : RxFrames) (i : ℕ) (ttis : List RxTti) → AreReadTo planned rx_frames i ttis → ends (channel_at planned.config.downlink.side i).frames rx_frames.cfn ≡ false
    → AreReadTo planned rx_frames (i + 1) ttis
read_skipped planned rx_frames i ttis are going = record {
  opened = are.opened;
  readings = λ k early. elim (eqb_tells k i) [
    | inl same ↦ subst (λ n. IsReading planned rx_frames n (reading_of (tti_at ttis n))) (sym same.1)
        (subst (λ (o : Option TtiOutcome). IsReading planned rx_frames i (reading_if o (tti_at ttis i).held)) (sym (are.later i (omega arith))) going)
    | inr other ↦ (let apart : k ≢ i = other.1 in are.readings k (omega arith))
  ];
  later = λ k late. are.later k (omega (arith, late));
}

-- after nothing is shown as read, that is so of each channel
pub nothing_read : (old new : List RxTti) → AreClearedTo (length old) old new → (i : ℕ) → (tti_at new i).outcome ≡ None
nothing_read old new cleared i = elim (leb_tells (length old) i) [
  | inl past ↦ ap (λ (t : RxTti). t.outcome) (cleared.later i past.1 ∙ get_or_past old i _ past.1)
  | inr inside ↦ ap (λ (t : RxTti). t.outcome) (cleared.each i inside.1)
]

-- and there is still room for the TTIs
pub cleared_opened : (planned : Planned) (old new : DownlinkReceiver) → IsReceiverOf planned old → AreClearedTo (length old.ttis) old.ttis new.ttis → new.rx_frames ≡ old.rx_frames → IsReceiverOf planned new
cleared_opened planned old new is cleared same = record {
  rx_frames = subst (λ (rx_frames : RxFrames). IsReaderOf planned Down rx_frames) (sym same) is.rx_frames;
  ttis = record {
    all = cleared.all ∙ is.ttis.all;
    each = λ i inside.
        subst (λ (t : RxTti). HoldsTtis planned.config.downlink.side t.held.room) (sym (cleared.each i (subst (λ n. i < n) (sym is.ttis.all) inside))) (is.ttis.each i inside);
  };
}
