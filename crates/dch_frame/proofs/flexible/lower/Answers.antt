use Rattle.std.proofs.Common.{◌≡◌, ◌<◌, ◌+◌, ℕ, true, false, min, length, ap, ap₂, sym, ◌∙◌, arith, below_more, inl, inr}
use Rattle.std.proofs.lemmas.Bool.{cases_eq, lt-ltb, le-ltb}
use Rattle.dch_types.specs.declared.channel.Side.{Side}
use Rattle.dch_types.specs.Limits.{IsSide}
use Rattle.dch_types.specs.Parts.{channel_at, format_number}
use Rattle.dch_types.specs.Sums.{total}
use Rattle.dch_types.proofs.Sums.{total-zero, total-more, total_same, part_le}
use Rattle.dch_frame.specs.Downlinks.{combined, exceeds, places_after}
use Rattle.dch_frame.specs.declared.places.Places.{Places}
use Rattle.dch_frame.specs.Places.{place_at, IsTable}
use Rattle.dch_frame.specs.Shares.{shared}
use Rattle.dch_frame.proofs.Lowered.{lowered_here, lowered_other, not_lowered}
use Rattle.dch_frame.proofs.SharesLemmas.{share_is}
use Rattle.dch_frame.proofs.flexible.lower.Goals as goal

-- the places of a combination that the table holds
placed_is : (side : Side) (table : Places) (ndata c : ℕ) → IsSide side → c < length side.combinations → IsTable side (places_after side ndata c) table → total (λ i. place_at table i (format_number side c i)) (length side.channels) ≡ total (λ i. places_after side ndata c i (format_number side c i)) (length side.channels)
placed_is side table ndata c good inside holds = total_same (λ i. place_at table i (format_number side c i)) (λ i. places_after side ndata c i (format_number side c i)) (length side.channels) (λ i channel. holds i (format_number side c i) channel ((good.combinations c inside).formats i channel))

pub returns-then-placed-ndata : goal.returns-then-placed-ndata
returns-then-placed-ndata c i f inside format =
    let side : Side = c.args.side.now in
    let k : ℕ = c.args.c in
    let ndata : ℕ = c.args.ndata in
    let fitting : exceeds (places_after side ndata k) side ndata k ≡ false = le-ltb ndata (total (λ i. places_after side ndata k i (format_number side k i)) (length side.channels)) (omega (arith, c.placed.ensures, placed_is side c.args.table.now ndata k c.requires.good c.requires.combination c.requires.before)) in
    c.requires.before i f inside format ∙ sym (not_lowered side ndata k i f fitting)

pub loop-i-init : goal.loop-i-init
loop-i-init c = record {
  held = sym (total-zero (combined c.args.side.now c.args.c));
  lowered = λ j f before inside. absurd (omega arith);
  waiting = λ j f from inside formats. c.requires.before j f inside formats;
}

pub share-most-requires-clause-part : goal.share-most-requires-clause-part
share-most-requires-clause-part c =
    omega (arith, c.combined-part.ensures.value, c.loop-i.invariant.held, c.whole_combined-weight.ensures.value, part_le (combined c.args.side.now c.args.c) c.loop-i.i (length c.args.side.now.channels) (omega arith))

pub overflow_add-held : goal.overflow_add-held
overflow_add-held c =
    omega (arith, c.combined-part.ensures.value, c.loop-i.invariant.held, c.whole_combined-weight.ensures.value, part_le (combined c.args.side.now c.args.c) c.loop-i.i (length c.args.side.now.channels) (omega arith))

pub loop-i-preserved : goal.loop-i-preserved
loop-i-preserved c =
    let side : Side = c.args.side.now in
    let i : ℕ = c.loop-i.i in
    let k : ℕ = c.args.c in
    let ndata : ℕ = c.args.ndata in
    let w : ℕ → ℕ = combined side k in
    let inside : i < length side.channels = omega arith in
    let number : ℕ = c.tfi-f.result in
    let share : c.share-most.result ≡ shared w (length side.channels) ndata i =
    c.share-most.ensures.value ∙ share_is w (length side.channels) ndata i c.loop-i.held c.combined-part.result c.whole_combined-weight.result c.loop-i.invariant.held c.combined-part.ensures.value c.whole_combined-weight.ensures.value in
    let exceeding : exceeds (places_after side ndata k) side ndata k ≡ true = lt-ltb ndata (total (λ i. places_after side ndata k i (format_number side k i)) (length side.channels)) (omega (arith, c.if-placed-ndata.false, c.placed.ensures, placed_is side c.args.table.now ndata k c.requires.good c.requires.combination c.requires.before)) in
    let old : c.at.result ≡ places_after side ndata k i number = c.at.ensures.value ∙ c.loop-i.invariant.waiting i number (omega arith) inside c.tfi-f.ensures.inside in
    let here : place_at c.put.new.self i number ≡ places_after side ndata (k + 1) i number = c.put.ensures.here ∙ c.min-places.ensures ∙ ap₂ min old share ∙ sym (lowered_here side ndata k i number exceeding (sym c.tfi-f.ensures.value)) in
    record {
      held = omega (arith, total-more w i, c.loop-i.invariant.held, c.combined-part.ensures.value);
      lowered = λ j f before format. below_more (λ j. (f : ℕ) → f < length (channel_at side j).formats → place_at c.put.new.self j f ≡ places_after side ndata (k + 1) j f) i
          (λ j less f format. c.put.ensures.same j f (inl (λ same. omega arith)) ∙ c.loop-i.invariant.lowered j f less format)
          (λ f format. elim (cases_eq f number) [
            | inl same ↦ ap (place_at c.put.new.self i) same ∙ here ∙ ap (places_after side ndata (k + 1) i) (sym same)
            | inr differ ↦ c.put.ensures.same i f (inr differ) ∙ c.loop-i.invariant.waiting i f (omega arith) inside format ∙ sym (lowered_other side ndata k i f (λ same. differ (sym same ∙ sym c.tfi-f.ensures.value)))
          ])
          j before f format;
      waiting = λ j f from channel format. c.put.ensures.same j f (inl (λ same. omega arith)) ∙ c.loop-i.invariant.waiting j f (omega arith) channel format;
    }
