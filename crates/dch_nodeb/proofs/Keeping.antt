-- The receive buffers of the sets, one of which is written.
use Rattle.std.proofs.Common.{◌≡◌, ◌≢◌, ◌+◌, ◌<◌, ◌∙◌, ◌++◌, ℕ, List, [], length, arith, refl, ap, sym, subst, inl, inr, true, false, Option, Some, None, get_or, ◌∷◌, length-append, get_or-set_same, get_or-set_other}
use Rattle.std.specs.Prelude.{slice_set}
use Rattle.std.proofs.lemmas.Bool.Decides.{eqb_tells}
use Rattle.std.proofs.lemmas.List.{get_or_append_left, get_or_default, get_or_push, length-set}
use Rattle.dch_types.specs.declared.channel.Dir.TheVariants.{Down}
use Rattle.dch_types.specs.declared.config.Config.{Config}
use Rattle.dch_accept.specs.HeldSets.{HeldSet, IsIdleSet, IsSetOf}
use Rattle.dch_accept.specs.Plans.{Planned}
use Rattle.dch_iub.specs.Answers.{IsCause}
use Rattle.dch_iub.specs.declared.error.IubError.{IubError}
use Rattle.dch_indication.specs.Lines.{IubBad, Line}
use Rattle.dch_indication.proofs.Telling.{told_one}
use Rattle.dch_node.specs.IubFrames.{refusal_number}
use Rattle.dch_nodeb.specs.Moves.{AreReady, IsFilled, IsReady, Keeps}
use Rattle.dch_nodeb.specs.Opened.{AreNewRxBuffers, AreRxBuffersOf}
use Rattle.dch_types.specs.Timing.{set_frames, starts}
use Rattle.dch_nodeb.specs.Values.{IubRxBuffer, rx_buffer_at}

own_place : (planned : Planned) (rx_buffers : List IubRxBuffer) (set : ℕ) (new : IubRxBuffer) → AreRxBuffersOf planned rx_buffers → set < 8 → rx_buffer_at (slice_set rx_buffers set new) set ≡ new
own_place planned rx_buffers set new are few =
    let inside : set < length rx_buffers = subst (λ n. set < n) (sym are.all) few in
    get_or-set_same rx_buffers set new _ inside

other_place : (rx_buffers : List IubRxBuffer) (set s : ℕ) (new : IubRxBuffer) → s ≢ set → rx_buffer_at (slice_set rx_buffers set new) s ≡ rx_buffer_at rx_buffers s
other_place rx_buffers set s new other = get_or-set_other rx_buffers set s new _ other

still_places : (planned : Planned) (rx_buffers : List IubRxBuffer) (set : ℕ) (new : IubRxBuffer) → AreRxBuffersOf planned rx_buffers → set < 8 → IsSetOf planned.config Down set new.held → AreRxBuffersOf planned (slice_set rx_buffers set new)
still_places planned rx_buffers set new are few is = record {
  all = length-set rx_buffers set new ∙ are.all;
  each = λ s inside. elim (eqb_tells s set) [
    | inl same ↦ subst (λ k. IsSetOf planned.config Down k (rx_buffer_at (slice_set rx_buffers set new) k).held) (sym same.1)
        (subst (λ (p : IubRxBuffer). IsSetOf planned.config Down set p.held) (sym (own_place planned rx_buffers set new are few)) is)
    | inr other ↦ subst (λ (p : IubRxBuffer). IsSetOf planned.config Down s p.held) (sym (other_place rx_buffers set s new other.1)) (are.each s inside)
  ];
}

-- a frame was read into the receive buffer of its set
pub taken_keeps : {S : Type 0} (shows : S → Line → S → Type 0) (planned : Planned) (set at : ℕ) (octets : List ℕ) (rx_buffers : List IubRxBuffer) (new : IubRxBuffer) (before : S) → at ≡ set → set < 8 → AreRxBuffersOf planned rx_buffers
    → IsSetOf planned.config Down set new.held → IsFilled planned set octets new → Keeps shows planned set octets rx_buffers (slice_set rx_buffers at new) before before
taken_keeps shows planned set at octets rx_buffers new before same few are is filled =
    let held : Keeps shows planned set octets rx_buffers (slice_set rx_buffers set new) before before = record {
      opened = still_places planned rx_buffers set new are few is;
      others = λ s other. other_place rx_buffers set s new other;
      lines = [];
      took = inl (record { filled = subst (λ (p : IubRxBuffer). IsFilled planned set octets p) (sym (own_place planned rx_buffers set new are few)) filled; quiet = refl });
      told = refl;
    } in
    subst (λ n. Keeps shows planned set octets rx_buffers (slice_set rx_buffers n new) before before) (sym same) held

-- a frame was refused, and the receive buffer of its set is as it was
pub refused_keeps : {S : Type 0} (shows : S → Line → S → Type 0) (planned : Planned) (set at : ℕ) (octets : List ℕ) (rx_buffers : List IubRxBuffer) (error : IubError) (old new : IubRxBuffer) (before after : S) → at ≡ set → set < 8 → AreRxBuffersOf planned rx_buffers
    → old ≡ rx_buffer_at rx_buffers set → new ≡ old → IsCause planned.config Down set octets error
    → shows before (IubBad Down set (refusal_number error)) after → Keeps shows planned set octets rx_buffers (slice_set rx_buffers at new) before after
refused_keeps shows planned set at octets rx_buffers error old new before after place few are own same cause shown =
    let still : new ≡ rx_buffer_at rx_buffers set = same ∙ own in
    let held : Keeps shows planned set octets rx_buffers (slice_set rx_buffers set new) before after = record {
      opened = still_places planned rx_buffers set new are few (subst (λ (p : IubRxBuffer). IsSetOf planned.config Down set p.held) (sym still) (are.each set few));
      others = λ s other. other_place rx_buffers set s new other;
      lines = IubBad Down set (refusal_number error) ∷ [];
      took = inr (record { error = error; cause = cause; same = own_place planned rx_buffers set new are few ∙ still; reported = refl });
      told = told_one shows before after _ shown;
    } in
    subst (λ n. Keeps shows planned set octets rx_buffers (slice_set rx_buffers n new) before after) (sym place) held

-- a receive buffer that is ready is still one of its set
ready_set : (config : Config) (cfn set : ℕ) (held : HeldSet) (kept : Option ℕ) (new : IubRxBuffer) → IsReady cfn (record { cfn = kept; held = held }) new → IsSetOf config Down set held → IsSetOf config Down set new.held
ready_set config cfn set held None new ready is = (ready.other (λ (e : None ≡ Some cfn). cc) config set is).opened
ready_set config cfn set held (Some n) new ready is = elim (eqb_tells n cfn) [
  | inl same ↦ subst (λ (h : HeldSet). IsSetOf config Down set h) (sym (ready.fits (ap (λ k. Some k) same.1))) is
  | inr other ↦ (ready.other (λ (e : Some n ≡ Some cfn). other.1 (cc)) config set is).opened
]

-- one more receive buffer was made ready
pub ready_on : (planned : Planned) (cfn s : ℕ) (old now : List IubRxBuffer) (new : IubRxBuffer) → AreReady planned cfn s old now → s < 8 → starts (set_frames planned.config.downlink.side s) cfn ≡ true
    → IsReady cfn (rx_buffer_at now s) new → AreReady planned cfn (s + 1) old (slice_set now s new)
ready_on planned cfn s old now new are few on ready =
    let own : rx_buffer_at (slice_set now s new) s ≡ new = own_place planned now s new are.opened few in
    let was : rx_buffer_at now s ≡ rx_buffer_at old s = are.later s (omega arith) in
    let here : IsReady cfn (rx_buffer_at old s) (rx_buffer_at (slice_set now s new) s) =
    subst (λ (p : IubRxBuffer). IsReady cfn p (rx_buffer_at (slice_set now s new) s)) was (subst (λ (p : IubRxBuffer). IsReady cfn (rx_buffer_at now s) p) (sym own) ready) in
    record {
      opened = still_places planned now s new are.opened few (ready_set planned.config cfn s (rx_buffer_at now s).held (rx_buffer_at now s).cfn new ready (are.opened.each s few));
      on = λ k early starting. elim (eqb_tells k s) [
        | inl same ↦ subst (λ n. IsReady cfn (rx_buffer_at old n) (rx_buffer_at (slice_set now s new) n)) (sym same.1) here
        | inr other ↦ (let apart : k ≢ s = other.1 in subst (λ (p : IubRxBuffer). IsReady cfn (rx_buffer_at old k) p) (sym (other_place now s k new apart)) (are.on k (omega arith) starting))
      ];
      off = λ k early waiting. elim (eqb_tells k s) [
        | inl same ↦ (let clash : starts (set_frames planned.config.downlink.side s) cfn ≡ false = subst (λ n. starts (set_frames planned.config.downlink.side n) cfn ≡ false) same.1 waiting in absurd (cc (sym on ∙ clash)))
        | inr other ↦ (let apart : k ≢ s = other.1 in other_place now s k new apart ∙ are.off k (omega arith) waiting)
      ];
      later = λ k late. (let apart : k ≢ s = omega arith in other_place now s k new apart ∙ are.later k (omega arith));
    }

pub ready_off : (planned : Planned) (cfn s : ℕ) (old now : List IubRxBuffer) → AreReady planned cfn s old now → starts (set_frames planned.config.downlink.side s) cfn ≡ false → AreReady planned cfn (s + 1) old now
ready_off planned cfn s old now are off = record {
  opened = are.opened;
  on = λ k early starting. elim (eqb_tells k s) [
    | inl same ↦ (let clash : starts (set_frames planned.config.downlink.side s) cfn ≡ true = subst (λ n. starts (set_frames planned.config.downlink.side n) cfn ≡ true) same.1 starting in absurd (cc (sym off ∙ clash)))
    | inr other ↦ (let apart : k ≢ s = other.1 in are.on k (omega arith) starting)
  ];
  off = λ k early waiting. elim (eqb_tells k s) [
    | inl same ↦ are.later k (omega (arith, same.1))
    | inr other ↦ (let apart : k ≢ s = other.1 in are.off k (omega arith) waiting)
  ];
  later = λ k late. are.later k (omega arith);
}

-- a receive buffer that is written, whatever stands for one past the end
pub place_in : (planned : Planned) (rx_buffers : List IubRxBuffer) (at set : ℕ) (other : IubRxBuffer) → AreRxBuffersOf planned rx_buffers → at ≡ set → set < 8 → get_or rx_buffers at other ≡ rx_buffer_at rx_buffers set
place_in planned rx_buffers at set other are same few =
    let inside : at < length rx_buffers = omega (arith, same, few, are.all) in
    get_or_default rx_buffers at other _ inside ∙ ap (λ n. rx_buffer_at rx_buffers n) same

-- a new receive buffer at the end
pub new_place : (planned : Planned) (count : ℕ) (rx_buffers : List IubRxBuffer) (rx_buffer : IubRxBuffer) → AreNewRxBuffers planned count rx_buffers → rx_buffer.cfn ≡ None → IsIdleSet planned.config Down count rx_buffer.held
    → AreNewRxBuffers planned (count + 1) (rx_buffers ++ rx_buffer ∷ [])
new_place planned count rx_buffers rx_buffer are empty idle =
    let own : rx_buffer_at (rx_buffers ++ rx_buffer ∷ []) count ≡ rx_buffer = get_or_push rx_buffers rx_buffer _ count are.all in
    let others : (s : ℕ) → s < count → rx_buffer_at (rx_buffers ++ rx_buffer ∷ []) s ≡ rx_buffer_at rx_buffers s =
    (λ s early. get_or_append_left rx_buffers (rx_buffer ∷ []) _ s (omega (arith, are.all))) in
    record {
      all = omega (arith, length-append rx_buffers (rx_buffer ∷ []), are.all);
      empty = λ s early. elim (eqb_tells s count) [
        | inl same ↦ ap (λ n. (rx_buffer_at (rx_buffers ++ rx_buffer ∷ []) n).cfn) same.1 ∙ ap (λ (p : IubRxBuffer). p.cfn) own ∙ empty
        | inr other ↦ (let apart : s ≢ count = other.1 in let less : s < count = omega arith in ap (λ (p : IubRxBuffer). p.cfn) (others s less) ∙ are.empty s less)
      ];
      idle = λ s early. elim (eqb_tells s count) [
        | inl same ↦ subst (λ n. IsIdleSet planned.config Down n (rx_buffer_at (rx_buffers ++ rx_buffer ∷ []) n).held) (sym same.1) (subst (λ (p : IubRxBuffer). IsIdleSet planned.config Down count p.held) (sym own) idle)
        | inr other ↦ (let apart : s ≢ count = other.1 in let less : s < count = omega arith in subst (λ (p : IubRxBuffer). IsIdleSet planned.config Down s p.held) (sym (others s less)) (are.idle s less))
      ];
    }
