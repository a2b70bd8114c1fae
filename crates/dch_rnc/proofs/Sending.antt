-- The sets whose Iub frames are sent one after another.
use Rattle.std.proofs.Common.{◌≡◌, ◌≢◌, ◌+◌, ◌<◌, ◌∙◌, ◌++◌, ℕ, zero, suc, List, length, arith, refl, ap, ap₂, sym, subst, inl, inr, true, false, Option, None, add-one, get_or-set_same, get_or-set_other}
use Rattle.std.specs.Prelude.{slice_set}
use Rattle.std.proofs.lemmas.Bool.Decides.{eqb_tells}
use Rattle.std.proofs.lemmas.List.{length-set}
use Rattle.dch_types.specs.declared.channel.Dir.TheVariants.{Down}
use Rattle.dch_types.specs.Timing.{set_frames, starts}
use Rattle.dch_accept.specs.HeldSets.{HeldSet}
use Rattle.dch_accept.specs.Plans.{Planned}
use Rattle.dch_indication.specs.Lines.{Line}
use Rattle.dch_indication.specs.Told.{Told}
use Rattle.dch_indication.proofs.Telling.{told_one, told-append}
use Rattle.dch_layer2.specs.Values.{LayerRunning}
use Rattle.dch_rnc.specs.Moves.{AreFilled, AreServed, Gives, Serves}
use Rattle.dch_rnc.specs.Steps.{sent_line, sent_lines}
use Rattle.dch_txframes.specs.Opened.{AreTxBuffersOf, IsTxBufferOf}
use Rattle.dch_txframes.specs.Sending.{SendsFrame, sent_of}
use Rattle.dch_txframes.specs.Values.{IubTxBuffer, tx_buffer_at}

-- the frame of a set was sent
pub set_sent : {S : Type 0} (shows : S → Line → S → Type 0) (planned : Planned) (cfn : ℕ) (v : LayerRunning) (set : ℕ) (old new : IubTxBuffer) (before after : S) → SendsFrame shows planned Down set cfn old new before after → AreFilled planned.config set v old.held
    → starts (set_frames planned.config.downlink.side set) cfn ≡ true → Serves shows planned cfn v set new before after
set_sent shows planned cfn v set old new before after sends filled on = record {
  opened = sends.opened;
  gives = subst (λ (o : Option (List ℕ)). Gives planned.config cfn v set o) (sym sends.sent)
      (on, record { held = new.held; filled = subst (λ (h : HeldSet). AreFilled planned.config set v h) (sym sends.held) filled; whole = sends.whole; written = sends.written });
  told = subst (λ (o : Option (List ℕ)). Told shows before (sent_line set o) after) (sym sends.sent) (told_one shows before after _ sends.shown);
}

-- or its TTI is on
pub set_waits : {S : Type 0} (shows : S → Line → S → Type 0) (planned : Planned) (cfn : ℕ) (v : LayerRunning) (set : ℕ) (tx_buffer : IubTxBuffer) (before : S) → IsTxBufferOf planned Down set tx_buffer → tx_buffer.sent ≡ None
    → starts (set_frames planned.config.downlink.side set) cfn ≡ false → Serves shows planned cfn v set tx_buffer before before
set_waits shows planned cfn v set tx_buffer before opened none off = record {
  opened = opened;
  gives = subst (λ (o : Option (List ℕ)). Gives planned.config cfn v set o) (sym none) off;
  told = subst (λ (o : Option (List ℕ)). Told shows before (sent_line set o) before) (sym none) refl;
}

-- lines on the same frames
pub sent_lines-same : (f g : ℕ → Option (List ℕ)) (n : ℕ) → ((s : ℕ) → s < n → f s ≡ g s) → sent_lines f n ≡ sent_lines g n
sent_lines-same f g zero same = refl
sent_lines-same f g (suc n) same =
    ap₂ (λ (a b : List Line). a ++ b) (sent_lines-same f g n (λ s early. same s (omega arith))) (ap (λ (o : Option (List ℕ)). sent_line n o) (same n (omega arith)))

-- one more set was served
pub served_next : {S : Type 0} (shows : S → Line → S → Type 0) (planned : Planned) (cfn : ℕ) (v : LayerRunning) (set : ℕ) (tx_buffers : List IubTxBuffer) (tx_buffer : IubTxBuffer) (before now after : S) → AreServed shows planned cfn v set tx_buffers before now → set < 8
    → Serves shows planned cfn v set tx_buffer now after → AreServed shows planned cfn v (set + 1) (slice_set tx_buffers set tx_buffer) before after
served_next shows planned cfn v set tx_buffers tx_buffer before now after are inside served =
    let new : List IubTxBuffer = slice_set tx_buffers set tx_buffer in
    let room : set < length tx_buffers = subst (λ n. set < n) (sym are.opened.all) inside in
    let own : tx_buffer_at new set ≡ tx_buffer = get_or-set_same tx_buffers set tx_buffer _ room in
    let others : (s : ℕ) → s ≢ set → tx_buffer_at new s ≡ tx_buffer_at tx_buffers s = (λ s other. get_or-set_other tx_buffers set s tx_buffer _ other) in
    let before_lines : sent_lines (sent_of new) set ≡ sent_lines (sent_of tx_buffers) set =
    sent_lines-same (sent_of new) (sent_of tx_buffers) set (λ s early. ap (λ (l : IubTxBuffer). l.sent) (others s (omega arith))) in
    let lines : sent_lines (sent_of new) (set + 1) ≡ sent_lines (sent_of tx_buffers) set ++ sent_line set tx_buffer.sent =
    rw add-one (ap₂ (λ (a b : List Line). a ++ b) before_lines (ap (λ (l : IubTxBuffer). sent_line set l.sent) own)) in
    record {
      opened = record {
        all = length-set tx_buffers set tx_buffer ∙ are.opened.all;
        each = λ s few. elim (eqb_tells s set) [
          | inl same ↦ subst (λ k. IsTxBufferOf planned Down k (tx_buffer_at new k)) (sym same.1) (subst (λ (l : IubTxBuffer). IsTxBufferOf planned Down set l) (sym own) served.opened)
          | inr other ↦ subst (λ (l : IubTxBuffer). IsTxBufferOf planned Down s l) (sym (others s other.1)) (are.opened.each s few)
        ];
      };
      sets = λ s early. elim (eqb_tells s set) [
        | inl same ↦ subst (λ k. Gives planned.config cfn v k (sent_of new k)) (sym same.1) (subst (λ (l : IubTxBuffer). Gives planned.config cfn v set l.sent) (sym own) served.gives)
        | inr other ↦ (let apart : s ≢ set = other.1 in subst (λ (l : IubTxBuffer). Gives planned.config cfn v s l.sent) (sym (others s apart)) (are.sets s (omega arith)))
      ];
      later = λ s late few. ap (λ (l : IubTxBuffer). l.sent) (others s (omega arith)) ∙ are.later s (omega arith) few;
      told = subst (λ (ls : List Line). Told shows before ls after) (sym lines) (told-append shows before now after (sent_lines (sent_of tx_buffers) set) (sent_line set tx_buffer.sent) are.told served.told);
    }

-- no set was served yet
pub none_served : {S : Type 0} (shows : S → Line → S → Type 0) (planned : Planned) (cfn : ℕ) (v : LayerRunning) (tx_buffers : List IubTxBuffer) (before : S) → AreTxBuffersOf planned Down tx_buffers → ((s : ℕ) → s < 8 → sent_of tx_buffers s ≡ None)
    → AreServed shows planned cfn v 0 tx_buffers before before
none_served shows planned cfn v tx_buffers before are quiet = record {
  opened = are;
  sets = λ s early. absurd (omega arith);
  later = λ s late few. quiet s few;
  told = refl;
}
