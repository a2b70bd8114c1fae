-- The sets that are served one after another.
use Rattle.std.proofs.Common.{◌≡◌, ◌≢◌, ◌+◌, ◌<◌, ◌∙◌, ◌++◌, ℕ, zero, suc, List, [], length, arith, refl, ap, ap₂, sym, subst, inl, inr, true, eq-eqb, add-one, get_or-set_same, get_or-set_other, None, ◌∷◌}
use Rattle.std.proofs.lemmas.List.{length-set}
use Rattle.dch_types.specs.declared.channel.Dir.TheVariants.{Up}
use Rattle.dch_accept.specs.HeldSets.{HeldSet}
use Rattle.dch_iub.specs.Forms.{IsWrittenForm}
use Rattle.dch_types.specs.Timing.{ends, set_frames, started}
use Rattle.std.specs.Prelude.{◌==◌, if◌then◌else◌, slice_set}
use Rattle.std.proofs.lemmas.Bool.Decides.{eqb_tells}
use Rattle.dch_accept.specs.Plans.{Planned}
use Rattle.dch_tti.specs.RxFrames.{RxFrames}
use Rattle.dch_indication.specs.Told.{Told}
use Rattle.dch_indication.proofs.Telling.{told_one, told-append}
use Rattle.dch_txframes.specs.Opened.{AreTxBuffersOf, IsTxBufferOf}
use Rattle.dch_txframes.specs.Sending.{SendsFrame}
use Rattle.dch_txframes.specs.Values.{IubTxBuffer, tx_buffer_at}
use Rattle.dch_node.specs.Lines.{BadTti, Iub, Line, joined}
use Rattle.dch_nodeb.specs.Moves.{AreDelivered, Delivered}
use Rattle.dch_nodeb.specs.Opened.{IsReceiverOf}
use Rattle.dch_nodeb.specs.Steps.{AreRead, DeliversSet, IsBadTti}
use Rattle.dch_nodeb.specs.Values.{UplinkReceiver}

-- the lines with other ones for a set
with_lines : (ℕ → List Line) → ℕ → List Line → ℕ → List Line
with_lines all set lines s = if s == set then lines else all s

with_lines-here : (all : ℕ → List Line) (set : ℕ) (lines : List Line) → with_lines all set lines set ≡ lines
unfolding with_lines
with_lines-here all set lines = rw (eq-eqb set set refl) refl

with_lines-other : (all : ℕ → List Line) (set : ℕ) (lines : List Line) (s : ℕ) → s ≢ set → with_lines all set lines s ≡ all s
unfolding with_lines
with_lines-other all set lines s other = elim (eqb_tells s set) [
  | inl same ↦ absurd (other same.1)
  | inr is ↦ rw is.0 refl
]

-- lines that are the same
joined-same : (f g : ℕ → List Line) (n : ℕ) → ((s : ℕ) → s < n → f s ≡ g s) → joined f n ≡ joined g n
joined-same f g zero same = refl
joined-same f g (suc n) same = ap₂ (λ (a b : List Line). a ++ b) (joined-same f g n (λ s early. same s (omega arith))) (same n (omega arith))

joined-next : (all : ℕ → List Line) (set : ℕ) (lines : List Line) → joined (with_lines all set lines) (set + 1) ≡ joined all set ++ lines
joined-next all set lines =
    rw add-one (ap₂ (λ (a b : List Line). a ++ b)
    (joined-same (with_lines all set lines) all set (λ s early. with_lines-other all set lines s (omega arith)))
    (with_lines-here all set lines))

-- one more set was served
pub served_next : {S : Type 0} (shows : S → Line → S → Type 0) (planned : Planned) (rx_frames : RxFrames) (set : ℕ) (tx_buffers : List IubTxBuffer) (tx_buffer : IubTxBuffer) (receiver next : UplinkReceiver) (before now after : S)
    → AreDelivered shows planned rx_frames set tx_buffers receiver before now → set < 8 → Delivered shows planned rx_frames set tx_buffer next now after
    → AreDelivered shows planned rx_frames (set + 1) (slice_set tx_buffers set tx_buffer) next before after
served_next shows planned rx_frames set tx_buffers tx_buffer receiver next before now after are inside served =
    let new : List IubTxBuffer = slice_set tx_buffers set tx_buffer in
    let room : set < length tx_buffers = subst (λ n. set < n) (sym are.tx_buffers_opened.all) inside in
    let all : ℕ → List Line = with_lines are.lines set served.lines in
    let own : tx_buffer_at new set ≡ tx_buffer = get_or-set_same tx_buffers set tx_buffer _ room in
    let others : (s : ℕ) → s ≢ set → tx_buffer_at new s ≡ tx_buffer_at tx_buffers s = (λ s other. get_or-set_other tx_buffers set s tx_buffer _ other) in
    let here : DeliversSet planned rx_frames set (all set) (tx_buffer_at new set).sent =
    subst (λ (t : List Line). DeliversSet planned rx_frames set t (tx_buffer_at new set).sent) (sym (with_lines-here are.lines set served.lines))
    (subst (λ (l : IubTxBuffer). DeliversSet planned rx_frames set served.lines l.sent) (sym own) served.serves) in
    let there : (s : ℕ) → s < set → DeliversSet planned rx_frames s (all s) (tx_buffer_at new s).sent =
    (λ s early.
    let apart : s ≢ set = omega arith in
    subst (λ (t : List Line). DeliversSet planned rx_frames s t (tx_buffer_at new s).sent) (sym (with_lines-other are.lines set served.lines s apart))
    (subst (λ (l : IubTxBuffer). DeliversSet planned rx_frames s (are.lines s) l.sent) (sym (others s apart)) (are.sets s early))) in
    let next_lines : joined all (set + 1) ≡ joined are.lines set ++ served.lines = joined-next are.lines set served.lines in
    record {
      lines = all;
      sets = λ s early. elim (eqb_tells s set) [
        | inl same ↦ subst (λ k. DeliversSet planned rx_frames k (all k) (tx_buffer_at new k).sent) (sym same.1) here
        | inr other ↦ there s (let apart : s ≢ set = other.1 in omega arith)
      ];
      later = λ s late few. ap (λ (l : IubTxBuffer). l.sent) (others s (omega arith)) ∙ are.later s (omega arith) few;
      told = subst (λ (ls : List Line). Told shows before ls after) (sym next_lines) (told-append shows before now after (joined are.lines set) served.lines are.told served.told);
      tx_buffers_opened = record {
        all = length-set tx_buffers set tx_buffer ∙ are.tx_buffers_opened.all;
        each = λ s few. elim (eqb_tells s set) [
          | inl same ↦ subst (λ k. IsTxBufferOf planned Up k (tx_buffer_at new k)) (sym same.1) (subst (λ (l : IubTxBuffer). IsTxBufferOf planned Up set l) (sym own) served.tx_buffer_opened)
          | inr other ↦ subst (λ (l : IubTxBuffer). IsTxBufferOf planned Up s l) (sym (others s other.1)) (are.tx_buffers_opened.each s few)
        ];
      };
      receiver_opened = served.receiver_opened;
      same = served.same;
    }

-- the frame of a set was sent
pub sent_up : {S : Type 0} (shows : S → Line → S → Type 0) (planned : Planned) (rx_frames : RxFrames) (set start : ℕ) (old new : IubTxBuffer) (receiver : UplinkReceiver) (before after : S) → SendsFrame shows planned Up set start old new before after → AreRead planned rx_frames set old.held
    → ends (set_frames planned.config.uplink.side set) rx_frames.cfn ≡ true → start ≡ started (set_frames planned.config.uplink.side set) rx_frames.cfn → IsReceiverOf planned receiver → receiver.rx_frames ≡ rx_frames
    → Delivered shows planned rx_frames set new receiver before after
sent_up shows planned rx_frames set start old new receiver before after sends read over begun opened same = record {
  lines = Iub Up set sends.octets ∷ [];
  serves = inr (inr (record {
    over = over;
    held = new.held;
    read = subst (λ (h : HeldSet). AreRead planned rx_frames set h) (sym sends.held) read;
    octets = sends.octets;
    whole = sends.whole;
    written = subst (λ n. IsWrittenForm planned.config Up set sends.octets n planned.config.qe new.held) begun sends.written;
    reported = refl;
    sent = sends.sent;
  }));
  told = told_one shows before after _ sends.shown;
  tx_buffer_opened = sends.opened;
  receiver_opened = opened;
  same = same;
}

-- the TTI of a set could not be read
pub lost_set : {S : Type 0} (shows : S → Line → S → Type 0) (planned : Planned) (rx_frames : RxFrames) (set channel frame : ℕ) (tx_buffer : IubTxBuffer) (receiver : UplinkReceiver) (before after : S) → IsBadTti planned.config.uplink.side rx_frames set channel frame
    → ends (set_frames planned.config.uplink.side set) rx_frames.cfn ≡ true → tx_buffer.sent ≡ None → IsTxBufferOf planned Up set tx_buffer → IsReceiverOf planned receiver → receiver.rx_frames ≡ rx_frames
    → shows before (BadTti Up channel frame) after → Delivered shows planned rx_frames set tx_buffer receiver before after
lost_set shows planned rx_frames set channel frame tx_buffer receiver before after is over none kept opened same shown = record {
  lines = BadTti Up channel frame ∷ [];
  serves = inr (inl (record { over = over; channel = channel; frame = frame; is = is; reported = refl; none = none }));
  told = told_one shows before after _ shown;
  tx_buffer_opened = kept;
  receiver_opened = opened;
  same = same;
}

-- no set was served yet
pub none_served : {S : Type 0} (shows : S → Line → S → Type 0) (planned : Planned) (tx_buffers : List IubTxBuffer) (receiver : UplinkReceiver) (before : S) → AreTxBuffersOf planned Up tx_buffers → IsReceiverOf planned receiver
    → ((s : ℕ) → s < 8 → (tx_buffer_at tx_buffers s).sent ≡ None) → AreDelivered shows planned receiver.rx_frames 0 tx_buffers receiver before before
none_served shows planned tx_buffers receiver before are opened quiet = record {
  lines = λ s. [];
  sets = λ s early. absurd (omega arith);
  later = λ s late few. quiet s few;
  told = refl;
  tx_buffers_opened = are;
  receiver_opened = opened;
  same = refl;
}
