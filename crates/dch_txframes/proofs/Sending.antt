-- Transmit buffers one after another.
use Rattle.std.proofs.Common.{◌≡◌, ◌≢◌, ◌+◌, ◌<◌, ◌∙◌, ◌++◌, ℕ, List, [], ◌∷◌, get_or, arith, ap, sym, subst, inl, inr, None, length-append}
use Rattle.std.proofs.lemmas.Bool.Decides.{eqb_tells}
use Rattle.std.proofs.lemmas.List.{get_or_append_left, get_or_default, get_or_push}
use Rattle.dch_types.specs.declared.channel.Dir.{Dir}
use Rattle.dch_accept.specs.Plans.{Planned}
use Rattle.dch_txframes.specs.Opened.{AreTxBuffersOf, IsTxBufferOf}
use Rattle.dch_txframes.specs.Sending.{AreNewTxBuffers}
use Rattle.dch_txframes.specs.Values.{IubTxBuffer, tx_buffer_at}

-- a transmit buffer, whatever stands for one past the end
pub tx_buffer_in : (planned : Planned) (dir : Dir) (tx_buffers : List IubTxBuffer) (set : ℕ) (other : IubTxBuffer) → AreTxBuffersOf planned dir tx_buffers → set < 8 → get_or tx_buffers set other ≡ tx_buffer_at tx_buffers set
tx_buffer_in planned dir tx_buffers set other are few = get_or_default tx_buffers set other _ (omega (arith, are.all))

-- a new transmit buffer at the end
pub new_tx_buffer : (planned : Planned) (dir : Dir) (count : ℕ) (tx_buffers : List IubTxBuffer) (tx_buffer : IubTxBuffer) → AreNewTxBuffers planned dir count tx_buffers → IsTxBufferOf planned dir count tx_buffer → tx_buffer.sent ≡ None
    → AreNewTxBuffers planned dir (count + 1) (tx_buffers ++ tx_buffer ∷ [])
new_tx_buffer planned dir count tx_buffers tx_buffer are is quiet =
    let own : tx_buffer_at (tx_buffers ++ tx_buffer ∷ []) count ≡ tx_buffer = get_or_push tx_buffers tx_buffer _ count are.all in
    let others : (s : ℕ) → s < count → tx_buffer_at (tx_buffers ++ tx_buffer ∷ []) s ≡ tx_buffer_at tx_buffers s =
    (λ s early. get_or_append_left tx_buffers (tx_buffer ∷ []) _ s (omega (arith, are.all))) in
    record {
      all = omega (arith, length-append tx_buffers (tx_buffer ∷ []), are.all);
      each = λ s early. elim (eqb_tells s count) [
        | inl same ↦ subst (λ n. IsTxBufferOf planned dir n (tx_buffer_at (tx_buffers ++ tx_buffer ∷ []) n)) (sym same.1) (subst (λ (l : IubTxBuffer). IsTxBufferOf planned dir count l) (sym own) is)
        | inr other ↦ (let apart : s ≢ count = other.1 in let less : s < count = omega arith in subst (λ (l : IubTxBuffer). IsTxBufferOf planned dir s l) (sym (others s less)) (are.each s less))
      ];
      quiet = λ s early. elim (eqb_tells s count) [
        | inl same ↦ ap (λ n. (tx_buffer_at (tx_buffers ++ tx_buffer ∷ []) n).sent) same.1 ∙ ap (λ (l : IubTxBuffer). l.sent) own ∙ quiet
        | inr other ↦ (let apart : s ≢ count = other.1 in let less : s < count = omega arith in ap (λ (l : IubTxBuffer). l.sent) (others s less) ∙ are.quiet s less)
      ];
    }
