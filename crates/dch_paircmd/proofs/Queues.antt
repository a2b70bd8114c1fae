-- A queue that one PDU more is put into.
use Rattle.std.proofs.Common.{◌≡◌, ◌≤◌, ◌<◌, ◌-◌, ◌++◌, [], ◌∷◌, length, arith, length-append}
use Rattle.std.proofs.lemmas.List.Elements.{All-push}
use Rattle.circular_buffer.specs.Buffer.{Buffer, buffer, keep_last}
use Rattle.dch_paircmd.specs.Queues.{IsQueue}
use Rattle.dch_paircmd.specs.declared.queue.QueuedPdu.{QueuedPdu}

pub pushed : (b : Buffer QueuedPdu) (pdu : QueuedPdu) → IsQueue b → length b.items < 1024 → pdu.size ≤ 126 → IsQueue (buffer (keep_last b.capacity (b.items ++ pdu ∷ [])) b.capacity)
pushed b pdu is few size =
    let none : length (b.items ++ pdu ∷ []) - b.capacity ≡ 0 = omega (arith, is.capacity, length-append b.items (pdu ∷ [])) in
    rw none (record {
      capacity = is.capacity;
      few = omega (arith, length-append b.items (pdu ∷ []));
      sizes = All-push (λ (p : QueuedPdu). p.size ≤ 126) b.items pdu is.sizes size;
    })
