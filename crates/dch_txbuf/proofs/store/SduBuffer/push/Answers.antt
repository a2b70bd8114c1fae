use Rattle.std.proofs.Common.{◌≡◌, ◌+◌, ◌-◌, ◌≤◌, ◌++◌, ◌∙◌, ℕ, List, [], ◌∷◌, ap, arith, drop, length, length-append, subst, sym}
use Rattle.std.specs.Prelude.{◌%◌}
use Rattle.circular_buffer.specs.Buffer.{Buffer, buffer}
use Rattle.dch_txbuf.specs.declared.sdu.Sdu.{Sdu}
use Rattle.dch_txbuf.specs.Chunks.{blocks_for, chunked}
use Rattle.dch_txbuf.specs.Sdus.{IsStored, blocks_in, sdus_of}
use Rattle.dch_txbuf.proofs.Sdus.{blocks_same, pushed_view, ring_room, stored_push}
use Rattle.dch_txbuf.proofs.store.SduBuffer.push.Goals as goal

pub push_octets-requires-clause-room : goal.push_octets-requires-clause-room
push_octets-requires-clause-room c = omega (arith, c.requires.room, blocks_same c.self.inside.sdus.items c.self.inside.row.items c.self.invariant.whole c.self.invariant.filled, c.self.invariant.filled, ap (λ (b : Buffer (List ℕ)). blocks_in b.items) c.self.view_is, ap (λ (b : Buffer (List ℕ)). b.capacity) c.self.view_is)

pub invariant_of-self : goal.invariant_of-self
invariant_of-self c =
    let x : Sdu = record { first = (c.self.inside.freed + c.len.result) % 65536; octets = length c.args.sdu.now } in
    let room : length c.self.inside.row.items + blocks_for (length c.args.sdu.now) ≤ c.self.inside.row.capacity = omega (arith, c.requires.room, blocks_same c.self.inside.sdus.items c.self.inside.row.items c.self.invariant.whole c.self.invariant.filled, c.self.invariant.filled, ap (λ (b : Buffer (List ℕ)). blocks_in b.items) c.self.view_is, ap (λ (b : Buffer (List ℕ)). b.capacity) c.self.view_is) in
    let all : length (c.self.inside.sdus.items ++ x ∷ []) - c.self.inside.sdus.capacity ≡ 0 = omega (arith, ring_room c.self.inside.row c.self.inside.sdus c.self.inside.freed (length c.args.sdu.now) c.self.invariant c.requires.from room, length-append c.self.inside.sdus.items (x ∷ [])) in
    subst (λ r. IsStored r c.push_back.new.self c.self.inside.freed) (sym c.push_octets.ensures)
    (subst (λ b. IsStored (buffer (c.self.inside.row.items ++ chunked (blocks_for (length c.args.sdu.now)) c.args.sdu.now) c.self.inside.row.capacity) b c.self.inside.freed) (sym (c.push_back.ensures.items ∙ ap (λ n. buffer (drop n (c.self.inside.sdus.items ++ x ∷ [])) c.self.inside.sdus.capacity) all))
    (stored_push c.self.inside.row c.self.inside.sdus c.self.inside.freed x.first c.args.sdu.now c.self.invariant (ap (λ n. (c.self.inside.freed + n) % 65536) c.len.ensures) c.requires.from c.requires.most room))

pub returns : goal.returns
returns c =
    let x : Sdu = record { first = (c.self.inside.freed + c.len.result) % 65536; octets = length c.args.sdu.now } in
    let room : length c.self.inside.row.items + blocks_for (length c.args.sdu.now) ≤ c.self.inside.row.capacity = omega (arith, c.requires.room, blocks_same c.self.inside.sdus.items c.self.inside.row.items c.self.invariant.whole c.self.invariant.filled, c.self.invariant.filled, ap (λ (b : Buffer (List ℕ)). blocks_in b.items) c.self.view_is, ap (λ (b : Buffer (List ℕ)). b.capacity) c.self.view_is) in
    let all : length (c.self.inside.sdus.items ++ x ∷ []) - c.self.inside.sdus.capacity ≡ 0 = omega (arith, ring_room c.self.inside.row c.self.inside.sdus c.self.inside.freed (length c.args.sdu.now) c.self.invariant c.requires.from room, length-append c.self.inside.sdus.items (x ∷ [])) in
    ap (λ (r : Buffer (List ℕ)). buffer (sdus_of c.push_back.new.self.items r.items) r.capacity) c.push_octets.ensures
    ∙ (ap (λ (b : Buffer Sdu). buffer (sdus_of b.items (c.self.inside.row.items ++ chunked (blocks_for (length c.args.sdu.now)) c.args.sdu.now)) c.self.inside.row.capacity) (c.push_back.ensures.items ∙ ap (λ n. buffer (drop n (c.self.inside.sdus.items ++ x ∷ [])) c.self.inside.sdus.capacity) all)
    ∙ (ap (λ us. buffer us c.self.inside.row.capacity) (pushed_view c.self.inside.row c.self.inside.sdus c.self.inside.freed x.first c.args.sdu.now c.self.invariant)
    ∙ ap (λ (b : Buffer (List ℕ)). buffer (b.items ++ c.args.sdu.now ∷ []) b.capacity) c.self.view_is))
