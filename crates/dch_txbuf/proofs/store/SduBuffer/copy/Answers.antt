use Rattle.std.proofs.Common.{◌≡◌, ◌+◌, ◌-◌, ◌<◌, ◌≤◌, ◌∙◌, ℕ, List, [], ap, arith, drop, get_or, length, subst, sym, take}
use Rattle.std.specs.Prelude.{◌%◌}
use Rattle.circular_buffer.specs.Buffer.{Buffer}
use Rattle.dch_txbuf.specs.declared.sdu.Sdu.{Sdu}
use Rattle.dch_txbuf.specs.Sdus.{blocks_of, no_sdu, sdus_of}
use Rattle.dch_txbuf.proofs.Sdus.{blocks_before, copied, in_blocks, length-sdus, octets_at, place_at, sized_at}
use Rattle.dch_txbuf.proofs.store.SduBuffer.copy.Goals as goal

pub sdu_at-sdu-requires : goal.sdu_at-sdu-requires
sdu_at-sdu-requires c = omega (arith, c.requires.there, length-sdus c.self.inside.sdus.items c.self.inside.row.items, ap (λ (b : Buffer (List ℕ)). length b.items) c.self.view_is)

pub copy_octets-requires-clause-small : goal.copy_octets-requires-clause-small
copy_octets-requires-clause-small c =
    let inside : c.args.i < length c.self.inside.sdus.items = omega (arith, c.requires.there, length-sdus c.self.inside.sdus.items c.self.inside.row.items, ap (λ (b : Buffer (List ℕ)). length b.items) c.self.view_is) in
    omega (arith, c.requires.inside, (sized_at c.self.inside.sdus.items c.args.i inside c.self.invariant.sized).1, octets_at c.self.inside.sdus.items c.self.inside.row.items c.args.i inside c.self.invariant.whole c.self.invariant.filled, ap (λ (b : Buffer (List ℕ)). length (get_or b.items c.args.i [])) c.self.view_is)

pub copy_octets-requires-clause-inside : goal.copy_octets-requires-clause-inside
copy_octets-requires-clause-inside c =
    let inside : c.args.i < length c.self.inside.sdus.items = omega (arith, c.requires.there, length-sdus c.self.inside.sdus.items c.self.inside.row.items, ap (λ (b : Buffer (List ℕ)). length b.items) c.self.view_is) in
    let place : (c.sdu_at-sdu.result.first + (65536 - c.self.inside.freed)) % 65536 ≡ blocks_of (take c.args.i c.self.inside.sdus.items) = ap (λ (s : Sdu). (s.first + (65536 - c.self.inside.freed)) % 65536) c.sdu_at-sdu.ensures ∙ place_at c.self.inside.row c.self.inside.sdus c.self.inside.freed c.args.i c.self.invariant inside in
    omega (arith, place, c.requires.inside, blocks_before c.self.inside.sdus.items c.args.i inside, in_blocks (get_or c.self.inside.sdus.items c.args.i no_sdu).octets, c.self.invariant.filled, octets_at c.self.inside.sdus.items c.self.inside.row.items c.args.i inside c.self.invariant.whole c.self.invariant.filled, ap (λ (b : Buffer (List ℕ)). length (get_or b.items c.args.i [])) c.self.view_is)

pub returns : goal.returns
returns c =
    let inside : c.args.i < length c.self.inside.sdus.items = omega (arith, c.requires.there, length-sdus c.self.inside.sdus.items c.self.inside.row.items, ap (λ (b : Buffer (List ℕ)). length b.items) c.self.view_is) in
    let fits : c.args.from + length c.args.out.now ≤ length (get_or (sdus_of c.self.inside.sdus.items c.self.inside.row.items) c.args.i []) = subst (λ (b : Buffer (List ℕ)). c.args.from + length c.args.out.now ≤ length (get_or b.items c.args.i [])) (sym c.self.view_is) c.requires.inside in
    c.copy_octets.ensures
    ∙ (copied c.self.inside.row c.self.inside.sdus c.self.inside.freed c.args.i c.sdu_at-sdu.result.first c.args.from (length c.args.out.now) c.self.invariant inside (ap (λ (s : Sdu). s.first) c.sdu_at-sdu.ensures) fits
    ∙ ap (λ (b : Buffer (List ℕ)). take (length c.args.out.now) (drop c.args.from (get_or b.items c.args.i []))) c.self.view_is)
