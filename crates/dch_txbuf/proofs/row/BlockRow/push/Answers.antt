use Rattle.std.proofs.Common.{◌<◌, ◌++◌, ◌∙◌, ℕ, List, [], ◌∷◌, ap, arith, length, subst, sym}
use Rattle.circular_buffer.specs.Buffer.{Buffer, buffer}
use Rattle.dch_txbuf.specs.Rows.{IsRow, padded, texts_of}
use Rattle.dch_txbuf.proofs.Rows.{length-texts, pushed, some_spare}
use Rattle.dch_txbuf.proofs.row.BlockRow.push.Goals as goal

pub returns-in_default : goal.returns-in_default
returns-in_default c =
    let room : length c.self.inside.blocks.items < c.self.inside.blocks.capacity = omega (arith, c.requires.room, length-texts c.self.inside.pool c.self.inside.blocks.items, ap (λ (b : Buffer (List ℕ)). b.capacity) c.self.view_is, ap (λ (b : Buffer (List ℕ)). length b.items) c.self.view_is) in
    absurd (some_spare c.self.inside.pool c.self.inside.blocks.items c.self.inside.blocks.capacity c.self.invariant room c.in_default.ensures.0)

pub invariant_of-self-in_default-try_push_back : goal.invariant_of-self-in_default-try_push_back
invariant_of-self-in_default-try_push_back c =
    let p = pushed c.self.inside.pool c.take.new.self c.write.new.self c.self.inside.blocks.items c.in-Some.block c.self.inside.blocks.capacity c.args.octets.now c.self.invariant c.in-Some.ensures c.write.ensures in
    subst (λ (b : Buffer ℕ). IsRow c.write.new.self b.items b.capacity) (sym c.in_default-try_push_back.ensures.ok) p.row

pub returns-in_default-try_push_back : goal.returns-in_default-try_push_back
returns-in_default-try_push_back c =
    let p = pushed c.self.inside.pool c.take.new.self c.write.new.self c.self.inside.blocks.items c.in-Some.block c.self.inside.blocks.capacity c.args.octets.now c.self.invariant c.in-Some.ensures c.write.ensures in
    ap (λ (b : Buffer ℕ). buffer (texts_of c.write.new.self b.items) b.capacity) c.in_default-try_push_back.ensures.ok
    ∙ (ap (λ ts. buffer ts c.self.inside.blocks.capacity) p.texts
    ∙ ap (λ (b : Buffer (List ℕ)). buffer (b.items ++ padded c.args.octets.now ∷ []) b.capacity) c.self.view_is)
