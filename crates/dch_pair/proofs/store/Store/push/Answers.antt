use Rattle.std.proofs.Common.{◌≡◌, ◌∙◌, ◌∷◌, [], ◌++◌, ap, ap₂, length, arith}
use Rattle.dch_pair.specs.Spans.{spanned}
use Rattle.dch_pair.proofs.Spans.{spanned-push}
use Rattle.dch_pair.proofs.store.Store.push.Goals as goal

pub returns : goal.returns
returns c =
    let end : c.len.result ≡ length (c.self.inside.octets.items ++ c.args.unit.now) = omega (arith, ap length c.in_ok-extend_from_slice.ensures.items) in
    ap₂ spanned c.in_ok-extend_from_slice.ensures.items c.in_ok-push.ensures.items
    ∙ (spanned-push c.self.inside.octets.items c.args.unit.now c.self.inside.spans.items c.len-start.result c.len.result c.self.invariant (omega arith) end
    ∙ ap (λ us. us ++ c.args.unit.now ∷ []) c.self.view_is)
