use Rattle.std.proofs.Common.{◌∙◌, sym, ap, arith}
use Rattle.dch_rlcpdu.specs.Parts.{parts_of}
use Rattle.dch_rlcum.specs.Receiving.{after_first, after_parts}
use Rattle.dch_rlcum.specs.Stored.{receiving}
use Rattle.dch_rlcum.proofs.Parts.{body_behind, body_known, length-parts}
use Rattle.dch_rlcum.proofs.receive.UmRecv.take_body.Goals as goal

pub returns-then-self : goal.returns-then-self
returns-then-self c =
    ap (receiving c.self.inside.vr_us c.self.inside.known) c.take.ensures
    ∙ (body_known c.self.inside.vr_us (parts_of c.args.body.now) c.args.body.now.indicators c.self.inside.known c.previous_full.result c.self.inside.units c.if-self.true (sym c.starts.ensures ∙ c.if-starts.false) c.previous_full.ensures
    ∙ ap (λ r. after_parts (parts_of c.args.body.now) (after_first c.args.body.now.indicators r)) c.self.view_is)

pub returns-then-ends-gt0 : goal.returns-then-ends-gt0
returns-then-ends-gt0 c =
    c.begin-then-ends-gt0.ensures
    ∙ body_behind (parts_of c.args.body.now) c.args.body.now.indicators c.args.self.now (sym c.starts.ensures ∙ c.if-starts.false) (sym c.previous_full-else-self.ensures ∙ c.if-previous_full.false) (ap (λ r. r.known) (sym c.self.view_is) ∙ c.if-self.false) (omega (arith, length-parts c.args.body.now, c.ends.ensures.value, c.if-ends-gt0.true))
