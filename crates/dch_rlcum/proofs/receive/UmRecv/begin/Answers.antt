use Rattle.std.proofs.Common.{◌≡◌, ◌∙◌, true, ap, drop}
use Rattle.dch_rlcpdu.specs.Parts.{parts_of}
use Rattle.dch_rlcum.specs.Receiving.{after_parts, dropped}
use Rattle.dch_rlcum.specs.Stored.{receiving}
use Rattle.dch_rlcum.proofs.Parts.{parts_begun}
use Rattle.dch_rlcum.proofs.receive.UmRecv.begin.Goals as goal

pub returns : goal.returns
returns c =
    let now : receiving c.self.inside.vr_us c.self.inside.known c.self.inside.units ≡ dropped true c.args.self.now = c.self.view_is ∙ c.abandon.ensures in
    let parts = drop c.args.dead (parts_of c.args.body.now) in
    ap (receiving c.self.inside.vr_us c.self.inside.known) c.take.ensures
    ∙ (parts_begun c.self.inside.vr_us parts c.self.inside.known c.self.inside.units (ap (λ r. r.known) now)
    ∙ ap (after_parts parts) now)
