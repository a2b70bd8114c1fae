use Rattle.std.proofs.Common.{◌≤◌, arith}
use Rattle.dch_link.proofs.Given.{holds_next}
use Rattle.dch_link.proofs.soft.longest_frame.Goals.{else-octets-longest, then-octets-longest}
use Rattle.dch_link.proofs.soft.longest_frame.Goals as goal

pub loop-set-preserved : goal.loop-set-preserved
loop-set-preserved c =
    let octets = c.if-octets-longest.octets in
    let more : c.loop-set.octets ≤ octets = elim c.if-octets-longest.branch [ then-octets-longest w ↦ omega (arith, w.octets-is, w.if-octets-longest) | else-octets-longest w ↦ omega (arith, w.octets-is) ] in
    let fits : c.longest-longest.result ≤ octets = elim c.if-octets-longest.branch [ then-octets-longest w ↦ omega (arith, w.octets-is) | else-octets-longest w ↦ omega (arith, w.octets-is, w.if-octets-longest) ] in
    holds_next c.args.accepted.now.config c.loop-set.set c.loop-set.octets c.longest-longest.result octets c.loop-set.invariant c.longest-longest.ensures more fits
