use Rattle.std.proofs.Common.{◌≡◌, ◌≤◌, ℕ, List, Bool, length, drop, arith, sym, subst, ◌∙◌}
use Rattle.std.proofs.lemmas.List.{length-take-le}
use Rattle.dch_collision.specs.Copies.{downlink_copies, AreSentFlags}
use Rattle.dch_collision.proofs.Under.{front_is}
use Rattle.dch_collision.proofs.downlink.flag.Goals as goal

pub returns : goal.returns
returns c sequence =
    let n : ℕ = c.args.shape.now.bits in
    let sent_flags : List Bool = c.args.sent_flags.now in
    let fits : n ≤ length sent_flags = omega (arith, c.requires.shape.fits, c.requires.shape.few, c.requires.room) in
    let long : length c.downlink_sent_flags.new.sent_flags ≡ n = c.downlink_sent_flags.auto.sent_flags ∙ length-take-le n sent_flags fits in
    subst (λ (l : List Bool). AreSentFlags (downlink_copies c.args.config.now c.args.i c.args.f sequence) l) (sym (front_is n c.downlink_sent_flags.new.sent_flags (drop n sent_flags) long)) (c.downlink_sent_flags.ensures sequence)
