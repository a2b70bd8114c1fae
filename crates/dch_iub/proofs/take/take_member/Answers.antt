use Rattle.std.proofs.Common.{◌≡◌, ◌+◌, ◌-◌, ◌∙◌, ℕ, List, take, drop, arith, ap, ap₂, subst}
use Rattle.dch_types.specs.declared.channel.Format.{Format}
use Rattle.dch_types.specs.declared.channel.Trch.{Trch}
use Rattle.dch_types.specs.Parts.{channel_at, format_at}
use Rattle.dch_accept.specs.HeldSets.{held_at}
use Rattle.dch_accept.specs.Padded.{IsUnpacked, format_octets}
use Rattle.dch_iub.proofs.Unpacking.{unpacked_taken}
use Rattle.dch_iub.proofs.take.take_member.Goals as goal

pub returns-clause-taken : goal.returns-clause-taken
returns-clause-taken c =
    let channel = channel_at c.args.side.now c.args.channel in
    let frame : List ℕ = c.args.frame.now in
    let at : ℕ = c.args.at in
    let n : ℕ = at + c.format_octets.result - at in
    let format : c.format-format.result.now ≡ format_at channel c.args.number = c.format-format.ensures.value ∙ ap₂ (λ (t : Trch) (f : ℕ). format_at t f) c.channel.ensures.value c.from.ensures in
    let octets : c.format_octets.result ≡ format_octets (format_at channel c.args.number) = c.format_octets.ensures.value ∙ ap format_octets format in
    unpacked_taken channel c.args.number at n frame (held_at c.unpack.new.self.blocks c.args.channel) c.requires.number (omega (arith, octets))
    (subst (λ (f : Format). IsUnpacked c.args.number f (take n (drop at frame)) (held_at c.unpack.new.self.blocks c.args.channel)) format c.unpack.ensures.unpacked)
