use Rattle.std.proofs.Common.{◌≡◌, ◌≤◌, ◌<◌, ◌*◌, ◌∙◌, ℕ, length, ap, ap₂, subst, sym}
use Rattle.dch_types.specs.declared.channel.Format.{Format}
use Rattle.dch_types.specs.declared.channel.Trch.{Trch}
use Rattle.dch_types.specs.Parts.{format_at}
use Rattle.dch_stages.proofs.Blocks.{bits_few}
use Rattle.dch_stages.proofs.places.blocks_bits.Goals as goal

pub returns-clause-few : goal.returns-clause-few
returns-clause-few c =
    let trch : Trch = c.channel-trch.result.now in
    let f = c.args.tti.format in
    let inside : f < length trch.formats = subst (λ (t : Trch). f < length t.formats) (sym c.channel-trch.ensures.value) c.requires.format in
    let number : c.from.result ≡ (format_at trch f).number = c.from.ensures ∙ ap (λ (format : Format). format.number) c.format-format.ensures.value in
    let size : c.from-2.result ≡ (format_at trch f).size = c.from-2.ensures ∙ ap (λ (format : Format). format.size) c.format-format.ensures.value in
    subst (λ (n : ℕ). n ≤ 131072) (sym (ap₂ (λ (a b : ℕ). a * b) number size)) (bits_few trch f c.channel-trch.ensures.good inside)
