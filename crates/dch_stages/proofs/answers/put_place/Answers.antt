use Rattle.std.proofs.Common.{◌≡◌, ◌++◌, ◌∙◌, ℕ, List, [], Bool, Some, true, arith, ap, subst, sym}
use Rattle.std.specs.Prelude.{◌==◌, codes, decimal, if◌then◌else◌}
use Rattle.std.proofs.lemmas.Bool.Decides.{nat_tests}
use Rattle.dch_types.specs.Parts.{channel_at, format_at, side_of}
use Rattle.dch_stages.specs.Answers.{is_bit, place_text}
use Rattle.dch_stages.specs.Places.{bit_if, bit_shown}
use Rattle.dch_stages.proofs.answers.put_place.Goals as goal

pub returns-in-Some : goal.returns-in-Some
returns-in-Some g c =
    let planned = c.args.accepted.now in
    let tti = c.args.tti in
    let p : ℕ = c.args.place in
    let b : ℕ = c.args.bit in
    let channel = channel_at (side_of planned.config tti.dir) tti.channel in
    let bit : bit_shown planned tti.dir tti.channel tti.format p ≡ Some b =
    sym (ap (bit_if channel (format_at channel tti.format)) c.shown_at.ensures.value) ∙ sym c.bit_at.ensures.value ∙ c.in-Some.is ∙ ap (λ (n : ℕ). Some n) c.if-shown-bit.true in
    let own : (b == b) ≡ true = grind (arith, nat_tests) in
    let text : place_text planned tti.dir tti.channel tti.format b p ≡ codes " " ++ decimal p =
    ap (λ (t : Bool). if t then codes " " ++ decimal p else []) (ap (is_bit b) bit ∙ own) in
    record { text = subst (λ (t : List ℕ). g.P.Page.writes c.args.page.now t c.put_decimal.new.page) (sym text) (g.met.P.Page.joined _ _ _ _ _ c.put_text.ensures c.put_decimal.ensures) }
