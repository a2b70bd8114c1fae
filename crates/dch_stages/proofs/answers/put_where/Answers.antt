use Rattle.std.proofs.Common.{◌≡◌, ◌++◌, ◌∙◌, ℕ, List, Option, ap, subst}
use Rattle.std.specs.Prelude.{codes}
use Rattle.dch_stages.specs.Answers.{number_text, question_text}
use Rattle.dch_stages.specs.Places.{bit_if, bit_shown, shown_at}
use Rattle.dch_types.specs.Parts.{channel_at, format_at, side_of}
use Rattle.dch_stages.proofs.answers.put_where.Goals as goal

pub returns : goal.returns
returns g c =
    let joined = g.met.P.Page.joined in
    let planned = c.args.accepted.now in
    let tti = c.args.tti in
    let coded : c.shown_at-coded.result ≡ shown_at planned tti.dir tti.channel tti.format c.args.place = c.shown_at-coded.ensures.value in
    let channel = channel_at (side_of planned.config tti.dir) tti.channel in
    let bit : c.bit_at.result ≡ bit_shown planned tti.dir tti.channel tti.format c.args.place = c.bit_at.ensures.value ∙ ap (bit_if channel (format_at channel tti.format)) coded in
    let front : List ℕ = question_text (codes "where") tti.dir tti.channel c.args.place ++ codes " coded=" in
    record {
      text = subst (λ (o : Option ℕ). g.P.Page.writes c.args.page.now (front ++ number_text (shown_at planned tti.dir tti.channel tti.format c.args.place) ++ codes " bit=" ++ number_text o ++ codes "\n") c.put_text-3.new.self) bit
          (subst (λ (o : Option ℕ). g.P.Page.writes c.args.page.now (front ++ number_text o ++ codes " bit=" ++ number_text c.bit_at.result ++ codes "\n") c.put_text-3.new.self) coded
          (joined _ _ _ _ _ (joined _ _ _ _ _ (joined _ _ _ _ _ (joined _ _ _ _ _ (joined _ _ _ _ _ c.put_question.ensures.text c.put_text.ensures) c.put_number.ensures.text) c.put_text-2.ensures) c.put_number-2.ensures.text) c.put_text-3.ensures));
    }
