use Rattle.std.proofs.Common.{◌∷◌, ◌∙◌, ℕ, List, ap, sym, []}
use Rattle.std.specs.Borrow.{Bor}
use Rattle.dch_script.specs.Code.{code_words}
use Rattle.dch_script.specs.LineWords.{words_of, later_words}
use Rattle.dch_script.proofs.Cuts.{too_many}
use Rattle.dch_script.proofs.code.code_event.Goals as goal

pub returns-in_default-Some-cut_word-2 : goal.returns-in_default-Some-cut_word-2
returns-in_default-Some-cut_word-2 c =
    let coding = c.cut_word.result.0.now in
    let crc = c.cut_word-2.result.0.now in
    let bits = c.cut_word-3.result.0.now in
    let lent = λ (text : Bor (List ℕ)). words_of text.now in
    ap code_words
    (ap later_words c.in-Some.is ∙ c.cut_word.ensures
    ∙ ap (λ words. coding ∷ words) (ap later_words c.in_default-Some.is-1 ∙ sym (ap lent c.in_default-Some.rest-is) ∙ c.cut_word-2.ensures
    ∙ ap (λ words. crc ∷ words) (ap later_words c.in_default-Some-cut_word.is-1 ∙ sym (ap lent c.in_default-Some-cut_word.rest-is) ∙ c.cut_word-3.ensures
    ∙ ap (λ words. bits ∷ words) (ap later_words c.in_default-Some-cut_word-2.is-1))))
    ∙ too_many coding crc bits [] c.in_default-Some-cut_word-2._more.now
