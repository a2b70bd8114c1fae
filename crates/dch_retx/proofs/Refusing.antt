-- A status that is outside changes nothing.
use Rattle.std.proofs.Common.{◌≡◌, ◌≢◌, List, refl, sym, ap, ◌∙◌}
use Rattle.dch_am.specs.declared.answers.StatusTaken.{StatusTaken}
use Rattle.dch_am.specs.declared.answers.StatusTaken.TheVariants.{Taken, Outside}
use Rattle.dch_retx.specs.StatusItems.{StatusItem}
use Rattle.dch_retx.specs.RetxBuffer.{RetxBuffer, after_answer, after_hearing, answer_of}

pub outside_same : (said : List StatusItem) (l now : RetxBuffer) (answer : StatusTaken) → answer ≡ answer_of said l → now ≡ after_hearing said l → answer ≢ Taken → now ≡ l
outside_same said l now answer e is other = is ∙ (ap (λ x. after_answer x said l) (sym e) ∙ either answer other)
  where
    either : (x : StatusTaken) → x ≢ Taken → after_answer x said l ≡ l
    either Taken other = absurd (other refl)
    either (Outside i) other = refl
