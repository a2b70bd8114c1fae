use Rattle.dch_stages.specs.Answers.{question_text}
use Rattle.dch_stages.proofs.answers.put_question.Goals as goal

pub returns : goal.returns
unfolding question_text
returns g c = let joined = g.met.P.Page.joined in record { text = joined _ _ _ _ _ (joined _ _ _ _ _ (joined _ _ _ _ _ (joined _ _ _ _ _ (joined _ _ _ _ _ (joined _ _ _ _ _ c.put_text.ensures c.put_text-2.ensures) c.put_dir.ensures) c.put_text-3.ensures) c.put_decimal.ensures) c.put_text-4.ensures) c.put_decimal-2.ensures }
