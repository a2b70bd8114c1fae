use Rattle.std.proofs.Common.{refl}
use Rattle.dch_check.proofs.BothJudgements.{kept_by}
use Rattle.dch_check.proofs.both.judge_change.Goals as goal

pub returns-in-Ok : goal.returns-in-Ok
returns-in-Ok c = (
  c.args.second.accepted,
  refl,
  record {
    good = c.requires;
    kept = kept_by c.config.result.now c.config-2.result.now c.args.first.config c.args.second.accepted.config c.config.ensures.value c.config-2.ensures.value c.in-Ok.ensures;
  },
)
