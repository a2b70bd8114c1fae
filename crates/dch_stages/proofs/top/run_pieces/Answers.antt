use Rattle.std.proofs.Common.{inl, refl}
use Rattle.std.proofs.KnownBytes.{Appends-nil, Consumes-nil}
use Rattle.dch_check.specs.declared.status.Status.TheVariants.{NoMemory}
use Rattle.dch_check.proofs.Scripts.{runs_configured, stops_configured}
use Rattle.dch_lines.specs.declared.stop.Outcome.TheVariants.{Ok as Done}
use Rattle.dch_stages.specs.Rules.{rules}
use Rattle.dch_stages.specs.Runs.{begun}
use Rattle.dch_stages.proofs.top.run_pieces.Goals as goal

pub returns-in-Ok-follow_script : goal.returns-in-Ok-follow_script
returns-in-Ok-follow_script g c =
    let followed = c.in-Ok-follow_script.ensures (begun c.in-Ok.taken.1) c.in-Ok-open.ensures.stands in
    runs_configured rules begun (λ after. Unit {0}) _ _ _ _ _ _ _ _ _ _ _ _ c.take_configuration.new.piece c.in-Ok.taken.0 c.in-Ok.taken.1 followed.0 Done c.in-Ok.ensures followed.1.1 (λ same. cc) tt

pub returns : goal.returns
returns g c =
    let stops = c.in-Err-follow_script.ensures (begun c.in-Ok.taken.1) c.in-Ok-open.ensures.stands in
    (stops_configured rules begun _ _ _ _ _ _ _ _ _ _ _ _ c.take_configuration.new.piece c.in-Ok.taken.0 c.in-Ok.taken.1 c.in-Err-follow_script.status c.in-Ok.ensures stops).0

pub returns-in_default : goal.returns-in_default
returns-in_default g c =
    (stops_configured rules begun _ _ _ _ _ _ _ _ _ _ _ _ c.take_configuration.new.piece c.in-Ok.taken.0 c.in-Ok.taken.1 NoMemory c.in-Ok.ensures (inl (refl, (Consumes-nil _, Appends-nil _)))).0
