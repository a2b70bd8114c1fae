use Rattle.std.proofs.Common.{inl, refl}
use Rattle.std.proofs.KnownBytes.{Appends-nil, Consumes-nil}
use Rattle.dch_lines.specs.declared.stop.Outcome.TheVariants.{Ok as Done}
use Rattle.dch_check.specs.declared.status.Status.TheVariants.{NoMemory}
use Rattle.dch_check.proofs.Scripts.{runs_configured, stops_configured}
use Rattle.dch_top.specs.NodeRuns.{HeldBy}
use Rattle.dch_top.proofs.NodeRuns.{runs_ill}
use Rattle.dch_top.proofs.nodes.run_pieces.Goals as goal

pub returns-in-Ok-follow_script : goal.returns-in-Ok-follow_script
returns-in-Ok-follow_script g c = λ opened opens.
    let handler = g.H.LineHandler in
    let followed = c.in-Ok-follow_script.ensures (opened c.in-Ok.taken.1) (opens c.in-Ok.taken.1 c.in-Ok-open.handler c.in-Ok-open.ensures.opened) in
    record {
      runs = runs_configured handler.semantics opened (HeldBy handler.represents g.H.NodesHandler.hands c.hold.new.bench) _ _ _ _ _ _ _ _ _ _ _ _ c.take_configuration.new.piece c.in-Ok.taken.0 c.in-Ok.taken.1 followed.0 Done (rw c.front.ensures at c.in-Ok.ensures) followed.1.1 (λ same. cc)
          (c.in-Ok-follow_script.handler, (followed.1.0, c.hold.ensures));
      idle = λ ill. absurd (ill refl);
    }

pub returns : goal.returns
returns g c = λ opened opens.
    let handler = g.H.LineHandler in
    let stops = c.in-Err-follow_script.ensures (opened c.in-Ok.taken.1) (opens c.in-Ok.taken.1 c.in-Ok-open.handler c.in-Ok-open.ensures.opened) in
    runs_ill handler.semantics opened (HeldBy handler.represents g.H.NodesHandler.hands) _ _ c.args.bench.now c.in-Err-follow_script.status c.requires.bench
    (stops_configured handler.semantics opened _ _ _ _ _ _ _ _ _ _ _ _ c.take_configuration.new.piece c.in-Ok.taken.0 c.in-Ok.taken.1 c.in-Err-follow_script.status (rw c.front.ensures at c.in-Ok.ensures) stops)

pub returns-in_default : goal.returns-in_default
returns-in_default g c = λ opened opens.
    let handler = g.H.LineHandler in
    runs_ill handler.semantics opened (HeldBy handler.represents g.H.NodesHandler.hands) _ _ c.args.bench.now NoMemory c.requires.bench
    (stops_configured handler.semantics opened _ _ _ _ _ _ _ _ _ _ _ _ c.take_configuration.new.piece c.in-Ok.taken.0 c.in-Ok.taken.1 NoMemory (rw c.front.ensures at c.in-Ok.ensures) (inl (refl, (Consumes-nil _, Appends-nil _))))
