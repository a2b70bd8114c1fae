use Rattle.std.proofs.Common.{List, ℕ, subst}
use Rattle.std.specs.Prelude.{IfErr, IfOk}
use Rattle.dch_types.specs.declared.channel.Dir.TheVariants.{Down}
use Rattle.dch_types.specs.declared.channel.Side.{Side}
use Rattle.dch_types.specs.declared.config.Config.{Config}
use Rattle.dch_accept.specs.HeldSets.{HeldSet}
use Rattle.dch_iub.specs.Answers.{IsFault}
use Rattle.dch_iub.specs.Taken.{IsReceived}
use Rattle.dch_iub.proofs.Refused.{no_form_of, read_down}
use Rattle.dch_iub.proofs.read.read_dl.Goals as goal

pub returns-clause-ok : goal.returns-clause-ok
returns-clause-ok c =
    let config = c.args.accepted.now.config in
    let frame : List ℕ = c.args.frame.now in
    let held : HeldSet = c.receive_dl.new.out in
    read_down config c.args.set frame held c.receive_dl.result
    (subst (λ (side : Side). IfOk c.receive_dl.result (λ cfn. IsReceived Down side config.payload_check c.args.set frame cfn 0 held)) c.side-side.ensures.value
    (subst (λ (g : Config). IfOk c.receive_dl.result (λ cfn. IsReceived Down c.side-side.result.now g.payload_check c.args.set frame cfn 0 held)) c.config.ensures.value c.receive_dl.ensures.ok))

pub returns-clause-no_form : goal.returns-clause-no_form
returns-clause-no_form c =
    let config = c.args.accepted.now.config in
    let frame : List ℕ = c.args.frame.now in
    no_form_of config Down c.args.set frame c.receive_dl.result
    (subst (λ (side : Side). IfErr c.receive_dl.result (IsFault Down side config.payload_check c.args.set frame)) c.side-side.ensures.value
    (subst (λ (g : Config). IfErr c.receive_dl.result (IsFault Down c.side-side.result.now g.payload_check c.args.set frame)) c.config.ensures.value c.receive_dl.ensures.refused))
