use Rattle.std.proofs.Common.{◌≡◌, ℕ, Option, Some, Ok, sym, subst}
use Rattle.dch_types.specs.declared.config.Config.{Config}
use Rattle.dch_script.specs.ParsedLine.{parsed_of}
use Rattle.dch_script.specs.Soft.{soft_meaning}
use Rattle.dch_linkcmd.proofs.soft_reading.read_line.Goals as goal

pub returns-in-Ok-Some-default-clause-says : goal.returns-in-Ok-Some-default-clause-says
returns-in-Ok-Some-default-clause-says c =
    let leg = c.in-Ok-Some-default.leg in
    let event = c.in-Ok-Some-default.event in
    record {
      leg = Some leg;
      parsed = parsed_of event;
      is_parsed = sym (subst (λ (o : Option ℕ). Ok (o, parsed_of event) ≡ soft_meaning c.args.legs c.args.accepted.now.config c.args.line.now) c.in-Ok-Some-default.field-0-0-is
          (subst (λ (config : Config). Ok (c.in-Ok-Some-default.field-0-0, parsed_of event) ≡ soft_meaning c.args.legs config c.args.line.now) c.config.ensures.value c.in-Ok-Some-default.ensures.says));
      is = c.read_damage.ensures.says leg;
    }

pub returns-in-Ok-None-default-clause-comes : goal.returns-in-Ok-None-default-clause-comes
returns-in-Ok-None-default-clause-comes c = c.read_event.ensures.comes c.args.legs
