-- `link` refuses a line of more bytes than a line may have.
use Rattle.dch_script.specs.declared.event.Command.TheVariants.{Link}
use Rattle.dch_lines.specs.Semantics.{RefusesLong}
use Rattle.dch_linkcmd.specs.Rules.{link_lines}
use Rattle.dch_linkcmd.specs.Run.{config_of}
use Rattle.dch_lines.specs.Overlong.{meaning_long}

pub link_refuses_long : RefusesLong link_lines
link_refuses_long run line long = meaning_long Link (config_of run) line long
