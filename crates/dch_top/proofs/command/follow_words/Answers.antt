use Rattle.dch_top.proofs.Commands.{ran_command, ran_nothing}
use Rattle.dch_top.proofs.command.follow_words.Goals as goal

pub returns-in-Ok-Some : goal.returns-in-Ok-Some
returns-in-Ok-Some g c =
    let says = rw c.in-Ok-Some.field-0-is at c.in-Ok-Some.ensures.says in
    ran_command c.args.words.now c.in-Ok-Some.arguments _ _ c.run_command.new.bench c.run_command.result says c.run_command.ensures

pub returns-in-Err : goal.returns-in-Err
returns-in-Err g c = ran_nothing c.args.words.now _ _ _ _ c.args.bench.now c.requires
