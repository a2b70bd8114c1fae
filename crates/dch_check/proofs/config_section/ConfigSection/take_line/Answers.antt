use Rattle.dch_check.proofs.ConfigSections.{behind_feed, behind_rest, gathered_feed, gathered_rest}
use Rattle.dch_check.proofs.config_section.ConfigSection.take_line.Goals as goal

pub returns-in_ok-hold-in-Some-clause-goes_on : goal.returns-in_ok-hold-in-Some-clause-goes_on
returns-in_ok-hold-in-Some-clause-goes_on c =
    rw (c.end_line.ensures, c.in_ok-hold-in-Some.ensures, c.split_at.ensures.front, c.split_at.ensures.back) (gathered_feed c.args.self.now c.args.bytes.now c.in-Some.at c.requires.going c.in-Some.ensures)

pub returns-in_ok-hold-in-None-clause-goes_on : goal.returns-in_ok-hold-in-None-clause-goes_on
returns-in_ok-hold-in-None-clause-goes_on c =
    rw c.in_ok-hold-in-None.ensures (gathered_rest c.args.self.now c.args.bytes.now c.requires.going c.in-None.ensures)

pub returns-in_ok-hold-in-Some-clause-leaves : goal.returns-in_ok-hold-in-Some-clause-leaves
returns-in_ok-hold-in-Some-clause-leaves c =
    rw (c.end_line.ensures, c.in_ok-hold-in-Some.ensures, c.split_at.ensures.front, c.split_at.ensures.back) (behind_feed c.args.self.now c.args.bytes.now c.in-Some.at c.requires.going c.in-Some.ensures)

pub returns-in_ok-hold-in-None-clause-leaves : goal.returns-in_ok-hold-in-None-clause-leaves
returns-in_ok-hold-in-None-clause-leaves c =
    rw c.in_ok-hold-in-None.ensures (behind_rest c.args.self.now c.args.bytes.now c.requires.going c.in-None.ensures)
