use Rattle.dch_tti.proofs.received_frames.ReceivedFrames.receive.Goals as goal

pub returns-in-None-clause-opened : goal.returns-in-None-clause-opened
returns-in-None-clause-opened c = c.miss.ensures.opened c.args.accepted.now c.args.dir c.requires.opened
