use Rattle.dch_steptext.proofs.LayerBytes.{blocks_hold, offers_hold, opened_none, start_holds, ticks_hold}
use Rattle.dch_steptext.proofs.laws.still_law.Goals as goal

pub returns : goal.returns
returns c = record { opened = opened_none; offers = offers_hold; blocks = blocks_hold; ticks = ticks_hold; starts = start_holds }
