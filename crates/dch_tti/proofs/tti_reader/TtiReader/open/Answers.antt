use Rattle.std.proofs.Common.{ap, ◌∙◌}
use Rattle.dch_accept.specs.Frames.{most_cells}
use Rattle.dch_accept.specs.Rooms.{most_room}
use Rattle.dch_tti.proofs.Reading.{opened_missing}
use Rattle.dch_tti.proofs.tti_reader.TtiReader.open.Goals as goal

pub returns-clause-opened : goal.returns-clause-opened
returns-clause-opened g c =
    let planned = c.args.accepted.now in
    opened_missing planned g.R.CountVotes.dir c.most_cells.result c.in_ok-open.field-0
    (c.most_cells.ensures.value ∙ ap (most_cells planned.config) c.dir-dir.ensures)
    (c.in_ok-open.ensures.room ∙ c.most_room-room.ensures.value ∙ ap (most_room planned) c.dir-dir.ensures) c.in_ok-open.ensures.missing
