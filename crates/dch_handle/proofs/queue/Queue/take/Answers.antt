use Rattle.std.proofs.Common.{◌-◌, length, vec_items, sym}
use Rattle.dch_handle.proofs.Dropped.{first_taken}
use Rattle.dch_handle.proofs.queue.Queue.take.Goals as goal

pub returns-clause-taken : goal.returns-clause-taken
returns-clause-taken c =
    let q = c.self.inside in
    first_taken (vec_items q.told) (vec_items q.letters) q.at q.read c.args.told.length
    (q.most - length (vec_items q.told)) (q.room - length (vec_items q.letters)) q.most q.room q.lost c.args.self.now (sym c.self.view_is)
