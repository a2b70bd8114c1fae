use Rattle.std.proofs.Common.{◌∙◌, length, get_or, ap, sym, arith}
use Rattle.dch_frame.proofs.Carried.{one_frame_place, one_frame_of}
use Rattle.dch_frame.proofs.segments.put_segment.Goals as goal

pub returns-then-frames-eq1-clause-carried : goal.returns-then-frames-eq1-clause-carried
returns-then-frames-eq1-clause-carried g c i d inside of =
    ap (λ tti. get_or tti i d) c.copy_from_slice.ensures.after
    ∙ ap (λ i. get_or c.args.segment.now i d) (sym (one_frame_place c.args.frames (length c.copy_from_slice.new.self) i c.requires.frames (omega arith) inside))

pub returns-then-frames-eq1-clause-same : goal.returns-then-frames-eq1-clause-same
returns-then-frames-eq1-clause-same g c i d inside apart = absurd (apart (one_frame_of c.args.frames (length c.copy_from_slice.new.self) c.args.frame i c.requires.frames (omega arith) c.requires.inside inside))
