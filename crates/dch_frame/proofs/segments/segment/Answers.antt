use Rattle.std.proofs.Common.{◌≡◌, ◌∙◌, length, get_or, ap, sym, arith}
use Rattle.dch_frame.proofs.Carried.{one_frame_shown}
use Rattle.dch_frame.proofs.segments.segment.Goals as goal

pub returns-then-frames-eq1 : goal.returns-then-frames-eq1
returns-then-frames-eq1 g c m d inside =
    let long : length c.copy_from_slice.new.self ≡ length c.args.tti.now = ap length c.copy_from_slice.ensures.after in
    ap (λ out. get_or out m d) c.copy_from_slice.ensures.after
    ∙ ap (λ m. get_or c.args.tti.now m d) (sym (one_frame_shown c.args.frames (length c.args.tti.now) c.args.frame m (omega arith) c.requires.inside (omega (arith, inside, long))))
