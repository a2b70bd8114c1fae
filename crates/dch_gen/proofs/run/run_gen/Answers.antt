use Rattle.std.specs.Prelude.{◌*◌}
use Rattle.dch_gen.proofs.Runs.{cut, put_alone, written}
use Rattle.dch_gen.proofs.run.run_gen.Goals as goal

pub returns-in-Ok-write_all : goal.returns-in-Ok-write_all
returns-in-Ok-write_all g c =
    let was = c.in-Ok-run_frames.ensures in
    let same = put_alone _ c.put_summary.new.report c.bytes.result.now _ _ c.bytes.ensures (c.put_summary.ensures (8 * c.args.start) was.passed) c.in-Ok.ensures in
    written c.args.start c.args.frames _ c.in-Ok-run_frames.generator c.bytes.result.now _ _ _ was.configured was.passed same c.in-Ok-write_all.ensures.ok (c.into_nodes.ensures _ was.passed.link was.passed.stands)

pub returns : goal.returns
returns g c =
    let was = c.in-Ok-run_frames.ensures in
    let same = put_alone _ c.put_summary.new.report c.bytes.result.now _ _ c.bytes.ensures (c.put_summary.ensures (8 * c.args.start) was.passed) c.in-Ok.ensures in
    cut c.args.start c.args.frames _ c.in-Ok-run_frames.generator c.bytes.result.now was.configured was.passed same c.in-Err-write_all.ensures.err
