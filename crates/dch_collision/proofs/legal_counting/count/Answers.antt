use Rattle.std.proofs.Common.{◌≡◌, sym, ap, ◌∙◌, arith}
use Rattle.dch_collision.specs.Sequences.{frames_of}
use Rattle.dch_collision.specs.SequenceCounts.{ways_on, legal_count}
use Rattle.dch_collision.proofs.Ways.{ways_end, ways_all, tells_legal, count_few}
use Rattle.dch_collision.proofs.legal_counting.count.Goals as goal

pub loop-frame-init : goal.loop-frame-init
loop-frame-init c =
    let frames : c.frames-frame.result ≡ frames_of c.args.side.now c.args.channel = c.frames-frame.ensures.value ∙ ap (frames_of c.args.side.now) c.from.ensures in
    record {
      some = c.frames-frame.ensures.some;
      within = omega (arith, frames);
      ways = λ a less.
          c.ones-ways.ensures a (omega (arith, less, c.requires.good.few_combinations)) ∙ sym (ways_end c.args.side.now c.args.channel c.args.format a)
          ∙ ap (λ n. ways_on c.args.side.now c.args.channel c.args.format n a) (sym frames);
    }

pub returns-clause-value : goal.returns-clause-value
returns-clause-value c = c.sum.ensures ∙ ways_all c.args.side.now c.args.channel c.args.format

pub returns-clause-legal : goal.returns-clause-legal
returns-clause-legal c = tells_legal c.args.side.now c.args.channel c.args.format c.requires.good

pub returns-clause-small : goal.returns-clause-small
returns-clause-small c =
    let value : c.sum.result ≡ legal_count c.args.side.now c.args.channel c.args.format = c.sum.ensures ∙ ways_all c.args.side.now c.args.channel c.args.format in
    omega (arith, value, count_few c.args.side.now c.args.channel c.args.format c.requires.good c.requires.channel)
