use Rattle.std.proofs.Common.{◌≡◌, ◌<◌, refl, sym, ◌∙◌, subst}
use Rattle.dch_types.specs.declared.channel.Dir.{Dir}
use Rattle.dch_types.specs.Parts.{channel_at, side_of}
use Rattle.dch_tti.specs.Formats.{IsBadFrame, IsFormatOf}
use Rattle.dch_tti.specs.RxFrames.{RxFrames}
use Rattle.dch_tti.proofs.Sent.{given_format, none_bad}
use Rattle.dch_tti.proofs.tti_reader.TtiReader.read.Goals as goal

pub returns-in-Ok-clause-corrected : goal.returns-in-Ok-clause-corrected
returns-in-Ok-clause-corrected g c f blocks sent =
    let planned = c.args.accepted.now in
    let i = c.args.channel in
    let held : RxFrames = c.self.inside.rx_frames in
    let here = subst (λ reader. g.R.CountVotes.damaged planned reader i f blocks) (sym c.self.view_is) sent in
    let some = subst (λ (dir : Dir). 0 < (channel_at (side_of planned.config dir) i).frames) c.dir.ensures c.format_of_tti.ensures.some in
    let found = subst (λ (dir : Dir). IsFormatOf (side_of planned.config dir) held i c.in-Ok.format) c.dir.ensures c.in-Ok.ensures.found in
    let same : c.in-Ok.format ≡ f = given_format (side_of planned.config g.R.CountVotes.dir) held i f c.in-Ok.format (g.met.R.CountVotes.gives planned held i f blocks here c.requires.channel) some found in
    record {
      read = refl;
      number = c.read_blocks.ensures.number ∙ same;
      arrives = c.read_blocks.ensures.corrected blocks (subst (λ f. g.R.CountVotes.damaged planned c.args.self.now i f blocks) (sym same) sent);
    }

pub returns-in-Err-clause-corrected : goal.returns-in-Err-clause-corrected
returns-in-Err-clause-corrected g c f blocks sent =
    let planned = c.args.accepted.now in
    let i = c.args.channel in
    let held : RxFrames = c.self.inside.rx_frames in
    let here = subst (λ reader. g.R.CountVotes.damaged planned reader i f blocks) (sym c.self.view_is) sent in
    let found = subst (λ (dir : Dir). IsBadFrame (side_of planned.config dir) held i c.in-Err.n) c.dir.ensures c.in-Err.ensures.found in
    absurd (none_bad (side_of planned.config g.R.CountVotes.dir) held i f c.in-Err.n (g.met.R.CountVotes.gives planned held i f blocks here c.requires.channel) found)
