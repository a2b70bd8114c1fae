use Rattle.std.proofs.Common.{◌≡◌, ◌*◌, List, take, arith, ap, ◌∙◌, subst, rules}
use Rattle.dch_bits.specs.declared.bit.Bit.{Bit}
use Rattle.dch_bits.specs.declared.bit.Trit.{Trit}
use Rattle.dch_types.specs.declared.channel.Format.{Format}
use Rattle.dch_coding.specs.Ttis.{IsCodedTti}
use Rattle.dch_tti.specs.Loaded.{AreInterleaved}
use Rattle.dch_dlphy.specs.Loaded.{filled_cell}
use Rattle.dch_dlphy.proofs.Filled.{are_filled, are_silent, take_whole}
use Rattle.dch_dlphy.proofs.tti.Room.load.Goals as goal

pub returns-else-kept-eq0-clause-loaded : goal.returns-else-kept-eq0-clause-loaded
returns-else-kept-eq0-clause-loaded c =
    let coded : List Bit = take c.code_front-bits.result c.code_front-bits.new.out in
    let same : c.deref.result.now ≡ c.code_front-bits.new.out = c.deref.ensures.value ∙ take_whole _ c.code_front-bits.new.out _ (omega (arith, c.code_front-bits.auto.out, c.deref_mut.ensures.len)) in
    let tti : c.deref-else-kept-eq0.result.now ≡ c.fill_front.new.tti = c.deref-else-kept-eq0.ensures.value ∙ take_whole _ c.fill_front.new.tti _ (omega (arith, c.fill_front.auto.tti, c.deref_mut-else-kept-eq0-2.ensures.len)) in
    record {
      room = c.load.ensures.room;
      format = c.load.ensures.format;
      coded = coded;
      is = subst (λ (format : Format). IsCodedTti c.args.channel.now format c.args.blocks.now coded) c.format-kind.ensures.value c.code_front-bits.ensures.coded;
      cells = are_filled c.args.channel.now.frames c.args.places c.args.pattern.now coded c.fill_front.new.tti _ (search rules) c.requires.fits
          (λ p low. c.fill_front.ensures p low ∙ ap (λ (bits : List Bit). filled_cell c.args.pattern.now (take c.code_front-bits.result bits) p) same)
          (subst (λ (tti : List Trit). AreInterleaved c.args.channel.now.frames (take (c.args.channel.now.frames * c.args.places) tti) c.load.new.self.cells) tti c.load.ensures.cells);
    }

pub returns-then-kept-eq0-clause-loaded : goal.returns-then-kept-eq0-clause-loaded
returns-then-kept-eq0-clause-loaded c =
    let coded : List Bit = take c.code_front-bits.result c.code_front-bits.new.out in
    record {
      room = c.load_silent.ensures.room;
      format = c.load_silent.ensures.format;
      coded = coded;
      is = subst (λ (format : Format). IsCodedTti c.args.channel.now format c.args.blocks.now coded) c.format-kind.ensures.value c.code_front-bits.ensures.coded;
      cells = are_silent c.args.channel.now.frames c.args.places c.args.pattern.now coded c.load_silent.new.self.cells
          (omega (arith, c.kept.ensures.sum, c.if-kept-eq0.true)) c.load_silent.ensures.long c.load_silent.ensures.off;
    }
