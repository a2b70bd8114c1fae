use Rattle.std.proofs.Common.{◌≡◌, ◌<◌, ◌∙◌, ℕ, ap, length, subst, sym, arith}
use Rattle.std.proofs.lemmas.List.{get_or_read}
use Rattle.dch_combine.specs.declared.leg.LegBuffer.{LegBuffer}
use Rattle.dch_combine.specs.Opened.{IsSetCombinerOf}
use Rattle.dch_combine.specs.Values.{SetCombiner, leg_at}
use Rattle.dch_combine.specs.contracts.set.SetCombiner.{the_view}
use Rattle.dch_combine.proofs.Buffers.{set_taken}
use Rattle.dch_combine.proofs.set.SetCombiner.take.Goals as goal

pub returns-clause-opened : goal.returns-clause-opened
returns-clause-opened c =
    let config = c.args.accepted.now.config in
    let count : ℕ = length c.args.self.now.legs in
    let old : SetCombiner = the_view c.self.inside in
    let opened : IsSetCombinerOf config c.args.set count old = subst (λ (s : SetCombiner). IsSetCombinerOf config c.args.set count s) (sym c.self.view_is) c.requires.opened in
    let inside : c.args.leg < length old.legs = omega (arith, opened.all, c.requires.leg) in
    let spare : c.replace.new.blocks ≡ (leg_at old.legs c.args.leg).blocks = c.replace.ensures.left ∙ ap (λ (leg : LegBuffer). leg.blocks) (get_or_read old.legs c.args.leg c.index_mut.result.now inside c.index_mut.ensures.value _) in
    set_taken config c.args.set count c.args.leg c.in-Ok.read.qe c.read_ul.new.out c.replace.new.blocks old c.replace.new.self opened inside c.replace.ensures.taken c.in-Ok.ensures.opened spare
