use Rattle.std.proofs.Common.{◌≡◌, ◌<◌, ◌∙◌, All, ◌++◌, arith, ap, drop, map, refl, subst, sym, take}
use Rattle.dch_am.specs.Status.{fits, most, runs}
use Rattle.dch_amrecv.specs.Places.{vacant}
use Rattle.dch_amrecv.specs.Holding.{numbered, pairs_told}
use Rattle.dch_amrecv.proofs.Runs.{most_fits, runs_short, take-numbered_short, told_pairs}
use Rattle.dch_amrecv.proofs.holder.Holder.missing_runs.Goals as goal

told : (c : goal.After-advanced) → take c.most-count.result (c.number.new.pairs ++ drop c.most-count.result c.missing_runs-total.new.out) ≡ map (numbered c.self.inside.next) (take c.most-count.result (runs (vacant 0 c.self.inside.buffer.kept.places)))
told c = told_pairs (numbered c.self.inside.next) c.most-count.result (runs (vacant 0 c.self.inside.buffer.kept.places)) c.args.pairs.now c.missing_runs-total.new.out c.number.new.pairs _ c.missing_runs-total.ensures.runs c.requires.room c.most-count.ensures.few (omega (arith, c.most-count.ensures.within, c.missing_runs-total.ensures.count)) c.number.ensures

pub returns-clause-pairs : goal.returns-clause-pairs
returns-clause-pairs c =
    told c
    ∙ (ap (λ k. map (numbered c.self.inside.next) (take k (runs (vacant 0 c.self.inside.buffer.kept.places)))) (c.most-count.ensures.value ∙ ap (most c.args.bits) c.missing_runs-total.ensures.count)
    ∙ ap (pairs_told c.args.bits) c.self.view_is)

pub returns-clause-fit : goal.returns-clause-fit
returns-clause-fit c = ap (fits c.args.bits) c.most-count.ensures.value ∙ most_fits c.args.bits c.missing_runs-total.result c.requires.least

pub returns-clause-small : goal.returns-clause-small
returns-clause-small c = subst (λ xs. All (λ p. (p.0 < 4096) × (p.1 < 16)) xs) (sym (told c)) (take-numbered_short c.most-count.result (numbered c.self.inside.next) (runs (vacant 0 c.self.inside.buffer.kept.places)) (λ p. (omega arith, refl)) (runs_short (vacant 0 c.self.inside.buffer.kept.places)))
