use Rattle.std.proofs.Common.{◌≡◌, ◌-◌, ◌∙◌, List, length, arith, sym, subst, inl, inr, refl}
use Rattle.std.proofs.lemmas.Bool.Decides.{eqb_tells}
use Rattle.dch_bits.specs.declared.bit.Bit.{Bit}
use Rattle.dch_link.specs.Checks.{IsSublist, good_from}
use Rattle.dch_link.specs.Comparing.{FindsNext, blocks_from}
use Rattle.dch_link.proofs.Sublists.{AreLeft, ended, found, stands_at, to_next}
use Rattle.dch_link.proofs.check.are_some.Goals as goal

pub given-init : goal.given-init
given-init c =
    let taken = c.args.taken.now in
    let from : length taken.good - 0 ≡ length taken.good = omega arith in
    let all : c.args.count - 0 ≡ c.args.count = omega arith in
    let same = to_next taken 0 c.next_good-i.result c.next_good-i.ensures in (
      stands_at taken 0 c.next_good-i.result c.next_good-i.ensures,
      (
        λ sub. subst (λ n. IsSublist (good_from taken c.next_good-i.result (length taken.good - c.next_good-i.result)) (blocks_from c.args.given.now 0 n)) (sym all)
            (subst (λ (l : List (List Bit)). IsSublist l (blocks_from c.args.given.now 0 c.args.count)) same (subst (λ n. IsSublist (good_from taken 0 n) (blocks_from c.args.given.now 0 c.args.count)) (sym from) sub)),
        λ left. subst (λ n. IsSublist (good_from taken 0 n) (blocks_from c.args.given.now 0 c.args.count)) from
            (subst (λ (l : List (List Bit)). IsSublist l (blocks_from c.args.given.now 0 c.args.count)) (sym same) (subst (λ n. IsSublist (good_from taken c.next_good-i.result (length taken.good - c.next_good-i.result)) (blocks_from c.args.given.now 0 n)) all left)),
      ),
    )

pub given-preserved : goal.given-preserved
given-preserved c =
    let step = found c.args.taken.now c.args.given.now c.args.count c.given.i c.given.k c.find_next-i.result (omega (arith, c.given-test.true)) c.given.invariant.0
    (subst (λ (b : List Bit). FindsNext c.args.taken.now c.given.i b c.find_next-i.result) c.block.ensures.value c.find_next-i.ensures.next) in
    (step.0, (λ all. step.1.0 (c.given.invariant.1.0 all), λ left. c.given.invariant.1.1 (step.1.1 left)))

pub returns : goal.returns
returns c =
    let taken = c.args.taken.now in
    let given = c.args.given.now in
    let at_end : c.given.k ≡ c.args.count = omega (arith, c.given-test.false, c.given.auto.k-end) in
    let end = ended taken given c.args.count c.given.i c.given.invariant.0 in
    elim (eqb_tells c.given.i c.count.result) [
      | inl is ↦ rw is.0 (λ u. c.given.invariant.1.1 (subst (λ n. AreLeft taken given c.args.count c.given.i n) (sym at_end) (end.0 (is.1 ∙ c.count.ensures))), λ all. refl)
      | inr other ↦ rw other.0 (λ u. cc u, λ all. absurd (other.1 (end.1 (subst (λ n. AreLeft taken given c.args.count c.given.i n) at_end (c.given.invariant.1.0 all)) ∙ sym c.count.ensures)))
    ]
