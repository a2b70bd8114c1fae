use Rattle.std.proofs.Common.{◌≡◌, ◌+◌, ◌*◌, ℕ, arith, sym, subst, ◌∙◌, length-set, below_more}
use Rattle.dch_mac.specs.Table.{IsRow}
use Rattle.dch_mac.proofs.Lists.{row_here, row_elsewhere}
use Rattle.dch_mac.proofs.moment.Moment.fill_channel.Goals as goal

pub loop-f-preserved : goal.loop-f-preserved
loop-f-preserved c =
    let i : ℕ = c.args.i in
    let f : ℕ = c.loop-f.f in
    let place : ℕ = c.place_of_row.result in
    let is : place ≡ i * 32 + f = c.place_of_row.ensures.value in
    record {
      size = rw length-set c.loop-f.invariant.size;
      written = below_more _ _
          (λ g less. subst (IsRow c.args.self.now i g) (sym (row_elsewhere c.loop-f.rows place i g c.row.result (omega (arith, is, less)))) (c.loop-f.invariant.written g less))
          (subst (IsRow c.args.self.now i f) (sym (row_here c.loop-f.rows place i f c.row.result is (omega (arith, c.place_of_row.ensures.inside, c.loop-f.invariant.size)))) c.row.ensures);
      earlier = λ j g before few. row_elsewhere c.loop-f.rows place j g c.row.result (omega (arith, is, before, few)) ∙ c.loop-f.invariant.earlier j g before few;
    }
