use Rattle.std.proofs.Common.{◌≡◌, ◌≤◌, ◌∙◌, ◌∷◌, [], List, Bool, true, length, arith, ap, rules, subst}
use Rattle.std.specs.Prelude.{if◌then◌else◌}
use Rattle.dch_bits.specs.declared.bit.Trit.{Trit}
use Rattle.dch_indication.specs.Told.{line_of}
use Rattle.dch_indication.specs.declared.indication.Indication.{Indication}
use Rattle.dch_script.specs.LineText.{text_of}
use Rattle.dch_gen.specs.Counts.{cells_of, same_dir}
use Rattle.dch_gen.proofs.Counted.{cells_short}
use Rattle.dch_gen.proofs.counts.DirCounts.count.Goals as goal

pub returns-in-Phy-clause-exact : goal.returns-in-Phy-clause-exact
returns-in-Phy-clause-exact c = λ room.
    let same : same_dir c.in-Phy.of c.args.dir ≡ true = search rules in
    let cells : cells_of c.args.dir (line_of c.args.it.now) ≡ c.in-Phy.cells.now =
    ap (λ (it : Indication). cells_of c.args.dir (line_of it)) c.in-Phy.is ∙ ap (λ (b : Bool). if b then c.in-Phy.cells.now else []) same in
    let short : length c.in-Phy.cells.now ≤ length (text_of (line_of c.args.it.now ∷ [])) = subst (λ (l : List Trit). length l ≤ length (text_of (line_of c.args.it.now ∷ []))) cells (cells_short c.args.dir (line_of c.args.it.now)) in
    c.count_cells.ensures.exact (omega (arith, room.cells, short)) (omega (arith, room.ones, short))
