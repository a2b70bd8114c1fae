use Rattle.std.proofs.Common.{◌≡◌, ◌++◌, length, refl, rules, subst, sym, map}
use Rattle.std.proofs.lemmas.List.{map-append, take-append-drop}
use Rattle.dch_bits.specs.Text.{cell_letter}
use Rattle.dch_lines.proofs.Chunks.{chunks_begun, chunks_end, chunks_step}
use Rattle.dch_lines.proofs.text.put_cell_letters.Goals as goal

pub parts-init : goal.parts-init
parts-init g c = chunks_begun g.P.Page.writes (map cell_letter) c.args.page.now c.args.cells.now refl (g.met.P.Page.nothing c.args.page.now)

pub parts-preserved : goal.parts-preserved
parts-preserved g c =
    let cut : c.parts.left.now ≡ c.split_at.result.0.now ++ c.split_at.result.1.now = rw (c.split_at.ensures.front, c.split_at.ensures.back) (sym (take-append-drop c.min.result c.parts.left.now)) in
    chunks_step g.P.Page.writes (map cell_letter) c.args.page.now c.parts.page c.put_text.new.self c.args.cells.now c.parts.left.now c.split_at.result.0.now c.split_at.result.1.now (map-append cell_letter) g.met.P.Page.joined c.parts.invariant cut
    (subst (λ t. g.P.Page.writes c.parts.page t c.put_text.new.self) c.trits_text.ensures c.put_text.ensures)

pub returns : goal.returns
returns g c =
    let none : length c.parts.left.now ≡ 0 = search rules in
    chunks_end g.P.Page.writes (map cell_letter) c.args.page.now c.parts.page c.args.cells.now c.parts.left.now c.parts.invariant none
