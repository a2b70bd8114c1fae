use Rattle.std.proofs.Common.{◌≡◌, ◌++◌, length, rules, subst, sym}
use Rattle.std.proofs.lemmas.List.{take-append-drop}
use Rattle.hex.specs.Hex.{encode_lower}
use Rattle.dch_script.proofs.Shown.{encode_lower-append}
use Rattle.dch_lines.proofs.Chunks.{chunks_begun, chunks_end, chunks_step, no_digits}
use Rattle.dch_lines.proofs.text.put_digits.Goals as goal

pub parts-init : goal.parts-init
parts-init g c = chunks_begun g.P.Page.writes encode_lower c.args.page.now c.args.octets.now no_digits (g.met.P.Page.nothing c.args.page.now)

pub parts-preserved : goal.parts-preserved
parts-preserved g c =
    let cut : c.parts.left.now ≡ c.split_at.result.0.now ++ c.split_at.result.1.now = rw (c.split_at.ensures.front, c.split_at.ensures.back) (sym (take-append-drop c.min.result c.parts.left.now)) in
    chunks_step g.P.Page.writes encode_lower c.args.page.now c.parts.page c.put_text.new.self c.args.octets.now c.parts.left.now c.split_at.result.0.now c.split_at.result.1.now encode_lower-append g.met.P.Page.joined c.parts.invariant cut
    (subst (λ t. g.P.Page.writes c.parts.page t c.put_text.new.self) c.hex_text.ensures c.put_text.ensures)

pub returns : goal.returns
returns g c =
    let none : length c.parts.left.now ≡ 0 = search rules in
    chunks_end g.P.Page.writes encode_lower c.args.page.now c.parts.page c.args.octets.now c.parts.left.now c.parts.invariant none
