-- The text of a summary.
use Rattle.std.proofs.Common.{◌≡◌, ◌<◌, ◌≤◌, ◌^◌, ◌++◌, ◌∙◌, ℕ, zero, suc, List, length, arith, refl, ap, append_assoc, length-append}
use Rattle.std.specs.Prelude.{codes, decimal, slice_index}
use Rattle.dch_types.specs.declared.channel.Dir.{Dir}
use Rattle.dch_types.specs.declared.channel.Dir.TheVariants.{Up, Down}
use Rattle.dch_script.specs.Held.{Held}
use Rattle.dch_script.specs.Report.{line_text}
use Rattle.dch_script.specs.declared.report.Line.TheVariants.{EndFrames}
use Rattle.dch_node.specs.Lines.{Line}
use Rattle.dch_gen.specs.Counting.{AreCountsOf, IsCountOf}
use Rattle.dch_gen.specs.Counts.{cells_sent, units_handed_up, units_taken}
use Rattle.dch_gen.specs.Summary.{dir_cells, dir_sums, end_line, phy_line, sum_line, sum_lines, summary}
use Rattle.dch_gen.specs.declared.counts.Counts.{Counts}
use Rattle.dch_gen.specs.declared.counts.DirCounts.{DirCounts}
use Rattle.dch_gen.proofs.Sizes.{decimal_short}

pub end_short : (n : ℕ) → n < 2 ^ 64 → length (line_text (EndFrames n)) ≤ 32
end_short n small = omega (arith, length-append (codes "end frames=" ++ decimal n) (codes "\n"), length-append (codes "end frames=") (decimal n), decimal_short n small)

-- equal counts have equal lines
sums_same : (dir : Dir) (took got taken handed : ℕ → ℕ) (count : ℕ) → ((b : ℕ) → b < count → took b ≡ taken b) → ((b : ℕ) → b < count → got b ≡ handed b) → sum_lines dir took got count ≡ sum_lines dir taken handed count
sums_same dir took got taken handed zero one other = refl
sums_same dir took got taken handed (suc b) one other =
    let small : b < suc b = omega arith in
    let before = sums_same dir took got taken handed b (λ k less. one k (omega (arith, less))) (λ k less. other k (omega (arith, less))) in
    ap (λ (t : List ℕ). t ++ sum_line dir b (took b) (got b)) before
    ∙ ap (λ n. sum_lines dir taken handed b ++ sum_line dir b n (got b)) (one b small)
    ∙ ap (λ n. sum_lines dir taken handed b ++ sum_line dir b (taken b) n) (other b small)

-- the lines of a direction's counts
abbrev pub sums_of : Dir → DirCounts → List ℕ
sums_of dir counts = sum_lines dir (λ b. slice_index counts.took b) (λ b. slice_index counts.got b) 6

sums_are : (dir : Dir) (lines : List Line) (counts : DirCounts) → IsCountOf dir lines counts → sums_of dir counts ≡ dir_sums dir lines
sums_are dir lines counts is = sums_same dir (λ b. slice_index counts.took b) (λ b. slice_index counts.got b) (λ b. units_taken dir b lines) (λ b. units_handed_up dir b lines) 6 is.took is.got

cells_are : (dir : Dir) (lines : List Line) (counts : DirCounts) → IsCountOf dir lines counts → phy_line dir counts.cells counts.ones ≡ dir_cells dir lines
cells_are dir lines counts is = ap (λ n. phy_line dir n counts.ones) is.cells ∙ ap (λ n. phy_line dir (cells_sent dir lines) n) is.ones

-- five texts one after another
five : (before a b c d e : List ℕ) → ((((before ++ a) ++ b) ++ c) ++ d) ++ e ≡ before ++ (a ++ b ++ c ++ d ++ e)
five before a b c d e = simp append_assoc

pub written : (frames n : ℕ) (lines : List Line) (counts : Counts) (before one two three four five : Held) → AreCountsOf lines counts → n ≡ frames
    → one ≡ record before { text = before.text ++ sums_of Up counts.up } → two ≡ record one { text = one.text ++ sums_of Down counts.down }
    → three ≡ record two { text = two.text ++ phy_line Up counts.up.cells counts.up.ones } → four ≡ record three { text = three.text ++ phy_line Down counts.down.cells counts.down.ones }
    → five ≡ record four { text = four.text ++ line_text (EndFrames n) } → five ≡ record before { text = before.text ++ summary frames lines }
unfolding summary
written frames n lines counts before one two three four last are same e1 e2 e3 e4 e5 =
    let t1 : one.text ≡ before.text ++ dir_sums Up lines = ap (λ (h : Held). h.text) e1 ∙ ap (λ (t : List ℕ). before.text ++ t) (sums_are Up lines counts.up are.up) in
    let t2 : two.text ≡ (before.text ++ dir_sums Up lines) ++ dir_sums Down lines = ap (λ (h : Held). h.text) e2 ∙ ap (λ (t : List ℕ). one.text ++ t) (sums_are Down lines counts.down are.down) ∙ ap (λ (t : List ℕ). t ++ dir_sums Down lines) t1 in
    let t3 : three.text ≡ ((before.text ++ dir_sums Up lines) ++ dir_sums Down lines) ++ dir_cells Up lines = ap (λ (h : Held). h.text) e3 ∙ ap (λ (t : List ℕ). two.text ++ t) (cells_are Up lines counts.up are.up) ∙ ap (λ (t : List ℕ). t ++ dir_cells Up lines) t2 in
    let t4 : four.text ≡ (((before.text ++ dir_sums Up lines) ++ dir_sums Down lines) ++ dir_cells Up lines) ++ dir_cells Down lines = ap (λ (h : Held). h.text) e4 ∙ ap (λ (t : List ℕ). three.text ++ t) (cells_are Down lines counts.down are.down) ∙ ap (λ (t : List ℕ). t ++ dir_cells Down lines) t3 in
    let t5 : last.text ≡ ((((before.text ++ dir_sums Up lines) ++ dir_sums Down lines) ++ dir_cells Up lines) ++ dir_cells Down lines) ++ end_line frames = ap (λ (h : Held). h.text) e5 ∙ ap (λ k. four.text ++ end_line k) same ∙ ap (λ (t : List ℕ). t ++ end_line frames) t4 in
    let most : last.most ≡ before.most = ap (λ (h : Held). h.most) e5 ∙ ap (λ (h : Held). h.most) e4 ∙ ap (λ (h : Held). h.most) e3 ∙ ap (λ (h : Held). h.most) e2 ∙ ap (λ (h : Held). h.most) e1 in
    let whole = t5 ∙ five before.text (dir_sums Up lines) (dir_sums Down lines) (dir_cells Up lines) (dir_cells Down lines) (end_line frames) in
    ap (λ (t : List ℕ). record { text = t; most = last.most }) whole ∙ ap (λ m. record { text = before.text ++ (dir_sums Up lines ++ dir_sums Down lines ++ dir_cells Up lines ++ dir_cells Down lines ++ end_line frames); most = m }) most
