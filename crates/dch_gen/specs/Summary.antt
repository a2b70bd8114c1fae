-- The summary of a run.
use Rattle.std.specs.Prelude.{◌++◌, ℕ, zero, suc, List, [], codes, decimal}
use Rattle.dch_types.specs.declared.channel.Dir.{Dir}
use Rattle.dch_types.specs.declared.channel.Dir.TheVariants.{Up, Down}
use Rattle.dch_script.specs.Report.{dir_word}
use Rattle.dch_node.specs.Lines.{Line}
use Rattle.dch_gen.specs.Counts.{cells_sent, ones_sent, units_handed_up, units_taken}

-- a bearer of a direction, with the units that it accepted and those that were handed up
abbrev pub sum_line : Dir → ℕ → ℕ → ℕ → List ℕ
sum_line dir b took got = codes "sum " ++ dir_word dir ++ codes " " ++ decimal b ++ codes " took=" ++ decimal took
    ++ codes " got=" ++ decimal got ++ codes "\n"

-- the first bearers of a direction
abbrev pub sum_lines : Dir → (ℕ → ℕ) → (ℕ → ℕ) → ℕ → List ℕ
sum_lines dir took got zero = []
sum_lines dir took got (suc b) = sum_lines dir took got b ++ sum_line dir b (took b) (got b)

-- a direction, with its cells and the ones among them
abbrev pub phy_line : Dir → ℕ → ℕ → List ℕ
phy_line dir cells ones = codes "phy " ++ dir_word dir ++ codes " cells=" ++ decimal cells ++ codes " ones="
    ++ decimal ones ++ codes "\n"

-- so many radio frames
abbrev pub end_line : ℕ → List ℕ
end_line frames = codes "end frames=" ++ decimal frames ++ codes "\n"

-- the six bearers of both directions, the cells, and the radio frames
abbrev pub dir_sums : Dir → List Line → List ℕ
dir_sums dir lines = sum_lines dir (λ b. units_taken dir b lines) (λ b. units_handed_up dir b lines) 6

abbrev pub dir_cells : Dir → List Line → List ℕ
dir_cells dir lines = phy_line dir (cells_sent dir lines) (ones_sent dir lines)

unfoldable pub summary : ℕ → List Line → List ℕ
summary frames lines = dir_sums Up lines ++ dir_sums Down lines ++ dir_cells Up lines ++ dir_cells Down lines
    ++ end_line frames
