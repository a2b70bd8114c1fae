-- The rows that tell of channels whose blocks differ are those of such lines.
use Rattle.std.proofs.Common.{◌≡◌, ◌<◌, ◌^◌, ℕ, List, [], ◌∷◌, ◌++◌, refl, ap}
use Rattle.std.specs.Prelude.{◌==◌, ◌&&◌, codes}
use Rattle.dch_types.specs.declared.channel.Dir.{Dir}
use Rattle.dch_types.specs.declared.channel.Dir.TheVariants.{Up, Down}
use Rattle.dch_script.specs.Report.{iub_text, pair_text, phy_text, place_text, unit_text}
use Rattle.dch_node.specs.Lines.{Line, Took, Full, Wrong, Bad, Reserved, NoBearer, Nobody, PduBad, Outside, Overlong, Got, GotBits, Iub, IubBad, Phy, PhyNone, BadTti, Differs}
use Rattle.dch_damage.specs.Damage.{same_dir}
use Rattle.dch_runlaw.specs.TextDiffering.{AreLow, IsLow, false_rows, false_words, falses, is_false}
use Rattle.dch_runlaw.specs.Rows.{row_of, rows_of, starts_with}
use Rattle.dch_runlaw.proofs.TextNumbers.{decimal_ends}
use Rattle.dch_runlaw.proofs.Sublists.{either}

place_starts : (dir d : Dir) (i j : ℕ) → i < 2 ^ 64 → j < 2 ^ 64 → starts_with (false_words dir i) (place_text (codes "false ") d j ++ codes "\n") ≡ (same_dir d dir && (j == i))
unfolding place_text
place_starts Up Up i j low high = decimal_ends i j low high
place_starts Up Down i j low high = refl
place_starts Down Up i j low high = refl
place_starts Down Down i j low high = decimal_ends i j low high

starts_false : (dir : Dir) (i : ℕ) (x : Line) → i < 2 ^ 64 → IsLow x → starts_with (false_words dir i) (row_of x) ≡ is_false dir i x
unfolding place_text pair_text iub_text phy_text unit_text
starts_false dir i (Differs d j) low high = place_starts dir d i j low high
starts_false dir i (Took d c) low high = refl
starts_false dir i (Full d c) low high = refl
starts_false dir i (Wrong d c) low high = refl
starts_false dir i (Bad d j k) low high = refl
starts_false dir i (Reserved d j) low high = refl
starts_false dir i (NoBearer d j ct) low high = refl
starts_false dir i (Nobody d j) low high = refl
starts_false dir i (PduBad d c n) low high = refl
starts_false dir i (Outside d c) low high = refl
starts_false dir i (Overlong d c) low high = refl
starts_false dir i (Got d c octets) low high = refl
starts_false dir i (GotBits d c bits) low high = refl
starts_false dir i (Iub d set octets) low high = refl
starts_false dir i (IubBad d set n) low high = refl
starts_false dir i (Phy d tfci cells) low high = refl
starts_false dir i PhyNone low high = refl
starts_false dir i (BadTti d j n) low high = refl

pub rows_false : (dir : Dir) (i : ℕ) (lines : List Line) → i < 2 ^ 64 → AreLow lines → false_rows dir i (rows_of lines) ≡ rows_of (falses dir i lines)
rows_false dir i [] low high = refl
rows_false dir i (x ∷ lines) low high = either (is_false dir i x)
    (λ e. rw (starts_false dir i x low high.0, e) (ap (λ l. row_of x ∷ l) (rows_false dir i lines low high.1)))
    (λ e. rw (starts_false dir i x low high.0, e) (rows_false dir i lines low high.1))
