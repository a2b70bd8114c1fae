-- The rows of lines that hand up units are those of such lines.
use Rattle.std.proofs.Common.{◌≡◌, ◌<◌, ◌^◌, ℕ, List, [], ◌∷◌, ◌++◌, Bool, true, false, arith, refl, sym, ap, ap₂, ◌∙◌, append_assoc}
use Rattle.std.specs.Prelude.{◌==◌, ◌&&◌, codes, decimal}
use Rattle.std.proofs.lemmas.Fmt.{decimal_injective}
use Rattle.dch_types.specs.declared.channel.Dir.{Dir}
use Rattle.dch_types.specs.declared.channel.Dir.TheVariants.{Up, Down}
use Rattle.dch_script.specs.Report.{bits_shown, iub_text, octets_shown, pair_text, phy_text, place_text, unit_text}
use Rattle.dch_node.specs.Lines.{Line, Took, Full, Wrong, Bad, Reserved, NoBearer, Nobody, PduBad, Outside, Overlong, Got, GotBits, Iub, IubBad, Phy, PhyNone, BadTti, Differs}
use Rattle.dch_damage.specs.Damage.{same_dir}
use Rattle.dch_runlaw.specs.Rows.{AreSmall, IsSmall, got_rows, got_words, gots, is_got, row_of, rows_of, starts_with}
use Rattle.dch_runlaw.proofs.Names.{number_same, other_number, same_number}
use Rattle.dch_runlaw.proofs.Sublists.{either}
use Rattle.dch_lines.proofs.TextRows.{Lacks, decimal_lacks}

-- numbers up to a letter
abbrev pub same_list : List ℕ → List ℕ → Bool
same_list [] [] = true
same_list [] (y ∷ ys) = false
same_list (x ∷ xs) [] = false
same_list (x ∷ xs) (y ∷ ys) = (x == y) && same_list xs ys

same_self : (xs : List ℕ) → same_list xs xs ≡ true
same_self [] = refl
same_self (x ∷ xs) = rw (same_number x x refl) (same_self xs)

same_is : (xs ys : List ℕ) → same_list xs ys ≡ true → xs ≡ ys
same_is [] [] e = refl
same_is [] (y ∷ ys) e = absurd (cc)
same_is (x ∷ xs) [] e = absurd (cc)
same_is (x ∷ xs) (y ∷ ys) e = let both = split (x == y) (same_list xs ys) e in ap₂ (λ h t. h ∷ t) (number_same x y both.0) (same_is xs ys both.1)
  where
    split : (a b : Bool) → (a && b) ≡ true → (a ≡ true) × (b ≡ true)
    split true b e = (refl, e)
    split false b e = absurd (cc)

pub to_letter : (k : ℕ) (xs ys zs : List ℕ) → Lacks k xs → Lacks k ys → starts_with (xs ++ k ∷ []) (ys ++ (k ∷ zs)) ≡ same_list xs ys
to_letter k [] [] zs h g = rw (same_number k k refl) refl
to_letter k [] (y ∷ ys) zs h g = rw (other_number k y (λ e. let t : (y == k) ≡ true = same_number y k (sym e) in let f : (y == k) ≡ false = g.0 in absurd (cc))) refl
to_letter k (x ∷ xs) [] zs h g = rw h.0 refl
to_letter k (x ∷ xs) (y ∷ ys) zs h g = ap (λ b. (x == y) && b) (to_letter k xs ys zs h.1 g.1)

pub same_decimal : (b c : ℕ) → b < 2 ^ 64 → c < 2 ^ 64 → same_list (decimal b) (decimal c) ≡ (c == b)
same_decimal b c low high = either (c == b)
    (λ q. rw (q, number_same c b q) (same_self (decimal b)))
    (λ q. rw q (either (same_list (decimal b) (decimal c))
    (λ e. let same : b ≡ c = decimal_injective b c low high (same_is (decimal b) (decimal c) e) in let t : (c == b) ≡ true = same_number c b (sym same) in absurd (cc))
    (λ e. e)))

-- behind the word and the direction
number_starts : (b c : ℕ) (u : List ℕ) → b < 2 ^ 64 → c < 2 ^ 64 → starts_with (decimal b ++ 32 ∷ []) (decimal c ++ 32 ∷ [] ++ u ++ 10 ∷ []) ≡ (c == b)
number_starts b c u low high =
    ap (starts_with (decimal b ++ 32 ∷ [])) (append_assoc (decimal c ++ 32 ∷ []) u (10 ∷ []) ∙ append_assoc (decimal c) (32 ∷ []) (u ++ 10 ∷ []))
    ∙ to_letter 32 (decimal b) (decimal c) (u ++ 10 ∷ []) (decimal_lacks 32 b (omega arith)) (decimal_lacks 32 c (omega arith))
    ∙ same_decimal b c low high

unit_starts : (dir d : Dir) (b c : ℕ) (u : List ℕ) → b < 2 ^ 64 → c < 2 ^ 64 → starts_with (got_words dir b) (unit_text d c u ++ codes "\n") ≡ (same_dir d dir && (c == b))
unfolding place_text unit_text
unit_starts Up Up b c u low high = number_starts b c u low high
unit_starts Up Down b c u low high = refl
unit_starts Down Up b c u low high = refl
unit_starts Down Down b c u low high = number_starts b c u low high

starts_got : (dir : Dir) (b : ℕ) (x : Line) → b < 2 ^ 64 → IsSmall x → starts_with (got_words dir b) (row_of x) ≡ is_got dir b x
unfolding place_text pair_text iub_text phy_text
starts_got dir b (Got d c octets) low small = unit_starts dir d b c (octets_shown octets) low small
starts_got dir b (GotBits d c bits) low small = unit_starts dir d b c (bits_shown bits) low small
starts_got dir b (Iub d set octets) low small = refl
starts_got dir b (Phy d tfci cells) low small = refl
starts_got dir b PhyNone low small = refl
starts_got dir b (Took d c) low small = refl
starts_got dir b (Full d c) low small = refl
starts_got dir b (Wrong d c) low small = refl
starts_got dir b (Bad d i k) low small = refl
starts_got dir b (Reserved d i) low small = refl
starts_got dir b (NoBearer d i ct) low small = refl
starts_got dir b (Nobody d i) low small = refl
starts_got dir b (PduBad d c n) low small = refl
starts_got dir b (Outside d c) low small = refl
starts_got dir b (Overlong d c) low small = refl
starts_got dir b (IubBad d set n) low small = refl
starts_got dir b (BadTti d i n) low small = refl
starts_got dir b (Differs d i) low small = refl

pub rows_got : (dir : Dir) (b : ℕ) (lines : List Line) → b < 2 ^ 64 → AreSmall lines → got_rows dir b (rows_of lines) ≡ rows_of (gots dir b lines)
rows_got dir b [] low small = refl
rows_got dir b (x ∷ lines) low small = either (is_got dir b x)
    (λ e. rw (starts_got dir b x low small.0, e) (ap (λ l. row_of x ∷ l) (rows_got dir b lines low small.1)))
    (λ e. rw (starts_got dir b x low small.0, e) (rows_got dir b lines low small.1))
