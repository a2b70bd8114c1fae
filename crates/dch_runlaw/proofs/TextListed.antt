-- Where a line tells of a channel that its blocks differ there is its row, and where there is the row there is the line.
use Rattle.std.proofs.Common.{◌≡◌, ◌<◌, ◌↔◌, ◌∙◌, ℕ, zero, suc, List, [], ◌∷◌, true, Contains, length, slice_index_or, arith, refl, sym, ap, ap₂, subst}
use Rattle.std.specs.Prelude.{◌==◌}
use Rattle.dch_types.specs.declared.channel.Dir.{Dir}
use Rattle.dch_types.specs.declared.channel.Dir.TheVariants.{Up, Down}
use Rattle.dch_node.specs.Lines.{Line, Took, Full, Wrong, Bad, Reserved, NoBearer, Nobody, PduBad, Outside, Overlong, Got, GotBits, Iub, IubBad, Phy, PhyNone, BadTti, Differs}
use Rattle.dch_damage.specs.Damage.{same_dir}
use Rattle.dch_runlaw.specs.Rows.{row_of, rows_of, starts_with}
use Rattle.dch_runlaw.proofs.Names.{both_true, number_same, same_number}
use Rattle.dch_runlaw.proofs.Sublists.{either}
use Rattle.dch_runlaw.specs.TextDiffering.{false_rows, false_words, falses, is_false}

-- an element of a list
first_in : {X : Type 0} (x y : X) (xs : List X) → y ≡ x → Contains (y ∷ xs) x
first_in x y xs e = (0, omega arith, e)

later_in : {X : Type 0} (x y : X) (xs : List X) → Contains xs x → Contains (y ∷ xs) x
later_in x y xs h = (suc h.0, (let low = h.1 in omega (arith, low)), h.2)

-- which lines tell it
dir_same : (d dir : Dir) → same_dir d dir ≡ true → d ≡ dir
dir_same Up Up e = refl
dir_same Up Down e = absurd (cc)
dir_same Down Up e = absurd (cc)
dir_same Down Down e = refl

false_is : (dir : Dir) (i : ℕ) (x : Line) → is_false dir i x ≡ true → x ≡ Differs dir i
false_is dir i (Differs d j) e = let both = both_true (same_dir d dir) (j == i) e in ap₂ Differs (dir_same d dir both.0) (number_same j i both.1)
false_is dir i (Took d c) e = absurd (cc)
false_is dir i (Full d c) e = absurd (cc)
false_is dir i (Wrong d c) e = absurd (cc)
false_is dir i (Bad d j k) e = absurd (cc)
false_is dir i (Reserved d j) e = absurd (cc)
false_is dir i (NoBearer d j ct) e = absurd (cc)
false_is dir i (Nobody d j) e = absurd (cc)
false_is dir i (PduBad d c n) e = absurd (cc)
false_is dir i (Outside d c) e = absurd (cc)
false_is dir i (Overlong d c) e = absurd (cc)
false_is dir i (Got d c octets) e = absurd (cc)
false_is dir i (GotBits d c bits) e = absurd (cc)
false_is dir i (Iub d set octets) e = absurd (cc)
false_is dir i (IubBad d set n) e = absurd (cc)
false_is dir i (Phy d tfci cells) e = absurd (cc)
false_is dir i PhyNone e = absurd (cc)
false_is dir i (BadTti d j n) e = absurd (cc)

is_own : (dir : Dir) (i : ℕ) → is_false dir i (Differs dir i) ≡ true
is_own Up i = same_number i i refl
is_own Down i = same_number i i refl

-- the first of them is among the lines
record Found (dir : Dir) (i : ℕ) (lines : List Line) (x : Line) : Type 0 where
  same : x ≡ Differs dir i
  there : Contains lines (Differs dir i)

found : (dir : Dir) (i : ℕ) (lines : List Line) (x : Line) (xs : List Line) → falses dir i lines ≡ x ∷ xs → Found dir i lines x
found dir i [] x xs = λ e. absurd (cc)
found dir i (y ∷ lines) x xs = either (is_false dir i y)
    (λ t. rw t (λ e. let is : y ≡ Differs dir i = false_is dir i y t in let same : y ≡ x = cc in record { same = sym same ∙ is; there = first_in (Differs dir i) y lines is }))
    (λ t. rw t (λ e. let f = found dir i lines x xs e in record { same = f.same; there = later_in (Differs dir i) y lines f.there }))

-- and where a line is among them there is one
some_false : (dir : Dir) (i : ℕ) (lines : List Line) (k : ℕ) → k < length lines → slice_index_or lines k (Differs dir i) ≡ Differs dir i → falses dir i lines ≡ [] → ⊥
some_false dir i [] k low is = absurd (omega (arith, low))
some_false dir i (y ∷ lines) zero low is = let t : is_false dir i y ≡ true = ap (is_false dir i) is ∙ is_own dir i in rw t (λ e. absurd (cc))
some_false dir i (y ∷ lines) (suc k) low is = either (is_false dir i y)
    (λ t. rw t (λ e. absurd (cc)))
    (λ t. rw t (λ e. some_false dir i lines k (omega (arith, low)) is e))

-- the same of rows
starts_self : (text : List ℕ) → starts_with text text ≡ true
starts_self [] = refl
starts_self (c ∷ text) = rw (same_number c c refl) (starts_self text)

row_found : (dir : Dir) (i : ℕ) (rows : List (List ℕ)) (row : List ℕ) (more : List (List ℕ)) → false_rows dir i rows ≡ row ∷ more → Contains rows row
row_found dir i [] row more = λ e. absurd (cc)
row_found dir i (y ∷ rows) row more = either (starts_with (false_words dir i) y)
    (λ t. rw t (λ e. let same : y ≡ row = cc in first_in row y rows same))
    (λ t. rw t (λ e. later_in row y rows (row_found dir i rows row more e)))

some_row : (dir : Dir) (i : ℕ) (rows : List (List ℕ)) (k : ℕ) → k < length rows → slice_index_or rows k (false_words dir i) ≡ false_words dir i → false_rows dir i rows ≡ [] → ⊥
some_row dir i [] k low is = absurd (omega (arith, low))
some_row dir i (y ∷ rows) zero low is = let t : starts_with (false_words dir i) y ≡ true = ap (starts_with (false_words dir i)) is ∙ starts_self (false_words dir i) in rw t (λ e. absurd (cc))
some_row dir i (y ∷ rows) (suc k) low is = either (starts_with (false_words dir i) y)
    (λ t. rw t (λ e. absurd (cc)))
    (λ t. rw t (λ e. some_row dir i rows k (omega (arith, low)) is e))

pub listed : (dir : Dir) (i : ℕ) (rows : List (List ℕ)) (lines : List Line) → false_rows dir i rows ≡ rows_of (falses dir i lines) → Contains rows (false_words dir i) ↔ Contains lines (Differs dir i)
listed dir i rows lines are = go (falses dir i lines) refl
  where
    go : (xs : List Line) → falses dir i lines ≡ xs → Contains rows (false_words dir i) ↔ Contains lines (Differs dir i)
    go [] e = (λ h. absurd (some_row dir i rows h.0 h.1 h.2 (are ∙ ap rows_of e)), λ h. absurd (some_false dir i lines h.0 h.1 h.2 e))
    go (x ∷ xs) e =
        let f = found dir i lines x xs e in
        (λ h. f.there, λ h. subst (Contains rows) (ap row_of f.same) (row_found dir i rows (row_of x) (rows_of xs) (are ∙ ap rows_of e)))
