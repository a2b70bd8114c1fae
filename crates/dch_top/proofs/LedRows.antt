-- The rows of a text whose lines are led by the number of a leg.
use Rattle.std.proofs.Common.{◌≡◌, ◌∙◌, ◌++◌, ℕ, List, [], ◌∷◌, arith, refl, ap, ap₂, sym, append_assoc, append-nil}
use Rattle.std.specs.Prelude.{◌==◌, codes, decimal, map}
use Rattle.dch_script.specs.Lines.{lines_after, lines_of, rest_after, rest_of}
use Rattle.dch_runlaw.specs.Led.{lead, led_lines}
use Rattle.dch_script.proofs.Lines.{lines_after-append, rest_after-append}
use Rattle.dch_types.specs.declared.channel.Dir.{Dir}
use Rattle.dch_script.specs.Report.{place_text}
use Rattle.dch_runlaw.specs.Rows.{got_rows}
use Rattle.dch_runlaw.proofs.TextRows.{Lacks, decimal_lacks, lacks_append}
use Rattle.dch_runlaw.proofs.Sublists.{either}

-- one whole row
pub record IsRow (row : List ℕ) : Type 0 where
  pub own : lines_of row ≡ row ∷ []
  pub whole : rest_of row ≡ []

abbrev pub AreRows : List (List ℕ) → Type 0
AreRows [] = Unit {0}
AreRows (row ∷ rows) = IsRow row × AreRows rows

-- the words that lead a row have no line feed
lead_lacks : (k : ℕ) → Lacks 10 (lead k)
unfolding lead
lead_lacks k = lacks_append 10 (codes "leg ") (decimal k ++ codes " ") (refl, (refl, (refl, (refl, tt)))) (lacks_append 10 (decimal k) (codes " ") (decimal_lacks 10 k (omega arith)) (refl, tt))

no_row : (begun text : List ℕ) → Lacks 10 text → (lines_after begun text ≡ []) × (rest_after begun text ≡ begun ++ text)
no_row begun [] h = (refl, sym (append-nil begun))
no_row begun (c ∷ text) h = let later = no_row (begun ++ c ∷ []) text h.1 in rw h.0 (later.0, later.1 ∙ append_assoc begun (c ∷ []) text)

-- a row behind the beginning of one
behind : (a b text row : List ℕ) (others : List (List ℕ)) → lines_after b text ≡ row ∷ others → (lines_after (a ++ b) text ≡ (a ++ row) ∷ others) × (rest_after (a ++ b) text ≡ rest_after b text)
behind a b [] row others is = let none : [] ≡ row ∷ others = is in absurd (cc)
behind a b (c ∷ text) row others is = either (c == 10)
    (λ feed.
    let here : (b ++ c ∷ []) ∷ lines_of text ≡ row ∷ others = rw feed at is in
    let first : b ++ c ∷ [] ≡ row = cc in
    let rest : lines_of text ≡ others = cc in
    rw feed (ap₂ (λ r l. r ∷ l) (append_assoc a b (c ∷ []) ∙ ap (λ t. a ++ t) first) rest, refl))
    (λ other.
    let here : lines_after (b ++ c ∷ []) text ≡ row ∷ others = rw other at is in
    let later = behind a (b ++ c ∷ []) text row others here in
    rw (other, append_assoc a b (c ∷ [])) later)

led_row : (k : ℕ) (row : List ℕ) → IsRow row → IsRow (lead k ++ row)
led_row k row is =
    let begun = no_row [] (lead k) (lead_lacks k) in
    let on = behind (lead k) [] row row [] is.own in
    let same : lead k ++ [] ≡ lead k = append-nil (lead k) in
    record {
      own = lines_after-append [] (lead k) row ∙ ap₂ (λ l r. l ++ lines_after r row) begun.0 begun.1 ∙ ap (λ r. lines_after r row) (sym same) ∙ on.0;
      whole = rest_after-append [] (lead k) row ∙ ap (λ r. rest_after r row) (begun.1 ∙ sym same) ∙ on.1 ∙ is.whole;
    }

-- whole rows in front of others
pub rows_on : (text more : List ℕ) → rest_of text ≡ [] → (lines_of (text ++ more) ≡ lines_of text ++ lines_of more) × (rest_of (text ++ more) ≡ rest_of more)
rows_on text more whole = (
  lines_after-append [] text more ∙ ap (λ r. lines_of text ++ lines_after r more) whole,
  rest_after-append [] text more ∙ ap (λ r. rest_after r more) whole,
)

pub led_are : (k : ℕ) (rows : List (List ℕ)) → AreRows rows → (lines_of (led_lines k rows) ≡ map (λ row. lead k ++ row) rows) × (rest_of (led_lines k rows) ≡ [])
led_are k [] are = (refl, refl)
led_are k (row ∷ rows) are =
    let own = led_row k row are.0 in
    let on = rows_on (lead k ++ row) (led_lines k rows) own.whole in
    let later = led_are k rows are.1 in
    (on.0 ∙ ap₂ (λ a b. a ++ b) own.own later.0, on.1 ∙ later.1)

-- none of them hands up a unit
pub led_none : (dir : Dir) (b k : ℕ) (rows : List (List ℕ)) → got_rows dir b (map (λ row. lead k ++ row) rows) ≡ []
unfolding lead place_text
led_none dir b k [] = refl
led_none dir b k (row ∷ rows) = led_none dir b k rows
