-- The text of lines in parts.
use Rattle.std.proofs.Common.{◌≡◌, ◌+◌, ℕ, List, [], ◌∷◌, ◌++◌, arith, ap, sym, ◌∙◌, append_assoc, inl, inr, ⊎_elim}
use Rattle.std.specs.Prelude.{not, if◌then◌else◌}
use Rattle.std.proofs.lemmas.List.Sums.{sum_by-append}
use Rattle.dch_lines.specs.Semantics.{Semantics}
use Rattle.dch_lines.specs.LineTexts.{HandlesFront, HandlesLines, is_empty, nonempty_lines}

-- the text of lines after others
pub says_append : {S : Type 0} (semantics : Semantics S) (x y z : S) (a b : List (List ℕ)) (s t : List ℕ) → HandlesLines semantics x a y s → HandlesLines semantics y b z t → HandlesLines semantics x (a ++ b) z (s ++ t)
says_append semantics x y z [] b s t first rest = let here = rw first.0 at rest in rw first.1 here
says_append semantics x y z (line ∷ a) b s t (mid, (f, (r, (handles, more, whole)))) rest =
    (mid, (f, (r ++ t, (handles, says_append semantics mid y z a b r t more rest, ap (λ l. l ++ t) whole ∙ append_assoc f r t))))

-- the same, where the last line is maybe done in part
pub front_append : {S : Type 0} (semantics : Semantics S) (x y z : S) (a b : List (List ℕ)) (s t : List ℕ) → HandlesLines semantics x a y s → HandlesFront semantics y b z t → HandlesFront semantics x (a ++ b) z (s ++ t)
front_append semantics x y z a b s t first front =
    ⊎_elim
    (λ whole. inl (says_append semantics x y z a b s t first whole))
    (λ begun. inr (record {
      before = a ++ begun.before;
      line = begun.line;
      ends = ap (λ l. a ++ l) begun.ends ∙ sym (append_assoc a begun.before (begun.line ∷ []));
      state = begun.state;
      done = s ++ begun.done;
      handles = says_append semantics x y begun.state a begun.before s begun.done first begun.handles;
      more = begun.more;
      begins = begun.begins;
      whole = ap (λ l. s ++ l) begun.whole ∙ sym (append_assoc s begun.done begun.more);
    }))
    front

-- where no line is left off in its midst, none is done in part
pub whole_front : {S : Type 0} (semantics : Semantics S) (old new : S) (lines : List (List ℕ)) (text : List ℕ) → ((old new : S) (line text : List ℕ) → semantics.begins old line new text → ⊥) → HandlesFront semantics old lines new text → HandlesLines semantics old lines new text
whole_front semantics old new lines text none front = ⊎_elim (λ whole. whole) (λ begun. absurd (none begun.state new begun.line begun.more begun.begins.begins)) front

pub nonempty_lines-append : (a b : List (List ℕ)) → nonempty_lines (a ++ b) ≡ nonempty_lines a + nonempty_lines b
nonempty_lines-append a b = sum_by-append (λ line. if not (is_empty line) then 1 else 0) a b
