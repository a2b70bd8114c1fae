-- Lines that are told to a queue wait in it, one behind another, where none found no room; and none did where there is
-- room for all of them.
use Rattle.std.proofs.Common.{◌≡◌, ◌+◌, ◌-◌, ◌≤◌, ◌<◌, ℕ, List, [], ◌∷◌, ◌++◌, Bool, false, true, length, map, if◌then◌else◌, ap, sym, ◌∙◌, subst, refl, arith, append_assoc, append-nil, nat_lt, nat_le, length-append}
use Rattle.std.proofs.lemmas.Bool.{false≢true}
use Rattle.dch_indication.specs.Lines.{Line}
use Rattle.dch_indication.specs.Told.{Told as AreTold}
use Rattle.dch_handle.specs.declared.told.Told.{Told}
use Rattle.dch_handle.specs.Telling.{AreBehind, Enters, Waiting, entered, has_place, payload_of, payloads, queued, told_of}

-- one value entered, and the queue lost none
record IsBehind (old : Waiting) (told : Told) (payload : List ℕ) (new : Waiting) : Type 0 where
  kept : old.lost ≡ false
  is : new ≡ queued old told payload

one_of : (b : Bool) (old new : Waiting) (told : Told) (payload : List ℕ)
    → new ≡ (if b then queued old told payload else record old { lost = true }) → new.lost ≡ false → IsBehind old told payload new
one_of true old new told payload is kept = record { kept = ap (λ (q : Waiting). q.lost) (sym is) ∙ kept; is = is }
one_of false old new told payload is kept = absurd (false≢true (sym kept ∙ ap (λ (q : Waiting). q.lost) is))

pub behind : (old new : Waiting) (lines : List Line) → AreTold Enters old lines new → new.lost ≡ false → AreBehind old lines new
behind old new [] told kept = record {
  kept = ap (λ (q : Waiting). q.lost) (sym told) ∙ kept;
  told = ap (λ (q : Waiting). q.told) told ∙ sym (append-nil old.told);
  letters = ap (λ (q : Waiting). q.letters) told ∙ sym (append-nil old.letters);
}
behind old new (line ∷ lines) told kept =
    let mid = told.0 in
    let rest = behind mid new lines told.1.1 kept in
    let one = one_of (has_place old (payload_of line)) old mid (told_of line) (payload_of line) told.1.0 rest.kept in
    record {
      kept = one.kept;
      told = rest.told ∙ ap (λ (q : Waiting). q.told ++ map told_of lines) one.is ∙ append_assoc old.told (told_of line ∷ []) (map told_of lines);
      letters = rest.letters ∙ ap (λ (q : Waiting). q.letters ++ payloads lines) one.is ∙ append_assoc old.letters (payload_of line) (payloads lines);
    }
