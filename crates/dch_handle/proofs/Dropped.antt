-- What waits after the first value was taken.
use Rattle.std.proofs.Common.{◌≡◌, ◌+◌, ℕ, List, Bool, drop, ap, sym, ◌∙◌, subst}
use Rattle.std.proofs.lemmas.List.{drop-drop}
use Rattle.dch_handle.specs.Telling.{Waiting}
use Rattle.dch_handle.specs.declared.told.Told.{Told}

abbrev pub waiting : List Told → List ℕ → ℕ → ℕ → ℕ → ℕ → Bool → Waiting
waiting told letters heads left most room lost = record {
  told = told;
  letters = letters;
  heads_left = heads;
  room_left = left;
  most = most;
  room = room;
  lost = lost;
}

abbrev pub without_first : ℕ → Waiting → Waiting
without_first n queue = record queue { told = drop 1 queue.told; letters = drop n queue.letters }

pub first_taken : (told : List Told) (letters : List ℕ) (at read n heads left most room : ℕ) (lost : Bool) (now : Waiting)
    → now ≡ waiting (drop at told) (drop read letters) heads left most room lost
    → waiting (drop (at + 1) told) (drop (read + n) letters) heads left most room lost ≡ without_first n now
first_taken told letters at read n heads left most room lost now is =
    subst (λ (queue : Waiting). waiting (drop (at + 1) told) (drop (read + n) letters) heads left most room lost ≡ without_first n queue) (sym is)
    (ap (λ (front : List Told). waiting front (drop (read + n) letters) heads left most room lost) (sym (drop-drop 1 at told))
    ∙ ap (λ (rest : List ℕ). waiting (drop 1 (drop at told)) rest heads left most room lost) (sym (drop-drop n read letters)))
