-- A list that is filled in place by place.
use Rattle.std.proofs.Common.{◌≡◌, ◌<◌, ◌+◌, ◌++◌, ◌∷◌, ◌∙◌, ℕ, List, [], length, take, arith, ap, sym, map}
use Rattle.std.specs.Prelude.{slice_set}
use Rattle.std.specs.List.{range_with_len}
use Rattle.std.proofs.lemmas.List.{take_more_set}
use Rattle.std.proofs.lemmas.List.FromFn.{map-range_with_len_more}

pub filled_next : {X : Type 0} (f : ℕ → X) (xs : List X) (j : ℕ) (x : X) → j < length xs → take j xs ≡ map f (range_with_len 0 j) → x ≡ f j → take (j + 1) (slice_set xs j x) ≡ map f (range_with_len 0 (j + 1))
filled_next {X} f xs j x within before same =
    take_more_set xs j x within ∙ ap (λ (l : List X). l ++ x ∷ []) before ∙ ap (λ (y : X). map f (range_with_len 0 j) ++ y ∷ []) same ∙ sym (map-range_with_len_more f 0 j j (omega arith))
