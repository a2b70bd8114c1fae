-- Where what stands behind a first configuration begins.
use Rattle.std.proofs.Common.{◌≡◌, ◌∙◌, ◌+◌, ◌≤◌, ℕ, suc, List, [], ◌∷◌, Bool, true, false, length, take, drop, ap, subst, refl, arith}
use Rattle.std.specs.Prelude.{◌==◌, ◌||◌, codes, nat_eq, if◌then◌else◌}
use Rattle.std.specs.List.{starts_with}
use Rattle.std.proofs.lemmas.List.{length-take, length-take-le}
use Rattle.dch_config.proofs.Places.{and_second, same_numbers}
use Rattle.dch_check.specs.Both.{behind_mark}
use Rattle.dch_check.specs.Singles.{IsSecondAt, before_second, first_of, meets_second, sets_apart}

-- `--- ` has four bytes
mark_whole : (begins : Bool) (text : List ℕ) → sets_apart begins text ≡ true → 4 ≤ length text
mark_whole begins text apart =
    let same : codes "--- " ≡ take 4 text = same_numbers (codes "--- ") (take 4 text) (and_second begins (starts_with nat_eq text (codes "--- ")) apart) in
    let four : 4 ≡ length (take 4 text) = ap length same in
    omega (arith, four, length-take 4 text)

step : (apart met : Bool) (c : ℕ) (text before behind : List ℕ) → (apart || met) ≡ true → (apart ≡ true → 4 ≤ length (c ∷ text))
    → (met ≡ true → (length before + 4 ≤ length text) × (behind ≡ drop (length before + 4) text))
    → (length (if apart then [] else c ∷ before) + 4 ≤ length (c ∷ text))
    × ((if apart then drop 4 (c ∷ text) else behind) ≡ drop (length (if apart then [] else c ∷ before) + 4) (c ∷ text))
step true met c text before behind is long later = (long refl, refl)
step false met c text before behind is long later =
    let rest = later is in
    let more : suc (length before) + 4 ≡ suc (length before + 4) = omega arith in
    (omega (arith, rest.0), rw more rest.1)

-- the first such line begins behind the first configuration
behind_first : (begins : Bool) (text : List ℕ) → meets_second begins text ≡ true
    → (length (before_second begins text) + 4 ≤ length text) × (behind_mark begins text ≡ drop (length (before_second begins text) + 4) text)
behind_first begins [] meets = absurd (cc)
behind_first begins (c ∷ text) meets =
    step (sets_apart begins (c ∷ text)) (meets_second (c == 10) text) c text (before_second (c == 10) text) (behind_mark (c == 10) text) meets
    (mark_whole begins (c ∷ text)) (behind_first (c == 10) text)

place_is : (text : List ℕ) (at : ℕ) → IsSecondAt text at → length (first_of text) ≡ at
place_is text at is = ap length is.first ∙ length-take-le at text is.within

pub behind_whole : (text : List ℕ) (at : ℕ) → IsSecondAt text at → at + 4 ≤ length text
behind_whole text at is = subst (λ n. n + 4 ≤ length text) (place_is text at is) (behind_first true text is.second).0

pub behind_is : (text : List ℕ) (at : ℕ) → IsSecondAt text at → behind_mark true text ≡ drop (at + 4) text
behind_is text at is = (behind_first true text is.second).1 ∙ ap (λ n. drop (n + 4) text) (place_is text at is)
