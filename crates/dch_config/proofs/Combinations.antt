-- The formats of combinations.
use Rattle.std.proofs.Common.{◌≡◌, ◌≢◌, ◌+◌, ◌<◌, ◌≤◌, ℕ, zero, suc, List, [], ◌∷◌, Bool, true, false, ◌&&◌, length, get_or, drop, nat_lt, nat_eq, refl, ap, arith, add-one, drop-cons, eq-eqb}
use Rattle.std.proofs.lemmas.Bool.Decides.{nat_tests}
use Rattle.std.proofs.lemmas.List.{drop_all}
use Rattle.std.specs.List.{slice_get}
use Rattle.dch_types.specs.declared.channel.Trch.{Trch}
use Rattle.dch_types.specs.Limits.{idled}
use Rattle.dch_config.specs.Sides.{names_formats, same_formats, idled_format}

and_false : (a b : Bool) → b ≡ false → (a && b) ≡ false
and_false true b e = e
and_false false b e = refl

-- formats that are more or fewer than the channels
pub other_length : (channels : List Trch) (formats : List ℕ) → length channels ≢ length formats → names_formats channels formats ≡ false
other_length [] [] other = absurd (other refl)
other_length [] (f ∷ formats) other = refl
other_length (channel ∷ channels) [] other = refl
other_length (channel ∷ channels) (f ∷ formats) other =
    and_false (nat_lt f (length channel.formats)) (names_formats channels formats) (other_length channels formats (λ same. other (ap (λ n. suc n) same)))

pub length-idled : (frames : ℕ) (channels : List Trch) (formats : List ℕ) → length (idled frames channels formats) ≡ length formats
length-idled frames [] formats = refl
length-idled frames (channel ∷ channels) [] = refl
length-idled frames (channel ∷ channels) (f ∷ formats) = ap (λ n. suc n) (length-idled frames channels formats)

-- lists of two lengths
pub same_formats-other : (xs ys : List ℕ) → length xs ≢ length ys → same_formats xs ys ≡ false
same_formats-other [] [] other = absurd (other refl)
same_formats-other [] (y ∷ ys) other = refl
same_formats-other (x ∷ xs) [] other = refl
same_formats-other (x ∷ xs) (y ∷ ys) other = and_false (nat_eq x y) (same_formats xs ys) (same_formats-other xs ys (λ same. other (ap (λ n. suc n) same)))

-- one more place of a combination with idle formats
pub idled-drop : (frames : ℕ) (channels : List Trch) (formats : List ℕ) (i : ℕ) → i < length formats
    → idled frames (drop i channels) (drop i formats) ≡ idled_format frames (slice_get channels i) (get_or formats i 0) ∷ idled frames (drop (suc i) channels) (drop (suc i) formats)
idled-drop frames channels [] i inside = absurd (omega arith)
idled-drop frames [] (f ∷ formats) zero inside = refl
idled-drop frames (channel ∷ channels) (f ∷ formats) zero inside = refl
idled-drop frames [] (f ∷ formats) (suc i) inside = drop-cons formats i 0 (omega arith)
idled-drop frames (channel ∷ channels) (f ∷ formats) (suc i) inside = idled-drop frames channels formats i (omega arith)

-- a place where the other combination has the same format, and one where it has not
pub idled_more : (frames : ℕ) (channels : List Trch) (formats other : List ℕ) (i : ℕ) → i < length formats → i < length other
    → get_or other i 0 ≡ idled_format frames (slice_get channels i) (get_or formats i 0)
    → same_formats (drop i other) (idled frames (drop i channels) (drop i formats)) ≡ same_formats (drop (i + 1) other) (idled frames (drop (i + 1) channels) (drop (i + 1) formats))
idled_more frames channels formats other i inside within same =
    rw (add-one, idled-drop frames channels formats i inside, drop-cons other i 0 within)
    (ap (λ b. b && same_formats (drop (suc i) other) (idled frames (drop (suc i) channels) (drop (suc i) formats))) (eq-eqb (get_or other i 0) (idled_format frames (slice_get channels i) (get_or formats i 0)) same))

pub idled_stop : (frames : ℕ) (channels : List Trch) (formats other : List ℕ) (i : ℕ) → i < length formats → i < length other
    → get_or other i 0 ≢ idled_format frames (slice_get channels i) (get_or formats i 0)
    → same_formats (drop i other) (idled frames (drop i channels) (drop i formats)) ≡ false
idled_stop frames channels formats other i inside within differs =
    let here : nat_eq (get_or other i 0) (idled_format frames (slice_get channels i) (get_or formats i 0)) ≡ false = grind (arith, nat_tests) in
    rw (idled-drop frames channels formats i inside, drop-cons other i 0 within)
    (ap (λ b. b && same_formats (drop (suc i) other) (idled frames (drop (suc i) channels) (drop (suc i) formats))) here)

idled_nothing : (frames : ℕ) (channels : List Trch) → idled frames channels [] ≡ []
idled_nothing frames [] = refl
idled_nothing frames (channel ∷ channels) = refl

-- no place is left
pub idled_done : (frames : ℕ) (channels : List Trch) (formats other : List ℕ) (i : ℕ) → length formats ≤ i → length other ≤ i
    → same_formats (drop i other) (idled frames (drop i channels) (drop i formats)) ≡ true
idled_done frames channels formats other i all done = rw (drop_all i formats all, drop_all i other done, idled_nothing frames (drop i channels)) refl
