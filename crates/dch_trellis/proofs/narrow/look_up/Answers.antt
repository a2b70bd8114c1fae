use Rattle.std.proofs.Common.{◌≡◌, ◌+◌, ◌-◌, ◌*◌, ◌/◌, ◌<◌, ◌≤◌, ℕ, [], ◌∷◌, List, length, get_or, ap, ap₂, ◌∙◌, arith, refl, w8}
use lib.Lanes.{chunk, digits_l, number_l, Each1}
use Rattle.std.proofs.lemmas.Simd.{SwzOk-from_below, Each1-from_get_or, swz_l, length-chunk, get_or-chunk, length-swz_l, get_or-swz_l_below, get_or-put_chunk_below, get_or-put_chunk_at, get_or_wider}
use Rattle.dch_trellis.proofs.narrow.look_up.Goals as goal

number-two : (bytes : List ℕ) → length bytes ≡ 2 → number_l 256 bytes ≡ get_or bytes 0 0 + 256 * get_or bytes 1 0
number-two [] long = absurd (omega arith)
number-two (a ∷ []) long = absurd (omega arith)
number-two (a ∷ b ∷ []) long = omega arith
number-two (a ∷ b ∷ d ∷ rest) long = absurd (omega arith)

-- number j of two bytes
word_at : (bytes : List ℕ) (j : ℕ) → length bytes ≡ 16 → Each1 (λ x. x < 256) bytes → j < 8 → get_or (digits_l 65536 8 (number_l 256 bytes)) j 0 ≡ get_or bytes (2 * j) 0 + 256 * get_or bytes (2 * j + 1) 0
word_at bytes j long small inside =
    let first : 2 * j + 0 ≡ 2 * j = omega arith in
    get_or_wider 256 2 65536 8 bytes j refl small inside
    ∙ number-two (chunk (2 * j) 2 bytes) (length-chunk (2 * j) 2 bytes (omega arith))
    ∙ ap₂ (λ x y. x + 256 * y) (get_or-chunk (2 * j) 2 bytes 0 0 (omega arith) ∙ ap (λ n. get_or bytes n 0) first) (get_or-chunk (2 * j) 2 bytes 1 0 (omega arith))

-- the bytes that are looked up
abbrev found_at : List ℕ → List ℕ → ℕ → List ℕ
found_at bytes places at = swz_l w8 16 bytes 0 (chunk (2 * at) 16 places)

place_at : (places : List ℕ) (at j : ℕ) → 2 * at + 16 ≤ length places → j < 16 → get_or (chunk (2 * at) 16 places) j 0 ≡ get_or places (2 * at + j) 0
place_at places at j inside small = get_or-chunk (2 * at) 16 places j 0 small

byte_at : (bytes places : List ℕ) (at j : ℕ) → 2 * at + 16 ≤ length places → ((i : ℕ) → i < length places → get_or places i 0 < 16) → j < 16 → get_or (found_at bytes places at) j 0 ≡ get_or bytes (get_or places (2 * at + j) 0) 0
byte_at bytes places at j inside below small =
    let js : List ℕ = chunk (2 * at) 16 places in
    let long : length js ≡ 16 = length-chunk (2 * at) 16 places inside in
    let place : get_or js j 0 ≡ get_or places (2 * at + j) 0 = place_at places at j inside small in
    let first : 16 * ((0 + j) / 16) + get_or js j 0 ≡ get_or places (2 * at + j) 0 = omega (arith, place) in
    get_or-swz_l_below w8 16 bytes 0 js j (omega arith) (omega (arith, place, below (2 * at + j) (omega arith)))
    ∙ ap (λ n. get_or bytes n 0) first

found-long : (bytes places : List ℕ) (at : ℕ) → 2 * at + 16 ≤ length places → length (found_at bytes places at) ≡ 16
found-long bytes places at inside = length-swz_l w8 16 bytes 0 (chunk (2 * at) 16 places) ∙ length-chunk (2 * at) 16 places inside

found-small : (bytes places : List ℕ) (at : ℕ) → 2 * at + 16 ≤ length places → ((i : ℕ) → i < length places → get_or places i 0 < 16) → ((i : ℕ) → get_or bytes i 0 < 256) → Each1 (λ x. x < 256) (found_at bytes places at)
found-small bytes places at inside below small =
    let long : length (found_at bytes places at) ≡ 16 = found-long bytes places at inside in
    Each1-from_get_or (λ x. x < 256) (found_at bytes places at) 0
    (λ j lt. omega (arith, byte_at bytes places at j inside below (omega arith), small (get_or places (2 * at + j) 0)))

pub swizzle-found : goal.swizzle-found
swizzle-found c =
    let js : List ℕ = chunk (2 * c.args.at) 16 c.args.places.now in
    let long : length js ≡ 16 = length-chunk (2 * c.args.at) 16 c.args.places.now c.requires.inside in
    SwzOk-from_below w8 16 1 16 0 js refl (omega arith)
    (Each1-from_get_or (λ j. j < 16) js 0 (λ i inside. omega (arith, place_at c.args.places.now c.args.at i c.requires.inside (omega arith), c.requires.places (2 * c.args.at + i) (omega (arith, c.requires.inside)))))

pub returns-clause-here : goal.returns-clause-here
returns-clause-here c = λ i low high.
    let at : ℕ = c.args.at in
    let bytes : List ℕ = c.args.bytes in
    let places : List ℕ = c.args.places.now in
    let ys : List ℕ = found_at bytes places at in
    let words : List ℕ = digits_l 65536 8 (number_l 256 ys) in
    let wide : length words ≡ 8 = refl in
    let j : ℕ = i - at in
    let place : i ≡ at + j = omega arith in
    let first : 2 * at + 2 * j ≡ 2 * (at + j) = omega arith in
    let second : 2 * at + (2 * j + 1) ≡ 2 * (at + j) + 1 = omega arith in
    rw place
    (get_or-put_chunk_at at c.args.near.now words j 0 (omega arith) (omega (arith, c.requires.room))
    ∙ word_at ys j (found-long bytes places at c.requires.inside) (found-small bytes places at c.requires.inside c.requires.places c.requires.bytes) (omega arith)
    ∙ ap₂ (λ x y. x + 256 * y)
    (byte_at bytes places at (2 * j) c.requires.inside c.requires.places (omega arith) ∙ ap (λ n. get_or bytes (get_or places n 0) 0) first)
    (byte_at bytes places at (2 * j + 1) c.requires.inside c.requires.places (omega arith) ∙ ap (λ n. get_or bytes (get_or places n 0) 0) second))

pub returns-clause-before : goal.returns-clause-before
returns-clause-before c = λ i low. get_or-put_chunk_below c.args.at c.args.near.now (digits_l 65536 8 (number_l 256 (found_at c.args.bytes c.args.places.now c.args.at))) i 0 low
