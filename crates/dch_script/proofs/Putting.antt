-- Text that is put into a report as far as there is room.
use Rattle.std.proofs.Common.{◌≡◌, ◌<◌, ◌≤◌, ◌+◌, ◌*◌, ◌/◌, ◌++◌, ◌∙◌, ℕ, zero, suc, List, [], ◌∷◌, length, map, min, drop, get_or, subst, take, arith, refl, ap, ap₂, sym, inl, inr, append_assoc, length-append}
use Rattle.std.proofs.Math.Seq.{take-append-add, take-append_seam}
use Rattle.std.proofs.lemmas.Bool.{cases_lt}
use Rattle.std.proofs.lemmas.List.{length-map, length-take, length-take-le, take-map, take_all}
use Rattle.hex.specs.Hex.{encode_lower}
use Rattle.dch_script.specs.Held.{Held}
use Rattle.dch_script.specs.Putting.{Puts}
use Rattle.dch_script.proofs.Shown.{encode_lower-cut, encode_lower_len}

-- what was cut stays so
take_cut : (n : ℕ) (x y : List ℕ) → take n (take n x ++ y) ≡ take n (x ++ y)
take_cut zero x y = refl
take_cut (suc n) [] y = refl
take_cut (suc n) (c ∷ x) y = ap (λ t. c ∷ t) (take_cut n x y)

-- a text, and then more
pub puts_next : {a b c : Held} {x y : List ℕ} → Puts a x b → Puts b y c → Puts a (x ++ y) c
puts_next {a} {b} {c} {x} {y} first then = record {
  most = then.most ∙ first.most;
  cut = then.cut ∙ (ap₂ (λ (n : ℕ) (t : List ℕ). take n (t ++ y)) first.most first.cut ∙ (take_cut a.most (a.text ++ x) y ∙ ap (λ t. take a.most t) (append_assoc a.text x y)));
}

-- where there was room for all of it
puts_whole : (a : Held) (x : List ℕ) → length a.text + length x ≤ a.most → take a.most (a.text ++ x) ≡ a.text ++ x
puts_whole a x room = take_all a.most (a.text ++ x) (omega (arith, room, length-append a.text x))

pub put_all : {a b : Held} {x : List ℕ} → Puts a x b → length a.text + length x ≤ a.most → b ≡ record a { text = a.text ++ x }
put_all {a} {b} {x} is room = ap₂ (λ (t : List ℕ) (m : ℕ). record { text = t; most = m }) (is.cut ∙ puts_whole a x room) is.most

-- no more than there is room for
pub put_fits : (a b : Held) (x : List ℕ) → Puts a x b → length b.text ≤ b.most
put_fits a b x is = omega (arith, is.most, ap length is.cut, length-take a.most (a.text ++ x))

-- or where there still is room
pub put_short : (a b : Held) (x : List ℕ) → Puts a x b → length b.text < a.most → b.text ≡ a.text ++ x
put_short a b x is short =
    let long : length b.text ≡ length (take a.most (a.text ++ x)) = ap length is.cut in
    is.cut ∙ take_all a.most (a.text ++ x) (omega (arith, short, long, length-take a.most (a.text ++ x)))

pub puts_all : {a b : Held} {x : List ℕ} → b ≡ record a { text = a.text ++ x } → length a.text + length x ≤ a.most → Puts a x b
puts_all {a} {b} {x} is room = record { most = ap (λ (h : Held). h.most) is; cut = ap (λ (h : Held). h.text) is ∙ sym (puts_whole a x room) }

-- as many letters as there is room for
pub puts_front : {a b : Held} {x : List ℕ} {n : ℕ} → b ≡ record a { text = a.text ++ take n x } → n ≤ length x → length a.text + n ≤ a.most → (n < length x → length a.text + n ≡ a.most) → Puts a x b
puts_front {a} {b} {x} {n} is few room full = record {
  most = ap (λ (h : Held). h.most) is;
  cut = ap (λ (h : Held). h.text) is ∙ sym (elim (cases_lt n (length x)) [
    | inl less ↦ ap (λ m. take m (a.text ++ x)) (sym (full less)) ∙ take-append-add a.text x n
    | inr all ↦ puts_whole a x (omega (arith, room, all)) ∙ ap (λ t. a.text ++ t) (sym (take_all n x all))
  ]);
}

-- a full report stays as it is
pub puts_none : (a : Held) (x : List ℕ) → length a.text ≡ a.most → Puts a x a
puts_none a x full = record { most = refl; cut = sym (ap (λ n. take n (a.text ++ x)) (sym full) ∙ take-append_seam a.text x) }

pub puts_letters : {X : Type 0} {a b : Held} {n : ℕ} (letter : X → ℕ) (xs : List X) → b ≡ record a { text = a.text ++ map letter (take n xs) } → n ≤ length xs → length a.text + n ≤ a.most → (n < length xs → length a.text + n ≡ a.most)
    → Puts a (map letter xs) b
puts_letters {X} {a} {b} {n} letter xs is few room full =
    let same : take n (map letter xs) ≡ map letter (take n xs) = take-map letter n xs in
    let long : length (map letter xs) ≡ length xs = length-map xs letter in
    puts_front (is ∙ ap (λ (t : List ℕ). record a { text = a.text ++ t }) (sym same)) (omega (arith, few, long)) room (λ less. full (omega (arith, less, long)))

-- octets in hexadecimal
pub puts_hex : {a b : Held} (xs : List ℕ) (n spare : ℕ) → spare + length a.text ≡ a.most → n ≡ min (length xs) (spare / 2) → length xs ≤ n → b ≡ record a { text = a.text ++ encode_lower (take n xs) } → Puts a (encode_lower xs) b
puts_hex {a} {b} xs n spare room few all is =
    puts_all (is ∙ ap (λ t. record a { text = a.text ++ encode_lower t }) (take_all n xs all)) (omega (arith, room, few, all, encode_lower_len xs))

-- there was room for one digit of the last octet, or for none
pub puts_octets : {a b c : Held} (xs : List ℕ) (n spare d : ℕ) → spare + length a.text ≡ a.most → n ≡ min (length xs) (spare / 2) → n < length xs → b ≡ record a { text = a.text ++ encode_lower (take n xs) }
    → Puts b (encode_lower (get_or xs n d ∷ [])) c → Puts a (encode_lower xs) c
puts_octets {a} {b} {c} xs n spare d room few more is last =
    let long : length (encode_lower (take n xs)) ≡ 2 * n = encode_lower_len (take n xs) ∙ ap (λ k. 2 * k) (length-take-le n xs (omega (arith, more))) in
    let first : Puts a (encode_lower (take n xs)) b = puts_all is (omega (arith, long, room, few, more)) in
    let both : Puts a (encode_lower (take n xs) ++ encode_lower (get_or xs n d ∷ [])) c = puts_next first last in
    let digits : length (encode_lower (get_or xs n d ∷ [])) ≡ 2 = encode_lower_len (get_or xs n d ∷ []) in
    let held : length b.text ≡ length a.text + 2 * n = ap (λ (h : Held). length h.text) is ∙ (length-append a.text (encode_lower (take n xs)) ∙ ap (λ k. length a.text + k) long) in
    let cut : length c.text ≡ min b.most (length (b.text ++ encode_lower (get_or xs n d ∷ []))) = ap length last.cut ∙ length-take b.most (b.text ++ encode_lower (get_or xs n d ∷ [])) in
    let full : length c.text ≡ c.most = omega (arith, room, few, more, held, cut, length-append b.text (encode_lower (get_or xs n d ∷ [])), digits, first.most, last.most) in
    subst (λ t. Puts a t c) (sym (encode_lower-cut xs n d more)) (puts_next both (puts_none c (encode_lower (drop (suc n) xs)) full))
