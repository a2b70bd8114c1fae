-- A PDU in the octets of a block.
use Rattle.std.proofs.Common.{◌≡◌, ◌+◌, ◌≤◌, ◌<◌, ℕ, zero, suc, List, [], ◌∷◌, ◌++◌, Option, Some, None, length, take, drop, map, set, get_or, arith, refl, sym, ap, ap₂, ◌∙◌, subst, length-append, length-take}
use Rattle.std.specs.Prelude.{replicate}
use Rattle.std.proofs.Math.Seq.{take-append_seam, drop-append_seam}
use Rattle.std.proofs.lemmas.List.{get_or-set_same, length-map}
use Rattle.dch_rlcpdu.specs.Indicators.{AreIndicators, indicator_of}
use Rattle.dch_rlcpdu.specs.Parts.{Content}
use Rattle.dch_pool.proofs.Lent.{IsLent-with_octets}
use Rattle.dch_pool.specs.Blocks.{Blocks, IsLent, Takes, octets_of, overwritten, with_octets, written}
use Rattle.dch_amrecv.specs.Stored.{IsStored, Stores, content_of}

-- the header, the indicators and the octets, each written behind the one before
abbrev pub three : List ℕ → ℕ → ℕ → List ℕ → List ℕ → List ℕ
three z m n ind oct = overwritten (overwritten (overwritten z 0 (m ∷ n ∷ [])) 2 ind) (2 + m) oct

two_behind : (m : ℕ) (front rest oct : List ℕ) → m ≡ length front → take m (front ++ rest) ++ oct ≡ front ++ oct
two_behind m front rest oct e = rw (e, take-append_seam front rest) refl

pub three_is : (z : List ℕ) (m n : ℕ) (ind oct : List ℕ) → length ind ≡ m → three z m n ind oct ≡ m ∷ n ∷ (ind ++ (oct ++ drop (m + length oct) (ind ++ drop (length ind) (drop 2 z))))
three_is z m n ind oct e =
    let two : 2 + m ≡ suc (suc m) = omega arith in
    let far : 2 + m + length oct ≡ suc (suc (m + length oct)) = omega arith in
    let ends : 2 + length ind ≡ suc (suc (length ind)) = omega arith in
    rw (far, two, ends) (ap (λ r. m ∷ n ∷ r) (two_behind m ind (drop (length ind) (drop 2 z)) (oct ++ drop (m + length oct) (ind ++ drop (length ind) (drop 2 z))) (sym e)))

stored_indicators : (m : ℕ) (ind rest : List ℕ) → length ind ≡ m → (take m (ind ++ rest) ≡ ind) × (drop m (ind ++ rest) ≡ rest)
stored_indicators m ind rest e = (rw (← e, take-append_seam ind rest) refl, rw (← e, drop-append_seam ind rest) refl)

-- what was written is read
pub content_is : (m n : ℕ) (ind oct rest : List ℕ) → length ind ≡ m → length oct ≡ n → content_of (m ∷ n ∷ (ind ++ (oct ++ rest))) ≡ record { indicators = map indicator_of ind; octets = oct }
content_is m n ind oct rest em en =
    let indicators = stored_indicators m ind (oct ++ rest) em in
    let octets = stored_indicators n oct rest en in
    ap₂ (λ (a : List ℕ) (b : List ℕ). record { indicators = map indicator_of a; octets = b }) indicators.0 (ap (take n) indicators.1 ∙ octets.0)

pub stored_is : (m n : ℕ) (ind oct rest : List ℕ) → length ind ≡ m → length oct ≡ n → m + n ≤ 124 → AreIndicators (length oct) (map indicator_of ind) → IsStored (m ∷ n ∷ (ind ++ (oct ++ rest)))
stored_is m n ind oct rest em en small good = record {
  room = omega (arith, length-append ind (oct ++ rest), length-append oct rest);
  small = small;
  good = rw (ap (λ c. c.indicators) (content_is m n ind oct rest em en), ← en) good;
}

written_again : (pool : Blocks) (b at : ℕ) (t octets : List ℕ) → b < length pool.contents → written (with_octets pool b t) b at octets ≡ with_octets pool b (overwritten t at octets)
unfolding written
written_again pool b at t octets there =
    let held : octets_of (with_octets pool b t) b ≡ t = rw (get_or-set_same pool.contents b (Some t) None there) refl in
    rw held (ap (λ (c : List (Option (List ℕ))). record pool { contents = c }) (set_twice pool.contents b (Some t) (Some (overwritten t at octets))))
  where
    set_twice : {A : Type 0} (xs : List A) (i : ℕ) (x y : A) → set (set xs i x) i y ≡ set xs i y
    set_twice [] i x y = refl
    set_twice (z ∷ xs) zero x y = refl
    set_twice (z ∷ xs) (suc i) x y = ap (λ r. z ∷ r) (set_twice xs i x y)

-- a block that was taken and written three times holds the PDU
pub stores_is : (old taken one two new : Blocks) (b m n : ℕ) (ind oct : List ℕ) (body : Content) → Takes old taken b
    → one ≡ written taken b 0 (m ∷ n ∷ []) → two ≡ written one b 2 ind → new ≡ written two b (2 + m) oct
    → length ind ≡ m → length oct ≡ n → m + n ≤ 124 → map indicator_of ind ≡ body.indicators → oct ≡ body.octets → AreIndicators (length body.octets) body.indicators → Stores old new body b
stores_is old taken one two new b m n ind oct body t e1 e2 e3 em en small indicators octets good =
    let z = replicate old.size 0 in
    let a1 : one ≡ with_octets old b (overwritten z 0 (m ∷ n ∷ [])) = e1 ∙ (ap (λ p. written p b 0 (m ∷ n ∷ [])) t.now ∙ written_again old b 0 z (m ∷ n ∷ []) t.there) in
    let a2 : two ≡ with_octets old b (overwritten (overwritten z 0 (m ∷ n ∷ [])) 2 ind) = e2 ∙ (ap (λ p. written p b 2 ind) a1 ∙ written_again old b 2 (overwritten z 0 (m ∷ n ∷ [])) ind t.there) in
    let a3 : new ≡ with_octets old b (three z m n ind oct) = e3 ∙ (ap (λ p. written p b (2 + m) oct) a2 ∙ written_again old b (2 + m) (overwritten (overwritten z 0 (m ∷ n ∷ [])) 2 ind) oct t.there) in
    let text : octets_of new b ≡ three z m n ind oct = ap (λ p. octets_of p b) a3 ∙ rw (get_or-set_same old.contents b (Some (three z m n ind oct)) None t.there) refl in
    let rest = drop (m + length oct) (ind ++ drop (length ind) (drop 2 z)) in
    let whole : octets_of new b ≡ m ∷ n ∷ (ind ++ (oct ++ rest)) = text ∙ three_is z m n ind oct em in
    record {
      there = t.there;
      was = t.was;
      now = a3 ∙ ap (with_octets old b) (sym text);
      stored = subst IsStored (sym whole) (stored_is m n ind oct rest em en small (rw (indicators, octets) good));
      content = ap content_of whole ∙ (content_is m n ind oct rest em en ∙ ap₂ (λ (x : List ℕ) (y : List ℕ). record { indicators = x; octets = y }) indicators octets);
    }

-- a PDU that is read has few indicators and octets
pub stored_small : (text : List ℕ) → IsStored text → length (content_of text).indicators + length (content_of text).octets ≤ 124
stored_small text s =
    omega (arith, s.small, length-map (take (get_or text 0 0) (drop 2 text)) indicator_of, length-take (get_or text 0 0) (drop 2 text), length-take (get_or text 1 0) (drop (get_or text 0 0) (drop 2 text)))

pub lent_written : (old new : Blocks) (a c at : ℕ) (octets : List ℕ) → new ≡ written old c at octets → IsLent old a → IsLent new a
unfolding written
lent_written old new a c at octets e lent = rw e (IsLent-with_octets old c (overwritten (octets_of old c) at octets) a lent)

pub length-indicators : (ind indicators : List ℕ) → map indicator_of ind ≡ indicators → length ind ≡ length indicators
length-indicators ind indicators e = omega (arith, ap length e, length-map ind indicator_of)
