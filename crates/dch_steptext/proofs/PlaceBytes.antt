-- The bytes of the PDUs that arrived, number by number.
use Rattle.std.proofs.Common.{◌≡◌, ◌<◌, ◌≤◌, ◌⊎◌, ◌+◌, ◌-◌, ◌*◌, ◌∙◌, ℕ, zero, suc, List, [], ◌∷◌, Bool, true, false, cond, arith, refl, ap, inl, inr}
use Rattle.std.specs.Prelude.{◌==◌}
use Rattle.std.proofs.lemmas.Bool.{cond_both, eqb-true}
use Rattle.std.proofs.lemmas.Bool.Decides.{nat_tests}
use Rattle.std.specs.List.{All}
use Rattle.std.proofs.lemmas.List.Elements.{All-head, All-tail}
use Rattle.dch_types.specs.Sums.{total}
use Rattle.dch_types.proofs.Sums.{total_none, total_same, total_small}
use Rattle.dch_am.specs.Bodies.{Body}
use Rattle.dch_am.specs.Entities.{one_if}
use Rattle.dch_am.specs.Numbers.{top}
use Rattle.dch_am.specs.Receiver.{body_of, numbers}
use Rattle.dch_amlaw.specs.Bounded.{IsLight, body_octets, pieces_octets}
use Rattle.dch_steptext.specs.ReceiverBytes.{body_bytes, full_bytes, pieces_bytes, run_bytes}

-- numbers of which one at most is another, and small
one_changed : (w v : ℕ → ℕ) (at more n : ℕ) → ((i : ℕ) → (w i ≡ v i) ⊎ ((i ≡ at) × (w i ≤ more))) → total w n ≤ total v n + more
unfolding total
one_changed w v at more zero each = omega arith
one_changed w v at more (suc n) each = elim (each n) [
  | inl e ↦ omega (arith, one_changed w v at more n each, e)
  | inr here ↦ omega (arith, here.1, total_same w v n (λ i less. others i less here.0))
]
  where
    others : (i : ℕ) → i < n → n ≡ at → w i ≡ v i
    others i less last = elim (each i) [
      | inl e ↦ e
      | inr here ↦ absurd (omega (arith, less, last, here.0))
    ]

-- a PDU arrives
pub put_le : (k : ℕ) (body : Body) (arrived : List (ℕ × Body)) (from n : ℕ) → run_bytes ((k, body) ∷ arrived) from n ≤ run_bytes arrived from n + body_bytes body
put_le k body arrived from n = one_changed (λ i. body_bytes (body_of ((k, body) ∷ arrived) (from + i))) (λ i. body_bytes (body_of arrived (from + i))) (k - from) (body_bytes body) n (λ i. go i (from + i == k) refl)
  where
    go : (i : ℕ) (c : Bool) → (from + i == k) ≡ c → (body_bytes (cond c body (body_of arrived (from + i))) ≡ body_bytes (body_of arrived (from + i))) ⊎ ((i ≡ k - from) × (body_bytes (cond c body (body_of arrived (from + i))) ≤ body_bytes body))
    go i true e = inr (omega (arith, eqb-true (from + i) k e), omega arith)
    go i false e = inl refl

-- none arrived above the last
none_above : (arrived : List (ℕ × Body)) (j : ℕ) → top (numbers arrived) ≤ j → body_bytes (body_of arrived j) ≡ 0
none_above [] j past = omega arith
none_above (p ∷ ps) j past =
    let other : (j == p.0) ≡ false = grind (arith, nat_tests) in
    ap (λ c. body_bytes (cond c p.1 (body_of ps j))) other ∙ none_above ps j (omega (arith, past))

pub run_above : (arrived : List (ℕ × Body)) (from n : ℕ) → top (numbers arrived) ≤ from → run_bytes arrived from n ≡ 0
run_above arrived from n past = total_none (λ i. body_bytes (body_of arrived (from + i))) n (λ i. none_above arrived (from + i) (omega (arith, past)))

pub run_split : (arrived : List (ℕ × Body)) (from m n : ℕ) → run_bytes arrived from (m + n) ≡ run_bytes arrived from m + run_bytes arrived (from + m) n
unfolding total
run_split arrived from m zero = let same : m + 0 ≡ m = omega arith in omega (arith, ap (λ k. run_bytes arrived from k) same)
run_split arrived from m (suc n) =
    let longer : m + suc n ≡ suc (m + n) = omega arith in
    let place : from + (m + n) ≡ from + m + n = omega arith in
    let last : body_bytes (body_of arrived (from + (m + n))) ≡ body_bytes (body_of arrived (from + m + n)) = ap (λ k. body_bytes (body_of arrived k)) place in
    omega (arith, ap (λ k. run_bytes arrived from k) longer, run_split arrived from m n, last)

-- the window moves on over the PDUs in front
pub run_moves : (arrived : List (ℕ × Body)) (from d window : ℕ) → top (numbers arrived) ≤ from + window → run_bytes arrived from d + run_bytes arrived (from + d) window ≡ run_bytes arrived from window
run_moves arrived from d window past =
    let same : d + window ≡ window + d = omega arith in
    omega (arith, run_split arrived from d window, run_split arrived from window d, run_above arrived (from + window) d past, ap (λ k. run_bytes arrived from k) same)

-- each octet of a PDU brings at most nine bytes
full_few : (full : Bool) → full_bytes full ≤ 9 * one_if full
full_few true = omega arith
full_few false = omega arith

pieces_few : (ps : List (List ℕ)) → pieces_bytes ps ≤ 9 * pieces_octets ps
pieces_few [] = omega arith
pieces_few (p ∷ ps) = omega (arith, pieces_few ps)

pub body_few : (body : Body) → body_bytes body ≤ 9 * body_octets body
body_few body = omega (arith, full_few body.full, pieces_few body.pieces)

-- light PDUs alone arrived
light_at : (arrived : List (ℕ × Body)) (j : ℕ) → All IsLight arrived → body_bytes (body_of arrived j) ≤ 1116
light_at [] j are = omega arith
light_at (p ∷ ps) j are =
    let first : body_octets p.1 ≤ 124 = All-head IsLight p ps are in
    cond_both {A = Body} (j == p.0) p.1 (body_of ps j) (λ body. body_bytes body ≤ 1116) (λ _. omega (arith, body_few p.1, first)) (λ _. light_at ps j (All-tail IsLight p ps are))

pub run_light : (arrived : List (ℕ × Body)) (from n : ℕ) → All IsLight arrived → run_bytes arrived from n ≤ n * 1116
run_light arrived from n are = total_small (λ i. body_bytes (body_of arrived (from + i))) n 1116 (λ i. light_at arrived (from + i) are)
