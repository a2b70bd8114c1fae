-- The second interleaver moves the changed cells of a radio frame one to one.
use Rattle.std.proofs.Common.{◌≡◌, ◌≢◌, ◌+◌, ◌%◌, ◌<◌, ◌∙◌, ℕ, zero, suc, List, length, arith, refl, ap, ap₂, sym, inl, inr}
use Rattle.std.specs.Prelude.{◌==◌, if◌then◌else◌}
use Rattle.std.proofs.lemmas.Bool.{cases_eq, eq-eqb, ne_eqb}
use Rattle.dch_bits.specs.declared.bit.Trit.{Trit}
use Rattle.dch_types.specs.Sums.{total}
use Rattle.dch_types.proofs.Sums.{total_none, total_same}
use Rattle.dch_frame.specs.Stages.{code_back, code_place}
use Rattle.dch_frame.proofs.Codes.{code_back-inside, code_back-place, code_place-back, code_place-inside}
use Rattle.dch_tti.specs.Damaged.{IsOneToOne, cell_at, changed, changed_among}
use Rattle.dch_tti.specs.RxFrames.{AreBack}

-- a value at one place, and nothing at the others
one_at : (f : ℕ → ℕ) (n k : ℕ) → k < n → total (λ p. if p == k then f p else 0) n ≡ f k
unfolding total
one_at f zero k inside = absurd (omega arith)
one_at f (suc n) k inside = elim (cases_eq n k) [
  | inl here ↦ omega (
    arith,
    total_same (λ p. if p == k then f p else 0) (λ p. 0) n (λ p before. rw (ne_eqb p k (λ e. omega (arith, e, before, here))) refl),
    total_none (λ p. 0) n (λ p. refl),
    last here,
  )
  | inr other ↦ omega (arith, one_at f n k (omega (arith, inside, other)), nothing other)
]
  where
    last : n ≡ k → (if n == k then f n else 0) ≡ f k
    last here = rw (eq-eqb n k here) (ap f here)

    nothing : (n ≡ k → ⊥) → (if n == k then f n else 0) ≡ 0
    nothing other = rw (ne_eqb n k other) refl

total_plus : (f g : ℕ → ℕ) (n : ℕ) → total (λ k. f k + g k) n ≡ total f n + total g n
unfolding total
total_plus f g zero = refl
total_plus f g (suc n) = omega (arith, total_plus f g n)

-- sums of sums are taken in either order
swapped : (g : ℕ → ℕ → ℕ) (n m : ℕ) → total (λ p. total (g p) m) n ≡ total (λ k. total (λ p. g p k) n) m
unfolding total
swapped g zero m = sym (total_none (λ k. 0) m (λ k. refl))
swapped g (suc n) m = ap (λ x. x + total (g n) m) (swapped g n m) ∙ sym (total_plus (λ k. total (λ p. g p k) n) (g n) m)

-- numbers that are moved one to one have the same sum
pub moved_total : (f there back : ℕ → ℕ) (n : ℕ) → ((p : ℕ) → p < n → (there p < n) × (back (there p) ≡ p)) → ((k : ℕ) → k < n → (back k < n) × (there (back k) ≡ k)) → total (λ p. f (there p)) n ≡ total f n
moved_total f there back n goes comes =
    total_same (λ p. f (there p)) (λ p. total (λ k. if k == there p then f k else 0) n) n (λ p inside. sym (one_at f n (there p) (goes p inside).0))
    ∙ swapped (λ p k. if k == there p then f k else 0) n n
    ∙ total_same (λ k. total (λ p. if k == there p then f k else 0) n) f n (λ k inside.
    total_same (λ p. if k == there p then f k else 0) (λ p. if p == back k then f k else 0) n (λ p within. ap (λ b. if b then f k else 0) (same k p inside within))
    ∙ one_at (λ p. f k) n (back k) (comes k inside).0)
  where
    same : (k p : ℕ) → k < n → p < n → (k == there p) ≡ (p == back k)
    same k p inside within = elim (cases_eq k (there p)) [
      | inl e ↦ eq-eqb k (there p) e ∙ sym (eq-eqb p (back k) (sym (goes p within).1 ∙ ap back (sym e)))
      | inr ne ↦ ne_eqb k (there p) ne ∙ sym (ne_eqb p (back k) (λ e. ne (sym (comes k inside).1 ∙ ap there (sym e))))
    ]

-- the cells of a radio frame and its multiplexed places
pub one_to_one : (code n : ℕ) → 0 < code → n % code ≡ 0 → IsOneToOne code n
one_to_one code n some whole = record {
  back = λ p inside. (code_back-inside n code p whole some inside, code_place-back code p some);
  place = λ k inside. (code_place-inside n code k whole some inside, code_back-place code k some);
}

pub moved : (code p : ℕ) (sent received kept_sent kept : List Trit) → AreBack code sent kept_sent → AreBack code received kept → length received ≡ length sent → p < length sent → changed (cell_at kept_sent p) (cell_at kept p) ≡ changed (cell_at sent (code_back code p)) (cell_at received (code_back code p))
moved code p sent received kept_sent kept first second same inside = ap₂ changed (first.shown p (omega (arith, inside, first.whole))) (second.shown p (omega (arith, inside, same, second.whole)))

among_total : (sent received : ℕ → Trit) (n : ℕ) → changed_among sent received 0 n ≡ total (λ p. changed (sent p) (received p)) n
unfolding total changed_among
among_total sent received zero = refl
among_total sent received (suc n) =
    let here : 0 + n ≡ n = omega arith in
    ap₂ (λ a b. a + b) (among_total sent received n) (ap (λ p. changed (sent p) (received p)) here)

pub as_many : (code : ℕ) (sent received kept_sent kept : List Trit) → AreBack code sent kept_sent → AreBack code received kept → length received ≡ length sent → 0 < code → length sent % code ≡ 0
    → changed_among (cell_at kept_sent) (cell_at kept) 0 (length sent) ≡ changed_among (cell_at sent) (cell_at received) 0 (length sent)
as_many code sent received kept_sent kept first second same some whole =
    let n : ℕ = length sent in
    let all : IsOneToOne code n = one_to_one code n some whole in
    among_total (cell_at kept_sent) (cell_at kept) n
    ∙ total_same (λ p. changed (cell_at kept_sent p) (cell_at kept p)) (λ p. changed (cell_at sent (code_back code p)) (cell_at received (code_back code p))) n (λ p inside. moved code p sent received kept_sent kept first second same inside)
    ∙ moved_total (λ k. changed (cell_at sent k) (cell_at received k)) (code_back code) (code_place code) n all.back all.place
    ∙ sym (among_total (cell_at sent) (cell_at received) n)
