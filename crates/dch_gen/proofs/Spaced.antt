-- At rate 1/2 no two code blocks collide where of two neighbouring coded bits one at least is sent.
use Rattle.std.proofs.Common.{◌≡◌, ◌<◌, ◌≤◌, ◌+◌, ◌*◌, ℕ, List, Bool, true, false, get_or, refl, sym, ◌∙◌, subst, ◌⊎◌, ⊎_elim, inl, inr, arith}
use Rattle.std.specs.Prelude.{map, nat_lt}
use Rattle.std.specs.List.{range_with_len}
use Rattle.std.proofs.Math.Nat.{lt_of_mul-lt-mul_right}
use Rattle.std.proofs.lemmas.List.FromFn.{get_or-map-range_with_len}
use Rattle.std.proofs.lemmas.Bool.{cases_lt}
use Rattle.std.proofs.lemmas.Bool.Decides.{nat_tests}
use Rattle.dch_types.specs.declared.channel.Coding.TheVariants.{Half}
use Rattle.dch_types.specs.Lengths.{coded_block}
use Rattle.dch_coding.specs.declared.rate.Rate.TheVariants.{Half as HalfRate}
use Rattle.dch_coding.specs.declared.cut.Plan.{Plan}
use Rattle.dch_coding.specs.Segments.{filler_of}
use Rattle.dch_frame.specs.declared.pattern.Steps.{Steps}
use Rattle.dch_frame.specs.declared.pattern.Kind.TheVariants.{Puncture}
use Rattle.dch_frame.specs.Patterns.{InRange, changes, copies}
use Rattle.dch_frame.proofs.Changes.{changes_bounds, one_more}
use Rattle.dch_collision.specs.Collisions.{NoneCollide, copies_kept}
use Rattle.dch_collision.specs.Clear.{AreClearBlocks, block_copies}
use Rattle.dch_collision.specs.Hidden.{is_punctured}
use Rattle.dch_collision.proofs.Collide.{none-lost-step, one-sent}
use Rattle.dch_collision.proofs.Carried.{none_by}

-- of two neighbouring bits one is sent
abbrev pub OneOfTwo : (ℕ → ℕ) → Type 0
OneOfTwo sent = (m : ℕ) → (0 < sent m) ⊎ (0 < sent (m + 1))

-- two steps of a counter that goes down by at most half of what is added at a change make one change at most
few_changes : (s : Steps) (m : ℕ) → InRange s → 2 * s.e_minus ≤ s.e_plus → changes s (m + 1 + 1) ≤ changes s m + 1
few_changes s m range slow =
    let before = changes_bounds s m range in
    let after = changes_bounds s (m + 1 + 1) range in
    let less : changes s (m + 1 + 1) * s.e_plus < (changes s m + 1 + 1) * s.e_plus =
    omega (arith, before.1, after.0, one_more m s.e_minus, one_more (m + 1) s.e_minus, one_more (changes s m) s.e_plus, one_more (changes s m + 1) s.e_plus) in
    let below : changes s (m + 1 + 1) < changes s m + 1 + 1 = lt_of_mul-lt-mul_right s.e_plus less in
    omega arith

-- so puncturing of less than half of the bits takes no two neighbours
pub one_of_two : (s : Steps) → InRange s → 2 * s.e_minus ≤ s.e_plus → OneOfTwo (copies (Puncture s))
one_of_two s range slow m =
    let few : changes s (m + 1 + 1) ≤ changes s m + 1 = few_changes s m range slow in
    elim (cases_lt 0 (copies (Puncture s) m)) [
      | inl some ↦ inl some
      | inr none ↦ inr (omega arith)
    ]

abbrev flags : (ℕ → ℕ) → ℕ → List Bool
flags sent n = map (λ t. nat_lt 0 (sent t)) (range_with_len 0 n)

flag_at : (sent : ℕ → ℕ) (n t : ℕ) → t < n → get_or (flags sent n) t false ≡ nat_lt 0 (sent t)
flag_at sent n t inside = get_or-map-range_with_len (λ t. nat_lt 0 (sent t)) 0 n t t false inside (omega arith)

above : (m : ℕ) → 0 < m → nat_lt 0 m ≡ true
above m some = grind (arith, nat_tests)

positive : (m : ℕ) → nat_lt 0 m ≡ true → 0 < m
positive m is = grind (arith, nat_tests)

-- a step of which an output is sent is not punctured
either_flag : (flags : List Bool) (k : ℕ) → (get_or flags (2 * k) false ≡ true) ⊎ (get_or flags (2 * k + 1) false ≡ true) → is_punctured HalfRate flags k ≡ false
either_flag flags k either = by_flags (get_or flags (2 * k) false) (get_or flags (2 * k + 1) false) refl refl either
  where
    by_flags : (a b : Bool) → get_or flags (2 * k) false ≡ a → get_or flags (2 * k + 1) false ≡ b → (get_or flags (2 * k) false ≡ true) ⊎ (get_or flags (2 * k + 1) false ≡ true) → is_punctured HalfRate flags k ≡ false
    by_flags true b first second sent = rw first refl
    by_flags false true first second sent = rw (first, second) refl
    by_flags false false first second (inl sent) = cc
    by_flags false false first second (inr sent) = cc

step_kept : (sent : ℕ → ℕ) (size k : ℕ) → OneOfTwo sent → k < size → is_punctured HalfRate (flags sent (2 * (size + 8))) k ≡ false
step_kept sent size k pairs inside = either_flag (flags sent (2 * (size + 8))) k (⊎_elim
    (λ (some : 0 < sent (2 * k)). inl (flag_at sent (2 * (size + 8)) (2 * k) (omega arith) ∙ above (sent (2 * k)) some))
    (λ (some : 0 < sent (2 * k + 1)). inr (flag_at sent (2 * (size + 8)) (2 * k + 1) (omega arith) ∙ above (sent (2 * k + 1)) some))
    (pairs (2 * k)))

block_none : (size filler : ℕ) (sent : ℕ → ℕ) → OneOfTwo sent → NoneCollide Half size filler sent
block_none size filler sent pairs =
    let shown : List Bool = flags sent (2 * (size + 8)) in
    none_by Half size filler (copies_kept shown) sent
    (λ t within some. positive (sent t) (sym (flag_at sent (2 * (size + 8)) t within) ∙ one-sent shown t some))
    (none-lost-step HalfRate shown size filler (λ k late inside. step_kept sent size k pairs inside))

pub spaced_clear : (plan : Plan) (sent : ℕ → ℕ) → OneOfTwo sent → AreClearBlocks Half plan sent
spaced_clear plan sent pairs r inside =
    let from : ℕ = r * coded_block Half plan.size in
    block_none plan.size (filler_of plan r) (block_copies Half plan sent r) (λ m. next from m (pairs (from + m)))
  where
    next : (from m : ℕ) → (0 < sent (from + m)) ⊎ (0 < sent (from + m + 1)) → (0 < sent (from + m)) ⊎ (0 < sent (from + (m + 1)))
    next from m (inl here) = inl here
    next from m (inr there) = let e : from + m + 1 ≡ from + (m + 1) = omega arith in inr (subst (λ n. 0 < sent n) e there)
