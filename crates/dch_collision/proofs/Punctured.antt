-- Which combinations and patterns remove bits.
use Rattle.std.proofs.Common.{◌≡◌, ◌≤◌, ◌+◌, ℕ, zero, suc, Bool, false, refl, sym, ◌∙◌, arith, add-one}
use Rattle.std.specs.Prelude.{◌==◌, ◌&&◌, ◌||◌, nat_lt}
use Rattle.std.proofs.lemmas.Bool.Decides.{nat_tests}
use Rattle.dch_types.specs.declared.config.Uplink.{Uplink}
use Rattle.dch_types.specs.Parts.{format_number}
use Rattle.dch_frame.specs.declared.pattern.Steps.{Steps}
use Rattle.dch_frame.specs.declared.pattern.Kind.{Kind}
use Rattle.dch_frame.specs.declared.pattern.Kind.TheVariants.{Same, Repeat, Puncture}
use Rattle.dch_frame.specs.Patterns.{copies, copies_below, InRange, StepsFit}
use Rattle.dch_frame.proofs.Changes.{below-same, below-repeat, below-puncture}
use Rattle.dch_collision.specs.Counted.{removes, removes_below, punctures_below}

pub removes-zero : (uplink : Uplink) (i f : ℕ) → removes_below uplink i f 0 ≡ false
unfolding removes_below
removes-zero uplink i f = refl

pub removes-more : (uplink : Uplink) (i f c : ℕ) → removes_below uplink i f (c + 1) ≡ ((format_number uplink.side c i == f && removes uplink i c) || removes_below uplink i f c)
unfolding removes_below
removes-more uplink i f c = rw add-one refl

-- one bit more, where no bit has two copies
few_more : (n below more : ℕ) (b : Bool) → nat_lt below n ≡ b → below ≤ n → more ≤ 1 → nat_lt (below + more) (suc n) ≡ (more == 0 || b)
few_more n below zero b same order few = grind (arith, nat_tests)
few_more n below (suc zero) b same order few =
    let down : nat_lt (below + 1) (suc n) ≡ nat_lt below n = grind (arith, nat_tests) in
    down ∙ same
few_more n below (suc (suc more)) b same order few = absurd (omega arith)

-- where each bit has a copy, none is lost
none_lost : (kind : Kind) (n : ℕ) → ((m : ℕ) → 1 ≤ copies kind m) → punctures_below kind n ≡ false
unfolding punctures_below
none_lost kind zero each = refl
none_lost kind (suc n) each = not_none (copies kind n) (punctures_below kind n) (each n) (none_lost kind n each)
  where
    not_none : (m : ℕ) (b : Bool) → 1 ≤ m → b ≡ false → (m == 0 || b) ≡ false
    not_none m b some same = let none : (m == 0) ≡ false = grind (arith, nat_tests) in rw none same

few_left : (s : Steps) (n : ℕ) → InRange s → s.e_minus ≤ s.e_plus → nat_lt (copies_below (Puncture s) n) n ≡ punctures_below (Puncture s) n
unfolding copies_below punctures_below
few_left s zero range few = refl
few_left s (suc n) range few =
    few_more n (copies_below (Puncture s) n) (copies (Puncture s) n) (punctures_below (Puncture s) n) (few_left s n range few)
    (omega (arith, below-puncture s n range few)) (omega arith)

not_fewer : (a n : ℕ) → n ≤ a → nat_lt a n ≡ false
not_fewer a n order = grind (arith, nat_tests)

-- fewer bits are left exactly where one is lost
pub fewer-punctures : (kind : Kind) (n : ℕ) → StepsFit kind → nat_lt (copies_below kind n) n ≡ punctures_below kind n
fewer-punctures Same n fit = not_fewer (copies_below Same n) n (omega (arith, below-same n)) ∙ sym (none_lost Same n (λ m. omega arith))
fewer-punctures (Repeat s) n fit = not_fewer (copies_below (Repeat s) n) n (omega (arith, below-repeat s n fit)) ∙ sym (none_lost (Repeat s) n (λ m. omega arith))
fewer-punctures (Puncture s) n fit = few_left s n fit.0 fit.1
