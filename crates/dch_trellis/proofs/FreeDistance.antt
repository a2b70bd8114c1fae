-- The free distances: what a walk away from state zero and back weighs at least.
use Rattle.std.proofs.Common.{◌≡◌, ◌+◌, ◌-◌, ◌*◌, ◌/◌, ◌%◌, ◌^◌, ◌<◌, ◌≤◌, ◌&&◌, ◌⊎◌, ℕ, zero, suc, List, [], ◌∷◌, ◌++◌, Bool, true, false, length, get_or, sum_by, arith, refl, ap, ◌∙◌, inl, inr}
use Rattle.std.specs.Prelude.{nat_le, replicate}
use Rattle.std.specs.List.{range_with_len}
use Rattle.std.proofs.Math.Nat.{pow-suc}
use Rattle.std.proofs.lemmas.Bool.{leb-true, cases_lt}
use Rattle.dch_bits.specs.declared.bit.Bit.{Bit}
use Rattle.dch_bits.specs.declared.bit.Bit.TheVariants.{Zero, One}
use Rattle.dch_bits.specs.Bits.{number_of}
use Rattle.dch_coding.specs.declared.rate.Rate.{Rate}
use Rattle.dch_coding.specs.declared.rate.Rate.TheVariants.{Half, Third}
use Rattle.dch_coding.specs.Conv.{outputs}
use Rattle.dch_trellis.specs.Distance.{free_distance}
use Rattle.dch_trellis.specs.Windows.{after, output}
use Rattle.dch_trellis.specs.Search.{BranchMetrics, path_metric}
use Rattle.dch_trellis.proofs.Link.{tail}

-- the ones that a window puts out
abbrev pub weight : Rate → ℕ → ℕ
weight rate window = sum_by (λ t. number_of (output rate window t)) (range_with_len 0 (outputs rate))

-- the least weight from each state back to state zero: a hexadecimal digit each, 32 states in a row
abbrev ways_back : Rate → List ℕ
ways_back Half =
    0x02333544_44575546_55646677_75666477 ∷ 0x75666655_77868877_88577766_68557766 ∷
    0x97666677_77866675_88799968_88777988 ∷ 0x88995788_88777768_77886675_97888677 ∷
    0xaa797768_68777988_77668877_77868875 ∷ 0x99688899_79888699_88997788_88979986 ∷
    0x99888899_75888899_86997788_88777786 ∷ 0x88799988_68777766_99888877_99868877 ∷ []
ways_back Third =
    0x03546756_87986796_9a89ba8b_9689ba87 ∷ 0xbaab9aab_bccb98cb_ab788bba_cdbaa998 ∷
    0xdccbbccb_9ccbbccd_ebdceddc_ab9aedbc ∷ 0xcbbca79a_a9bacdbc_deeddccb_bcab9ca9 ∷
    0xfeedbccd_dccddecd_abbcab9a_cdbacbde ∷ 0xcddccbbc_ebdeeddc_dacdbacb_feeddccd ∷
    0xedbccdde_cb98c9bc_bcabbccb_decddccd ∷ 0xdcefdccb_decddccb_cdbacbbc_c9dccbba ∷ []

abbrev way_back : Rate → ℕ → ℕ
way_back rate s = get_or (ways_back rate) (s / 32) 0 / 16 ^ (31 - s % 32) % 16

-- p holds of each number below n
abbrev every : (ℕ → Bool) → ℕ → Bool
every p zero = true
every p (suc n) = p n && every p n

and_both : (a b : Bool) → (a && b) ≡ true → (a ≡ true) × (b ≡ true)
and_both true b both = (refl, both)
and_both false b both = cc

every_at : (p : ℕ → Bool) (n k : ℕ) → every p n ≡ true → k < n → p k ≡ true
every_at p zero k all below = absurd (omega arith)
every_at p (suc n) k all below =
    let both = and_both (p n) (every p n) all in
    elim (cases_lt k n) [ inl less ↦ every_at p n k both.1 less | inr same ↦ let is : k ≡ n = omega arith in ap p is ∙ both.0 ]

-- no step leads nearer to state zero by more than it weighs
abbrev is_slow : Rate → ℕ → Bool
is_slow rate window = nat_le (way_back rate (window % 256)) (weight rate window + way_back rate (window / 2))

checked : (rate : Rate) → every (is_slow rate) 512 ≡ true
unfolding output
checked Half = refl
checked Third = refl

-- the first One of a walk, and the way back from the state after it
first_step : (rate : Rate) → free_distance rate ≡ weight rate 256 + way_back rate 128
unfolding output
first_step Half = refl
first_step Third = refl

home : (rate : Rate) → way_back rate 0 ≡ 0
home Half = refl
home Third = refl

number_le : (b : Bit) → number_of b ≤ 1
number_le Zero = omega arith
number_le One = omega arith

way_back-step : (rate : Rate) (s : ℕ) (b : Bit) → s < 256 → way_back rate s ≤ weight rate (256 * number_of b + s) + way_back rate (after s b)
way_back-step rate s b small =
    let window : ℕ = 256 * number_of b + s in
    let before : window % 256 ≡ s = omega arith in
    let later : window / 2 ≡ after s b = omega arith in
    let slow : way_back rate (window % 256) ≤ weight rate window + way_back rate (window / 2) = leb-true _ _ (every_at (is_slow rate) 512 window (checked rate) (omega (arith, number_le b))) in
    omega (arith, slow, ap (way_back rate) before, ap (way_back rate) later)

-- up to step n an input costs no less than the ones that it puts out
abbrev pub AreWeighed : Rate → BranchMetrics → ℕ → Type 0
AreWeighed rate p n = (k s : ℕ) (b : Bit) → k < n → s < 256 → weight rate (256 * number_of b + s) ≤ p k s b

zeros_back : (rate : Rate) (p : BranchMetrics) (n m k s : ℕ) → AreWeighed rate p n → k + m ≤ n → s < 256 → s < 2 ^ m → way_back rate s ≤ path_metric p k s (replicate m Zero)
zeros_back rate p n zero k s weighed room small few =
    let same : s ≡ 0 = omega arith in
    omega (arith, ap (way_back rate) same, home rate)
zeros_back rate p n (suc m) k s weighed room small few =
    let half : after s Zero < 2 ^ m = omega (arith, pow-suc 2 m) in
    omega (arith, way_back-step rate s Zero small, weighed k s Zero (omega arith) small, zeros_back rate p n m (k + 1) (after s Zero) weighed (omega arith) (omega arith) half)

-- a walk to the end of the tail costs no less than the least way back
walk_back : (rate : Rate) (p : BranchMetrics) (n : ℕ) (bits : List Bit) (k s : ℕ) → AreWeighed rate p n → k + length bits + 8 ≤ n → s < 256 → way_back rate s ≤ path_metric p k s (bits ++ tail)
walk_back rate p n [] k s weighed room small = zeros_back rate p n 8 k s weighed (omega arith) small (omega arith)
walk_back rate p n (b ∷ bits) k s weighed room small =
    let next : after s b < 256 = omega (arith, number_le b) in
    omega (arith, way_back-step rate s b small, weighed k s b (omega arith) small, walk_back rate p n bits (k + 1) (after s b) weighed (omega arith) next)

-- a block is zeros, or its walk costs the free distance
pub zeros_or_far : (rate : Rate) (p : BranchMetrics) (n : ℕ) (bits : List Bit) (k : ℕ) → AreWeighed rate p n → k + length bits + 8 ≤ n → ((t : ℕ) → get_or bits t Zero ≡ Zero) ⊎ (free_distance rate ≤ path_metric p k 0 (bits ++ tail))
zeros_or_far rate p n [] k weighed room = inl (λ t. refl)
zeros_or_far rate p n (One ∷ bits) k weighed room =
    inr (omega (arith, first_step rate, weighed k 0 One (omega arith) (omega arith), walk_back rate p n bits (k + 1) 128 weighed (omega arith) (omega arith)))
zeros_or_far rate p n (Zero ∷ bits) k weighed room = elim (zeros_or_far rate p n bits (k + 1) weighed (omega arith)) [
  | inl zeros ↦ inl (one_more bits zeros)
  | inr far ↦ inr (omega arith)
]
  where
    one_more : (bits : List Bit) → ((t : ℕ) → get_or bits t Zero ≡ Zero) → (t : ℕ) → get_or (Zero ∷ bits) t Zero ≡ Zero
    one_more bits zeros zero = refl
    one_more bits zeros (suc t) = zeros t
