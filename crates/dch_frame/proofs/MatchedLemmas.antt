-- Patterns by the bits before and after: they are well formed, and keep what is sent.
use Rattle.std.proofs.Common.{◌≡◌, ◌<◌, ◌≤◌, ◌+◌, ◌-◌, ◌*◌, ◌/◌, ◌%◌, ◌^◌, ℕ, refl, ap, sym, ◌∙◌, arith, ◌⊎◌, inl, inr}
use Rattle.std.proofs.Math.IntN.{pos, ◌-ℤ◌}
use Rattle.std.proofs.Math.Nat.{div-add-mod, mul_assoc, mul_comm, mul_left_comm, one-mul}
use Rattle.std.proofs.lemmas.Nat.{mod_below}
use Rattle.std.proofs.lemmas.Int.{ints, int_rem_euclid_is}
use Rattle.std.proofs.lemmas.Bool.{cases_lt, cases_eq, eq-eqb, ne_eqb, lt-ltb, le-ltb}
use Rattle.std.specs.Int.RustNames.{unsigned_abs}
use Rattle.dch_frame.specs.declared.pattern.Kind.TheVariants.{Same, Repeat, Puncture}
use Rattle.dch_frame.specs.Patterns.{changes, copies_below, InRange, IsWellFormed}
use Rattle.dch_frame.specs.Matched.{change, steps_of, matched, remainder}
use Rattle.dch_frame.proofs.Changes.{changes_is, below-same, below-repeat, below-puncture, below_le}

pub remainder_is : (n sent : ℕ) → 0 < n → remainder n sent ≡ sent % n
remainder_is n sent some = ap unsigned_abs (int_rem_euclid_is (pos sent -ℤ pos n) (pos n) n 1 sent some refl (rw one-mul (omega (arith, ints))))

-- an odd number is no multiple of an even one
pub odd_start : (w n : ℕ) → 0 < n → (1 ≤ (2 * w + 1) % (2 * n)) × ((2 * w + 1) % (2 * n) ≤ 2 * n)
odd_start w n some =
    let v : ℕ = 2 * w + 1 in
    let whole : 2 * n * (v / (2 * n)) + v % (2 * n) ≡ v = div-add-mod v (2 * n) in
    let even : 2 * n * (v / (2 * n)) ≡ 2 * (n * (v / (2 * n))) = mul_assoc 2 n (v / (2 * n)) in
    (omega arith, omega (arith, mod_below v (2 * n) (omega arith)))

-- what can become of n bits
pub data Case (n sent e_ini : ℕ) : Type 0 where
  same : matched n sent e_ini ≡ Same → (n ≡ 0) ⊎ (sent ≡ n) → Case n sent e_ini
  repeated : matched n sent e_ini ≡ Repeat (steps_of n sent e_ini) → 0 < n → n < sent → change n sent ≡ sent - n → Case n sent e_ini
  punctured : matched n sent e_ini ≡ Puncture (steps_of n sent e_ini) → 0 < n → sent < n → change n sent ≡ n - sent → Case n sent e_ini

pub case_of : (n sent e_ini : ℕ) → Case n sent e_ini
case_of n sent e_ini = elim (cases_eq n 0) [
  | inl none ↦ same (rw (eq-eqb n 0 none) refl) (inl none)
  | inr some ↦ elim (cases_eq sent n) [
    | inl alike ↦ same (rw (ne_eqb n 0 some, eq-eqb sent n alike) refl) (inr alike)
    | inr differ ↦ elim (cases_lt n sent) [
      | inl less ↦ repeated (rw (ne_eqb n 0 some, ne_eqb sent n differ, lt-ltb n sent less) refl) (omega (arith, some)) less (rw (lt-ltb n sent less) refl)
      | inr more ↦ punctured (rw (ne_eqb n 0 some, ne_eqb sent n differ, le-ltb n sent more) refl) (omega (arith, some)) (omega (arith, differ)) (rw (le-ltb n sent more) refl)
    ]
  ]
]

range_of : (n sent e_ini : ℕ) → n ≤ 131072 → sent < 2 ^ 31 → 1 ≤ e_ini → e_ini ≤ 2 * n → change n sent < 2 ^ 31 → InRange (steps_of n sent e_ini)
range_of n sent e_ini short few least most small = record { least = least; most = most; plus = omega arith; minus = omega arith }

-- over all n bits there are as many changes as dN says
all_changes : (n sent e_ini : ℕ) → InRange (steps_of n sent e_ini) → changes (steps_of n sent e_ini) n ≡ change n sent
all_changes n sent e_ini range =
    let product : n * (2 * change n sent) ≡ change n sent * (2 * n) = mul_left_comm n 2 (change n sent) ∙ ap (λ m. 2 * m) (mul_comm n (change n sent)) ∙ mul_left_comm 2 (change n sent) n in
    changes_is (steps_of n sent e_ini) n (change n sent) range (omega (arith, product, range.most)) (omega (arith, product, range.least))

pub matched_kept : (n sent e_ini : ℕ) → n ≤ 131072 → sent < 2 ^ 31 → (n ≡ 0 → sent ≡ 0) → (0 < n → (1 ≤ e_ini) × (e_ini ≤ 2 * n)) → copies_below (matched n sent e_ini) n ≡ sent
matched_kept n sent e_ini short few none start = elim (case_of n sent e_ini) [
  | same is why ↦ rw is (below-same n ∙ elim why [ inl empty ↦ omega (arith, none empty) | inr alike ↦ sym alike ])
  | repeated is some less by ↦
      let range = range_of n sent e_ini short few (start some).0 (start some).1 (omega arith) in
      rw is (omega (arith, below-repeat (steps_of n sent e_ini) n range, all_changes n sent e_ini range))
  | punctured is some more by ↦
      let range = range_of n sent e_ini short few (start some).0 (start some).1 (omega arith) in
      rw is (omega (arith, below-puncture (steps_of n sent e_ini) n range (omega arith), all_changes n sent e_ini range))
]

pub matched_formed : (n sent e_ini len : ℕ) → n ≤ 131072 → sent < 2 ^ 31 → (n ≡ 0 → sent ≡ 0) → (0 < n → (1 ≤ e_ini) × (e_ini ≤ 2 * n)) → len ≤ n → IsWellFormed (record { len = len; kind = matched n sent e_ini })
matched_formed n sent e_ini len short few none start part = record {
  short = omega arith;
  steps = elim (case_of n sent e_ini) [
    | same is why ↦ rw is tt
    | repeated is some less by ↦ rw is (range_of n sent e_ini short few (start some).0 (start some).1 (omega arith))
    | punctured is some more by ↦ rw is (range_of n sent e_ini short few (start some).0 (start some).1 (omega arith), omega arith)
  ];
  few = omega (arith, below_le (matched n sent e_ini) len n part, matched_kept n sent e_ini short few none start);
}
