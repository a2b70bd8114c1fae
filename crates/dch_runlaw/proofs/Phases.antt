-- The phases of a radio frame as one leg and one set of uplink channels see them.
use Rattle.std.proofs.Common.{◌≡◌, ◌<◌, ◌≤◌, ◌+◌, ℕ, true, false, Option, Some, None, arith, refl, sym, subst, inl, inr}
use Rattle.std.specs.Prelude.{if◌then◌else◌, nat_lt}
use Rattle.std.proofs.lemmas.Bool.{cases_lt}
use Rattle.std.proofs.lemmas.Bool.Decides.{eqb_tells, nat_tests}
use Rattle.dch_linkcmd.specs.SoftPassing.{next_stage}
use Rattle.dch_linkcmd.specs.LinkSoft.{SoftState, framed}
use Rattle.dch_linkcmd.specs.soft_stage.Stage.{Stage}
use Rattle.dch_linkcmd.specs.soft_stage.Stage.TheVariants.{RncTick, IubDown, RadioDown, UeTick, RadioUp, IubUp, Combine}
use Rattle.dch_runlaw.specs.SoftRuns.{Point, behind}

-- before 10 ms pass at the terminal; until the uplink radio frame has come to the leg; until the leg's Iub frame of the set has come; until
-- the frames of the set are combined; and the rest of the radio frame
pub data Phase : Type 0 where
  Before : Phase
  Middle : Phase
  Sent : Phase
  Taken : Phase
  Over : Phase

-- the phase in which a stage begins, and the one that it leaves
abbrev pub phase_of : ℕ → ℕ → Stage → Phase
phase_of k set RncTick = Before
phase_of k set (IubDown leg s) = Before
phase_of k set (RadioDown leg) = Before
phase_of k set UeTick = Before
phase_of k set (RadioUp leg) = if nat_lt k leg then Sent else Middle
phase_of k set (IubUp s leg) = if nat_lt s set then Sent else (if nat_lt set s then Over else (if nat_lt k leg then Taken else Sent))
phase_of k set (Combine s) = if nat_lt s set then Sent else (if nat_lt set s then Over else Taken)

abbrev pub exit_of : ℕ → ℕ → Stage → Phase
exit_of k set RncTick = Before
exit_of k set (IubDown leg s) = Before
exit_of k set (RadioDown leg) = Before
exit_of k set UeTick = Middle
exit_of k set (RadioUp leg) = if nat_lt leg k then Middle else Sent
exit_of k set (IubUp s leg) = if nat_lt s set then Sent else (if nat_lt set s then Over else (if nat_lt leg k then Sent else Taken))
exit_of k set (Combine s) = if nat_lt s set then Sent else Over

-- what holds in a phase holds at a point
abbrev pub InPoint : (Phase → SoftState → Type 0) → ℕ → ℕ → Point → Type 0
InPoint P k set point = P (phase_of k set point.stage) point.soft

pub lt_yes : (a b : ℕ) → a < b → nat_lt a b ≡ true
lt_yes a b l = grind (arith, nat_tests, l)

pub lt_no : (a b : ℕ) → b ≤ a → nat_lt a b ≡ false
lt_no a b l = grind (arith, nat_tests, l)

-- a stage behind which there is a next one
goes_to : (P : Phase → SoftState → Type 0) (legs k set : ℕ) (stage next : Stage) (soft : SoftState) → next_stage legs stage ≡ Some next → exit_of k set stage ≡ phase_of k set next → P (exit_of k set stage) soft → InPoint P k set (behind soft (next_stage legs stage))
goes_to P legs k set stage next soft is same holds =
    subst (λ (o : Option Stage). InPoint P k set (behind soft o)) (sym is) (subst (λ (p : Phase). P p soft) same holds)

pub next_holds : (P : Phase → SoftState → Type 0) (legs k set : ℕ) → k < legs → set < 8 → ((soft : SoftState) → P Over soft → P Before (framed soft)) → (stage : Stage) (soft : SoftState) → P (exit_of k set stage) soft → InPoint P k set (behind soft (next_stage legs stage))
next_holds P legs k set there small ends RncTick soft h = h
next_holds P legs k set there small ends (IubDown leg s) soft h = elim (eqb_tells s 7) [
  | inl last ↦ goes_to P legs k set (IubDown leg s) (RadioDown leg) soft (rw last.0 refl) refl h
  | inr other ↦ goes_to P legs k set (IubDown leg s) (IubDown leg (s + 1)) soft (rw other.0 refl) refl h
]
next_holds P legs k set there small ends (RadioDown leg) soft h = elim (cases_lt (leg + 1) legs) [
  | inl more ↦ goes_to P legs k set (RadioDown leg) (IubDown (leg + 1) 0) soft (rw (lt_yes (leg + 1) legs more) refl) refl h
  | inr last ↦ goes_to P legs k set (RadioDown leg) UeTick soft (rw (lt_no (leg + 1) legs last) refl) refl h
]
next_holds P legs k set there small ends UeTick soft h = goes_to P legs k set UeTick (RadioUp 0) soft refl (rw (lt_no k 0 (omega arith)) refl) h
next_holds P legs k set there small ends (RadioUp leg) soft h = elim (cases_lt leg k) [
  | inl early ↦ goes_to P legs k set (RadioUp leg) (RadioUp (leg + 1)) soft (rw (lt_yes (leg + 1) legs (omega (arith, early, there))) refl) (rw (lt_yes leg k early, lt_no k (leg + 1) (omega (arith, early))) refl) h
  | inr late ↦ (elim (cases_lt (leg + 1) legs) [
    | inl more ↦ goes_to P legs k set (RadioUp leg) (RadioUp (leg + 1)) soft (rw (lt_yes (leg + 1) legs more) refl) (rw (lt_no leg k late, lt_yes k (leg + 1) (omega (arith, late))) refl) h
    | inr last ↦ goes_to P legs k set (RadioUp leg) (IubUp 0 0) soft (rw (lt_no (leg + 1) legs last) refl) (rw (lt_no leg k late) (sym (first_sent k set))) h
  ])
]
  where
    first_sent : (k set : ℕ) → phase_of k set (IubUp 0 0) ≡ Sent
    first_sent k set = elim (cases_lt 0 set) [
      | inl some ↦ rw (lt_yes 0 set some) refl
      | inr none ↦ rw (lt_no 0 set none, lt_no set 0 (omega arith), lt_no k 0 (omega arith)) refl
    ]
next_holds P legs k set there small ends (IubUp s leg) soft h = elim (cases_lt (leg + 1) legs) [
  | inl more ↦ goes_to P legs k set (IubUp s leg) (IubUp s (leg + 1)) soft (rw (lt_yes (leg + 1) legs more) refl) (on_leg s leg) h
  | inr last ↦ goes_to P legs k set (IubUp s leg) (Combine s) soft (rw (lt_no (leg + 1) legs last) refl) (on_set s leg (omega (arith, last, there))) h
]
  where
    on_leg : (s leg : ℕ) → exit_of k set (IubUp s leg) ≡ phase_of k set (IubUp s (leg + 1))
    on_leg s leg = elim (cases_lt s set) [
      | inl before ↦ rw (lt_yes s set before) refl
      | inr behind ↦ (elim (cases_lt set s) [
        | inl over ↦ rw (lt_no s set behind, lt_yes set s over) refl
        | inr own ↦ (elim (cases_lt leg k) [
          | inl early ↦ rw (lt_no s set behind, lt_no set s own, lt_yes leg k early, lt_no k (leg + 1) (omega (arith, early))) refl
          | inr late ↦ rw (lt_no s set behind, lt_no set s own, lt_no leg k late, lt_yes k (leg + 1) (omega (arith, late))) refl
        ])
      ])
    ]

    on_set : (s leg : ℕ) → k ≤ leg → exit_of k set (IubUp s leg) ≡ phase_of k set (Combine s)
    on_set s leg late = elim (cases_lt s set) [
      | inl before ↦ rw (lt_yes s set before) refl
      | inr behind ↦ (elim (cases_lt set s) [
        | inl over ↦ rw (lt_no s set behind, lt_yes set s over) refl
        | inr own ↦ rw (lt_no s set behind, lt_no set s own, lt_no leg k late) refl
      ])
    ]
next_holds P legs k set there small ends (Combine s) soft h = elim (eqb_tells s 7) [
  | inl last ↦ (
      let is : next_stage legs (Combine s) ≡ None = rw last.0 refl in
      let over : exit_of k set (Combine s) ≡ Over = rw (lt_no s set (omega (arith, last.1, small))) refl in
      subst (λ (o : Option Stage). InPoint P k set (behind soft o)) (sym is) (ends soft (subst (λ (p : Phase). P p soft) over h)))
  | inr other ↦ goes_to P legs k set (Combine s) (IubUp (s + 1) 0) soft (rw other.0 refl) (next_set s) h
]
  where
    next_set : (s : ℕ) → exit_of k set (Combine s) ≡ phase_of k set (IubUp (s + 1) 0)
    next_set s = elim (cases_lt s set) [
      | inl before ↦ (elim (cases_lt (s + 1) set) [
        | inl more ↦ rw (lt_yes s set before, lt_yes (s + 1) set more) refl
        | inr own ↦ rw (lt_yes s set before, lt_no (s + 1) set own, lt_no set (s + 1) (omega (arith, before)), lt_no k 0 (omega arith)) refl
      ])
      | inr behind ↦ rw (lt_no s set behind, lt_no (s + 1) set (omega (arith, behind)), lt_yes set (s + 1) (omega (arith, behind))) refl
    ]
