-- Counts of blocks and bits, written priority by priority.
use Rattle.std.proofs.Common.{◌≡◌, ◌<◌, ◌≤◌, ◌≢◌, ◌+◌, ◌-◌, ◌*◌, ℕ, List, get_or, set, length, refl, ap₂, sym, ◌∙◌, subst, arith, inl, inr, get_or-set_other, get_or-set_same}
use Rattle.std.specs.Prelude.{min}
use Rattle.std.proofs.lemmas.Bool.{cases_eq}
use Rattle.dch_types.proofs.Sums.{total-more}
use Rattle.dch_types.specs.declared.channel.Format.{Format}
use Rattle.dch_types.specs.Parts.{format_number}
use Rattle.dch_mac.specs.Asked.{Asked, IsAsked, priority_of}
use Rattle.dch_mac.specs.Offered.{offered, waiting_below, waiting_at, waiting_above, given_by}
use Rattle.dch_mac.specs.Best.{carried_on, carried_below}
use Rattle.dch_mac.specs.Table.{carried_in, format_of}
use Rattle.dch_mac.proofs.Sharing.{waiting_more, waiting_same, given_by_is, left_is}

-- the counts with one more bearer
pub count_next : (asked : Asked) (i size b place o : ℕ) (xs : List ℕ) → place < length xs → place + 1 ≡ priority_of asked b → place < 8
    → o ≡ offered asked i size b → ((q : ℕ) → q < 8 → get_or xs q 0 ≡ waiting_below asked i size (q + 1) b)
    → (q : ℕ) → q < 8 → get_or (set xs place (get_or xs place 0 + o)) q 0 ≡ waiting_below asked i size (q + 1) (b + 1)
count_next asked i size b place o xs there own small offer each q less =
    let next : ℕ = get_or xs place 0 + o in
    elim (cases_eq place q) [
      | inl same ↦
          let P : ℕ → Type 0 = λ k. get_or (set xs place next) k 0 ≡ waiting_below asked i size (k + 1) (b + 1) in
          subst P same
          (get_or-set_same xs place next 0 there ∙ ap₂ (λ s t. s + t) (each place small) offer ∙ sym (waiting_more asked i size (place + 1) b (sym own)))
      | inr other ↦
          let differs : q ≢ place = λ e. other (sym e) in
          let shown : get_or (set xs place next) q 0 ≡ get_or xs q 0 = rw get_or-set_other refl in
          shown ∙ each q less ∙ sym (waiting_same asked i size (q + 1) b (λ e. other (omega arith)))
    ]

pub count_small : (place o more : ℕ) (xs : List ℕ) → place < length xs → o ≤ 65535 → place < 8 → ((q : ℕ) → q < 8 → get_or xs q 0 ≤ more * 65535)
    → (q : ℕ) → q < 8 → get_or (set xs place (get_or xs place 0 + o)) q 0 ≤ (more + 1) * 65535
count_small place o more xs there few small each q less =
    let next : ℕ = get_or xs place 0 + o in
    elim (cases_eq place q) [
      | inl same ↦
          let P : ℕ → Type 0 = λ k. get_or (set xs place next) k 0 ≤ (more + 1) * 65535 in
          subst P same (omega (arith, get_or-set_same xs place next 0 there, each place small))
      | inr other ↦
          let differs : q ≢ place = λ e. other (sym e) in
          let shown : get_or (set xs place next) q 0 ≡ get_or xs q 0 = rw get_or-set_other refl in
          omega (arith, shown, each q less)
    ]

-- what is given at a priority, and what is left then
pub given_is : (asked : Asked) (i : ℕ) (format : Format) (q left count blocks : ℕ) → IsAsked asked
    → left ≡ format.number - waiting_above asked i format.size q → count ≡ waiting_at asked i format.size (q + 1) → blocks ≡ min left count
    → blocks ≡ given_by asked i format (q + 1)
given_is asked i format q left count blocks good rest waits least =
    least ∙ ap₂ (λ s t. min s t) rest waits ∙ sym (given_by_is asked i format q good)

pub left_next : (asked : Asked) (i : ℕ) (format : Format) (q left count blocks : ℕ)
    → left ≡ format.number - waiting_above asked i format.size q → count ≡ waiting_at asked i format.size (q + 1) → blocks ≡ min left count
    → left - blocks ≡ format.number - waiting_above asked i format.size (q + 1)
left_next asked i format q left count blocks rest waits least = omega (arith, rest, waits, least, left_is asked i format.size q)

-- one more channel
pub carried_next : (asked : Asked) (c p i x y more : ℕ) → x ≡ carried_below asked c p i → y ≡ x + more
    → more ≡ carried_in asked i (format_of asked i (format_number asked.side c i)) p → y ≡ carried_below asked c p (i + 1)
carried_next asked c p i x y more before next here =
    let is_carried : more ≡ carried_on asked c p i = here in
    omega (arith, before, next, is_carried, total-more (carried_on asked c p) i)
