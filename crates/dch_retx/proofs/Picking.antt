-- Which PDU is built next.
use Rattle.std.proofs.Common.{◌≡◌, ◌+◌, ◌-◌, ◌<◌, ◌≤◌, ℕ, zero, suc, List, [], ◌∷◌, Bool, true, false, cond, ◌&&◌, length, arith, refl, sym, ap, ap₂, ◌∙◌, ⊎_elim}
use Rattle.std.specs.Prelude.{nat_lt, ◌==◌}
use Rattle.std.proofs.lemmas.Bool.{and_parts, both_ways, cases_lt, eqb-true, lt-ltb, le-ltb, ltb-true, or_cases}
use Rattle.std.proofs.lemmas.Bool.Decides.{nat_tests}
use Rattle.dch_retx.specs.declared.sent_pdu.SentPdu.{SentPdu}
use Rattle.dch_retx.specs.Flights.{at, first_requested}
use Rattle.dch_am.specs.Numbers.{has, lowest}
use Rattle.dch_am.specs.Rules.{Rules}
use Rattle.dch_am.specs.Bodies.{is_left}
use Rattle.dch_am.specs.Sender.{Sender, vt_s, vt_a}
use Rattle.dch_am.specs.Building.{Choice, choice}
use Rattle.dch_am.specs.Building.{Again as Requested, New as Fresh, Last as Latest, NoPdu as Nothing}
use Rattle.dch_am.proofs.Lists.{Is, lowest_in}
use Rattle.dch_retx.specs.declared.buffer.Pick.{Pick}
use Rattle.dch_retx.specs.declared.buffer.Pick.TheVariants.{Again, New, Last, NoPdu}
use Rattle.dch_retx.specs.RetxBuffer.{RetxBuffer}
use Rattle.dch_retx.specs.Polling.{picked}
use Rattle.dch_retx.specs.Standing.{IsRequested, Stands, chosen}

first_before : (in_flight : List SentPdu) (i : ℕ) → i < first_requested in_flight → (at in_flight i).requested ≡ false
first_before [] i l = absurd (omega arith)
first_before (f ∷ in_flight) i l = go f.requested refl i l (λ j m. first_before in_flight j m)
  where
    go : (b : Bool) → f.requested ≡ b → (i : ℕ) → i < cond b 0 (suc (first_requested in_flight)) → ((j : ℕ) → j < first_requested in_flight → (at in_flight j).requested ≡ false) → (at (f ∷ in_flight) i).requested ≡ false
    go true e i m rest = absurd (omega arith)
    go false e zero m rest = e
    go false e (suc i) m rest = rest i (omega arith)

first_here : (in_flight : List SentPdu) → first_requested in_flight < length in_flight → (at in_flight (first_requested in_flight)).requested ≡ true
first_here [] l = absurd (omega arith)
first_here (f ∷ in_flight) l = go f.requested refl l (first_here in_flight)
  where
    go : (b : Bool) → f.requested ≡ b → cond b 0 (suc (first_requested in_flight)) < suc (length in_flight) → (first_requested in_flight < length in_flight → (at in_flight (first_requested in_flight)).requested ≡ true) → (at (f ∷ in_flight) (cond b 0 (suc (first_requested in_flight)))).requested ≡ true
    go true e m rest = e
    go false e m rest = rest (omega arith)

-- where one is requested, the first is no later; where none is, there is none
pub first_low : (in_flight : List SentPdu) (i : ℕ) → (at in_flight i).requested ≡ true → first_requested in_flight ≤ i
first_low in_flight i e = ⊎_elim (λ (l : i < first_requested in_flight). absurd (both_ways _ (first_before in_flight i l) e)) (λ (l : first_requested in_flight ≤ i). l) (cases_lt i (first_requested in_flight))

pub first_all : (in_flight : List SentPdu) → ((i : ℕ) → i < length in_flight → (at in_flight i).requested ≡ false) → length in_flight ≤ first_requested in_flight
first_all in_flight none = ⊎_elim (λ (l : first_requested in_flight < length in_flight). absurd (both_ways _ (none (first_requested in_flight) l) (first_here in_flight l))) (λ (l : length in_flight ≤ first_requested in_flight). l) (cases_lt (first_requested in_flight) (length in_flight))

lowest_least : (n : ℕ) (xs : List ℕ) (x : ℕ) → Is x xs → lowest n xs ≤ x
lowest_least n [] x e = absurd (both_ways false refl e)
lowest_least n (y ∷ xs) x e = ⊎_elim (λ (q : (x == y) ≡ true). let s : x ≡ y = eqb-true x y q in omega arith) (λ (q : has x xs ≡ true). omega (arith, lowest_least n xs x q)) (or_cases _ _ e)

-- the lowest requested number, by its place
pub lowest_is : (rules : Rules) (l : RetxBuffer) (s : Sender) → Stands rules l s → first_requested l.in_flight < length l.in_flight → lowest (vt_s s) s.requested ≡ vt_a s + first_requested l.in_flight
lowest_is rules l s is less =
    let p : ℕ = first_requested l.in_flight in
    let there : has (vt_a s + first_requested l.in_flight) s.requested ≡ true = sym (is.in_flight (first_requested l.in_flight) less).requested ∙ first_here l.in_flight less in
    let most : lowest (vt_s s) s.requested ≤ vt_a s + first_requested l.in_flight = lowest_least (vt_s s) s.requested (vt_a s + first_requested l.in_flight) there in
    let inside : lowest (vt_s s) s.requested < vt_s s = omega (arith, is.flying) in
    let member : has (lowest (vt_s s) s.requested) s.requested ≡ true = lowest_in (vt_s s) s.requested inside in
    ⊎_elim
    (λ (before : lowest (vt_s s) s.requested < vt_a s + first_requested l.in_flight). absurd (both_ways _ (first_before l.in_flight (lowest (vt_s s) s.requested - vt_a s) (omega (arith, (is.requested _ member).from))) (is_requested_there (lowest (vt_s s) s.requested) member)))
    (λ (rest : vt_a s + first_requested l.in_flight ≤ lowest (vt_s s) s.requested). omega arith)
    (cases_lt (lowest (vt_s s) s.requested) (vt_a s + first_requested l.in_flight))
  where
    is_requested_there : (k : ℕ) → has k s.requested ≡ true → (at l.in_flight (k - vt_a s)).requested ≡ true
    is_requested_there k e =
        let w : IsRequested s k = is.requested k e in
        let number : vt_a s + (k - vt_a s) ≡ k = omega (arith, w.from) in
        (is.in_flight (k - vt_a s) (omega (arith, w.from, w.sent, is.flying))).requested ∙ (ap (λ x. has x s.requested) number ∙ e)

none_lower : (rules : Rules) (l : RetxBuffer) (s : Sender) → Stands rules l s → length l.in_flight ≤ first_requested l.in_flight → vt_s s ≤ lowest (vt_s s) s.requested
none_lower rules l s is more = ⊎_elim
    (λ (less : lowest (vt_s s) s.requested < vt_s s).
    let member : has (lowest (vt_s s) s.requested) s.requested ≡ true = lowest_in (vt_s s) s.requested less in
    let w : IsRequested s (lowest (vt_s s) s.requested) = is.requested (lowest (vt_s s) s.requested) member in
    let number : vt_a s + (lowest (vt_s s) s.requested - vt_a s) ≡ lowest (vt_s s) s.requested = omega (arith, w.from) in
    let inside : lowest (vt_s s) s.requested - vt_a s < length l.in_flight = omega (arith, w.from, w.sent, is.flying) in
    absurd (both_ways _ (first_before l.in_flight (lowest (vt_s s) s.requested - vt_a s) (omega arith)) ((is.in_flight (lowest (vt_s s) s.requested - vt_a s) inside).requested ∙ (ap (λ x. has x s.requested) number ∙ member))))
    (λ (rest : vt_s s ≤ lowest (vt_s s) s.requested). rest)
    (cases_lt (lowest (vt_s s) s.requested) (vt_s s))

pub picked_is : (rules : Rules) (l : RetxBuffer) (s : Sender) (left : Bool) → Stands rules l s → left ≡ is_left s.unsent → chosen (vt_a s) (picked left l) ≡ choice rules s
picked_is rules l s left is e = ⊎_elim requested later (cases_lt (first_requested l.in_flight) (length l.in_flight))
  where
    low : ℕ
    low = vt_a s

    requested : first_requested l.in_flight < length l.in_flight → chosen (vt_a s) (picked left l) ≡ choice rules s
    requested less =
        let q : lowest (vt_s s) s.requested ≡ vt_a s + first_requested l.in_flight = lowest_is rules l s is less in
        ap (λ b. chosen (vt_a s) (cond b (Again (first_requested l.in_flight)) (rest left))) (lt-ltb _ _ less)
        ∙ sym (ap (λ b. cond b (Requested (lowest (vt_s s) s.requested)) others) (lt-ltb (lowest (vt_s s) s.requested) (vt_s s) (omega (arith, is.flying))) ∙ ap Requested q)
      where
        rest : Bool → Pick
        rest b = cond (nat_lt (length l.in_flight) l.window && b) New (cond (l.owed && nat_lt 0 (length l.in_flight)) (Last (length l.in_flight - 1)) NoPdu)

        others : Choice
        others = cond (nat_lt (vt_s s) (vt_a s + rules.window) && is_left s.unsent) Fresh (cond (s.owed && nat_lt (vt_a s) (vt_s s)) (Latest (vt_s s - 1)) Nothing)

    later : length l.in_flight ≤ first_requested l.in_flight → chosen (vt_a s) (picked left l) ≡ choice rules s
    later more =
        ap (λ b. chosen (vt_a s) (cond b (Again (first_requested l.in_flight)) (cond (nat_lt (length l.in_flight) l.window && left) New (cond (l.owed && nat_lt 0 (length l.in_flight)) (Last (length l.in_flight - 1)) NoPdu)))) (le-ltb _ _ more)
        ∙ (parts (nat_lt (length l.in_flight) l.window && left) (l.owed && nat_lt 0 (length l.in_flight)) (nat_lt (vt_s s) (vt_a s + rules.window) && is_left s.unsent) (s.owed && nat_lt (vt_a s) (vt_s s)) tests owed (λ q. omega (arith, ltb-true (vt_a s) (vt_s s) (and_parts s.owed (nat_lt (vt_a s) (vt_s s)) q).1, is.flying))
        ∙ sym (ap (λ b. cond b (Requested (lowest (vt_s s) s.requested)) (cond (nat_lt (vt_s s) (vt_a s + rules.window) && is_left s.unsent) Fresh (cond (s.owed && nat_lt (vt_a s) (vt_s s)) (Latest (vt_s s - 1)) Nothing))) (le-ltb (lowest (vt_s s) s.requested) (vt_s s) (none_lower rules l s is more))))
      where
        order : (low n w next : ℕ) → low + n ≡ next → nat_lt n w ≡ nat_lt next (low + w)
        order low n w next e = grind (arith, nat_tests)

        some : (low n next : ℕ) → low + n ≡ next → nat_lt 0 n ≡ nat_lt low next
        some low n next e = grind (arith, nat_tests)

        tests : (nat_lt (length l.in_flight) l.window && left) ≡ (nat_lt (vt_s s) (vt_a s + rules.window) && is_left s.unsent)
        tests = ap₂ (λ a b. a && b) (ap (nat_lt (length l.in_flight)) is.window ∙ order (vt_a s) (length l.in_flight) rules.window (vt_s s) is.flying) e

        owed : (l.owed && nat_lt 0 (length l.in_flight)) ≡ (s.owed && nat_lt (vt_a s) (vt_s s))
        owed = ap₂ (λ a b. a && b) is.owed (some (vt_a s) (length l.in_flight) (vt_s s) is.flying)

        parts : (a b c d : Bool) → a ≡ c → b ≡ d → (d ≡ true → 0 < length l.in_flight) → chosen (vt_a s) (cond a New (cond b (Last (length l.in_flight - 1)) NoPdu)) ≡ cond c Fresh (cond d (Latest (vt_s s - 1)) Nothing)
        parts a b c d e1 e2 any = ap₂ (λ x y. chosen (vt_a s) (cond x New (cond y (Last (length l.in_flight - 1)) NoPdu))) e1 e2 ∙ go c d any
          where
            go : (c d : Bool) → (d ≡ true → 0 < length l.in_flight) → chosen (vt_a s) (cond c New (cond d (Last (length l.in_flight - 1)) NoPdu)) ≡ cond c Fresh (cond d (Latest (vt_s s - 1)) Nothing)
            go true d q = refl
            go false false q = refl
            go false true q = let number : vt_a s + (length l.in_flight - 1) ≡ vt_s s - 1 = omega (arith, q refl, is.flying) in ap Latest number
