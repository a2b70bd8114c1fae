-- From which place on the lowest open PDU leaves a number outside.
use Rattle.std.proofs.Common.{◌≡◌, ◌+◌, ◌<◌, ◌≤◌, ℕ, zero, suc, List, [], ◌∷◌, ◌++◌, Bool, true, false, cond, not, ◌||◌, length, drop, get_or, arith, refl, sym, ap, ap₂, ◌∙◌, ⊎_elim}
use Rattle.std.specs.Prelude.{map, min, nat_lt, unwrap_or, ◌==◌}
use Rattle.std.proofs.lemmas.Bool.{cases_lt, le-ltb, lt-ltb}
use Rattle.dch_rlcpdu.specs.Fields.{Field, NoMoreField, WindowField, AckField, ListField, BitmapField, MrwField, MrwAckField}
use Rattle.dch_rlcpdu.specs.Sufis.{sufi_of}
use Rattle.dch_rlcpdu.specs.declared.sufi.Sufi.TheVariants.{MrwAck}
use Rattle.dch_am.specs.Bodies.{is_empty}
use Rattle.dch_am.specs.Numbers.{range}
use Rattle.dch_am.specs.Names.{named}
use Rattle.dch_retx.specs.declared.tell.Told.{Told}
use Rattle.dch_retx.specs.StatusItems.{StatusItem, bits_from, missing_of, said_by, said_in}
use Rattle.dch_retx.specs.StatusItem.{below_said, limit_in, limit_of, place_of, reports_some}
use Rattle.dch_retx.specs.Telling.{IsPassed, told_more}
use Rattle.dch_retx.proofs.Hearing.{reports-bits, reports-list}
use Rattle.dch_retx.proofs.Fields.{or_three, place_again, place_more, said_next}

min_three : (a b c : ℕ) → min a (min b c) ≡ min (min a b) c
min_three a b c = omega arith

-- it is no more than this
pub limit_low : (window first count : ℕ) (said : List StatusItem) → limit_in window first count said ≤ 4097
limit_low window first count [] = omega arith
limit_low window first count (s ∷ said) = omega (arith, limit_low window first count said)

pub limit-append : (window first count : ℕ) (xs ys : List StatusItem) → limit_in window first count (xs ++ ys) ≡ min (limit_in window first count xs) (limit_in window first count ys)
limit-append window first count [] ys = omega (arith, limit_low window first count ys)
limit-append window first count (x ∷ xs) ys = ap (min (limit_of window first count x)) (limit-append window first count xs ys) ∙ min_three (limit_of window first count x) (limit_in window first count xs) (limit_in window first count ys)

-- one part more of what is said
pub limit_part : (window first count l part : ℕ) (all rest here more : List StatusItem) → limit_in window first count all ≡ min l (limit_in window first count rest) → rest ≡ here ++ more → part ≡ limit_in window first count here → limit_in window first count all ≡ min (min l part) (limit_in window first count more)
limit_part window first count l part all rest here more is e q = is ∙ (ap (λ xs. min l (limit_in window first count xs)) e ∙ (ap (min l) (limit-append window first count here more ∙ ap (λ k. min k (limit_in window first count more)) (sym q)) ∙ min_three l part (limit_in window first count more)))

pub limit_one : (window first count l part : ℕ) (all rest more : List StatusItem) (item : StatusItem) → limit_in window first count all ≡ min l (limit_in window first count rest) → rest ≡ item ∷ more → part ≡ limit_of window first count item → limit_in window first count all ≡ min (min l part) (limit_in window first count more)
limit_one window first count l part all rest more item is e q = is ∙ (ap (λ xs. min l (limit_in window first count xs)) e ∙ (ap (λ k. min l (min k (limit_in window first count more))) (sym q) ∙ min_three l part (limit_in window first count more)))

-- a run of a LIST
missing_is : (window first count x : ℕ) → limit_of window first count (missing_of x) ≡ cond (nat_lt (place_of first x) count) (place_of first x + 1) 0
missing_is window first count x = ap (λ p. cond (nat_lt p count) (p + 1) 0) (place_again first x)

missing_in : (window first count x : ℕ) → place_of first x < count → limit_of window first count (missing_of x) ≡ place_of first x + 1
missing_in window first count x l = missing_is window first count x ∙ ap (λ b. cond b (place_of first x + 1) 0) (lt-ltb (place_of first x) count l)

missing_out : (window first count x : ℕ) → count ≤ place_of first x → limit_of window first count (missing_of x) ≡ 0
missing_out window first count x l = missing_is window first count x ∙ ap (λ b. cond b (place_of first x + 1) 0) (le-ltb (place_of first x) count l)

run_in : (window first count n x : ℕ) → count ≤ 2048 → place_of first x + n < count → limit_in window first count (map missing_of (range x (suc n))) ≡ place_of first x + 1
run_in window first count zero x most l = ap (λ k. min k 4097) (missing_in window first count x (omega arith)) ∙ omega arith
run_in window first count (suc n) x most l =
    let more : place_of first (x + 1) ≡ place_of first x + 1 = place_more first x (omega arith) in
    ap₂ min (missing_in window first count x (omega arith)) (run_in window first count n (x + 1) most (omega (arith, more))) ∙ omega (arith, more)

run_out : (window first count n x : ℕ) → count ≤ 2048 → count ≤ place_of first x + n → limit_in window first count (map missing_of (range x (suc n))) ≡ 0
run_out window first count zero x most l = ap (λ k. min k 4097) (missing_out window first count x (omega arith)) ∙ omega arith
run_out window first count (suc n) x most l = ⊎_elim
    (λ (h : place_of first x < count). ap (min (limit_of window first count (missing_of x))) (run_out window first count n (x + 1) most (omega (arith, place_more first x (omega arith)))) ∙ omega arith)
    (λ (h : count ≤ place_of first x). ap (λ k. min k (limit_in window first count (map missing_of (range (x + 1) (suc n))))) (missing_out window first count x h) ∙ omega arith)
    (cases_lt (place_of first x) count)

pub run_limit : (window first count x more p : ℕ) → count ≤ 2048 → p ≡ place_of first x → p + more < count → p + 1 ≡ limit_in window first count (map missing_of (range x (more + 1)))
run_limit window first count x more p most e l =
    let s : more + 1 ≡ suc more = omega arith in
    ap (λ k. k + 1) e ∙ (sym (run_in window first count more x most (omega arith)) ∙ ap (λ n. limit_in window first count (map missing_of (range x n))) (sym s))

pub run_none : (window first count x more p : ℕ) → count ≤ 2048 → p ≡ place_of first x → count ≤ p + more → 0 ≡ limit_in window first count (map missing_of (range x (more + 1)))
run_none window first count x more p most e l =
    let s : more + 1 ≡ suc more = omega arith in
    sym (run_out window first count more x most (omega arith)) ∙ ap (λ n. limit_in window first count (map missing_of (range x n))) (sym s)

-- a field with no LSN is told
some_test : {A : Type 0} (xs : List A) → not (is_empty xs) ≡ nat_lt 0 (length xs)
some_test [] = refl
some_test (x ∷ xs) = sym (lt-ltb 0 (suc (length xs)) (omega arith))

below-list : (first : ℕ) (ns : List ℕ) (rest : List StatusItem) → below_said first (map missing_of ns ++ rest) ≡ below_said first rest
below-list first [] rest = refl
below-list first (n ∷ ns) rest = below-list first ns rest

below-bits : (first from : ℕ) (bits : List Bool) (rest : List StatusItem) → below_said first (bits_from from bits ++ rest) ≡ below_said first rest
below-bits first from [] rest = refl
below-bits first from (true ∷ bits) rest = below-bits first (from + 1) bits rest
below-bits first from (false ∷ bits) rest = below-bits first (from + 1) bits rest

limit_more : (told : Told) (window first count l : ℕ) (said rest : List StatusItem) → l ≡ limit_in window first count said → min told.limit (limit_in window first count (said ++ rest)) ≡ min (min told.limit l) (limit_in window first count rest)
limit_more told window first count l said rest e = ap (min told.limit) (limit-append window first count said rest ∙ ap (λ k. min k (limit_in window first count rest)) (sym e)) ∙ min_three told.limit l (limit_in window first count rest)

pub tell_list : (told : Told) (window first count l n : ℕ) (pairs : List (ℕ × ℕ)) → n ≡ length pairs → l ≡ limit_in window first count (map missing_of (named pairs)) → IsPassed (told_more told (nat_lt 0 n) l) told window first count (map missing_of (named pairs))
tell_list told window first count l n pairs q e = record {
  below = λ rest. ap (unwrap_or told.below) (below-list first (named pairs) rest);
  reports = λ rest. ap (λ b. told.reports || b) (reports-list pairs rest ∙ ap (λ b. b || reports_some rest) (some_test pairs ∙ ap (nat_lt 0) (sym q))) ∙ or_three told.reports (nat_lt 0 n) (reports_some rest);
  ending = refl;
  small = omega arith;
  limit_is = λ rest. limit_more told window first count l (map missing_of (named pairs)) rest e;
}

pub tell_bits : (told : Told) (window first count l from n : ℕ) (bits : List Bool) → n ≡ length bits → l ≡ limit_in window first count (bits_from from bits) → IsPassed (told_more told (nat_lt 0 n) l) told window first count (bits_from from bits)
tell_bits told window first count l from n bits q e = record {
  below = λ rest. ap (unwrap_or told.below) (below-bits first from bits rest);
  reports = λ rest. ap (λ b. told.reports || b) (reports-bits from bits rest ∙ ap (λ b. b || reports_some rest) (some_test bits ∙ ap (nat_lt 0) (sym q))) ∙ or_three told.reports (nat_lt 0 n) (reports_some rest);
  ending = refl;
  small = omega arith;
  limit_is = λ rest. limit_more told window first count l (bits_from from bits) rest e;
}

-- a field is told, and those behind it are to come
pub record IsToldOn (now told : Told) (window first count : ℕ) (fields rest : List Field) : Type 0 where
  pub below : unwrap_or told.below (below_said first (said_by fields)) ≡ unwrap_or now.below (below_said first (said_by rest))
  pub reports : (told.reports || reports_some (said_by fields)) ≡ (now.reports || reports_some (said_by rest))
  pub limit_is : min told.limit (limit_in window first count (said_by fields)) ≡ min now.limit (limit_in window first count (said_by rest))

pub told_on : (now told : Told) (window first count : ℕ) (fields rest : List Field) → (length fields == 0) ≡ false → rest ≡ drop 1 fields → IsPassed now told window first count (said_in (get_or fields 0 NoMoreField)) → IsToldOn now told window first count fields rest
told_on now told window first count fields rest some e is = record {
  below = ap (λ xs. unwrap_or told.below (below_said first xs)) (said_next fields some) ∙ (is.below (said_by (drop 1 fields)) ∙ ap (λ (fs : List Field). unwrap_or now.below (below_said first (said_by fs))) (sym e));
  reports = ap (λ xs. told.reports || reports_some xs) (said_next fields some) ∙ (is.reports (said_by (drop 1 fields)) ∙ ap (λ (fs : List Field). now.reports || reports_some (said_by fs)) (sym e));
  limit_is = ap (λ xs. min told.limit (limit_in window first count xs)) (said_next fields some) ∙ (is.limit_is (said_by (drop 1 fields)) ∙ ap (λ (fs : List Field). min now.limit (limit_in window first count (said_by fs))) (sym e));
}

-- an MRW_ACK has no numbers that are told
pub tell_obeyed : (told : Told) (window first count : ℕ) (field : Field) (n sn : ℕ) → MrwAck n sn ≡ sufi_of field → IsPassed told told window first count (said_in field)
tell_obeyed told window first count NoMoreField n sn e = absurd (cc)
tell_obeyed told window first count (WindowField size) n sn e = absurd (cc)
tell_obeyed told window first count (AckField lsn) n sn e = absurd (cc)
tell_obeyed told window first count (ListField pairs) n sn e = absurd (cc)
tell_obeyed told window first count (BitmapField from bits) n sn e = absurd (cc)
tell_obeyed told window first count (MrwField last m) n sn e = absurd (cc)
tell_obeyed told window first count (MrwAckField m k) n sn e = record { below = λ rest. refl; reports = λ rest. refl; ending = refl; small = omega arith; limit_is = λ rest. omega (arith, limit_low window first count rest) }
