-- What the fields of a status say, one after another.
use Rattle.std.proofs.Common.{◌≡◌, ◌+◌, ◌-◌, ◌<◌, ◌≤◌, ℕ, zero, suc, List, [], ◌∷◌, ◌++◌, Bool, true, false, cond, ◌||◌, length, drop, get_or, Option, Some, None, arith, refl, sym, ap, ◌∙◌, ⊎_elim}
use Rattle.std.specs.Prelude.{is_some, map, nat_le, ◌==◌}
use Rattle.std.proofs.lemmas.Bool.{both_ways, cases_lt, eqb-true, le-leb, lt-leb}
use Rattle.std.proofs.lemmas.List.{drop_more, map-append}
use Rattle.circular_buffer.specs.Buffer.{Buffer, buffer}
use Rattle.dch_rlcpdu.specs.Fields.{Field, NoMoreField}
use Rattle.dch_am.specs.Numbers.{range, wrapped}
use Rattle.dch_am.specs.Names.{named}
use Rattle.dch_am.specs.Acknowledging.{first_of_both}
use Rattle.dch_retx.specs.declared.sent_pdu.SentPdu.{SentPdu}
use Rattle.dch_retx.specs.StatusItems.{StatusItem, Missing, missing_of, said_by, said_in}
use Rattle.dch_retx.specs.StatusItem.{first_outside, is_named, names_place, place_of, with_name, with_names}
use Rattle.dch_retx.proofs.Hearing.{outside-append}

pub or_three : (a b c : Bool) → (a || (b || c)) ≡ ((a || b) || c)
or_three true b c = refl
or_three false b c = refl

pub or_no : (a : Bool) → (a || false) ≡ a
or_no true = refl
or_no false = refl

pub said_next : (fields : List Field) → (length fields == 0) ≡ false → said_by fields ≡ said_in (get_or fields 0 NoMoreField) ++ said_by (drop 1 fields)
said_next [] e = absurd (both_ways true e refl)
said_next (field ∷ fields) e = refl

both_some : (o p : Option ℕ) → is_some o ≡ true → first_of_both o p ≡ o
both_some None p e = absurd (cc)
both_some (Some i) p e = refl

both_none : (o p : Option ℕ) → is_some o ≡ false → first_of_both o p ≡ p
both_none None p e = refl
both_none (Some i) p e = absurd (cc)

pub none_left : (fields : List Field) → (length fields == 0) ≡ true → said_by fields ≡ []
none_left [] e = refl
none_left (field ∷ fields) e = absurd (omega (arith, eqb-true (length (field ∷ fields)) 0 e))

-- a field with a number that is outside, and one without
pub field_outside : (window first count : ℕ) (fields : List Field) (o : Option ℕ) → (length fields == 0) ≡ false → o ≡ first_outside window first count (said_in (get_or fields 0 NoMoreField)) → is_some o ≡ true → first_outside window first count (said_by fields) ≡ o
field_outside window first count fields o more e some =
    ap (first_outside window first count) (said_next fields more)
    ∙ (outside-append window first count (said_in (get_or fields 0 NoMoreField)) (said_by (drop 1 fields))
    ∙ (ap (λ x. first_of_both x (first_outside window first count (said_by (drop 1 fields)))) (sym e) ∙ both_some o (first_outside window first count (said_by (drop 1 fields))) some))

pub field_inside : (window first count : ℕ) (fields rest : List Field) (o : Option ℕ) → (length fields == 0) ≡ false → rest ≡ drop 1 fields → o ≡ first_outside window first count (said_in (get_or fields 0 NoMoreField)) → is_some o ≡ false → first_outside window first count (said_by fields) ≡ first_outside window first count (said_by rest)
field_inside window first count fields rest o more r e none =
    ap (first_outside window first count) (said_next fields more)
    ∙ (outside-append window first count (said_in (get_or fields 0 NoMoreField)) (said_by (drop 1 fields))
    ∙ (ap (λ x. first_of_both x (first_outside window first count (said_by (drop 1 fields)))) (sym e) ∙ (both_none o (first_outside window first count (said_by (drop 1 fields))) none
    ∙ ap (λ (fs : List Field). first_outside window first count (said_by fs)) (sym r))))

-- a run of a LIST
pub numbers_of : (ps : List (ℕ × ℕ)) (j : ℕ) (p : ℕ × ℕ) → j < length ps → get_or ps j (0, 0) ≡ p → map missing_of (named (drop j ps)) ≡ map missing_of (range p.0 (p.1 + 1)) ++ map missing_of (named (drop (j + 1) ps))
numbers_of ps j p l e = ap (λ (qs : List (ℕ × ℕ)). map missing_of (named qs)) (drop_more ps j (0, 0) l) ∙ (ap (λ (q : ℕ × ℕ). map missing_of (range q.0 (q.1 + 1) ++ named (drop (j + 1) ps))) e ∙ map-append missing_of (range p.0 (p.1 + 1)) (named (drop (j + 1) ps)))

pub run_outside : (window first count : ℕ) (ps : List (ℕ × ℕ)) (j : ℕ) (p : ℕ × ℕ) (o : Option ℕ) → j < length ps → get_or ps j (0, 0) ≡ p → o ≡ first_outside window first count (map missing_of (range p.0 (p.1 + 1))) → is_some o ≡ true → first_outside window first count (map missing_of (named (drop j ps))) ≡ o
run_outside window first count ps j p o l e q some =
    ap (first_outside window first count) (numbers_of ps j p l e)
    ∙ (outside-append window first count (map missing_of (range p.0 (p.1 + 1))) (map missing_of (named (drop (j + 1) ps)))
    ∙ (ap (λ x. first_of_both x (first_outside window first count (map missing_of (named (drop (j + 1) ps))))) (sym q) ∙ both_some o (first_outside window first count (map missing_of (named (drop (j + 1) ps)))) some))

pub run_inside : (window first count : ℕ) (ps : List (ℕ × ℕ)) (j : ℕ) (p : ℕ × ℕ) (o : Option ℕ) → j < length ps → get_or ps j (0, 0) ≡ p → o ≡ first_outside window first count (map missing_of (range p.0 (p.1 + 1))) → is_some o ≡ false → first_outside window first count (map missing_of (named (drop j ps))) ≡ first_outside window first count (map missing_of (named (drop (j + 1) ps)))
run_inside window first count ps j p o l e q none =
    ap (first_outside window first count) (numbers_of ps j p l e)
    ∙ (outside-append window first count (map missing_of (range p.0 (p.1 + 1))) (map missing_of (named (drop (j + 1) ps)))
    ∙ (ap (λ x. first_of_both x (first_outside window first count (map missing_of (named (drop (j + 1) ps))))) (sym q) ∙ both_none o (first_outside window first count (map missing_of (named (drop (j + 1) ps)))) none))

-- the places of a run rise by one
pub place_again : (first x : ℕ) → place_of first (wrapped x) ≡ place_of first x
place_again first x = omega arith

pub place_more : (first x : ℕ) → place_of first x < 2048 → place_of first (x + 1) ≡ place_of first x + 1
place_more first x l = omega arith

head_out : (window first count x : ℕ) (rest : List StatusItem) → count ≤ place_of first x → first_outside window first count (missing_of x ∷ rest) ≡ Some (wrapped x)
head_out window first count x rest l = ap (λ b. cond b (Some (wrapped x)) (first_outside window first count rest)) (ap (nat_le count) (place_again first x) ∙ le-leb count (place_of first x) l)

head_in : (window first count x : ℕ) (rest : List StatusItem) → place_of first x < count → first_outside window first count (missing_of x ∷ rest) ≡ first_outside window first count rest
head_in window first count x rest l = ap (λ b. cond b (Some (wrapped x)) (first_outside window first count rest)) (ap (nat_le count) (place_again first x) ∙ lt-leb count (place_of first x) l)

run_within : (window first count n x : ℕ) → count ≤ 2048 → place_of first x + n ≤ count → first_outside window first count (map missing_of (range x n)) ≡ None
run_within window first count zero x most l = refl
run_within window first count (suc n) x most l =
    head_in window first count x (map missing_of (range (x + 1) n)) (omega arith)
    ∙ run_within window first count n (x + 1) most (omega (arith, place_more first x))

pub run_in : (window first count x more : ℕ) → count ≤ 2048 → place_of first x + more < count → None ≡ first_outside window first count (map missing_of (range x (more + 1)))
run_in window first count x more most l = sym (run_within window first count (more + 1) x most (omega arith))

run_reaches : (window first count n x : ℕ) → count ≤ 2048 → place_of first x ≤ count → count < place_of first x + n → first_outside window first count (map missing_of (range x n)) ≡ Some (wrapped (x + (count - place_of first x)))
run_reaches window first count zero x most l m = absurd (omega arith)
run_reaches window first count (suc n) x most l m = ⊎_elim
    (λ (h : place_of first x < count).
    let more : place_of first (x + 1) ≡ place_of first x + 1 = place_more first x (omega arith) in
    let same : x + 1 + (count - place_of first (x + 1)) ≡ x + (count - place_of first x) = omega arith in
    head_in window first count x (map missing_of (range (x + 1) n)) h
    ∙ (run_reaches window first count n (x + 1) most (omega arith) (omega arith) ∙ ap (λ k. Some (wrapped k)) same))
    (λ (h : count ≤ place_of first x).
    let same : x ≡ x + (count - place_of first x) = omega arith in
    head_out window first count x (map missing_of (range (x + 1) n)) h ∙ ap (λ k. Some (wrapped k)) same)
    (cases_lt (place_of first x) count)

pub run_edge : (window first count x more : ℕ) → count ≤ 2048 → place_of first x < count → count ≤ place_of first x + more → Some (wrapped (x + (count - place_of first x))) ≡ first_outside window first count (map missing_of (range x (more + 1)))
run_edge window first count x more most l m = sym (run_reaches window first count (more + 1) x most (omega arith) (omega arith))

-- what is named so far, and what is left
pub record IsNaming (first polled from to : ℕ) (all rest : List StatusItem) (is : Bool) (flight now : Buffer SentPdu) : Type 0 where
  pub named : is_named first polled all ≡ (is || is_named first polled rest)
  pub after : with_names first from to all flight.items ≡ with_names first from to rest now.items
  pub room : now.capacity ≡ flight.capacity

named-append : (first i : ℕ) (xs ys : List StatusItem) → is_named first i (xs ++ ys) ≡ (is_named first i xs || is_named first i ys)
named-append first i [] ys = refl
named-append first i (x ∷ xs) ys = ap (λ b. names_place first i x || b) (named-append first i xs ys) ∙ or_three (names_place first i x) (is_named first i xs) (is_named first i ys)

with-append : (first from to : ℕ) (xs ys : List StatusItem) (in_flight : List SentPdu) → with_names first from to (xs ++ ys) in_flight ≡ with_names first from to ys (with_names first from to xs in_flight)
with-append first from to [] ys in_flight = refl
with-append first from to (x ∷ xs) ys in_flight = with-append first from to xs ys (with_name first from to x in_flight)

pub naming_part : (first polled from to : ℕ) (all rest here more : List StatusItem) (is h : Bool) (flight now next : Buffer SentPdu) → rest ≡ here ++ more → h ≡ is_named first polled here → next ≡ buffer (with_names first from to here now.items) now.capacity → IsNaming first polled from to all rest is flight now → IsNaming first polled from to all more (is || h) flight next
naming_part first polled from to all rest here more is h flight now next e q n w = record {
  named = w.named ∙ (ap (λ xs. is || is_named first polled xs) e ∙ (ap (λ b. is || b) (named-append first polled here more) ∙ (or_three is (is_named first polled here) (is_named first polled more) ∙ ap (λ b. (is || b) || is_named first polled more) (sym q))));
  after = w.after ∙ (ap (λ xs. with_names first from to xs now.items) e ∙ (with-append first from to here more now.items ∙ ap (λ (b : Buffer SentPdu). with_names first from to more b.items) (sym n)));
  room = ap (λ (b : Buffer SentPdu). b.capacity) n ∙ w.room;
}

pub naming_one : (first polled from to : ℕ) (all rest more : List StatusItem) (item : StatusItem) (is h : Bool) (flight now next : Buffer SentPdu) → rest ≡ item ∷ more → h ≡ names_place first polled item → next ≡ buffer (with_name first from to item now.items) now.capacity → IsNaming first polled from to all rest is flight now → IsNaming first polled from to all more (is || h) flight next
naming_one first polled from to all rest more item is h flight now next e q n w = naming_part first polled from to all rest (item ∷ []) more is h flight now next e (q ∙ sym (or_no (names_place first polled item))) n w

-- the numbers of a run
pub range_next : (x k n : ℕ) → k < n → map missing_of (range (x + k) (n - k)) ≡ Missing (wrapped (x + k)) ∷ map missing_of (range (x + (k + 1)) (n - (k + 1)))
range_next x k n l =
    let e : n - k ≡ suc (n - (k + 1)) = omega arith in
    let p : x + k + 1 ≡ x + (k + 1) = omega arith in
    ap (λ m. map missing_of (range (x + k) m)) e ∙ ap (λ y. Missing (wrapped (x + k)) ∷ map missing_of (range y (n - (k + 1)))) p
