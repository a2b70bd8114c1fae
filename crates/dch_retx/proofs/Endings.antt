-- Which field of a status ends a discard.
use Rattle.std.proofs.Common.{◌≡◌, ◌+◌, ℕ, List, [], ◌∷◌, ◌++◌, Bool, true, false, length, drop, get_or, Option, Some, None, refl, sym, ap, ◌∙◌}
use Rattle.std.specs.Prelude.{map, ◌==◌}
use Rattle.std.specs.Option.{option_or}
use Rattle.std.proofs.lemmas.Bool.{both_ways}
use Rattle.dch_rlcpdu.specs.Fields.{Field, NoMoreField, WindowField, AckField, ListField, BitmapField, MrwField, MrwAckField}
use Rattle.dch_rlcpdu.specs.declared.sufi.Sufi.{Sufi}
use Rattle.dch_rlcpdu.specs.Sufis.{sufi_of}
use Rattle.dch_am.specs.Names.{named}
use Rattle.dch_retx.specs.StatusItems.{StatusItem, bits_from, missing_of, said_by, said_in}
use Rattle.dch_retx.specs.StatusItem.{ending_of, ends_at, ends_with, first_ending, or_else}
use Rattle.dch_retx.specs.declared.buffer.Running.{Running}
use Rattle.dch_retx.specs.Telling.{ends_by, ends_with_indicator}

pub or_none : (o : Option ℕ) → or_else o None ≡ o
or_none None = refl
or_none (Some i) = refl

pub or_is : (o p : Option ℕ) → option_or o p ≡ or_else o p
or_is None p = refl
or_is (Some i) p = refl

or_twice : (o p q : Option ℕ) → or_else o (or_else p q) ≡ or_else (or_else o p) q
or_twice None p q = refl
or_twice (Some i) p q = refl

ending-append : (first count k indicator : ℕ) (xs ys : List StatusItem) → first_ending first count k indicator (xs ++ ys) ≡ or_else (first_ending first count k indicator xs) (first_ending first count k indicator ys)
ending-append first count k indicator [] ys = refl
ending-append first count k indicator (x ∷ xs) ys = ap (or_else (ends_with first count k indicator x)) (ending-append first count k indicator xs ys) ∙ or_twice (ends_with first count k indicator x) (first_ending first count k indicator xs) (first_ending first count k indicator ys)

ending-list : (first count k indicator : ℕ) (ns : List ℕ) → first_ending first count k indicator (map missing_of ns) ≡ None
ending-list first count k indicator [] = refl
ending-list first count k indicator (n ∷ ns) = ending-list first count k indicator ns

ending-bits : (first count k indicator from : ℕ) (bits : List Bool) → first_ending first count k indicator (bits_from from bits) ≡ None
ending-bits first count k indicator from [] = refl
ending-bits first count k indicator from (true ∷ bits) = ending-bits first count k indicator (from + 1) bits
ending-bits first count k indicator from (false ∷ bits) = ending-bits first count k indicator (from + 1) bits

-- one field
ending-field : (first count k indicator : ℕ) (field : Field) → first_ending first count k indicator (said_in field) ≡ ends_with_indicator first count k indicator (sufi_of field)
ending-field first count k indicator NoMoreField = refl
ending-field first count k indicator (WindowField size) = refl
ending-field first count k indicator (AckField lsn) = refl
ending-field first count k indicator (ListField pairs) = ending-list first count k indicator (named pairs)
ending-field first count k indicator (BitmapField from bits) = ending-bits first count k indicator from bits
ending-field first count k indicator (MrwField last n) = refl
ending-field first count k indicator (MrwAckField n sn) = or_none (ends_at first count k indicator n sn)

-- the first of fields, and those behind it
ending-fields : (first count : ℕ) (running : Option Running) (fields : List Field) → (length fields == 0) ≡ false → ending_of first count running (said_by fields) ≡ or_else (ends_by first count running (sufi_of (get_or fields 0 NoMoreField))) (ending_of first count running (said_by (drop 1 fields)))
ending-fields first count running [] some = absurd (both_ways true some refl)
ending-fields first count None (field ∷ fields) some = refl
ending-fields first count (Some r) (field ∷ fields) some = ending-append first count r.at r.n (said_in field) (said_by fields) ∙ ap (λ o. or_else o (first_ending first count r.at r.n (said_by fields))) (ending-field first count r.at r.n field)

-- what ends the discard so far, with one field more
pub ending-step : (first count : ℕ) (running : Option Running) (all : List StatusItem) (fields rest : List Field) (field : Sufi) (now found : Option ℕ) → (length fields == 0) ≡ false → field ≡ sufi_of (get_or fields 0 NoMoreField) → found ≡ ends_by first count running field → rest ≡ drop 1 fields → ending_of first count running all ≡ or_else now (ending_of first count running (said_by fields)) → ending_of first count running all ≡ or_else (or_else now found) (ending_of first count running (said_by rest))
ending-step first count running all fields rest field now found some f e r is =
    is
    ∙ (ap (or_else now) (ending-fields first count running fields some
    ∙ (ap (λ (s : Sufi). or_else (ends_by first count running s) (ending_of first count running (said_by (drop 1 fields)))) (sym f)
    ∙ (ap (λ o. or_else o (ending_of first count running (said_by (drop 1 fields)))) (sym e)
    ∙ ap (λ (fs : List Field). or_else found (ending_of first count running (said_by fs))) (sym r))))
    ∙ or_twice now found (ending_of first count running (said_by rest)))

-- no field ends it where none is left
pub ending_none : (first count : ℕ) (running : Option Running) (now : Option ℕ) → or_else now (ending_of first count running []) ≡ now
ending_none first count None now = or_none now
ending_none first count (Some r) now = or_none now
