-- Units and the unit in progress in one row of octets.
use Rattle.std.proofs.Common.{◌≡◌, ◌+◌, ◌-◌, ◌<◌, ◌≤◌, ℕ, suc, List, [], ◌∷◌, ◌++◌, length, take, drop, min, arith, refl, sym, ap, ap₂, ◌∙◌, length-append, length-take, length-drop}
use Rattle.std.proofs.lemmas.List.{drop_all, drop-drop, drop-take, drop-append-le, take_min, take-append-le, take_all, take-take, length-take-le}
use Rattle.circular_buffer.specs.Buffer.{keep_last}
use Rattle.std.proofs.Math.Seq.{take-append-add}
use Rattle.dch_rlcpdu.specs.Parts.{total_of}
use Rattle.dch_sar.specs.Taking.{Waiting, added, dropped, ended, ended_units, held}
use Rattle.dch_sar.specs.Stored.{IsStored, cut, stored, total}

-- octets more at the end
pub cut-more : (ns : List ℕ) (row more : List ℕ) → total ns ≤ length row → cut ns (row ++ more) ≡ cut ns row
cut-more [] row more within = refl
cut-more (n ∷ ns) row more within =
    let rest : total ns ≤ length (drop n row) = omega (arith, length-drop n row) in
    ap₂ (λ a b. a ∷ b) (take-append-le n row more (omega arith)) (ap (cut ns) (drop-append-le n row more (omega arith)) ∙ cut-more ns (drop n row) more rest)

-- a front of the row that holds all units
pub cut-front : (ns : List ℕ) (row : List ℕ) (k : ℕ) → total ns ≤ k → cut ns (take k row) ≡ cut ns row
cut-front [] row k within = refl
cut-front (n ∷ ns) row k within =
    let left : k ≡ n + (k - n) = omega arith in
    ap₂ (λ a b. a ∷ b) (take-take n k row (omega arith)) (ap (cut ns) (ap (λ m. drop n (take m row)) left ∙ drop-take n (k - n) row) ∙ cut-front ns (drop n row) (k - n) (omega arith))

-- the unit in progress ends
pub cut-end : (ns : List ℕ) (row : List ℕ) (n : ℕ) → total ns + n ≡ length row → cut (ns ++ n ∷ []) row ≡ cut ns row ++ drop (total ns) row ∷ []
cut-end [] row n all = ap (λ xs. xs ∷ []) (take_all n row (omega arith))
cut-end (m ∷ ns) row n all =
    let rest : total ns + n ≡ length (drop m row) = omega (arith, length-drop m row) in
    ap (λ xs. take m row ∷ xs) (cut-end ns (drop m row) n rest ∙ ap (λ xs. cut ns (drop m row) ++ xs ∷ []) (drop-drop (total ns) m row))

pub total-end : (ns : List ℕ) (n : ℕ) → total (ns ++ n ∷ []) ≡ total ns + n
total-end [] n = omega arith
total-end (m ∷ ns) n = omega (arith, total-end ns n)

pub length-cut : (ns row : List ℕ) → length (cut ns row) ≡ length ns
length-cut [] row = refl
length-cut (n ∷ ns) row = ap suc (length-cut ns (drop n row))

pub total_of-cut : (ns row : List ℕ) → total ns ≤ length row → total_of (cut ns row) ≡ total ns
total_of-cut [] row within = refl
total_of-cut (n ∷ ns) row within =
    let rest : total ns ≤ length (drop n row) = omega (arith, length-drop n row) in
    omega (arith, length-take-le n row (omega arith), total_of-cut ns (drop n row) rest)

-- all that is held is the row
pub held_is : (ns row : List ℕ) → total ns ≤ length row → held (stored ns row) ≡ length row
held_is ns row within = omega (arith, total_of-cut ns row within, length-drop (total ns) row)

-- the unit in progress goes
pub drop-front : (ns row : List ℕ) (part : ℕ) → total ns + part ≡ length row → drop (total ns) (take (length row - part) row) ≡ []
drop-front ns row part all = drop_all (total ns) (take (length row - part) row) (omega (arith, length-take (length row - part) row))

pub abandoned : (ns row : List ℕ) (part k : ℕ) → IsStored ns row part → k ≡ length row - part → stored ns (take k row) ≡ dropped (stored ns row)
abandoned ns row part k s is =
    ap₂ (λ (p : List ℕ) (w : List (List ℕ)). record { waiting = w; part = p })
    (ap (λ m. drop (total ns) (take m row)) is ∙ drop-front ns row part s.whole)
    (cut-front ns row k (omega (arith, s.whole)))

least_comm : (a b : ℕ) → min a b ≡ min b a
least_comm a b = omega arith

-- octets are added to the unit in progress
pub grown : (ns row more : List ℕ) (part count : ℕ) → IsStored ns row part → count ≡ min (length more) (1501 - part) → stored ns (row ++ take count more) ≡ added more (stored ns row)
grown ns row more part count s is =
    ap₂ (λ (p : List ℕ) (w : List (List ℕ)). record { waiting = w; part = p })
    (drop-append-le (total ns) row (take count more) (omega (arith, s.whole)) ∙ sym (capped (drop (total ns) row) more part count (length-drop (total ns) row ∙ omega (arith, s.whole)) s.small is))
    (cut-more ns row (take count more) (omega (arith, s.whole)))
  where
    capped : (xs ys : List ℕ) (part count : ℕ) → length xs ≡ part → part ≤ 1501 → count ≡ min (length ys) (1501 - part) → take 1501 (xs ++ ys) ≡ xs ++ take count ys
    capped xs ys part count size small is =
        let split : 1501 ≡ length xs + (1501 - part) = omega arith in
        ap (λ k. take k (xs ++ ys)) split ∙ (take-append-add xs ys (1501 - part) ∙ ap (λ zs. xs ++ zs) (sym (ap (λ k. take k ys) (is ∙ least_comm (length ys) (1501 - part)) ∙ take_min (1501 - part) ys)))

-- what is written is all that is to be written
pub write_is : (row more : List ℕ) (capacity count written : ℕ) → count ≤ length more → length row + length more ≤ capacity → written ≡ min (length (take count more)) (capacity - length row) → take written (take count more) ≡ take count more
write_is row more capacity count written within room is =
    let size : length (take count more) ≡ count = length-take-le count more within in
    take_all written (take count more) (omega arith)

pub stored_more : (ns row more : List ℕ) (part count : ℕ) → IsStored ns row part → count ≡ min (length more) (1501 - part) → IsStored ns (row ++ take count more) (part + count)
stored_more ns row more part count stored is =
    let size : length (take count more) ≡ count = length-take-le count more (omega arith) in
    let small : part ≤ 1501 = stored.small in
    record { whole = omega (arith, stored.whole, length-append row (take count more)); small = omega arith }

pub pushed : (ns : List ℕ) (n capacity : ℕ) → length ns < capacity → keep_last capacity (ns ++ n ∷ []) ≡ ns ++ n ∷ []
pushed ns n capacity room = ap (λ k. drop k (ns ++ n ∷ [])) (none (length-append ns (n ∷ [])))
  where
    none : length (ns ++ n ∷ []) ≡ length ns + 1 → length (ns ++ n ∷ []) - capacity ≡ 0
    none size = omega arith

pub stored_end : (ns row : List ℕ) (part : ℕ) → IsStored ns row part → IsStored (ns ++ part ∷ []) row 0
stored_end ns row part stored = record { whole = omega (arith, stored.whole, total-end ns part); small = omega arith }

some_ended : (units : List (List ℕ)) (xs : List ℕ) → 0 < length xs → ended_units units xs ≡ units ++ xs ∷ []
some_ended units [] some = absurd (omega arith)
some_ended units (x ∷ xs) some = refl

none_ended : (units : List (List ℕ)) (xs : List ℕ) → length xs ≡ 0 → ◌≡◌ {A = Waiting} (record { waiting = units; part = xs }) (record { waiting = ended_units units xs; part = [] })
none_ended units [] none = refl
none_ended units (x ∷ xs) none = absurd (omega arith)

pub ended_is : (ns row : List ℕ) (part : ℕ) → IsStored ns row part → 0 < part → stored (ns ++ part ∷ []) row ≡ ended (stored ns row)
ended_is ns row part s some =
    let size : length (drop (total ns) row) ≡ part = length-drop (total ns) row ∙ omega (arith, s.whole) in
    ap₂ (λ (p : List ℕ) (w : List (List ℕ)). record { waiting = w; part = p })
    (drop_all (total (ns ++ part ∷ [])) row (omega (arith, s.whole, total-end ns part)))
    (cut-end ns row part s.whole ∙ sym (some_ended (cut ns row) (drop (total ns) row) (omega arith)))

pub ended_none : (ns row : List ℕ) (part : ℕ) → IsStored ns row part → part ≤ 0 → stored ns row ≡ ended (stored ns row)
ended_none ns row part s none =
    let size : length (drop (total ns) row) ≡ 0 = length-drop (total ns) row ∙ omega (arith, s.whole) in
    none_ended (cut ns row) (drop (total ns) row) size

-- where no unit waits, the unit in progress is all
pub settled_held : (ns row : List ℕ) (part : ℕ) (now : Waiting) → stored ns row ≡ now → IsStored ns row part → now.waiting ≡ [] → held now ≤ 1501
settled_held ns row part now view s none =
    let size : length now.part ≡ part = ap (λ (u : Waiting). length u.part) (sym view) ∙ length-drop (total ns) row ∙ omega (arith, s.whole) in
    omega (arith, s.small, ap total_of none)
