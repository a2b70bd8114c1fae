-- What is told of the units that PDUs end comes out of the bytes of their octets and indicators.
use Rattle.std.proofs.Common.{◌≡◌, ◌≤◌, ◌+◌, ◌*◌, ◌++◌, ◌∙◌, ℕ, zero, suc, List, [], ◌∷◌, Bool, true, false, Option, Some, None, length, drop, arith, refl, ap, sym, append_assoc, length-append}
use Rattle.std.specs.Prelude.{◌==◌}
use Rattle.std.proofs.lemmas.Bool.{cond_both}
use Rattle.std.proofs.lemmas.List.{append-nil}
use Rattle.dch_types.specs.Sums.{total}
use Rattle.dch_am.specs.Bodies.{Body, Reading, ended, read_body, read_full, read_pieces, read_rest}
use Rattle.dch_am.specs.Receiver.{body_of, dead_pieces, read_one, read_run, read_trimmed}
use Rattle.dch_steptext.specs.ReceiverBytes.{body_bytes, full_bytes, part_bytes, pieces_bytes, run_bytes, units_bytes}
use Rattle.dch_steptext.proofs.UnitBytes.{unit_paid, units_more}

-- octets are added
pub part_more : (part octets : List ℕ) → part_bytes (part ++ octets) ≤ part_bytes part + 9 * length octets
part_more [] [] = omega arith
part_more [] (x ∷ xs) = omega arith
part_more (x ∷ part) octets = omega (arith, length-append part octets)

-- a reading went on: units that ended follow, and what is told of them and what is left comes out of so many bytes
pub record GoesOn (old new : Reading) (bytes : ℕ) : Type 0 where
  pub more : List (List ℕ)
  pub units : new.units ≡ old.units ++ more
  pub paid : units_bytes more + part_bytes new.part ≤ part_bytes old.part + bytes

-- nothing is read
pub stays : (r : Reading) → GoesOn r r 0
stays r = record { more = []; units = sym (append-nil r.units); paid = omega arith }

-- a reading goes on twice
pub then_on : (old mid new : Reading) (m n : ℕ) → GoesOn old mid m → GoesOn mid new n → GoesOn old new (m + n)
then_on old mid new m n first second = record {
  more = first.more ++ second.more;
  units = second.units ∙ ap (λ us. us ++ second.more) first.units ∙ append_assoc old.units first.more second.more;
  paid = omega (arith, first.paid, second.paid, units_more first.more second.more);
}

-- the unit in progress ends
pub ended_on : (units : List (List ℕ)) (part : List ℕ) → GoesOn (record { units = units; part = part }) (ended units part) 6
ended_on units [] = record { more = []; units = sym (append-nil units); paid = omega arith }
ended_on units (x ∷ xs) = record { more = (x ∷ xs) ∷ []; units = refl; paid = omega (arith, unit_paid x xs) }

rest_on : (r : Reading) (rest : List ℕ) → GoesOn r (read_rest r rest) (9 * length rest)
rest_on r rest = record { more = []; units = sym (append-nil r.units); paid = omega (arith, part_more r.part rest) }

full_on : (r : Reading) (full : Bool) → GoesOn r (read_full r full) (full_bytes full)
full_on r true = ended_on r.units r.part
full_on r false = stays r

pieces_on : (r : Reading) (ps : List (List ℕ)) → GoesOn r (read_pieces r ps) (pieces_bytes ps)
pieces_on r [] = stays r
pieces_on r (p ∷ ps) =
    let added : GoesOn r (read_rest r p) (9 * length p) = rest_on r p in
    let end : GoesOn (read_rest r p) (ended r.units (r.part ++ p)) 6 = ended_on r.units (r.part ++ p) in
    then_on r (ended r.units (r.part ++ p)) (read_pieces r (p ∷ ps)) (9 * length p + 6) (pieces_bytes ps) (then_on r (read_rest r p) (ended r.units (r.part ++ p)) (9 * length p) 6 added end) (pieces_on (ended r.units (r.part ++ p)) ps)

-- a PDU is read
body_on : (r : Reading) (body : Body) → GoesOn r (read_body r body) (body_bytes body)
body_on r body =
    let first : Reading = read_full r body.full in
    let pieces : Reading = read_pieces first body.pieces in
    then_on r pieces (read_rest pieces body.rest) (full_bytes body.full + pieces_bytes body.pieces) (9 * length body.rest)
    (then_on r first pieces (full_bytes body.full) (pieces_bytes body.pieces) (full_on r body.full) (pieces_on first body.pieces))
    (rest_on pieces body.rest)

-- with fewer bytes it goes on with more
pub loosely : (old new : Reading) (m n : ℕ) → m ≤ n → GoesOn old new m → GoesOn old new n
loosely old new m n less on = record { more = on.more; units = on.units; paid = omega (arith, on.paid) }

-- a PDU is read without its first pieces and without the unit in progress
fewer_pieces : (n : ℕ) (ps : List (List ℕ)) → pieces_bytes (drop n ps) ≤ pieces_bytes ps
fewer_pieces zero ps = omega arith
fewer_pieces (suc n) [] = omega arith
fewer_pieces (suc n) (p ∷ ps) = omega (arith, fewer_pieces n ps)

dropped_on : (r : Reading) → GoesOn r (record { units = r.units; part = [] }) 0
dropped_on r = record { more = []; units = sym (append-nil r.units); paid = omega arith }

trimmed_on : (r : Reading) (n : ℕ) (body : Body) → GoesOn r (read_trimmed r n body) (body_bytes body)
trimmed_on r n body =
    let first : Reading = record { units = r.units; part = [] } in
    let left : List (List ℕ) = drop (dead_pieces n body) body.pieces in
    let pieces : Reading = read_pieces first left in
    loosely r (read_rest pieces body.rest) (0 + pieces_bytes left + 9 * length body.rest) (body_bytes body) (omega (arith, fewer_pieces (dead_pieces n body) body.pieces))
    (then_on r pieces (read_rest pieces body.rest) (0 + pieces_bytes left) (9 * length body.rest)
    (then_on r first pieces 0 (pieces_bytes left) (dropped_on r) (pieces_on first left))
    (rest_on pieces body.rest))

one_on : (trim : Option (ℕ × ℕ)) (r : Reading) (k : ℕ) (body : Body) → GoesOn r (read_one trim r k body) (body_bytes body)
one_on None r k body = body_on r body
one_on (Some t) r k body = cond_both {A = Reading} (k == t.0) (read_trimmed r t.1 body) (read_body r body) (λ new. GoesOn r new (body_bytes body)) (λ _. trimmed_on r t.1 body) (λ _. body_on r body)

-- a sum over the first numbers, and over the others
pub total_first : (w v : ℕ → ℕ) (n : ℕ) → ((i : ℕ) → v i ≡ w (suc i)) → total w (suc n) ≡ w 0 + total v n
unfolding total
total_first w v zero each = omega arith
total_first w v (suc n) each = omega (arith, total_first w v n each, each n)

run_first : (arrived : List (ℕ × Body)) (from n : ℕ) → run_bytes arrived from (suc n) ≡ body_bytes (body_of arrived from) + run_bytes arrived (from + 1) n
run_first arrived from n =
    let here : from + 0 ≡ from = omega arith in
    total_first (λ i. body_bytes (body_of arrived (from + i))) (λ i. body_bytes (body_of arrived (from + 1 + i))) n (λ i. let k : from + 1 + i ≡ from + suc i = omega arith in ap (λ j. body_bytes (body_of arrived j)) k)
    ∙ ap (λ j. body_bytes (body_of arrived j) + run_bytes arrived (from + 1) n) here

-- PDUs in order are read
pub run_on : (trim : Option (ℕ × ℕ)) (arrived : List (ℕ × Body)) (r : Reading) (from n : ℕ) → GoesOn r (read_run trim arrived r from n) (run_bytes arrived from n)
run_on trim arrived r from zero = loosely r r 0 (run_bytes arrived from 0) (omega arith) (stays r)
run_on trim arrived r from (suc n) =
    let next : Reading = read_one trim r from (body_of arrived from) in
    loosely r (read_run trim arrived r from (suc n)) (body_bytes (body_of arrived from) + run_bytes arrived (from + 1) n) (run_bytes arrived from (suc n)) (omega (arith, run_first arrived from n))
    (then_on r next (read_run trim arrived r from (suc n)) (body_bytes (body_of arrived from)) (run_bytes arrived (from + 1) n) (one_on trim r from (body_of arrived from)) (run_on trim arrived next (from + 1) n))
