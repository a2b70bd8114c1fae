-- What a PDU that was built reads as.
use Rattle.std.proofs.Common.{◌≡◌, ◌+◌, ◌-◌, ◌<◌, ◌≤◌, ℕ, List, [], ◌∷◌, ◌++◌, Bool, true, false, cond, None, Ok, length, replicate, arith, refl, sym, ap, ap₂, ◌∙◌, append_assoc, length-append}
use Rattle.std.specs.Prelude.{◌==◌, nat_lt, slice_index}
use Rattle.std.proofs.lemmas.Bool.{eq-eqb, ltb-true, ltb-false}
use Rattle.std.proofs.lemmas.List.{append-nil}
use Rattle.dch_am.specs.Bodies.{Body, carried, ends_at, joined, leading, indicators_of}
use Rattle.dch_am.specs.Short.{IsShort}
use Rattle.dch_am.proofs.Short.{length-ends, room_is}
use Rattle.dch_rlcpdu.specs.declared.am.AmView.TheVariants.{Payload}
use Rattle.dch_rlcpdu.specs.Am.{am_pdu, am_reading}
use Rattle.dch_rlcpdu.specs.Body.{fills, last_end, padded}
use Rattle.dch_rlcpdu.specs.Parts.{cut_at, parts_of}
use Rattle.dch_rlcpdu.proofs.AmPdus.{am_back, am_written_is}
use Rattle.dch_rlcpdu.proofs.Written.{length-padded}
use Rattle.dch_am.specs.Contents.{all_but_last, body_in, last_of}
use Rattle.dch_txbuf.specs.Content.{content_of}
use Rattle.dch_txbuf.proofs.Indicators.{Say, closing, last_is, indicators_say}
use Rattle.dch_txbuf.proofs.Parts.{all_but_last-append, cut_is, last_of-append}

-- the octets that a PDU spends but for the indicator of padding
abbrev spent : Body → ℕ
spent b = length (leading b) + length (carried b) + length b.pieces

pub says : (d : ℕ) (b : Body) → d ≤ 124 → IsShort d b → Say (d - length (indicators_of d b)) b.full (nat_lt (spent b) d) b.pieces (indicators_of d b)
says d b small is =
    let all : length (carried b) ≡ length (joined b.pieces) + length b.rest = length-append (joined b.pieces) b.rest in
    indicators_say (d - length (indicators_of d b)) b.full (nat_lt (spent b) d) b.pieces is.some (low b.pieces refl) (omega (arith, room_is d b is))
  where
    low : (ps : List (List ℕ)) → b.pieces ≡ ps → length (joined b.pieces) < 124
    low [] e = omega (arith, ap (λ xs. length (joined xs)) e)
    low (p ∷ ps) e = omega (arith, is.short, length-append (joined b.pieces) b.rest, ap length e)

-- indicators and octets fill the room, but where padding is told of
pub filled : (d : ℕ) (b : Body) → IsShort d b → nat_lt (spent b) d ≡ false → length (indicators_of d b) + length (carried b) ≡ d
filled d b is open_ =
    let tail : length (closing (nat_lt (spent b) d)) ≡ 0 = ap (λ c. length (closing c)) open_ in
    omega (arith, is.short, ltb-false _ _ open_, length-append (leading b) (ends_at 0 b.pieces ++ closing (nat_lt (spent b) d)), length-append (ends_at 0 b.pieces) (closing (nat_lt (spent b) d)), length-ends 0 b.pieces, tail)

pub fills_it : (d : ℕ) (b : Body) → d ≤ 124 → IsShort d b → fills (indicators_of d b) (length (carried b)) (d - length (indicators_of d b)) ≡ true
fills_it d b small is = ap (λ c. cond c (length (carried b) == last_end (indicators_of d b)) (length (carried b) == d - length (indicators_of d b))) say.closed ∙ cases (nat_lt (spent b) d) refl
  where
    say : Say (d - length (indicators_of d b)) b.full (nat_lt (spent b) d) b.pieces (indicators_of d b)
    say = says d b small is

    last : last_end (indicators_of d b) ≡ 0 + length (joined b.pieces)
    last = ap (λ es. slice_index (0 ∷ es) (length es)) say.ends ∙ last_is 0 b.pieces

    cases : (c : Bool) → nat_lt (spent b) d ≡ c → cond c (length (carried b) == last_end (indicators_of d b)) (length (carried b) == d - length (indicators_of d b)) ≡ true
    cases true e = eq-eqb _ _ (omega (arith, last, length-append (joined b.pieces) b.rest, ap length (is.rest (ltb-true _ _ e))))
    cases false e = eq-eqb _ _ (omega (arith, filled d b is e))

pub sized : (d : ℕ) (b : Body) → IsShort d b → length (indicators_of d b) + length (padded (d - length (indicators_of d b)) (carried b)) ≡ d
sized d b is = omega (arith, room_is d b is, length-padded (d - length (indicators_of d b)) (carried b) (omega (arith, room_is d b is)))

pub read_is : (sn d : ℕ) (poll : Bool) (b : Body) → sn < 4096 → d ≤ 124 → IsShort d b → am_reading (am_pdu sn poll (indicators_of d b) (carried b) (d + 2)) ≡ Ok (Payload sn poll (content_of d b) None)
read_is sn d poll b number small is =
    let size : d + 2 - 2 ≡ d = omega arith in
    let say : Say (d - length (indicators_of d b)) b.full (nat_lt (spent b) d) b.pieces (indicators_of d b) = says d b small is in
    am_back (am_pdu sn poll (indicators_of d b) (carried b) (d + 2)) _ (am_written_is sn poll (indicators_of d b) (carried b) _ (d + 2) refl number (omega (arith, room_is d b is)) (rw size say.good) (rw say.alone refl))
    ∙ ap (λ n. Ok (Payload sn poll (record { indicators = indicators_of d b; octets = padded (n - length (indicators_of d b)) (carried b) }) None)) size

-- the parts of what is read are the pieces and the rest
parts_are : (d : ℕ) (b : Body) → d ≤ 124 → IsShort d b → parts_of (content_of d b) ≡ b.pieces ++ b.rest ∷ []
parts_are d b small is =
    ap₂ (λ c es. cut_at c 0 es (padded (d - length (indicators_of d b)) (carried b))) say.closed say.ends
    ∙ (ap (cut_at (nat_lt (spent b) d) 0 (ends_at 0 b.pieces)) (append_assoc (joined b.pieces) b.rest zeros)
    ∙ (cut_is (nat_lt (spent b) d) [] b.pieces (b.rest ++ zeros)
    ∙ ap (λ xs. b.pieces ++ xs ∷ []) (cases (nat_lt (spent b) d) refl)))
  where
    say : Say (d - length (indicators_of d b)) b.full (nat_lt (spent b) d) b.pieces (indicators_of d b)
    say = says d b small is

    zeros : List ℕ
    zeros = replicate (d - length (indicators_of d b) - length (carried b)) 0

    cases : (c : Bool) → nat_lt (spent b) d ≡ c → cond c [] (b.rest ++ replicate (d - length (indicators_of d b) - length (carried b)) 0) ≡ b.rest
    cases true e = sym (is.rest (ltb-true _ _ e))
    cases false e = let none : d - length (indicators_of d b) - length (carried b) ≡ 0 = omega (arith, filled d b is e) in ap (λ n. b.rest ++ replicate n 0) none ∙ append-nil b.rest

pub body_is : (d : ℕ) (b : Body) → d ≤ 124 → IsShort d b → body_in (content_of d b) ≡ b
body_is d b small is =
    ap₂ (λ (f : Bool) (ps : List (List ℕ)). record { full = f; pieces = all_but_last ps; rest = last_of ps }) (says d b small is).full (parts_are d b small is)
    ∙ ap₂ (λ (ps : List (List ℕ)) (r : List ℕ). record { full = b.full; pieces = ps; rest = r }) (all_but_last-append b.pieces b.rest) (last_of-append b.pieces b.rest)
