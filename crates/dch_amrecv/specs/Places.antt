-- The PDUs that a receiver keeps (TS 25.322 9.4, 11.3.3), place by place: some have come, others are missing.
use Rattle.circular_buffer.specs.Buffer.{Buffer}
use Rattle.dch_am.specs.Bodies.{Body}
use Rattle.std.specs.Prelude.{◌+◌, ℕ, zero, suc, List, [], ◌∷◌, Bool, false, Option, Some, None, is_some}

-- the places from the expected number on, and how many octets a PDU has
pub record Places : Type 0 where
  pub ring : Buffer (Option Body)
  pub pdu : ℕ

abbrev pub with_ring : Buffer (Option Body) → Places → Places
with_ring ring w = record { ring = ring; pdu = w.pdu }

-- a PDU comes to a place. Places before it that are new are vacant
abbrev pub put : {A : Type 0} → ℕ → A → List (Option A) → List (Option A)
put zero x [] = Some x ∷ []
put zero x (p ∷ ps) = Some x ∷ ps
put (suc i) x [] = None ∷ put i x []
put (suc i) x (p ∷ ps) = p ∷ put i x ps

-- vacant places up to one
abbrev pub pad : {A : Type 0} → ℕ → List (Option A) → List (Option A)
pad zero ps = ps
pad (suc i) [] = None ∷ pad i []
pad (suc i) (p ∷ ps) = p ∷ pad i ps

-- the place i is there, and taken
abbrev pub is_kept : {A : Type 0} → List (Option A) → ℕ → Bool
is_kept [] i = false
is_kept (p ∷ ps) zero = is_some p
is_kept (p ∷ ps) (suc i) = is_kept ps i

-- how many places in front are taken
abbrev pub front : {A : Type 0} → List (Option A) → ℕ
front [] = 0
front (None ∷ ps) = 0
front (Some x ∷ ps) = suc (front ps)

-- the vacant places, where the first is called n
abbrev pub vacant : {A : Type 0} → ℕ → List (Option A) → List ℕ
vacant n [] = []
vacant n (None ∷ ps) = n ∷ vacant (n + 1) ps
vacant n (Some x ∷ ps) = vacant (n + 1) ps

-- a list laid over the front of another
abbrev pub laid : {A : Type 0} → List A → List A → List A
laid [] ys = ys
laid (x ∷ xs) [] = []
laid (x ∷ xs) (y ∷ ys) = x ∷ laid xs ys
