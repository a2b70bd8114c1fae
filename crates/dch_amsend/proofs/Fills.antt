-- What is left, and how many PDUs it fills.
use Rattle.std.proofs.Common.{◌≡◌, ◌+◌, ◌-◌, ◌<◌, ℕ, zero, suc, List, [], ◌∷◌, Bool, true, false, not, length, drop, arith, refl, sym, ap, ◌∙◌, subst, length-drop}
use Rattle.std.specs.Prelude.{nat_lt}
use Rattle.std.proofs.lemmas.Bool.{le-ltb, lt-ltb}
use Rattle.dch_am.specs.Bodies.{TxQueue, after_body, is_empty, is_left, room_for}
use Rattle.dch_txbuf.specs.declared.taken.Cut.{Cut}
use Rattle.dch_txbuf.specs.declared.taken.Start.{Start}
use Rattle.dch_txbuf.specs.Cuts.{IsStart, cut_of, left_at, next_start}
use Rattle.dch_txbuf.proofs.Cutting.{length-trimmed, placed_cut}
use Rattle.dch_txbuf.proofs.Following.{left_next, start_next}
use Rattle.dch_amsend.specs.BufferStanding.{fills}
use Rattle.dch_amsend.specs.TxBuffer.{unsent_at}

-- an SDU is left where the place isn't behind all
pub some_left : (sdus : List (List ℕ)) (start : Start) → not (is_empty (left_at start sdus)) ≡ nat_lt start.sdu (length sdus)
some_left sdus start = go (left_at start sdus) (length-trimmed start.used (drop start.sdu sdus) ∙ length-drop start.sdu sdus)
  where
    go : (us : List (List ℕ)) → length us ≡ length sdus - start.sdu → not (is_empty us) ≡ nat_lt start.sdu (length sdus)
    go [] e = sym (le-ltb start.sdu (length sdus) (omega (arith, e)))
    go (u ∷ us) e = sym (lt-ltb start.sdu (length sdus) (omega (arith, e)))

-- what is left behind the next PDU
pub unsent_next : (sdus : List (List ℕ)) (start : Start) (owed : Bool) (d : ℕ) (c : Cut) → c ≡ cut_of (room_for d owed) (left_at start sdus) → unsent_at (next_start start c) c.owed sdus ≡ after_body d (unsent_at start owed sdus)
unsent_next sdus start owed d c e =
    ap (λ (k : Cut). unsent_at (next_start start k) k.owed sdus) e
    ∙ (ap (λ us. record { owed = (cut_of (room_for d owed) (left_at start sdus)).owed; units = us }) (left_next sdus start (cut_of (room_for d owed) (left_at start sdus)))
    ∙ sym (placed_cut (room_for d owed) (left_at start sdus)).after)

fills_more : (n d : ℕ) (q : TxQueue) → is_left q ≡ true → fills (suc n) d q ≡ suc (fills n d (after_body d q))
unfolding fills
fills_more n d q e = rw e refl

fills_none : (n d : ℕ) (q : TxQueue) → is_left q ≡ false → fills n d q ≡ 0
unfolding fills
fills_none zero d q e = refl
fills_none (suc n) d q e = rw e refl

fills_zero : (d : ℕ) (q : TxQueue) → fills 0 d q ≡ 0
unfolding fills
fills_zero d q = refl

-- the walk of `count_pdus`, which has come so far
pub record Counts (sdus : List (List ℕ)) (first : Start) (first_owed : Bool) (d : ℕ) (start : Start) (owed : Bool) (count : ℕ) : Type 0 where
  pub filled : fills 64 d (unsent_at first first_owed sdus) ≡ count + fills (64 - count) d (unsent_at start owed sdus)
  pub start_is : IsStart sdus start

pub counts_first : (sdus : List (List ℕ)) (first : Start) (owed : Bool) (d : ℕ) → IsStart sdus first → Counts sdus first owed d first owed 0
counts_first sdus first owed d is = record { filled = omega arith; start_is = is }

pub counts_on : (sdus : List (List ℕ)) (first : Start) (first_owed : Bool) (d : ℕ) (start : Start) (owed : Bool) (count : ℕ) (c : Cut) → Counts sdus first first_owed d start owed count → count < 64 → is_left (unsent_at start owed sdus) ≡ true → c ≡ cut_of (room_for d owed) (left_at start sdus) → Counts sdus first first_owed d (next_start start c) c.owed (count + 1)
counts_on sdus first first_owed d start owed count c k less some e =
    let n : 64 - count ≡ suc (64 - (count + 1)) = omega (arith, less) in
    let more : fills (64 - count) d (unsent_at start owed sdus) ≡ suc (fills (64 - (count + 1)) d (unsent_at (next_start start c) c.owed sdus)) =
    ap (λ m. fills m d (unsent_at start owed sdus)) n ∙ (fills_more (64 - (count + 1)) d (unsent_at start owed sdus) some ∙ ap (λ q. suc (fills (64 - (count + 1)) d q)) (sym (unsent_next sdus start owed d c e))) in
    record {
      filled = omega (arith, k.filled, more);
      start_is = subst (λ (x : Cut). IsStart sdus (next_start start x)) (sym e) (start_next sdus start (room_for d owed) k.start_is);
    }

pub counts_end : (sdus : List (List ℕ)) (first : Start) (first_owed : Bool) (d : ℕ) (start : Start) (owed : Bool) (count : ℕ) → Counts sdus first first_owed d start owed count → is_left (unsent_at start owed sdus) ≡ false → count ≡ fills 64 d (unsent_at first first_owed sdus)
counts_end sdus first first_owed d start owed count k none = omega (arith, k.filled, fills_none (64 - count) d (unsent_at start owed sdus) none)

pub counts_all : (sdus : List (List ℕ)) (first : Start) (first_owed : Bool) (d : ℕ) (start : Start) (owed : Bool) (count : ℕ) → Counts sdus first first_owed d start owed count → count ≡ 64 → 64 ≡ fills 64 d (unsent_at first first_owed sdus)
counts_all sdus first first_owed d start owed count k all =
    let z : 64 - count ≡ 0 = omega (arith, all) in
    omega (arith, k.filled, all, ap (λ m. fills m d (unsent_at start owed sdus)) z, fills_zero d (unsent_at start owed sdus))

-- one can be filled where something is left
pub fills_some : (n d : ℕ) (q : TxQueue) → nat_lt 0 (fills (suc n) d q) ≡ is_left q
fills_some n d q = go (is_left q) refl
  where
    go : (b : Bool) → is_left q ≡ b → nat_lt 0 (fills (suc n) d q) ≡ b
    go true e = ap (nat_lt 0) (fills_more n d q e) ∙ lt-ltb 0 (suc (fills n d (after_body d q))) (omega arith)
    go false e = ap (nat_lt 0) (fills_none (suc n) d q e)
