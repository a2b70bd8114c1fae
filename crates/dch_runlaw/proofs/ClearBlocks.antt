-- Blocks that arrive as they were given.
use Rattle.std.proofs.Common.{◌≡◌, ◌≢◌, ◌<◌, ◌≤◌, ◌+◌, ◌*◌, ◌∙◌, ℕ, zero, suc, List, [], ◌∷◌, true, false, length, take, drop, get_or, arith, refl, sym, ap, subst, inl, inr}
use Rattle.std.specs.Prelude.{IsTrue}
use Rattle.std.proofs.lemmas.Bool.Decides.{eqb_tells}
use Rattle.std.proofs.lemmas.List.{drop-drop, drop_at, length-append, take_at}
use Rattle.dch_bits.specs.declared.bit.Bit.{Bit}
use Rattle.dch_accept.specs.Blocks.{Held, block_at}
use Rattle.dch_tti.specs.Received.{ArrivesAs}
use Rattle.dch_layer2.specs.Joined.{joined_bits}
use Rattle.dch_layer2.specs.Reading.{Read}
use Rattle.dch_linkcmd.specs.Checks.{good_blocks, good_from, good_in}
use Rattle.dch_runlaw.specs.Sized.{AreSized}

-- no block has no bits
none_sized : (size : ℕ) (blocks : List (List Bit)) → size ≡ 0 → AreSized size blocks → blocks ≡ []
none_sized size [] none sized = refl
none_sized size (block ∷ later) none sized = absurd (omega (arith, none, sized.1))

-- all blocks from one on are the good ones
all_from : (held : Held) (k count : ℕ) (blocks : List (List Bit)) → 0 < held.size → AreSized held.size blocks → drop (k * held.size) held.bits ≡ joined_bits blocks → count * held.size ≡ length (joined_bits blocks)
    → ((i : ℕ) → k ≤ i → i < k + count → IsTrue (get_or held.good i false)) → good_from held k count ≡ blocks
all_from held k zero [] some sized bits long good = refl
all_from held k zero (block ∷ later) some sized bits long good = absurd (omega (arith, long, length-append block (joined_bits later), sized.0, sized.1))
all_from held k (suc count) [] some sized bits long good =
    let more : suc count * held.size ≡ held.size + count * held.size = omega arith in
    absurd (omega (arith, more, long))
all_from held k (suc count) (block ∷ later) some sized bits long good =
    let here : block_at held k ≡ block = ap (take held.size) bits ∙ take_at block (joined_bits later) held.size sized.0 in
    let yes : get_or held.good k false ≡ true = good k (omega arith) (omega arith) in
    let place : k * held.size + held.size ≡ (k + 1) * held.size = omega arith in
    let after : drop ((k + 1) * held.size) held.bits ≡ joined_bits later =
    ap (λ n. drop n held.bits) (sym place) ∙ sym (drop-drop held.size (k * held.size) held.bits) ∙ ap (drop held.size) bits ∙ drop_at block (joined_bits later) held.size sized.0 in
    let more : suc count * held.size ≡ held.size + count * held.size = omega arith in
    let rest : count * held.size ≡ length (joined_bits later) = omega (arith, more, long, length-append block (joined_bits later), sized.0) in
    rw yes (ap (λ (b : List Bit). b ∷ good_from held (k + 1) count) here
    ∙ ap (λ (l : List (List Bit)). block ∷ l) (all_from held (k + 1) count later some sized.2 after rest (λ i from early. good i (omega (arith, from)) (omega (arith, early)))))

all_good : (held : Held) (blocks : List (List Bit)) → AreSized held.size blocks → length (joined_bits blocks) ≡ length held.good * held.size → ArrivesAs (joined_bits blocks) held → good_blocks held ≡ blocks
all_good held blocks sized whole arrives = elim (eqb_tells held.size 0) [
  | inl none ↦ rw none.0 (sym (none_sized held.size blocks none.1 sized))
  | inr some ↦ (
      let apart : held.size ≢ 0 = some.1 in
      let start : 0 * held.size ≡ 0 = omega arith in
      rw some.0 (all_from held 0 (length held.good) blocks (omega (arith, apart)) sized (ap (λ n. drop n held.bits) start ∙ arrives.same) (sym whole) (λ i from early. arrives.good i (omega (arith, early)))))
]

-- what is read of a TTI is just what was given for it
pub arrive_good : (held : Held) (size number : ℕ) (blocks : List (List Bit)) → held.size ≡ size → length held.good ≡ number → length (joined_bits blocks) ≡ number * size → AreSized size blocks → ArrivesAs (joined_bits blocks) held → good_in (Read held) ≡ blocks
arrive_good held size number blocks size_is count whole sized arrives =
    all_good held blocks (subst (λ n. AreSized n blocks) (sym size_is) sized)
    (whole ∙ ap (λ n. n * size) (sym count) ∙ ap (λ n. length held.good * n) (sym size_is)) arrives
