-- Blocks that are marked one after another.
use Rattle.std.proofs.Common.{◌≡◌, ◌+◌, ◌<◌, ℕ, List, length, take, get_or, arith, below_more, ap, sym, ◌∙◌, subst}
use Rattle.std.specs.Prelude.{◌↔◌, IsTrue, false, Bool}
use Rattle.std.proofs.Math.ListN.{set}
use Rattle.std.proofs.lemmas.List.{get_or-set_other, get_or-set_same, length-set}
use Rattle.dch_bits.specs.declared.bit.Bit.{Bit}
use Rattle.dch_types.specs.declared.channel.Crc.{Crc}
use Rattle.dch_types.specs.Lengths.{crc_size}
use Rattle.dch_coding.specs.Parity.{IsAttached}
use Rattle.dch_accept.specs.Blocks.{Held}
use Rattle.dch_coding.specs.Ttis.{part}

-- a mark says whether the parity of block i fits
abbrev IsMark : Crc → ℕ → List Bit → ℕ → Bool → Type 0
IsMark crc size joined i good = IsTrue good ↔ IsAttached crc (take size (part i (size + crc_size crc) joined)) (part i (size + crc_size crc) joined)

-- the first blocks are marked, and nothing else has changed
pub record AreMarked (crc : Crc) (size : ℕ) (joined : List Bit) (before held : Held) (n : ℕ) : Type 0 where
  pub same : held ≡ record before { good = held.good }
  pub count : length held.good ≡ length before.good
  pub marks : (i : ℕ) → i < n → IsTrue (get_or held.good i false) ↔ IsAttached crc (take size (part i (size + crc_size crc) joined)) (part i (size + crc_size crc) joined)

-- one mark more
pub marked_more : (crc : Crc) (size : ℕ) (joined : List Bit) (before held next : Held) (n : ℕ) (good : Bool) (block : List Bit) → AreMarked crc size joined before held n → n < length held.good → next ≡ record held { good = set held.good n good } → block ≡ take size (part n (size + crc_size crc) joined) → (IsTrue good ↔ IsAttached crc block (part n (size + crc_size crc) joined)) → AreMarked crc size joined before next (n + 1)
marked_more crc size joined before held next n good block done inside is front fits =
    let goods : next.good ≡ set held.good n good = ap (λ (h : Held). h.good) is in
    let mark : IsMark crc size joined n good = subst (λ (b : List Bit). IsTrue good ↔ IsAttached crc b (part n (size + crc_size crc) joined)) front fits in
    record {
      same =
          is
          ∙ ap (λ (h : Held). record h { good = set held.good n good }) done.same
          ∙ ap (λ (marks : List Bool). record before { good = marks }) (sym goods);
      count = ap length goods ∙ length-set held.good n good ∙ done.count;
      marks = λ i early. subst (λ (marks : List Bool). IsMark crc size joined i (get_or marks i false)) (sym goods)
          (below_more (λ i. IsMark crc size joined i (get_or (set held.good n good) i false)) n
          (λ i before. subst (IsMark crc size joined i) (sym (get_or-set_other held.good n i good false (λ same. omega arith))) (done.marks i before))
          (subst (IsMark crc size joined n) (sym (get_or-set_same held.good n good false inside)) mark)
          i early);
    }
