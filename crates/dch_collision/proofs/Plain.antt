-- Collisions of blocks that are sent as they are.
use Rattle.std.proofs.Common.{◌≡◌, ◌≢◌, ◌<◌, ◌≤◌, ℕ, List, Bool, true, false, get_or, arith, refl, ap, sym, ◌∙◌, ⊎_elim}
use Rattle.std.specs.Prelude.{replicate, slice_set}
use Rattle.std.proofs.lemmas.List.{length-replicate, length-set, get_or-set_same, get_or-set_other, ext_get_or}
use Rattle.std.proofs.lemmas.Bool.{cases_lt, cases_eq}
use Rattle.dch_bits.specs.declared.bit.Bit.{Bit}
use Rattle.dch_bits.specs.declared.bit.Bit.TheVariants.{Zero, One}
use Rattle.dch_types.specs.declared.channel.Coding.TheVariants.{Uncoded}
use Rattle.dch_trellis.specs.Nearest.{IsBlock}
use Rattle.dch_collision.specs.Collisions.{IsCollision, IsFirstCollision, NoneCollide, copies_kept}
use Rattle.dch_collision.proofs.Linear.{get_or-zeros}
use Rattle.dch_collision.proofs.BlockLists.{first_when}
use Rattle.dch_collision.proofs.Collide.{sent-one, one-sent, zeros-block}

-- blocks that agree at each place after the filler are the same
same-block : (sent_flags : List Bool) (size filler : ℕ) (a b : List Bit) → IsBlock size filler a → IsBlock size filler b → ((t : ℕ) → filler ≤ t → t < size → get_or a t Zero ≡ get_or b t Zero) → a ≡ b
same-block sent_flags size filler a b first second agree = ext_get_or Zero a b (first.sized ∙ sym second.sized) (λ t within. ⊎_elim
    (λ (early : t < filler). first.filled t early ∙ sym (second.filled t early))
    (λ (late : filler ≤ t). agree t late (omega (arith, first.sized)))
    (cases_lt t filler))

-- where each bit after the filler is sent no two blocks collide
pub none-lost : (sent_flags : List Bool) (size filler : ℕ) → ((k : ℕ) → filler ≤ k → k < size → get_or sent_flags k false ≡ true) → NoneCollide Uncoded size filler (copies_kept sent_flags)
none-lost sent_flags size filler sent a b collision = collision.differ (same-block sent_flags size filler a b collision.first collision.second (λ t late within. collision.agree t within (sent-one sent_flags t (sent t late within))))

-- a block of zeros but for one place
abbrev single : ℕ → ℕ → List Bit
single size k = slice_set (replicate size Zero) k One

single-at : (size k : ℕ) → k < size → get_or (single size k) k Zero ≡ One
single-at size k inside = get_or-set_same (replicate size Zero) k One Zero (omega (arith, length-replicate {A = Bit} size Zero))

single-other : (size k t : ℕ) → t ≢ k → get_or (single size k) t Zero ≡ Zero
single-other size k t other = get_or-set_other (replicate size Zero) k t One Zero other ∙ get_or-zeros size t

-- the block with a One at the last place that is not sent is the first that looks like zeros
pub last-lost : (sent_flags : List Bool) (size filler k : ℕ) → filler ≤ k → k < size → get_or sent_flags k false ≡ false → ((j : ℕ) → k < j → j < size → get_or sent_flags j false ≡ true) → IsFirstCollision Uncoded size filler (copies_kept sent_flags) (slice_set (replicate size Zero) k One)
last-lost sent_flags size filler k late inside lost sent = record {
  collides = record {
    first = zeros-block size filler;
    second = record {
      sized = length-set (replicate size Zero) k One ∙ length-replicate {A = Bit} size Zero;
      filled = λ t early. single-other size k t (λ same. absurd (omega (arith, same)));
    };
    differ = λ same.
        let none : get_or (single size k) k Zero ≡ Zero = ap (λ bits. get_or bits k Zero) (sym same) ∙ get_or-zeros size k in
        let one : get_or (single size k) k Zero ≡ One = single-at size k inside in
        cc;
    agree = λ t within some. get_or-zeros size t ∙ sym (single-other size k t (λ same.
        let here : get_or sent_flags k false ≡ true = ap (λ t. get_or sent_flags t false) (sym same) ∙ one-sent sent_flags t some in
        cc));
  };
  first = λ other collision. first_when (single size k) other (λ i one same. ⊎_elim
      (λ (here : i ≡ k). rw here (top other collision (λ j before. sym (same j (omega (arith, here))) ∙ single-other size k j (λ equal. absurd (omega (arith, equal))))))
      (λ (elsewhere : i ≢ k). let none : get_or (single size k) i Zero ≡ Zero = single-other size k i elsewhere in cc)
      (cases_eq i k));
}
  where
    bit_cases : (b : Bit) → (b ≡ Zero → ⊥) → b ≡ One
    bit_cases Zero some = absurd (some refl)
    bit_cases One some = refl

    -- another block with zeros before the place has a One there
    top : (other : List Bit) → IsCollision Uncoded size filler (copies_kept sent_flags) (replicate size Zero) other → ((j : ℕ) → j < k → get_or other j Zero ≡ Zero) → get_or other k Zero ≡ One
    top other collision before = bit_cases (get_or other k Zero) (λ none. collision.differ (same-block sent_flags size filler (replicate size Zero) other collision.first collision.second (λ t late within. ⊎_elim
        (λ (early : t < k). get_or-zeros size t ∙ sym (before t early))
        (λ (past : k ≤ t). ⊎_elim
        (λ (after : k < t). collision.agree t within (sent-one sent_flags t (sent t after within)))
        (λ (here : t ≤ k). let same : t ≡ k = omega arith in rw same (get_or-zeros size k ∙ sym none))
        (cases_lt k t))
        (cases_lt t k))))
