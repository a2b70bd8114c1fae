use Rattle.std.proofs.Common.{◌≡◌, ◌<◌, ◌≤◌, ◌+◌, ℕ, zero, suc, List, [], ◌∷◌, length, slice_index, ◌∙◌, sym, refl, arith, below_more, length-set}
use Rattle.std.proofs.lemmas.List.{get_or-set_same, get_or-set_other}
use Rattle.std.proofs.Math.ListN.{set}
use Rattle.dch_types.proofs.Sums.{total-zero, total-more, part_le}
use Rattle.dch_frame.specs.Uplinks.{before_of, weight_of, sent_of}
use Rattle.dch_frame.proofs.SharesLemmas.{share_is}
use Rattle.dch_frame.proofs.uplink_plan.amounts.Goals as goal

-- a list that is written below i, written at i
written : (xs : List ℕ) (f : ℕ → ℕ) (i x : ℕ) → i < length xs → ((k : ℕ) → k < i → slice_index xs k ≡ f k) → x ≡ f i → (k : ℕ) → k < i + 1 → slice_index (set xs i x) k ≡ f k
written xs f i x inside before here = below_more (λ k. slice_index (set xs i x) k ≡ f k) i
    (λ k less. get_or-set_other xs i k x 0 (λ e. omega arith) ∙ before k less)
    (get_or-set_same xs i x 0 inside ∙ here)

untouched : (xs : List ℕ) (i x k : ℕ) → i + 1 ≤ k → slice_index xs k ≡ 0 → slice_index (set xs i x) k ≡ 0
untouched xs i x k past clear = get_or-set_other xs i k x 0 (λ e. omega arith) ∙ clear

none : (k : ℕ) → slice_index (0 ∷ 0 ∷ 0 ∷ 0 ∷ 0 ∷ 0 ∷ 0 ∷ 0 ∷ []) k ≡ 0
none zero = refl
none (suc zero) = refl
none (suc (suc zero)) = refl
none (suc (suc (suc zero))) = refl
none (suc (suc (suc (suc zero)))) = refl
none (suc (suc (suc (suc (suc zero))))) = refl
none (suc (suc (suc (suc (suc (suc zero)))))) = refl
none (suc (suc (suc (suc (suc (suc (suc zero))))))) = refl
none (suc (suc (suc (suc (suc (suc (suc (suc k)))))))) = refl

pub loop-i-init : goal.loop-i-init
loop-i-init c = record {
  held = sym (total-zero (weight_of c.args.side.now c.args.c));
  before = λ k less. absurd (omega arith);
  sent = λ k less. absurd (omega arith);
  no_more = λ k past. (none k, none k);
  sizes = (refl, refl);
}

pub share-requires-clause-part : goal.share-requires-clause-part
share-requires-clause-part c =
    omega (arith, c.weight_of-part.ensures.value, c.loop-i.invariant.held, c.requires.weight, part_le (weight_of c.args.side.now c.args.c) c.loop-i.i (length c.args.side.now.channels) (omega arith))

pub overflow_add-held : goal.overflow_add-held
overflow_add-held c =
    omega (arith, c.weight_of-part.ensures.value, c.loop-i.invariant.held, c.requires.weight, part_le (weight_of c.args.side.now c.args.c) c.loop-i.i (length c.args.side.now.channels) (omega arith))

pub loop-i-preserved : goal.loop-i-preserved
loop-i-preserved c =
    let i : ℕ = c.loop-i.i in
    let w : ℕ → ℕ = weight_of c.args.side.now c.args.c in
    let share : c.share.result ≡ sent_of c.args.side.now c.args.c c.args.ndata i =
    c.share.ensures.value ∙ share_is w (length c.args.side.now.channels) c.args.ndata i c.loop-i.held c.weight_of-part.result c.args.weight c.loop-i.invariant.held c.weight_of-part.ensures.value c.requires.weight in
    record {
      held = omega (arith, total-more w i, c.loop-i.invariant.held, c.weight_of-part.ensures.value);
      before = written c.loop-i.before (before_of c.args.side.now c.args.c) i c.before_of.result (omega (arith, c.loop-i.invariant.sizes.0)) c.loop-i.invariant.before c.before_of.ensures.value;
      sent = written c.loop-i.sent (sent_of c.args.side.now c.args.c c.args.ndata) i c.share.result (omega (arith, c.loop-i.invariant.sizes.1)) c.loop-i.invariant.sent share;
      no_more = λ k past. (untouched c.loop-i.before i c.before_of.result k past (c.loop-i.invariant.no_more k (omega arith)).0, untouched c.loop-i.sent i c.share.result k past (c.loop-i.invariant.no_more k (omega arith)).1);
      sizes = (length-set c.loop-i.before i c.before_of.result ∙ c.loop-i.invariant.sizes.0, length-set c.loop-i.sent i c.share.result ∙ c.loop-i.invariant.sizes.1);
    }
