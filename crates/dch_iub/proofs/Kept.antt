-- What stays of a set as its channels change one after another.
use Rattle.std.proofs.Common.{◌≡◌, ◌≢◌, ℕ, ap, sym, subst, ◌∙◌, inl, inr}
use Rattle.std.proofs.lemmas.Bool.Decides.{eqb_tells}
use Rattle.dch_accept.specs.Blocks.{Held}
use Rattle.dch_accept.specs.HeldSets.{HeldSet, held_at}
use Rattle.dch_iub.specs.Taken.{IsKept, IsMarkedAs, Replaces}

room_at : (i j : ℕ) (old new : HeldSet) → Replaces i old new → j ≡ i → (held_at new.blocks j).room ≡ (held_at old.blocks j).room
room_at i j old new changed same =
    ap (λ k. (held_at new.blocks k).room) same ∙ changed.same_room ∙ ap (λ k. (held_at old.blocks k).room) (sym same)

pub kept_more : (i : ℕ) (first old new : HeldSet) → IsKept first old → Replaces i old new → IsKept first new
kept_more i first old new kept changed = record {
  same_set = changed.same_set ∙ kept.same_set;
  same_idle = changed.same_idle ∙ kept.same_idle;
  same_length = changed.same_length ∙ kept.same_length;
  same_rooms = λ j. elim (eqb_tells j i) [
    | inl same ↦ room_at i j old new changed same.1 ∙ kept.same_rooms j
    | inr other ↦ ap (λ (h : Held). h.room) (changed.others j other.1) ∙ kept.same_rooms j
  ];
}

mark_at : (i j : ℕ) (first old new : HeldSet) → IsMarkedAs (held_at first.blocks j) (held_at old.blocks j) → IsMarkedAs (held_at old.blocks i) (held_at new.blocks i) → j ≡ i → IsMarkedAs (held_at first.blocks j) (held_at new.blocks j)
mark_at i j first old new before here same =
    let at : IsMarkedAs (held_at old.blocks j) (held_at new.blocks j) = subst (λ k. IsMarkedAs (held_at old.blocks k) (held_at new.blocks k)) (sym same) here in record {
      same = at.same ∙ ap (λ (h : Held). record h { good = (held_at new.blocks j).good }) before.same;
      count = at.count ∙ before.count;
    }

-- marks that change at one channel more
pub marked_more : (i : ℕ) (first old new : HeldSet) → ((j : ℕ) → IsMarkedAs (held_at first.blocks j) (held_at old.blocks j)) → IsMarkedAs (held_at old.blocks i) (held_at new.blocks i)
    → ((j : ℕ) → j ≢ i → held_at new.blocks j ≡ held_at old.blocks j) → (j : ℕ) → IsMarkedAs (held_at first.blocks j) (held_at new.blocks j)
marked_more i first old new before here others j =
    elim (eqb_tells j i) [
      | inl same ↦ mark_at i j first old new (before j) here same.1
      | inr other ↦ subst (λ (h : Held). IsMarkedAs (held_at first.blocks j) h) (sym (others j other.1)) (before j)
    ]
