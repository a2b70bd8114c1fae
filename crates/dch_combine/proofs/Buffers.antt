-- The receive buffers of the legs, one of which is written, emptied or new.
use Rattle.std.proofs.Common.{◌≡◌, ◌≢◌, ◌<◌, ◌+◌, ◌++◌, ◌∙◌, ℕ, List, [], ◌∷◌, length, Some, None, arith, sym, ap, subst, inl, inr, length-append, get_or-set_same, get_or-set_other}
use Rattle.std.specs.Prelude.{slice_set}
use Rattle.std.proofs.lemmas.Bool.{cases_lt}
use Rattle.std.proofs.lemmas.Bool.Decides.{eqb_tells}
use Rattle.std.proofs.lemmas.List.{get_or_append_left, get_or_push, length-set}
use Rattle.dch_types.specs.declared.channel.Dir.TheVariants.{Up}
use Rattle.dch_types.specs.declared.config.Config.{Config}
use Rattle.dch_accept.specs.HeldSets.{HeldSet, IsSetOf}
use Rattle.dch_combine.specs.declared.leg.LegBuffer.{LegBuffer}
use Rattle.dch_combine.specs.Opened.{AreLegsOf, IsSetCombinerOf}
use Rattle.dch_combine.specs.Steps.{AreNewLegs}
use Rattle.dch_combine.specs.Values.{SetCombiner, frame_if, frame_of, leg_at}
use Rattle.dch_combine.proofs.Frames.{no_leg}

own_leg : (legs : List LegBuffer) (k : ℕ) (new : LegBuffer) → k < length legs → leg_at (slice_set legs k new) k ≡ new
own_leg legs k new inside = get_or-set_same legs k new _ inside

other_leg : (legs : List LegBuffer) (k j : ℕ) (new : LegBuffer) → j ≢ k → leg_at (slice_set legs k new) j ≡ leg_at legs j
other_leg legs k j new other = get_or-set_other legs k j new _ other

-- a receive buffer that is written is one of its set still
still_legs : (config : Config) (set k : ℕ) (legs : List LegBuffer) (new : LegBuffer) → AreLegsOf config set legs → k < length legs → IsSetOf config Up set new.blocks → AreLegsOf config set (slice_set legs k new)
still_legs config set k legs new are inside is j there = elim (eqb_tells j k) [
  | inl same ↦ subst (λ n. IsSetOf config Up set (leg_at (slice_set legs k new) n).blocks) (sym same.1) (subst (λ (b : LegBuffer). IsSetOf config Up set b.blocks) (sym (own_leg legs k new inside)) is)
  | inr other ↦ subst (λ (b : LegBuffer). IsSetOf config Up set b.blocks) (sym (other_leg legs k j new other.1)) (are j (subst (λ n. j < n) (length-set legs k new) there))
]

-- a new receive buffer at the end
pub new_leg : (config : Config) (set count : ℕ) (legs : List LegBuffer) (new : LegBuffer) → AreNewLegs config set count legs → new.qe ≡ None → IsSetOf config Up set new.blocks → AreNewLegs config set (count + 1) (legs ++ new ∷ [])
new_leg config set count legs new are none is =
    let own : leg_at (legs ++ new ∷ []) count ≡ new = get_or_push legs new _ count are.all in
    let others : (k : ℕ) → k < count → leg_at (legs ++ new ∷ []) k ≡ leg_at legs k = λ k early. get_or_append_left legs (new ∷ []) _ k (omega (arith, early, are.all)) in
    let long : length (legs ++ new ∷ []) ≡ count + 1 = omega (arith, length-append legs (new ∷ []), are.all) in
    record {
      all = long;
      empty = λ k. elim (eqb_tells k count) [
        | inl same ↦ ap (λ n. frame_of (leg_at (legs ++ new ∷ []) n)) same.1 ∙ (ap frame_of own ∙ ap (λ qe. frame_if qe new.blocks) none)
        | inr other ↦ elim (cases_lt k count) [
          | inl early ↦ ap frame_of (others k early) ∙ are.empty k
          | inr late ↦ (let apart : k ≢ count = other.1 in no_leg (legs ++ new ∷ []) k (omega (arith, long, late)))
        ]
      ];
      opened = λ k inside. elim (eqb_tells k count) [
        | inl same ↦ subst (λ n. IsSetOf config Up set (leg_at (legs ++ new ∷ []) n).blocks) (sym same.1) (subst (λ (b : LegBuffer). IsSetOf config Up set b.blocks) (sym own) is)
        | inr other ↦ (let apart : k ≢ count = other.1 in let early : k < count = omega (arith, long, inside) in
            subst (λ (b : LegBuffer). IsSetOf config Up set b.blocks) (sym (others k early)) (are.opened k (omega (arith, early, are.all))))
      ];
    }

-- a frame that was read is taken, and the memory that it leaves is room for the next one
pub set_taken : (config : Config) (set count leg qe : ℕ) (held spare : HeldSet) (old : SetCombiner) (new : LegBuffer) → IsSetCombinerOf config set count old → leg < length old.legs → new ≡ record { qe = Some qe; blocks = held } → IsSetOf config Up set held → spare ≡ (leg_at old.legs leg).blocks
    → IsSetCombinerOf config set count (record { legs = slice_set old.legs leg new; spare = spare })
set_taken config set count leg qe held spare old new are inside is of_set left = record {
  all = length-set old.legs leg new ∙ are.all;
  legs = still_legs config set leg old.legs new are.legs inside (subst (λ (b : LegBuffer). IsSetOf config Up set b.blocks) (sym is) of_set);
  spare = subst (λ (h : HeldSet). IsSetOf config Up set h) (sym left) (are.legs leg inside);
}
