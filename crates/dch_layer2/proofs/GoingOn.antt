-- Layer 2 where another configuration becomes active.
use Rattle.std.proofs.Common.{◌≡◌, ◌<◌, ◌≤◌, ◌∙◌, ℕ, List, Bool, false, length, arith, refl, sym, ap, subst, ⊎_elim}
use Rattle.std.specs.Prelude.{◌↔◌}
use Rattle.std.proofs.lemmas.Bool.{cases_lt}
use Rattle.std.proofs.lemmas.List.{length-replicate}
use Rattle.dch_types.specs.declared.config.Config.{Config}
use Rattle.dch_types.specs.Parts.{side_of}
use Rattle.dch_config.specs.Changes.{KeepsBearer}
use Rattle.dch_accept.specs.Blocks.{Held}
use Rattle.dch_layer2.specs.Layers.{Layer, changed_layer}
use Rattle.dch_layer2.specs.declared.bearer.Bearer.{Bearer}
use Rattle.dch_layer2.specs.Changing.{AllGoOn, CanAllGoOn, CanGoOn, IsNextLayer}
use Rattle.dch_layer2.specs.Standing.{Represents}
use Rattle.dch_layer2.specs.Values.{LayerRunning, NextLayer}

-- two numbers below which the same numbers lie
same_bound : (m n : ℕ) → ((b : ℕ) → (b < m) ↔ (b < n)) → n ≡ m
same_bound m n alike = ⊎_elim
    (λ (l : m < n). absurd (omega (arith, (alike m).1 l)))
    (λ (l : n ≤ m). ⊎_elim (λ (k : n < m). absurd (omega (arith, (alike n).0 k))) (λ (k : m ≤ n). omega (arith, l, k)) (cases_lt n m))
    (cases_lt m n)

-- there are as many bearers
pub as_many : (first second : Config) → ((b : ℕ) → KeepsBearer first second b) → length second.bearers ≡ length first.bearers
as_many first second kept = same_bound (length first.bearers) (length second.bearers) (λ b. (kept b).there)

pub can_all : (config : Config) (v : LayerRunning) → CanGoOn config v → CanAllGoOn config v.out v.bearers
can_all config v can b inside =
    let before : b < length can.first.bearers = omega (arith, inside, can.stands.all) in
    record {
      first = can.first;
      into = v.into;
      b = b;
      bearing = can.layer.bearings b;
      stands = can.stands.bearers b before;
      keeps = can.keeps b;
      there = (can.keeps b).there.0 before;
    }

-- no combination is blocked, each channel runs its idle format, and the bearers go on
pub changed_stands : (second first : Config) (old : LayerRunning) (next : NextLayer) (bearers : List Bearer) (layer : Layer) → 0 < length (side_of second old.out).combinations → Represents first layer old → ((b : ℕ) → KeepsBearer first second b) →
    IsNextLayer second old.out next → AllGoOn second old.out old.bearers bearers → Represents second (changed_layer second old.out layer) (record old { bearers = bearers; blocked = next.blocked; running = 0; given = next.given })
changed_stands second first old next bearers layer some is kept new goes = record {
  all = goes.all ∙ (is.all ∙ sym (as_many first second kept));
  bearers = λ b inside.
      let before : b < length first.bearers = (kept b).there.1 inside in
      goes.each b (omega (arith, before, is.all)) first old.into b (layer.bearings b) (is.bearers b before) (kept b) inside;
  bits = λ b inside. is.bits b ((kept b).there.1 inside);
  blocked = new.blocked;
  running = refl;
  runs = some;
  listed = ap (λ (xs : List Bool). length xs) new.blocked ∙ length-replicate (length (side_of second old.out).combinations) false;
  given_all = new.given.all;
  given = new.given.each;
  heads = is.heads ∙ sym (as_many first second kept);
  room = is.room;
}

-- and so where its parts are these
abbrev pub changed_to : LayerRunning → List Bearer → List Bool → List Held → LayerRunning
changed_to old bearers blocked given = record old { bearers = bearers; blocked = blocked; running = 0; given = given }

pub changed_as : (second : Config) (new : Layer) (old : LayerRunning) (next : NextLayer) (bearers all : List Bearer) (blocked : List Bool) (given : List Held) → all ≡ bearers → blocked ≡ next.blocked → given ≡ next.given →
    Represents second new (changed_to old bearers next.blocked next.given) → Represents second new (changed_to old all blocked given)
changed_as second new old next bearers all blocked given a b g is =
    subst (λ (xs : List Bearer). Represents second new (changed_to old xs blocked given)) (sym a)
    (subst (λ (xs : List Bool). Represents second new (changed_to old bearers xs given)) (sym b) (subst (λ (xs : List Held). Represents second new (changed_to old bearers next.blocked xs)) (sym g) is))
