-- A bearer of layer 2 by its number.
use Rattle.std.proofs.Common.{◌≡◌, ◌<◌, ◌∙◌, ℕ, zero, suc, List, [], ◌∷◌, Bool, cond, get_or, set, length, arith, refl, sym, subst, length-set, get_or-set_same, get_or-set_other}
use Rattle.std.specs.Prelude.{◌==◌}
use Rattle.dch_bits.specs.declared.bit.Bit.{Bit}
use Rattle.dch_types.specs.declared.channel.Dir.{Dir}
use Rattle.dch_types.specs.declared.config.Config.{Config}
use Rattle.dch_layer2.specs.Bearings.{Bearing, after_answer, answers}
use Rattle.dch_layer2.specs.Layers.{Layer, with_bearing}
use Rattle.dch_layer2.specs.BearerStanding.{CanSend, Represents as StandsFor}
use Rattle.dch_layer2.specs.declared.bearer.Bearer.{Bearer}
use Rattle.dch_layer2.specs.Sharing.{HasBits}
use Rattle.dch_layer2.specs.Standing.{CanOffer, Represents}
use Rattle.dch_layer2.specs.Values.{LayerRunning, entity_at}
use Rattle.dch_layer2.proofs.Bits.{offered_bits}
use Rattle.dch_layer2.proofs.Sums.{either, number_same, other_number}

-- a place that is there doesn't ask what stands past the end
pub inside_or : {X : Type 0} (xs : List X) (b : ℕ) (x y : X) → b < length xs → get_or xs b x ≡ get_or xs b y
inside_or [] b x y inside = absurd (omega arith)
inside_or (z ∷ xs) zero x y inside = refl
inside_or (z ∷ xs) (suc b) x y inside = inside_or xs b x y (omega arith)

pub can_send : (v : LayerRunning) (b : ℕ) (x : Bearer) → CanOffer v b → x ≡ get_or v.bearers b x → CanSend x
can_send v b x can is =
    let inside : b < length v.bearers = omega (arith, can.there, can.stands.all) in
    record {
      config = can.config;
      out = v.out;
      into = v.into;
      b = b;
      bearing = can.layer.bearings b;
      stands = subst (StandsFor can.config v.out v.into b (can.layer.bearings b)) (sym (is ∙ inside_or v.bearers b x (entity_at [] 0) inside)) (can.stands.bearers b can.there);
      sends = can.sends;
    }

-- another bearing at one bearer
pub with_stands : (config : Config) (layer : Layer) (v : LayerRunning) (b : ℕ) (next : Bearing) (new : Bearer) → Represents config layer v → b < length v.bearers → StandsFor config v.out v.into b next new → HasBits next → Represents config (with_bearing layer b next) (record v { bearers = set v.bearers b new })
with_stands config layer v b next new is inside stands has = record {
  all = length-set v.bearers b new ∙ is.all;
  bearers = λ c l. either (c == b)
      (λ same. subst (λ (x : Bool). StandsFor config v.out v.into c (cond x next (layer.bearings c)) (entity_at (set v.bearers b new) c)) (sym same)
      (subst (λ k. StandsFor config v.out v.into k next (entity_at (set v.bearers b new) k)) (sym (number_same c b same))
      (subst (StandsFor config v.out v.into b next) (sym (get_or-set_same v.bearers b new (entity_at [] 0) inside)) stands)))
      (λ other. subst (λ (x : Bool). StandsFor config v.out v.into c (cond x next (layer.bearings c)) (entity_at (set v.bearers b new) c)) (sym other)
      (subst (StandsFor config v.out v.into c (layer.bearings c)) (sym (get_or-set_other v.bearers b c new (entity_at [] 0) (other_number c b other))) (is.bearers c l)));
  bits = λ c l. either (c == b)
      (λ same. subst (λ (x : Bool). HasBits (cond x next (layer.bearings c))) (sym same) has)
      (λ other. subst (λ (x : Bool). HasBits (cond x next (layer.bearings c))) (sym other) (is.bits c l));
  blocked = is.blocked;
  running = is.running;
  runs = is.runs;
  listed = is.listed;
  given_all = is.given_all;
  given = is.given;
  heads = is.heads;
  room = is.room;
}

pub offered_stands : (config : Config) (layer : Layer) (v : LayerRunning) (b : ℕ) (octets : List ℕ) (bits : List Bit) (x new : Bearer) → Represents config layer v → b < length v.bearers → x ≡ get_or v.bearers b x →
    ((c : Config) (out into : Dir) (k : ℕ) (old : Bearing) → StandsFor c out into k old x → StandsFor c out into k (after_answer (answers c out k octets bits old) octets bits old) new) →
    Represents config (with_bearing layer b (after_answer (answers config v.out b octets bits (layer.bearings b)) octets bits (layer.bearings b))) (record v { bearers = set v.bearers b new })
offered_stands config layer v b octets bits x new is inside at stands =
    let there : b < length config.bearers = omega (arith, inside, is.all) in
    with_stands config layer v b (after_answer (answers config v.out b octets bits (layer.bearings b)) octets bits (layer.bearings b)) new is inside
    (stands config v.out v.into b (layer.bearings b) (subst (StandsFor config v.out v.into b (layer.bearings b)) (sym (at ∙ inside_or v.bearers b x (entity_at [] 0) inside)) (is.bearers b there)))
    (offered_bits config v.out b octets bits (layer.bearings b) (is.bits b there))
