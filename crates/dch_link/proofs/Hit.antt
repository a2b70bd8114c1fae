-- The legs, whose frames are hit, heard or cleared of damage one after another.
use Rattle.std.proofs.Common.{◌≡◌, ◌<◌, ◌≤◌, ◌+◌, ◌++◌, ◌∙◌, ℕ, zero, suc, List, [], ◌∷◌, ◌%◌, length, ap, arith, refl, sym, subst, length-append}
use Rattle.std.specs.Prelude.{slice_set}
use Rattle.std.proofs.lemmas.List.{length-set}
use Rattle.dch_types.specs.declared.channel.Dir.TheVariants.{Down}
use Rattle.dch_accept.specs.Plans.{Planned}
use Rattle.dch_damage.specs.Opened.{HasRadioRoom}
use Rattle.dch_nodeb.specs.Values.{radio_shown}
use Rattle.dch_link.specs.Hearing.{Arrive, radio_heard}
use Rattle.dch_link.specs.Legs.{LegState, opened_leg, radio_from, undamaged}
use Rattle.dch_link.specs.Soft.{SoftState, framed}
use Rattle.dch_link.specs.SoftNodes.{AreLegsOf, AreNewLegs, ArePartsOf, IsLegOf, RepresentLegs, Represents, RepresentsLeg}
use Rattle.dch_link.specs.SoftValues.{EachLeg, IsLeg, LegParts, Parts}
use Rattle.dch_link.proofs.Legs.{new_leg, set_leg}

-- there is a leg of each number
pub leg_there : (legs : List LegParts) (k : ℕ) → k < length legs → (it : LegParts) × IsLeg legs k it
leg_there [] k inside = absurd (omega (arith, inside))
leg_there (leg ∷ legs) zero inside = (leg, (inside, refl))
leg_there (leg ∷ legs) (suc k) inside = let later = leg_there legs k (omega (arith, inside)) in (later.0, (inside, later.1.1))

-- the radio frames of the first legs were hit
pub record HitTo (count : ℕ) (old new : List LegParts) : Type 0 where
  pub all : length new ≡ length old
  pub rooms : EachLeg (λ k leg. count ≤ k → HasRadioRoom leg.damage Down (radio_shown leg.node_b)) new
  pub opened : (planned : Planned) → AreLegsOf planned old → AreLegsOf planned new
  pub stand : (planned : Planned) (first : ℕ) (states : ℕ → LegState) → RepresentLegs planned first states old → RepresentLegs planned first states new
  pub arrive : (planned : Planned) (first : ℕ) (states : ℕ → LegState) → RepresentLegs planned first states old → EachLeg (λ k leg. k < count → radio_heard leg ≡ radio_from (states k)) new

pub hit_next : (count : ℕ) (old mid : List LegParts) (it hit : LegParts) → HitTo count old mid → IsLeg mid count it → ((planned : Planned) → IsLegOf planned it → IsLegOf planned hit)
    → ((planned : Planned) (first : ℕ) (leg : LegState) → RepresentsLeg planned first leg it → RepresentsLeg planned first leg hit × (radio_heard hit ≡ radio_from leg)) → HitTo (count + 1) old (slice_set mid count hit)
hit_next count old mid it hit was is opened arrives = record {
  all = length-set mid count hit ∙ was.all;
  rooms = set_leg (λ k leg. count + 1 ≤ k → HasRadioRoom leg.damage Down (radio_shown leg.node_b)) mid count hit is.0 (λ later. absurd (omega (arith, later))) (λ k leg other here later. was.rooms k leg here (omega (arith, later)));
  opened = λ planned are. set_leg (λ k leg. IsLegOf planned leg) mid count hit is.0 (opened planned (was.opened planned are count it is)) (λ k leg other here. was.opened planned are k leg here);
  stand = λ planned first states are.
      set_leg (λ k leg. RepresentsLeg planned first (states k) leg) mid count hit is.0 (arrives planned first (states count) (was.stand planned first states are count it is)).0 (λ k leg other here. was.stand planned first states are k leg here);
  arrive = λ planned first states are.
      set_leg (λ k leg. k < count + 1 → radio_heard leg ≡ radio_from (states k)) mid count hit is.0 (λ early. (arrives planned first (states count) (was.stand planned first states are count it is)).1)
      (λ k leg other here early. was.arrive planned first states are k leg here (omega (arith, early, other)));
}

-- all were
pub hit_all : (old new : List LegParts) (count : ℕ) (planned : Planned) (first : ℕ) (states : ℕ → LegState) → length new ≤ count → HitTo count old new → RepresentLegs planned first states old → RepresentLegs planned first states new × Arrive (λ k. radio_from (states k)) new
hit_all old new count planned first states all hit are = (hit.stand planned first states are, λ k leg is. hit.arrive planned first states are k leg is (omega (arith, is.0, all)))

-- the damage of the first legs is over
pub record ClearedTo (count : ℕ) (old new : List LegParts) : Type 0 where
  pub all : length new ≡ length old
  pub opened : (planned : Planned) → AreLegsOf planned old → AreLegsOf planned new
  pub cleared : (planned : Planned) (first : ℕ) (states : ℕ → LegState) → RepresentLegs planned first states old → EachLeg (λ k leg. k < count → RepresentsLeg planned first (undamaged (states k)) leg) new
  pub later : (planned : Planned) (first : ℕ) (states : ℕ → LegState) → RepresentLegs planned first states old → EachLeg (λ k leg. count ≤ k → RepresentsLeg planned first (states k) leg) new

pub clear_next : (count : ℕ) (old mid : List LegParts) (it clear : LegParts) → ClearedTo count old mid → IsLeg mid count it → ((planned : Planned) → IsLegOf planned it → IsLegOf planned clear)
    → ((planned : Planned) (first : ℕ) (leg : LegState) → RepresentsLeg planned first leg it → RepresentsLeg planned first (undamaged leg) clear) → ClearedTo (count + 1) old (slice_set mid count clear)
clear_next count old mid it clear was is opened clears = record {
  all = length-set mid count clear ∙ was.all;
  opened = λ planned are. set_leg (λ k leg. IsLegOf planned leg) mid count clear is.0 (opened planned (was.opened planned are count it is)) (λ k leg other here. was.opened planned are k leg here);
  cleared = λ planned first states are.
      set_leg (λ k leg. k < count + 1 → RepresentsLeg planned first (undamaged (states k)) leg) mid count clear is.0 (λ early. clears planned first (states count) (was.later planned first states are count it is (omega arith)))
      (λ k leg other here early. was.cleared planned first states are k leg here (omega (arith, early, other)));
  later = λ planned first states are.
      set_leg (λ k leg. count + 1 ≤ k → RepresentsLeg planned first (states k) leg) mid count clear is.0 (λ late. absurd (omega (arith, late))) (λ k leg other here late. was.later planned first states are k leg here (omega (arith, late)));
}

pub clear_all : (old new : List LegParts) (count : ℕ) (planned : Planned) (first : ℕ) (states : ℕ → LegState) → length new ≤ count → ClearedTo count old new → RepresentLegs planned first states old → RepresentLegs planned first (λ k. undamaged (states k)) new
clear_all old new count planned first states all clear are = λ k leg is. clear.cleared planned first states are k leg is (omega (arith, is.0, all))

-- one more leg is new
pub legs_next : (planned : Planned) (first count : ℕ) (legs : List LegParts) (new : LegParts) → AreNewLegs planned first count legs → IsLegOf planned new → RepresentsLeg planned first (opened_leg planned first) new
    → AreNewLegs planned first (count + 1) (legs ++ new ∷ [])
legs_next planned first count legs new were is stands = record {
  all = omega (arith, length-append legs (new ∷ []), were.all);
  opened = new_leg (λ k leg. IsLegOf planned leg) legs new were.opened is;
  stands = new_leg (λ k leg. RepresentsLeg planned first (opened_leg planned first) leg) legs new were.stands stands;
}

-- a radio frame is over
pub framed_parts : (planned : Planned) (parts : Parts) (legs : List LegParts) (cfn : ℕ) → ArePartsOf planned parts → AreLegsOf planned legs → length legs ≡ length parts.legs → ArePartsOf planned (record parts { legs = legs; cfn = cfn })
framed_parts planned parts legs cfn are legs_are long = record {
  ue = are.ue;
  rnc = are.rnc;
  legs = legs_are;
  combiner = are.combiner;
  all = are.all ∙ sym long;
  some = subst (λ n. 1 ≤ n) (sym long) are.some;
  few = subst (λ n. n ≤ 6) (sym long) are.few;
  room = are.room;
}

pub framed_stands : (planned : Planned) (first : ℕ) (soft : SoftState) (parts : Parts) (legs : List LegParts) (cfn : ℕ) → Represents planned first soft parts → RepresentLegs planned first (λ k. undamaged (soft.legs k)) legs → length legs ≡ length parts.legs
    → cfn ≡ (parts.cfn + 1) % 256 → Represents planned first (framed soft) (record parts { legs = legs; cfn = cfn })
framed_stands planned first soft parts legs cfn was are long next = record {
  ue = was.ue;
  rnc = was.rnc;
  ue_sends = was.ue_sends;
  rnc_sends = was.rnc_sends;
  count = was.count ∙ sym long;
  legs = are;
  frames = was.frames;
  cfn = ap (λ n. (n + 1) % 256) was.cfn ∙ sym next;
}
