-- A PDU of few octets is light.
use Rattle.std.proofs.Common.{◌≡◌, ◌<◌, ◌≤◌, ◌+◌, ◌-◌, ◌*◌, ◌/◌, ◌%◌, ◌||◌, ℕ, suc, List, [], ◌∷◌, Bool, true, false, cond, Option, Some, None, Result, Ok, Err, length, drop, get_or, arith, refl, ap, length-append, length-drop, length-take}
use Rattle.std.specs.Prelude.{◌==◌, nat_lt}
use Rattle.std.proofs.lemmas.Bool.{cond_both}
use Rattle.dch_rlcpdu.specs.Fields.{Field}
use Rattle.dch_rlcpdu.specs.Reading.{status_of}
use Rattle.dch_rlcpdu.specs.declared.am.AmView.{AmView}
use Rattle.dch_rlcpdu.specs.declared.handed.PduError.{PduError}
use Rattle.dch_rlcpdu.specs.declared.handed.PduError.TheVariants.{Reserved}
use Rattle.dch_rlcpdu.specs.declared.indicators.Mode.{Mode}
use Rattle.dch_rlcpdu.specs.declared.indicators.Mode.TheVariants.{Acknowledged}
use Rattle.dch_rlcpdu.specs.Am.{am_reading, as_reset, as_reset_ack, control_reading, data_reading, piggyback_reading, status_reading, with_body, with_piggyback}
use Rattle.dch_rlcpdu.specs.AmControl.{reset_reading}
use Rattle.dch_rlcpdu.specs.Indicators.{indicator_octets}
use Rattle.dch_rlcpdu.specs.Parts.{Content, begins_with, cut_at, ends_of, is_closed, leading, parts_of, total_of}
use Rattle.dch_rlcpdu.specs.Split.{body_reading}
use Rattle.dch_rlcpdu.proofs.Ends.{Marked, indicators_marked}
use Rattle.dch_rlcpdu.proofs.Splits.{IsBody, body_text}
use Rattle.dch_am.specs.Contents.{all_but_last, body_in, last_of}
use Rattle.dch_am.specs.Entities.{one_if}
use Rattle.dch_amlaw.specs.Bounded.{body_octets, pieces_octets}
use Rattle.dch_amlaw.proofs.Receivers.{IsLightView}

-- the parts together have no more octets than there are behind a place
parts_within : (closed : Bool) (from : ℕ) (es octets : List ℕ) → from ≤ length octets → ((i : ℕ) → i < length es → get_or (from ∷ es) i 0 < get_or es i 0) → ((i : ℕ) → i < length es → get_or es i 0 ≤ length octets) → total_of (cut_at closed from es octets) + from ≤ length octets
parts_within true from [] octets low rises within = omega arith
parts_within false from [] octets low rises within = omega (arith, length-drop from octets)
parts_within closed from (e ∷ es) octets low rises within =
    let first : from < e = rises 0 (omega arith) in
    let inside : e ≤ length octets = within 0 (omega arith) in
    let rest : total_of (cut_at closed e es octets) + e ≤ length octets = parts_within closed e es octets inside (λ i below. rises (suc i) (omega arith)) (λ i below. within (suc i) (omega arith)) in
    omega (arith, length-take (e - from) (drop from octets))

length-cut : (closed : Bool) (from : ℕ) (es octets : List ℕ) → length (cut_at closed from es octets) ≡ length es + 1
length-cut closed from [] octets = refl
length-cut closed from (e ∷ es) octets = omega (arith, length-cut closed e es octets)

-- what indicators and octets are
pub record IsContent (size : ℕ) (c : Content) : Type 0 where
  pub parts : length (parts_of c) ≡ length (ends_of c.indicators) + 1
  pub octets : total_of (parts_of c) ≤ length c.octets
  pub indicators : leading c.indicators + length (ends_of c.indicators) ≤ length c.indicators
  pub few : length c.indicators + length c.octets ≤ size

length-indicator_octets : (ms : List ℕ) → length (indicator_octets ms) ≡ length ms
length-indicator_octets [] = refl
length-indicator_octets (m ∷ ms) = omega (arith, length-indicator_octets ms)

pub content_read : (mode : Mode) (following : Bool) (p : List ℕ) (c : Content) (size : ℕ) → length p ≤ size → body_reading mode following p ≡ Ok c → IsContent size c
content_read mode following p c size few e =
    let is : IsBody mode following p c = body_text mode following p c e in
    let m : Marked (length c.octets) 0 c.indicators (leading c.indicators) (ends_of c.indicators) (is_closed c.indicators) = indicators_marked mode (length c.octets) c.indicators is.indicators in
    record {
      parts = length-cut (is_closed c.indicators) 0 (ends_of c.indicators) c.octets;
      octets = omega (arith, parts_within (is_closed c.indicators) 0 (ends_of c.indicators) c.octets (omega arith) m.rises m.within);
      indicators = omega (arith, m.whole);
      few = omega (arith, few, ap length is.parts.text, length-append (indicator_octets c.indicators) c.octets, length-indicator_octets c.indicators);
    }

-- the octets of parts, and of the indicators between them
parts_octets : (ps : List (List ℕ)) → pieces_octets (all_but_last ps) + length (last_of ps) ≡ total_of ps + (length ps - 1)
parts_octets [] = omega arith
parts_octets (p ∷ []) = omega arith
parts_octets (p ∷ q ∷ ps) = omega (arith, parts_octets (q ∷ ps))

first_octets : (indicators : List ℕ) → one_if (begins_with 0 indicators) ≤ leading indicators
first_octets indicators = go (begins_with 0 indicators) (begins_with 124 indicators)
  where
    go : (a b : Bool) → one_if a ≤ cond (a || b) 1 0
    go true b = omega arith
    go false true = omega arith
    go false false = omega arith

content_octets : (size : ℕ) (c : Content) → IsContent size c → body_octets (body_in c) ≤ size
content_octets size c is = omega (arith, parts_octets (parts_of c), first_octets c.indicators, is.parts, is.octets, is.indicators, is.few)

-- of the acknowledged mode, of at most 126 octets
status_light : (o : Option (List Field)) → IsLightView (status_reading o)
status_light None = tt
status_light (Some fields) = tt

reset_light : (o : Option (Bool × ℕ)) → IsLightView (as_reset o)
reset_light None = tt
reset_light (Some r) = tt

reset_ack_light : (o : Option (Bool × ℕ)) → IsLightView (as_reset_ack o)
reset_ack_light None = tt
reset_ack_light (Some r) = tt

control_light : (kind : ℕ) (p : List ℕ) → IsLightView (control_reading kind p)
control_light kind p =
    cond_both {A = Result AmView PduError} (kind == 0) (status_reading (status_of p)) (cond (kind == 1) (as_reset (reset_reading p)) (cond (kind == 2) (as_reset_ack (reset_reading p)) (Err Reserved))) IsLightView (λ _. status_light (status_of p)) (λ _.
    cond_both {A = Result AmView PduError} (kind == 1) (as_reset (reset_reading p)) (cond (kind == 2) (as_reset_ack (reset_reading p)) (Err Reserved)) IsLightView (λ _. reset_light (reset_reading p)) (λ _.
    cond_both {A = Result AmView PduError} (kind == 2) (as_reset_ack (reset_reading p)) (Err Reserved) IsLightView (λ _. reset_ack_light (reset_reading p)) (λ _. tt)))

body_light : (sn : ℕ) (poll following : Bool) (p : List ℕ) → length p ≤ 124 → (r : Result Content PduError) → body_reading Acknowledged following p ≡ r → IsLightView (with_body sn poll r)
body_light sn poll following p few (Err e) is = tt
body_light sn poll following p few (Ok c) is = go (piggyback_reading c)
  where
    go : (q : Result (Option (List Field)) PduError) → IsLightView (with_piggyback sn poll c q)
    go (Err e) = tt
    go (Ok piggyback) = omega (arith, content_octets 124 c (content_read Acknowledged following p c 124 few is))

data_light : (first : ℕ) (p : List ℕ) → length p ≤ 125 → IsLightView (data_reading first p)
data_light first [] few = tt
data_light first (octet ∷ p) few =
    cond_both {A = Result AmView PduError} (nat_lt 1 (octet % 4)) (Err Reserved) (with_body (32 * (first % 128) + octet / 8) (octet / 4 % 2 == 1) (body_reading Acknowledged (octet % 2 == 1) p)) IsLightView
    (λ _. tt)
    (λ _. body_light (32 * (first % 128) + octet / 8) (octet / 4 % 2 == 1) (octet % 2 == 1) p (omega arith) (body_reading Acknowledged (octet % 2 == 1) p) refl)

pub reading_light : (p : List ℕ) → length p ≤ 126 → IsLightView (am_reading p)
reading_light [] few = tt
reading_light (x ∷ p) few = cond_both {A = Result AmView PduError} (nat_lt x 128) (control_reading (x / 16) (x ∷ p)) (data_reading x p) IsLightView (λ _. control_light (x / 16) (x ∷ p)) (λ _. data_light x p (omega arith))
