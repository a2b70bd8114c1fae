-- How many PDUs of the list could follow with no event between.
use Rattle.std.proofs.Common.{◌≡◌, ◌-◌, ◌<◌, ◌++◌, ℕ, zero, suc, List, [], ◌∷◌, Bool, true, false, length, arith, refl, sym, ◌∙◌, subst, append_assoc}
use Rattle.std.specs.Prelude.{replicate}
use Rattle.std.proofs.lemmas.List.{append-nil}
use Rattle.dch_sar.specs.Pdus.{AreCuts, first_front, front, has_pdu}
use Rattle.dch_rlcum.specs.History.{IsAvailable, IsSenderOf, sizes}
use Rattle.dch_rlcum.specs.Sending.{Sending, after_build, builds, is_unsent, units_after}
use Rattle.dch_rlcum.proofs.Following.{builds_none, no_more, one_more}
use Rattle.dch_rlcum.proofs.Histories.{sender_built, unsent_here}

-- none follows
none_left : (limit : ℕ) (units : List (List ℕ)) (cuts : List ℕ) (s : Sending) → IsSenderOf units cuts s → (0 < limit → is_unsent s.units ≡ false) → IsAvailable limit s.pdu s.mark_start units cuts 0
none_left limit units cuts s is none = record {
  few = omega arith;
  each = subst (AreCuts (s.pdu - 1) s.mark_start (sizes units) 0 first_front) (sym (append-nil cuts)) is.rising;
  all = λ less. subst (λ cs. has_pdu (sizes units) (front (s.pdu - 1) s.mark_start (sizes units) cs) ≡ false) (sym (append-nil cuts)) (sym (unsent_here units cuts s is) ∙ none less);
}

-- one more than behind the next PDU
one_left : (limit n : ℕ) (units : List (List ℕ)) (cuts : List ℕ) (pdu : ℕ) (starts : Bool) → IsAvailable limit pdu starts units (cuts ++ length units ∷ []) n → IsAvailable (suc limit) pdu starts units cuts (suc n)
one_left limit n units cuts pdu starts behind = record {
  few = omega (arith, behind.few);
  each = subst (AreCuts (pdu - 1) starts (sizes units) 0 first_front) (append_assoc cuts (length units ∷ []) (replicate n (length units))) behind.each;
  all = λ less. subst (λ cs. has_pdu (sizes units) (front (pdu - 1) starts (sizes units) cs) ≡ false) (append_assoc cuts (length units ∷ []) (replicate n (length units))) (behind.all (omega arith));
}

builds_available : (limit : ℕ) (units : List (List ℕ)) (cuts : List ℕ) (s : Sending) → IsSenderOf units cuts s → IsAvailable limit s.pdu s.mark_start units cuts (builds limit s.pdu s.mark_start s.units)
builds_available zero units cuts s is = subst (IsAvailable 0 s.pdu s.mark_start units cuts) (sym (builds_none s.pdu s.mark_start s.units)) (none_left 0 units cuts s is (λ less. absurd (omega arith)))
builds_available (suc limit) units cuts s is = either (is_unsent s.units) refl (λ some. builds_available limit units (cuts ++ length units ∷ []) (after_build s) (sender_built units cuts s some is))
  where
    either : (b : Bool) → is_unsent s.units ≡ b → (is_unsent s.units ≡ true → IsAvailable limit s.pdu s.mark_start units (cuts ++ length units ∷ []) (builds limit s.pdu s.mark_start (units_after s.pdu s.mark_start s.units))) → IsAvailable (suc limit) s.pdu s.mark_start units cuts (builds (suc limit) s.pdu s.mark_start s.units)
    either true e behind = subst (IsAvailable (suc limit) s.pdu s.mark_start units cuts) (sym (one_more (suc limit) limit s.pdu s.mark_start s.units refl e)) (one_left limit (builds limit s.pdu s.mark_start (units_after s.pdu s.mark_start s.units)) units cuts s.pdu s.mark_start (behind e))
    either false e behind = subst (IsAvailable (suc limit) s.pdu s.mark_start units cuts) (sym (no_more (suc limit) s.pdu s.mark_start s.units e)) (none_left (suc limit) units cuts s is (λ less. e))

pub available_is : (s : Sending) (n : ℕ) → n ≡ builds 64 s.pdu s.mark_start s.units → (units : List (List ℕ)) (cuts : List ℕ) → IsSenderOf units cuts s → IsAvailable 64 s.pdu s.mark_start units cuts n
available_is s n e units cuts is = subst (IsAvailable 64 s.pdu s.mark_start units cuts) (sym e) (builds_available 64 units cuts s is)
