-- Units that wait are handed up one after another.
use Rattle.std.proofs.Common.{◌≡◌, ◌++◌, ◌∙◌, ℕ, List, [], ◌∷◌, Bool, true, false, cond, Option, Some, None, length, take, drop, refl, sym, subst, ap}
use Rattle.std.specs.Prelude.{nat_lt}
use Rattle.dch_types.specs.declared.channel.Dir.{Dir}
use Rattle.dch_rlcpdu.specs.declared.handed.Handed.{Handed}
use Rattle.dch_rlcpdu.specs.declared.handed.Handed.TheVariants.{Whole, Overlong}
use Rattle.dch_rlcum.specs.Receiving.{handed_of, written}
use Rattle.dch_indication.specs.Lines.{Got, Line, Overlong as TooLong}
use Rattle.dch_indication.specs.Told.{Told}
use Rattle.dch_layer2.specs.UnitLines.{unit_lines}
use Rattle.dch_layer2.specs.Handing.{Going, handed_line}

take_front : (u xs : List ℕ) → take (length u) (u ++ xs) ≡ u
take_front [] xs = refl
take_front (x ∷ u) xs = ap (λ r. x ∷ r) (take_front u xs)

-- the first unit, as it is handed up
pub first_line : (dir : Dir) (b : ℕ) (waiting : List (List ℕ)) (h : Handed) (out : List ℕ) → Some h ≡ handed_of waiting → unit_lines dir b waiting ≡ handed_line dir b h (written waiting out) ∷ unit_lines dir b (drop 1 waiting)
first_line dir b [] h out e = absurd (cc)
first_line dir b (u ∷ us) h out e = ap (λ line. line ∷ unit_lines dir b us) (go (nat_lt 1500 (length u)) h (unpacked e))
  where
    unpacked : ◌≡◌ {A = Option Handed} (Some h) (Some (cond (nat_lt 1500 (length u)) Overlong (Whole (length u)))) → h ≡ cond (nat_lt 1500 (length u)) Overlong (Whole (length u))
    unpacked q = cc

    go : (c : Bool) (h : Handed) → h ≡ cond c Overlong (Whole (length u)) → cond c (TooLong dir b) (Got dir b u) ≡ handed_line dir b h (cond c out (u ++ drop (length u) out))
    go true h q = sym (ap (λ x. handed_line dir b x out) q)
    go false h q = sym (ap (λ x. handed_line dir b x (u ++ drop (length u) out)) q ∙ ap (Got dir b) (take_front u (drop (length u) out)))

pub going_start : {S : Type 0} (shows : S → Line → S → Type 0) (dir : Dir) (b : ℕ) (all : List (List ℕ)) (before : S) → Going shows dir b all before all before
going_start shows dir b all before = record { on = λ last told. told }

-- one unit more is told
pub going_step : {S : Type 0} (shows : S → Line → S → Type 0) (dir : Dir) (b : ℕ) (all left rest : List (List ℕ)) (before now next : S) (h : Handed) (out room : List ℕ) → Going shows dir b all before left now → Some h ≡ handed_of left →
    room ≡ written left out → rest ≡ drop 1 left → shows now (handed_line dir b h room) next → Going shows dir b all before rest next
going_step shows dir b all left rest before now next h out room is first written_is rest_is shown = record {
  on = λ last told. is.on last (subst (λ ls. Told shows now ls last) (sym (first_line dir b left h out first))
      (next, (subst (λ o. shows now (handed_line dir b h o) next) written_is shown, subst (λ us. Told shows next (unit_lines dir b us) last) rest_is told)));
}

pub going_end : {S : Type 0} (shows : S → Line → S → Type 0) (dir : Dir) (b : ℕ) (all left : List (List ℕ)) (before now : S) → Going shows dir b all before left now → handed_of left ≡ None → Told shows before (unit_lines dir b all) now
going_end shows dir b all (u ∷ us) before now is none = absurd (cc)
going_end shows dir b all [] before now is none = is.on now refl
