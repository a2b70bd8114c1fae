-- An unacknowledged bearer of which all blocks came but those on their way.
use Rattle.std.proofs.Common.{◌≡◌, ◌+◌, ◌-◌, ℕ, zero, suc, List, [], ◌∷◌, ◌++◌, Bool, true, false, cond, Ok, length, map, take, arith, refl, sym, ap, ap₂, ◌∙◌, append_assoc}
use Rattle.std.specs.Prelude.{filter, nat_lt}
use Rattle.std.specs.List.{list_any}
use Rattle.std.proofs.lemmas.Bool.{le-ltb}
use Rattle.std.proofs.lemmas.List.{take_at}
use Rattle.dch_bits.specs.declared.bit.Bit.{Bit}
use Rattle.dch_types.specs.declared.channel.Dir.{Dir}
use Rattle.dch_types.specs.declared.config.Config.{Config}
use Rattle.dch_sar.specs.Pdus.{Pdu, first_front, pdus}
use Rattle.dch_sar.proofs.Fronts.{length-pdus}
use Rattle.dch_rlcpdu.specs.Um.{um_reading}
use Rattle.dch_rlcpdu.proofs.Splits.{reading_back}
use Rattle.dch_rlcum.specs.Handing.{AreRead, AreUnits, all_handed, handed_up, sent_from, view_of}
use Rattle.dch_rlcum.specs.History.{joined, sizes, text_of, texts, texts_from}
use Rattle.dch_rlcum.specs.Receiving.{Receiving, after_pdu, opened as opened_receiving}
use Rattle.dch_rlcum.proofs.Handed.{known_handed, pdus_read}
use Rattle.dch_node.specs.Lines.{Got, Overlong}
use Rattle.dch_layer2.specs.UnitLines.{unit_lines}
use Rattle.dch_runlaw.specs.Ended.{has_end, marked_units}
use Rattle.dch_runlaw.proofs.Firsts.{AreFirst, first_below, first_known, next_first, next_none, none_before}
use Rattle.dch_runlaw.specs.History.{is_mine}
use Rattle.dch_runlaw.specs.UmHistory.{IsUmCarried, IsUmHistory, got_lines, lines_all, lines_one, pdu_in, pdus_in, pdus_of, receives_one}
use Rattle.dch_runlaw.specs.Worlds.{World}
use Rattle.dch_runlaw.proofs.Sublists.{either}
use Rattle.dch_runlaw.proofs.BlocksTaken.{units-append}
use Rattle.dch_runlaw.proofs.Um.{pdus-append}

-- the first PDUs came, one after another
first_lines : (dir : Dir) (b pdu : ℕ) (units : List (List ℕ)) (arrives : ℕ → Bool) (k m : ℕ) (before : Bool) (ps : List Pdu) (r : Receiving) → AreRead pdu units k ps → AreFirst arrives k m → lines_all dir b (take m (texts_from pdu units k ps)) r ≡ unit_lines dir b (handed_up pdu (joined units) k r (sent_from arrives k before ps))
first_lines dir b pdu units arrives k zero before [] r read a = refl
first_lines dir b pdu units arrives k (suc m) before [] r read a = refl
first_lines dir b pdu units arrives k zero before (p ∷ ps) r read a = rw (a.lost k (omega arith)) (first_lines dir b pdu units arrives (k + 1) zero false ps r read.1 (next_none arrives k a))
first_lines dir b pdu units arrives k (suc m) before (p ∷ ps) r read a =
    let rest = take m (texts_from pdu units (k + 1) ps) in
    let v = view_of pdu (joined units) k p in
    let view : um_reading (text_of pdu units k p) ≡ Ok (view_of pdu (joined units) k p) = reading_back (text_of pdu units k p) (view_of pdu (joined units) k p) read.0 in
    rw (a.arrived k (omega arith) (omega arith))
    (ap (λ x. lines_one dir b x r ++ lines_all dir b rest (receives_one x r)) view
    ∙ ap (λ l. unit_lines dir b (after_pdu v r).waiting ++ l) (first_lines dir b pdu units arrives (k + 1) m true ps (all_handed (after_pdu v r)) read.1 (next_first arrives k m a))
    ∙ sym (units-append dir b (after_pdu v r).waiting (handed_up pdu (joined units) (k + 1) (all_handed (after_pdu v r)) (sent_from arrives (k + 1) true ps))))

length-texts : (pdu : ℕ) (units : List (List ℕ)) (k : ℕ) (ps : List Pdu) → length (texts_from pdu units k ps) ≡ length ps
length-texts pdu units k [] = refl
length-texts pdu units k (p ∷ ps) = ap suc (length-texts pdu units (k + 1) ps)

length-mapped : (f : List Bit → List ℕ) (xs : List (List Bit)) → length (map f xs) ≡ length xs
length-mapped f [] = refl
length-mapped f (x ∷ xs) = ap suc (length-mapped f xs)

length-both : (xs ys : List (List ℕ)) → length (xs ++ ys) ≡ length xs + length ys
length-both [] ys = omega arith
length-both (x ∷ xs) ys = omega (arith, length-both xs ys)

-- an accepted unit is not too long
got_all : (dir : Dir) (b : ℕ) (ps : List Pdu) (at : ℕ) (units : List (List ℕ)) → AreUnits units → unit_lines dir b (marked_units ps at units) ≡ got_lines dir b (marked_units ps at units)
got_all dir b ps at [] are = refl
got_all dir b ps at (u ∷ us) are = either (list_any (has_end (at + length u)) ps)
    (λ e. rw e (ap₂ (λ x l. x ∷ l) (ap (λ t. cond t (Overlong dir b) (Got dir b u)) (le-ltb 1500 (length u) are.1.0)) (got_all dir b ps (at + length u) us are.1.1)))
    (λ e. rw e (got_all dir b ps (at + length u) us are.1.1))

pub um_all_came : (config : Config) (out : Dir) (b i : ℕ) (g t : List (List ℕ)) (w : World) (running : List (List Bit)) → IsUmHistory config out b i g t w → g ≡ t → (w.out i).given ≡ (w.out i).taken ++ running → IsUmCarried config out b i w.near.layer w.far.said running
um_all_came config out b i g t w running h before e =
    let s = h.near.sends in
    let own = pdus_in config out b i (w.out i).taken in
    let came = t ++ own in
    let n : ℕ = length came in
    let ps : List Pdu = pdus (s.sending.pdu - 1) s.sending.mark_start (sizes s.accepted) s.cuts in
    let all : texts s.sending.pdu s.sending.mark_start s.accepted s.cuts ≡ came ++ pdus_in config out b i running = sym h.near.given ∙ ap₂ (λ x l. x ++ pdus_in config out b i l) before e ∙ ap (λ l. t ++ l) (pdus-append config out b i (w.out i).taken running) ∙ sym (append_assoc t own (pdus_in config out b i running)) in
    let many : length (texts s.sending.pdu s.sending.mark_start s.accepted s.cuts) ≡ length s.cuts = length-texts s.sending.pdu s.accepted 0 ps ∙ length-pdus (s.sending.pdu - 1) s.sending.mark_start (sizes s.accepted) first_front s.cuts in
    let first : came ≡ take n (texts s.sending.pdu s.sending.mark_start s.accepted s.cuts) = sym (take_at came (pdus_in config out b i running) n refl) ∙ ap (take n) (sym all) in
    let read = pdus_read s.sending.pdu s.sending.mark_start s.accepted s.cuts h.near.sender.from h.near.sender.most h.near.units h.near.sender.rising in
    let arrives : ℕ → Bool = λ j. nat_lt j n in
    record {
      sends = s;
      receiving = h.near.receiving;
      bearing = h.near.bearing;
      came = n;
      count = ap (λ x. n + x) (sym (length-mapped (pdu_in config out b) (filter (is_mine config out b i) running))) ∙ sym (length-both came (pdus_in config out b i running)) ∙ ap length (sym all) ∙ many;
      lines = h.far.lines ∙ ap (λ l. lines_all out b l opened_receiving) first
          ∙ first_lines out b s.sending.pdu s.accepted (λ j. nat_lt j n) 0 n true ps opened_receiving read (first_below n)
          ∙ ap (unit_lines out b) (known_handed s.sending.pdu s.sending.mark_start s.accepted s.cuts (λ j. nat_lt j n) h.near.sender.from h.near.sender.most h.near.units h.near.sender.rising (none_before (λ j. nat_lt j n) 0 n true ps (first_below n))
          ∙ first_known s.sending.pdu s.sending.mark_start s.accepted s.cuts (λ j. nat_lt j n) n h.near.sender.from h.near.sender.most h.near.units h.near.sender.rising (first_below n))
          ∙ got_all out b (take n (pdus_of s)) 0 s.accepted h.near.units;
    }

pub um_carried : (config : Config) (out : Dir) (b i : ℕ) (w : World) (running : List (List Bit)) → IsUmHistory config out b i [] [] w → (w.out i).given ≡ (w.out i).taken ++ running → IsUmCarried config out b i w.near.layer w.far.said running
um_carried config out b i w running h e = um_all_came config out b i [] [] w running h refl e
