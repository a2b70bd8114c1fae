-- What one write more does to the bytes so far.
use Rattle.std.proofs.Common.{◌≡◌, ◌≤◌, ◌<◌, ◌+◌, ◌-◌, ℕ, List, length, take, drop, subst, sym, ap, arith, length-drop}
use Rattle.std.proofs.lemmas.List.{take_all, take-append-drop}
use Rattle.std.proofs.Math.Seq.{take-add}
use Rattle.std.specs.declared.option.Option.{Option}
use Rattle.std.specs.Io.KnownBytes.{Appends}
use Rattle.dch_io.specs.Causes.{Rose}
use Rattle.dch_io.specs.Ends.{Breaks}
use Rattle.std.proofs.KnownBytes.{Appends-trans}

-- more of a text is written
pub written_more : (a b c : Option (List ℕ)) (text : List ℕ) (i n : ℕ) → i ≤ length text → Appends a b (take i text)
    → Appends b c (take n (take (length text - i) (drop i text))) → Appends a c (take (i + n) text)
written_more a b c text i n within before now =
    let rest : take (length text - i) (drop i text) ≡ drop i text = take_all _ _ (omega (arith, length-drop i text)) in
    subst (Appends a c) (sym (take-add i n text)) (Appends-trans a b c _ _ before (subst (Appends b c) (ap (take n) rest) now))

-- a fault after some bytes of a text
pub breaks_at : (before now : Option (List ℕ)) (faults faults_now : ℕ) (text : List ℕ) (n : ℕ) → n < length text → Appends before now (take n text) → Rose faults faults_now
    → Breaks (record { before = before; now = now; faults_before = faults; faults_now = faults_now }) text
breaks_at before now faults faults_now text n within writes rose = record {
  fails = rose;
  written = take n text;
  writes = writes;
  cut = record { rest = drop n text; some = omega (arith, length-drop n text); whole = sym (take-append-drop n text) };
}
