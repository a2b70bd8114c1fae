-- Channels that are compared one after another.
use Rattle.std.proofs.Common.{◌≡◌, ◌<◌, ◌+◌, ◌++◌, ℕ, zero, suc, List, [], arith, refl, subst}
use Rattle.dch_bits.specs.declared.bit.Bit.{Bit}
use Rattle.dch_types.specs.declared.channel.Dir.{Dir}
use Rattle.dch_indication.proofs.Telling.{told-append}
use Rattle.dch_node.specs.Lines.{Line}
use Rattle.dch_node.specs.Standing.{Tells}
use Rattle.dch_link.specs.Checks.{AreChecked}
use Rattle.dch_link.specs.Comparing.{Compares, ComparesAll}

-- no channel was compared
pub compares-none : {U : Type 0} (shows : U → Line → U → Type 0) (dir : Dir) (taken given : ℕ → List (List Bit)) (user : U) → ComparesAll dir taken given 0 (Tells shows user user)
compares-none shows dir taken given user = record { lines = []; checked = refl; tells = refl }

-- and one more was
pub compares_next : {U : Type 0} (shows : U → Line → U → Type 0) (dir : Dir) (taken given : ℕ → List (List Bit)) (i : ℕ) (before mid after : U) → ComparesAll dir taken given i (Tells shows before mid)
    → Compares dir i (taken i) (given i) (Tells shows mid after) → ComparesAll dir taken given (i + 1) (Tells shows before after)
compares_next shows dir taken given i before mid after all own =
    let here : suc i ≡ i + 1 = omega arith in
    record {
      lines = all.lines ++ own.lines;
      checked = subst (λ n. AreChecked dir taken given n (all.lines ++ own.lines)) here (record { front = all.lines; own = own.lines; before = all.checked; is = own.checked; all = refl });
      tells = told-append shows before mid after all.lines own.lines all.tells own.tells;
    }

-- the comparison is about lists alone
pub checked-same : (dir : Dir) (taken given other more : ℕ → List (List Bit)) (n : ℕ) (lines : List Line) → ((i : ℕ) → i < n → taken i ≡ other i) → ((i : ℕ) → i < n → given i ≡ more i) → AreChecked dir taken given n lines → AreChecked dir other more n lines
checked-same dir taken given other more zero lines same also are = are
checked-same dir taken given other more (suc n) lines same also are = record {
  front = are.front;
  own = are.own;
  before = checked-same dir taken given other more n are.front (λ i early. same i (omega (arith, early))) (λ i early. also i (omega (arith, early))) are.before;
  is = rw (← same n (omega arith), ← also n (omega arith)) are.is;
  all = are.all;
}
