-- Text on its way to a sink, and more text.
use Rattle.std.proofs.Common.{◌≡◌, ◌≤◌, ◌+◌, ◌++◌, ◌∙◌, ℕ, List, [], Bool, true, false, Option, length, arith, refl, sym, ap, subst, append-nil, append_assoc, length-append}
use Rattle.std.specs.Io.KnownBytes.{Appends}
use Rattle.std.proofs.KnownBytes.{Appends-nil, Appends-trans}
use Rattle.dch_io.specs.Causes.{Rose}
use Rattle.dch_io.specs.Ends.{Breaks, Passes, span}
use Rattle.dch_script.specs.Held.{Held}
use Rattle.dch_lines.specs.Pages.{Goes, Shows}

breaks_more : (a b : Option (List ℕ)) (f g : ℕ) (text more : List ℕ) → Breaks (span a b f g) text → Breaks (span a b f g) (text ++ more)
breaks_more a b f g text more is = record {
  fails = is.fails;
  written = is.written;
  writes = is.writes;
  cut = record {
    rest = is.cut.rest ++ more;
    some = omega (arith, is.cut.some, length-append is.cut.rest more);
    whole = ap (λ t. t ++ more) is.cut.whole ∙ append_assoc is.written is.cut.rest more;
  };
}

rose_from : (f g h : ℕ) → f ≤ g → Rose g h → Rose f h
rose_from f g h l rose = omega (arith, l, rose)

rose_to : (f g h : ℕ) → g ≤ h → Rose f g → Rose f h
rose_to f g h l rose = omega (arith, l, rose)

-- a text, and then more
pub goes_next : (a b c : Option (List ℕ)) (f g h : ℕ) (was mid is : Bool) (text between waits more : List ℕ) → f ≤ g → g ≤ h → Goes (span a b f g) was text mid between → Goes (span b c g h) mid (between ++ more) is waits
    → Goes (span a c f h) was (text ++ more) is waits
goes_next a b c f g h false false false text between waits more l m first then = record {
  written = first.written ++ then.written;
  writes = Appends-trans a b c first.written then.written first.writes then.writes;
  whole = ap (λ t. t ++ more) first.whole ∙ (append_assoc first.written between more ∙ (ap (λ t. first.written ++ t) then.whole ∙ sym (append_assoc first.written then.written waits)));
}
goes_next a b c f g h false false true text between waits more l m first then = record {
  fails = rose_from f g h l then.fails;
  written = first.written ++ then.written;
  writes = Appends-trans a b c first.written then.written first.writes then.writes;
  cut = record {
    rest = then.cut.rest;
    some = then.cut.some;
    whole = ap (λ t. t ++ more) first.whole ∙ (append_assoc first.written between more ∙ (ap (λ t. first.written ++ t) then.cut.whole ∙ sym (append_assoc first.written then.written then.cut.rest)));
  };
}
goes_next a b c f g h false true false text between waits more l m first then = absurd then
goes_next a b c f g h false true true text between waits more l m first then =
    let here : Breaks (span a b f g) (text ++ more) = breaks_more a b f g text more first in
    record { fails = rose_to f g h m here.fails; written = here.written; writes = subst (λ o. Appends a o here.written) (sym then) here.writes; cut = here.cut }
goes_next a b c f g h true false is text between waits more l m first then = absurd first
goes_next a b c f g h true true false text between waits more l m first then = absurd then
goes_next a b c f g h true true true text between waits more l m first then = then ∙ first

-- no text
goes_none : (a : Option (List ℕ)) (f : ℕ) (is : Bool) (text : List ℕ) → Goes (span a a f f) is (text ++ []) is text
goes_none a f false text = record { written = []; writes = Appends-nil a; whole = append-nil text }
goes_none a f true text = refl

pub shows_none : (a : Option (List ℕ)) (f : ℕ) (is : Bool) (held : Held) → Shows (span a a f f) held is [] held is
shows_none a f is held = record { later = omega arith; most = refl; fits = λ fits. fits; goes = goes_none a f is held.text }

-- a text, and then more
pub shows_next : (a b c : Option (List ℕ)) (f g h : ℕ) (was mid is : Bool) (old between new : Held) (text more : List ℕ) → Shows (span a b f g) old was text between mid → Shows (span b c g h) between mid more new is
    → Shows (span a c f h) old was (text ++ more) new is
shows_next a b c f g h was mid is old between new text more first then = record {
  later = omega (arith, first.later, then.later);
  most = then.most ∙ first.most;
  fits = λ fits. then.fits (first.fits fits);
  goes = subst (λ t. Goes (span a c f h) was t is new.text) (append_assoc old.text text more)
      (goes_next a b c f g h was mid is (old.text ++ text) between.text new.text more first.later then.later first.goes then.goes);
}
