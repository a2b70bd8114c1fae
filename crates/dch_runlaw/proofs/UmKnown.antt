-- Which of the PDUs that were sent arrived, and the units that are known then.
use Rattle.std.proofs.Common.{◌≡◌, ◌≤◌, ◌⊎◌, ◌+◌, ◌-◌, ℕ, List, [], ◌∷◌, ◌++◌, Bool, true, false, cond, Ok, map, arith, refl, sym, ap, ap₂, ◌∙◌, subst, inl, inr, ⊎_elim}
use Rattle.std.specs.Prelude.{◌==◌, filter}
use Rattle.dch_bits.specs.declared.bit.Bit.{Bit}
use Rattle.dch_types.specs.declared.channel.Dir.{Dir}
use Rattle.dch_types.specs.declared.config.Config.{Config}
use Rattle.dch_sar.specs.Pdus.{Pdu, pdus}
use Rattle.dch_rlcpdu.specs.Um.{um_reading}
use Rattle.dch_rlcpdu.proofs.Splits.{reading_back}
use Rattle.dch_rlcum.specs.Handing.{AreRead, all_handed, handed_up, sent_from, view_of}
use Rattle.dch_rlcum.specs.History.{joined, sizes, text_of, texts_from}
use Rattle.dch_rlcum.specs.Receiving.{Receiving, after_pdu, opened as opened_receiving}
use Rattle.dch_rlcum.proofs.Handed.{known_handed, pdus_read}
use Rattle.dch_layer2.specs.UnitLines.{unit_lines}
use Rattle.dch_linkcmd.specs.Checks.{IsSublist}
use Rattle.dch_runlaw.specs.History.{is_mine}
use Rattle.dch_runlaw.specs.UmHistory.{IsKnownHistory, IsUmHistory, arriving, lines_all, lines_one, pdu_in, pdus_in, receives_one}
use Rattle.dch_runlaw.specs.Worlds.{IsFaithful, Log, World}
use Rattle.dch_runlaw.proofs.Names.{other_number, same_number}
use Rattle.dch_runlaw.proofs.Sublists.{sub_filter}
use Rattle.dch_runlaw.proofs.BlocksTaken.{units-append}

-- some of these PDUs, in order
abbrev pub SomeOf : List (List ℕ) → List (List ℕ) → Type 0
SomeOf [] ys = Unit {0}
SomeOf (x ∷ xs) [] = ⊥
SomeOf (x ∷ xs) (y ∷ ys) = ((x ≡ y) × SomeOf xs ys) ⊎ SomeOf (x ∷ xs) ys

some_map : (f : List Bit → List ℕ) (xs ys : List (List Bit)) → IsSublist xs ys → SomeOf (map f xs) (map f ys)
some_map f [] ys h = tt
some_map f (x ∷ xs) [] h = absurd h
some_map f (x ∷ xs) (y ∷ ys) h = ⊎_elim (λ (p : (x ≡ y) × IsSublist xs ys). inl (ap f p.0, some_map f xs ys p.1)) (λ (p : IsSublist (x ∷ xs) ys). inr (some_map f (x ∷ xs) ys p)) h

-- places below k don't matter
later_same : (a c : ℕ → Bool) (k : ℕ) (ps : List (List ℕ)) → ((j : ℕ) → k ≤ j → a j ≡ c j) → arriving a k ps ≡ arriving c k ps
later_same a c k [] same = refl
later_same a c k (p ∷ ps) same = ap₂ (λ t l. cond t (p ∷ l) l) (same k (omega arith)) (later_same a c (k + 1) ps (λ j l. same j (omega (arith, l))))

-- a test of places from k on
abbrev put : ℕ → Bool → (ℕ → Bool) → ℕ → Bool
put k t a j = cond (j == k) t (a j)

put_later : (k : ℕ) (t : Bool) (a : ℕ → Bool) (j : ℕ) → k + 1 ≤ j → put k t a j ≡ a j
put_later k t a j l =
    let differ : (j == k) ≡ false = other_number j k (λ e. absurd (omega (arith, l, e))) in
    rw differ refl

put_here : (k : ℕ) (t : Bool) (a : ℕ → Bool) → put k t a k ≡ t
put_here k t a = rw (same_number k k refl) refl

-- the PDUs that came, as some of those that were sent
record Found (pdu : ℕ) (units : List (List ℕ)) (k : ℕ) (ps : List Pdu) (came : List (List ℕ)) : Type 0 where
  arrives : ℕ → Bool
  came_is : arriving arrives k (texts_from pdu units k ps) ≡ came

missed : (pdu : ℕ) (units : List (List ℕ)) (k : ℕ) (p : Pdu) (ps : List Pdu) (came : List (List ℕ)) → Found pdu units (k + 1) ps came → Found pdu units k (p ∷ ps) came
missed pdu units k p ps came f = record {
  arrives = put k false f.arrives;
  came_is = rw (put_here k false f.arrives) (later_same (put k false f.arrives) f.arrives (k + 1) (texts_from pdu units (k + 1) ps) (λ j l. put_later k false f.arrives j l) ∙ f.came_is);
}

found : (pdu : ℕ) (units : List (List ℕ)) (k : ℕ) (ps : List Pdu) (came : List (List ℕ)) → SomeOf came (texts_from pdu units k ps) → Found pdu units k ps came
found pdu units k [] [] h = record { arrives = λ j. false; came_is = refl }
found pdu units k [] (x ∷ came) h = absurd h
found pdu units k (p ∷ ps) [] h = missed pdu units k p ps [] (found pdu units (k + 1) ps [] tt)
found pdu units k (p ∷ ps) (x ∷ came) h = ⊎_elim
    (λ (q : (x ≡ text_of pdu units k p) × SomeOf came (texts_from pdu units (k + 1) ps)). here q.0 (found pdu units (k + 1) ps came q.1))
    (λ (q : SomeOf (x ∷ came) (texts_from pdu units (k + 1) ps)). missed pdu units k p ps (x ∷ came) (found pdu units (k + 1) ps (x ∷ came) q))
    h
  where
    here : x ≡ text_of pdu units k p → Found pdu units (k + 1) ps came → Found pdu units k (p ∷ ps) (x ∷ came)
    here is f = record {
      arrives = put k true f.arrives;
      came_is = rw (put_here k true f.arrives) (ap₂ (λ y l. y ∷ l) (sym is) (later_same (put k true f.arrives) f.arrives (k + 1) (texts_from pdu units (k + 1) ps) (λ j l. put_later k true f.arrives j l) ∙ f.came_is));
    }

-- whichever of those that were sent arrive, the lines are those of the units that are handed up then
arrived_lines : (dir : Dir) (b pdu : ℕ) (units : List (List ℕ)) (k : ℕ) (before : Bool) (ps : List Pdu) (arrives : ℕ → Bool) (r : Receiving) → AreRead pdu units k ps → lines_all dir b (arriving arrives k (texts_from pdu units k ps)) r ≡ unit_lines dir b (handed_up pdu (joined units) k r (sent_from arrives k before ps))
arrived_lines dir b pdu units k before [] arrives r read = refl
arrived_lines dir b pdu units k before (p ∷ ps) arrives r read =
    by (arrives k) (arrived_lines dir b pdu units (k + 1) true ps arrives (all_handed (after_pdu (view_of pdu (joined units) k p) r)) read.1) (arrived_lines dir b pdu units (k + 1) false ps arrives r read.1)
  where
    x : List ℕ
    x = text_of pdu units k p

    now : Receiving
    now = after_pdu (view_of pdu (joined units) k p) r

    later : List (List ℕ)
    later = arriving arrives (k + 1) (texts_from pdu units (k + 1) ps)

    view : um_reading x ≡ Ok (view_of pdu (joined units) k p)
    view = reading_back x (view_of pdu (joined units) k p) read.0

    there : List (List ℕ)
    there = handed_up pdu (joined units) (k + 1) (all_handed now) (sent_from arrives (k + 1) true ps)

    away : List (List ℕ)
    away = handed_up pdu (joined units) (k + 1) r (sent_from arrives (k + 1) false ps)

    by : (t : Bool) → lines_all dir b later (all_handed now) ≡ unit_lines dir b there → lines_all dir b later r ≡ unit_lines dir b away
        → lines_all dir b (cond t (x ∷ later) later) r ≡ unit_lines dir b (handed_up pdu (joined units) k r (record { pdu = p; arrived = t; before = before } ∷ sent_from arrives (k + 1) t ps))
    by true one other =
        ap (λ v. lines_one dir b v r ++ lines_all dir b later (receives_one v r)) view ∙ ap (λ l. unit_lines dir b now.waiting ++ l) one ∙ sym (units-append dir b now.waiting there)
    by false one other = other

-- the PDUs of a part, and those of two parts
pub some_in : (config : Config) (out : Dir) (b i : ℕ) (log : Log) → IsFaithful log → SomeOf (pdus_in config out b i log.taken) (pdus_in config out b i log.given)
some_in config out b i log faithful = some_map (pdu_in config out b) (filter (is_mine config out b i) log.taken) (filter (is_mine config out b i) log.given) (sub_filter (is_mine config out b i) log.taken log.given faithful)

some_more : (ys us vs : List (List ℕ)) → SomeOf ys vs → SomeOf ys (us ++ vs)
some_more [] us vs k = tt
some_more (y ∷ ys) [] vs k = k
some_more (y ∷ ys) (u ∷ us) vs k = inr (some_more (y ∷ ys) us vs k)

some-append : (xs ys us vs : List (List ℕ)) → SomeOf xs us → SomeOf ys vs → SomeOf (xs ++ ys) (us ++ vs)
some-append [] ys us vs h k = some_more ys us vs k
some-append (x ∷ xs) ys [] vs h k = absurd h
some-append (x ∷ xs) ys (u ∷ us) vs h k = ⊎_elim (λ (q : (x ≡ u) × SomeOf xs us). inl (q.0, some-append xs ys us vs q.1 k)) (λ (q : SomeOf (x ∷ xs) us). inr (some-append (x ∷ xs) ys us vs q k)) h

pub known_history : (config : Config) (out : Dir) (b i : ℕ) (g t : List (List ℕ)) (w : World) → IsUmHistory config out b i g t w → SomeOf t g → IsFaithful (w.out i) → IsKnownHistory config out b i g t w
known_history config out b i g t w h before faithful =
    let s = h.near.sends in
    let came : List (List ℕ) = t ++ pdus_in config out b i (w.out i).taken in
    let read = pdus_read s.sending.pdu s.sending.mark_start s.accepted s.cuts h.near.sender.from h.near.sender.most h.near.units h.near.sender.rising in
    let some : SomeOf came (g ++ pdus_in config out b i (w.out i).given) = some-append t (pdus_in config out b i (w.out i).taken) g (pdus_in config out b i (w.out i).given) before (some_in config out b i (w.out i) faithful) in
    let ps : List Pdu = pdus (s.sending.pdu - 1) s.sending.mark_start (sizes s.accepted) s.cuts in
    let f = found s.sending.pdu s.accepted 0 ps came (subst (SomeOf came) h.near.given some) in
    record {
      near = h.near;
      came = came;
      all = refl;
      some = (f.arrives, f.came_is);
      lines = λ arrives is few.
          h.far.lines ∙ ap (λ l. lines_all out b l opened_receiving) (sym is) ∙ arrived_lines out b s.sending.pdu s.accepted 0 true ps arrives opened_receiving read
          ∙ ap (unit_lines out b) (known_handed s.sending.pdu s.sending.mark_start s.accepted s.cuts arrives h.near.sender.from h.near.sender.most h.near.units h.near.sender.rising few);
    }

-- over two parts
pub known_over : (first second : Config) (out : Dir) (b i j : ℕ) (mid w : World) → IsUmHistory second out b j (pdus_in first out b i (mid.out i).given) (pdus_in first out b i (mid.out i).taken) w → IsFaithful (mid.out i) → IsFaithful (w.out j) → IsKnownHistory second out b j (pdus_in first out b i (mid.out i).given) (pdus_in first out b i (mid.out i).taken) w
known_over first second out b i j mid w h before faithful = known_history second out b j (pdus_in first out b i (mid.out i).given) (pdus_in first out b i (mid.out i).taken) w h (some_in first out b i (mid.out i) before) faithful
