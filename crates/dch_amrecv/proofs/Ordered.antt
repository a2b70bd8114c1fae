-- PDUs are read from the front of a line one after another.
use Rattle.std.proofs.Common.{◌≡◌, ◌+◌, ◌-◌, ◌<◌, ◌≤◌, ℕ, zero, suc, List, [], ◌∷◌, Bool, true, false, Option, Some, None, length, take, drop, slice_get, arith, refl, sym, ap, ◌∙◌, min, ⊎_elim}
use Rattle.std.specs.Prelude.{◌==◌}
use Rattle.std.proofs.lemmas.Bool.{cases_lt}
use Rattle.std.proofs.lemmas.Bool.Decides.{nat_tests}
use Rattle.std.proofs.lemmas.List.{drop_all}
use Rattle.circular_buffer.specs.Buffer.{Buffer, buffer}
use Rattle.dch_am.specs.Bodies.{Body}
use Rattle.dch_am.specs.Receiver.{dead_pieces}
use Rattle.dch_amrecv.specs.Places.{front, is_kept, put}
use Rattle.dch_sar.specs.Taking.{Waiting, added, after_unit, ended, ended_units, dropped, handed_of, took_full, written}
use Rattle.dch_amrecv.specs.Reading.{took_one, took_pieces}
use Rattle.dch_amrecv.specs.Lines.{Kept, handed, line, read_front, run_on, took_run, trim_left, with_body}

-- one more unit waits in front
abbrev pub cons : List ℕ → Waiting → Waiting
cons w u = record { waiting = w ∷ u.waiting; part = u.part }

units_cons : (w : List ℕ) (ws : List (List ℕ)) (p : List ℕ) → ended_units (w ∷ ws) p ≡ w ∷ ended_units ws p
units_cons w ws [] = refl
units_cons w ws (x ∷ xs) = refl

ended_cons : (w : List ℕ) (u : Waiting) → ended (cons w u) ≡ cons w (ended u)
ended_cons w u = ap (λ (ws : List (List ℕ)). record { waiting = ws; part = [] }) (units_cons w u.waiting u.part)

pieces_cons : (ps : List (List ℕ)) (w : List ℕ) (u : Waiting) → took_pieces ps (cons w u) ≡ cons w (took_pieces ps u)
pieces_cons [] w u = refl
pieces_cons (p ∷ ps) w u = ap (took_pieces ps) (ended_cons w (added p u)) ∙ pieces_cons ps w (ended (added p u))

full_cons : (b : Bool) (w : List ℕ) (u : Waiting) → took_full b (cons w u) ≡ cons w (took_full b u)
full_cons true w u = ended_cons w u
full_cons false w u = refl

one_cons : (trim : Option ℕ) (b : Body) (w : List ℕ) (u : Waiting) → took_one trim b (cons w u) ≡ cons w (took_one trim b u)
one_cons None b w u = ap (λ v. added b.rest (took_pieces b.pieces v)) (full_cons b.full w u) ∙ ap (added b.rest) (pieces_cons b.pieces w (took_full b.full u))
one_cons (Some n) b w u = ap (added b.rest) (pieces_cons (drop (dead_pieces n b) b.pieces) w (dropped u))

pub run_cons : (trim : Option ℕ) (ps : List (Option Body)) (w : List ℕ) (u : Waiting) → took_run trim ps (cons w u) ≡ cons w (took_run trim ps u)
run_cons trim [] w u = refl
run_cons trim (None ∷ ps) w u = run_cons None ps w u
run_cons trim (Some b ∷ ps) w u = ap (took_run None ps) (one_cons trim b w u) ∙ run_cons None ps w (took_one trim b u)

-- the first unit that waits does so before and after the rest is read
pub first_same : {X : Type 0} (F : List (List ℕ) → X) → ((w : List ℕ) (vs ws : List (List ℕ)) → F (w ∷ vs) ≡ F (w ∷ ws)) → (n : ℕ) (b : Buffer (Option Body)) (trim : Option ℕ) (ws : List (List ℕ)) (p : List ℕ) → (ws ≡ [] → n ≡ 0) → F (read_front n (line b trim (record { waiting = ws; part = p }))).units.waiting ≡ F ws
first_same F same n b trim [] p idle = let none : n ≡ 0 = idle refl in ap (λ k. F (read_front k (line b trim (record { waiting = []; part = p }))).units.waiting) none
first_same F same n b trim (w ∷ ws) p idle = ap (λ (u : Waiting). F u.waiting) (run_cons trim (take n b.items) w (record { waiting = ws; part = p })) ∙ same w _ ws

pub handed_front : (n : ℕ) (b : Buffer (Option Body)) (trim : Option ℕ) (ws : List (List ℕ)) (p : List ℕ) → (ws ≡ [] → n ≡ 0) → read_front n (line b trim (after_unit (record { waiting = ws; part = p }))) ≡ handed (read_front n (line b trim (record { waiting = ws; part = p })))
handed_front n b trim [] p idle =
    let none : n ≡ 0 = idle refl in
    ap (λ k. read_front k (line b trim (record { waiting = []; part = p }))) none ∙ sym (ap (λ k. handed (read_front k (line b trim (record { waiting = []; part = p })))) none)
handed_front n b trim (w ∷ ws) p idle = sym (ap (λ (u : Waiting). record { places = drop n b.items; capacity = b.capacity; trim = trim_left trim (take n b.items); units = after_unit u }) (run_cons trim (take n b.items) w (record { waiting = ws; part = p })))

pub none_waits : (n : ℕ) (b : Buffer (Option Body)) (trim : Option ℕ) (ws : List (List ℕ)) (p : List ℕ) → (ws ≡ [] → n ≡ 0) → (read_front n (line b trim (record { waiting = ws; part = p }))).units.waiting ≡ [] → n ≡ 0
none_waits n b trim [] p idle e = idle refl
none_waits n b trim (w ∷ ws) p idle e = let f : (cons w (took_run trim (take n b.items) (record { waiting = ws; part = p }))).waiting ≡ [] = ap (λ (u : Waiting). u.waiting) (sym (run_cons trim (take n b.items) w (record { waiting = ws; part = p }))) ∙ e in absurd (cc)

trim_none : (ps : List (Option Body)) → trim_left None ps ≡ None
trim_none [] = refl
trim_none (p ∷ ps) = refl

-- one PDU is read
pub read_one : (k capacity : ℕ) (items : List (Option Body)) (b : Body) (trim : Option ℕ) (u : Waiting) → slice_get items 0 ≡ Some (Some b) → read_front k (line (buffer (drop 1 items) capacity) None (took_one trim b u)) ≡ read_front (suc k) (line (buffer items capacity) trim u)
read_one k capacity [] b trim u e = absurd (cc)
read_one k capacity (p ∷ items) b trim u e =
    let s : p ≡ Some b = cc in
    ap (λ t. record { places = drop k items; capacity = capacity; trim = t; units = took_run None (take k items) (took_one trim b u) }) (trim_none (take k items))
    ∙ sym (ap (λ q. read_front (suc k) (line (buffer (q ∷ items) capacity) trim u)) s)

pub front_first : {A : Type 0} (k : ℕ) (ps : List (Option A)) → suc k ≤ front ps → is_kept ps 0 ≡ true
front_first k [] l = absurd (omega arith)
front_first k (None ∷ ps) l = absurd (omega arith)
front_first k (Some x ∷ ps) l = refl

pub front_rest : {A : Type 0} (k : ℕ) (ps : List (Option A)) → suc k ≤ front ps → k ≤ front (drop 1 ps)
front_rest k [] l = absurd (omega arith)
front_rest k (None ∷ ps) l = absurd (omega arith)
front_rest k (Some x ∷ ps) l = omega arith

pub front_end : {A : Type 0} (ps : List (Option A)) → front (drop (front ps) ps) ≡ 0
front_end [] = refl
front_end (None ∷ ps) = refl
front_end (Some x ∷ ps) = front_end ps

-- so many have been read, and the line is as it was
pub record Same (todo : ℕ) (first : Buffer (Option Body)) (trim : Option ℕ) (units : Waiting) (left : ℕ) (now : Buffer (Option Body)) (next : Option ℕ) (u : Waiting) : Type 0 where
  pub same : read_front left (line now next u) ≡ read_front todo (line first trim units)
  pub within : left ≤ front now.items
  pub capacity : now.capacity ≡ first.capacity

pub same_none : (todo : ℕ) (first : Buffer (Option Body)) (trim : Option ℕ) (units : Waiting) → todo ≤ front first.items → Same todo first trim units (todo - 0) first trim units
same_none todo first trim units l = let all : todo - 0 ≡ todo = omega arith in record { same = ap (λ k. read_front k (line first trim units)) all; within = omega arith; capacity = refl }

pub same_more : (todo : ℕ) (first : Buffer (Option Body)) (trim : Option ℕ) (units : Waiting) (done : ℕ) (now : Buffer (Option Body)) (next : Option ℕ) (u : Waiting) (b : Body) → done < todo → slice_get now.items 0 ≡ Some (Some b) → Same todo first trim units (todo - done) now next u → Same todo first trim units (todo - (done + 1)) (buffer (drop 1 now.items) now.capacity) None (took_one next b u)
same_more todo first trim units done now next u b l e s =
    let left : todo - done ≡ suc (todo - (done + 1)) = omega arith in
    record {
      same = read_one (todo - (done + 1)) now.capacity now.items b next u e ∙ (ap (λ k. read_front k (line now next u)) (sym left) ∙ s.same);
      within = front_rest (todo - (done + 1)) now.items (omega (arith, left, s.within));
      capacity = s.capacity;
    }

-- where no unit waits, nothing is left to be read
pub idle_is : (todo : ℕ) (w : Buffer (Option Body)) (trim : Option ℕ) (u : Waiting) (now : Kept) → read_front todo (line w trim u) ≡ now → (u.waiting ≡ [] → todo ≡ 0) → now.units.waiting ≡ [] → (todo ≡ 0) × (line w trim u ≡ now)
idle_is todo w trim u now view idle e =
    let none : todo ≡ 0 = none_waits todo w trim u.waiting u.part idle (ap (λ (k : Kept). k.units.waiting) view ∙ e) in
    (none, ap (λ k. read_front k (line w trim u)) (sym none) ∙ view)

some_wait : (n : ℕ) → (suc n == 0) ≡ false
some_wait n = grind (arith, nat_tests)

pub settled_same : (todo : ℕ) (w : Buffer (Option Body)) (trim : Option ℕ) (u : Waiting) → (u.waiting ≡ [] → todo ≡ 0) → (length (read_front todo (line w trim u)).units.waiting == 0) ≡ (length u.waiting == 0)
settled_same todo w trim u idle = first_same (λ ws. length ws == 0) (λ x vs ws. some_wait (length vs) ∙ sym (some_wait (length ws))) todo w trim u.waiting u.part idle

pub answer_same : (todo : ℕ) (w : Buffer (Option Body)) (trim : Option ℕ) (u : Waiting) → (u.waiting ≡ [] → todo ≡ 0) → handed_of (read_front todo (line w trim u)).units.waiting ≡ handed_of u.waiting
answer_same todo w trim u idle = first_same handed_of (λ x vs ws. refl) todo w trim u.waiting u.part idle

pub written_same : (todo : ℕ) (w : Buffer (Option Body)) (trim : Option ℕ) (u : Waiting) (out : List ℕ) → (u.waiting ≡ [] → todo ≡ 0) → written (read_front todo (line w trim u)).units.waiting out ≡ written u.waiting out
written_same todo w trim u out idle = first_same (λ ws. written ws out) (λ x vs ws. refl) todo w trim u.waiting u.part idle

pub handed_same : (todo : ℕ) (w : Buffer (Option Body)) (trim : Option ℕ) (u : Waiting) → (u.waiting ≡ [] → todo ≡ 0) → read_front todo (line w trim (after_unit u)) ≡ handed (read_front todo (line w trim u))
handed_same todo w trim u idle = handed_front todo w trim u.waiting u.part idle

pub drop_least : {A : Type 0} (n m : ℕ) (xs : List A) → m ≡ min n (length xs) → drop m xs ≡ drop n xs
drop_least n m xs e = ⊎_elim
    (λ (l : n < length xs). ap (λ k. drop k xs) (omega arith))
    (λ (l : length xs ≤ n). drop_all m xs (omega arith) ∙ sym (drop_all n xs l))
    (cases_lt n (length xs))

-- the expected PDU is read, and leaves
pub first_kept : (items : List (Option Body)) (capacity : ℕ) (b : Body) (trim : Option ℕ) (u : Waiting) → read_front (front (drop 1 items)) (line (buffer (drop 1 items) capacity) None (took_one trim b u)) ≡ run_on (with_body 0 b (line (buffer items capacity) trim u))
first_kept [] capacity b trim u = read_one 0 capacity (Some b ∷ []) b trim u refl
first_kept (p ∷ items) capacity b trim u = read_one (front items) capacity (Some b ∷ items) b trim u refl

pub first_front : (items : List (Option Body)) (b : Body) → front (put 0 b items) ≡ front (drop 1 items) + 1
first_front [] b = refl
first_front (p ∷ items) b = omega arith

-- behind a gap nothing is read
pub later_front : (i : ℕ) (items : List (Option Body)) (b : Body) → 0 < i → front items ≡ 0 → front (put i b items) ≡ 0
later_front zero items b some none = absurd (omega arith)
later_front (suc i) [] b some none = refl
later_front (suc i) (None ∷ items) b some none = refl
later_front (suc i) (Some x ∷ items) b some none = absurd (omega arith)

pub later_kept : (i : ℕ) (items : List (Option Body)) (capacity : ℕ) (b : Body) (trim : Option ℕ) (u : Waiting) → 0 < i → front items ≡ 0 → line (buffer (put i b items) capacity) trim u ≡ run_on (with_body i b (line (buffer items capacity) trim u))
later_kept i items capacity b trim u some none =
    let no : 0 ≡ front (put i b items) = sym (later_front i items b some none) in
    ap (λ k. read_front k (with_body i b (line (buffer items capacity) trim u))) no

-- where no unit waits, what is kept is what stands in the window
pub record Idle (todo : ℕ) (w : Buffer (Option Body)) (trim : Option ℕ) (u : Waiting) (now : Kept) : Type 0 where
  pub none : todo ≡ 0
  pub same : line w trim u ≡ now
  pub gap : front w.items ≡ 0
  pub waiting : u.waiting ≡ []

pub idle_so : (todo : ℕ) (w : Buffer (Option Body)) (trim : Option ℕ) (u : Waiting) (now : Kept) → read_front todo (line w trim u) ≡ now → (u.waiting ≡ [] → todo ≡ 0) → front (drop todo w.items) ≡ 0 → now.units.waiting ≡ [] → Idle todo w trim u now
idle_so todo w trim u now view idle gap e =
    let is = idle_is todo w trim u now view idle e in
    record {
      none = is.0;
      same = is.1;
      gap = ap (λ k. front (drop k w.items)) (sym is.0) ∙ gap;
      waiting = ap (λ (k : Kept). k.units.waiting) is.1 ∙ e;
    }
