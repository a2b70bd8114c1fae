-- Two ends after what is done at one of them, with the blocks in flight.
use Rattle.std.proofs.Common.{◌≡◌, ◌+◌, ◌<◌, ◌≤◌, ℕ, zero, suc, List, [], ◌∷◌, ◌++◌, Bool, true, false, cond, Option, Some, None, is_some, Result, Ok, Err, IfOk, is_ok, length, get_or, take, drop, arith, refl, sym, ap, subst}
use Rattle.std.proofs.lemmas.List.Elements.{All-push}
use Rattle.dch_am.specs.Rules.{Rules}
use Rattle.dch_pair.specs.Running.{rules_in}
use Rattle.dch_pair.specs.declared.setup.PairSetup.{PairSetup}
use Rattle.dch_reset.specs.Ends.{At, Arrive, Build, Lose, ResetEnd, ResetPair, Sent, after, arrives, builds, happens, happens_near, hears, loses, opened, sends, turned}
use Rattle.dch_reset.specs.Running.{history, pair_after, seen}
use Rattle.dch_reset.specs.declared.setup.ResetEvent.{ResetEvent}
use Rattle.dch_reset.specs.RunStanding.{AreRead, AreRunning, Fit, IsPeer, IsRead, IsSent, Peer}

-- a block is put behind the others, or the first one goes
read-push : (bs : List (List ℕ)) (ss : List Sent) (b : List ℕ) (s : Sent) → AreRead bs ss → IsRead b s → AreRead (bs ++ b ∷ []) (ss ++ s ∷ [])
read-push [] [] b s f is = (is, tt)
read-push [] (x ∷ ss) b s f is = absurd f
read-push (c ∷ bs) [] b s f is = absurd f
read-push (c ∷ bs) (x ∷ ss) b s f is = (f.0, read-push bs ss b s f.1 is)

-- a block that was pushed
pub push_fits : (size : ℕ) (ok : Bool) (bs : List (List ℕ)) (b : List ℕ) → Fit size bs → length b ≤ size → Fit size (cond ok (bs ++ b ∷ []) bs)
push_fits size true bs b f le = All-push (λ x. length x ≤ size) bs b f le
push_fits size false bs b f le = f

pub pushed : {T E : Type 0} → (r : Result T E) (now bs : List (List ℕ)) (b : List ℕ) → now ≡ cond (is_ok r) (bs ++ b ∷ []) bs → IfOk r (λ _. now ≡ bs ++ b ∷ [])
pushed (Ok x) now bs b e = e
pushed (Err x) now bs b e = tt

-- a block was sent
pub meets_block : (rules : Rules) (near now far : Peer) (out back : List (List ℕ)) (block : List ℕ) (p : ResetPair) → AreRunning rules near far out back p → IsSent block (builds rules p.near).sent → IsPeer rules now (builds rules p.near).after → AreRunning rules now far (out ++ block ∷ []) back (happens_near rules p Build)
meets_block rules near now far out back block p is sent peer = go (builds rules p.near).sent sent
  where
    go : (o : Option Sent) → IsSent block o → AreRunning rules now far (out ++ block ∷ []) back (sends p (record { after = (builds rules p.near).after; sent = o }))
    go None s = absurd s
    go (Some s) r = record { near = peer; far = is.far; out = read-push out p.out block s is.out r; back = is.back }

-- nothing was due
pub meets_none : (rules : Rules) (near now far : Peer) (out back : List (List ℕ)) (p : ResetPair) → AreRunning rules near far out back p → false ≡ is_some (builds rules p.near).sent → IsPeer rules now (builds rules p.near).after → AreRunning rules now far out back (happens_near rules p Build)
meets_none rules near now far out back p is none peer = go (builds rules p.near).sent none
  where
    go : (o : Option Sent) → false ≡ is_some o → AreRunning rules now far out back (sends p (record { after = (builds rules p.near).after; sent = o }))
    go None s = record { near = peer; far = is.far; out = is.out; back = is.back }
    go (Some s) r = absurd (cc)

-- the first block arrives, and there is none
pub meets_arrival : (rules : Rules) (near now far : Peer) (out back : List (List ℕ)) (block : List ℕ) (p : ResetPair) → AreRunning rules near far out (block ∷ back) p → ((s : Sent) → IsRead block s → IsPeer rules now (hears rules p.near s)) → AreRunning rules now far out back (happens_near rules p Arrive)
meets_arrival rules near now far out back block p is does = go p.back refl
  where
    go : (line : List Sent) → p.back ≡ line → AreRunning rules now far out back (arrives rules p line)
    go [] e = absurd (subst (AreRead (block ∷ back)) e is.back)
    go (s ∷ line) e =
        let f : AreRead (block ∷ back) (s ∷ line) = subst (AreRead (block ∷ back)) e is.back in
        record { near = does s f.0; far = is.far; out = is.out; back = f.1 }

pub meets_no_arrival : (rules : Rules) (near far : Peer) (out : List (List ℕ)) (p : ResetPair) → AreRunning rules near far out [] p → AreRunning rules near far out [] (happens_near rules p Arrive)
meets_no_arrival rules near far out p is = go p.back refl
  where
    go : (line : List Sent) → p.back ≡ line → AreRunning rules near far out [] (arrives rules p line)
    go [] e = is
    go (s ∷ line) e = absurd (subst (AreRead []) e is.back)

-- it is lost
pub meets_loss : (rules : Rules) (near far : Peer) (out back : List (List ℕ)) (p : ResetPair) → AreRunning rules near far out back p → AreRunning rules near far out (drop 1 back) (happens_near rules p Lose)
meets_loss rules near far out back p is = go back p.back refl is.back
  where
    go : (bs : List (List ℕ)) (line : List Sent) → p.back ≡ line → AreRead bs line → AreRunning rules near far out (drop 1 bs) (loses p line)
    go [] [] e f = record { near = is.near; far = is.far; out = is.out; back = subst (AreRead []) (sym e) tt }
    go [] (s ∷ line) e f = absurd f
    go (b ∷ bs) [] e f = absurd f
    go (b ∷ bs) (s ∷ line) e f = record { near = is.near; far = is.far; out = is.out; back = f.1 }

-- the near end is another one, and nothing else
pub meets_near : (rules : Rules) (near now far : Peer) (out back : List (List ℕ)) (p : ResetPair) (e : ResetEnd) → AreRunning rules near far out back p → IsPeer rules now e → AreRunning rules now far out back (record { near = e; far = p.far; out = p.out; back = p.back })
meets_near rules near now far out back p e is peer = record { near = peer; far = is.far; out = is.out; back = is.back }

pub running_turned : (rules : Rules) (near far : Peer) (out back : List (List ℕ)) (p : ResetPair) → AreRunning rules near far out back p → AreRunning rules far near back out (turned p)
running_turned rules near far out back p is = record { near = is.far; far = is.near; out = is.back; back = is.out }

-- a history goes on by one event
after-append : (rules : Rules) (p : ResetPair) (xs ys : List At) → after rules p (xs ++ ys) ≡ after rules (after rules p xs) ys
after-append rules p [] ys = refl
after-append rules p (x ∷ xs) ys = after-append rules (happens rules p x) xs ys

history-next : (octets : List ℕ) (events : List ResetEvent) (i : ℕ) (d : ResetEvent) → i < length events → history octets (take (i + 1) events) ≡ history octets (take i events) ++ seen octets (get_or events i d) ∷ []
history-next octets [] i d l = absurd (omega arith)
history-next octets (x ∷ events) zero d l = refl
history-next octets (x ∷ events) (suc i) d l =
    let n : suc i + 1 ≡ suc (i + 1) = omega arith in
    rw n (ap (λ es. seen octets x ∷ es) (history-next octets events i d (omega arith)))

pub runs_on : (setup : PairSetup) (octets : List ℕ) (events : List ResetEvent) (i : ℕ) (d : ResetEvent) (near far : Peer) (out back : List (List ℕ)) → i < length events → AreRunning (rules_in setup) near far out back (happens (rules_in setup) (pair_after setup (history octets (take i events))) (seen octets (get_or events i d))) → AreRunning (rules_in setup) near far out back (pair_after setup (history octets (take (i + 1) events)))
runs_on setup octets events i d near far out back l is =
    subst (λ es. AreRunning (rules_in setup) near far out back (pair_after setup es)) (sym (history-next octets events i d l))
    (subst (AreRunning (rules_in setup) near far out back) (sym (after-append (rules_in setup) (opened (rules_in setup) setup.first_pdu setup.second_pdu) (history octets (take i events)) (seen octets (get_or events i d) ∷ []))) is)
