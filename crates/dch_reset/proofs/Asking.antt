-- The procedure of one end: where its RESETs and their answers stand.
use Rattle.std.proofs.Common.{◌≡◌, ℕ, List, [], ◌∷◌, ◌++◌, Bool, true, false, not, Option, Some, None, refl, sym, ap, ◌∙◌, subst, ⊎_elim}
use Rattle.std.proofs.lemmas.Bool.{both_ways}
use Rattle.dch_amlaw.specs.Pair.{Block}
use Rattle.dch_reset.specs.Ends.{Sent, Data, ResetPdu, ResetAckPdu, Pending, same_rsn, is_heard}
use Rattle.dch_reset.proofs.Lines.{AllHeard, NoAck, AcksEnd, NoData, Calm, Ends, same_itself, same_is, same_turned, not_other, other_not, heard-append, no_ack-append, acks_never, acks_end-append, no_data-append, ends-append, heard_ends, calm_heard, calm_still, heard_rest, no_ack_rest, acks_end_rest, no_data_rest, ends_rest}

-- it isn't pending, and its next RSN is new
pub record Idle (next : Bool) (h : Option Bool) (out back : List Sent) : Type 0 where
  pub fresh : is_heard h next ≡ false
  pub resets : AllHeard h out
  pub acks : NoAck next back

-- it is pending, and the other end has not heard its RESET
pub record Asking (r next : Bool) (h : Option Bool) (out back : List Sent) : Type 0 where
  pub next_is : next ≡ not r
  pub fresh : is_heard h r ≡ false
  pub resets : Ends r h out
  pub acks : NoAck r back

-- it is pending, and the other end has heard its RESET and restarted
pub record Answered (x r next : Bool) (h : Option Bool) (out back : List Sent) : Type 0 where
  pub same : x ≡ r
  pub next_is : next ≡ not r
  pub heard : h ≡ Some r
  pub resets : AllHeard h out
  pub still : NoData out
  pub acks : AcksEnd r back

-- its RESETs are in the first line, what the other end heard is h, and answers are in the second line; answered is its RSN where the
-- other end has heard it
abbrev pub Asks : Option Pending → Bool → Option Bool → Option Bool → List Sent → List Sent → Type 0
Asks None next h None out back = Idle next h out back
Asks None next h (Some r) out back = ⊥
Asks (Some p) next h None out back = Asking p.rsn next h out back
Asks (Some p) next h (Some r) out back = Answered p.rsn r next h out back

-- the same but for ticks
pub asks_tick : (r t : Bool) (rst_timer now : ℕ) (next : Bool) (h a : Option Bool) (out back : List Sent) → Asks (Some (record { rsn = r; rst_timer = rst_timer })) next h a out back → Asks (Some (record { rsn = r; rst_timer = now })) next h a out back
asks_tick r t rst_timer now next h None out back f = f
asks_tick r t rst_timer now next h (Some x) out back f = f

-- It builds a RESET, an answer to the other end, or data.
pub asks_reset : (p : Pending) (next : Bool) (h a : Option Bool) (out back : List Sent) (c : ℕ) → Asks (Some p) next h a out back → Asks (Some p) next h a (out ++ ResetPdu p.rsn c ∷ []) back
asks_reset p next h None out back c f = record { next_is = f.next_is; fresh = f.fresh; resets = ends-append p.rsn h out (ResetPdu p.rsn c ∷ []) f.resets (same_itself p.rsn, tt); acks = f.acks }
asks_reset p next h (Some r) out back c f = record { same = f.same; next_is = f.next_is; heard = f.heard; resets = heard-append h out (ResetPdu p.rsn c ∷ []) f.resets (ap (λ o. is_heard o p.rsn) f.heard ∙ ap (same_rsn r) f.same ∙ same_itself r, tt); still = no_data-append out (ResetPdu p.rsn c ∷ []) f.still tt; acks = f.acks }

pub asks_ack : (p : Option Pending) (next : Bool) (h a : Option Bool) (out back : List Sent) (x : Bool) (c : ℕ) → Asks p next h a out back → Asks p next h a (out ++ ResetAckPdu x c ∷ []) back
asks_ack None next h None out back x c f = record { fresh = f.fresh; resets = heard-append h out (ResetAckPdu x c ∷ []) f.resets tt; acks = f.acks }
asks_ack None next h (Some r) out back x c f = absurd f
asks_ack (Some p) next h None out back x c f = record { next_is = f.next_is; fresh = f.fresh; resets = ends-append p.rsn h out (ResetAckPdu x c ∷ []) f.resets tt; acks = f.acks }
asks_ack (Some p) next h (Some r) out back x c f = record { same = f.same; next_is = f.next_is; heard = f.heard; resets = heard-append h out (ResetAckPdu x c ∷ []) f.resets tt; still = no_data-append out (ResetAckPdu x c ∷ []) f.still tt; acks = f.acks }

pub asks_data : (next : Bool) (h a : Option Bool) (out back : List Sent) (n : ℕ) (b : Block) → Asks None next h a out back → Asks None next h a (out ++ Data n b ∷ []) back
asks_data next h None out back n b f = record { fresh = f.fresh; resets = heard-append h out (Data n b ∷ []) f.resets tt; acks = f.acks }
asks_data next h (Some r) out back n b f = absurd f

-- The other end builds a RESET, an answer with what it has heard, or data.
pub asked_plain : (p : Option Pending) (next : Bool) (h a : Option Bool) (out back ys : List Sent) → ((r : Bool) → NoAck r ys) → Asks p next h a out back → Asks p next h a out (back ++ ys)
asked_plain None next h None out back ys g f = record { fresh = f.fresh; resets = f.resets; acks = no_ack-append next back ys f.acks (g next) }
asked_plain None next h (Some r) out back ys g f = absurd f
asked_plain (Some p) next h None out back ys g f = record { next_is = f.next_is; fresh = f.fresh; resets = f.resets; acks = no_ack-append p.rsn back ys f.acks (g p.rsn) }
asked_plain (Some p) next h (Some r) out back ys g f = record { same = f.same; next_is = f.next_is; heard = f.heard; resets = f.resets; still = f.still; acks = acks_end-append r back ys f.acks (g (not r)) }

pub asked_reset : (p : Option Pending) (next : Bool) (h a : Option Bool) (out back : List Sent) (x : Bool) (c : ℕ) → Asks p next h a out back → Asks p next h a out (back ++ ResetPdu x c ∷ [])
asked_reset p next h a out back x c f = asked_plain p next h a out back (ResetPdu x c ∷ []) (λ r. tt) f

pub asked_data : (p : Option Pending) (next : Bool) (h a : Option Bool) (out back : List Sent) (n : ℕ) (b : Block) → Asks p next h a out back → Asks p next h a out (back ++ Data n b ∷ [])
asked_data p next h a out back n b f = asked_plain p next h a out back (Data n b ∷ []) (λ r. tt) f

pub asked_ack : (p : Option Pending) (next x : Bool) (a : Option Bool) (out back : List Sent) (c : ℕ) → Asks p next (Some x) a out back → Asks p next (Some x) a out (back ++ ResetAckPdu x c ∷ [])
asked_ack None next x None out back c f = record { fresh = f.fresh; resets = f.resets; acks = no_ack-append next back (ResetAckPdu x c ∷ []) f.acks (same_turned next x ∙ f.fresh, tt) }
asked_ack None next x (Some r) out back c f = absurd f
asked_ack (Some p) next x None out back c f = record { next_is = f.next_is; fresh = f.fresh; resets = f.resets; acks = no_ack-append p.rsn back (ResetAckPdu x c ∷ []) f.acks (same_turned p.rsn x ∙ f.fresh, tt) }
asked_ack (Some p) next x (Some r) out back c f =
    let e : x ≡ r = some_is x r f.heard in
    record { same = f.same; next_is = f.next_is; heard = f.heard; resets = f.resets; still = f.still; acks = acks_end-append r back (ResetAckPdu x c ∷ []) f.acks (ap (same_rsn (not r)) e ∙ not_other r, tt) }
  where
    some_is : (x r : Bool) → Some x ≡ Some r → x ≡ r
    some_is x r e = cc

-- The front of a line goes, and changes nothing.
pub asks_rest : (p : Option Pending) (next : Bool) (h a : Option Bool) (f : Sent) (out back : List Sent) → Asks p next h a (f ∷ out) back → Asks p next h a out back
asks_rest None next h None f out back g = record { fresh = g.fresh; resets = heard_rest h f out g.resets; acks = g.acks }
asks_rest None next h (Some r) f out back g = absurd g
asks_rest (Some p) next h None f out back g = record { next_is = g.next_is; fresh = g.fresh; resets = ends_rest p.rsn h f out g.resets; acks = g.acks }
asks_rest (Some p) next h (Some r) f out back g = record { same = g.same; next_is = g.next_is; heard = g.heard; resets = heard_rest h f out g.resets; still = no_data_rest f out g.still; acks = g.acks }

pub asked_rest : (p : Option Pending) (next : Bool) (h a : Option Bool) (f : Sent) (out back : List Sent) → Asks p next h a out (f ∷ back) → Asks p next h a out back
asked_rest None next h None f out back g = record { fresh = g.fresh; resets = g.resets; acks = no_ack_rest next f back g.acks }
asked_rest None next h (Some r) f out back g = absurd g
asked_rest (Some p) next h None f out back g = record { next_is = g.next_is; fresh = g.fresh; resets = g.resets; acks = no_ack_rest p.rsn f back g.acks }
asked_rest (Some p) next h (Some r) f out back g = record { same = g.same; next_is = g.next_is; heard = g.heard; resets = g.resets; still = g.still; acks = acks_end_rest r f back g.acks }

-- It becomes pending.
pub asks_begins : (next : Bool) (h a : Option Bool) (out back : List Sent) → Asks None next h a out back → (a ≡ None) × Asks (Some (record { rsn = next; rst_timer = 0 })) (not next) h None out back
asks_begins next h None out back f = (refl, record { next_is = refl; fresh = f.fresh; resets = heard_ends next h out f.resets; acks = f.acks })
asks_begins next h (Some r) out back f = absurd f

-- Its RESET comes to the other end: it has been heard, or it is new and the other end restarts.
pub record IsNew (p : Option Pending) (next : Bool) (a : Option Bool) (x : Bool) (out back : List Sent) : Type 0 where
  pub none : a ≡ None
  pub answered : Asks p next (Some x) (Some x) out back
  pub still : NoData out
  pub unanswered : NoAck x back

pub reset_comes : (p : Option Pending) (next : Bool) (h a : Option Bool) (x : Bool) (c : ℕ) (out back : List Sent) → is_heard h x ≡ false → Asks p next h a (ResetPdu x c ∷ out) back → IsNew p next a x out back
reset_comes None next h None x c out back new f = absurd (both_ways _ new f.resets.0)
reset_comes None next h (Some r) x c out back new f = absurd f
reset_comes (Some p) next h None x c out back new f = ⊎_elim
    (λ (q : is_heard h x ≡ true). absurd (both_ways _ new q))
    (λ (q : (same_rsn p.rsn x ≡ true) × Calm p.rsn out).
    let e : x ≡ p.rsn = same_is p.rsn x q.0 in
    record {
      none = refl;
      answered = subst (λ y. Answered p.rsn y next (Some y) out back) (sym e) (record { same = refl; next_is = f.next_is; heard = refl; resets = calm_heard p.rsn out q.1; still = calm_still p.rsn out q.1; acks = acks_never p.rsn back f.acks });
      still = calm_still p.rsn out q.1;
      unanswered = subst (λ y. NoAck y back) (sym e) f.acks;
    })
    f.resets.0
reset_comes (Some p) next h (Some r) x c out back new f = absurd (both_ways _ new f.resets.0)

-- An answer comes with the RSN for which it is pending: it has been answered, and is idle then.
pub record IsAnswer (next : Bool) (h a : Option Bool) (x : Bool) (out back : List Sent) : Type 0 where
  pub some : a ≡ Some x
  pub idle : Asks None next h None out back

pub answer_comes : (p : Pending) (next : Bool) (h a : Option Bool) (x : Bool) (c : ℕ) (out back : List Sent) → same_rsn p.rsn x ≡ true → Asks (Some p) next h a out (ResetAckPdu x c ∷ back) → IsAnswer next h a x out back
answer_comes p next h None x c out back e f = absurd (both_ways _ f.acks.0 e)
answer_comes p next h (Some r) x c out back e f =
    let s : x ≡ r = same_is p.rsn x e ∙ f.same in
    let k : same_rsn r x ≡ true = ap (λ y. same_rsn y x) (sym f.same) ∙ e in
    record {
      some = ap (λ y. Some y) (sym s);
      idle = record {
        fresh = ap (λ o. is_heard o next) f.heard ∙ ap (same_rsn r) f.next_is ∙ other_not r;
        resets = f.resets;
        acks = subst (λ y. NoAck y back) (sym f.next_is) (f.acks.0 k);
      };
    }

pub never_idle : (next : Bool) (h a : Option Bool) (out back : List Sent) → Asks None next h a out back → a ≡ None
never_idle next h None out back f = refl
never_idle next h (Some r) out back f = absurd f
