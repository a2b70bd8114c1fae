-- An unacknowledged bearer over all runs of two ends.
use Rattle.std.proofs.Common.{◌≡◌, ℕ, List, [], ◌∷◌, ◌++◌, refl, sym, ap, ap₂, ◌∙◌, subst, append_assoc}
use Rattle.std.proofs.lemmas.List.{append-nil}
use Rattle.dch_bits.specs.declared.bit.Bit.{Bit}
use Rattle.dch_types.specs.declared.channel.Dir.{Dir}
use Rattle.dch_types.specs.declared.config.Config.{Config}
use Rattle.dch_rlcum.specs.Receiving.{opened as opened_receiving}
use Rattle.dch_rlcum.proofs.Histories.{sender_opened}
use Rattle.dch_layer2.specs.Bearings.{Unacknowledged, opened_mode}
use Rattle.dch_runlaw.specs.Doings.{Doing, given_by, taken_by}
use Rattle.dch_runlaw.specs.Lines.{lines_of}
use Rattle.dch_runlaw.specs.UmHistory.{Any, IsUmBearer, IsUmHistory, IsUmReceiver, IsUmSender, lines_all, pdus_in, receives}
use Rattle.dch_runlaw.specs.Worlds.{At, DoesAll, DoesNear, Far, HasChanged, Happens, Near, Runs, RunsInTwo, World, opened_world, turned}
use Rattle.dch_runlaw.proofs.BlocksTaken.{lines-append}
use Rattle.dch_runlaw.proofs.Um.{Sender, lines_all-append, pdus-append, receiver_does, receives-append, sender_does}

-- what a log has more, an end goes on by
sends_on : (config : Config) (out into : Dir) (b i : ℕ) (g : List (List ℕ)) (w new : World) (doing : Doing) → IsUmBearer config out b i → DoesNear config out into w doing new → IsUmSender config out b i g w.near (w.out i) → IsUmSender config out b i g new.near (new.out i)
sends_on config out into b i g w new doing is d s =
    let own = pdus_in config out b i (w.out i).given in
    let more = pdus_in config out b i (given_by config out w.near.layer doing new.near.layer i) in
    let before : Sender (g ++ own) (w.near.layer.bearings b) = record { sends = s.sends; receiving = s.receiving; is = s.bearing; sender = s.sender; units = s.units; given = s.given } in
    let after = sender_does config out into b i (g ++ own) w.near.layer new.near.layer doing d.lines is.apart is.channel is.least is.most d.does before in
    let log : pdus_in config out b i (new.out i).given ≡ pdus_in config out b i (w.out i).given ++ pdus_in config out b i (given_by config out w.near.layer doing new.near.layer i) = ap (λ l. pdus_in config out b i l.given) (d.out_log i) ∙ pdus-append config out b i (w.out i).given (given_by config out w.near.layer doing new.near.layer i) in
    record { sends = after.sends; receiving = after.receiving; bearing = after.is; sender = after.sender; units = after.units; given = ap (λ l. g ++ l) log ∙ sym (append_assoc g own more) ∙ after.given }

takes_on : (config : Config) (out into : Dir) (b i : ℕ) (t : List (List ℕ)) (w new : World) (doing : Doing) → IsUmBearer config into b i → DoesNear config out into w doing new → IsUmReceiver config into b i t w.near (w.back i) → IsUmReceiver config into b i t new.near (new.back i)
takes_on config out into b i t w new doing is d r =
    let own = pdus_in config into b i (w.back i).taken in
    let came = t ++ own in
    let more = pdus_in config into b i (taken_by doing i) in
    let after = receiver_does config out into b i r.sends (receives came opened_receiving) w.near.layer new.near.layer doing d.lines is.channel d.does r.bearing in
    let log : t ++ pdus_in config into b i (new.back i).taken ≡ came ++ more = ap (λ l. t ++ pdus_in config into b i l.taken) (d.back_log i) ∙ ap (λ l. t ++ l) (pdus-append config into b i (w.back i).taken (taken_by doing i)) ∙ sym (append_assoc t own more) in
    record {
      sends = after.sends;
      bearing = after.is ∙ ap (λ x. Unacknowledged after.sends x) (sym (receives-append came more opened_receiving) ∙ ap (λ l. receives l opened_receiving) (sym log));
      lines = ap (lines_of b) d.said ∙ lines-append b w.near.said d.lines ∙ ap₂ (λ x y. x ++ y) r.lines after.said ∙ sym (lines_all-append into b came more opened_receiving) ∙ ap (λ l. lines_all into b l opened_receiving) (sym log);
    }

-- the other end and the other log stay
near_does : (config : Config) (out into : Dir) (b i : ℕ) (g t : List (List ℕ)) (w new : World) (doing : Doing) → IsUmBearer config out b i → DoesNear config out into w doing new → IsUmHistory config out b i g t w → IsUmHistory config out b i g t new
near_does config out into b i g t w new doing is d h = record {
  near = sends_on config out into b i g w new doing is d h.near;
  far = subst (λ x. IsUmReceiver config out b i t x (new.out i)) (sym d.far) (subst (λ l. IsUmReceiver config out b i t w.far l) (sym (d.out_log i)) (record { sends = h.far.sends; bearing = h.far.bearing; lines = h.far.lines }));
}

far_does : (config : Config) (out into : Dir) (b i : ℕ) (g t : List (List ℕ)) (w new : World) (doing : Doing) → IsUmBearer config out b i → DoesNear config into out (turned w) doing (turned new) → IsUmHistory config out b i g t w → IsUmHistory config out b i g t new
far_does config out into b i g t w new doing is d h = record {
  near = subst (λ x. IsUmSender config out b i g x (new.out i)) (sym d.far) (subst (λ l. IsUmSender config out b i g w.near l) (sym (d.back_log i)) (record { sends = h.near.sends; receiving = h.near.receiving; bearing = h.near.bearing; sender = h.near.sender; units = h.near.units; given = h.near.given }));
  far = takes_on config into out b i t (turned w) (turned new) doing is d h.far;
}

near_all : (config : Config) (out into : Dir) (b i : ℕ) (g t : List (List ℕ)) (doings : List Doing) (w new : World) → IsUmBearer config out b i → DoesAll config out into w doings new → IsUmHistory config out b i g t w → IsUmHistory config out b i g t new
near_all config out into b i g t [] w new is d h = subst (IsUmHistory config out b i g t) (sym d) h
near_all config out into b i g t (doing ∷ doings) w new is d h = near_all config out into b i g t doings d.next new is d.later (near_does config out into b i g t w d.next doing is d.first h)

far_all : (config : Config) (out into : Dir) (b i : ℕ) (g t : List (List ℕ)) (doings : List Doing) (w new : World) → IsUmBearer config out b i → DoesAll config into out (turned w) doings (turned new) → IsUmHistory config out b i g t w → IsUmHistory config out b i g t new
far_all config out into b i g t [] w new is d h = subst (IsUmHistory config out b i g t) (sym (ap turned d)) h
far_all config out into b i g t (doing ∷ doings) w new is d h = far_all config out into b i g t doings (turned d.next) new is d.later (far_does config out into b i g t w (turned d.next) doing is d.first h)

happens_um : (config : Config) (out into : Dir) (b i : ℕ) (g t : List (List ℕ)) (event : At) (w new : World) → IsUmBearer config out b i → Happens config out into w event new → IsUmHistory config out b i g t w → IsUmHistory config out b i g t new
happens_um config out into b i g t (Near doings) w new is d h = near_all config out into b i g t doings w new is d h
happens_um config out into b i g t (Far doings) w new is d h = far_all config out into b i g t doings w new is d h

runs_um : (config : Config) (out into : Dir) (b i : ℕ) (g t : List (List ℕ)) (events : List At) (w new : World) → IsUmBearer config out b i → Runs config out into Any w events new → IsUmHistory config out b i g t w → IsUmHistory config out b i g t new
runs_um config out into b i g t [] w new is r h = subst (IsUmHistory config out b i g t) (sym r) h
runs_um config out into b i g t (event ∷ events) w new is r h = runs_um config out into b i g t events r.next new is r.later (happens_um config out into b i g t event w r.next is r.first h)

pub um_history : (config : Config) (out into : Dir) (b i : ℕ) (events : List At) (w : World) → IsUmBearer config out b i → Runs config out into Any (opened_world config out into) events w → IsUmHistory config out b i [] [] w
um_history config out into b i events w is r = runs_um config out into b i [] [] events (opened_world config out into) w is r (record {
  near = record {
    sends = _;
    receiving = opened_receiving;
    bearing = ap (opened_mode config out b) is.mode;
    sender = sender_opened _ _ _ is.least_size is.most_size;
    units = tt;
    given = refl;
  };
  far = record { sends = _; bearing = ap (opened_mode config into b) is.mode; lines = refl };
})

-- where both ends change, what was given and taken before counts on
abbrev before_in : Config → Dir → ℕ → ℕ → List (List ℕ) → List (List Bit) → List (List ℕ)
before_in config out b i before blocks = before ++ pdus_in config out b i blocks

pub um_changes : (first second : Config) (out into : Dir) (b i j : ℕ) (g t : List (List ℕ)) (w new : World) → HasChanged second out into w new → IsUmHistory first out b i g t w → IsUmHistory second out b j (before_in first out b i g (w.out i).given) (before_in first out b i t (w.out i).taken) new
um_changes first second out into b i j g t w new c h =
    let sent = before_in first out b i g (w.out i).given in
    let came = before_in first out b i t (w.out i).taken in
    let none_given : sent ++ pdus_in second out b j (new.out j).given ≡ sent = ap (λ l. sent ++ pdus_in second out b j l.given) (c.out_log j) ∙ append-nil sent in
    let none_taken : came ++ pdus_in second out b j (new.out j).taken ≡ came = ap (λ l. came ++ pdus_in second out b j l.taken) (c.out_log j) ∙ append-nil came in
    record {
      near = record { sends = h.near.sends; receiving = h.near.receiving; bearing = ap (λ s. s.layer.bearings b) c.near ∙ h.near.bearing; sender = h.near.sender; units = h.near.units; given = none_given ∙ h.near.given };
      far = record {
        sends = h.far.sends;
        bearing = ap (λ s. s.layer.bearings b) c.far ∙ h.far.bearing ∙ ap (λ l. Unacknowledged h.far.sends (receives l opened_receiving)) (sym none_taken);
        lines = ap (λ s. lines_of b s.said) c.far ∙ h.far.lines ∙ ap (λ l. lines_all out b l opened_receiving) (sym none_taken);
      };
    }

-- over two parts
pub um_over : (first second : Config) (out into : Dir) (b i j : ℕ) (earlier later : List At) (w : World) → IsUmBearer first out b i → IsUmBearer second out b j → (r : RunsInTwo first second out into Any Any earlier later w) → IsUmHistory second out b j (pdus_in first out b i (r.mid.out i).given) (pdus_in first out b i (r.mid.out i).taken) w
um_over first second out into b i j earlier later w is on r =
    runs_um second out into b j (pdus_in first out b i (r.mid.out i).given) (pdus_in first out b i (r.mid.out i).taken) later r.next w on r.behind
    (um_changes first second out into b i j [] [] r.mid r.next r.changes (um_history first out into b i earlier r.mid is r.before))
