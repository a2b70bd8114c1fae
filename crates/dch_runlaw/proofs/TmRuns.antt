-- A transparent bearer over all runs of two ends.
use Rattle.std.proofs.Common.{◌≡◌, ℕ, List, [], ◌∷◌, ◌++◌, refl, sym, ap, ap₂, ◌∙◌, subst, append_assoc}
use Rattle.std.proofs.lemmas.List.{append-nil}
use Rattle.dch_bits.specs.declared.bit.Bit.{Bit}
use Rattle.dch_types.specs.declared.channel.Dir.{Dir}
use Rattle.dch_types.specs.declared.config.Config.{Config}
use Rattle.dch_layer2.specs.Bearings.{opened_mode}
use Rattle.dch_runlaw.specs.Doings.{Doing, given_by, taken_by}
use Rattle.dch_runlaw.specs.Lines.{lines_of}
use Rattle.dch_runlaw.specs.TmHistory.{IsTmBearer, IsTmHistory, IsTmReceiver, IsTmSender, bits_lines, units_in}
use Rattle.dch_runlaw.specs.UmHistory.{Any}
use Rattle.dch_runlaw.specs.Worlds.{At, DoesAll, DoesNear, Far, HasChanged, Happens, Near, Runs, RunsInTwo, World, opened_world, turned}
use Rattle.dch_runlaw.proofs.BlocksTaken.{lines-append}
use Rattle.dch_runlaw.proofs.Tm.{Sender, bits-append, receiver_does, sender_does, tm_units-append}

-- what a log has more, an end goes on by
sends_on : (config : Config) (out into : Dir) (b i : ℕ) (g : List (List Bit)) (w new : World) (doing : Doing) → IsTmBearer config out b i → DoesNear config out into w doing new → IsTmSender config out b i g w.near (w.out i) → IsTmSender config out b i g new.near (new.out i)
sends_on config out into b i g w new doing is d s =
    let own = units_in config out b i (w.out i).given in
    let more = units_in config out b i (given_by config out w.near.layer doing new.near.layer i) in
    let before : Sender (g ++ own) (w.near.layer.bearings b) = record { waiting = s.waiting; accepted = s.accepted; is = s.bearing; given = s.given } in
    let after = sender_does config out into b i (g ++ own) w.near.layer new.near.layer doing d.lines is.apart is.channel is.least is.most d.does before in
    let log : units_in config out b i (new.out i).given ≡ units_in config out b i (w.out i).given ++ units_in config out b i (given_by config out w.near.layer doing new.near.layer i) = ap (λ l. units_in config out b i l.given) (d.out_log i) ∙ tm_units-append config out b i (w.out i).given (given_by config out w.near.layer doing new.near.layer i) in
    record { waiting = after.waiting; accepted = after.accepted; bearing = after.is; given = after.given ∙ ap (λ l. l ++ after.waiting.units) (append_assoc g own more ∙ ap (λ l. g ++ l) (sym log)) }

takes_on : (config : Config) (out into : Dir) (b i : ℕ) (t : List (List Bit)) (w new : World) (doing : Doing) → IsTmBearer config into b i → DoesNear config out into w doing new → IsTmReceiver config into b i t w.near (w.back i) → IsTmReceiver config into b i t new.near (new.back i)
takes_on config out into b i t w new doing is d r =
    let own = units_in config into b i (w.back i).taken in
    let came = t ++ own in
    let more = units_in config into b i (taken_by doing i) in
    let after = receiver_does config out into b i r.waiting r.accepted w.near.layer new.near.layer doing d.lines is.channel d.does r.bearing in
    let log : t ++ units_in config into b i (new.back i).taken ≡ came ++ more = ap (λ l. t ++ units_in config into b i l.taken) (d.back_log i) ∙ ap (λ l. t ++ l) (tm_units-append config into b i (w.back i).taken (taken_by doing i)) ∙ sym (append_assoc t own more) in
    record {
      waiting = after.waiting;
      accepted = after.accepted;
      bearing = after.is;
      lines = ap (lines_of b) d.said ∙ lines-append b w.near.said d.lines ∙ ap₂ (λ x y. x ++ y) r.lines after.said ∙ sym (bits-append into b came more) ∙ ap (bits_lines into b) (sym log);
    }

-- the other end and the other log stay
near_does : (config : Config) (out into : Dir) (b i : ℕ) (g t : List (List Bit)) (w new : World) (doing : Doing) → IsTmBearer config out b i → DoesNear config out into w doing new → IsTmHistory config out b i g t w → IsTmHistory config out b i g t new
near_does config out into b i g t w new doing is d h = record {
  near = sends_on config out into b i g w new doing is d h.near;
  far = subst (λ x. IsTmReceiver config out b i t x (new.out i)) (sym d.far) (subst (λ l. IsTmReceiver config out b i t w.far l) (sym (d.out_log i)) (record { waiting = h.far.waiting; accepted = h.far.accepted; bearing = h.far.bearing; lines = h.far.lines }));
}

far_does : (config : Config) (out into : Dir) (b i : ℕ) (g t : List (List Bit)) (w new : World) (doing : Doing) → IsTmBearer config out b i → DoesNear config into out (turned w) doing (turned new) → IsTmHistory config out b i g t w → IsTmHistory config out b i g t new
far_does config out into b i g t w new doing is d h = record {
  near = subst (λ x. IsTmSender config out b i g x (new.out i)) (sym d.far) (subst (λ l. IsTmSender config out b i g w.near l) (sym (d.back_log i)) (record { waiting = h.near.waiting; accepted = h.near.accepted; bearing = h.near.bearing; given = h.near.given }));
  far = takes_on config into out b i t (turned w) (turned new) doing is d h.far;
}

near_all : (config : Config) (out into : Dir) (b i : ℕ) (g t : List (List Bit)) (doings : List Doing) (w new : World) → IsTmBearer config out b i → DoesAll config out into w doings new → IsTmHistory config out b i g t w → IsTmHistory config out b i g t new
near_all config out into b i g t [] w new is d h = subst (IsTmHistory config out b i g t) (sym d) h
near_all config out into b i g t (doing ∷ doings) w new is d h = near_all config out into b i g t doings d.next new is d.later (near_does config out into b i g t w d.next doing is d.first h)

far_all : (config : Config) (out into : Dir) (b i : ℕ) (g t : List (List Bit)) (doings : List Doing) (w new : World) → IsTmBearer config out b i → DoesAll config into out (turned w) doings (turned new) → IsTmHistory config out b i g t w → IsTmHistory config out b i g t new
far_all config out into b i g t [] w new is d h = subst (IsTmHistory config out b i g t) (sym (ap turned d)) h
far_all config out into b i g t (doing ∷ doings) w new is d h = far_all config out into b i g t doings (turned d.next) new is d.later (far_does config out into b i g t w (turned d.next) doing is d.first h)

happens_tm : (config : Config) (out into : Dir) (b i : ℕ) (g t : List (List Bit)) (event : At) (w new : World) → IsTmBearer config out b i → Happens config out into w event new → IsTmHistory config out b i g t w → IsTmHistory config out b i g t new
happens_tm config out into b i g t (Near doings) w new is d h = near_all config out into b i g t doings w new is d h
happens_tm config out into b i g t (Far doings) w new is d h = far_all config out into b i g t doings w new is d h

runs_tm : (config : Config) (out into : Dir) (b i : ℕ) (g t : List (List Bit)) (events : List At) (w new : World) → IsTmBearer config out b i → Runs config out into Any w events new → IsTmHistory config out b i g t w → IsTmHistory config out b i g t new
runs_tm config out into b i g t [] w new is r h = subst (IsTmHistory config out b i g t) (sym r) h
runs_tm config out into b i g t (event ∷ events) w new is r h = runs_tm config out into b i g t events r.next new is r.later (happens_tm config out into b i g t event w r.next is r.first h)

pub tm_history : (config : Config) (out into : Dir) (b i : ℕ) (events : List At) (w : World) → IsTmBearer config out b i → Runs config out into Any (opened_world config out into) events w → IsTmHistory config out b i [] [] w
tm_history config out into b i events w is r = runs_tm config out into b i [] [] events (opened_world config out into) w is r (record {
  near = record { waiting = _; accepted = []; bearing = ap (opened_mode config out b) is.mode; given = refl };
  far = record { waiting = _; accepted = []; bearing = ap (opened_mode config into b) is.mode; lines = refl };
})

-- where both ends change, what was given and taken before counts on
pub tm_changes : (first second : Config) (out into : Dir) (b i j : ℕ) (g t : List (List Bit)) (w new : World) → HasChanged second out into w new → IsTmHistory first out b i g t w → IsTmHistory second out b j (g ++ units_in first out b i (w.out i).given) (t ++ units_in first out b i (w.out i).taken) new
tm_changes first second out into b i j g t w new c h =
    let sent = g ++ units_in first out b i (w.out i).given in
    let came = t ++ units_in first out b i (w.out i).taken in
    let none_given : sent ++ units_in second out b j (new.out j).given ≡ sent = ap (λ l. sent ++ units_in second out b j l.given) (c.out_log j) ∙ append-nil sent in
    let none_taken : came ++ units_in second out b j (new.out j).taken ≡ came = ap (λ l. came ++ units_in second out b j l.taken) (c.out_log j) ∙ append-nil came in
    record {
      near = record { waiting = h.near.waiting; accepted = h.near.accepted; bearing = ap (λ s. s.layer.bearings b) c.near ∙ h.near.bearing; given = h.near.given ∙ ap (λ l. l ++ h.near.waiting.units) (sym none_given) };
      far = record { waiting = h.far.waiting; accepted = h.far.accepted; bearing = ap (λ s. s.layer.bearings b) c.far ∙ h.far.bearing; lines = ap (λ s. lines_of b s.said) c.far ∙ h.far.lines ∙ ap (bits_lines out b) (sym none_taken) };
    }

-- over two parts
pub tm_over : (first second : Config) (out into : Dir) (b i j : ℕ) (earlier later : List At) (w : World) → IsTmBearer first out b i → IsTmBearer second out b j → (r : RunsInTwo first second out into Any Any earlier later w) → IsTmHistory second out b j (units_in first out b i (r.mid.out i).given) (units_in first out b i (r.mid.out i).taken) w
tm_over first second out into b i j earlier later w is on r =
    runs_tm second out into b j (units_in first out b i (r.mid.out i).given) (units_in first out b i (r.mid.out i).taken) later r.next w on r.behind
    (tm_changes first second out into b i j [] [] r.mid r.next r.changes (tm_history first out into b i earlier r.mid is r.before))
