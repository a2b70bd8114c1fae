-- The radio frames of a TTI at the far end, from frame to frame: the first of them are kept as they were sent.
use Rattle.std.proofs.Common.{◌≡◌, ◌⊎◌, ◌<◌, ◌≤◌, ◌+◌, ◌%◌, ℕ, true, false, Option, Some, arith, refl, sym, ap, ◌∙◌, subst, inl, inr, ⊎_elim}
use Rattle.std.specs.Prelude.{◌==◌, if◌then◌else◌, nat_lt}
use Rattle.std.proofs.lemmas.Bool.{cases_eq, cases_lt, eq-eqb, ne_eqb}
use Rattle.std.proofs.lemmas.Bool.Decides.{nat_tests}
use Rattle.dch_types.specs.Limits.{IsFrames}
use Rattle.dch_tti.specs.Loaded.{Loaded}
use Rattle.dch_tti.specs.RxFrames.{tti_place}
use Rattle.dch_types.specs.Timing.{ends, starts}
use Rattle.dch_node.specs.Values.{Radio}

-- the places of a TTI's frames
pub place_next : (f c m : ℕ) → IsFrames f → c % f + 1 < f → tti_place ((c + 1) % 256) f m ≡ tti_place c f m
place_next f c m is = ⊎_elim
    (λ (e : f ≡ 1). subst (λ f. c % f + 1 < f → tti_place ((c + 1) % 256) f m ≡ tti_place c f m) (sym e) (λ l. omega (arith, l)))
    (λ (r : (f ≡ 2) ⊎ ((f ≡ 4) ⊎ (f ≡ 8))). ⊎_elim
    (λ (e : f ≡ 2). subst (λ f. c % f + 1 < f → tti_place ((c + 1) % 256) f m ≡ tti_place c f m) (sym e) (λ l. omega (arith, l)))
    (λ (s : (f ≡ 4) ⊎ (f ≡ 8)). ⊎_elim
    (λ (e : f ≡ 4). subst (λ f. c % f + 1 < f → tti_place ((c + 1) % 256) f m ≡ tti_place c f m) (sym e) (λ l. omega (arith, l)))
    (λ (e : f ≡ 8). subst (λ f. c % f + 1 < f → tti_place ((c + 1) % 256) f m ≡ tti_place c f m) (sym e) (λ l. omega (arith, l)))
    s) r) is

pub count_next : (f c : ℕ) → IsFrames f → c % f + 1 < f → ((c + 1) % 256) % f ≡ c % f + 1
count_next f c is = ⊎_elim
    (λ (e : f ≡ 1). subst (λ f. c % f + 1 < f → ((c + 1) % 256) % f ≡ c % f + 1) (sym e) (λ l. omega (arith, l)))
    (λ (r : (f ≡ 2) ⊎ ((f ≡ 4) ⊎ (f ≡ 8))). ⊎_elim
    (λ (e : f ≡ 2). subst (λ f. c % f + 1 < f → ((c + 1) % 256) % f ≡ c % f + 1) (sym e) (λ l. omega (arith, l)))
    (λ (s : (f ≡ 4) ⊎ (f ≡ 8)). ⊎_elim
    (λ (e : f ≡ 4). subst (λ f. c % f + 1 < f → ((c + 1) % 256) % f ≡ c % f + 1) (sym e) (λ l. omega (arith, l)))
    (λ (e : f ≡ 8). subst (λ f. c % f + 1 < f → ((c + 1) % 256) % f ≡ c % f + 1) (sym e) (λ l. omega (arith, l)))
    s) r) is

-- a TTI ends, or goes on
abbrev OverOrOn : ℕ → ℕ → Type 0
OverOrOn f c = ((c % f + 1 ≡ f) × (((c + 1) % 256) % f ≡ 0) × (ends f c ≡ true)) ⊎ ((c % f + 1 < f) × (ends f c ≡ false))

ends_by : (f c : ℕ) → 0 < f → (c + 1) % f ≡ 0 → ends f c ≡ true
ends_by f c some e = let a : nat_lt 0 f ≡ true = grind (arith, nat_tests) in rw a (eq-eqb ((c + 1) % f) 0 e)

ends_not : (f c : ℕ) → 0 < f → ((c + 1) % f ≡ 0 → ⊥) → ends f c ≡ false
ends_not f c some e = let a : nat_lt 0 f ≡ true = grind (arith, nat_tests) in rw a (ne_eqb ((c + 1) % f) 0 e)

pub by_four : (f : ℕ) (P : ℕ → Type 0) → IsFrames f → P 1 → P 2 → P 4 → P 8 → P f
by_four f P is a b d e = ⊎_elim
    (λ (q : f ≡ 1). subst P (sym q) a)
    (λ (r : (f ≡ 2) ⊎ ((f ≡ 4) ⊎ (f ≡ 8))). ⊎_elim
    (λ (q : f ≡ 2). subst P (sym q) b)
    (λ (s : (f ≡ 4) ⊎ (f ≡ 8)). ⊎_elim (λ (q : f ≡ 4). subst P (sym q) d) (λ (q : f ≡ 8). subst P (sym q) e) s) r) is

pub over_or_on : (f c : ℕ) → IsFrames f → OverOrOn f c
over_or_on f c is = by_four f (λ f. OverOrOn f c) is
    (inl (omega arith, omega arith, ends_by 1 c (omega arith) (omega arith)))
    (⊎_elim (λ (l : c % 2 + 1 < 2). inr (l, ends_not 2 c (omega arith) (λ e. omega (arith, l, e)))) (λ (l : 2 ≤ c % 2 + 1). inl (omega (arith, l), omega (arith, l), ends_by 2 c (omega arith) (omega (arith, l)))) (cases_lt (c % 2 + 1) 2))
    (⊎_elim (λ (l : c % 4 + 1 < 4). inr (l, ends_not 4 c (omega arith) (λ e. omega (arith, l, e)))) (λ (l : 4 ≤ c % 4 + 1). inl (omega (arith, l), omega (arith, l), ends_by 4 c (omega arith) (omega (arith, l)))) (cases_lt (c % 4 + 1) 4))
    (⊎_elim (λ (l : c % 8 + 1 < 8). inr (l, ends_not 8 c (omega arith) (λ e. omega (arith, l, e)))) (λ (l : 8 ≤ c % 8 + 1). inl (omega (arith, l), omega (arith, l), ends_by 8 c (omega arith) (omega (arith, l)))) (cases_lt (c % 8 + 1) 8))

pub place_here : (f c : ℕ) → IsFrames f → tti_place c f (c % f) ≡ c % 8
place_here f c is = by_four f (λ f. tti_place c f (c % f) ≡ c % 8) is (omega arith) (omega arith) (omega arith) (omega arith)

pub place_other : (f c m : ℕ) → IsFrames f → m < c % f → tti_place c f m ≡ c % 8 → ⊥
place_other f c m is = by_four f (λ f. m < c % f → tti_place c f m ≡ c % 8 → ⊥) is (λ l e. omega (arith, l, e)) (λ l e. omega (arith, l, e)) (λ l e. omega (arith, l, e)) (λ l e. omega (arith, l, e))

-- a radio frame is there, and is one of some kind
pub record HasRadio (S : Radio → Type 0) (o : Option Radio) : Type 0 where
  pub radio : Radio
  pub is : o ≡ Some radio
  pub sent : S radio

-- the first frames of a TTI are kept. L says what is loaded, S which radio frames are sent of it, R what the last combination is, and K which
-- combination may follow another one
pub record Half (f : ℕ) (L : Loaded → Type 0) (S : ℕ → ℕ → Loaded → Radio → Type 0) (R : ℕ → Type 0) (K : ℕ → ℕ → ℕ → Type 0) (cfn : ℕ) (frames : ℕ → Option Radio) (count : ℕ) : Type 0 where
  pub loaded : Loaded
  pub from : L loaded
  pub sequence : ℕ → ℕ
  pub sent : (m : ℕ) → m < count → HasRadio (S m (sequence m) loaded) (frames (tti_place cfn f m))
  pub last : (m : ℕ) → m + 1 ≡ count → R (sequence m)
  pub steps : (m : ℕ) → m + 1 < count → K (m + 1) (sequence m) (sequence (m + 1))

pick_here : (k at c : ℕ) (s : ℕ → ℕ) → k ≡ at → (if k == at then c else s k) ≡ c
pick_here k at c s e = rw (eq-eqb k at e) refl

pick_other : (k at c : ℕ) (s : ℕ → ℕ) → (k ≡ at → ⊥) → (if k == at then c else s k) ≡ s k
pick_other k at c s e = rw (ne_eqb k at e) refl

frame_here : (k at : ℕ) (radio : Radio) (old : ℕ → Option Radio) → k ≡ at → (if k == at then Some radio else old k) ≡ Some radio
frame_here k at radio old e = rw (eq-eqb k at e) refl

frame_other : (k at : ℕ) (o : Option Radio) (old : ℕ → Option Radio) → (k ≡ at → ⊥) → (if k == at then o else old k) ≡ old k
frame_other k at o old e = rw (ne_eqb k at e) refl

-- one frame more
pub half_more : (f : ℕ) (L : Loaded → Type 0) (S : ℕ → ℕ → Loaded → Radio → Type 0) (R R' : ℕ → Type 0) (K : ℕ → ℕ → ℕ → Type 0) (cfn : ℕ) (old new : ℕ → Option Radio) (radio : Radio) (c : ℕ) (loaded : Loaded)
    → IsFrames f → ((a b : Loaded) → L a → L b → a ≡ b) → ((k : ℕ) → new k ≡ (if k == cfn % 8 then Some radio else old k)) → L loaded → S (cfn % f) c loaded radio → R' c
    → (0 < cfn % f → (d : ℕ) → R d → K (cfn % f) d c) → (0 < cfn % f → Half f L S R K cfn old (cfn % f)) → Half f L S R' K cfn new (cfn % f + 1)
half_more f L S R R' K cfn old new radio c loaded is one frames from sent running follows half = ⊎_elim
    (λ (some : 0 < n).
    let h : Half f L S R K cfn old n = half some in
    let same : loaded ≡ h.loaded = one loaded h.loaded from h.from in
    let seq : ℕ → ℕ = λ m. if m == n then c else h.sequence m in
    record {
      loaded = h.loaded;
      from = h.from;
      sequence = seq;
      sent = λ m inside. ⊎_elim
          (λ (e : m ≡ n). record {
            radio = radio;
            is = shown (tti_place cfn f m) ∙ frame_here (tti_place cfn f m) (cfn % 8) radio old (ap (tti_place cfn f) e ∙ place_here f cfn is);
            sent = subst (λ d. S m d h.loaded radio) (sym (pick_here m n c h.sequence e)) (subst (λ m. S m c h.loaded radio) (sym e) (subst (λ l. S n c l radio) same sent));
          })
          (λ (e : m ≡ n → ⊥).
          let before = h.sent m (less m inside e) in
          record {
            radio = before.radio;
            is = shown (tti_place cfn f m) ∙ frame_other (tti_place cfn f m) (cfn % 8) (Some radio) old (place_other f cfn m is (less m inside e)) ∙ before.is;
            sent = subst (λ d. S m d h.loaded before.radio) (sym (pick_other m n c h.sequence e)) before.sent;
          })
          (cases_eq m n);
      last = λ m e. subst R' (sym (pick_here m n c h.sequence (omega (arith, e)))) running;
      steps = λ m inside.
          let low : m ≡ n → ⊥ = λ e. omega (arith, e, inside) in
          ⊎_elim
          (λ (e : m + 1 ≡ n). subst (λ d. K (m + 1) d (seq (m + 1))) (sym (pick_other m n c h.sequence low)) (subst (λ d. K (m + 1) (h.sequence m) d) (sym (pick_here (m + 1) n c h.sequence e)) (subst (λ k. K k (h.sequence m) c) (sym e) (follows some (h.sequence m) (h.last m e)))))
          (λ (e : m + 1 ≡ n → ⊥). subst (λ d. K (m + 1) d (seq (m + 1))) (sym (pick_other m n c h.sequence low)) (subst (λ d. K (m + 1) (h.sequence m) d) (sym (pick_other (m + 1) n c h.sequence e)) (h.steps m (less (m + 1) inside e))))
          (cases_eq (m + 1) n);
    })
    (λ (none : n ≤ 0). record {
      loaded = loaded;
      from = from;
      sequence = λ m. c;
      sent = λ m inside.
          let e : m ≡ n = omega (arith, none, inside) in
          record {
            radio = radio;
            is = shown (tti_place cfn f m) ∙ frame_here (tti_place cfn f m) (cfn % 8) radio old (ap (tti_place cfn f) e ∙ place_here f cfn is);
            sent = subst (λ m. S m c loaded radio) (sym e) sent;
          };
      last = λ m e. running;
      steps = λ m inside. absurd (omega (arith, none, inside));
    })
    (cases_lt 0 n)
  where
    n : ℕ
    n = cfn % f

    less : (m : ℕ) → m < n + 1 → (m ≡ n → ⊥) → m < n
    less m inside e = omega (arith, inside, e)

    shown : (k : ℕ) → new k ≡ (if k == cfn % 8 then Some radio else old k)
    shown = frames

-- the next frame, where the TTI goes on
pub half_next : (f : ℕ) (L : Loaded → Type 0) (S : ℕ → ℕ → Loaded → Radio → Type 0) (R : ℕ → Type 0) (K : ℕ → ℕ → ℕ → Type 0) (cfn : ℕ) (frames : ℕ → Option Radio)
    → IsFrames f → Half f L S R K cfn frames (cfn % f + 1) → 0 < ((cfn + 1) % 256) % f → Half f L S R K ((cfn + 1) % 256) frames (((cfn + 1) % 256) % f)
half_next f L S R K cfn frames is h some = ⊎_elim
    (λ (over : (cfn % f + 1 ≡ f) × (((cfn + 1) % 256) % f ≡ 0) × (ends f cfn ≡ true)). absurd (omega (arith, over.1, some)))
    (λ (on : (cfn % f + 1 < f) × (ends f cfn ≡ false)).
    let count : ((cfn + 1) % 256) % f ≡ cfn % f + 1 = count_next f cfn is on.0 in
    record {
      loaded = h.loaded;
      from = h.from;
      sequence = h.sequence;
      sent = λ m inside. subst (λ k. HasRadio (S m (h.sequence m) h.loaded) (frames k)) (sym (place_next f cfn m is on.0)) (h.sent m (omega (arith, count, inside)));
      last = λ m e. h.last m (omega (arith, count, e));
      steps = λ m inside. h.steps m (omega (arith, count, inside));
    })
    (over_or_on f cfn is)

-- a TTI that goes on doesn't start
pub starts_off : (f c : ℕ) → 0 < f → (c % f ≡ 0 → ⊥) → starts f c ≡ false
starts_off f c some e = let a : nat_lt 0 f ≡ true = grind (arith, nat_tests) in rw a (ne_eqb (c % f) 0 e)

pub starts_on : (f c : ℕ) → 0 < f → c % f ≡ 0 → starts f c ≡ true
starts_on f c some e = let a : nat_lt 0 f ≡ true = grind (arith, nat_tests) in rw a (eq-eqb (c % f) 0 e)

pub some_frames : (f : ℕ) → IsFrames f → 0 < f
some_frames f is = omega (arith, is)
