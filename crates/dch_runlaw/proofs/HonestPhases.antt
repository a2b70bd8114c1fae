-- What was given to a channel and taken of it, from radio frame to radio frame.
use Rattle.std.proofs.Common.{◌≡◌, ◌+◌, ◌∙◌, ℕ, List, [], ◌∷◌, ◌++◌, true, false, cond, refl, sym, ap, subst}
use Rattle.std.specs.Prelude.{◌%◌, ◌==◌, ◌&&◌, nat_lt}
use Rattle.std.proofs.lemmas.List.{append-nil}
use Rattle.dch_bits.specs.declared.bit.Bit.{Bit}
use Rattle.dch_types.specs.Timing.{ends, starts}
use Rattle.dch_linkcmd.specs.Checks.{IsSublist}
use Rattle.dch_runlaw.specs.Worlds.{IsFront, Log}
use Rattle.dch_runlaw.proofs.Sublists.{either, sub_append, sub_more}

-- what fits goes on to fit, and is as is wanted of a channel
pub record Joins (P Q : List (List Bit) → List (List Bit) → Type 0) : Type 0 where
  pub none : P [] []
  pub join : (a b c d : List (List Bit)) → P a b → P c d → P (a ++ c) (b ++ d)
  pub whole : (a b : List (List Bit)) → P a b → Q a b
  pub more : (a b c : List (List Bit)) → P a b → Q a (b ++ c)

-- a TTI is on
pub record On (P : List (List Bit) → List (List Bit) → Type 0) (log : Log) (running : List (List Bit)) : Type 0 where
  pub ended : List (List Bit)
  pub is : log.given ≡ ended ++ running
  pub holds : P log.taken ended

-- before the radio frame of a CFN
pub record Phase (P : List (List Bit) → List (List Bit) → Type 0) (frames cfn : ℕ) (log : Log) (running : List (List Bit)) : Type 0 where
  pub on : starts frames cfn ≡ false → On P log running
  pub over : starts frames cfn ≡ true → P log.taken log.given

pub on_holds : (P Q : List (List Bit) → List (List Bit) → Type 0) (log : Log) (running : List (List Bit)) → Joins P Q → On P log running → Q log.taken log.given
on_holds P Q log running j o = subst (Q log.taken) (sym o.is) (j.more log.taken o.ended running o.holds)

pub phase_holds : (P Q : List (List Bit) → List (List Bit) → Type 0) (frames cfn : ℕ) (log : Log) (running : List (List Bit)) → Joins P Q → Phase P frames cfn log running → Q log.taken log.given
phase_holds P Q frames cfn log running j f = either (starts frames cfn) (λ e. j.whole log.taken log.given (f.over e)) (λ e. on_holds P Q log running j (f.on e))

-- a TTI starts, or goes on
pub starts_log : (P : List (List Bit) → List (List Bit) → Type 0) (frames cfn : ℕ) (old new : Log) (given running now : List (List Bit)) → new ≡ record { given = old.given ++ given; taken = old.taken }
    → (starts frames cfn ≡ true → given ≡ now) → (starts frames cfn ≡ false → (given ≡ []) × (now ≡ running)) → Phase P frames cfn old running → On P new now
starts_log P frames cfn old new given running now e begins stays f = subst (λ l. On P l now) (sym e) (either (starts frames cfn)
    (λ q. record { ended = old.given; is = ap (λ l. old.given ++ l) (begins q); holds = f.over q })
    (λ q. let o = f.on q in record { ended = o.ended; is = ap (λ l. old.given ++ l) (stays q).0 ∙ append-nil old.given ∙ o.is ∙ ap (λ l. o.ended ++ l) (sym (stays q).1); holds = o.holds }))

-- it ends, or goes on
pub reads_log : (P Q : List (List Bit) → List (List Bit) → Type 0) (frames cfn next : ℕ) (old new : Log) (taken running : List (List Bit)) → Joins P Q → new ≡ record { given = old.given; taken = old.taken ++ taken }
    → starts frames next ≡ ends frames cfn → (ends frames cfn ≡ true → P taken running) → (ends frames cfn ≡ false → taken ≡ []) → On P old running → Phase P frames next new running
reads_log P Q frames cfn next old new taken running j e same fits none o = subst (λ l. Phase P frames next l running) (sym e) (record {
  on = λ q. record { ended = o.ended; is = o.is; holds = subst (λ l. P l o.ended) (sym (ap (λ l. old.taken ++ l) (none (sym same ∙ q)) ∙ append-nil old.taken)) o.holds };
  over = λ q. subst (P (old.taken ++ taken)) (sym o.is) (j.join old.taken o.ended taken running o.holds (fits (sym same ∙ q)));
})

-- nothing happens to it
pub same_on : (P : List (List Bit) → List (List Bit) → Type 0) (old new : Log) (running : List (List Bit)) → new ≡ old → On P old running → On P new running
same_on P old new running e o = subst (λ l. On P l running) (sym e) o

pub same_phase : (P : List (List Bit) → List (List Bit) → Type 0) (frames cfn : ℕ) (old new : Log) (running : List (List Bit)) → new ≡ old → Phase P frames cfn old running → Phase P frames cfn new running
same_phase P frames cfn old new running e f = subst (λ l. Phase P frames cfn l running) (sym e) f

-- the next radio frame begins a TTI just where this one ends one
pub next_is : (frames cfn : ℕ) → ((n : ℕ) → (n % 256) % frames ≡ n % frames) → starts frames ((cfn + 1) % 256) ≡ ends frames cfn
next_is frames cfn divides = ap (λ n. nat_lt 0 frames && n == 0) (divides (cfn + 1))

-- the two readings of "fits"
pub honest : Joins IsSublist IsSublist
honest = record { none = tt; join = λ a b c d h k. sub_append a c b d h k; whole = λ a b h. h; more = sub_more }

front_of : (a c : List (List Bit)) → IsFront a (a ++ c)
front_of [] c = tt
front_of (x ∷ a) c = (refl, front_of a c)

front_self : (a b : List (List Bit)) → a ≡ b → IsFront a b
front_self a b e = subst (λ l. IsFront a l) (append-nil a ∙ e) (front_of a [])

pub undamaged : Joins (λ a b. a ≡ b) IsFront
undamaged = record { none = refl; join = λ a b c d e f. ap (λ l. l ++ c) e ∙ ap (λ l. b ++ l) f; whole = front_self; more = λ a b c e. subst (λ l. IsFront a (l ++ c)) e (front_of a c) }

-- where nothing is asked
abbrev pub Anything : List (List Bit) → List (List Bit) → Type 0
Anything a b = Unit {0}

pub anything : Joins Anything Anything
anything = record { none = tt; join = λ a b c d h k. tt; whole = λ a b h. tt; more = λ a b c h. tt }

-- where what was taken is just what was given, the rest is on its way
pub whole_phase : (frames cfn : ℕ) (log : Log) (running : List (List Bit)) → Phase (λ a b. a ≡ b) frames cfn log running → log.given ≡ log.taken ++ cond (starts frames cfn) [] running
whole_phase frames cfn log running f = either (starts frames cfn)
    (λ e. rw e (sym (f.over e) ∙ sym (append-nil log.taken)))
    (λ e. let o = f.on e in rw e (o.is ∙ ap (λ l. l ++ running) (sym o.holds)))
