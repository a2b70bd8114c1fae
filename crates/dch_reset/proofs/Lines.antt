-- What is in flight: which of it will be taken, and which RESETs, RESET ACKs and labels stand there.
use Rattle.std.proofs.Common.{◌≡◌, ◌⊎◌, ℕ, List, [], ◌∷◌, ◌++◌, Bool, true, false, cond, not, Option, Some, None, refl, sym, ap, ◌∙◌, inl, inr, ⊎_elim}
use Rattle.std.proofs.lemmas.Bool.{both_ways, cond_both}
use Rattle.std.proofs.lemmas.List.{append-nil}
use Rattle.dch_amlaw.specs.Pair.{Block}
use Rattle.dch_reset.specs.Ends.{Sent, Data, ResetPdu, ResetAckPdu, same_rsn, is_heard}

-- RSNs
pub same_itself : (r : Bool) → same_rsn r r ≡ true
same_itself true = refl
same_itself false = refl

pub same_is : (r x : Bool) → same_rsn r x ≡ true → x ≡ r
same_is true true e = refl
same_is true false e = absurd (cc)
same_is false true e = absurd (cc)
same_is false false e = refl

pub same_turned : (r x : Bool) → same_rsn r x ≡ same_rsn x r
same_turned true true = refl
same_turned true false = refl
same_turned false true = refl
same_turned false false = refl

pub not_other : (r : Bool) → same_rsn (not r) r ≡ false
not_other true = refl
not_other false = refl

pub other_not : (r : Bool) → same_rsn r (not r) ≡ false
other_not true = refl
other_not false = refl

-- the data PDUs, MRWs and statuses
abbrev pub data_of : List Sent → List Block
data_of [] = []
data_of (Data label b ∷ line) = b ∷ data_of line
data_of (ResetPdu x c ∷ line) = data_of line
data_of (ResetAckPdu x c ∷ line) = data_of line

-- those behind the first RESET ACK with this RSN
abbrev pub behind : Bool → List Sent → List Block
behind r [] = []
behind r (Data label b ∷ line) = behind r line
behind r (ResetPdu x c ∷ line) = behind r line
behind r (ResetAckPdu x c ∷ line) = cond (same_rsn r x) (data_of line) (behind r line)

-- those that an end can take: all, or, where it is answered, those behind the answer
abbrev pub live : Option Bool → List Sent → List Block
live None line = data_of line
live (Some r) line = behind r line

-- each RESET has the RSN of the last one that came
abbrev pub AllHeard : Option Bool → List Sent → Type 0
AllHeard h [] = Unit {0}
AllHeard h (Data label b ∷ line) = AllHeard h line
AllHeard h (ResetPdu x c ∷ line) = (is_heard h x ≡ true) × AllHeard h line
AllHeard h (ResetAckPdu x c ∷ line) = AllHeard h line

-- no RESET ACK has this RSN
abbrev pub NoAck : Bool → List Sent → Type 0
NoAck r [] = Unit {0}
NoAck r (Data label b ∷ line) = NoAck r line
NoAck r (ResetPdu x c ∷ line) = NoAck r line
NoAck r (ResetAckPdu x c ∷ line) = (same_rsn r x ≡ false) × NoAck r line

-- behind a RESET ACK with this RSN there is none with the other
abbrev pub AcksEnd : Bool → List Sent → Type 0
AcksEnd r [] = Unit {0}
AcksEnd r (Data label b ∷ line) = AcksEnd r line
AcksEnd r (ResetPdu x c ∷ line) = AcksEnd r line
AcksEnd r (ResetAckPdu x c ∷ line) = (same_rsn r x ≡ true → NoAck (not r) line) × AcksEnd r line

-- no data
abbrev pub NoData : List Sent → Type 0
NoData [] = Unit {0}
NoData (Data label b ∷ line) = ⊥
NoData (ResetPdu x c ∷ line) = NoData line
NoData (ResetAckPdu x c ∷ line) = NoData line

-- no data, and each RESET has this RSN
abbrev pub Calm : Bool → List Sent → Type 0
Calm r [] = Unit {0}
Calm r (Data label b ∷ line) = ⊥
Calm r (ResetPdu x c ∷ line) = (same_rsn r x ≡ true) × Calm r line
Calm r (ResetAckPdu x c ∷ line) = Calm r line

-- each RESET has come before, or it has this RSN and all behind it is calm
abbrev pub Ends : Bool → Option Bool → List Sent → Type 0
Ends r h [] = Unit {0}
Ends r h (Data label b ∷ line) = Ends r h line
Ends r h (ResetPdu x c ∷ line) = ((is_heard h x ≡ true) ⊎ ((same_rsn r x ≡ true) × Calm r line)) × Ends r h line
Ends r h (ResetAckPdu x c ∷ line) = Ends r h line

-- all data carries this label
abbrev pub AllLabels : ℕ → List Sent → Type 0
AllLabels n [] = Unit {0}
AllLabels n (Data label b ∷ line) = (label ≡ n) × AllLabels n line
AllLabels n (ResetPdu x c ∷ line) = AllLabels n line
AllLabels n (ResetAckPdu x c ∷ line) = AllLabels n line

-- all data behind a RESET ACK with this RSN carries this label
abbrev pub BehindLabels : ℕ → Bool → List Sent → Type 0
BehindLabels n r [] = Unit {0}
BehindLabels n r (Data label b ∷ line) = BehindLabels n r line
BehindLabels n r (ResetPdu x c ∷ line) = BehindLabels n r line
BehindLabels n r (ResetAckPdu x c ∷ line) = (same_rsn r x ≡ true → AllLabels n line) × BehindLabels n r line

-- all data that an end can take
abbrev pub Labelled : ℕ → Option Bool → List Sent → Type 0
Labelled n None line = AllLabels n line
Labelled n (Some r) line = BehindLabels n r line

-- Blocks are put at the back.
pub data-append : (xs ys : List Sent) → data_of (xs ++ ys) ≡ data_of xs ++ data_of ys
data-append [] ys = refl
data-append (Data l b ∷ xs) ys = ap (λ bs. b ∷ bs) (data-append xs ys)
data-append (ResetPdu x c ∷ xs) ys = data-append xs ys
data-append (ResetAckPdu x c ∷ xs) ys = data-append xs ys

pub behind-append : (r : Bool) (xs ys : List Sent) → (behind r (xs ++ ys) ≡ behind r xs ++ data_of ys) ⊎ ((behind r xs ≡ []) × (behind r (xs ++ ys) ≡ behind r ys))
behind-append r [] ys = inr (refl, refl)
behind-append r (Data l b ∷ xs) ys = behind-append r xs ys
behind-append r (ResetPdu x c ∷ xs) ys = behind-append r xs ys
behind-append r (ResetAckPdu x c ∷ xs) ys = go (same_rsn r x) (behind-append r xs ys)
  where
    go : (t : Bool) → (behind r (xs ++ ys) ≡ behind r xs ++ data_of ys) ⊎ ((behind r xs ≡ []) × (behind r (xs ++ ys) ≡ behind r ys)) → (cond t (data_of (xs ++ ys)) (behind r (xs ++ ys)) ≡ cond t (data_of xs) (behind r xs) ++ data_of ys) ⊎ ((cond t (data_of xs) (behind r xs) ≡ []) × (cond t (data_of (xs ++ ys)) (behind r (xs ++ ys)) ≡ behind r ys))
    go true ih = inl (data-append xs ys)
    go false ih = ih

-- what holds no data and has none behind an answer changes nothing of what can be taken
pub live_same : (a : Option Bool) (xs ys : List Sent) → data_of ys ≡ [] → ((r : Bool) → behind r ys ≡ []) → live a (xs ++ ys) ≡ live a xs
live_same None xs ys e f = data-append xs ys ∙ ap (λ bs. data_of xs ++ bs) e ∙ append-nil (data_of xs)
live_same (Some r) xs ys e f = ⊎_elim
    (λ (q : behind r (xs ++ ys) ≡ behind r xs ++ data_of ys). q ∙ ap (λ bs. behind r xs ++ bs) e ∙ append-nil (behind r xs))
    (λ (q : (behind r xs ≡ []) × (behind r (xs ++ ys) ≡ behind r ys)). q.1 ∙ f r ∙ sym q.0)
    (behind-append r xs ys)

pub live_reset : (a : Option Bool) (xs : List Sent) (x : Bool) (c : ℕ) → live a (xs ++ ResetPdu x c ∷ []) ≡ live a xs
live_reset a xs x c = live_same a xs (ResetPdu x c ∷ []) refl (λ r. refl)

pub live_ack : (a : Option Bool) (xs : List Sent) (x : Bool) (c : ℕ) → live a (xs ++ ResetAckPdu x c ∷ []) ≡ live a xs
live_ack a xs x c = live_same a xs (ResetAckPdu x c ∷ []) refl (λ r. cond_both (same_rsn r x) [] [] (λ (bs : List Block). bs ≡ []) (λ _. refl) (λ _. refl))

-- data can be taken, or it is lost as soon as it is sent, since no answer stands before it
pub live_data : (a : Option Bool) (xs : List Sent) (n : ℕ) (b : Block) → (live a (xs ++ Data n b ∷ []) ≡ live a xs ++ b ∷ []) ⊎ ((live a xs ≡ []) × (live a (xs ++ Data n b ∷ []) ≡ []))
live_data None xs n b = inl (data-append xs (Data n b ∷ []))
live_data (Some r) xs n b = behind-append r xs (Data n b ∷ [])

pub no_behind : (r : Bool) (xs : List Sent) → NoAck r xs → behind r xs ≡ []
no_behind r [] f = refl
no_behind r (Data l b ∷ xs) f = no_behind r xs f
no_behind r (ResetPdu x c ∷ xs) f = no_behind r xs f
no_behind r (ResetAckPdu x c ∷ xs) f = ap (λ t. cond t (data_of xs) (behind r xs)) f.0 ∙ no_behind r xs f.1

no_data : (xs : List Sent) → NoData xs → data_of xs ≡ []
no_data [] f = refl
no_data (Data l b ∷ xs) f = absurd f
no_data (ResetPdu x c ∷ xs) f = no_data xs f
no_data (ResetAckPdu x c ∷ xs) f = no_data xs f

no_data_behind : (r : Bool) (xs : List Sent) → NoData xs → behind r xs ≡ []
no_data_behind r [] f = refl
no_data_behind r (Data l b ∷ xs) f = absurd f
no_data_behind r (ResetPdu x c ∷ xs) f = no_data_behind r xs f
no_data_behind r (ResetAckPdu x c ∷ xs) f = cond_both (same_rsn r x) (data_of xs) (behind r xs) (λ (bs : List Block). bs ≡ []) (λ _. no_data xs f) (λ _. no_data_behind r xs f)

pub live_none : (a : Option Bool) (xs : List Sent) → NoData xs → live a xs ≡ []
live_none None xs f = no_data xs f
live_none (Some r) xs f = no_data_behind r xs f

pub heard-append : (h : Option Bool) (xs ys : List Sent) → AllHeard h xs → AllHeard h ys → AllHeard h (xs ++ ys)
heard-append h [] ys f g = g
heard-append h (Data l b ∷ xs) ys f g = heard-append h xs ys f g
heard-append h (ResetPdu x c ∷ xs) ys f g = (f.0, heard-append h xs ys f.1 g)
heard-append h (ResetAckPdu x c ∷ xs) ys f g = heard-append h xs ys f g

pub no_ack-append : (r : Bool) (xs ys : List Sent) → NoAck r xs → NoAck r ys → NoAck r (xs ++ ys)
no_ack-append r [] ys f g = g
no_ack-append r (Data l b ∷ xs) ys f g = no_ack-append r xs ys f g
no_ack-append r (ResetPdu x c ∷ xs) ys f g = no_ack-append r xs ys f g
no_ack-append r (ResetAckPdu x c ∷ xs) ys f g = (f.0, no_ack-append r xs ys f.1 g)

acks_none : (r : Bool) (xs : List Sent) → NoAck (not r) xs → AcksEnd r xs
acks_none r [] f = tt
acks_none r (Data l b ∷ xs) f = acks_none r xs f
acks_none r (ResetPdu x c ∷ xs) f = acks_none r xs f
acks_none r (ResetAckPdu x c ∷ xs) f = (λ e. f.1, acks_none r xs f.1)

pub acks_never : (r : Bool) (xs : List Sent) → NoAck r xs → AcksEnd r xs
acks_never r [] f = tt
acks_never r (Data l b ∷ xs) f = acks_never r xs f
acks_never r (ResetPdu x c ∷ xs) f = acks_never r xs f
acks_never r (ResetAckPdu x c ∷ xs) f = (λ e. absurd (both_ways _ f.0 e), acks_never r xs f.1)

pub acks_end-append : (r : Bool) (xs ys : List Sent) → AcksEnd r xs → NoAck (not r) ys → AcksEnd r (xs ++ ys)
acks_end-append r [] ys f g = acks_none r ys g
acks_end-append r (Data l b ∷ xs) ys f g = acks_end-append r xs ys f g
acks_end-append r (ResetPdu x c ∷ xs) ys f g = acks_end-append r xs ys f g
acks_end-append r (ResetAckPdu x c ∷ xs) ys f g = (λ e. no_ack-append (not r) xs ys (f.0 e) g, acks_end-append r xs ys f.1 g)

pub no_data-append : (xs ys : List Sent) → NoData xs → NoData ys → NoData (xs ++ ys)
no_data-append [] ys f g = g
no_data-append (Data l b ∷ xs) ys f g = absurd f
no_data-append (ResetPdu x c ∷ xs) ys f g = no_data-append xs ys f g
no_data-append (ResetAckPdu x c ∷ xs) ys f g = no_data-append xs ys f g

calm-append : (r : Bool) (xs ys : List Sent) → Calm r xs → Calm r ys → Calm r (xs ++ ys)
calm-append r [] ys f g = g
calm-append r (Data l b ∷ xs) ys f g = absurd f
calm-append r (ResetPdu x c ∷ xs) ys f g = (f.0, calm-append r xs ys f.1 g)
calm-append r (ResetAckPdu x c ∷ xs) ys f g = calm-append r xs ys f g

calm_ends : (r : Bool) (h : Option Bool) (xs : List Sent) → Calm r xs → Ends r h xs
calm_ends r h [] f = tt
calm_ends r h (Data l b ∷ xs) f = absurd f
calm_ends r h (ResetPdu x c ∷ xs) f = (inr (f.0, f.1), calm_ends r h xs f.1)
calm_ends r h (ResetAckPdu x c ∷ xs) f = calm_ends r h xs f

pub ends-append : (r : Bool) (h : Option Bool) (xs ys : List Sent) → Ends r h xs → Calm r ys → Ends r h (xs ++ ys)
ends-append r h [] ys f g = calm_ends r h ys g
ends-append r h (Data l b ∷ xs) ys f g = ends-append r h xs ys f g
ends-append r h (ResetPdu x c ∷ xs) ys f g = (⊎_elim (λ (q : is_heard h x ≡ true). inl q) (λ (q : (same_rsn r x ≡ true) × Calm r xs). inr (q.0, calm-append r xs ys q.1 g)) f.0, ends-append r h xs ys f.1 g)
ends-append r h (ResetAckPdu x c ∷ xs) ys f g = ends-append r h xs ys f g

pub heard_ends : (r : Bool) (h : Option Bool) (xs : List Sent) → AllHeard h xs → Ends r h xs
heard_ends r h [] f = tt
heard_ends r h (Data l b ∷ xs) f = heard_ends r h xs f
heard_ends r h (ResetPdu x c ∷ xs) f = (inl f.0, heard_ends r h xs f.1)
heard_ends r h (ResetAckPdu x c ∷ xs) f = heard_ends r h xs f

pub calm_heard : (r : Bool) (xs : List Sent) → Calm r xs → AllHeard (Some r) xs
calm_heard r [] f = tt
calm_heard r (Data l b ∷ xs) f = absurd f
calm_heard r (ResetPdu x c ∷ xs) f = (f.0, calm_heard r xs f.1)
calm_heard r (ResetAckPdu x c ∷ xs) f = calm_heard r xs f

pub calm_still : (r : Bool) (xs : List Sent) → Calm r xs → NoData xs
calm_still r [] f = tt
calm_still r (Data l b ∷ xs) f = absurd f
calm_still r (ResetPdu x c ∷ xs) f = calm_still r xs f.1
calm_still r (ResetAckPdu x c ∷ xs) f = calm_still r xs f

labels-append : (n : ℕ) (xs ys : List Sent) → AllLabels n xs → AllLabels n ys → AllLabels n (xs ++ ys)
labels-append n [] ys f g = g
labels-append n (Data l b ∷ xs) ys f g = (f.0, labels-append n xs ys f.1 g)
labels-append n (ResetPdu x c ∷ xs) ys f g = labels-append n xs ys f g
labels-append n (ResetAckPdu x c ∷ xs) ys f g = labels-append n xs ys f g

labels_behind : (n : ℕ) (r : Bool) (xs : List Sent) → AllLabels n xs → BehindLabels n r xs
labels_behind n r [] f = tt
labels_behind n r (Data l b ∷ xs) f = labels_behind n r xs f.1
labels_behind n r (ResetPdu x c ∷ xs) f = labels_behind n r xs f
labels_behind n r (ResetAckPdu x c ∷ xs) f = (λ e. f, labels_behind n r xs f)

behind_labels-append : (n : ℕ) (r : Bool) (xs ys : List Sent) → BehindLabels n r xs → AllLabels n ys → BehindLabels n r (xs ++ ys)
behind_labels-append n r [] ys f g = labels_behind n r ys g
behind_labels-append n r (Data l b ∷ xs) ys f g = behind_labels-append n r xs ys f g
behind_labels-append n r (ResetPdu x c ∷ xs) ys f g = behind_labels-append n r xs ys f g
behind_labels-append n r (ResetAckPdu x c ∷ xs) ys f g = (λ e. labels-append n xs ys (f.0 e) g, behind_labels-append n r xs ys f.1 g)

pub labelled-append : (n : ℕ) (a : Option Bool) (xs ys : List Sent) → Labelled n a xs → AllLabels n ys → Labelled n a (xs ++ ys)
labelled-append n None xs ys f g = labels-append n xs ys f g
labelled-append n (Some r) xs ys f g = behind_labels-append n r xs ys f g

pub labels_none : (n : ℕ) (xs : List Sent) → NoData xs → AllLabels n xs
labels_none n [] f = tt
labels_none n (Data l b ∷ xs) f = absurd f
labels_none n (ResetPdu x c ∷ xs) f = labels_none n xs f
labels_none n (ResetAckPdu x c ∷ xs) f = labels_none n xs f

pub labelled_none : (n : ℕ) (a : Option Bool) (xs : List Sent) → NoData xs → Labelled n a xs
labelled_none n None xs f = labels_none n xs f
labelled_none n (Some r) xs f = labels_behind n r xs (labels_none n xs f)

pub labelled_no_ack : (n : ℕ) (r : Bool) (xs : List Sent) → NoAck r xs → BehindLabels n r xs
labelled_no_ack n r [] f = tt
labelled_no_ack n r (Data l b ∷ xs) f = labelled_no_ack n r xs f
labelled_no_ack n r (ResetPdu x c ∷ xs) f = labelled_no_ack n r xs f
labelled_no_ack n r (ResetAckPdu x c ∷ xs) f = (λ e. absurd (both_ways _ f.0 e), labelled_no_ack n r xs f.1)

-- the front goes
pub labelled_rest : (n : ℕ) (a : Option Bool) (f : Sent) (line : List Sent) → Labelled n a (f ∷ line) → Labelled n a line
labelled_rest n None (Data l b) line g = g.1
labelled_rest n None (ResetPdu x c) line g = g
labelled_rest n None (ResetAckPdu x c) line g = g
labelled_rest n (Some r) (Data l b) line g = g
labelled_rest n (Some r) (ResetPdu x c) line g = g
labelled_rest n (Some r) (ResetAckPdu x c) line g = g.1

pub heard_rest : (h : Option Bool) (f : Sent) (line : List Sent) → AllHeard h (f ∷ line) → AllHeard h line
heard_rest h (Data l b) line g = g
heard_rest h (ResetPdu x c) line g = g.1
heard_rest h (ResetAckPdu x c) line g = g

pub no_ack_rest : (r : Bool) (f : Sent) (line : List Sent) → NoAck r (f ∷ line) → NoAck r line
no_ack_rest r (Data l b) line g = g
no_ack_rest r (ResetPdu x c) line g = g
no_ack_rest r (ResetAckPdu x c) line g = g.1

pub acks_end_rest : (r : Bool) (f : Sent) (line : List Sent) → AcksEnd r (f ∷ line) → AcksEnd r line
acks_end_rest r (Data l b) line g = g
acks_end_rest r (ResetPdu x c) line g = g
acks_end_rest r (ResetAckPdu x c) line g = g.1

pub no_data_rest : (f : Sent) (line : List Sent) → NoData (f ∷ line) → NoData line
no_data_rest (Data l b) line g = absurd g
no_data_rest (ResetPdu x c) line g = g
no_data_rest (ResetAckPdu x c) line g = g

pub ends_rest : (r : Bool) (h : Option Bool) (f : Sent) (line : List Sent) → Ends r h (f ∷ line) → Ends r h line
ends_rest r h (Data l b) line g = g
ends_rest r h (ResetPdu x c) line g = g.1
ends_rest r h (ResetAckPdu x c) line g = g
