-- Lines on units and PDUs have the direction from which their end receives.
use Rattle.std.proofs.Common.{◌≡◌, ℕ, List, [], ◌∷◌, ◌++◌, Bool, true, false, length, refl, ap}
use Rattle.std.specs.Prelude.{◌&&◌, ◌==◌}
use Rattle.dch_bits.specs.declared.offer.Offer.{Offer}
use Rattle.dch_bits.specs.declared.offer.Offer.TheVariants.{Accepted, Full as NoRoom, WrongSize}
use Rattle.dch_types.specs.declared.channel.Dir.{Dir}
use Rattle.dch_types.specs.declared.channel.Dir.TheVariants.{Up, Down}
use Rattle.dch_types.specs.declared.config.Config.{Config}
use Rattle.dch_layer2.specs.Bearings.{line_of_answer}
use Rattle.dch_layer2.specs.Layers.{Came, Layer, takes}
use Rattle.dch_node.specs.Lines.{Line, Took, Full, Wrong, Bad, Reserved, NoBearer, Nobody, PduBad, Outside, Overlong, Got, GotBits, Iub, IubBad, Phy, PhyNone, BadTti, Differs}
use Rattle.dch_damage.specs.Damage.{same_dir}
use Rattle.dch_runlaw.specs.Directions.{is_on, lines_on}
use Rattle.dch_runlaw.specs.Lines.{is_of, lines_of}
use Rattle.dch_runlaw.proofs.Sublists.{either}
use Rattle.dch_runlaw.proofs.TextTakes.{Covers, Every, every_append, takes_all}

-- a line on a unit or PDU has this direction
abbrev pub goes_in : Dir → Line → Bool
goes_in dir (PduBad d c n) = same_dir d dir
goes_in dir (Outside d c) = same_dir d dir
goes_in dir (Overlong d c) = same_dir d dir
goes_in dir (Got d c octets) = same_dir d dir
goes_in dir (GotBits d c bits) = same_dir d dir
goes_in dir (Took d c) = true
goes_in dir (Full d c) = true
goes_in dir (Wrong d c) = true
goes_in dir (Bad d i k) = true
goes_in dir (Reserved d i) = true
goes_in dir (NoBearer d i ct) = true
goes_in dir (Nobody d i) = true
goes_in dir (Iub d set octets) = true
goes_in dir (IubBad d set n) = true
goes_in dir (Phy d tfci cells) = true
goes_in dir PhyNone = true
goes_in dir (BadTti d i n) = true
goes_in dir (Differs d i) = true

abbrev pub AllIn : Dir → List Line → Type 0
AllIn dir lines = Every (λ line. goes_in dir line ≡ true) lines

pub in_append : (dir : Dir) (xs ys : List Line) → AllIn dir xs → AllIn dir ys → AllIn dir (xs ++ ys)
in_append dir xs ys h k = every_append (λ line. goes_in dir line ≡ true) xs ys h k

same_self : (dir : Dir) → same_dir dir dir ≡ true
same_self Up = refl
same_self Down = refl

in_covers : (dir : Dir) (count : ℕ) → Covers (λ line. goes_in dir line ≡ true) dir count
in_covers dir count = record {
  bearer = λ b l. record { pdu_bad = λ n. same_self dir; outside = same_self dir; overlong = same_self dir; got = λ octets. same_self dir; got_bits = λ bits. same_self dir };
  reserved = λ i. refl;
  no_bearer = λ i ct. refl;
  nobody = λ i. refl;
}

pub takes_go : (config : Config) (into : Dir) (i k : ℕ) (came : List Came) (layer : Layer) → AllIn into (takes config into i k came layer).lines
takes_go config into i k came layer = takes_all (λ line. goes_in into line ≡ true) config into (in_covers into (length config.bearers)) (λ j n. refl) i k came layer

pub answer_goes : (dir out : Dir) (b : ℕ) (o : Offer) → AllIn dir (line_of_answer out b o ∷ [])
answer_goes dir out b Accepted = (refl, tt)
answer_goes dir out b NoRoom = (refl, tt)
answer_goes dir out b WrongSize = (refl, tt)

-- so those of a bearer are those of that direction
one_on : (dir : Dir) (b : ℕ) (x : Line) → goes_in dir x ≡ true → is_on dir b x ≡ is_of b x
one_on dir b (PduBad d c n) e = ap (λ t. t && (c == b)) e
one_on dir b (Outside d c) e = ap (λ t. t && (c == b)) e
one_on dir b (Overlong d c) e = ap (λ t. t && (c == b)) e
one_on dir b (Got d c octets) e = ap (λ t. t && (c == b)) e
one_on dir b (GotBits d c bits) e = ap (λ t. t && (c == b)) e
one_on dir b (Took d c) e = refl
one_on dir b (Full d c) e = refl
one_on dir b (Wrong d c) e = refl
one_on dir b (Bad d i k) e = refl
one_on dir b (Reserved d i) e = refl
one_on dir b (NoBearer d i ct) e = refl
one_on dir b (Nobody d i) e = refl
one_on dir b (Iub d set octets) e = refl
one_on dir b (IubBad d set n) e = refl
one_on dir b (Phy d tfci cells) e = refl
one_on dir b PhyNone e = refl
one_on dir b (BadTti d i n) e = refl
one_on dir b (Differs d i) e = refl

apart : (d e f : Dir) → same_dir d e ≡ true → same_dir e f ≡ false → same_dir d f ≡ false
apart Up Up Up p q = q
apart Up Up Down p q = refl
apart Up Down f p q = absurd (cc)
apart Down Up f p q = absurd (cc)
apart Down Down Up p q = refl
apart Down Down Down p q = q

one_off : (dir other : Dir) (b : ℕ) (x : Line) → same_dir dir other ≡ false → goes_in dir x ≡ true → is_on other b x ≡ false
one_off dir other b (PduBad d c n) q e = ap (λ t. t && (c == b)) (apart d dir other e q)
one_off dir other b (Outside d c) q e = ap (λ t. t && (c == b)) (apart d dir other e q)
one_off dir other b (Overlong d c) q e = ap (λ t. t && (c == b)) (apart d dir other e q)
one_off dir other b (Got d c octets) q e = ap (λ t. t && (c == b)) (apart d dir other e q)
one_off dir other b (GotBits d c bits) q e = ap (λ t. t && (c == b)) (apart d dir other e q)
one_off dir other b (Took d c) q e = refl
one_off dir other b (Full d c) q e = refl
one_off dir other b (Wrong d c) q e = refl
one_off dir other b (Bad d i k) q e = refl
one_off dir other b (Reserved d i) q e = refl
one_off dir other b (NoBearer d i ct) q e = refl
one_off dir other b (Nobody d i) q e = refl
one_off dir other b (Iub d set octets) q e = refl
one_off dir other b (IubBad d set n) q e = refl
one_off dir other b (Phy d tfci cells) q e = refl
one_off dir other b PhyNone q e = refl
one_off dir other b (BadTti d i n) q e = refl
one_off dir other b (Differs d i) q e = refl

pub on_is : (dir : Dir) (b : ℕ) (xs : List Line) → AllIn dir xs → lines_on dir b xs ≡ lines_of b xs
on_is dir b [] h = refl
on_is dir b (x ∷ xs) h = either (is_of b x)
    (λ e. rw (one_on dir b x h.0, e) (ap (λ l. x ∷ l) (on_is dir b xs h.1)))
    (λ e. rw (one_on dir b x h.0, e) (on_is dir b xs h.1))

pub off_is : (dir other : Dir) (b : ℕ) (xs : List Line) → same_dir dir other ≡ false → AllIn dir xs → lines_on other b xs ≡ []
off_is dir other b [] q h = refl
off_is dir other b (x ∷ xs) q h = rw (one_off dir other b x q h.0) (off_is dir other b xs q h.1)

pub on-append : (dir : Dir) (b : ℕ) (xs ys : List Line) → lines_on dir b (xs ++ ys) ≡ lines_on dir b xs ++ lines_on dir b ys
on-append dir b [] ys = refl
on-append dir b (x ∷ xs) ys = either (is_on dir b x)
    (λ e. rw e (ap (λ l. x ∷ l) (on-append dir b xs ys)))
    (λ e. rw e (on-append dir b xs ys))
