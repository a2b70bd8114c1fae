-- Bearers in lines on units are those of the configuration, so that their numbers are small.
use Rattle.std.proofs.Common.{◌≡◌, ◌<◌, ◌≤◌, ◌^◌, arith, ℕ, List, [], ◌∷◌, ◌++◌, true, false, length, refl, ap}
use Rattle.std.specs.Prelude.{◌&&◌, ◌==◌}
use Rattle.dch_bits.specs.declared.bit.Bit.{Bit}
use Rattle.dch_bits.specs.declared.offer.Offer.{Offer}
use Rattle.dch_bits.specs.declared.offer.Offer.TheVariants.{Accepted, Full as NoRoom, WrongSize}
use Rattle.dch_types.specs.declared.channel.Dir.{Dir}
use Rattle.dch_types.specs.declared.channel.Dir.TheVariants.{Up, Down}
use Rattle.dch_types.specs.declared.config.Config.{Config}
use Rattle.dch_layer2.specs.Bearings.{line_of_answer}
use Rattle.dch_layer2.specs.Layers.{Came, Layer, takes}
use Rattle.dch_node.specs.Lines.{Line, Took, Full, Wrong, Bad, Reserved, NoBearer, Nobody, PduBad, Outside, Overlong, Got, GotBits, Iub, IubBad, Phy, PhyNone, BadTti, Differs}
use Rattle.dch_damage.specs.Damage.{same_dir}
use Rattle.dch_runlaw.specs.Directions.{is_on, lines_on}
use Rattle.dch_runlaw.specs.TmHistory.{bits_lines}
use Rattle.dch_runlaw.specs.UmHistory.{got_lines}
use Rattle.dch_runlaw.specs.Rows.{AreSmall, IsSmall, gots, is_got}
use Rattle.dch_runlaw.proofs.Names.{same_number}
use Rattle.dch_runlaw.proofs.Sublists.{either}
use Rattle.dch_runlaw.proofs.TextTakes.{Covers, Every, takes_all}

pub small_append : (xs ys : List Line) → AreSmall xs → AreSmall ys → AreSmall (xs ++ ys)
small_append [] ys h k = k
small_append (x ∷ xs) ys h k = (h.0, small_append xs ys h.1 k)

number_small : (b count : ℕ) → b < count → count ≤ 16 → b < 2 ^ 64
number_small b count l few = omega (arith, l, few)

small_covers : (dir : Dir) (count : ℕ) → count ≤ 16 → Covers IsSmall dir count
small_covers dir count few = record {
  bearer = λ b l. record { pdu_bad = λ n. tt; outside = tt; overlong = tt; got = λ octets. number_small b count l few; got_bits = λ bits. number_small b count l few };
  reserved = λ i. tt;
  no_bearer = λ i ct. tt;
  nobody = λ i. tt;
}

all_small : (xs : List Line) → Every IsSmall xs → AreSmall xs
all_small [] h = tt
all_small (x ∷ xs) h = (h.0, all_small xs h.1)

pub takes_small : (config : Config) (into : Dir) (i k : ℕ) (came : List Came) (layer : Layer) → length config.bearers ≤ 16 → AreSmall (takes config into i k came layer).lines
takes_small config into i k came layer few = all_small (takes config into i k came layer).lines (takes_all IsSmall config into (small_covers into (length config.bearers) few) (λ j n. tt) i k came layer)

pub answer_small : (out : Dir) (b : ℕ) (o : Offer) → AreSmall (line_of_answer out b o ∷ [])
answer_small out b Accepted = (tt, tt)
answer_small out b NoRoom = (tt, tt)
answer_small out b WrongSize = (tt, tt)

-- units handed up are among the lines of their bearer
got_off : (dir : Dir) (b : ℕ) (x : Line) → is_on dir b x ≡ false → is_got dir b x ≡ false
got_off dir b (Took d c) e = refl
got_off dir b (Full d c) e = refl
got_off dir b (Wrong d c) e = refl
got_off dir b (Bad d i k) e = refl
got_off dir b (Reserved d i) e = refl
got_off dir b (NoBearer d i ct) e = refl
got_off dir b (Nobody d i) e = refl
got_off dir b (PduBad d c n) e = refl
got_off dir b (Outside d c) e = refl
got_off dir b (Overlong d c) e = refl
got_off dir b (Got d c octets) e = e
got_off dir b (GotBits d c bits) e = e
got_off dir b (Iub d set octets) e = refl
got_off dir b (IubBad d set n) e = refl
got_off dir b (Phy d tfci cells) e = refl
got_off dir b PhyNone e = refl
got_off dir b (BadTti d i n) e = refl
got_off dir b (Differs d i) e = refl

pub gots_on : (dir : Dir) (b : ℕ) (xs : List Line) → gots dir b xs ≡ gots dir b (lines_on dir b xs)
gots_on dir b [] = refl
gots_on dir b (x ∷ xs) = either (is_on dir b x)
    (λ e. rw e (either (is_got dir b x)
    (λ f. rw f (ap (λ l. x ∷ l) (gots_on dir b xs)))
    (λ f. rw f (gots_on dir b xs))))
    (λ e. rw (e, got_off dir b x e) (gots_on dir b xs))

own_dir : (dir : Dir) (b : ℕ) → (same_dir dir dir && (b == b)) ≡ true
own_dir Up b = same_number b b refl
own_dir Down b = same_number b b refl

pub gots_units : (dir : Dir) (b : ℕ) (us : List (List ℕ)) → gots dir b (got_lines dir b us) ≡ got_lines dir b us
gots_units dir b [] = refl
gots_units dir b (u ∷ us) = rw (own_dir dir b) (ap (λ l. Got dir b u ∷ l) (gots_units dir b us))

pub gots_bits : (dir : Dir) (b : ℕ) (us : List (List Bit)) → gots dir b (bits_lines dir b us) ≡ bits_lines dir b us
gots_bits dir b [] = refl
gots_bits dir b (u ∷ us) = rw (own_dir dir b) (ap (λ l. GotBits dir b u ∷ l) (gots_bits dir b us))
