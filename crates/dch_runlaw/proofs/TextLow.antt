-- No line on a block, a unit or an answer tells that blocks differ.
use Rattle.std.proofs.Common.{List, [], ◌∷◌, ◌++◌, ℕ, length}
use Rattle.dch_bits.specs.declared.offer.Offer.{Offer}
use Rattle.dch_bits.specs.declared.offer.Offer.TheVariants.{Accepted, Full as NoRoom, WrongSize}
use Rattle.dch_types.specs.declared.channel.Dir.{Dir}
use Rattle.dch_types.specs.declared.config.Config.{Config}
use Rattle.dch_layer2.specs.Bearings.{line_of_answer}
use Rattle.dch_layer2.specs.Layers.{Came, Layer, takes}
use Rattle.dch_node.specs.Lines.{Line}
use Rattle.dch_runlaw.specs.TextDiffering.{AreLow, IsLow}
use Rattle.dch_runlaw.proofs.TextTakes.{Covers, Every, takes_all}

pub low_append : (xs ys : List Line) → AreLow xs → AreLow ys → AreLow (xs ++ ys)
low_append [] ys h k = k
low_append (x ∷ xs) ys h k = (h.0, low_append xs ys h.1 k)

low_covers : (dir : Dir) (count : ℕ) → Covers IsLow dir count
low_covers dir count = record {
  bearer = λ b l. record { pdu_bad = λ n. tt; outside = tt; overlong = tt; got = λ octets. tt; got_bits = λ bits. tt };
  reserved = λ i. tt;
  no_bearer = λ i ct. tt;
  nobody = λ i. tt;
}

all_low : (xs : List Line) → Every IsLow xs → AreLow xs
all_low [] h = tt
all_low (x ∷ xs) h = (h.0, all_low xs h.1)

pub takes_low : (config : Config) (into : Dir) (i k : ℕ) (came : List Came) (layer : Layer) → AreLow (takes config into i k came layer).lines
takes_low config into i k came layer = all_low (takes config into i k came layer).lines (takes_all IsLow config into (low_covers into (length config.bearers)) (λ j n. tt) i k came layer)

pub answer_low : (out : Dir) (b : ℕ) (o : Offer) → AreLow (line_of_answer out b o ∷ [])
answer_low out b Accepted = (tt, tt)
answer_low out b NoRoom = (tt, tt)
answer_low out b WrongSize = (tt, tt)
