-- What a good configuration says of the blocks of a bearer.
use Rattle.std.proofs.Common.{◌≡◌, ◌≤◌, ◌<◌, ◌∙◌, ℕ, List, [], Bool, true, false, Option, Some, None, length, refl, sym, ap, subst}
use Rattle.std.specs.Prelude.{IsSome}
use Rattle.dch_types.specs.declared.channel.Dir.{Dir}
use Rattle.dch_types.specs.declared.channel.Dir.TheVariants.{Up, Down}
use Rattle.dch_types.specs.declared.bearer.Mode.TheVariants.{Tm, Um, Am}
use Rattle.dch_types.specs.declared.config.Config.{Config}
use Rattle.dch_types.specs.Parts.{channel_at, side_of}
use Rattle.dch_config.specs.Bearers.{has_ct}
use Rattle.dch_config.specs.Good.{IsGood}
use Rattle.dch_rlctm.specs.Waiting.{Waiting, is_size}
use Rattle.dch_rlcum.specs.Sending.{Sending}
use Rattle.dch_layer2.specs.Bearings.{bearer_in, channel_of, field_on, pdu_octets, sizes_in, sizes_on}
use Rattle.dch_layer2.proofs.Good.{AreFilled, am_fits, field_named, no_field, um_fits}
use Rattle.dch_layer2.specs.BearerStanding.{HoldsUnits, StandsTm}
use Rattle.dch_layer2.specs.BearerValues.{IsFilling, TmRunning}
use Rattle.dch_layer2.specs.declared.shape.Shape.{Shape}
use Rattle.dch_layer2.specs.Shapes.{IsNumber, IsWhole, shape_of}

-- whole octets, at least and at most so many, fill the blocks behind the field
pub record IsFit (config : Config) (dir : Dir) (b low high : ℕ) : Type 0 where
  pub least : low ≤ pdu_octets config dir b
  pub most : pdu_octets config dir b ≤ high
  pub whole : IsWhole (shape_of config dir b)

number_by : (config : Config) (dir : Dir) (b i : ℕ) → IsGood config → channel_of config dir b ≡ Some i → (c : Bool) → has_ct config dir i ≡ c → IsNumber (field_on config dir b (Some i))
number_by config dir b i good e true h = rw h (field_named config dir b i good e h)
number_by config dir b i good e false h = rw h tt

fit_by : (config : Config) (dir : Dir) (b i low high : ℕ) → IsGood config → channel_of config dir b ≡ Some i → AreFilled config dir b i low high → IsFit config dir b low high
fit_by config dir b i low high good e fits = record {
  least = fits.least;
  most = fits.most;
  whole = record { number = subst (λ o. IsNumber (field_on config dir b o)) (sym e) (number_by config dir b i good e (has_ct config dir i) refl); whole = fits.whole };
}

pub um_fit : (config : Config) (dir : Dir) (b i : ℕ) → IsGood config → channel_of config dir b ≡ Some i → (bearer_in config b).mode ≡ Um → IsFit config dir b 3 125
um_fit config dir b i good e m = fit_by config dir b i 3 125 good e (um_fits config dir b i good e m)

-- an acknowledged bearer has both channels
both : (config : Config) (dir : Dir) (b : ℕ) → IsGood config → b < length config.bearers → (bearer_in config b).mode ≡ Am → IsSome (channel_of config dir b)
both config Up b good l m = ((good.bearers b l).both m).0
both config Down b good l m = ((good.bearers b l).both m).1

pub am_fit : (config : Config) (dir : Dir) (b : ℕ) → IsGood config → b < length config.bearers → (bearer_in config b).mode ≡ Am → IsFit config dir b 6 126
am_fit config dir b good l m = go (channel_of config dir b) refl (both config dir b good l m)
  where
    go : (o : Option ℕ) → channel_of config dir b ≡ o → IsSome o → IsFit config dir b 6 126
    go None e some = let h : false ≡ true = some in absurd (cc)
    go (Some i) e some = fit_by config dir b i 6 126 good e (am_fits config dir b i good e m)

-- a sender that was opened for the PDUs of an unacknowledged bearer
pub um_filling : (config : Config) (dir : Dir) (b i : ℕ) (shape : Shape) (s : Sending) → IsGood config → channel_of config dir b ≡ Some i → (bearer_in config b).mode ≡ Um → shape ≡ shape_of config dir b → s.pdu ≡ shape.octets → IsFilling shape s
um_filling config dir b i shape s good e m is pdu =
    let fit : IsFit config dir b 3 125 = um_fit config dir b i good e m in
    record { octets = pdu; most = subst (λ (x : Shape). x.octets ≤ 125) (sym is) fit.most; whole = subst IsWhole (sym is) fit.whole }

-- a transparent bearer that was opened for its channel
pub tm_opened : (config : Config) (out into : Dir) (b i : ℕ) (sizes : List ℕ) (t : Waiting) (v : TmRunning) → IsGood config → (bearer_in config b).mode ≡ Tm → channel_of config out b ≡ Some i →
    sizes ≡ sizes_in (channel_at (side_of config out) i).formats → t.units ≡ [] → t.buffer ≡ (bearer_in config b).buffer → v ≡ record { number = b; into = into; sizes = sizes; sender = Some t } →
    StandsTm config out into b (record { units = []; buffer = (bearer_in config b).buffer; most = 5000 }) v
tm_opened config out into b i sizes t v good m e sizes_are none room is = subst (StandsTm config out into b (record { units = []; buffer = (bearer_in config b).buffer; most = 5000 })) (sym is) (record {
  mode = m;
  number = refl;
  comes_in = refl;
  sizes = λ n. ap (λ these. is_size these n) (sizes_are ∙ sym (ap (sizes_on config out) e));
  units = subst (λ o. HoldsUnits o (record { units = []; buffer = (bearer_in config b).buffer; most = 5000 }) (Some t)) (sym e) (none, room);
  no_field = no_field config out b (Some i) good e m;
})
