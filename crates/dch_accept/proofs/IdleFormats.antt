-- The idle format of a channel is there, and no bit is sent in it.
use Rattle.std.proofs.Common.{◌≡◌, ◌*◌, ℕ, arith, ap, sym, refl}
use Rattle.std.specs.Prelude.{position, unwrap_or, Option, Some, true, ◌==◌}
use Rattle.std.proofs.lemmas.List.Quantifiers.{position-Some}
use Rattle.std.proofs.lemmas.Grind.{common_steps}
use Rattle.dch_types.specs.declared.channel.Trch.{Trch}
use Rattle.dch_types.specs.Limits.{IsChannel, IsFormat, is_idle}
use Rattle.dch_types.specs.Parts.{format_at}
use Rattle.dch_accept.specs.HeldSets.{IsQuiet, IsIdleOf}

quiet_product : (n m : ℕ) → (n * m == 0) ≡ true → n * m ≡ 0
quiet_product n m h = grind (arith, common_steps)

pub quiet_at : (channel : Trch) (at : ℕ) → IsChannel channel → position is_idle channel.formats ≡ Some at → IsQuiet (record { number = at; format = format_at channel at })
quiet_at channel at good found =
    let known = position-Some is_idle channel.formats at (record { number = 0; size = 0 }) found in
    let format : IsFormat channel (format_at channel at) = good.formats at known.0 in record {
      few = format.number;
      none = quiet_product (format_at channel at).number (format_at channel at).size known.1;
    }

pub idle_at_first : (channel : Trch) (at : ℕ) → position is_idle channel.formats ≡ Some at → IsIdleOf channel (record { number = at; format = format_at channel at })
idle_at_first channel at found = record {
  number = ap (λ (o : Option ℕ). unwrap_or o 0) (sym found);
  format = refl;
  there = (position-Some is_idle channel.formats at (record { number = 0; size = 0 }) found).0;
}
