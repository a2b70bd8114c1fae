use Rattle.std.proofs.Common.{◌≡◌, ◌+◌, ◌*◌, drop, get_or, sym, ap, ap₂, ◌∙◌}
use Rattle.dch_rlcpdu.specs.declared.sufi.Sufi.TheVariants.{List as Runs, Bitmap}
use Rattle.dch_rlcpdu.specs.Halves.{halves}
use Rattle.dch_rlcpdu.specs.Sufis.{sufi_of}
use Rattle.dch_rlcpdu.proofs.FieldKinds.{field_kind, length-bits_from, length-pairs_from}
use Rattle.dch_rlcpdu.proofs.field.sufi_at.Goals as goal

pub returns-in-3-clause-value : goal.returns-in-3-clause-value
returns-in-3-clause-value c =
    let ns = drop c.args.at (halves c.args.octets.now) in
    let kind : get_or ns 0 0 ≡ 3 = sym c.half.ensures.value ∙ c.in-3.is in
    ap Runs (c.half-in-3.ensures.value ∙ sym (length-pairs_from (get_or ns 1 0) (drop 2 ns))) ∙ sym (ap sufi_of (field_kind ns 3 kind))

pub returns-in-4-clause-value : goal.returns-in-4-clause-value
returns-in-4-clause-value c =
    let ns = drop c.args.at (halves c.args.octets.now) in
    let kind : get_or ns 0 0 ≡ 4 = sym c.half.ensures.value ∙ c.in-4.is in
    ap₂ Bitmap c.number-in-4.ensures.value (ap (λ n. 8 + 8 * n) c.half-in-4.ensures.value ∙ sym (length-bits_from (8 + 8 * get_or ns 1 0) (drop 5 ns) 0))
    ∙ sym (ap sufi_of (field_kind ns 4 kind))
