use Rattle.std.proofs.Common.{◌+◌, [], ◌∷◌, arith, refl, length-append}
use Rattle.dch_rlcpdu.specs.Writing.{ack_text, digits}
use Rattle.dch_rlcpdu.proofs.Texts.{both, lists_of}
use Rattle.dch_rlcpdu.proofs.put.put_status.Goals as goal

pub put_lists-end-requires-clause-place : goal.put_lists-end-requires-clause-place
put_lists-end-requires-clause-place c = omega (arith, length-append (lists_of c.args.pairs.now) (ack_text c.args.lsn))

pub put-requires-clause-place : goal.put-requires-clause-place
put-requires-clause-place c = omega (arith, length-append (lists_of c.args.pairs.now) (ack_text c.args.lsn), c.put_lists-end.ensures.end)

pub put_number-requires-clause-place : goal.put_number-requires-clause-place
put_number-requires-clause-place c = omega (arith, length-append (lists_of c.args.pairs.now) (ack_text c.args.lsn), c.put_lists-end.ensures.end)

pub overflow_add-end : goal.overflow_add-end
overflow_add-end c = omega (arith, length-append (lists_of c.args.pairs.now) (ack_text c.args.lsn), c.put_lists-end.ensures.end)

pub returns : goal.returns
returns c =
    both (lists_of c.args.pairs.now) (ack_text c.args.lsn) c.args.at c.put_lists-end.result c.args.out.now c.put_lists-end.new.out c.put_number.new.out c.put_lists-end.ensures.end c.put_lists-end.ensures.text
    (both (2 ∷ []) (digits c.args.lsn) c.put_lists-end.result (c.put_lists-end.result + 1) c.put_lists-end.new.out c.put.new.out c.put_number.new.out refl c.put.ensures c.put_number.ensures)
