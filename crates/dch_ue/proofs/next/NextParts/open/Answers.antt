use Rattle.dch_ue.proofs.next.NextParts.open.Goals as goal

pub returns : goal.returns
returns c = record {
  layer = c.in_ok-open.ensures;
  receiver = c.in_ok-open-2.ensures.opened;
  missing = c.in_ok-open-2.ensures.missing;
  none = c.in_ok-open-2.ensures.none;
  ttis = c.in_ok-open-2.ensures.quiet;
  transmitter = c.in_ok-open-3.ensures.opened;
  quiet = c.in_ok-open-3.ensures.quiet;
}
