use Rattle.std.proofs.Common.{rules, sym}
use Rattle.dch_bench.proofs.round_trip.RoundTrip.open.Goals as goal

pub returns : goal.returns
returns g c = record {
  ends = c.requires;
  noted = λ i f here. let none = c.nothing.ensures i in cc;
  sent = rw (sym c.dir-dir.ensures) c.in_ok-open-2.ensures.opened;
  fits = search rules;
  received = rw (sym c.dir-dir.ensures) c.in_ok-open-3.ensures.opened;
  given = rw (sym c.dir-dir.ensures) c.in_ok-open.ensures.room;
  read = rw (sym c.dir-dir.ensures) c.in_ok-open-4.ensures.room;
}
