use Rattle.std.proofs.Common.{◌≡◌, ◌<◌, ◌∙◌, min, length, ap, arith, drop, sym}
use Rattle.dch_rlcpdu.specs.Parts.{ends_of, parts_of}
use Rattle.dch_am.specs.Contents.{all_but_last, body_in, last_of}
use Rattle.dch_am.specs.Receiver.{dead_pieces}
use Rattle.dch_sar.specs.Taking.{added, took_full, took_parts}
use Rattle.dch_amrecv.specs.Reading.{took_one, took_pieces}
use Rattle.dch_amrecv.proofs.Bodies.{dead_is, length-parts, parts_all, parts_behind}
use Rattle.dch_amrecv.proofs.reading.read.Goals as goal

pub returns-in-Some : goal.returns-in-Some
returns-in-Some c =
    let dead : c.min-dead.result ≡ min (dead_pieces c.in-Some.n (body_in c.args.body.now)) (length (ends_of c.args.body.now.indicators)) = dead_is c.in-Some.n c.args.body.now c.previous_full-full.result c.from.result c.saturating_sub-left_out.result c.min-dead.result c.previous_full-full.ensures c.from.ensures c.saturating_sub-left_out.ensures (c.min-dead.ensures ∙ ap (min c.saturating_sub-left_out.result) c.ends.ensures.value) in
    c.take.ensures
    ∙ (ap (took_parts (drop c.min-dead.result (parts_of c.args.body.now))) c.abandon.ensures
    ∙ (parts_behind c.args.body.now (dead_pieces c.in-Some.n (body_in c.args.body.now)) c.min-dead.result _ dead
    ∙ ap (λ t. took_one t (body_in c.args.body.now) c.args.units.now) (sym c.in-Some.is)))

pub returns-in-None : goal.returns-in-None
returns-in-None c =
    let some : 0 < length (parts_of c.args.body.now) = omega (arith, length-parts c.args.body.now) in
    c.take-in-None.ensures
    ∙ (parts_all (parts_of c.args.body.now) (took_full c.previous_full-full.result c.args.units.now) some
    ∙ (ap (λ f. added (last_of (parts_of c.args.body.now)) (took_pieces (all_but_last (parts_of c.args.body.now)) (took_full f c.args.units.now))) c.previous_full-full.ensures
    ∙ ap (λ t. took_one t (body_in c.args.body.now) c.args.units.now) (sym c.in-None.is)))
