use Rattle.std.proofs.Common.{◌≡◌, ◌∙◌, List, ℕ, arith, subst, sym}
use Rattle.dch_stages.specs.Answers.{places_text}
use Rattle.dch_stages.proofs.Lines.{more_places, no_places}
use Rattle.dch_stages.proofs.answers.put_places.Goals as goal

pub loop-place-init : goal.loop-place-init
loop-place-init g c =
    let tti = c.args.tti in
    subst (λ (t : List ℕ). g.P.Page.writes c.args.page.now t c.args.page.now) (sym (no_places c.args.accepted.now tti.dir tti.channel tti.format c.args.bit)) (g.met.P.Page.nothing c.args.page.now)

pub loop-place-preserved : goal.loop-place-preserved
loop-place-preserved g c =
    let tti = c.args.tti in
    subst (λ (t : List ℕ). g.P.Page.writes c.args.page.now t c.put_place.new.page) (sym (more_places c.args.accepted.now tti.dir tti.channel tti.format c.args.bit c.loop-place.place))
    (g.met.P.Page.joined _ _ _ _ _ c.loop-place.invariant c.put_place.ensures.text)

pub returns : goal.returns
returns g c =
    let tti = c.args.tti in
    let last : c.loop-place.place ≡ c.cells_of-place-end.result = omega (arith, c.loop-place-test.false, c.loop-place.auto.place-end) in
    record { text = subst (λ (n : ℕ). g.P.Page.writes c.args.page.now (places_text c.args.accepted.now tti.dir tti.channel tti.format c.args.bit n) c.loop-place.page) (last ∙ c.cells_of-place-end.ensures.value) c.loop-place.invariant }
