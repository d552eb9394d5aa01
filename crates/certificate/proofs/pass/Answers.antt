use Rattle.std.proofs.Common.{◌≡◌, ◌+◌, ◌-◌, ap, ◌∙◌, length, take, drop, length-take, length-drop, length-set, arith}
use Rattle.float64.specs.Helpers.{abs_of}
use Rattle.certificate.specs.Run.{fall_of, trend_of}
use Rattle.certificate.proofs.Laws.{length-minus, stored, passed_more, last_more}
use Rattle.certificate.proofs.pass.Goals as goal

pub loop-j-preserved : goal.loop-j-preserved
loop-j-preserved g c =
    let a = c.args in
    let j = c.loop-j.j in
    let n = length a.y.now in
    let size = c.loop-j.invariant.0 in
    let m : length (take (n + (n - a.k) - n) (drop n c.loop-j.s)) ≡ n - a.k = simp (length-take, length-drop) (omega (arith, size)) in
    let d = c.requires.falls.tells _ j c.fall-d.result c.fall-d.ensures m (omega arith) (omega arith) in (
      length-set c.loop-j.s j _ ∙ size,
      λ s₀ p.
          let q = c.loop-j.invariant.1 s₀ p in
          let v = stored q.0.trend (omega arith) (omega arith) d in
          let x = c.jump.ensures (trend_of a.k a.y.now s₀) j (omega arith) (omega (arith, length-minus a.y.now (fall_of a.k a.y.now s₀))) v q.1 in
          (passed_more q.0 (omega arith) (omega arith) (omega arith) d (c.abs-b.ensures ∙ ap abs_of x), last_more (omega arith) v q.1),
    )

pub returns : goal.returns
returns g c = λ s₀ p. let e : c.loop-j.j ≡ c.args.to = omega arith in rw e at (c.loop-j.invariant.1 s₀ p).0
