use Rattle.std.proofs.Common.{refl, sym, ap, ◌∙◌, ◌+◌, ◌-◌, length, arith}
use Rattle.vectors.specs.Sums.{inside}
use Rattle.vectors.proofs.Parts.{range_part}
use Rattle.certificate.proofs.Laws.{certified}
use Rattle.certify.proofs.Laws.{beside, point, length-point}
use Rattle.certify.proofs.certify_l1.Goals as goal

pub certify_inside-requires : goal.certify_inside-requires
certify_inside-requires c =
    let n = length c.args.y.now in
    let z = range_part n (n + (n - c.args.k)) (n - c.args.k) c.args.s.now refl c.requires.0.room in
    (c.requires.0, c.requires.1, ap (inside c.args.lam) (sym z) ∙ sym c.inside.ensures ∙ c.if-inside.true)

pub passes-t-requires : goal.passes-t-requires
passes-t-requires c = beside c.requires.0

pub dual_of-g-requires : goal.dual_of-g-requires
dual_of-g-requires c =
    let l = length-point c.requires.0 c.passes-t.ensures in
    let d = (beside c.requires.0).long in
    (c.requires.0.series.order, omega arith, omega arith)

pub returns : goal.returns
returns c =
    let z = point c.requires.0 c.passes-t.ensures in
    certified c.requires.0 c.passes-t.ensures c.args.lam c.args.dual.now _ c.requires.1 c.primal_of.ensures
    (rw z at c.dual_of-g.ensures.0) (rw z at c.dual_of-g.ensures.1)
