use Rattle.std.proofs.Common.{◌≡◌, ◌+◌, ◌-◌, sym, ◌∙◌, arith}
use Rattle.differences.proofs.Laws.{at-diff_1, at-diff_2}
use Rattle.certificate.proofs.jump.Goals as goal

pub returns-then-k-eq1 : goal.returns-then-k-eq1
returns-then-k-eq1 c = λ x j o h e l.
    let p : j - 1 + 1 ≡ j = omega arith in
    rw (c.if-k-eq1.true, e, l.near) (sym (at-diff_1 x (j - 1) (omega arith) ∙ rw p))

pub returns-else-k-eq1 : goal.returns-else-k-eq1
returns-else-k-eq1 c = λ x j o h e l.
    let k : c.args.k ≡ 2 = omega arith in
    let p : j - 2 + 2 ≡ j = omega arith in
    let q : j - 2 + 1 ≡ j - 1 = omega arith in
    rw (k, e, l.near, l.far k) (sym (at-diff_2 x (j - 2) (omega arith) ∙ rw (p, q)))
