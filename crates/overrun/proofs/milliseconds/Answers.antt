-- The three numbers are the body's, and each way has a law of `overrun`.
use mathlib.Core.Path.{◌≡◌, ap, ◌∙◌}
use mathlib.Core.Logic.{inl, inr}
use native.Mathlib.Nat.{pos_of_ne-zero}
use lib.ListN.{take, drop}
use Rattle.std.proofs.Common.{arith}
use Rattle.overrun.proofs.Division.{nan_bits}
use Rattle.overrun.specs.Overrun.{frames_in, overrun}
use Rattle.overrun.proofs.Overruns.{frames, frames_in_lem, forward, backward, unrated}
use Rattle.overrun.proofs.milliseconds.Goals as goal
use Rattle.overrun.proofs.milliseconds.Goals.{then-numerator-eq0-via-then-numerator-eq0, then-numerator-eq0-via-else-numerator-eq0+then-denominator-eq0}

pub returns-then-numerator-eq0 : goal.returns-then-numerator-eq0
returns-then-numerator-eq0 c =
    let n = unrated c.number-count.result c.number-numerator.result c.number-denominator.result
    (elim c.then-numerator-eq0.branch [
      | then-numerator-eq0-via-then-numerator-eq0 w ↦ inl w.if-numerator-eq0.true
      | then-numerator-eq0-via-else-numerator-eq0+then-denominator-eq0 w ↦ inr w.if-denominator-eq0.true
    ]) in
    cc (nan_bits, frames_in_lem c.args.s.now c.args.at)

pub returns-then-count-lt2147483648 : goal.returns-then-count-lt2147483648
returns-then-count-lt2147483648 c =
    let e : frames c.number-count.result c.number-numerator.result c.number-denominator.result ≡ frames_in (take 12 (drop c.args.at c.args.s.now)) = cc (frames_in_lem c.args.s.now c.args.at) in
    forward c.number-count.result c.number-numerator.result c.number-denominator.result (pos_of_ne-zero c.if-numerator-eq0.false) (pos_of_ne-zero c.if-denominator-eq0.false) c.quotient.ensures c.if-count-lt2147483648.true (omega arith) (omega arith) (omega arith) ∙ ap overrun e

pub returns-else-count-lt2147483648 : goal.returns-else-count-lt2147483648
returns-else-count-lt2147483648 c =
    let e : frames c.number-count.result c.number-numerator.result c.number-denominator.result ≡ frames_in (take 12 (drop c.args.at c.args.s.now)) = cc (frames_in_lem c.args.s.now c.args.at) in
    backward c.number-count.result c.number-numerator.result c.number-denominator.result (pos_of_ne-zero c.if-numerator-eq0.false) (pos_of_ne-zero c.if-denominator-eq0.false) c.quotient-else-count-lt2147483648.ensures c.if-count-lt2147483648.false (omega arith) (omega arith) (omega arith) ∙ ap overrun e
