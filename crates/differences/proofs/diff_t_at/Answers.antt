use Rattle.std.proofs.Common.{◌≡◌, ◌+◌, length, sym, ap₂, ◌∙◌, arith}
use Rattle.std.proofs.lemmas.Bool.Decides.{nat_tests}
use Rattle.std.specs.Float.{Float}
use Rattle.float64.specs.Ops.{◌⊖◌}
use Rattle.vectors.specs.Vec.{at}
use Rattle.differences.specs.Diff.{fall}
use Rattle.differences.specs.Ends.{before, here}
use Rattle.differences.proofs.Laws.{fall_at_2}
use Rattle.differences.proofs.diff_t_at.Goals as goal
use Rattle.differences.proofs.diff_t_at.Goals.{then-j-gt0, else-j-gt0, then-j-z-2, else-j-z-2}

pub returns : goal.returns
returns c = let z = c.args.z.now in
    let j = c.args.j in
    let b : c.if-j-gt0.before ≡ before (fall (length z) (at z)) j = elim c.if-j-gt0.branch [ then-j-gt0 w ↦ grind (arith, nat_tests) | else-j-gt0 w ↦ grind (arith, nat_tests) ] in
    let h : c.if-j-z-2.here ≡ here (length z + 1) (fall (length z) (at z)) j = elim c.if-j-z-2.branch [ then-j-z-2 w ↦ grind (arith, nat_tests) | else-j-z-2 w ↦ grind (arith, nat_tests) ] in
    ap₂ (λ (x y : Float). x ⊖ y) b h ∙ sym (fall_at_2 c.args.k z j (omega arith) (omega arith))
