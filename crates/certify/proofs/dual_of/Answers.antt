use Rattle.std.proofs.Common.{ap, ap₂, ◌∙◌, List, Float}
use Rattle.std.specs.Float.Ieee.{neg}
use Rattle.float64.specs.Ops.{◌⊕◌, ◌⊗◌, half}
use Rattle.vectors.specs.Sums.{norm2_sq, dot}
use Rattle.differences.specs.Diff.{diff_kt}
use Rattle.certify.proofs.Laws.{clamped_first}
use Rattle.certify.proofs.dual_of.Goals as goal

pub returns : goal.returns
returns c = let a = c.args in
    let first = clamped_first a.lam a.z.now a.dual.now _ c.requires.2 c.clamp_into.ensures in (
      ap₂ (λ (u v : Float). neg half ⊗ u ⊕ v)
          (c.fall_squares-a.ensures ∙ ap (λ (v : List Float). norm2_sq (diff_kt a.k v)) first)
          (c.product-b.ensures ∙ ap (λ (v : List Float). dot v a.dy.now) first),
      c.clamp_into.ensures,
    )
