use Rattle.std.proofs.Common.{arith, sym, subst, ℕ, ◌-◌, length}
use native.Mathlib.Nat.{zero-add}
use lib.Ieee.{nan}
use Rattle.float64.specs.Ops.{c0}
use Rattle.vectors.specs.Parts.{Written}
use Rattle.vectors.proofs.Laws.{kept_none, written_kept}
use Rattle.vectors.proofs.Parts.{store_done}
use Rattle.gram.specs.Prepared.{preparation}
use Rattle.fit.specs.Fit.{closed, path_zero}
use Rattle.closed_paths.specs.Trends.{trend_of, reach}
use Rattle.closed_paths.proofs.zero_path.Goals as goal

pub returns : goal.returns
unfolding reach trend_of path_zero
returns c =
    let a = c.args in
    let y = a.y.now in
    let n = length y in
    let m = n - a.k in
    let d₀ = a.dual.now in
    let d = c.fill.new.s in
    let made = subst (λ (q : ℕ). Written 0 q (λ j. c0) d₀ d) (sym (zero-add m)) c.fill.ensures in
    rw c.closed.ensures
    (λ l w c'. record {
      says = λ t i. record { trend = y; dual = store_done nan 0 m (λ j. c0) d₀ d made i; numbers = closed c0 c0 };
      stands = omega arith;
      changed = record { work = kept_none (preparation n) l w; cycle = kept_none 0 n c'; dual = written_kept made };
    })
