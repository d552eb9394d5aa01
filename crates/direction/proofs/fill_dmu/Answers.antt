use Rattle.std.proofs.Common.{◌≡◌, ◌+◌, ℕ, ◌<◌, ◌∙◌, List, Float, length, length-set, arith, of_calls}
use Rattle.std.specs.Float.{nan}
use native.Mathlib.Nat.{ne_of_lt, ne_of_gt}
use lib.ListN.{set}
use lib.Seq.{get_or-set_other}
use Rattle.vectors.specs.Vec.{at}
use Rattle.vectors.specs.Parts.{Kept}
use Rattle.vectors.proofs.Laws.{store_more}
use Rattle.vectors.proofs.Parts.{store_done}
use Rattle.direction.proofs.fill_dmu.Goals as goal

kept_more : {a i : ℕ} {s₀ s : List Float} (x : Float) → Kept a i s₀ s → a + i < length s → Kept a (i + 1) s₀ (set s (a + i) x)
kept_more {a} {i} {s = s} x k h = record {
  size = length-set s (a + i) x ∙ k.size;
  below = λ j l. get_or-set_other s (a + i) j x nan (ne_of_lt (omega arith)) ∙ k.below j l;
  above = λ j l. get_or-set_other s (a + i) j x nan (ne_of_gt (omega arith)) ∙ k.above j (omega arith);
}

pub loop-i-preserved : goal.loop-i-preserved
loop-i-preserved g c =
    let a = c.args in
    let i = c.loop-i.i in
    let k = c.loop-i.invariant.0 in (
      kept_more c.dmu.result k (omega (arith, k.size)),
      λ f e.
          store_more (a.b + a.c) i (λ i. f (at a.s.now i) (at a.s.now (a.c + i)) (at a.s.now (a.b + i))) a.s.now c.loop-i.s c.dmu.result (c.loop-i.invariant.1 f e) (omega (arith, k.size))
          (e (at c.loop-i.s i) (at c.loop-i.s (a.c + i)) (at c.loop-i.s (a.b + i)) c.dmu.result (search of_calls) ∙ rw (k.below i (omega arith), k.below (a.c + i) (omega arith), k.below (a.b + i) (omega arith))),
    )

pub returns-clause-moved : goal.returns-clause-moved
returns-clause-moved g c = λ f e.
    let a = c.args in
    let q : c.loop-i.i ≡ a.m = omega arith in
    store_done nan (a.b + a.c) a.m (λ i. f (at a.s.now i) (at a.s.now (a.c + i)) (at a.s.now (a.b + i))) a.s.now c.loop-i.s (rw q at (c.loop-i.invariant.1 f e))

pub returns-clause-kept : goal.returns-clause-kept
returns-clause-kept g c = let q : c.loop-i.i ≡ c.args.m = omega arith in rw q at c.loop-i.invariant.0
