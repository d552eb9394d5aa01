-- Laws of D and D': how long they are, and what stands at each place of them. Assumes nothing.
use mathlib.Core.Path.{◌≡◌, sym, ap₂, ◌∙◌}
use mathlib.Core.List.{List}
use Prim.Native.Nat.{ℕ, zero, suc, ◌+◌, ◌-◌, ◌≤◌, ◌<◌}
use native.Mathlib.Nat.{sub-zero}
use native.Mathlib.Omega.{arith}
use borrow.Author.Tests.{lt-ltb, ltb-true}
use lib.Dec.{ltb}
use lib.ListN.{length}
use lib.Ieee.{Float}
use Rattle.float64.specs.Ops.{◌⊖◌}
use Rattle.vectors.specs.Vec.{at}
use Rattle.vectors.proofs.Laws.{length-list, at-list, cond_cong}
use Rattle.differences.specs.Diff.{rise, diff, diff_k, fall, diff_t, diff_kt}
use Rattle.differences.specs.Ends.{before, here}

-- ---- D

pub length-diff : (v : List Float) → length (diff v) ≡ length v - 1
unfolding diff
length-diff v = length-list (length v - 1) (rise v)

pub length-diff_k : (k : ℕ) (v : List Float) → length (diff_k k v) ≡ length v - k
unfolding diff_k
length-diff_k zero v = sym (sub-zero (length v))
length-diff_k (suc k) v = length-diff (diff_k k v) ∙ omega (arith, length-diff_k k v)

pub at-diff : (v : List Float) (i : ℕ) → i + 1 < length v → at (diff v) i ≡ rise v i
unfolding diff
at-diff v i h = at-list (length v - 1) (rise v) i (omega arith)

-- place i of D, straight from the series, for order 1 and 2
pub at-diff_1 : (v : List Float) (i : ℕ) → i + 1 < length v → at (diff_k 1 v) i ≡ at v (i + 1) ⊖ at v i
unfolding diff_k
at-diff_1 v i h = at-diff v i h

pub at-diff_2 : (v : List Float) (i : ℕ) → i + 2 < length v
    → at (diff_k 2 v) i ≡ (at v (i + 2) ⊖ at v (i + 1)) ⊖ (at v (i + 1) ⊖ at v i)
unfolding diff_k
at-diff_2 v i h =
    let n = length-diff v in
    let q : i + 1 + 1 ≡ i + 2 = omega arith in
    let a : at (diff v) (i + 1) ≡ at v (i + 2) ⊖ at v (i + 1) = at-diff v (i + 1) (omega arith) ∙ rw q in
    at-diff (diff v) i (omega arith) ∙ rw (a, at-diff v i (omega arith))

-- the same with the order as the code has it
pub diff_at_1 : (k : ℕ) (v : List Float) (i : ℕ) → k ≡ 1 → i + k < length v → at (diff_k k v) i ≡ at v (i + 1) ⊖ at v i
diff_at_1 k v i e h = rw e (at-diff_1 v i (omega arith))

pub diff_at_2 : (k : ℕ) (v : List Float) (i : ℕ) → k ≡ 2 → i + k < length v
    → at (diff_k k v) i ≡ (at v (i + 2) ⊖ at v (i + 1)) ⊖ (at v (i + 1) ⊖ at v i)
diff_at_2 k v i e h = rw e (at-diff_2 v i (omega arith))

-- ---- D'

pub length-diff_t : (v : List Float) → length (diff_t v) ≡ length v + 1
unfolding diff_t
length-diff_t v = length-list (length v + 1) (fall (length v) (at v))

pub length-diff_kt : (k : ℕ) (v : List Float) → length (diff_kt k v) ≡ length v + k
unfolding diff_kt
length-diff_kt zero v = omega arith
length-diff_kt (suc k) v = length-diff_t (diff_kt k v) ∙ omega (arith, length-diff_kt k v)

pub ruleset lengths = (length-diff_k, length-diff_kt)

pub at-diff_t : (v : List Float) (j : ℕ) → j < length v + 1 → at (diff_t v) j ≡ fall (length v) (at v) j
unfolding diff_t
at-diff_t v j h = at-list (length v + 1) (fall (length v) (at v)) j h

-- w[j-1] - w[j] where both stand in the series
pub fall_inner : (m : ℕ) (w : ℕ → Float) (j : ℕ) → 0 < j → j < m → fall m w j ≡ w (j - 1) ⊖ w j
fall_inner m w j a b = rw (lt-ltb 0 j a, lt-ltb j m b)

-- place j of D', straight from the dual point, for order 1 and 2
pub at-fall_1 : (v : List Float) (j : ℕ) → j < length v + 1 → at (diff_kt 1 v) j ≡ fall (length v) (at v) j
unfolding diff_kt
at-fall_1 v j h = at-diff_t v j h

pub at-fall_2 : (v : List Float) (j : ℕ) → j < length v + 2
    → at (diff_kt 2 v) j ≡ fall (length v + 1) (fall (length v) (at v)) j
unfolding diff_kt
at-fall_2 v j h =
    let n = length-diff_t v in
    let e = at-diff_t (diff_t v) j (omega arith) in
    let p : before (at (diff_t v)) j ≡ before (fall (length v) (at v)) j = cond_cong (ltb 0 j) _ _ _ (λ _. at-diff_t v (j - 1) (omega arith)) in
    let q : here (length v + 1) (at (diff_t v)) j ≡ here (length v + 1) (fall (length v) (at v)) j =
    cond_cong (ltb j (length v + 1)) _ _ _ (λ t. at-diff_t v j (omega (arith, ltb-true j (length v + 1) t))) in
    e ∙ rw (n, p, q)

pub inner_1 : (v : List Float) (j : ℕ) → 1 ≤ j → j < length v → at (diff_kt 1 v) j ≡ at v (j - 1) ⊖ at v j
inner_1 v j a b = at-fall_1 v j (omega arith) ∙ fall_inner (length v) (at v) j a b

pub inner_2 : (v : List Float) (j : ℕ) → 2 ≤ j → j < length v
    → at (diff_kt 2 v) j ≡ (at v (j - 2) ⊖ at v (j - 1)) ⊖ (at v (j - 1) ⊖ at v j)
inner_2 v j a b =
    let d : j - 1 - 1 ≡ j - 2 = omega arith in
    at-fall_2 v j (omega arith)
    ∙ fall_inner (length v + 1) (fall (length v) (at v)) j (omega arith) (omega arith)
    ∙ ap₂ (λ (x y : Float). x ⊖ y) (fall_inner (length v) (at v) (j - 1) (omega arith) (omega arith) ∙ rw d) (fall_inner (length v) (at v) j (omega arith) b)

-- the same with the order as the code has it
pub fall_at_1 : (k : ℕ) (v : List Float) (j : ℕ) → k ≡ 1 → j < length v + k → at (diff_kt k v) j ≡ fall (length v) (at v) j
fall_at_1 k v j e h = rw e (at-fall_1 v j (omega arith))

pub fall_at_2 : (k : ℕ) (v : List Float) (j : ℕ) → k ≡ 2 → j < length v + k
    → at (diff_kt k v) j ≡ fall (length v + 1) (fall (length v) (at v)) j
fall_at_2 k v j e h = rw e (at-fall_2 v j (omega arith))

pub inner_at_1 : (k : ℕ) (v : List Float) (j : ℕ) → k ≡ 1 → k ≤ j → j < length v → at (diff_kt k v) j ≡ at v (j - 1) ⊖ at v j
inner_at_1 k v j e a b = rw e (inner_1 v j (omega arith) b)

pub inner_at_2 : (k : ℕ) (v : List Float) (j : ℕ) → k ≡ 2 → k ≤ j → j < length v
    → at (diff_kt k v) j ≡ (at v (j - 2) ⊖ at v (j - 1)) ⊖ (at v (j - 1) ⊖ at v j)
inner_at_2 k v j e a b = rw e (inner_2 v j (omega arith) b)
