-- The product with D D' away from the ends, at any order and then written out. Assumes nothing.
use mathlib.Core.Path.{◌≡◌, refl, sym, ◌∙◌}
use mathlib.Core.List.{List}
use Prim.Native.Nat.{ℕ, ◌+◌, ◌-◌, ◌≤◌, ◌<◌}
use native.Mathlib.Nat.{min-eq_left}
use native.Mathlib.Omega.{arith}
use lib.ListN.{length}
use lib.Ieee.{Float}
use Rattle.float64.specs.Ops.{◌⊕◌, ◌⊗◌, c0}
use Rattle.vectors.specs.Vec.{at, apart}
use Rattle.vectors.specs.Sums.{more_from}
use Rattle.vectors.proofs.Sums.{more_from_none, more_from-more}
use Rattle.gram.specs.Gram.{product}

-- the terms of place i
abbrev weighed : List Float → List Float → ℕ → ℕ → Float
weighed g v i j = at g (apart i j) ⊗ at v j

-- those of the places from i - k to i + k
all : (k : ℕ) (g v : List Float) (i : ℕ) → i + k < length v → (n : ℕ) → n ≡ i + k + 1 → more_from c0 (weighed g v i) (i - k) n ≡ product k g v i
unfolding product
all k g v i l n e = rw (min-eq_left {n = i + k + 1} {m = length v} (omega arith), e)

-- one more of them: place j, at the distance d
term : (k : ℕ) (g v : List Float) (i j d : ℕ) {n : ℕ} {u : Float} → u ≡ more_from c0 (weighed g v i) (i - k) j → i - k ≤ j → apart i j ≡ d → n ≡ j + 1
    → u ⊕ at g d ⊗ at v j ≡ more_from c0 (weighed g v i) (i - k) n
term k g v i j d e l h m = more_from-more c0 (weighed g v i) (i - k) j e (rw h) l m

none : (k : ℕ) (g v : List Float) (i : ℕ) → c0 ≡ more_from c0 (weighed g v i) (i - k) (i - k)
none k g v i = sym (more_from_none c0 (weighed g v i) (i - k) (i - k) (omega arith))

pub product_1 : (g v : List Float) (i : ℕ) → 1 ≤ i → i + 1 < length v → c0 ⊕ at g 1 ⊗ at v (i - 1) ⊕ at g 0 ⊗ at v i ⊕ at g 1 ⊗ at v (i + 1) ≡ product 1 g v i
product_1 g v i h l =
    let a = term 1 g v i (i - 1) 1 {n = i} (none 1 g v i) (omega arith) (omega arith) (omega arith) in
    let b = term 1 g v i i 0 a (omega arith) (omega arith) refl in
    term 1 g v i (i + 1) 1 b (omega arith) (omega arith) refl ∙ all 1 g v i l (i + 1 + 1) refl

pub product_2 : (g v : List Float) (i : ℕ) → 2 ≤ i → i + 2 < length v
    → c0 ⊕ at g 2 ⊗ at v (i - 2) ⊕ at g 1 ⊗ at v (i - 1) ⊕ at g 0 ⊗ at v i ⊕ at g 1 ⊗ at v (i + 1) ⊕ at g 2 ⊗ at v (i + 2) ≡ product 2 g v i
product_2 g v i h l =
    let a = term 2 g v i (i - 2) 2 {n = i - 1} (none 2 g v i) (omega arith) (omega arith) (omega arith) in
    let b = term 2 g v i (i - 1) 1 {n = i} a (omega arith) (omega arith) (omega arith) in
    let c = term 2 g v i i 0 b (omega arith) (omega arith) refl in
    let d = term 2 g v i (i + 1) 1 {n = i + 2} c (omega arith) (omega arith) (omega arith) in
    term 2 g v i (i + 2) 2 d (omega arith) (omega arith) refl ∙ all 2 g v i l (i + 2 + 1) refl
