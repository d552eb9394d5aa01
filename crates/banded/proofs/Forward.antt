-- The right side carried forward: what it reads, how long it is. Assumes nothing.
use mathlib.Core.List.{List, [], ◌∷◌, ◌++◌}
use mathlib.Core.Path.{◌≡◌, refl, ap, ◌∙◌}
use Prim.Native.Nat.{ℕ, zero, suc, ◌+◌, ◌-◌, ◌<◌}
use native.Mathlib.Numerals.{add-one}
use native.Mathlib.Omega.{arith}
use lib.ListN.{length, length-append}
use lib.Ieee.{Float}
use Rattle.vectors.specs.Vec.{at}
use Rattle.banded.specs.Rows.{line}
use Rattle.banded.specs.Solve.{forward_at, forward}
use Rattle.banded.specs.Run.{look}
use Rattle.banded.proofs.Laws.{less_from_ext}

-- what a place carried forward reads, p the places of rows
pub forward_ext : (k i : ℕ) (p p' : ℕ → ℕ → Float) (u u' : ℕ → Float) (v : Float) → ((c : ℕ) → c < k → p i c ≡ p' i c) → ((j : ℕ) → j < i → u j ≡ u' j)
    → forward_at k (λ r t. p r (t + k - r)) u v i ≡ forward_at k (λ r t. p' r (t + k - r)) u' v i
unfolding forward_at
forward_ext k i p p' u u' v h g = less_from_ext v _ _ (i - k) i (λ j o b. rw (h (j + k - i) (omega arith), g j b))

pub length-forward : (k : ℕ) (f : List (List Float)) (v : List Float) (n : ℕ) → length (forward k f v n) ≡ n
unfolding forward
length-forward k f v zero = refl
length-forward k f v (suc n) = length-append (forward k f v n) _ ∙ rw (length-forward k f v n) (add-one n)

-- n places read n rows
pub forward-rows : (k : ℕ) (f g : List (List Float)) (v : List Float) (n : ℕ) → ((i : ℕ) → i < n → line f i ≡ line g i) → forward k f v n ≡ forward k g v n
unfolding forward
forward-rows k f g v zero h = refl
forward-rows k f g v (suc n) h =
    rw (forward-rows k f g v n (λ i b. h i (omega arith)))
    (ap (λ (x : Float). forward k g v n ++ (x ∷ []))
    (forward_ext k n (look f) (look g) (at (forward k g v n)) (at (forward k g v n)) (at v n) (λ c b. rw (h n (omega arith))) (λ j b. refl)))
