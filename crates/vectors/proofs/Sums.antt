-- Laws of the sums and of the bound: one more term. Assumes nothing.
use mathlib.Core.Path.{◌≡◌, refl, ◌∙◌}
use Prim.Native.Nat.{ℕ, zero, suc, ◌+◌, ◌-◌, ◌≤◌, ◌<◌}
use mathlib.Core.Logic.{⊎_elim}
use native.Mathlib.Nat.{le_of_suc-le-suc, eq-or-lt_of_le}
use native.Mathlib.Omega.{arith}
use native.Mathlib.Numerals.{add-one}
use mathlib.Core.Bool.{Bool, true, false, ◌&&◌}
use mathlib.Core.List.{List}
use lib.Ieee.{Float, binary64, add, lt}
use Rattle.float64.specs.Helpers.{abs_of, max_of}
use Rattle.vectors.specs.Vec.{at}
use Rattle.vectors.specs.Sums.{sum_to, more, more_from, max_to, inside_to}

pub sum_more : (f : ℕ → Float) (n : ℕ) (a x : Float) → a ≡ sum_to f n → x ≡ f n → add binary64 a x ≡ sum_to f (n + 1)
unfolding sum_to
sum_more f n a x e h = rw (add-one n, e, h)

pub sum_ext : (f g : ℕ → Float) (n : ℕ) → ((j : ℕ) → j < n → f j ≡ g j) → sum_to f n ≡ sum_to g n
unfolding sum_to
sum_ext f g zero h = refl
sum_ext f g (suc n) h = rw (sum_ext f g n (λ j l. h j (omega arith)), h n (omega arith))

pub max-more : (f : ℕ → Float) (n : ℕ) (a x : Float) → a ≡ max_to f n → x ≡ f n → max_of a x ≡ max_to f (n + 1)
unfolding max_to
max-more f n a x e h = rw (add-one n, e, h)

pub both : (a b : Bool) → a && b ≡ true → (a ≡ true) × (b ≡ true)
both true b e = (refl, e)
both false b e = (e, cc)

-- inside says it of every place
pub inside-at : (lam : Float) (v : List Float) (n i : ℕ) → inside_to lam v n ≡ true → i < n → lt (abs_of (at v i)) lam ≡ true
unfolding inside_to
inside-at lam v zero i e h = absurd (omega arith)
inside-at lam v (suc n) i e h =
    let p = both (inside_to lam v n) (lt (abs_of (at v n)) lam) e in
    ⊎_elim (λ (q : i ≡ n). rw q p.1) (λ (l : i < n). inside-at lam v n i p.0 l) (eq-or-lt_of_le (le_of_suc-le-suc h))

-- after a start: what is read, and one more term
pub more_ext : (v : Float) (f g : ℕ → Float) (n : ℕ) → ((t : ℕ) → t < n → f t ≡ g t) → more v f n ≡ more v g n
unfolding more
more_ext v f g zero h = refl
more_ext v f g (suc n) h = rw (more_ext v f g n (λ t l. h t (omega arith)), h n (omega arith))

more-more : (v : Float) (f : ℕ → Float) (n : ℕ) {n' : ℕ} {u x : Float} → u ≡ more v f n → x ≡ f n → n' ≡ suc n → add binary64 u x ≡ more v f n'
unfolding more
more-more v f n e h m = rw (m, e, h)

-- the same from place lo on
pub more_from_none : (v : Float) (f : ℕ → Float) (lo hi : ℕ) → hi ≤ lo → more_from v f lo hi ≡ v
unfolding more_from more
more_from_none v f lo hi h = let z : hi - lo ≡ 0 = omega arith in rw z

pub more_from-more : (v : Float) (f : ℕ → Float) (lo hi : ℕ) {hi' : ℕ} {u x : Float} → u ≡ more_from v f lo hi → x ≡ f hi → lo ≤ hi → hi' ≡ hi + 1 → add binary64 u x ≡ more_from v f lo hi'
unfolding more_from
more_from-more v f lo hi e h g m = let z : lo + (hi - lo) ≡ hi = omega arith in more-more v (λ n. f (lo + n)) (hi - lo) e (h ∙ rw z) (omega arith)
