-- The system and the residual at a place of the run. Assumes nothing.
use mathlib.Core.Path.{◌≡◌, sym, ap, ◌∙◌, refl}
use mathlib.Core.List.{List, [], ◌∷◌}
use Prim.Native.Nat.{ℕ, ◌+◌, ◌-◌, ◌≤◌, ◌<◌}
use native.Mathlib.Nat.{sub_self}
use native.Mathlib.Omega.{arith}
use borrow.Author.Tests.{lt-ltb, le-ltb, le-leb}
use lib.ListN.{length, take, drop}
use lib.Ieee.{Float, binary64, add}
use Rattle.vectors.specs.Vec.{at}
use Rattle.vectors.specs.Parts.{part}
use Rattle.vectors.proofs.Parts.{at_part, range_part, length_part}
use Rattle.gram.specs.Gram.{gram, product}
use Rattle.dual_point.specs.Dual.{Dual, Values, values_at}
use Rattle.dual_point.specs.Places.{point}
use Rattle.newton_system.specs.Newton.{diagonal_shift, system, residual_square_at, rhs_at, rhs}
use Rattle.newton_system.specs.Rows.{residual_square_of, data_of, besides}
use Rattle.vectors.proofs.Laws.{length-list, at-list}
use Rattle.banded.specs.Run.{Stored}
use Rattle.banded.proofs.Storing.{stored_as, first_two, first_three}

-- z, mu1 and mu2 at place i of the point from place a on
pub values_place : (a m : ℕ) (s : List Float) (i x y w : ℕ) → i < m → a + i ≡ x → a + m + i ≡ y → a + m + m + i ≡ w
    → ◌≡◌ {A = Values} (record { z = at s x; mu1 = at s y; mu2 = at s w }) (values_at (point a m s) i)
values_place a m s i x y w h e f g = λ j. record {
  z = sym (at_part a m s i x h e) j;
  mu1 = sym (at_part (a + m) m s i y h f) j;
  mu2 = sym (at_part (a + m + m) m s i w h g) j;
}

-- (D D') z at a place, from the part of the run that is z
pub product_place : (k : ℕ) (g : List Float) (m : ℕ) (s : List Float) (r : ℕ) {q : Float} → q ≡ product k g (take (m - 0) (drop 0 s)) r → m ≤ length s → q ≡ product k g (part 0 m s) r
product_place k g m s r e h = e ∙ ap (λ (v : List Float). product k g v r) (range_part 0 m m s (omega arith) h)

-- what it adds to the square of the residual
pub square_place : (k : ℕ) (g dy : List Float) (lam inv_t : Float) (a m : ℕ) (s : List Float) (i x y w : ℕ) (q : Float) → i < m → a + i ≡ x → a + m + i ≡ y → a + m + m + i ≡ w
    → q ≡ product k g (part a m s) i
    → residual_square_at lam inv_t q (at dy i) (record { z = at s x; mu1 = at s y; mu2 = at s w }) ≡ residual_square_of (data_of k g dy lam inv_t) (point a m s) i
square_place k g dy lam inv_t a m s i x y w q h e f o u = λ j. residual_square_at lam inv_t (u j) (at dy i) (values_place a m s i x y w h e f o j)

-- ---- the point in the first places

-- z, mu1 and mu2 at place i of it
first_values : (m : ℕ) (s : List Float) (i : ℕ) → i < m → ◌≡◌ {A = Values} (record { z = at s i; mu1 = at s (m + i); mu2 = at s (m + m + i) }) (values_at (point 0 m s) i)
first_values m s i h = values_place 0 m s i i (m + i) (m + m + i) h (omega arith) (omega arith) (omega arith)

-- the system beside the diagonal, at place c of row i, and on it
pub system_band : (k : ℕ) (g : List Float) (lam : Float) (p : Dual) (i j c : ℕ) → j + k ≡ i + c → c < k → at g (k - c) ≡ system k g lam p i j
unfolding system gram
system_band k g lam p i j c e l =
    let d : i - j ≡ k - c = omega arith in
    rw (lt-ltb j i (omega arith), d, le-leb (k - c) k (omega arith))

pub system_diagonal : (k : ℕ) (g : List Float) (lam : Float) (m : ℕ) (s : List Float) (i : ℕ) (w : Float) → i < m
    → w ≡ diagonal_shift lam (record { z = at s i; mu1 = at s (m + i); mu2 = at s (m + m + i) }) → add binary64 (at g 0) w ≡ system k g lam (point 0 m s) i i
unfolding system gram
system_diagonal k g lam m s i w o e =
    let f : w ≡ diagonal_shift lam (values_at (point 0 m s) i) = e ∙ λ j. diagonal_shift lam (first_values m s i o j) in
    rw (le-ltb i i (omega arith), sub_self, le-leb 0 k (omega arith), f)

-- ---- the right side at a place

pub length-rhs : (k : ℕ) (g dy : List Float) (lam inv_t : Float) (m : ℕ) (s : List Float) → length (rhs (data_of k g dy lam inv_t) (point 0 m s)) ≡ m
unfolding rhs
length-rhs k g dy lam inv_t m s = length-list (length (part 0 m s)) _ ∙ length_part 0 m s

pub rhs_place : (k : ℕ) (g dy : List Float) (lam inv_t : Float) (m : ℕ) (s : List Float) (i : ℕ) (q : Float) → i < m → q ≡ product k g (part 0 m s) i
    → rhs_at lam inv_t q (at dy i) (record { z = at s i; mu1 = at s (m + i); mu2 = at s (m + m + i) }) ≡ at (rhs (data_of k g dy lam inv_t) (point 0 m s)) i
unfolding rhs
rhs_place k g dy lam inv_t m s i q h e =
    let l = length_part 0 m s in
    (λ j. rhs_at lam inv_t (e j) (at dy i) (first_values m s i h j))
    ∙ sym (at-list (length (part 0 m s)) (λ j. rhs_at lam inv_t (product k g (part 0 m s) j) (at dy j) (values_at (point 0 m s) j)) i (omega arith))

-- ---- a row of 2 places, and of 3

module _ {m r : ℕ} {x : Float} {s₀ s : List Float} (g : List Float) (d : Float) where
  pub put_1 : Stored 1 m r (at (at g 1 ∷ d ∷ [])) x s₀ s → Stored 1 m r (besides 1 g d) x s₀ s
  put_1 st = stored_as st (first_two (at (at g 1 ∷ d ∷ [])) (besides 1 g d) refl refl)

  pub put_2 : Stored 2 m r (at (at g 2 ∷ at g 1 ∷ d ∷ [])) x s₀ s → Stored 2 m r (besides 2 g d) x s₀ s
  put_2 st = stored_as st (first_three (at (at g 2 ∷ at g 1 ∷ d ∷ [])) (besides 2 g d) refl refl refl)
