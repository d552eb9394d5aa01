-- The whole number nearest to a root: from the root's whole part and the rest, and how large it is. Assumes nothing.
use mathlib.Core.Path.{◌≡◌, sym, ap, ◌∙◌}
use Prim.Native.Nat.{ℕ, suc, ◌+◌, ◌-◌, ◌*◌, ◌^◌, ◌≤◌, ◌<◌, compare, Ordering}
use native.Mathlib.Nat.{le_of_suc-le-suc, lt_of_le_of_lt, le_trans, le_of_lt, le_of_eq}
use native.Mathlib.Numerals.{add-one}
use native.Mathlib.Omega.{arith}
use lib.Ieee.{nearest}
use lib.Ieee.Nearest.{nearest-ge}
use Rattle.square_root.specs.Sqrt.{isqrt}
use Rattle.square_root.specs.Parts.{rounded_root}
use Rattle.float64.proofs.Spacing.{Cmp, cmp}
use Rattle.square_root.proofs.Root.{cmp_is, Root, sq_back, isqrt_root, isqrt_is}

-- ---- with n = q * q + rest

module _ (n q rest : ℕ) (e : n ≡ q * q + rest) (r : rest ≤ 2 * q) where
  is_root : Root n q
  is_root = (omega arith, omega arith)

  pub rounded_up : q < rest → rounded_root n ≡ q + 1
  unfolding rounded_root
  rounded_up h = rw (isqrt_is n q is_root) (ap (nearest q) (cmp_is (compare (4 * n) ((2 * q + 1) * (2 * q + 1))) Ordering.gt (4 * n) ((2 * q + 1) * (2 * q + 1)) (cmp (4 * n) ((2 * q + 1) * (2 * q + 1))) (omega arith)) ∙ sym (add-one q))

  pub rounded_down : rest ≤ q → rounded_root n ≡ q
  unfolding rounded_root
  rounded_down h = rw (isqrt_is n q is_root) (ap (nearest q) (cmp_is (compare (4 * n) ((2 * q + 1) * (2 * q + 1))) Ordering.lt (4 * n) ((2 * q + 1) * (2 * q + 1)) (cmp (4 * n) ((2 * q + 1) * (2 * q + 1))) (omega arith)))

-- ---- how large it is

module _ (w : ℕ) (a : 2 ^ 52 ≤ w) (b : w + 2 ≤ 2 ^ 54) where
  pub root_in : (2 ^ 52 ≤ isqrt (w * 2 ^ 52)) × (isqrt (w * 2 ^ 52) < 2 ^ 53)
  root_in =
      let r = isqrt_root (w * 2 ^ 52) in (
        le_of_suc-le-suc (sq_back (2 ^ 52) (suc (isqrt (w * 2 ^ 52))) (lt_of_le_of_lt (omega arith) r.1)),
        sq_back (isqrt (w * 2 ^ 52)) (2 ^ 53) (lt_of_le_of_lt r.0 (omega arith)),
      )

  near_lt : (q : ℕ) (o : Ordering) → q < 2 ^ 53 → Cmp o (4 * (w * 2 ^ 52)) ((2 * q + 1) * (2 * q + 1)) → nearest q o < 2 ^ 53
  near_lt q Ordering.lt h c = h
  near_lt q Ordering.eq h c = let s : 2 * q + 1 < 2 ^ 54 - 1 = sq_back (2 * q + 1) (2 ^ 54 - 1) (lt_of_le_of_lt (le_of_eq (sym c)) (omega arith)) in omega arith
  near_lt q Ordering.gt h c = let s : 2 * q + 1 < 2 ^ 54 - 1 = sq_back (2 * q + 1) (2 ^ 54 - 1) (lt_of_le_of_lt (le_of_lt c) (omega arith)) in omega arith

  pub rounded_ge : 2 ^ 52 ≤ rounded_root (w * 2 ^ 52)
  unfolding rounded_root
  rounded_ge = let q = isqrt (w * 2 ^ 52) in le_trans root_in.0 (nearest-ge q (compare (4 * (w * 2 ^ 52)) ((2 * q + 1) * (2 * q + 1))))

  pub rounded_lt : rounded_root (w * 2 ^ 52) < 2 ^ 53
  unfolding rounded_root
  rounded_lt = let q = isqrt (w * 2 ^ 52) in near_lt q (compare (4 * (w * 2 ^ 52)) ((2 * q + 1) * (2 * q + 1))) root_in.1 (cmp (4 * (w * 2 ^ 52)) ((2 * q + 1) * (2 * q + 1)))
