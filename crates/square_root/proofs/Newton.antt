-- Whole-number roots, step by step: one digit more, a step of Newton's method, and the last digits with the rounding. Assumes nothing.
use mathlib.Core.Path.{◌≡◌, refl, sym, ◌∙◌, subst}
use Prim.Native.Nat.{ℕ, zero, suc, ◌+◌, ◌-◌, ◌*◌, ◌/◌, ◌%◌, ◌^◌, ◌≤◌, ◌<◌}
use native.Mathlib.Nat.{le_trans, mul-le-mul, mul-le-mul_left, mul-le-mul_right, le_of_mul-le-mul_right, lt_of_mul-lt-mul_right, lt_of_not-le, lt_of_le_of_lt, not-le_of_lt, le_of_suc-le-suc, pow-succ', div-mul-le_self, div-add-mod', mod-lt, le-div_iff_mul-le}
use native.Mathlib.Numerals.{add-one}
use native.Mathlib.Decide.{dec_le}
use native.Mathlib.Omega.{arith}
use lib.Pow.{pow_mono}
use Rattle.square_root.specs.Sqrt.{isqrt}
use Rattle.square_root.specs.Parts.{rounded_root}
use Rattle.square_root.proofs.Root.{Root, sq_back, isqrt_root, isqrt_is}
use Rattle.square_root.proofs.Rounded.{rounded_up, rounded_down}

-- ---- digit by digit

-- with j digits to come: root has the digits so far, and the whole root is below root + 2 ^ j
pub record Digits (h root j : ℕ) : Type 0 where
  pub below : root * root ≤ h
  pub above : h < (root + 2 ^ j) * (root + 2 ^ j)
  pub room : root + 2 ^ j ≤ 2 ^ 14

-- no digit yet, and j of them are enough
pub start : (h j : ℕ) → h < 2 ^ j * 2 ^ j → 2 ^ j ≤ 2 ^ 14 → Digits h 0 j
start h j l g = record { below = omega arith; above = omega arith; room = omega arith }

module _ (h root j : ℕ) (d : Digits h root (suc j)) where
  doubled : 2 ^ suc j ≡ 2 ^ j + 2 ^ j
  doubled = omega (arith, pow-succ' 2 j)

  same : root + 2 ^ suc j ≡ root + 2 ^ j + 2 ^ j
  same = omega (arith, doubled)

  pub tried_le : root + 2 ^ j ≤ 2 ^ 14
  tried_le = omega (arith, same, d.room)

  pub one : (root + 2 ^ j) * (root + 2 ^ j) ≤ h → Digits h (root + 2 ^ j) j
  one g = record { below = g; above = subst (λ (x : ℕ). h < x * x) same d.above; room = omega (arith, same, d.room) }

  pub none : h < (root + 2 ^ j) * (root + 2 ^ j) → Digits h root j
  none g = record { below = d.below; above = g; room = omega (arith, same, d.room) }

pub end : (h root : ℕ) → Digits h root 0 → root ≡ isqrt h
end h root d = sym (isqrt_is h root (d.below, subst (λ (x : ℕ). h < x * x) (add-one root) d.above))

-- ---- a step of Newton's method: from x to half of x + h / x

step_above : (h x e f : ℕ) → h < (x + e + 1) * x → e ≤ 2 * f + 1 → h < (x + f + 1) * (x + f + 1)
step_above h x e f g k = omega (arith, mul-le-mul_left x k)

step_below : (h x e g : ℕ) → (x + e) * x ≤ h → 2 * suc g ≤ e → g * g ≤ x → (x + g) * (x + g) ≤ h
step_below h x e g k l m = omega (arith, mul-le-mul_left x l)

-- for an x that is less than 2 ^ 13 below the root
module _ (h x : ℕ) (lo : x * x ≤ h) (hi : h < (x + 2 ^ 13) * (x + 2 ^ 13)) (big : 2 ^ 26 ≤ x) where
  abbrev e : ℕ
  e = h / x - x

  pos : 0 < x
  pos = omega arith

  quotient : h / x ≡ x + e
  quotient = let l : x ≤ h / x = (le-div_iff_mul-le pos).1 lo in omega arith

  under : (x + e) * x ≤ h
  under = subst (λ (d : ℕ). d * x ≤ h) quotient (div-mul-le_self h x)

  over : h < (x + e + 1) * x
  over = subst (λ (d : ℕ). h < (d + 1) * x) quotient (omega (arith, div-add-mod' h x, mod-lt h {m = x} pos))

  short : e < 2 ^ 14 + 1
  short = lt_of_mul-lt-mul_right x (omega (arith, under, hi, big))

  -- the step is never too low
  pub newton_above : h < suc ((x + h / x) / 2) * suc ((x + h / x) / 2)
  newton_above =
      let n : suc ((x + h / x) / 2) ≡ x + e / 2 + 1 = omega (arith, quotient) in
      rw n (step_above h x e (e / 2) over (omega arith))

  -- and at most 1 too high
  pub newton_below : ((x + h / x) / 2 - 1) * ((x + h / x) / 2 - 1) ≤ h
  newton_below = go (e / 2) refl
    where
      go : (f : ℕ) → e / 2 ≡ f → ((x + h / x) / 2 - 1) * ((x + h / x) / 2 - 1) ≤ h
      go zero p = let n : (x + h / x) / 2 - 1 ≤ x = omega (arith, quotient) in le_trans (mul-le-mul n n) lo
      go (suc g) p =
          let n : (x + h / x) / 2 - 1 ≡ x + g = omega (arith, quotient) in
          let m : g ≤ 2 ^ 13 = omega (arith, short) in
          rw n (step_below h x e g under (omega arith) (le_trans (mul-le-mul m m) big))

-- the whole root of h from the root s of its leading digits
module _ (h s : ℕ) (r : s ≡ isqrt (h / 2 ^ 26)) (l : 2 ^ 52 ≤ h) (g : h < 2 ^ 54) where
  is_root : Root (h / 2 ^ 26) s
  is_root = subst (Root (h / 2 ^ 26)) (sym r) (isqrt_root (h / 2 ^ 26))

  short_ge : 2 ^ 13 ≤ s
  short_ge = le_of_suc-le-suc (sq_back (2 ^ 13) (suc s) (lt_of_le_of_lt (omega arith) is_root.1))

  short_lt : s < 2 ^ 14
  short_lt = sq_back s (2 ^ 14) (lt_of_le_of_lt is_root.0 (omega arith))

  abbrev x : ℕ
  x = s * 2 ^ 13

  lo : x * x ≤ h
  lo = omega (arith, is_root.0)

  hi : h < (x + 2 ^ 13) * (x + 2 ^ 13)
  hi = omega (arith, is_root.1)

  pub from_ge : 2 ^ 26 ≤ x
  from_ge = omega (arith, short_ge)

  pub from_lt : x < 2 ^ 27
  from_lt = omega (arith, short_lt)

  pub step-lt : (x + h / x) / 2 < 2 ^ 28
  step-lt = omega (arith, quotient h x lo hi from_ge, short h x lo hi from_ge, from_lt)

  pub step-pos : 1 ≤ (x + h / x) / 2
  step-pos = omega (arith, from_ge)

  pub too_high : h < (x + h / x) / 2 * ((x + h / x) / 2) → (x + h / x) / 2 - 1 ≡ isqrt h
  too_high k =
      let y = (x + h / x) / 2 in
      let n : y ≡ suc (y - 1) = omega (arith, step-pos) in
      sym (isqrt_is h (y - 1) (newton_below h x lo hi from_ge, subst (λ (z : ℕ). h < z * z) n k))

  pub just_right : (x + h / x) / 2 * ((x + h / x) / 2) ≤ h → (x + h / x) / 2 ≡ isqrt h
  just_right k = sym (isqrt_is h ((x + h / x) / 2) (k, newton_above h x lo hi from_ge))

-- ---- the nearest whole number

pub rounded_is : (n r : ℕ) → r * r < n + r → n ≤ r * r + r → rounded_root n ≡ r
rounded_is n r a b = go (dec_le (r * r) n)
  where
    before : (q : ℕ) → suc q * suc q < n + suc q → n < suc q * suc q → rounded_root n ≡ suc q
    before q k l = rounded_up n q (n - q * q) (omega arith) (omega arith) (omega arith) ∙ add-one q

    less : (r : ℕ) → r * r < n + r → n < r * r → rounded_root n ≡ r
    less zero k l = absurd (omega arith)
    less (suc q) k l = before q k l

    go : Dec (r * r ≤ n) → rounded_root n ≡ r
    go (yes k) = rounded_down n r (n - r * r) (omega arith) (omega arith) (omega arith)
    go (no f) = less r a (lt_of_not-le f)

-- ---- the last 26 digits, from the root s of w

-- what keeps each number of the last step in range
pub record Ranges (w s : ℕ) : Type 0 where
  pub square : s * s ≤ w
  pub lead_ge : 2 ^ 26 ≤ s
  pub lead_lt : s < 2 ^ 27
  pub rest : w - s * s ≤ s * 2
  pub digits : (w - s * s) * 2 ^ 26 / (s * 2) ≤ 2 ^ 26
  pub left : (w - s * s) * 2 ^ 26 % (s * 2) < s * 2
  pub squared : (w - s * s) * 2 ^ 26 / (s * 2) * ((w - s * s) * 2 ^ 26 / (s * 2)) ≤ 2 ^ 52

module _ (w s : ℕ) (h : Root w s) (l : 2 ^ 52 ≤ w) (g : w < 2 ^ 54) where
  lead_ge : 2 ^ 26 ≤ s
  lead_ge = le_of_suc-le-suc (sq_back (2 ^ 26) (suc s) (lt_of_le_of_lt l h.1))

  lead_lt : s < 2 ^ 27
  lead_lt = sq_back s (2 ^ 27) (lt_of_le_of_lt h.0 g)

  pos_lead : 0 < s * 2
  pos_lead = omega (arith, lead_ge)

  abbrev t : ℕ
  t = (w - s * s) * 2 ^ 26

  abbrev q : ℕ
  q = t / (s * 2)

  abbrev v : ℕ
  v = t % (s * 2) * 2 ^ 26

  abbrev root : ℕ
  root = s * 2 ^ 26 + q

  rest_le : w - s * s ≤ s * 2
  rest_le = omega (arith, h.0, h.1)

  split : q * (s * 2) + t % (s * 2) ≡ t
  split = div-add-mod' t (s * 2)

  left_lt : t % (s * 2) < s * 2
  left_lt = mod-lt t {m = s * 2} pos_lead

  last_le : q ≤ 2 ^ 26
  last_le = le_of_mul-le-mul_right {k = s * 2} (omega (arith, split, rest_le)) pos_lead

  square_le : q * q ≤ 2 ^ 52
  square_le = mul-le-mul last_le last_le

  pub ranges : Ranges w s
  ranges = record { square = h.0; lead_ge = lead_ge; lead_lt = lead_lt; rest = rest_le; digits = last_le; left = left_lt; squared = square_le }

  total : w * 2 ^ 52 + q * q ≡ root * root + v
  total = omega (arith, split, h.0)

  pub last_up : root + q * q < v → root + 1 ≡ rounded_root (w * 2 ^ 52)
  last_up k = sym (rounded_is (w * 2 ^ 52) (root + 1) (omega (arith, total)) (omega (arith, total, left_lt)))

  pub last_stays : v ≤ root + q * q → root ≡ rounded_root (w * 2 ^ 52)
  last_stays k = sym (rounded_is (w * 2 ^ 52) root (omega (arith, total, lead_ge, square_le, mul-le-mul_left q last_le)) (omega (arith, total)))

-- a number below 2 ^ j that has s zeros at its end has s below j
pub zeros-lt : (t m s j : ℕ) → 0 < t → m ≡ t * 2 ^ s → m < 2 ^ j → s < j
zeros-lt t m s j p e h = lt_of_not-le (λ (g : j ≤ s). not-le_of_lt h (le_trans (pow_mono g) (omega (arith, mul-le-mul_right (2 ^ s) p))))
