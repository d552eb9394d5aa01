-- Doubles counted in units of 2 ^ -1074: which whole numbers they are, that the count and the sign tell the double, and that rounding keeps it.
-- Assumes nothing.
use mathlib.Core.Path.{◌≡◌, refl, sym, ap, ◌∙◌, subst}
use Prim.Native.Nat.{ℕ, zero, suc, ◌+◌, ◌-◌, ◌*◌, ◌/◌, ◌%◌, ◌^◌, ◌≤◌, ◌<◌}
use native.Mathlib.Nat.{le_of_eq, le_trans, le_of_suc-le-suc, lt_irrefl, lt_of_lt_of_le, lt_of_not-le, mul_assoc, mul_comm, mul_right_comm, mul-one, one-mul, mul-div_cancel, mul-pos, mul-le-mul_right, mul-lt-mul_of_pos_right, lt_of_mul-lt-mul_right, zero-mul}
use mathlib.Core.Bool.{Bool, true, cond, ◌&&◌, true≢false}
use lib.IntN.{ℤ, pos, negsuc}
use lib.Dec.{T, leb, ltb, eqb, leb→le, ltb→lt, eqb→eq, lit<, lit≤}
use lib.Pow.{pow-add, pow_pos, pow-lt, pow_mono}
use lib.Ieee.{Float, nan, inf, fin, Format, binary64, prec, emax, low, up, down, size, round, fits, of_bits, to_bits}
use lib.Ieee.Digits.{back}
use lib.Ieee.Exact.{HasValue, round_exact}
use lib.Ieee.Fits.{and_l, and_r, up_pos, down_pos, round-fits}
use lib.Ieee.Nearest.{div_same}
use lib.Ieee.Bits.{of_bits-to_bits}
use Rattle.float64.specs.Units.{in_units, in_squares, has_minus}
use Rattle.float64.specs.Helpers.{is_finite}

-- ---- m * 2 ^ e in units of 2 ^ -l

pow_le_back : (a l : ℕ) → 2 ^ a ≤ 2 ^ l → a ≤ l
pow_le_back a l h = le_of_suc-le-suc (lt_of_not-le (λ (g : suc l ≤ a). lt_irrefl (2 ^ l) (lt_of_lt_of_le (pow-lt g) h)))

abbrev pub place : ℕ → ℤ → ℕ
place l (pos a) = a + l
place l (negsuc a) = l - suc a

pub placed : (l m : ℕ) (e : ℤ) → down e ≤ 2 ^ l → m * up e * 2 ^ l ≡ m * 2 ^ place l e * down e
placed l m (pos a) h = mul_assoc m (2 ^ a) (2 ^ l) ∙ ap (λ (x : ℕ). m * x) (sym (pow-add 2 a l)) ∙ sym (mul-one (m * 2 ^ (a + l)))
placed l m (negsuc a) h =
    ap (λ (x : ℕ). x * 2 ^ l) (mul-one m)
    ∙ ap (λ (x : ℕ). m * 2 ^ x) (sym (back l (suc a) (pow_le_back (suc a) l h)))
    ∙ ap (λ (x : ℕ). m * x) (pow-add 2 (l - suc a) (suc a))
    ∙ sym (mul_assoc m (2 ^ (l - suc a)) (2 ^ suc a))

pub counted : (l m : ℕ) (e : ℤ) → down e ≤ 2 ^ l → m * up e * 2 ^ l / down e ≡ m * 2 ^ place l e
counted l m e h = ap (λ (x : ℕ). x / down e) (placed l m e h) ∙ mul-div_cancel (m * 2 ^ place l e) (down_pos e)

-- ---- what `fits` says
pub record Fit (f : Format) (m : ℕ) (e : ℤ) : Type 0 where
  pub digits : m < 2 ^ prec f
  pub fine : down e ≤ 2 ^ low f
  pub under : m * up e < 2 ^ suc (emax f) * down e

flat-down : (u d : ℕ) → 0 < u → u * d ≡ 1 → d ≤ 1
flat-down u d h e = le_trans (le_of_eq (sym (one-mul d))) (le_trans (mul-le-mul_right d h) (le_of_eq e))

pub fit_of : (f : Format) (s : Bool) (m : ℕ) (e : ℤ) → T (fits f (fin s m e)) → Fit f m e
unfolding fits
fit_of f s zero e t = record {
  digits = pow_pos (prec f);
  fine = le_trans (flat-down (up e) (down e) (up_pos e) (eqb→eq (up e * down e) 1 t)) (pow_pos (low f));
  under = subst (λ (x : ℕ). x < 2 ^ suc (emax f) * down e) (sym (zero-mul (up e))) (mul-pos (pow_pos (suc (emax f))) (down_pos e));
}
fit_of f s (suc m) e t =
    let a : Bool = eqb (suc m % 2) 1 in
    let b : Bool = ltb (suc m) (2 ^ prec f) in
    let c : Bool = leb (down e) (2 ^ low f) in
    let d : Bool = ltb (suc m * up e) (2 ^ suc (emax f) * down e) in
    record {
      digits = ltb→lt (suc m) (2 ^ prec f) (and_r a b (and_l (a && b) c (and_l (a && b && c) d t)));
      fine = leb→le (down e) (2 ^ low f) (and_r (a && b) c (and_l (a && b && c) d t));
      under = ltb→lt (suc m * up e) (2 ^ suc (emax f) * down e) (and_r (a && b && c) d t);
    }

-- the value, in units, is below 2 ^ (low + emax + 1)
placed_under : (f : Format) (m : ℕ) (e : ℤ) → Fit f m e → m * 2 ^ place (low f) e < 2 ^ (low f + suc (emax f))
placed_under f m e h =
    let l = 2 ^ low f in
    let t = 2 ^ suc (emax f) in
    let w : m * up e * l < t * down e * l = mul-lt-mul_of_pos_right h.under (pow_pos (low f)) in
    let v : m * 2 ^ place (low f) e * down e < l * t * down e =
    subst (λ (x : ℕ). x < l * t * down e) (placed (low f) m e h.fine)
    (subst (λ (x : ℕ). m * up e * l < x) (mul_right_comm t (down e) l ∙ ap (λ (x : ℕ). x * down e) (mul_comm t l)) w) in
    subst (λ (x : ℕ). m * 2 ^ place (low f) e < x) (sym (pow-add 2 (low f) (suc (emax f)))) (lt_of_mul-lt-mul_right (down e) v)

-- a value that fits comes out of `round` as it went in
pub own_round : (f : Format) (s : Bool) (m : ℕ) (e : ℤ) → Fit f m e → HasValue (round f s (m * up e) (down e)) s (m * up e) (down e)
own_round f s m e h = round_exact f s (m * up e) (down e) m (place (low f) e) (down_pos e) h.digits (placed_under f m e h) (placed (low f) m e h.fine)

-- ---- the doubles, in units

-- the counts of `in_units` and `in_squares` lose nothing
pub units-whole : (s : Bool) (m : ℕ) (e : ℤ) → Fit binary64 m e → in_units (fin s m e) * down e ≡ m * up e * 2 ^ 1074
units-whole s m e h = ap (λ (x : ℕ). x * down e) (counted 1074 m e h.fine) ∙ sym (placed 1074 m e h.fine)

finer : (e : ℤ) → down e ≤ 2 ^ 1074 → down e ≤ 2 ^ 2148
finer e h = le_trans h (pow_mono (lit≤ {m = 1074} {n = 2148} tt))

pub squares_whole : (s : Bool) (m : ℕ) (e : ℤ) → Fit binary64 m e → in_squares (fin s m e) * down e ≡ m * up e * 2 ^ 2148
squares_whole s m e h = ap (λ (x : ℕ). x * down e) (counted 2148 m e (finer e h.fine)) ∙ sym (placed 2148 m e (finer e h.fine))

-- every finite double is below 2 ^ 2098 units
pub units_under : (s : Bool) (m : ℕ) (e : ℤ) → Fit binary64 m e → in_units (fin s m e) < 2 ^ 2098
units_under s m e h = subst (λ (x : ℕ). x < 2 ^ 2098) (sym (counted 1074 m e h.fine)) (placed_under binary64 m e h)

-- and one that is not zero is 1 unit at least
pub units-pos : (s : Bool) (m : ℕ) (e : ℤ) → Fit binary64 m e → 0 < m → 0 < in_units (fin s m e)
units-pos s m e h M = subst (λ (x : ℕ). 0 < x) (sym (counted 1074 m e h.fine)) (mul-pos M (pow_pos (place 1074 e)))

-- at most 53 digits, and zeros after them
abbrev pub Grid : ℕ → Type 0
Grid z = (m : ℕ) × (j : ℕ) × (m < 2 ^ 53) × (z ≡ m * 2 ^ j)

pub double_grid : (z : Float) → T (fits binary64 z) → Grid (in_units z)
double_grid nan t = (0, 0, lit< tt, refl)
double_grid (inf s) t = (0, 0, lit< tt, refl)
double_grid (fin s m e) t = let h = fit_of binary64 s m e t in (m, place 1074 e, h.digits, counted 1074 m e h.fine)

pub squares_grid : (s : Bool) (m : ℕ) (e : ℤ) → Fit binary64 m e → Grid (in_squares (fin s m e))
squares_grid s m e h = (m, place 2148 e, h.digits, counted 2148 m e (finer e h.fine))

-- ---- the count and the sign tell the double

-- a pattern is made of the count and the sign alone
pattern : Bool → ℕ → ℕ
pattern s n = cond s (2 ^ 63) 0 + (size n - 53) * 2 ^ 52 + n / 2 ^ (size n - 53)

to_bits_is : (s : Bool) (m : ℕ) (e : ℤ) → to_bits binary64 (fin s m e) ≡ pattern s (m * up e * 2 ^ 1074 / down e)
unfolding to_bits pattern
to_bits_is s m e = refl

pub same_count : (s : Bool) (m n : ℕ) (e d : ℤ) → T (fits binary64 (fin s m e)) → T (fits binary64 (fin s n d)) → in_units (fin s m e) ≡ in_units (fin s n d) → fin s m e ≡ fin s n d
same_count s m n e d f g h =
    sym (of_bits-to_bits binary64 (fin s m e) f)
    ∙ ap (of_bits binary64) (to_bits_is s m e ∙ ap (pattern s) h ∙ sym (to_bits_is s n d))
    ∙ of_bits-to_bits binary64 (fin s n d) g

-- so does the value
pub same_value : (x : Float) (s : Bool) (m : ℕ) (e : ℤ) → T (fits binary64 x) → T (fits binary64 (fin s m e)) → HasValue x s (m * up e) (down e) → x ≡ fin s m e
same_value nan s m e f g v = absurd v
same_value (inf t) s m e f g v = absurd v
same_value (fin t n d) s m e f g v =
    let cross : n * up d * 2 ^ 1074 * down e ≡ m * up e * 2 ^ 1074 * down d = mul_right_comm (n * up d) (2 ^ 1074) (down e) ∙ ap (λ (x : ℕ). x * 2 ^ 1074) v.1 ∙ mul_right_comm (m * up e) (down d) (2 ^ 1074) in
    let sign : fin t n d ≡ fin s n d = ap (λ (b : Bool). fin b n d) v.0 in
    sign ∙ same_count s n m d e (subst (λ (x : Float). T (fits binary64 x)) sign f) g (div_same (n * up d * 2 ^ 1074) (down d) (m * up e * 2 ^ 1074) (down e) (down_pos d) (down_pos e) cross)

-- rounding a double changes nothing
pub round_double : (s : Bool) (m : ℕ) (e : ℤ) → T (fits binary64 (fin s m e)) → round binary64 s (m * up e) (down e) ≡ fin s m e
round_double s m e f = same_value (round binary64 s (m * up e) (down e)) s m e (round-fits binary64 s (m * up e) (down e)) f (own_round binary64 s m e (fit_of binary64 s m e f))

-- two finite doubles with the same sign and the same count are the same
pub same_double : (x y : Float) → T (fits binary64 x) → T (fits binary64 y) → is_finite x ≡ true → is_finite y ≡ true → has_minus x ≡ has_minus y → in_units x ≡ in_units y → x ≡ y
unfolding is_finite
same_double nan y f g p q s h = absurd (true≢false (sym p))
same_double (inf t) y f g p q s h = absurd (true≢false (sym p))
same_double (fin s m e) nan f g p q d h = absurd (true≢false (sym q))
same_double (fin s m e) (inf t) f g p q d h = absurd (true≢false (sym q))
same_double (fin s m e) (fin t n k) f g p q d h =
    let sign : fin t n k ≡ fin s n k = ap (λ (b : Bool). fin b n k) (sym d) in
    same_count s m n e k f (subst (λ (x : Float). T (fits binary64 x)) sign g) h ∙ sym sign
