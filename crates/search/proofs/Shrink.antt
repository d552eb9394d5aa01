-- A double below a rounded fraction is below the fraction itself. So a gap below 0.99 times the best, the product rounded, is at most 99 / 100 of it exactly.
use mathlib.Core.Path.{◌≡◌, refl, sym, ap, ◌∙◌, subst}
use mathlib.Core.Logic.{◌⊎◌, inl, inr}
use Prim.Native.Nat.{ℕ, ◌*◌, ◌^◌, ◌≤◌, ◌<◌}
use native.Mathlib.Nat.{le_trans, le_of_eq, le_of_lt, lt_of_not-le, not-le_of_lt, mul_comm, mul_assoc, le_of_mul-le-mul_right, mul-pos}
use native.Mathlib.Omega.{arith}
use mathlib.Core.Bool.{Bool, true, false, ◌&&◌, ◌||◌, true≢false}
use lib.IntN.{ℤ}
use lib.Dec.{T, ltb, eqb, ltb→lt, eqb→eq, lit≤}
use lib.Pow.{pow_pos}
use lib.Ieee.{Float, nan, inf, fin, Format, binary64, up, down, round, mul, lt, le, of_bits}
use lib.Ieee.Fits.{down_pos, and_l}
use lib.Ieee.Exact.{HasValue}
use lib.Ieee.Order.{transfer, round_mono}
use Rattle.float64.specs.Ops.{c0·99}
use Rattle.float64.specs.Units.{in_units}
use Rattle.float64.proofs.Doubles.{Fit, own_round, units-whole}

-- ---- no value is below x and x not above it
or_split : (a b : Bool) → T (a || b) → T a ⊎ T b
or_split true b t = inl tt
or_split false b t = inr t

pub lt-or_eq : (a b : ℕ) → T (ltb a b || (eqb a b && true)) → a ≤ b
lt-or_eq a b t = elim (or_split (ltb a b) (eqb a b && true) t) [ inl u ↦ le_of_lt (ltb→lt a b u) | inr u ↦ le_of_eq (eqb→eq a b (and_l (eqb a b) true u)) ]

never_below : (n : ℕ) (d : ℤ) (x y : Float) → T (lt (fin false n d) x) → T (le x y) → HasValue y false (n * up d) (down d) → ⊥
unfolding lt le
never_below n d nan y p q v = p
never_below n d (inf true) y p q v = p
never_below n d (inf false) nan p q v = q
never_below n d (inf false) (inf t) p q v = v
never_below n d (inf false) (fin t k j) p q v = q
never_below n d (fin true m e) y p q v = p
never_below n d (fin false m e) nan p q v = q
never_below n d (fin false m e) (inf t) p q v = v
never_below n d (fin false m e) (fin true k j) p q v = true≢false v.0
never_below n d (fin false m e) (fin false k j) p q v =
    not-le_of_lt (ltb→lt (n * up d * down e) (m * up e * down d) p)
    (transfer (m * up e) (n * up d) (down e) (down d) (m * up e) (k * up j) (down e) (down j) (down_pos e) (down_pos j) refl (sym v.1)
    (lt-or_eq (m * up e * down j) (k * up j * down e) q))

-- ---- THE LEMMA: a value below the rounded a / c is below a / c
below_rounded : (f : Format) (n : ℕ) (d : ℤ) (a c : ℕ) → Fit f n d → 0 < c → T (lt (fin false n d) (round f false a c)) → n * up d * c < a * down d
below_rounded f n d a c h C t =
    lt_of_not-le (λ (g : a * down d ≤ n * up d * c).
    never_below n d (round f false a c) (round f false (n * up d) (down d)) t (round_mono f a c (n * up d) (down d) C (down_pos d) g) (own_round f false n d h))

-- ---- 0.99
mul_opened : (f : Format) (m : ℕ) (e : ℤ) → mul f c0·99 (fin false m e) ≡ round f false (4458563631096791 * (m * up e)) (4503599627370496 * down e)
unfolding mul of_bits
mul_opened f m e = refl

hundred : (x y : ℕ) → x * 4503599627370496 < 4458563631096791 * y → 100 * x ≤ 99 * y
hundred x y h = omega arith

shrinks_fraction : (f : Format) (n : ℕ) (d : ℤ) (m : ℕ) (e : ℤ) → Fit f n d → T (lt (fin false n d) (mul f c0·99 (fin false m e))) → 100 * (n * up d * down e) ≤ 99 * (m * up e * down d)
shrinks_fraction f n d m e h t =
    let r : n * up d * (4503599627370496 * down e) < 4458563631096791 * (m * up e) * down d =
    below_rounded f n d (4458563631096791 * (m * up e)) (4503599627370496 * down e) h (mul-pos (lit≤ tt) (down_pos e)) (subst (λ (z : Float). T (lt (fin false n d) z)) (mul_opened f m e) t) in
    hundred (n * up d * down e) (m * up e * down d)
    (subst (λ (z : ℕ). n * up d * down e * 4503599627370496 < z) (mul_assoc 4458563631096791 (m * up e) (down d))
    (subst (λ (z : ℕ). z < 4458563631096791 * (m * up e) * down d) (sym (mul_assoc (n * up d) (down e) 4503599627370496 ∙ ap (λ (z : ℕ). n * up d * z) (mul_comm (down e) 4503599627370496))) r))

-- ---- in whole units
pub shrinks : (n : ℕ) (d : ℤ) (m : ℕ) (e : ℤ) → Fit binary64 n d → Fit binary64 m e → T (lt (fin false n d) (mul binary64 c0·99 (fin false m e))) → 100 * in_units (fin false n d) ≤ 99 * in_units (fin false m e)
shrinks n d m e h k t =
    let l = 2 ^ 1074 in
    let r : 100 * (n * up d) * down e ≤ 99 * (m * up e) * down d =
    le_trans (le_of_eq (mul_assoc 100 (n * up d) (down e))) (le_trans (shrinks_fraction binary64 n d m e h t) (le_of_eq (sym (mul_assoc 99 (m * up e) (down d))))) in
    le_of_mul-le-mul_right
    (transfer (100 * in_units (fin false n d)) (99 * in_units (fin false m e)) l l (100 * (n * up d)) (99 * (m * up e)) (down d) (down e) (down_pos d) (down_pos e)
    (mul_assoc 100 (in_units (fin false n d)) (down d) ∙ ap (λ (x : ℕ). 100 * x) (units-whole false n d h) ∙ sym (mul_assoc 100 (n * up d) l))
    (mul_assoc 99 (in_units (fin false m e)) (down e) ∙ ap (λ (x : ℕ). 99 * x) (units-whole false m e k) ∙ sym (mul_assoc 99 (m * up e) l))
    r)
    (pow_pos 1074)
