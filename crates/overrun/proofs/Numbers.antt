-- What is no NaN: whole milliseconds, and an overrun just where question 22 takes its rate. Assumes nothing.
use mathlib.Core.Path.{◌≡◌, refl, ap, ◌∙◌}
use mathlib.Core.Bool.{Bool, true, false, not, cond}
use Prim.Native.Nat.{ℕ, zero, suc, ◌*◌, ◌^◌}
use lib.Dec.{ltb}
use lib.IntN.{ℤ, pos, negsuc}
use lib.Ieee.{Float, nan, inf, binary64, is_nan, odd, units, round, of_int}
use lib.Ieee.Fits.{round_is}
use Rattle.overrun.specs.Overrun.{Frames, is_rated, fraction_of, is_below_zero, overrun}

-- rounding gives no NaN
odd_number : (d : ℕ) (s : Bool) (q k l : ℕ) → is_nan (odd d s q k l) ≡ false
unfolding odd is_nan
odd_number d s zero k l = refl
odd_number d s (suc q) k l = refl

units_number : (s : Bool) (q k : ℕ) → is_nan (units binary64 s q k) ≡ false
unfolding units is_nan
units_number s q k = go (ltb (q * 2 ^ k) (2 ^ 2098)) (odd 54 s q k 1074) (odd_number 54 s q k 1074)
  where
    go : (t : Bool) (x : Float) → is_nan x ≡ false → is_nan (cond t x (inf s)) ≡ false
    go true x h = h
    go false x h = refl

round_number : (s : Bool) (a b : ℕ) → is_nan (round binary64 s a b) ≡ false
round_number s a b = ap is_nan (round_is binary64 s a b) ∙ units_number s _ _

pub whole_number : (z : ℤ) → is_nan (of_int binary64 z) ≡ false
unfolding of_int
whole_number (pos n) = round_number false n 1
whole_number (negsuc n) = round_number true (suc n) 1

pub overrun_number : (f : Frames) → not (is_nan (overrun f)) ≡ is_rated f
unfolding overrun is_nan
overrun_number f = go (is_rated f) _ (round_number (is_below_zero f) (fraction_of f).upper (fraction_of f).lower)
  where
    go : (t : Bool) (x : Float) → is_nan x ≡ false → not (is_nan (cond t x nan)) ≡ t
    go true x h = ap not h
    go false x h = refl
