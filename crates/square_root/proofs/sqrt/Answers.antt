use Rattle.std.proofs.Common.{◌≡◌, ℕ, ◌^◌, T, refl, sym, ap, subst, ◌∙◌, arith}
use Rattle.std.specs.Float.{Float, binary64}
use Rattle.std.specs.Float.Ieee.{fits, of_bits, to_bits}
use Rattle.std.proofs.lemmas.Float.{not_nan_f64_bits}
use lib.Ieee.Bits.{of_bits-to_bits, to_bits-lt}
use Rattle.float64.proofs.Bits.{nan_is}
use Rattle.square_root.specs.Sqrt.{sqrt_of}
use Rattle.square_root.proofs.Joined.{negative_root, top_root}
use Rattle.square_root.proofs.sqrt.Goals as goal
use Rattle.square_root.proofs.sqrt.Goals.{Start}

-- what owning an `f64` tells: the format holds it
held : (c : Start) → T (fits binary64 c.args.x)
held c = subst T (sym c.well_formed.0.1) tt

-- so it is read back from its bits
back : (x : Float) → T (fits binary64 x) → x ≡ of_bits binary64 (to_bits binary64 x)
back x h = sym (of_bits-to_bits binary64 x h)

-- where the double with the bits b is its own root
fixed : (x : Float) (b : ℕ) → T (fits binary64 x) → to_bits binary64 x ≡ b → of_bits binary64 b ≡ sqrt_of (of_bits binary64 b) → x ≡ sqrt_of x
fixed x b p q r = subst (λ (y : Float). y ≡ sqrt_of y) (sym (back x p ∙ ap (of_bits binary64) q)) r

pub returns-then-is_nan : goal.returns-then-is_nan
unfolding sqrt_of
returns-then-is_nan c = rw (nan_is c.args.x (sym c.is_nan.ensures.value ∙ c.if-is_nan.true))

pub returns-then-b-eq0 : goal.returns-then-b-eq0
unfolding of_bits sqrt_of
returns-then-b-eq0 c = fixed c.args.x 0 (held (goal.at.returns-then-b-eq0 c).Start) c.if-b-eq0.true refl

pub returns-then-b : goal.returns-then-b
unfolding of_bits sqrt_of
returns-then-b c = fixed c.args.x (2 ^ 63) (held (goal.at.returns-then-b c).Start) c.if-b.true refl

pub returns-then-b-gt9223372036854775808 : goal.returns-then-b-gt9223372036854775808
unfolding of_bits
returns-then-b-gt9223372036854775808 c = let x = c.args.x in
    let h = held (goal.at.returns-then-b-gt9223372036854775808 c).Start in
    sym (ap sqrt_of (back x h) ∙ negative_root (to_bits binary64 x) (omega arith) (to_bits-lt binary64 x h))

pub returns-then-b-ge9218868437227405312 : goal.returns-then-b-ge9218868437227405312
returns-then-b-ge9218868437227405312 c = let x = c.args.x in
    fixed x (to_bits binary64 x) (held (goal.at.returns-then-b-ge9218868437227405312 c).Start) refl (top_root (to_bits binary64 x) (omega arith) (omega arith))

pub float_from_bits-result : goal.float_from_bits-result
float_from_bits-result c = not_nan_f64_bits c.positive_bits.result (omega (arith, c.positive_bits.ensures.finite))

pub returns : goal.returns
returns c = c.positive_bits.ensures.value ∙ ap sqrt_of (sym (back c.args.x (held (goal.at.returns c).Start)))
