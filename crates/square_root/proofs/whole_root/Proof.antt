-- `square_root::whole_root` meets its contract. Assumes nothing.
use Prim.Native.Nat.{ℕ, ◌+◌, ◌*◌, ◌/◌, ◌^◌, ◌<◌, ◌≤◌}
use native.Mathlib.Nat.{mul-le-mul, le_of_lt}
use native.Mathlib.Omega.{arith}
use borrow.Author.Rules.{rules}
use Rattle.square_root.proofs.Newton.{from_ge, from_lt, step-lt, too_high, just_right}
use Rattle.square_root.proofs.whole_root.Statement.{statement}
use Rattle.square_root.proofs.whole_root.Tie as tie

module _ (c : tie.After-short_root-x) where
  abbrev h : ℕ
  h = c.before.args.h

  abbrev s : ℕ
  s = c.short_root-x.result

  x-ge : 2 ^ 26 ≤ s * 2 ^ 13
  x-ge = from_ge h s c.short_root-x.ensures c.before.requires.0 c.before.requires.1

  x_lt : s * 2 ^ 13 < 2 ^ 27
  x_lt = from_lt h s c.short_root-x.ensures c.before.requires.0 c.before.requires.1

  y-lt : (s * 2 ^ 13 + h / (s * 2 ^ 13)) / 2 < 2 ^ 28
  y-lt = step-lt h s c.short_root-x.ensures c.before.requires.0 c.before.requires.1

mul-x : tie.Need-overflow_mul-x
mul-x c = omega (arith, x_lt c)

div-y : tie.Need-nonzero_div-y
div-y c = omega (arith, x-ge c)

add-y : tie.Need-overflow_add-y
add-y c = omega (arith, y-lt c)

mul-if1 : tie.Need-overflow_mul-y
mul-if1 c = omega (arith, mul-le-mul (le_of_lt (y-lt c)) (le_of_lt (y-lt c)))

sub-result : tie.Need-overflow_sub-result
sub-result c = omega (arith, x-ge c.before)

returns : tie.Need-returns-then-h-y
returns c = let d = c.before in too_high (h d) (s d) d.short_root-x.ensures d.before.requires.0 d.before.requires.1 c.if-h-y.true

returns-2 : tie.Need-returns-else-h-y
returns-2 c = let d = c.before in just_right (h d) (s d) d.short_root-x.ensures d.before.requires.0 d.before.requires.1 c.if-h-y.false

pub whole_root_spec : {M : Type 1} → statement M
whole_root_spec =
    tie.close
    (tie.spec (λ c κs. search rules) mul-x div-y add-y mul-if1 sub-result returns returns-2)
