-- `square_root::root_bits` meets its contract. Assumes nothing.
use mathlib.Core.Path.{◌≡◌, sym, subst}
use Prim.Native.Nat.{ℕ, ◌+◌, ◌-◌, ◌*◌, ◌/◌, ◌^◌}
use native.Mathlib.Omega.{arith}
use borrow.Author.Rules.{rules}
use Rattle.square_root.specs.Sqrt.{nearest_root}
use Rattle.square_root.specs.Parts.{Bits}
use Rattle.square_root.proofs.Joined.{joined, even, odd_one}
use Rattle.square_root.proofs.Rounded.{rounded_lt}
use Rattle.square_root.proofs.root_bits.Statement.{statement}
use Rattle.square_root.proofs.root_bits.Tie as tie

add-result : tie.Need-overflow_add-result
add-result c =
    let a = c.before.before.args in
    omega (arith, rounded_lt a.m (omega arith) (omega arith), c.rooted.ensures)

add-result-2 : tie.Need-overflow_add-result-else-e-eq0
add-result-2 c =
    let a = c.before.before.args in
    omega (arith, rounded_lt (a.m * 2) (omega arith) (omega arith), c.rooted-else-e-eq0.ensures)

returns : tie.Need-returns-then-e-eq0
returns c =
    let a = c.before.before.args in
    let k = a.e / 2 - 26 in
    let e : a.e ≡ 52 + (k + k) = omega arith in
    subst (λ (r : ℕ). Bits (nearest_root (a.m * 2 ^ a.e)) (k * 2 ^ 52 + r)) (sym c.rooted.ensures)
    (joined (a.m * 2 ^ a.e) a.m k (omega arith) (omega arith) (omega arith) (even a.m a.e k e))

returns-2 : tie.Need-returns-else-e-eq0
returns-2 c =
    let a = c.before.before.args in
    let k = a.e / 2 - 26 in
    let e : a.e ≡ 53 + (k + k) = omega arith in
    subst (λ (r : ℕ). Bits (nearest_root (a.m * 2 ^ a.e)) (k * 2 ^ 52 + r)) (sym c.rooted-else-e-eq0.ensures)
    (joined (a.m * 2 ^ a.e) (a.m * 2) k (omega arith) (omega arith) (omega arith) (odd_one a.m a.e k e))

pub root_bits_spec : {M : Type 1} → statement M
root_bits_spec =
    tie.close
    (tie.spec (λ c. search rules) (λ c. search rules) (λ c κs. search rules) add-result (λ c. search rules)
    (λ c. search rules) (λ c. search rules) (λ c κs. search rules) add-result-2 returns returns-2)
