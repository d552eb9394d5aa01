-- `square_root::positive_bits` meets its contract. Assumes nothing.
use mathlib.Core.Path.{◌≡◌, sym, ap, subst, ◌∙◌}
use Prim.Native.Nat.{ℕ, ◌-◌, ◌*◌, ◌%◌, ◌^◌, ◌<◌}
use native.Mathlib.Nat.{mod-eq_of_lt}
use native.Mathlib.Omega.{arith}
use borrow.Author.Rules.{rules}
use lib.Ieee.{Float}
use Rattle.square_root.specs.Sqrt.{nearest_root}
use Rattle.square_root.specs.Parts.{Bits}
use Rattle.square_root.proofs.Joined.{small_root, large_root}
use Rattle.square_root.proofs.positive_bits.Statement.{statement}
use Rattle.square_root.proofs.positive_bits.Tie as tie

returns : tie.Need-returns-then-x-eq0
returns c =
    let b = c.before.before.before.args.b in
    let s = c.before.places-s.result in
    let whole : b % 2 ^ 52 ≡ b = omega arith in
    let room : b % 2 ^ 52 * 2 ^ s < 2 ^ 64 = omega arith in
    let shl : b % 2 ^ 52 * 2 ^ s % 2 ^ 64 ≡ b * 2 ^ s = mod-eq_of_lt room ∙ ap (λ (t : ℕ). t * 2 ^ s) whole in
    subst (λ (x : Float). Bits x c.root_bits.result) (sym (small_root b s (omega arith) (omega arith) (omega arith)))
    (subst (λ (m : ℕ). Bits (nearest_root (m * 2 ^ (1074 - s))) c.root_bits.result) shl c.root_bits.ensures)

returns-2 : tie.Need-returns-else-x-eq0
returns-2 c =
    let b = c.before.before.args.b in
    subst (λ (x : Float). Bits x c.root_bits-else-x-eq0.result) (sym (large_root b (omega arith) (omega arith))) c.root_bits-else-x-eq0.ensures

pub positive_bits_spec : {M : Type 1} → statement M
positive_bits_spec =
    tie.close
    (tie.spec (λ c κs. search rules) (λ c. search rules) (λ c. search rules) (λ c κs. search rules) (λ c. search rules)
    (λ c. search rules) (λ c κs. search rules) returns returns-2)
