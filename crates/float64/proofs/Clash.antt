-- What can't be: a Bool both true and false, and two forms of one type that are equal. Assumes nothing.
use mathlib.Core.Path.{◌≡◌, sym, ◌∙◌}
use mathlib.Core.Bool.{Bool, true, false, true≢false}
use Prim.Native.Nat.{ℕ}
use native.Mathlib.Omega.{arith}

pub clash : {b : Bool} → b ≡ true → b ≡ false → ⊥
clash p q = true≢false (sym p ∙ q)

-- where two different forms are equal, so are 0 and 1: `impossible cc`
pub impossible : {C : Type 0} → ◌≡◌ {A = ℕ} 0 1 → C
impossible e = absurd (omega arith)
