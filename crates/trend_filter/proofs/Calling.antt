-- What a caller in C is told, from the answer. Assumes nothing.
use mathlib.Core.Path.{◌≡◌, ap, ◌∙◌}
use mathlib.Core.List.{List}
use Prim.Native.Nat.{ℕ}
use lib.Ieee.{Float}
use Rattle.std.specs.Prelude.{Result, Ok, Err}
use Rattle.trend_filter.specs.declared.Summary.{Summary}
use Rattle.trend_filter.specs.Calls.{numbers_of, counts_of, code_of, filled, Told}
use Rattle.trend_filter.specs.Told.{ToldBy}

-- an answer that is a number and one array
pub told_by : {A : Type 0} {code_in : A → ℕ} {arrayIn : A → List ℕ → List ℕ} {a b : A} (v₀ : List ℕ) → a ≡ b → ToldBy code_in arrayIn b (code_in a) v₀ (arrayIn a v₀)
told_by {A} {code_in} {arrayIn} v₀ e = record { code = ap code_in e; array = ap (λ (s : A). arrayIn s v₀) e }

-- the answer of a fit
pub told_refused : (a : Result Summary ℕ) (q : ℕ) (v : List Float) (u : List ℕ) → Err q ≡ a → Told a q v v u u
told_refused a q v u e = record { code = ap code_of e; numbers = ap (λ (x : Result Summary ℕ). filled numbers_of x v) e; counts = ap (λ (x : Result Summary ℕ). filled counts_of x u) e }

pub told_fit : (a : Result Summary ℕ) (s : Summary) (v₀ v : List Float) (u₀ u : List ℕ) → Ok s ≡ a → v ≡ numbers_of s → u ≡ counts_of s → Told a 0 v₀ v u₀ u
told_fit a s v₀ v u₀ u e p q = record {
  code = ap code_of e;
  numbers = p ∙ ap (λ (x : Result Summary ℕ). filled numbers_of x v₀) e;
  counts = q ∙ ap (λ (x : Result Summary ℕ). filled counts_of x u₀) e;
}
