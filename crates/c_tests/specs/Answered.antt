-- What each answer of the banded solve for C means.
use Rattle.std.specs.Prelude.{◌≡◌, true, false, List, ℕ, ◌+◌, ◌*◌, ◌≤◌, length, Float}
use Rattle.substitution.specs.Solved.{Solved}

-- order 1 or 2, and a system that has its places in a run of n
pub record Room (k m n : ℕ) : Type 0 where
  pub least : 1 ≤ k
  pub most : k ≤ 2
  pub some : 1 ≤ m
  pub few : m ≤ 65536
  pub places : m * (k + 1) + m ≤ n

-- 0: the system that s₀ begins with is solved; 1: a pivot was bad; 2: it is out of range and s₀ stays; no other number
pub data Answered (k m : ℕ) (s₀ s : List Float) : ℕ → Type 0 where
  solved : Room k m (length s₀) → Solved 0 k m s₀ s true → Answered k m s₀ s 0
  pivot : Room k m (length s₀) → Solved 0 k m s₀ s false → Answered k m s₀ s 1
  refused : (Room k m (length s₀) → ⊥) → s ≡ s₀ → Answered k m s₀ s 2
