-- Parts of a run, and what a loop has written: for the contracts of our own functions. Each is given once for any element type; z is what is read beyond the end.
use Rattle.std.specs.Prelude.{◌≡◌, ◌⊎◌, List, ℕ, ◌+◌, ◌≤◌, ◌<◌, length, get_or, Float}
use Rattle.std.specs.Float.{nan}
use Rattle.vectors.specs.Vec.{list, put, KeptOf}

-- the n places of s from a on
unfoldable pub part_of : {A : Type 0} → A → ℕ → ℕ → List A → List A
part_of z a n s = list n (λ i. get_or s (a + i) z)

abbrev pub part : ℕ → ℕ → List Float → List Float
part a n s = part_of nan a n s

-- the places from lo up to, not including, hi hold f, and all others what v₀ held
pub record WrittenOf {A : Type 0} (z : A) (lo hi : ℕ) (f : ℕ → A) (v₀ v : List A) : Type 0 where
  pub size : length v ≡ length v₀
  pub inside : (j : ℕ) → lo ≤ j → j < hi → get_or v j z ≡ f j
  pub below : (j : ℕ) → j < lo → get_or v j z ≡ get_or v₀ j z
  pub above : (j : ℕ) → hi ≤ j → get_or v j z ≡ get_or v₀ j z

abbrev pub Written : ℕ → ℕ → (ℕ → Float) → List Float → List Float → Type 0
Written lo hi f v₀ v = WrittenOf nan lo hi f v₀ v

-- in a run of l places the n from a on and the n from b on lie apart
pub record Disjoint (a b n l : ℕ) : Type 0 where
  pub apart : (a + n ≤ b) ⊎ (b + n ≤ a)
  pub first : a + n ≤ l
  pub second : b + n ≤ l

-- t was written into s from place a on, which made it e, and r is the place past it
pub record Wrote {A : Type 0} (s : List A) (a : ℕ) (t e : List A) (r : ℕ) : Type 0 where
  pub next : r ≡ a + length t
  pub room : r ≤ length s
  pub text : e ≡ put s a t

-- v is v₀ but for the n places from a on, of doubles
abbrev pub Kept : ℕ → ℕ → List Float → List Float → Type 0
Kept a n v₀ v = KeptOf nan a n v₀ v
