-- A vector and its places, and what is kept of it. Where the element type is any, z is what is read beyond the end: nan for doubles, 0 for counts and bytes.
use Rattle.std.specs.Prelude.{◌≡◌, Bool, cond, List, [], ◌∷◌, ◌++◌, ℕ, zero, suc, ◌+◌, ◌-◌, ◌≤◌, ◌<◌, length, get_or, take, drop, Float}
use Rattle.std.specs.Float.{nan}

-- place i of a vector of doubles
abbrev pub at : List Float → ℕ → Float
at v i = get_or v i nan

-- |i - j|: one of the two differences stops at 0
abbrev pub apart : ℕ → ℕ → ℕ
apart i j = i - j + (j - i)

-- f 0, .. , f (n - 1)
unfoldable pub list : {A : Type 0} → ℕ → (ℕ → A) → List A
list zero f = []
list (suc n) f = list n f ++ (f n ∷ [])

-- the places below n, rising, of which p holds
unfoldable pub places_to : (ℕ → Bool) → ℕ → List ℕ
places_to p zero = []
places_to p (suc n) = places_to p n ++ cond (p n) (n ∷ []) []

-- s with t in the places from a on
abbrev pub put : {A : Type 0} → List A → ℕ → List A → List A
put s a t = take a s ++ t ++ drop (a + length t) s

-- v is v₀ but for the n places from a on
pub record KeptOf {A : Type 0} (z : A) (a n : ℕ) (v₀ v : List A) : Type 0 where
  pub size : length v ≡ length v₀
  pub below : (j : ℕ) → j < a → get_or v j z ≡ get_or v₀ j z
  pub above : (j : ℕ) → a + n ≤ j → get_or v j z ≡ get_or v₀ j z
