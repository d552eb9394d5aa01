-- Document 01, "Differences and bands": flat rows of k + 1 numbers, the Rust's rows one after the other. A run begins with m of them; the right side of a system comes after.
-- For the contracts between our own crates.
use Rattle.std.specs.Prelude.{◌≡◌, Bool, List, [], ◌∷◌, ◌++◌, ℕ, ◌+◌, ◌-◌, ◌*◌, ◌<◌, ◌≤◌, length, Float}
use Rattle.vectors.specs.Vec.{at}
use Rattle.vectors.specs.Parts.{Kept}
use Rattle.banded.specs.Rows.{Matrix, line, placed, entry, good}
use Rattle.banded.specs.Solve.{forward_at}

-- rows one after the other
unfoldable pub concat : List (List Float) → List Float
concat [] = []
concat (x ∷ f) = x ++ concat f

-- place c of row i of a run, and of a list of rows
abbrev pub flat : ℕ → List Float → ℕ → ℕ → Float
flat k s i c = at s (i * (k + 1) + c)

abbrev pub look : List (List Float) → ℕ → ℕ → Float
look f i c = at (line f i) c

-- the matrix that a run keeps
abbrev pub of_run : ℕ → List Float → Matrix
of_run k s i j = flat k s i (j + k - i)

-- s begins with m rows that keep a; what stands where there is no column is free
abbrev pub Keeps : ℕ → ℕ → Matrix → List Float → Type 0
Keeps k m a s = (i j : ℕ) → i < m → j ≤ i → i ≤ j + k → of_run k s i j ≡ a i j

-- f is m rows of k + 1 places
pub record Shape (k m : ℕ) (f : List (List Float)) : Type 0 where
  pub count : length f ≡ m
  pub full : (i : ℕ) → i < m → length (line f i) ≡ k + 1

-- s begins with them
pub record Holds (k m : ℕ) (f : List (List Float)) (s : List Float) : Type 0 where
  pub shape : Shape k m f
  pub same : (i c : ℕ) → i < m → c ≤ k → flat k s i c ≡ look f i c

-- from place b on stands x
abbrev pub Stands : ℕ → List Float → List Float → Type 0
Stands b x s = (j : ℕ) → j < length x → at s (b + j) ≡ at x j

-- s is s₀ but for the first n places of row r, which are now the factor's
pub record Factored (k r n : ℕ) (s₀ s : List Float) : Type 0 where
  pub kept : Kept (r * (k + 1)) n s₀ s
  pub made : (c : ℕ) → c < n → flat k s r c ≡ placed k (entry k (of_run k s₀) (of_run k s)) r c

-- a run of n places has m rows and their right side, and row r is one of the m
pub record HasRow (k m r n : ℕ) : Type 0 where
  pub row : r < m
  pub room : m * (k + 1) + m ≤ n

-- s is s₀ but for row r and place r of the right side
pub record Elsewhere (k m r : ℕ) (s₀ s : List Float) : Type 0 where
  pub size : length s ≡ length s₀
  pub below : (q : ℕ) → q < r * (k + 1) → at s q ≡ at s₀ q
  pub between : (q : ℕ) → (r + 1) * (k + 1) ≤ q → q < m * (k + 1) + r → at s q ≡ at s₀ q
  pub above : (q : ℕ) → m * (k + 1) + r < q → at s q ≡ at s₀ q

-- that row is now v, and that place x
pub record Stored (k m r : ℕ) (v : ℕ → Float) (x : Float) (s₀ s : List Float) : Type 0 where
  pub elsewhere : Elsewhere k m r s₀ s
  pub row : (c : ℕ) → c ≤ k → flat k s r c ≡ v c
  pub side : at s (m * (k + 1) + r) ≡ x

-- that row is now the factor's, and that place carried forward; ok says whether the row's pivot is good
pub record Eliminated (k m r : ℕ) (s₀ s : List Float) (ok : Bool) : Type 0 where
  pub elsewhere : Elsewhere k m r s₀ s
  pub made : (c : ℕ) → c ≤ k → flat k s r c ≡ placed k (entry k (of_run k s₀) (of_run k s)) r c
  pub carried : at s (m * (k + 1) + r) ≡ forward_at k (of_run k s) (λ j. at s (m * (k + 1) + j)) (at s₀ (m * (k + 1) + r)) r
  pub pivot : ok ≡ good (flat k s r k)
