-- The marks: how each place is held, in the run lent for them; and the compressed system on a run. For the contracts between our own crates.
use Rattle.std.specs.Prelude.{◌≡◌, Bool, true, cond, List, ℕ, ◌+◌, ◌-◌, ◌*◌, ◌^◌, ◌≤◌, ◌<◌, eqb, length, get_or, Float}
use Rattle.vectors.specs.Parts.{Kept, part}
use Rattle.differences.specs.Diff.{gram_row}
use Rattle.banded.specs.Rows.{sound}
use Rattle.active_set.specs.declared.Hold.TheVariants.{Free, Upper, Lower}
use Rattle.active_set.specs.declared.Hold.{Hold}
use Rattle.active_set.specs.ActiveSet.{free_to, compressed, solved}

-- the mark of each way to be held, and the way that a mark stands for
abbrev pub mark_of : Hold → ℕ
mark_of Free = 0
mark_of Upper = 1
mark_of Lower = 2

abbrev pub hold_of : ℕ → Hold
hold_of x = cond (eqb x 0) Free (cond (eqb x 1) Upper Lower)

-- how place j is held by the marks from n on
abbrev pub held_by : ℕ → List ℕ → ℕ → Hold
held_by n v j = hold_of (get_or v (n + j) 0)

-- v begins with the q free places of m, and from n on tells how each place is held
pub record Marks (h : ℕ → Hold) (n m : ℕ) (v : List ℕ) (q : ℕ) : Type 0 where
  pub count : q ≡ length (free_to h m)
  pub free : (j : ℕ) → j < q → get_or v j 0 ≡ get_or (free_to h m) j 0
  pub held : (j : ℕ) → j < m → get_or v (n + j) 0 ≡ mark_of (h j)

-- what the marking asks: a point of m numbers after n places of a run, and the marks' places
pub record Markable (n m places marks : ℕ) : Type 0 where
  pub few : m ≤ n
  pub narrow : n < 2 ^ 32
  pub room : n + m + m + m ≤ places
  pub marked : n + m ≤ marks

-- ---- the compressed system over the first q places of the marks v

-- a place of it, its first q rows, and its right side at the place i of m
pub record Cell (k row column rows : ℕ) : Type 0 where
  pub order : k ≤ 2
  pub across : column ≤ k
  pub down : row < rows

pub record Bands (k q rows places : ℕ) : Type 0 where
  pub order : k ≤ 2
  pub down : q ≤ rows
  pub room : q * (k + 1) ≤ places

pub record Side (k n m i marks known : ℕ) : Type 0 where
  pub order : k ≤ 2
  pub inside : i < m
  pub marked : n + m ≤ marks
  pub dy : m ≤ known

-- v begins with q of the n - k places, and from n on has the marks; as many of D y are known
pub record Freed (k n : ℕ) (v : List ℕ) (known q : ℕ) : Type 0 where
  pub order : k ≤ 2
  pub marked : 2 * n ≤ length v
  pub dy : n ≤ known + k
  pub few : q + k ≤ n
  pub places : (j : ℕ) → j < q → get_or v j 0 + k < n

-- Whatever h the marks tell: ok says whether the pivots of its system are all good, and if so its solution stands in s after the rows.
pub record Settled (k n : ℕ) (dy : List Float) (lam : Float) (v : List ℕ) (q : ℕ) (s₀ s : List Float) (ok : Bool) : Type 0 where
  pub answer : (h : ℕ → Hold) → Marks h n (n - k) v q → ok ≡ sound k (compressed k (gram_row k) (free_to h (n - k))) q
  pub solution : (h : ℕ → Hold) → Marks h n (n - k) v q → ok ≡ true → part (q * (k + 1)) q s ≡ solved k (gram_row k) dy lam h (n - k)
  pub kept : Kept 0 (q * (k + 1) + q) s₀ s
