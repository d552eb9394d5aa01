-- Stored answers are words of 8 bytes, the lowest first: what stands at a word, and whether numbers are the ones stored from a word on.
use Rattle.std.specs.Prelude.{ℕ, zero, suc, ◌+◌, ◌*◌, ◌≤◌, Bool, true, cond, ◌&&◌, List, length, get_or, ltb, eqb, Float}
use Rattle.std.specs.Float.{binary64}
use Rattle.std.specs.Float.Ieee.{of_bits, to_bits}
use Rattle.framing.specs.Bytes.{number_at}
use Rattle.vectors.specs.Vec.{at, list}
use Rattle.stored.specs.declared.Lengths.{Lengths}

-- word i; 0 beyond the end
unfoldable pub word_at : List ℕ → ℕ → ℕ
word_at s i = cond (ltb i 16384) (number_at (8 * i) 8 s) 0

-- word i as a count, at most `most`
unfoldable pub count_at : List ℕ → ℕ → ℕ → ℕ
count_at s i most = cond (ltb (word_at s i) most) (word_at s i) most

-- the n doubles stored from word a on
unfoldable pub doubles_at : List ℕ → ℕ → ℕ → List Float
doubles_at s a n = list n (λ i. of_bits binary64 (word_at s (a + i)))

-- whether f 0, .. , f (n - 1) are the words from a on
unfoldable pub same_to : (ℕ → ℕ) → List ℕ → ℕ → ℕ → Bool
same_to f s a zero = true
same_to f s a (suc n) = same_to f s a n && eqb (f n) (word_at s (a + n))

-- whether doubles, by their bits, are the words from a on; and whole numbers
abbrev pub same_doubles : List Float → List ℕ → ℕ → Bool
same_doubles x s a = same_to (λ i. to_bits binary64 (at x i)) s a (length x)

abbrev pub same_numbers : List ℕ → List ℕ → ℕ → Bool
same_numbers x s a = same_to (λ i. get_or x i 0) s a (length x)

-- whether the places of a fit are the words from a on: its trend, its cycle, its knots, its dual point
unfoldable pub same_places : List Float → List Float → List ℕ → List Float → List ℕ → ℕ → Bool
same_places t c k d s a = same_doubles t s a && (same_doubles c s (a + length t) && (same_numbers k s (a + 2 * length t) && same_doubles d s (a + 2 * length t + length k)))

-- the word past the answer that is stored from word a on, of a series of n with m differences: a refusal is its number; a fit is 0, its 10 numbers, trend, cycle, knots and dual point
unfoldable pub past_at : List ℕ → ℕ → ℕ → ℕ → ℕ
past_at s a n m = cond (eqb (word_at s a) 0) (a + 11 + 2 * n + count_at s (a + 6) 168 + m) (a + 1)

-- the lengths of the case that starts at word a, cut where the buffers of a week end
unfoldable pub lent_at : List ℕ → ℕ → Lengths
lent_at s a = record { n = count_at s (a + 3) 168; trend = count_at s (a + 4) 168; cycle = count_at s (a + 5) 168; knots = count_at s (a + 6) 168; dual = count_at s (a + 7) 168; work = count_at s (a + 8) 6720; marks = count_at s (a + 9) 336 }

-- lengths that those buffers have
pub record Within (l : Lengths) : Type 0 where
  pub n_in : l.n ≤ 168
  pub trend_in : l.trend ≤ 168
  pub cycle_in : l.cycle ≤ 168
  pub knots_in : l.knots ≤ 168
  pub dual_in : l.dual ≤ 168
  pub work_in : l.work ≤ 6720
  pub marks_in : l.marks ≤ 336
