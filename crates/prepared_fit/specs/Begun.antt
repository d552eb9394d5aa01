-- What the questions and the preparation leave. n is the length of the series. For the contracts between our own crates.
use Rattle.std.specs.Prelude.{◌≡◌, true, List, ℕ, ltb, length, Float, Result, Ok, Err}
use Rattle.vectors.specs.Parts.{Kept, part}
use Rattle.differences.specs.Diff.{diff_k, gram_row}
use Rattle.gram.specs.Gram.{zstar}
use Rattle.gram.specs.Prepared.{star_lane, diff_lane, preparation}
use Rattle.questions.specs.Questions.{Asked, Lent, question}
use Rattle.fit.specs.Fit.{refused, places, lam_max_of, fit}
use Rattle.fit.specs.Ways.{sound_dd}

-- the call is refused with q; questions 1 to 9 leave work unchanged, number 10 all of it behind the preparation
pub record Stops (a : Asked) (l : Lent) (w₀ w : List Float) (q : ℕ) : Type 0 where
  pub refuses : fit a l ≡ refused q
  pub unused : ltb q 10 ≡ true → w ≡ w₀
  pub kept : Kept 0 (preparation (length a.y)) w₀ w

-- the questions are passed, the series is prepared at the start of w, and top is lam_max
pub record Readies (a : Asked) (l : Lent) (w₀ w : List Float) (top : Float) : Type 0 where
  pub passes : question a l ≡ 0
  pub sound : sound_dd a ≡ true
  pub star : part (star_lane a.order (length a.y)) (places a) w ≡ zstar a.order (gram_row a.order) (places a) a.y
  pub differences : part (diff_lane (length a.y)) (places a) w ≡ diff_k a.order a.y
  pub top_is : top ≡ lam_max_of a
  pub kept : Kept 0 (preparation (length a.y)) w₀ w

-- one of the two
unfoldable pub Begins : Asked → Lent → List Float → List Float → Result Float ℕ → Type 0
Begins a l w₀ w (Err q) = Stops a l w₀ w q
Begins a l w₀ w (Ok top) = Readies a l w₀ w top
