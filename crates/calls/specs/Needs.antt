-- Document 02, A7, of two calls: what whoever asks first is told of the call that follows (`Rattle.calls.proofs.Needs` proves it).
use Rattle.std.specs.Prelude.{◌≡◌, ℕ, ◌≤◌, length, Result, Ok, Err}
use Rattle.questions.specs.declared.Figures.{Figures}
use Rattle.questions.specs.Questions.{Asked, needs_for, question}
use Rattle.questions.specs.Beforehand.{needed_for}
use Rattle.trend_filter.specs.declared.Summary.{Summary}
use Rattle.trend_filter.specs.Answers.{Buffers, lent, Scratch, Answered}

-- Two calls: the first asks what a fit needs and answers s, the second asks for that fit (the same n, order, penalty and max_iter), answers r, finds b in the buffers and leaves c.
pub record AskedFirst (s : Result Figures ℕ) (a : Asked) (r : Result Summary ℕ) (b c : Buffers) : Type 0 where
  pub first : s ≡ needed_for a
  pub second : Answered a r b c

-- what the first tells of the second
pub record Foretelling (s : Result Figures ℕ) (a : Asked) (r : Result Summary ℕ) (b c : Buffers) : Type 0 where
  -- whatever is fitted was given figures,
  pub given : (x : Summary) → r ≡ Ok x → s ≡ Ok (needs_for a)
  -- and its n_iter is at most the ceiling given
  pub ceiling : (x : Summary) → r ≡ Ok x → (g : Figures) → s ≡ Ok g → x.n_iter ≤ g.steps
  -- whoever lends the places given is not refused with 9,
  pub enough : (g : Figures) → s ≡ Ok g → g.work ≤ length b.work → g.marks ≤ length b.marks → r ≡ Err 9 → ⊥
  -- and no place of work or of marks beyond them is changed
  pub scratch : (g : Figures) → s ≡ Ok g → Scratch g b c
  -- where no figures are given the second is refused by a question too
  pub refuses : (q : ℕ) → s ≡ Err q → r ≡ Err (question a (lent b))

-- of any two such calls
abbrev pub AskedFirstKeeps : Type 0
AskedFirstKeeps = (s : Result Figures ℕ) (a : Asked) (r : Result Summary ℕ) (b c : Buffers) → AskedFirst s a r b c → Foretelling s a r b c
