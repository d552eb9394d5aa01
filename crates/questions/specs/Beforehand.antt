-- Document 02, A7, "Ask first how much a fit needs": the answer before a call, and what it tells of the call's questions (`Rattle.questions.proofs.Beforehand` proves it).
use Rattle.std.specs.Prelude.{◌≡◌, cond, ◌&&◌, ℕ, ◌+◌, ◌≤◌, leb, eqb, length, Result, Ok, Err}
use Rattle.questions.specs.declared.Figures.{Figures}
use Rattle.questions.specs.Needs.{needs_of}
use Rattle.questions.specs.Questions.{Asked, Lent, one_or_two, ask, needs_for, question}

-- the first of questions 1, 2, 3 and 7 answered no, and 0 where none is
abbrev pub first_no : ℕ → ℕ → ℕ → ℕ → ℕ
first_no n max_iter order penalty = ask 1 (one_or_two order && one_or_two penalty) (ask 2 (leb (order + 1) n) (ask 3 (leb n 65536) (ask 7 (leb 1 max_iter) 0)))

-- the figures, or the number of the question answered no
unfoldable pub needed : ℕ → ℕ → ℕ → ℕ → Result Figures ℕ
needed n max_iter order penalty =
    let q = first_no n max_iter order penalty in
    cond (eqb q 0) (Ok (needs_of n max_iter penalty)) (Err q)

-- the answer to whoever asks before a
abbrev pub needed_for : Asked → Result Figures ℕ
needed_for a = needed (length a.y) a.max_iter a.order a.penalty

-- what it tells of the call, whatever is lent
pub record Foretells (a : Asked) (l : Lent) : Type 0 where
  -- a call that passes every question was given the figures of question 9,
  pub given : question a l ≡ 0 → needed_for a ≡ Ok (needs_for a)
  -- and one that lends the figures given is not refused with 9
  pub enough : (g : Figures) → needed_for a ≡ Ok g → g.work ≤ l.work → g.marks ≤ l.marks → question a l ≡ 9 → ⊥
  -- one that was refused with 1, 2 or 3 before is refused with the same number,
  pub same : (q : ℕ) → needed_for a ≡ Err q → q ≤ 3 → question a l ≡ q
  -- and one that was refused with 7 is refused with 4, 5, 6 or 7
  pub limit : needed_for a ≡ Err 7 → (4 ≤ question a l) × (question a l ≤ 7)
