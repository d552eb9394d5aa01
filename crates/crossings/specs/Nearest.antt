-- Document 02, A9, "Where the trend passes a mark": the knot nearest a place, whatever numbers the knots are and in whatever order.
use Rattle.std.specs.Prelude.{◌≡◌, cond, ◌&&◌, List, [], ◌∷◌, ℕ, ◌≤◌, min, leb, ltb, Option, Some, None, Result, Ok, Err}
use Rattle.vectors.specs.Vec.{apart}
use Rattle.vectors.specs.Rising.{Among}

-- of two knots the one nearer the place p; the lower where they are as near
abbrev pub nearer : ℕ → ℕ → ℕ → ℕ
nearer p a b = cond (ltb (apart p a) (apart p b)) a (cond (ltb (apart p b) (apart p a)) b (min a b))

-- the nearest of the knot a and the knots that follow it
unfoldable pub nearest_of : ℕ → ℕ → List ℕ → ℕ
nearest_of p a [] = a
nearest_of p a (b ∷ l) = nearest_of p (nearer p a b) l

-- the nearest of all knots, or that there is none
unfoldable pub nearest_in : ℕ → List ℕ → Option ℕ
nearest_in p [] = None
nearest_in p (a ∷ l) = Some (nearest_of p a l)

-- the answer for a trend of n places; 19: is n at most 65,536, and p below n?
unfoldable pub nearest_knot : ℕ → ℕ → List ℕ → Result (Option ℕ) ℕ
nearest_knot p n knots = cond (leb n 65536 && ltb p n) (Ok (nearest_in p knots)) (Err 19)

-- k is one of the knots; none is nearer p, and none that is as near is lower
pub record NearestOne (p : ℕ) (knots : List ℕ) (k : ℕ) : Type 0 where
  pub listed : Among k knots
  pub nearest : (j : ℕ) → Among j knots → apart p k ≤ apart p j
  pub lowest : (j : ℕ) → Among j knots → apart p j ≡ apart p k → k ≤ j

-- what is proved of the answer, for any knots (`Rattle.crossings.proofs.Nearest` proves it)
pub record AnswersNearest (p : ℕ) (knots : List ℕ) : Type 0 where
  -- a knot that is told is such a one,
  pub told : (k : ℕ) → nearest_in p knots ≡ Some k → NearestOne p knots k
  -- whichever is such a one is told, so that there is but one,
  pub only : (k : ℕ) → NearestOne p knots k → nearest_in p knots ≡ Some k
  -- and that there is none is told only where no knot was lent
  pub none : nearest_in p knots ≡ None → knots ≡ []
