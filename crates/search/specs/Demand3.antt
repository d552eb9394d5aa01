-- Demand 3, of the search of any problem: the words and the promise (`Rattle.search.proofs.Demand` proves it). Definitions only.
use Rattle.std.specs.Prelude.{ℕ, ◌<◌, ◌≡◌, Bool, true, not, Float}
use Rattle.std.specs.Float.{nan, inf, fin}
use Rattle.search.specs.declared.Reason.{Reason}
use Rattle.search.specs.declared.Reason.TheVariants.{LimitSpent}
use Rattle.search.specs.Reasons.{at_limit}
use Rattle.search.specs.Search.{Problem, Ended, searched}
use Rattle.search.specs.Bounds.{Bounded}

-- the bounds on where a search ended
abbrev pub BoundedEnd : {S : Type 0} → ℕ → Ended S → Type 0
BoundedEnd max_iter e = Bounded max_iter e.n_iter e.improvements e.first e.best

-- the same end with another reason
abbrev pub retold : {S : Type 0} → Ended S → Reason → Ended S
retold e r = record { state = e.state; n_iter = e.n_iter; first = e.first; best = e.best; improvements = e.improvements; reason = r }

-- the whole, for a search from s with the tolerance tol. It is proved for tol above 0 and a problem whose P is clear everywhere.
pub record SearchDemand3 {S : Type 0} (L : Problem S) (tol : Float) (s : S) : Type 0 where
  -- whatever the reason
  pub bounded : (max_iter : ℕ) → BoundedEnd max_iter (searched L tol max_iter s)
  -- where the limit is spent, n_iter is the limit;
  pub spent : (max_iter : ℕ) → (searched L tol max_iter s).reason ≡ LimitSpent → (searched L tol max_iter s).n_iter ≡ max_iter
  -- for any other reason every limit above n_iter gives the same end,
  pub alike : (max_iter other : ℕ) → ((searched L tol max_iter s).reason ≡ LimitSpent → ⊥) → (searched L tol max_iter s).n_iter < other → searched L tol other s ≡ searched L tol max_iter s
  -- and the limit n_iter the same but for the reason.
  pub at_limit : (max_iter : ℕ) → ((searched L tol max_iter s).reason ≡ LimitSpent → ⊥)
      → searched L tol (searched L tol max_iter s).n_iter s ≡ retold (searched L tol max_iter s) (at_limit (searched L tol max_iter s).reason)
  -- any two limits above 1,447,640 agree
  pub settled : (max_iter other : ℕ) → 1447640 < max_iter → 1447640 < other → searched L tol other s ≡ searched L tol max_iter s

-- a NaN, or a value whose sign is clear
abbrev pub clear : Float → Bool
clear nan = true
clear (inf s) = not s
clear (fin s m e) = not s
