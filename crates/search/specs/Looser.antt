-- Document 02, A13, of the search of any problem: a looser tolerance costs no more steps (`Rattle.search.proofs.Looser` proves it). Definitions only.
use Rattle.std.specs.Prelude.{ℕ, ◌≤◌, Bool, not, ◌&&◌, T, Float}
use Rattle.std.specs.Float.Ieee.{lt, le}
use Rattle.float64.specs.Helpers.{is_finite}
use Rattle.float64.specs.Ops.{c0}
use Rattle.search.specs.Search.{Problem, searched}

-- finite and above 0, as question 6 asks it of a tolerance
abbrev pub finite_above0 : Float → Bool
finite_above0 x = is_finite x && lt c0 x

-- a NaN, or not below 0
abbrev pub not_below0 : Float → Bool
not_below0 x = not (lt x c0)

-- Where P is a NaN or not below 0 at every state: of two such tolerances the one that is not smaller costs no more iterations, from any state and under any limit.
abbrev pub LooserSearch : {S : Type 0} → Problem S → Type 0
LooserSearch {S} L =
    ((s : S) → T (not_below0 (L.primal s)))
    → (tol looser : Float) → T (finite_above0 tol) → T (finite_above0 looser) → T (le tol looser)
    → (max_iter : ℕ) (s : S) → (searched L looser max_iter s).n_iter ≤ (searched L tol max_iter s).n_iter
