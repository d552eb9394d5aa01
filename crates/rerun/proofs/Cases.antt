-- The lengths that a case lends, its series, and the whole of it. Assumes nothing.
use mathlib.Core.Path.{◌≡◌, sym, ap, ◌∙◌}
use Prim.Native.Nat.{ℕ, ◌+◌, ◌-◌, ◌≤◌}
use native.Mathlib.Omega.{arith}
use mathlib.Core.Bool.{Bool}
use mathlib.Core.List.{List}
use lib.ListN.{length, take, replicate, length-replicate}
use lib.Seq.{length-take-le}
use lib.Ieee.{Float, binary64, of_bits}
use Rattle.vectors.specs.Vec.{put}
use Rattle.vectors.proofs.Laws.{length-list}
use Rattle.vectors.proofs.Texts.{take_put}
use Rattle.questions.specs.Asking.{asking, lending}
use Rattle.fit.specs.Fit.{fit}
use Rattle.stored.specs.Words.{word_at, doubles_at, lent_at}
use Rattle.stored.specs.declared.Lengths.{Lengths}
use Rattle.compared.specs.Outcomes.{same_outcome}
use Rattle.rerun.specs.Cases.{option_at, asked_at, lending_of, equal_at}

-- lengths lent
pub lending_is : {t c k d w m : ℕ} (l : Lengths) → t ≡ l.trend → c ≡ l.cycle → k ≡ l.knots → d ≡ l.dual → w ≡ l.work → m ≡ l.marks → lending t c k d w m ≡ lending_of l
lending_is l et ec ek ed ew em = rw (et, ec, ek, ed, ew, em)

-- the first t places of an array of n
pub first_long : {A : Type 0} (x : A) (n t : ℕ) → t ≤ n → length (take (t - 0) (replicate n x)) ≡ t
first_long x n t h = let e : t - 0 ≡ t = omega arith in rw e (length-take-le t (replicate n x) (omega (arith, length-replicate n x)))

-- the first n places, after n doubles were loaded
pub loaded : (s : List ℕ) (a n : ℕ) (u v : List Float) → v ≡ put u 0 (doubles_at s a n) → take n v ≡ doubles_at s a n
unfolding doubles_at
loaded s a n u v e = take_put u (doubles_at s a n) n e (length-list n _)

pub loaded_long : (s : List ℕ) (a n : ℕ) (u v : List Float) → v ≡ put u 0 (doubles_at s a n) → n ≡ length (take n v)
unfolding doubles_at
loaded_long s a n u v e = sym (ap length (loaded s a n u v e) ∙ length-list n _)

-- the whole case
pub case_is : (s : List ℕ) (a : ℕ) {l : Lengths} {y : List Float} {lam tol : Float} {max_iter order penalty : ℕ} {r : Bool}
    → l ≡ lent_at s a → y ≡ doubles_at s (a + 13) l.n → lam ≡ of_bits binary64 (word_at s (a + 10)) → tol ≡ of_bits binary64 (word_at s (a + 11)) → max_iter ≡ word_at s (a + 12)
    → order ≡ option_at s (a + 1) → penalty ≡ option_at s (a + 2)
    → r ≡ same_outcome (fit (asking y lam tol max_iter order penalty) (lending_of l)) s (a + 13 + l.n) → r ≡ equal_at s a
unfolding equal_at asked_at
case_is s a el ey ea et em eo ep h = h ∙ rw (ey, ea, et, em, eo, ep, el)
