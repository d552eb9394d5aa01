-- Laws of the places of which a test holds: how many, in order, one more looked at, and that they are just those. Assumes nothing.
use mathlib.Core.Path.{◌≡◌, refl, sym, ap, ◌∙◌}
use mathlib.Core.Logic.{⊎_elim}
use mathlib.Core.Bool.{Bool, true, false, cond}
use mathlib.Core.List.{List, [], ◌∷◌, ◌++◌, append-nil}
use Prim.Native.Nat.{ℕ, zero, suc, ◌+◌, ◌≤◌, ◌<◌}
use native.Mathlib.Nat.{eq-or-lt_of_le, le_of_suc-le-suc}
use native.Mathlib.Numerals.{add-one}
use native.Mathlib.Omega.{arith}
use lib.ListN.{length, get_or, length-append, get_or-append}
use lib.Seq.{get_or_at}
use Rattle.vectors.specs.Vec.{places_to}
use Rattle.vectors.specs.Parts.{Wrote}
use Rattle.vectors.specs.Rising.{Rising, Among}
use Rattle.vectors.proofs.Texts.{wrote_then}
use Rattle.vectors.proofs.Rising.{rising_none, rising_within, rising_more}

one_length : (b : Bool) (n : ℕ) → length (cond b (n ∷ []) []) ≡ cond b 1 0
one_length true n = refl
one_length false n = refl

pub one_le : (b : Bool) → cond b 1 0 ≤ 1
one_le true = omega arith
one_le false = omega arith

rising_if : (l : List ℕ) (n : ℕ) → Rising n l → (b : Bool) → Rising (suc n) (l ++ cond b (n ∷ []) [])
rising_if l n r true = rising_more n l r
rising_if l n r false = rw (append-nil l) (rising_within r (omega arith))

-- a number of the list, or the last one
among_old : (l m : List ℕ) {i : ℕ} → Among i l → Among i (l ++ m)
among_old l m a = record { place = a.place; within = omega (arith, a.within, length-append l m); holds = get_or-append l m 0 a.place a.within ∙ a.holds }

among_last : (l : List ℕ) (n : ℕ) → Among n (l ++ (n ∷ []))
among_last l n = record { place = length l; within = omega (arith, length-append l (n ∷ [])); holds = get_or_at l n [] 0 (length l) refl }

-- what holds of all numbers of the list and of the last one
holds_if : (p : ℕ → Bool) (l : List ℕ) (n : ℕ) (b : Bool) → p n ≡ b → ((j : ℕ) → j < length l → p (get_or l j 0) ≡ true)
    → (j : ℕ) → j < length (l ++ cond b (n ∷ []) []) → p (get_or (l ++ cond b (n ∷ []) []) j 0) ≡ true
holds_if p l n true e h j g =
    ⊎_elim
    (λ (q : j ≡ length l). ap p (get_or_at l n [] 0 j (sym q)) ∙ e)
    (λ (q : j < length l). ap p (get_or-append l (n ∷ []) 0 j q) ∙ h j q)
    (eq-or-lt_of_le (omega (arith, length-append l (n ∷ []))))
holds_if p l n false e h j g =
    let q : j < length l = omega (arith, length-append l []) in
    ap p (get_or-append l [] 0 j q) ∙ h j q

module _ (p : ℕ → Bool) where
  -- how many: one more where it holds of the next, so no more of them than places
  pub places_count : (n : ℕ) → length (places_to p (suc n)) ≡ length (places_to p n) + cond (p n) 1 0
  unfolding places_to
  places_count n = length-append (places_to p n) (cond (p n) (n ∷ []) []) ∙ ap (λ (x : ℕ). length (places_to p n) + x) (one_length (p n) n)

  pub places_few : (n : ℕ) → length (places_to p n) ≤ n
  unfolding places_to
  places_few zero = omega arith
  places_few (suc n) = omega (arith, places_count n, places_few n, one_le (p n))

  -- they rise strictly
  pub places_rising : (n : ℕ) → Rising n (places_to p n)
  unfolding places_to
  places_rising zero = rising_none 0
  places_rising (suc n) = rising_if (places_to p n) n (places_rising n) (p n)

  -- of each of them it holds
  pub places_hold : (n j : ℕ) → j < length (places_to p n) → p (get_or (places_to p n) j 0) ≡ true
  unfolding places_to
  places_hold zero j h = absurd (omega arith)
  places_hold (suc n) j h = holds_if p (places_to p n) n (p n) refl (places_hold n) j h

  -- each of which it holds is one of them
  pub places_all : (n i : ℕ) → i < n → p i ≡ true → Among i (places_to p n)
  unfolding places_to
  places_all zero i h e = absurd (omega arith)
  places_all (suc n) i h e =
      ⊎_elim
      (λ (q : i ≡ n). rw (q, rw q at e) (among_last (places_to p n) n))
      (λ (q : i < n). among_old (places_to p n) (cond (p n) (n ∷ []) []) (places_all n i q e))
      (eq-or-lt_of_le (le_of_suc-le-suc h))

  -- one more place looked at: x, written where b holds
  pub places-more : (i : ℕ) {x : ℕ} {b : Bool} {s₀ s s' : List ℕ} {m r : ℕ} → Wrote s₀ 0 (places_to p i) s m → Wrote s m (cond b (x ∷ []) []) s' r → x ≡ i → b ≡ p i
      → Wrote s₀ 0 (places_to p (i + 1)) s' r
  unfolding places_to
  places-more i v w e q = rw (add-one i) (wrote_then v (rw (e, q) at w))
