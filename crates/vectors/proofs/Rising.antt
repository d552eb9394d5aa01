-- Laws of numbers that rise strictly. Assumes nothing.
use mathlib.Core.Path.{◌≡◌, refl, sym}
use mathlib.Core.Logic.{◌⊎◌, ⊎_elim}
use mathlib.Core.List.{List, [], ◌∷◌, ◌++◌, map}
use Prim.Native.Nat.{ℕ, zero, suc, ◌+◌, ◌≤◌, ◌<◌}
use native.Mathlib.Nat.{eq-or-lt_of_le}
use native.Mathlib.Omega.{arith}
use lib.ListN.{length, get_or, length-append, length-map, get_or-append}
use lib.Seq.{get_or_at}
use Rattle.vectors.specs.Rising.{Rising, Among}
use Rattle.vectors.proofs.Parts.{split}

pub rising_none : (n : ℕ) → Rising n []
rising_none n = record { below = λ i h. absurd (omega arith); strictly = λ i j h g. absurd (omega arith) }

-- a greater bound
pub rising_within : {m n : ℕ} {l : List ℕ} → Rising m l → m ≤ n → Rising n l
rising_within r h = record { below = λ i k. omega (arith, r.below i k); strictly = r.strictly }

-- a later one is not below an earlier one
rising_later : {n : ℕ} {l : List ℕ} → Rising n l → (i j : ℕ) → i ≤ j → j < length l → get_or l i 0 ≤ get_or l j 0
rising_later r i j h g = ⊎_elim (λ e. rw e (omega arith)) (λ s. omega (arith, r.strictly i j s g)) (eq-or-lt_of_le h)

-- none lies between two that follow one another
pub none_between : {n : ℕ} {l : List ℕ} → Rising n l → (j : ℕ) → j + 1 < length l → (i : ℕ) → get_or l j 0 < i → i < get_or l (j + 1) 0 → Among i l → ⊥
none_between r j h i a b m =
    ⊎_elim
    (λ (later : j < m.place). omega (arith, m.holds, rising_later r (j + 1) m.place (omega arith) m.within))
    (λ (not-later : m.place ≤ j). omega (arith, m.holds, rising_later r m.place j not-later (omega arith)))
    (split j m.place)

-- n itself after numbers below n
module _ (n : ℕ) (l : List ℕ) where
  size : length (l ++ (n ∷ [])) ≡ length l + 1
  size = length-append l (n ∷ [])

  old : (i : ℕ) → i < length l → get_or (l ++ (n ∷ [])) i 0 ≡ get_or l i 0
  old i h = get_or-append l (n ∷ []) 0 i h

  new : (i : ℕ) → i ≡ length l → get_or (l ++ (n ∷ [])) i 0 ≡ n
  new i e = get_or_at l n [] 0 i (sym e)

  last_or_old : (i : ℕ) → i < length (l ++ (n ∷ [])) → (i ≡ length l) ⊎ (i < length l)
  last_or_old i h = eq-or-lt_of_le (omega (arith, size))

  pub rising_more : Rising n l → Rising (suc n) (l ++ (n ∷ []))
  rising_more r = record {
    below = λ i h. ⊎_elim (λ e. omega (arith, new i e)) (λ g. omega (arith, old i g, r.below i g)) (last_or_old i h);
    strictly = λ i j h g.
        let f : i < length l = omega (arith, size) in
        ⊎_elim (λ e. omega (arith, new j e, old i f, r.below i f)) (λ q. omega (arith, old j q, old i f, r.strictly i j h q)) (last_or_old j g);
  }

-- the places ks of ps
abbrev picked : List ℕ → List ℕ → List ℕ
picked ps ks = map (λ (k : ℕ). get_or ps k 0) ks

get_d_picked : (ps ks : List ℕ) (i : ℕ) → i < length ks → get_or (picked ps ks) i 0 ≡ get_or ps (get_or ks i 0) 0
get_d_picked ps [] i h = absurd (omega arith)
get_d_picked ps (k ∷ ks) zero h = refl
get_d_picked ps (k ∷ ks) (suc i) h = get_d_picked ps ks i (omega arith)

pub rising_picked : {n : ℕ} (ps ks : List ℕ) → Rising n ps → Rising (length ps) ks → Rising n (picked ps ks)
rising_picked ps ks r q =
    let size = length-map ks (λ (k : ℕ). get_or ps k 0) in
    record {
      below = λ i h. let g : i < length ks = omega (arith, size) in omega (arith, get_d_picked ps ks i g, r.below (get_or ks i 0) (q.below i g));
      strictly = λ i j h g.
          let e : j < length ks = omega (arith, size) in
          omega (arith, get_d_picked ps ks i (omega arith), get_d_picked ps ks j e, r.strictly (get_or ks i 0) (get_or ks j 0) (q.strictly i j h e) (q.below j e));
    }
