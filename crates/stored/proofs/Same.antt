-- Counts that are cut, doubles that are loaded, one more number that is compared. Assumes nothing.
use mathlib.Core.Path.{◌≡◌, refl, sym, ap, ap₂, ◌∙◌}
use mathlib.Core.Bool.{Bool, true, false, ◌&&◌}
use Prim.Native.Nat.{ℕ, ◌+◌, ◌≤◌, ◌<◌}
use native.Mathlib.Numerals.{add-one}
use mathlib.Core.List.{List, ◌++◌}
use lib.ListN.{length, take, drop}
use lib.Seq.{take_all, length-take-le}
use lib.Dec.{eqb}
use lib.Ieee.{Float, binary64, of_bits}
use Rattle.std.proofs.Common.{◌≢◌, zero, suc, arith, eq-eqb, ne_eqb}
use Rattle.std.proofs.lemmas.Bool.{and_right, eqb-true, eqb-false}
use Rattle.vectors.specs.Vec.{list, put}
use Rattle.vectors.specs.Parts.{Written}
use Rattle.vectors.proofs.Laws.{length-list, at-list, front, written-put}
use Rattle.stored.specs.Words.{word_at, doubles_at, same_to}

-- the doubles stored from word a on
abbrev pub double_from : List ℕ → ℕ → ℕ → Float
double_from s a i = of_bits binary64 (word_at s (a + i))

-- n doubles were loaded into the first places of a run
pub loaded : (s : List ℕ) (a n : ℕ) {v₀ v : List Float} → Written 0 n (double_from s a) v₀ v → n ≤ length v₀ → v ≡ put v₀ 0 (doubles_at s a n)
unfolding doubles_at
loaded s a n w h = written-put (list n (double_from s a)) w (length-list n (double_from s a)) h (λ i l. sym (at-list n (double_from s a) i l))

-- the first n places of y were loaded, each in its turn, and stand before the others
pub loaded_part : (s : List ℕ) (a n : ℕ) (y : List Float) {i : ℕ} {v : List Float} → Written 0 i (double_from s a) (take n y) v → i ≡ n → n ≤ length y → v ++ drop n y ≡ put y 0 (doubles_at s a n)
unfolding doubles_at
loaded_part s a n y {i} {v} w h l =
    let f = double_from s a in
    let k : length v ≡ n = w.size ∙ length-take-le n y l in
    let w : Written 0 n f (take n y) v = rw h at w in
    let q : v ≡ list n f = sym (take_all n v (omega arith)) ∙ front w (omega arith) in
    let r : n ≡ 0 + length (list n f) = omega (arith, length-list n f) in
    ap₂ (λ (x : List Float) (j : ℕ). x ++ drop j y) q r

-- one more value that is its word; one that is not
pub same_more : (f : ℕ → ℕ) (s : List ℕ) (a n : ℕ) → same_to f s a n ≡ true → f n ≡ word_at s (a + n) → same_to f s a (n + 1) ≡ true
unfolding same_to
same_more f s a n e h = rw (add-one n, e) (eq-eqb _ _ h)

pub same_not : (f : ℕ → ℕ) (s : List ℕ) (a n m : ℕ) → f n ≢ word_at s (a + n) → n < m → false ≡ same_to f s a m
unfolding same_to
same_not f s a n zero h l = absurd (omega arith)
same_not f s a n (suc m) h l = go (same_not f s a n m h) (eqb n m) refl
  where
    go : (n < m → false ≡ same_to f s a m) → (b : Bool) → eqb n m ≡ b → false ≡ same_to f s a m && eqb (f m) (word_at s (a + m))
    go rest true e = let p : n ≡ m = eqb-true n m e in sym (and_right (same_to f s a m) (eqb (f m) (word_at s (a + m))) (ne_eqb _ _ (rw p at h)))
    go rest false e = let d = eqb-false n m e in ap (λ (b : Bool). b && eqb (f m) (word_at s (a + m))) (rest (omega arith))
