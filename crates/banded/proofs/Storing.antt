-- One row of a run, and its place of the right side, stored: any order, and then orders 1 and 2. Assumes nothing.
use mathlib.Core.List.{List, [], ◌∷◌}
use mathlib.Core.Path.{◌≡◌, refl, sym, ap, ◌∙◌}
use Prim.Native.Nat.{ℕ, zero, suc, ◌+◌, ◌-◌, ◌*◌, ◌≤◌, ◌<◌}
use native.Mathlib.Nat.{ne_of_lt, ne_of_gt, mul-le-mul_right}
use native.Mathlib.Omega.{arith}
use lib.ListN.{length, set, length-set}
use lib.Seq.{get_or-set_same, get_or-set_other}
use lib.Ieee.{Float, nan}
use Rattle.vectors.specs.Vec.{at}
use Rattle.vectors.specs.Parts.{Written}
use Rattle.vectors.proofs.Laws.{none, up, store_more}
use Rattle.banded.specs.Run.{HasRow, Stored}
use Rattle.banded.proofs.Laws.{one_row}

-- row r written from place p on, and then x in place b
pub stored : {k m r : ℕ} {v : ℕ → Float} {x : Float} {s₀ s : List Float} (p b : ℕ) → p ≡ r * (k + 1) → b ≡ m * (k + 1) + r → HasRow k m r (length s₀)
    → Written p (p + (k + 1)) (λ q. v (q - p)) s₀ s → Stored k m r v x s₀ (set s b x)
stored {k} {m} {r} {v} {x} {s₀} {s} p b at_p at_b has w =
    let h = has.row in
    let fits = has.room in
    let room : (r + 1) * (k + 1) ≤ m * (k + 1) = mul-le-mul_right (k + 1) (omega arith) in
    let one = one_row k r in
    let n = w.size in
    record {
      elsewhere = record {
        size = length-set s b x ∙ w.size;
        below = λ q l. get_or-set_other s b q x nan (ne_of_lt (omega arith)) ∙ w.below q (omega arith);
        between = λ q l o. get_or-set_other s b q x nan (ne_of_lt (omega arith)) ∙ w.above q (omega arith);
        above = λ q l. get_or-set_other s b q x nan (ne_of_gt (omega arith)) ∙ w.above q (omega arith);
      };
      row = λ c l.
          let e : r * (k + 1) + c - p ≡ c = omega arith in
          get_or-set_other s b (r * (k + 1) + c) x nan (ne_of_lt (omega arith)) ∙ w.inside (r * (k + 1) + c) (omega arith) (omega arith) ∙ rw e;
      side = ap (at (set s b x)) (sym at_b) ∙ get_or-set_same s b x nan (omega arith);
    }

-- the first place of a row
first : (p : ℕ) (v : ℕ → Float) (s : List Float) (x : Float) → p < length s → x ≡ v 0 → Written p (p + 1) (λ q. v (q - p)) s (set s p x)
first p v s x h e = let z : p - p ≡ 0 = omega arith in up none (omega arith) h (e ∙ rw z)

module _ (m r : ℕ) (s : List Float) (a b x : Float) where
  pub stored_1 : HasRow 1 m r (length s) → Stored 1 m r (at (a ∷ b ∷ [])) x s (set (set (set s (r * 2) a) (r * 2 + 1) b) (m * 2 + r) x)
  stored_1 has =
      let row = has.row in
      let room = has.room in
      let v : ℕ → Float = at (a ∷ b ∷ []) in
      let n = length-set s (r * 2) a in
      stored (r * 2) (m * 2 + r) refl refl has
      (store_more (r * 2) 1 v s (set s (r * 2) a) b (first (r * 2) v s a (omega arith) refl) (omega arith) refl)

  pub stored_2 : (d : Float) → HasRow 2 m r (length s)
      → Stored 2 m r (at (a ∷ b ∷ d ∷ [])) x s (set (set (set (set s (r * 3) a) (r * 3 + 1) b) (r * 3 + 2) d) (m * 3 + r) x)
  stored_2 d has =
      let row = has.row in
      let room = has.room in
      let v : ℕ → Float = at (a ∷ b ∷ d ∷ []) in
      let n = length-set s (r * 3) a in
      let o = length-set (set s (r * 3) a) (r * 3 + 1) b in
      stored (r * 3) (m * 3 + r) refl refl has
      (store_more (r * 3) 2 v s (set (set s (r * 3) a) (r * 3 + 1) b) d
      (store_more (r * 3) 1 v s (set s (r * 3) a) b (first (r * 3) v s a (omega arith) refl) (omega arith) refl) (omega arith) refl)

-- the same row, said otherwise
pub stored_as : {k m r : ℕ} {v w : ℕ → Float} {x : Float} {s₀ s : List Float} → Stored k m r v x s₀ s → ((c : ℕ) → c ≤ k → v c ≡ w c) → Stored k m r w x s₀ s
stored_as st e = record { elsewhere = st.elsewhere; row = λ c h. st.row c h ∙ e c h; side = st.side }

pub first_two : (f g : ℕ → Float) → f 0 ≡ g 0 → f 1 ≡ g 1 → (c : ℕ) → c ≤ 1 → f c ≡ g c
first_two f g p q zero h = p
first_two f g p q (suc zero) h = q
first_two f g p q (suc (suc c)) h = absurd (omega arith)

pub first_three : (f g : ℕ → Float) → f 0 ≡ g 0 → f 1 ≡ g 1 → f 2 ≡ g 2 → (c : ℕ) → c ≤ 2 → f c ≡ g c
first_three f g p q r zero h = p
first_three f g p q r (suc zero) h = q
first_three f g p q r (suc (suc zero)) h = r
first_three f g p q r (suc (suc (suc c))) h = absurd (omega arith)
