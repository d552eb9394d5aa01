-- Laws of `Wrote`: one run after another is the two joined, and one place of a run replaced. Assumes nothing.
use mathlib.Core.Path.{◌≡◌, refl, sym, ap, ap₂, ◌∙◌}
use mathlib.Core.Bool.{Bool, true, false, cond}
use Prim.Native.Nat.{ℕ, suc, ◌+◌, ◌≤◌, ◌<◌}
use native.Mathlib.Numerals.{add-one}
use native.Mathlib.Omega.{arith}
use mathlib.Core.List.{List, [], ◌∷◌, ◌++◌, append_assoc}
use lib.ListN.{length, get_or, take, drop, set, length-append, length-drop, length-set, take-append-drop}
use lib.Seq.{take-suc, take_all, set_split, set-append_left, set_out, append_snoc, length-take-le, take_at, drop_at, drop-drop}
use lib.Dec.{ltb}
use borrow.Author.Tests.{ltb-true, ltb-false}
use native.Mathlib.Nat.{zero-add, add-zero, add_assoc}
use mathlib.Core.List.{append-nil}
use lib.Ieee.{Float, nan}
use Rattle.vectors.specs.Vec.{at, put}
use Rattle.vectors.specs.Parts.{Kept, part, Wrote}
use Rattle.vectors.proofs.Laws.{written-put}
use Rattle.vectors.proofs.Parts.{length_part, at_part, first_part, kept_drop}

module _ {A : Type 0} where
  pub wrote_none : (d : List A) (at : ℕ) → at ≤ length d → Wrote d at [] d at
  wrote_none d at h = record {
    next = sym (add-zero at);
    room = h;
    text = sym (ap (λ (k : ℕ). take at d ++ [] ++ drop k d) (add-zero at) ∙ ap (λ (r : List A). r ++ drop at d) (append-nil (take at d)) ∙ take-append-drop at d);
  }

  head_length : (d : List A) (at : ℕ) (t : List A) → at ≤ length d → length (take at d ++ t) ≡ at + length t
  head_length d at t h = length-append (take at d) t ∙ ap (λ (k : ℕ). k + length t) (length-take-le at d h)

  pub wrote_length : {d : List A} {at : ℕ} {t e : List A} {r : ℕ} → Wrote d at t e r → length e ≡ length d
  wrote_length {d} {at} {t} {e} {r} w =
      let h : at + length t ≤ length d = omega (arith, w.next, w.room) in
      ap length w.text
      ∙ length-append (take at d ++ t) (drop (at + length t) d)
      ∙ ap₂ (λ (x y : ℕ). x + y) (head_length d at t (omega arith)) (length-drop (at + length t) d)
      ∙ omega arith

  pub wrote_then : {d : List A} {at : ℕ} {t e : List A} {m : ℕ} {u f : List A} {r : ℕ} → Wrote d at t e m → Wrote e m u f r → Wrote d at (t ++ u) f r
  wrote_then {d} {at} {t} {e} {m} {u} {f} {r} v w =
      let le : length e ≡ length d = wrote_length v in
      let lt : length (t ++ u) ≡ length t + length u = length-append t u in
      let hd : at ≤ length d = omega (arith, v.next, v.room) in
      let nx : r ≡ at + length (t ++ u) = omega (arith, v.next, w.next) in
      let hm : length (take at d ++ t) ≡ m = head_length d at t hd ∙ sym v.next in
      let fr : take m e ≡ take at d ++ t = ap (take m) v.text ∙ take_at (take at d ++ t) (drop (at + length t) d) m hm in
      let bk : drop m e ≡ drop m d = ap (drop m) v.text ∙ drop_at (take at d ++ t) (drop (at + length t) d) m hm ∙ ap (λ (k : ℕ). drop k d) (sym v.next) in
      let en : drop (m + length u) e ≡ drop (at + length (t ++ u)) d =
      sym (drop-drop (length u) m e) ∙ ap (drop (length u)) bk ∙ drop-drop (length u) m d ∙ ap (λ (k : ℕ). drop k d) (sym w.next ∙ nx) in
      record {
        next = nx;
        room = omega (arith, w.room);
        text = w.text ∙ ap₂ (λ (x y : List A). x ++ u ++ y) fr en ∙ ap (λ (x : List A). x ++ drop (at + length (t ++ u)) d) (append_assoc (take at d) t u);
      }

  pub wrote_one : (d : List A) (n : ℕ) (v : A) → n < length d → Wrote d n (v ∷ []) (set d n v) (n + 1)
  wrote_one d n v h = record {
    next = refl;
    room = omega arith;
    text = set_split d n v h ∙ sym (append_snoc (take n d) v (drop (suc n) d)) ∙ ap (λ (k : ℕ). take n d ++ (v ∷ []) ++ drop k d) (sym (add-one n));
  }

  -- a copy from s: none of it, one element more, and all of it
  pub copied_none : (d : List A) (at : ℕ) (s : List A) → at ≤ length d → Wrote d at (take 0 s) d (at + 0)
  copied_none d at s h = rw add-zero (wrote_none d at h)

  pub copied_more : (s : List A) (z : A) {d e : List A} {at i : ℕ} → Wrote d at (take i s) e (at + i) → i < length s → at + i < length e
      → Wrote d at (take (i + 1) s) (set e (at + i) (get_or s i z)) (at + (i + 1))
  copied_more s z {d} {e} {at} {i} w h k =
      rw (add-one, take-suc s i z h, ← add-one, ← add_assoc) (wrote_then w (wrote_one e (at + i) (get_or s i z) k))

  pub copied_all : (s : List A) {d e : List A} {at i : ℕ} → Wrote d at (take i s) e (at + i) → length s ≤ i → Wrote d at s e (at + i)
  copied_all s {d} {e} {at} {i} w h = rw (take_all i s h) at w

-- the first n places of a list whose start was written over
pub take_put : {A : Type 0} (v₀ t : List A) {v : List A} (n : ℕ) → v ≡ put v₀ 0 t → length t ≡ n → take n v ≡ t
take_put v₀ t n p e = ap (take n) p ∙ take_at t (drop (0 + length t) v₀) n e

-- what was written, and what lies past it, read off the slice
pub wrote_take : {A : Type 0} {d t e : List A} {r : ℕ} → Wrote d 0 t e r → (take r e ≡ t) × (drop r e ≡ drop r d)
wrote_take {A} {d} {t} {e} {r} w =
    let n : length t ≡ r = omega (arith, w.next) in
    (take_put d t r w.text n, ap (drop r) w.text ∙ drop_at t (drop (0 + length t) d) r n ∙ ap (λ (k : ℕ). drop k d) (sym w.next))

-- one place replaced of what stands at the start, if it has that place
pub wrote_set : {A : Type 0} {d t e : List A} {n : ℕ} (p : ℕ) (x : A) → Wrote d 0 t e n → Wrote d 0 (set t p x) (cond (ltb p n) (set e p x) e) n
wrote_set {A} {d} {t} {e} {n} p x w = go (ltb p n) refl
  where
    l : length (set t p x) ≡ length t
    l = length-set t p x

    go : (b : Bool) → ltb p n ≡ b → Wrote d 0 (set t p x) (cond b (set e p x) e) n
    go true h = record {
      next = omega (arith, w.next, l);
      room = w.room;
      text = ap (λ (v : List A). set v p x) w.text ∙ set-append_left t (drop (0 + length t) d) p x (omega (arith, ltb-true p n h, w.next)) ∙ ap (λ (k : ℕ). set t p x ++ drop (0 + k) d) (sym l);
    }
    go false h = rw (set_out t p x (omega (arith, ltb-false p n h, w.next))) w

-- ---- t put at the start of v₀: that it fits, what the first n places hold and what stayed; and back

pub put-fits : {A : Type 0} (v₀ t : List A) {v : List A} → v ≡ put v₀ 0 t → length t ≤ length v
put-fits v₀ t p = omega (arith, ap length p, length-append t (drop (0 + length t) v₀))

pub put_start : (n : ℕ) (v₀ t v : List Float) → v ≡ put v₀ 0 t → length t ≡ n → n ≤ length v₀ → (part 0 n v ≡ t) × Kept 0 n v₀ v
put_start n v₀ t v e size fits =
    let w : Wrote v₀ 0 t v n = record { next = omega arith; room = fits; text = e } in
    let l = wrote_length w in
    (sym (first_part n v (omega arith)) ∙ (wrote_take w).0, kept_drop nan n v₀ v l (wrote_take w).1)

pub start_put : (n : ℕ) (v₀ t v : List Float) → part 0 n v ≡ t → Kept 0 n v₀ v → n ≤ length v₀ → v ≡ put v₀ 0 t
start_put n v₀ t v e k fits =
    written-put t
    (record { size = k.size; inside = λ j _ h. sym (at_part 0 n v j j h (zero-add j)) ∙ ap (λ (u : List Float). at u j) e; below = λ j h. absurd (omega arith); above = λ j h. k.above j (omega arith) })
    (sym (ap length e) ∙ length_part 0 n v) fits (λ i h. refl)
