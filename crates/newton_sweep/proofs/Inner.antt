-- How a row of the system is done: stored as made and then factored in its place; or, at order 1 and 2 away from the first rows, stored once, from the last numbers of the rows above. Assumes nothing.
use mathlib.Core.Path.{◌≡◌, ap, ◌∙◌, sym}
use mathlib.Core.Bool.{Bool, true, false}
use mathlib.Core.List.{List, [], ◌∷◌}
use Prim.Native.Nat.{ℕ, ◌+◌, ◌-◌, ◌*◌, ◌≤◌, ◌<◌}
use native.Mathlib.Omega.{arith}
use lib.ListN.{length, take, drop, length-drop}
use lib.Seq.{length-take-le, get_or-take, get_or-drop}
use lib.Ieee.{Float, nan, binary64, add}
use Rattle.vectors.specs.Vec.{at}
use Rattle.vectors.proofs.Parts.{put_back, mid_put, first_put, rest_put, part-size}
use Rattle.banded.specs.Rows.{good}
use Rattle.banded.specs.Run.{HasRow, Stored, Eliminated}
use Rattle.banded.proofs.Storing.{stored_1, stored_2}
use Rattle.elimination.specs.declared.Row1.{Row1}
use Rattle.elimination.specs.declared.Row2.{Row2}
use Rattle.elimination.specs.Next.{Next1Made, Next2Made}
use Rattle.elimination.proofs.Orders.{eliminated_1, eliminated_2}
use Rattle.dual_point.specs.Places.{point}
use Rattle.newton_system.specs.declared.Row.{Row}
use Rattle.newton_system.specs.Rows.{besides, RowMade}
use Rattle.newton_sweep.specs.Swept.{AtRows, SweptOn}
use Rattle.newton_system.proofs.Places.{put_1, put_2}
use Rattle.newton_sweep.proofs.Sweeps.{places, Room, RowDone, Going, room, going_more, going-bad}

-- the places of the system in s
abbrev pub mid : ℕ → ℕ → ℕ → List Float → List Float
mid k a m s = take (places k m) (drop a s)

-- they are what is lent from a up to a + n
pub lent : (a n : ℕ) → a + n - a ≡ n
lent a n = omega arith

module _ {k a m : ℕ} {s : List Float} (room : Room k a m s) where
  -- place j of them is place q of the run
  pub at_mid : (j q : ℕ) → j < places k m → a + j ≡ q → at (mid k a m s) j ≡ at s q
  at_mid j q h e = get_or-take (places k m) (drop a s) j nan h ∙ get_or-drop a s j nan ∙ ap (at s) e

  has : {r : ℕ} → r < m → HasRow k m r (length (mid k a m s))
  has h = record { row = h; room = omega (arith, length-take-le (places k m) (drop a s) (omega (arith, room.fits, length-drop a s))) }

  module _ {r : ℕ} {v : ℕ → Float} {x : Float} {t : List Float} (st : Stored k m r v x (mid k a m s) t) where
    long : length t ≡ places k m
    long = part-size a (places k m) s t room.fits st.elsewhere.size

    after : mid k a m (put_back a (places k m) s t) ≡ t
    after = mid_put a (places k m) s t room.fits long

    -- stored as made, and then factored
    module _ {u : List Float} {ok : Bool} (e : Eliminated k m r (mid k a m (put_back a (places k m) s t)) u ok) where
      pub done-any : RowDone k m r v x (mid k a m s) u ok
      done-any = record { mid = t; put = st; done = rw after at e }

      pub put-twice : put_back a (places k m) (put_back a (places k m) s t) u ≡ put_back a (places k m) s u
      put-twice = rw (first_put a (places k m) s t room.fits long, rest_put a (places k m) s t room.fits long)

-- so in a loop over some of the rows, where each is lent the places of the system
module _ {k : ℕ} {g dy : List Float} {lam inv_t : Float} {a m from to l r : ℕ} {acc₀ acc : Float} {s₀ s t u : List Float} {ok : Bool} {v : Row} (pre : AtRows k a m from to (length s₀) l)
    (w : Going k g dy lam inv_t a m from to acc₀ s₀ s acc r) (b : r < to) (new : RowMade k g dy lam inv_t (point 0 m s) r v)
    (st : Stored k m r (besides k g v.diagonal) v.right (take (a + places k m - a) (drop a s)) t)
    (e : Eliminated k m r (take (a + places k m - a) (drop a (put_back a (a + places k m - a) s t))) u ok) where
  put : Stored k m r (besides k g v.diagonal) v.right (mid k a m s) t
  put = rw (lent a (places k m)) at st

  factored : Eliminated k m r (mid k a m (put_back a (places k m) s t)) u ok
  factored = rw (lent a (places k m)) at e

  pub any_more : ok ≡ true → Going k g dy lam inv_t a m from to acc₀ s₀ (put_back a (a + places k m - a) (put_back a (a + places k m - a) s t) u) (add binary64 acc v.square) (r + 1)
  any_more y = rw (lent a (places k m)) (going_more pre w b new (done-any (room pre w) put factored) (put-twice (room pre w) put factored) y)

  pub any_bad : ok ≡ false → SweptOn k g dy lam inv_t a m from to acc₀ s₀ (put_back a (a + places k m - a) (put_back a (a + places k m - a) s t) u) (record { acc = acc; good = false })
  any_bad y = rw (lent a (places k m)) (going-bad pre w b new (done-any (room pre w) put factored) (put-twice (room pre w) put factored) y)

-- a row stored over another
over : {k m r : ℕ} {v w : ℕ → Float} {x y : Float} {s t u : List Float} → Stored k m r v x s t → Stored k m r w y s u → Stored k m r w y t u
over p q = record {
  elsewhere = record {
    size = q.elsewhere.size ∙ sym p.elsewhere.size;
    below = λ i h. q.elsewhere.below i h ∙ sym (p.elsewhere.below i h);
    between = λ i h l. q.elsewhere.between i h l ∙ sym (p.elsewhere.between i h l);
    above = λ i h. q.elsewhere.above i h ∙ sym (p.elsewhere.above i h);
  };
  row = q.row;
  side = q.side;
}

-- the first place of a row that was stored
first : {k m r : ℕ} {v : ℕ → Float} {x : Float} {s t : List Float} → Stored k m r v x s t → at t (r * (k + 1)) ≡ v 0
first {k} {r = r} {t = t} st = let z : r * (k + 1) ≡ r * (k + 1) + 0 = omega arith in ap (at t) z ∙ st.row 0 (omega arith)

-- ---- order 1: the pivot of row r - 1 of t, and its right side

pub record Last1 (m r : ℕ) (t : List Float) (d u : Float) : Type 0 where
  pub pivot : at t (r * 2 - 1) ≡ d
  pub side : at t (m * 2 + r - 1) ≡ u

module _ {a m r : ℕ} {s t : List Float} {w : Row1} (g : List Float) (far : 1 ≤ r) (h : r < m) (room : Room 1 a m s)
    (st : Stored 1 m r (at (w.left ∷ w.pivot ∷ [])) w.side (mid 1 a m s) t) where
  pub done_1 : {b x d u : Float} → Next1Made (at g 1) b x d u w → Last1 m r (mid 1 a m s) d u → RowDone 1 m r (besides 1 g b) x (mid 1 a m s) t (good w.pivot)
  done_1 {b} {x} new o =
      let p = stored_1 m r (mid 1 a m s) (at g 1) b x (has room h) in
      record {
        mid = _;
        put = put_1 g b p;
        done = eliminated_1 far h (over p st) new (first p) (p.row 1 (omega arith)) p.side (p.elsewhere.below (r * 2 - 1) (omega arith) ∙ o.pivot)
            (p.elsewhere.between (m * 2 + r - 1) (omega arith) (omega arith) ∙ o.side);
      }

  pub last_1 : Last1 m (r + 1) (mid 1 a m (put_back a (places 1 m) s t)) w.pivot w.side
  last_1 = rw (after room st) (record { pivot = ap (at t) (omega arith) ∙ st.row 1 (omega arith); side = ap (at t) (omega arith) ∙ st.side })

-- ---- order 2: the pivots of rows r - 2 and r - 1 of t, what stands left of the second, and their right sides

pub record Last2 (m r : ℕ) (t : List Float) (d2 l d1 u2 u1 : Float) : Type 0 where
  pub pivot2 : at t (r * 3 - 4) ≡ d2
  pub left : at t (r * 3 - 2) ≡ l
  pub pivot1 : at t (r * 3 - 1) ≡ d1
  pub side2 : at t (m * 3 + r - 2) ≡ u2
  pub side1 : at t (m * 3 + r - 1) ≡ u1

module _ {a m r : ℕ} {s t : List Float} {w : Row2} (g : List Float) (far : 2 ≤ r) (h : r < m) (room : Room 2 a m s)
    (st : Stored 2 m r (at (w.far ∷ w.left ∷ w.pivot ∷ [])) w.side (mid 2 a m s) t) where
  pub done_2 : {b x d2 l d1 u2 u1 : Float} → Next2Made (at g 2) (at g 1) b x d2 l d1 u2 u1 w → Last2 m r (mid 2 a m s) d2 l d1 u2 u1 → RowDone 2 m r (besides 2 g b) x (mid 2 a m s) t (good w.pivot)
  done_2 {b} {x} new o =
      let p = stored_2 m r (mid 2 a m s) (at g 2) (at g 1) x b (has room h) in
      record {
        mid = _;
        put = put_2 g b p;
        done = eliminated_2 far h (over p st) new (first p) (p.row 1 (omega arith)) (p.row 2 (omega arith)) p.side
            (p.elsewhere.below (r * 3 - 4) (omega arith) ∙ o.pivot2) (p.elsewhere.below (r * 3 - 2) (omega arith) ∙ o.left) (p.elsewhere.below (r * 3 - 1) (omega arith) ∙ o.pivot1)
            (p.elsewhere.between (m * 3 + r - 2) (omega arith) (omega arith) ∙ o.side2) (p.elsewhere.between (m * 3 + r - 1) (omega arith) (omega arith) ∙ o.side1);
      }

  pub last_2 : {d2 l d1 u2 u1 : Float} → Last2 m r (mid 2 a m s) d2 l d1 u2 u1 → Last2 m (r + 1) (mid 2 a m (put_back a (places 2 m) s t)) d1 w.left w.pivot u1 w.side
  last_2 o = rw (after room st) (record {
    pivot2 = ap (at t) (omega arith) ∙ st.elsewhere.below (r * 3 - 1) (omega arith) ∙ o.pivot1;
    left = ap (at t) (omega arith) ∙ st.row 1 (omega arith);
    pivot1 = ap (at t) (omega arith) ∙ st.row 2 (omega arith);
    side2 = ap (at t) (omega arith) ∙ st.elsewhere.between (m * 3 + r - 1) (omega arith) (omega arith) ∙ o.side1;
    side1 = ap (at t) (omega arith) ∙ st.side;
  })
