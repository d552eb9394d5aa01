-- The system of a point, a row at a time: one row stored and factored, some of them, and all; then solved. Assumes nothing.
use mathlib.Core.Path.{◌≡◌, refl, sym, ap, ◌∙◌}
use mathlib.Core.Logic.{⊎_elim}
use mathlib.Core.Bool.{Bool, true, false}
use mathlib.Core.List.{List}
use Prim.Native.Nat.{ℕ, ◌+◌, ◌-◌, ◌*◌, ◌≤◌, ◌<◌}
use native.Mathlib.Nat.{eq-or-lt_of_le, mul-le-mul_right}
use native.Mathlib.Omega.{arith}
use lib.ListN.{length, take, drop}
use lib.Ieee.{Float, nan, binary64, add}
use borrow.Author.Tests.{lt-ltb, le-ltb}
use Rattle.float64.specs.Ops.{c0}
use Rattle.float64.proofs.Clash.{clash}
use Rattle.vectors.specs.Sums.{sum_to}
use Rattle.vectors.specs.Vec.{at}
use Rattle.vectors.specs.Parts.{Kept}
use Rattle.vectors.proofs.Laws.{kept_none, kept_then}
use Rattle.vectors.proofs.Parts.{length_part, put_back, mid_put, length-put, kept_put, part-put, part-size}
use Rattle.vectors.proofs.Sums.{sum_more}
use Rattle.banded.specs.Rows.{rows}
use Rattle.banded.specs.Solve.{forward, divided, back, solve}
use Rattle.banded.specs.Run.{of_run, Stored, Eliminated}
use Rattle.banded.proofs.Laws.{shape_rows, of_holds, stands_part, rows-part, side_part}
use Rattle.banded.proofs.Forward.{length-forward}
use Rattle.elimination.specs.Decomposed.{Reached}
use Rattle.elimination.proofs.Elimination.{reached_none, reached_kept, reached-more, reached_bad}
use Rattle.substitution.specs.Solved.{Substituted}
use Rattle.substitution.proofs.Laws.{solve_is}
use Rattle.dual_point.specs.Dual.{Dual}
use Rattle.dual_point.specs.Places.{point}
use Rattle.dual_point.proofs.Points.{point_below}
use Rattle.newton_system.specs.declared.Row.{Row}
use Rattle.newton_sweep.specs.declared.Solved.{Solved}
use Rattle.newton_system.specs.Newton.{residual_square, system, rhs, newton_z}
use Rattle.newton_system.specs.Rows.{residual_square_of}
use Rattle.newton_system.specs.Rows.{data_of, besides, RowMade}
use Rattle.newton_sweep.specs.Swept.{AtSystem, AtRows, Swept, Sweeping, SweptTo, SweptOn, NewtonSolved}
use Rattle.newton_system.proofs.Places.{system_band, length-rhs}

-- ---- r rows of the system of the point in s₀, made and factored

abbrev pub places : ℕ → ℕ → ℕ
places k m = m * (k + 1) + m

-- s has room for the system from place a on
pub record Room (k a m : ℕ) (s : List Float) : Type 0 where
  pub fits : a + places k m ≤ length s

pub sweep_none : {k : ℕ} {g dy : List Float} {lam inv_t : Float} {a m : ℕ} {s : List Float} → Sweeping k g dy lam inv_t a m s s c0 0
unfolding sum_to
sweep_none {k} {a = a} {m = m} {s = s} =
    record { some = omega arith; kept = kept_none a (places k m) s; sum = refl; made = reached_none k m _ _ (take (places k m) (drop a s)) }

-- row r of t stored as made, v with x after the rows, and then factored: u is what that leaves
pub record RowDone (k m r : ℕ) (v : ℕ → Float) (x : Float) (t u : List Float) (ok : Bool) : Type 0 where
  pub mid : List Float
  pub put : Stored k m r v x t mid
  pub done : Eliminated k m r mid u ok

module _ {k : ℕ} {g dy : List Float} {lam inv_t : Float} {a m : ℕ} {s₀ s : List Float} where
  -- row r done: x is what that leaves in the places of the system
  module _ {x : List Float} {acc : Float} {r : ℕ} {ok : Bool} {v : Row} (w : Sweeping k g dy lam inv_t a m s₀ s acc r) (b : r < m) (room : a + places k m ≤ length s) (three : m + m + m ≤ a)
      (new : RowMade k g dy lam inv_t (point 0 m s) r v) (d : RowDone k m r (besides k g v.diagonal) v.right (take (places k m) (drop a s)) x ok) where
    abbrev n : ℕ
    n = places k m

    abbrev s₁ : List Float
    s₁ = put_back a n s x

    long : length x ≡ n
    long = part-size a n s x room (d.done.elsewhere.size ∙ d.put.elsewhere.size)

    same : point 0 m s ≡ point 0 m s₀
    same = point_below 0 m w.kept (omega arith)

    had : (j : ℕ) → j ≤ r → r ≤ j + k → of_run k d.mid r j ≡ system k g lam (point 0 m s₀) r j
    had j h o =
        let c = j + k - r in
        d.put.row c (omega arith) ∙
        ⊎_elim
        (λ (z : j ≡ r). rw (le-ltb c k (omega arith), z) (new.diagonal ∙ ap (λ (q : Dual). system k g lam q r r) same))
        (λ (z : j < r). rw (lt-ltb c k (omega arith)) (system_band k g lam (point 0 m s₀) r j c (omega arith) (omega arith)))
        (eq-or-lt_of_le h)

    before : Reached k m r (system k g lam (point 0 m s₀)) (rhs (data_of k g dy lam inv_t) (point 0 m s₀)) d.mid
    before =
        let fit : (r + 1) * (k + 1) ≤ m * (k + 1) = mul-le-mul_right (k + 1) (omega arith) in
        reached_kept w.made d.put.elsewhere.below (λ j l. d.put.elsewhere.between (m * (k + 1) + j) (omega arith) (omega arith))

    at_right : at d.mid (m * (k + 1) + r) ≡ at (rhs (data_of k g dy lam inv_t) (point 0 m s₀)) r
    at_right = d.put.side ∙ new.side ∙ ap (λ (q : Dual). at (rhs (data_of k g dy lam inv_t) q) r) same

    swept_kept : Kept a n s₀ s₁
    swept_kept = kept_then a n w.kept (kept_put a n s x room long nan) (omega arith) (omega arith) (omega arith) (omega arith)

    pub sweep-more : ok ≡ true → Sweeping k g dy lam inv_t a m s₀ s₁ (add binary64 acc v.square) (r + 1)
    sweep-more y = record {
      some = omega arith;
      kept = swept_kept;
      sum = sum_more (residual_square_of (data_of k g dy lam inv_t) (point 0 m s₀)) r acc v.square w.sum (new.square ∙ ap (λ (q : Dual). residual_square_of (data_of k g dy lam inv_t) q r) same);
      made = rw (mid_put a n s x room long) (reached-more before d.done b had at_right y);
    }

    pub sweep-bad : ok ≡ false → Swept k g dy lam inv_t a m s₀ s₁ (record { acc = acc; good = false })
    sweep-bad bad = record {
      answer = sym (reached_bad before d.done b had at_right bad);
      square = λ y. absurd (clash y refl);
      factor = λ y. absurd (clash y refl);
      side = λ y. absurd (clash y refl);
      kept = swept_kept;
    }

  -- all rows, or a bad pivot among them
  sweep_all : {w : Solved} {l : ℕ} → w.good ≡ true → Sweeping k g dy lam inv_t a m s₀ s w.acc m → AtSystem k a m (length s₀) l → Swept k g dy lam inv_t a m s₀ s w
  unfolding residual_square
  sweep_all ok w pre =
      let n = m * (k + 1) in
      let room : a + places k m ≤ length s = omega (arith, pre.room, w.kept.size) in
      let f = rows k (system k g lam (point 0 m s₀)) m in
      let t = take (places k m) (drop a s) in
      let d = w.made in
      record {
        answer = ok ∙ sym d.firm;
        square = λ y. w.sum ∙ rw (length_part 0 m s₀);
        factor = λ y. sym (rows-part k a m s room) ∙ of_holds k m f t d.made;
        side = λ y. sym (side_part k a m s room) ∙ stands_part n m (forward k f (rhs (data_of k g dy lam inv_t) (point 0 m s₀)) m) t (length-forward k f (rhs (data_of k g dy lam inv_t) (point 0 m s₀)) m) d.side;
        kept = w.kept;
      }

  pub sweep_done : {w : Solved} {l : ℕ} → SweptTo k g dy lam inv_t a m m s₀ s w → AtSystem k a m (length s₀) l → Swept k g dy lam inv_t a m s₀ s w
  sweep_done {w} h pre = go w.good refl
    where
      go : (b : Bool) → w.good ≡ b → Swept k g dy lam inv_t a m s₀ s w
      go true y = sweep_all y (h.on y) pre
      go false y = h.ended y

  -- a bad pivot; or the right side carried back, by x
  pub newton_bad : {w : Solved} → Swept k g dy lam inv_t a m s₀ s w → w.good ≡ false → NewtonSolved k g dy lam inv_t a m s₀ s w
  newton_bad h bad = record { answer = h.answer; square = h.square; dz = λ y. absurd (clash y bad); kept = h.kept }

  pub newton_solved : {w : Solved} {x : List Float} {l : ℕ} → Swept k g dy lam inv_t a m s₀ s w → AtSystem k a m (length s₀) l → Substituted k m (take (places k m) (drop a s)) x
      → NewtonSolved k g dy lam inv_t a m s₀ (put_back a (places k m) s x) w
  unfolding newton_z
  newton_solved {w} {x} h pre b =
      let n = m * (k + 1) in
      let room : a + places k m ≤ length s = omega (arith, pre.room, h.kept.size) in
      let f = rows k (system k g lam (point 0 m s₀)) m in
      let long = part-size a (places k m) s x room b.kept.size in
      record {
        answer = h.answer;
        square = h.square;
        dz = λ y.
            part-put a (places k m) s x room long nan n m (omega arith)
            ∙ b.made f (shape_rows k (system k g lam (point 0 m s₀)) m) (rows-part k a m s room ∙ h.factor y)
            ∙ ap (λ (v : List Float). back k f (divided k f v) m) (side_part k a m s room ∙ h.side y)
            ∙ sym (solve_is k m f (rhs (data_of k g dy lam inv_t) (point 0 m s₀)) (length-rhs k g dy lam inv_t m s₀))
            ∙ ap (λ (i : ℕ). solve k (rows k (system k g lam (point 0 m s₀)) i) (rhs (data_of k g dy lam inv_t) (point 0 m s₀))) (sym (length_part 0 m s₀));
        kept = kept_then a (places k m) h.kept (kept_put a (places k m) s x room long nan) (omega arith) (omega arith) (omega arith) (omega arith);
      }

-- ---- a loop over some of the rows: s was s₀, with the rows up to `from` and acc₀; whatever point those were made for, s has the rows up to r and acc

pub record Going (k : ℕ) (g dy : List Float) (lam inv_t : Float) (a m from to : ℕ) (acc₀ : Float) (s₀ s : List Float) (acc : Float) (r : ℕ) : Type 0 where
  pub size : length s ≡ length s₀
  pub some : r ≤ to
  pub since : (p : List Float) → Sweeping k g dy lam inv_t a m p s₀ acc₀ from → Sweeping k g dy lam inv_t a m p s acc r

module _ {k : ℕ} {g dy : List Float} {lam inv_t : Float} {a m from to l : ℕ} {s₀ : List Float} (pre : AtRows k a m from to (length s₀) l) where
  pub going_none : {acc₀ : Float} → Going k g dy lam inv_t a m from to acc₀ s₀ s₀ acc₀ from
  going_none = record { size = refl; some = pre.order; since = λ p h. h }

  module _ {acc₀ acc : Float} {s : List Float} {r : ℕ} (w : Going k g dy lam inv_t a m from to acc₀ s₀ s acc r) where
    pub room : Room k a m s
    room = record { fits = omega (arith, pre.system.room, w.size) }

    -- one row more: s' is s with x in the places of the system
    module _ {x s' : List Float} {ok : Bool} {v : Row} (b : r < to) (new : RowMade k g dy lam inv_t (point 0 m s) r v)
        (d : RowDone k m r (besides k g v.diagonal) v.right (take (places k m) (drop a s)) x ok) (is : s' ≡ put_back a (places k m) s x) where
      some_left : r < m
      some_left = omega (arith, pre.within)

      pub going_more : ok ≡ true → Going k g dy lam inv_t a m from to acc₀ s₀ s' (add binary64 acc v.square) (r + 1)
      going_more y = rw is (record {
        size = length-put a (places k m) s x room.fits (part-size a (places k m) s x room.fits (d.done.elsewhere.size ∙ d.put.elsewhere.size)) ∙ w.size;
        some = omega arith;
        since = λ p h. sweep-more (w.since p h) some_left room.fits pre.system.three new d y;
      })

      pub going-bad : ok ≡ false → SweptOn k g dy lam inv_t a m from to acc₀ s₀ s' (record { acc = acc; good = false })
      going-bad y p h = rw is (record { on = λ z. absurd (clash z refl); ended = λ z. sweep-bad (w.since p h) some_left room.fits pre.system.three new d y })

    pub going_done : to ≤ r → SweptOn k g dy lam inv_t a m from to acc₀ s₀ s (record { acc = acc; good = true })
    going_done h p q =
        let e : r ≡ to = omega (arith, w.some) in
        record { on = λ z. rw e at (w.since p q); ended = λ z. absurd (clash refl z) }
