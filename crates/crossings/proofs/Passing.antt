-- The crossings are just those of the trend; with no NaN they go up and down in turn, and with none of them the trend keeps to one side. Assumes nothing.
use mathlib.Core.Path.{◌≡◌, refl, sym, ap, ◌∙◌}
use mathlib.Core.Logic.{◌⊎◌, inl, inr, ⊎_elim}
use mathlib.Core.Bool.{Bool, true, false, not, ◌&&◌, ◌||◌, true≢false}
use mathlib.Core.List.{List, []}
use Prim.Native.Nat.{ℕ, zero, suc, ◌+◌, ◌-◌, ◌≤◌, ◌<◌}
use native.Mathlib.Nat.{eq-or-lt_of_le}
use native.Mathlib.Numerals.{add-one}
use native.Mathlib.Omega.{arith}
use lib.ListN.{length}
use lib.Ieee.{Float, lt, le}
use borrow.Author.Tests.{not-true}
use Rattle.float64.specs.Helpers.{is_finite}
use Rattle.float64.proofs.Order.{at_most_or_above, finite_no_nan}
use Rattle.vectors.specs.Vec.{at}
use Rattle.vectors.specs.Rising.{Among}
use Rattle.vectors.proofs.Sums.{both}
use Rattle.vectors.proofs.Rising.{rising_within, none_between}
use Rattle.vectors.proofs.Places.{places_rising, places_hold, places_all}
use Rattle.crossings.specs.Crossings.{crosses_at, crossings}
use Rattle.crossings.specs.Passing.{JustTheCrossings, NoNaN, crossing, PassesInTurn, Passing}

just_the_crossings : (level : Float) (t : List Float) → JustTheCrossings level t
unfolding crossings
just_the_crossings level t =
    let p = crosses_at level t in
    let r = places_rising p (length t - 1) in
    record {
      each = λ i m. (omega (arith, m.holds, r.below m.place m.within), ap p (sym m.holds) ∙ places_hold p (length t - 1) m.place m.within);
      all = λ i h e. places_all p (length t - 1) i (omega arith) e;
      rising = rising_within r (omega arith);
    }

-- ---- above the level or not, where nothing is a NaN

-- of two neighbours
same : (p q : Bool) → (not p && q) || (p && not q) ≡ false → q ≡ p
same true true e = refl
same true false e = absurd (true≢false e)
same false true e = absurd (true≢false e)
same false false e = refl

turned : (p q : Bool) → (not p && q) || (p && not q) ≡ true → q ≡ not p
turned true true e = absurd (true≢false (sym e))
turned true false e = refl
turned false true e = refl
turned false false e = absurd (true≢false (sym e))

off : (b : Bool) → (b ≡ true → ⊥) → b ≡ false
off true h = absurd (h refl)
off false h = refl

module _ (level : Float) (t : List Float) (finite : is_finite level ≡ true) (clean : NoNaN t) where
  abbrev over : ℕ → Bool
  over i = lt level (at t i)

  under : (i : ℕ) → i < length t → le (at t i) level ≡ not (over i)
  under i h = at_most_or_above level (at t i) (finite_no_nan level finite) (clean i (omega (arith, h)))

  crosses_by : (i : ℕ) → i + 1 < length t → crosses_at level t i ≡ (not (over i) && over (i + 1)) || (over i && not (over (i + 1)))
  crosses_by i h = rw (under i (omega arith), under (i + 1) h)

  -- without a crossing it stays where it is
  stays : (a b : ℕ) → a ≤ b → b < length t → ((i : ℕ) → a ≤ i → i < b → crosses_at level t i ≡ false) → over b ≡ over a
  stays a zero l h n = let e : a ≡ 0 = omega arith in rw e
  stays a (suc b) l h n =
      ⊎_elim
      (λ (e : a ≡ suc b). rw e)
      (λ (g : a < suc b).
      let s = same (over b) (over (b + 1)) (sym (crosses_by b (omega arith)) ∙ n b (omega arith) (omega arith)) in
      (rw (add-one b) at s) ∙ stays a b (omega arith) (omega arith) (λ i x y. n i x (omega arith)))
      (eq-or-lt_of_le l)

  -- from one crossing of the list to the next: above or not all the way, and then the other
  next_one : (j : ℕ) → j + 1 < length (crossings level t) → let i = crossing level t j in let i' = crossing level t (j + 1) in
      (i < i') × (i' + 1 < length t) × (over i' ≡ over (i + 1)) × (over (i' + 1) ≡ not (over (i + 1)))
  next_one j h =
      let l = crossings level t in
      let w = just_the_crossings level t in
      let i = crossing level t j in
      let i' = crossing level t (j + 1) in
      let next : Among i' l = record { place = j + 1; within = h; holds = refl } in
      let c = w.each i' next in
      let o : i < i' = w.rising.strictly j (j + 1) (omega arith) h in
      let quiet : (k : ℕ) → i + 1 ≤ k → k < i' → crosses_at level t k ≡ false =
      λ k a b. off (crosses_at level t k) (λ e. none_between w.rising j h k (omega arith) b (w.all k (omega (arith, c.0)) e)) in
      let s : over i' ≡ over (i + 1) = stays (i + 1) i' (omega arith) (omega (arith, c.0)) quiet in
      (o, c.0, s, turned (over i') (over (i' + 1)) (sym (crosses_by i' c.0) ∙ c.1) ∙ ap not s)

  one_side_of : crossings level t ≡ [] → ((i : ℕ) → i < length t → le (at t i) level ≡ true) ⊎ ((i : ℕ) → i < length t → lt level (at t i) ≡ true)
  one_side_of e = go (over 0) refl
    where
      quiet : (i : ℕ) → i + 1 < length t → crosses_at level t i ≡ false
      quiet i h = off (crosses_at level t i) (λ c. let m = (just_the_crossings level t).all i h c in omega (arith, m.within, ap length e))

      start : (i : ℕ) → i < length t → over i ≡ over 0
      start i h = stays 0 i (omega arith) h (λ k a b. quiet k (omega arith))

      go : (b : Bool) → over 0 ≡ b → ((i : ℕ) → i < length t → le (at t i) level ≡ true) ⊎ ((i : ℕ) → i < length t → lt level (at t i) ≡ true)
      go true z = inr (λ i h. start i h ∙ z)
      go false z = inl (λ i h. under i h ∙ ap not (start i h ∙ z))

  in_turn : PassesInTurn level t
  in_turn = record {
    after_up = λ j h u.
        let n = next_one j h in
        let e = (both (le (at t (crossing level t j)) level) _ u).1 in
        rw (under _ n.1, n.2 ∙ e, n.3 ∙ ap not e);
    after_down = λ j h d.
        let n = next_one j h in
        let i = crossing level t j in
        let e : over (i + 1) ≡ false = not-true _ (sym (under (i + 1) (omega (arith, n.0, n.1))) ∙ (both (over i) _ d).1) in
        rw (under (crossing level t (j + 1)) (omega (arith, n.1)), n.2 ∙ e, n.3 ∙ ap not e);
    one_side = one_side_of;
  }

pub passing : Passing
passing level t = (just_the_crossings level t, λ f n. in_turn level t f n)
