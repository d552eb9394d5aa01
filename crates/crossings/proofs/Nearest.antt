-- The nearest of knots: one more looked at, and that the answer is the nearest one and the only such. Assumes nothing.
use mathlib.Core.Path.{◌≡◌, refl, sym, ap, ◌∙◌}
use mathlib.Core.Logic.{◌⊎◌, inl, inr, ⊎_elim}
use mathlib.Core.Bool.{Bool, true, false, cond}
use mathlib.Core.List.{List, [], ◌∷◌}
use Prim.Native.Nat.{ℕ, zero, suc, ◌≤◌, ◌<◌, min}
use native.Mathlib.Omega.{arith}
use lib.Dec.{leb, ltb}
use lib.ListN.{length, get_or}
use borrow.Author.Tests.{ltb-true, ltb-false, lt-ltb, le-ltb, le-leb, lt-leb}
use Rattle.std.specs.Prelude.{Some, Ok, Err, fold}
use Rattle.std.specs.List.{reduce}
use Rattle.float64.proofs.Clash.{impossible}
use Rattle.float64.proofs.Order.{and_off}
use Rattle.vectors.specs.Vec.{apart}
use Rattle.vectors.specs.Rising.{Among}
use Rattle.vectors.proofs.Parts.{split}
use Rattle.crossings.specs.Nearest.{nearer, nearest_of, nearest_in, nearest_knot, NearestOne, AnswersNearest}

-- ---- whether it is refused

pub no_place : (p n : ℕ) (knots : List ℕ) → (65536 < n) ⊎ (n ≤ p) → nearest_knot p n knots ≡ Err 19
unfolding nearest_knot
no_place p n knots o =
    ⊎_elim
    (λ (h : 65536 < n). rw (lt-leb n 65536 h))
    (λ (h : n ≤ p). rw (le-ltb p n h, and_off (leb n 65536)))
    o

pub a_place : (p n : ℕ) (knots : List ℕ) → n ≤ 65536 → p < n → nearest_knot p n knots ≡ Ok (nearest_in p knots)
unfolding nearest_knot
a_place p n knots h g = rw (le-leb n 65536 h, lt-ltb p n g)

-- ---- as a fold over the knots

nearest_fold : (p a : ℕ) (l : List ℕ) → fold (nearer p) a l ≡ nearest_of p a l
unfolding nearest_of
nearest_fold p a [] = refl
nearest_fold p a (b ∷ l) = nearest_fold p (nearer p a b) l

pub nearest_reduce : (p : ℕ) (knots : List ℕ) → reduce (nearer p) knots ≡ nearest_in p knots
unfolding nearest_in
nearest_reduce p [] = refl
nearest_reduce p (a ∷ l) = ap Some (nearest_fold p a l)

-- ---- the order in which one is the nearest

-- j is not nearer than k, and not lower where it is as near
record Holds-against (p k j : ℕ) : Type 0 where
  near : apart p k ≤ apart p j
  low : apart p j ≡ apart p k → k ≤ j

itself : (p k : ℕ) → Holds-against p k k
itself p k = record { near = omega arith; low = λ _. omega arith }

through : {p i j k : ℕ} → Holds-against p i j → Holds-against p j k → Holds-against p i k
through x y = record {
  near = omega (arith, x.near, y.near);
  low = λ e. omega (arith, x.low (omega (arith, x.near, y.near, e)), y.low (omega (arith, x.near, y.near, e)));
}

-- strictly nearer; or as near and not above
closer : (p k j : ℕ) → apart p k < apart p j → Holds-against p k j
closer p k j l = record { near = omega (arith, l); low = λ e. omega (arith, l, e) }

lower : (p k j : ℕ) → apart p k ≡ apart p j → k ≤ j → Holds-against p k j
lower p k j e l = record { near = omega (arith, e); low = λ _. l }

-- of two, one is taken, and it holds against both
record Taken (p a b k : ℕ) : Type 0 where
  one : (k ≡ a) ⊎ (k ≡ b)
  first : Holds-against p k a
  second : Holds-against p k b

taken : (p a b : ℕ) → Taken p a b (nearer p a b)
taken p a b = go (ltb (apart p a) (apart p b)) (ltb (apart p b) (apart p a)) refl refl
  where
    left : Holds-against p a b → Taken p a b a
    left h = record { one = inl refl; first = itself p a; second = h }

    right : Holds-against p b a → Taken p a b b
    right h = record { one = inr refl; first = h; second = itself p b }

    tied : apart p a ≡ apart p b → Taken p a b (min a b)
    tied e =
        ⊎_elim
        (λ (l : b < a). let m : min a b ≡ b = omega arith in rw m (right (lower p b a (sym e) (omega arith))))
        (λ (l : a ≤ b). let m : min a b ≡ a = omega arith in rw m (left (lower p a b e l)))
        (split b a)

    go : (x y : Bool) → ltb (apart p a) (apart p b) ≡ x → ltb (apart p b) (apart p a) ≡ y → Taken p a b (cond x a (cond y b (min a b)))
    go true y h g = left (closer p a b (ltb-true (apart p a) (apart p b) h))
    go false true h g = right (closer p b a (ltb-true (apart p b) (apart p a) g))
    go false false h g = tied (omega (arith, ltb-false (apart p a) (apart p b) h, ltb-false (apart p b) (apart p a) g))

-- ---- the nearest of all

against_each : (p a : ℕ) (l : List ℕ) (q : ℕ) → q < length (a ∷ l) → Holds-against p (nearest_of p a l) (get_or (a ∷ l) q 0)
unfolding nearest_of
against_each p a [] zero h = itself p a
against_each p a [] (suc q) h = absurd (omega arith)
against_each p a (b ∷ l) zero h = through (against_each p (nearer p a b) l 0 (omega arith)) (taken p a b).first
against_each p a (b ∷ l) (suc zero) h = through (against_each p (nearer p a b) l 0 (omega arith)) (taken p a b).second
against_each p a (b ∷ l) (suc (suc q)) h = against_each p (nearer p a b) l (suc q) (omega arith)

at_head : (a : ℕ) (l : List ℕ) (k : ℕ) → k ≡ a → Among k (a ∷ l)
at_head a l k e = record { place = 0; within = omega arith; holds = sym e }

in_tail : (a : ℕ) (l : List ℕ) {k : ℕ} → Among k l → Among k (a ∷ l)
in_tail a l m = record { place = suc m.place; within = omega (arith, m.within); holds = m.holds }

is_listed : (p a : ℕ) (l : List ℕ) → Among (nearest_of p a l) (a ∷ l)
unfolding nearest_of
is_listed p a [] = at_head a [] a refl
is_listed p a (b ∷ l) = let m = is_listed p (nearer p a b) l in go m.place m.within m.holds
  where
    k : ℕ
    k = nearest_of p (nearer p a b) l

    go : (q : ℕ) → q < length (nearer p a b ∷ l) → get_or (nearer p a b ∷ l) q 0 ≡ k → Among k (a ∷ b ∷ l)
    go zero h e = ⊎_elim
        (λ (s : nearer p a b ≡ a). at_head a (b ∷ l) k (sym e ∙ s))
        (λ (s : nearer p a b ≡ b). in_tail a (b ∷ l) (at_head b l k (sym e ∙ s)))
        (taken p a b).one
    go (suc q) h e = in_tail a (b ∷ l) (in_tail b l (record { place = q; within = omega arith; holds = e }))

against_all : (p a : ℕ) (l : List ℕ) (j : ℕ) → Among j (a ∷ l) → Holds-against p (nearest_of p a l) j
against_all p a l j m = rw m.holds at (against_each p a l m.place m.within)

nearest_one : (p a : ℕ) (l : List ℕ) → NearestOne p (a ∷ l) (nearest_of p a l)
nearest_one p a l = record {
  listed = is_listed p a l;
  nearest = λ j h. omega (arith, (against_all p a l j h).near);
  lowest = λ j h e. omega (arith, (against_all p a l j h).low e);
}

pub answers_nearest : (p : ℕ) (knots : List ℕ) → AnswersNearest p knots
unfolding nearest_in
answers_nearest p [] = record {
  told = λ k e. impossible cc;
  only = λ k n. let w = n.listed.within in absurd (omega arith);
  none = λ e. refl;
}
answers_nearest p (a ∷ l) =
    let m = nearest_of p a l in
    let n = nearest_one p a l in
    record {
      told = λ k e. let s : m ≡ k = cc in rw s at n;
      only = λ k o.
          let d : apart p k ≡ apart p m = omega (arith, n.nearest k o.listed, o.nearest m n.listed) in
          ap Some (omega (arith, n.lowest k o.listed d, o.lowest m n.listed (sym d)));
      none = λ e. impossible cc;
    }
