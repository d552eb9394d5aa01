-- What an answer of the fit says of its outcome, and of the places that it left. Assumes nothing.
use mathlib.Core.Path.{◌≡◌, refl, sym, ap, ◌∙◌, subst}
use Prim.Native.Nat.{ℕ, ◌-◌, ◌≤◌}
use native.Mathlib.Omega.{arith}
use mathlib.Core.Bool.{Bool}
use mathlib.Core.List.{List}
use lib.ListN.{length, take}
use lib.Seq.{length-take-le}
use lib.Dec.{eqb}
use Rattle.float64.proofs.Clash.{impossible}
use Rattle.vectors.proofs.Texts.{take_put, put-fits}
use Rattle.questions.specs.Questions.{Asked}
use Rattle.fit.specs.Outputs.{Outputs}
use Rattle.fit.specs.Fit.{FitResult, Outcome, refused, fitted, fit, after, places, Lengths}
use Rattle.trend_filter.specs.declared.Summary.{Summary}
use Rattle.std.proofs.Common.{Result, Ok, Err}
use Rattle.trend_filter.specs.Answers.{Buffers, lent, summary_of, answer_of, Gives, Answered}
use Rattle.stored.specs.Words.{word_at}
use Rattle.compared.specs.Outcomes.{same_fit, same_outcome, Compares}
use Rattle.compared.specs.Inner.{Holds, same_answer, Room}

refused_at : (s : List ℕ) (i : ℕ) (o : Outcome) {q : ℕ} → Err q ≡ answer_of o → eqb q (word_at s i) ≡ same_outcome o s i
unfolding same_outcome answer_of
refused_at s i (refused j) e = ap (λ (q : ℕ). eqb q (word_at s i)) (let f : _ ≡ j = cc in f)
refused_at s i (fitted f) e = impossible cc

-- a refusal is compared by its number
told_refused : (s : List ℕ) (i : ℕ) {a : Asked} {r : Result Summary ℕ} {b c : Buffers} {q : ℕ} → Answered a r b c → r ≡ Err q → eqb q (word_at s i) ≡ same_outcome (fit a (lent b)) s i
told_refused s i {a} {r} {b} h e = refused_at s i (fit a (lent b)) (sym e ∙ h.gives.answer)

-- an answer with the numbers f: the fit, and where its places stand
record Told (a : Asked) (b c : Buffers) (f : Summary) : Type 0 where
  pub whole : FitResult
  pub outcome : fit a (lent b) ≡ fitted whole
  pub numbers : f ≡ summary_of whole
  pub trend : take (length a.y) c.out.trend ≡ whole.trend
  pub cycle : take (length a.y) c.out.cycle ≡ whole.cycle
  pub knots : take f.knots c.out.knots ≡ whole.knots
  pub dual : take (places a) c.out.dual ≡ whole.dual
  pub trend_in : length a.y ≤ length c.out.trend
  pub cycle_in : length a.y ≤ length c.out.cycle
  pub knots_in : f.knots ≤ length c.out.knots
  pub dual_in : places a ≤ length c.out.dual
  pub few : f.knots ≤ length a.y

told_of : (a : Asked) (b c : Buffers) (o : Outcome) {r : Result Summary ℕ} {f : Summary} → fit a (lent b) ≡ o → r ≡ Ok f → Gives o r b.out c.out
    → ((g : FitResult) → fit a (lent b) ≡ fitted g → Lengths a g) → Told a b c f
unfolding answer_of after summary_of
told_of a b c (refused q) {r} {f} e p h z =
    let m : Ok f ≡ answer_of (refused q) = sym p ∙ h.answer in
    impossible cc
told_of a b c (fitted g) {r} {f} e p h z =
    let m : Ok f ≡ answer_of (fitted g) = sym p ∙ h.answer in
    let n : f ≡ summary_of g = cc in
    let k : f.knots ≡ length g.knots = ap (λ (x : Summary). x.knots) n in
    let l = z g e in
    let trend_is = ap (λ (x : Outputs). x.trend) h.out in
    let cycle-is = ap (λ (x : Outputs). x.cycle) h.out in
    let knots-is = ap (λ (x : Outputs). x.knots) h.out in
    let dual_is = ap (λ (x : Outputs). x.dual) h.out in
    record {
      whole = g;
      outcome = e;
      numbers = n;
      trend = take_put b.out.trend g.trend (length a.y) trend_is l.trend;
      cycle = take_put b.out.cycle g.cycle (length a.y) cycle-is l.cycle;
      knots = take_put b.out.knots g.knots f.knots knots-is (sym k);
      dual = take_put b.out.dual g.dual (places a) dual_is l.dual;
      trend_in = omega (arith, put-fits b.out.trend g.trend trend_is, l.trend);
      cycle_in = omega (arith, put-fits b.out.cycle g.cycle cycle-is, l.cycle);
      knots_in = omega (arith, put-fits b.out.knots g.knots knots-is, k);
      dual_in = omega (arith, put-fits b.out.dual g.dual dual_is, l.dual);
      few = omega (arith, l.knots, k);
    }

told : {a : Asked} {b c : Buffers} {r : Result Summary ℕ} {f : Summary} → Answered a r b c → r ≡ Ok f → Told a b c f
told {a} {b} {c} h e = told_of a b c (fit a (lent b)) refl e h.gives h.sizes

fit_told : (s : List ℕ) (i : ℕ) {a : Asked} {b c : Buffers} {f : Summary} {m : ℕ} → m ≡ places a → Told a b c f
    → same_fit f (take (length a.y - 0) c.out.trend) (take (length a.y - 0) c.out.cycle) (take (f.knots - 0) c.out.knots) (take (m - 0) c.out.dual) s i ≡ same_outcome (fit a (lent b)) s i
unfolding same_outcome
fit_told s i {a} {b} {c} {f} {m} p t =
    let e : length a.y - 0 ≡ length a.y = omega arith in
    let k : f.knots - 0 ≡ f.knots = omega arith in
    let d : m - 0 ≡ places a = omega (arith, p) in
    rw (e, k, d, t.trend, t.cycle, t.knots, t.dual, t.outcome, t.numbers)

module _ {a : Asked} {b c : Buffers} {m : ℕ} (e : m ≡ places a) where
  -- the buffers hold what is compared
  pub told_room : (r : Result Summary ℕ) → Answered a r b c → length a.y ≤ 168 → Room r (length a.y) m (length c.out.trend) (length c.out.cycle) (length c.out.knots) (length c.out.dual)
  told_room (Err q) h w = tt
  told_room (Ok f) h w =
      let t : Told a b c f = told h refl in
      record { trend = t.trend_in; cycle = t.cycle_in; knots_in = t.knots_in; dual = omega (arith, t.dual_in, e); week = w; fewer = omega (arith, e); few = omega (arith, t.few) }

  -- an answer is compared as its outcome is
  told_same : (s : List ℕ) (i : ℕ) (r : Result Summary ℕ) → Answered a r b c → same_answer r (length a.y) m c.out.trend c.out.cycle c.out.knots c.out.dual s i ≡ same_outcome (fit a (lent b)) s i
  unfolding same_answer
  told_same s i (Err q) h = told_refused s i h refl
  told_same s i (Ok f) h = fit_told s i e (told h refl)

  pub told_compares : {s : List ℕ} {i : ℕ} {r : Result Summary ℕ} {z : Bool} → z ≡ same_answer r (length a.y) m c.out.trend c.out.cycle c.out.knots c.out.dual s i → Answered a r b c → Compares a z b c s i
  told_compares {s} {i} {r} p h = record { same = p ∙ told_same s i r h; answered = subst (λ (x : Result Summary ℕ). Answered a x b c) h.gives.answer h }

-- slices that hold a fit, and their parts
pub held : {r : Result Summary ℕ} {f : Summary} {n m t c k d : ℕ} → r ≡ Ok f → Room r n m t c k d → Holds f.knots n m t c k d
held {r} {f} {n} {m} {t} {c} {k} {d} e h = subst (λ (x : Result Summary ℕ). Room x n m t c k d) e h

part_short : {A : Type 0} {n : ℕ} (v : List A) → n ≤ length v → n ≤ 168 → length (take (n - 0) v) ≤ 168
part_short {A} {n} v h w = let e : n - 0 ≡ n = omega arith in rw e (omega (arith, length-take-le n v h, w))

pub parts_short : {A B : Type 0} {q n m : ℕ} (t c : List A) (l : List B) (d : List A) → Holds q n m (length t) (length c) (length l) (length d)
    → (length (take (n - 0) t) ≤ 168) × (length (take (n - 0) c) ≤ 168) × (length (take (q - 0) l) ≤ 168) × (length (take (m - 0) d) ≤ 168)
parts_short t c l d h = (
  part_short t h.trend h.week,
  part_short c h.cycle h.week,
  part_short l h.knots_in h.few,
  part_short d h.dual (omega (arith, h.fewer, h.week)),
)
