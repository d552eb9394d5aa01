-- A question answered no; a bad pivot of D D'; a path that was lost, and one whose trend was written out. Assumes nothing.
use mathlib.Core.Path.{◌≡◌, refl, sym, ap, subst, ◌∙◌}
use mathlib.Core.Bool.{Bool, false, cond}
use mathlib.Core.List.{List}
use mathlib.Core.Option.{none, some}
use Prim.Native.Nat.{ℕ, ◌≤◌}
use native.Mathlib.Omega.{arith}
use lib.ListN.{length}
use lib.Ieee.{Float}
use Rattle.std.specs.Prelude.{Option, Some, None}
use Rattle.std.specs.Option.{ok_or}
use Rattle.float64.proofs.Clash.{clash}
use Rattle.vectors.specs.Vec.{put, KeptOf}
use Rattle.vectors.specs.Parts.{Kept, part}
use Rattle.vectors.proofs.Laws.{kept_none, kept_then}
use Rattle.vectors.proofs.Texts.{put_start, start_put}
use Rattle.certificate.specs.Certificate.{minus}
use Rattle.certificate.proofs.Laws.{length-minus}
use Rattle.decomposition.specs.Written.{decomposed, WroteOut}
use Rattle.gram.specs.Prepared.{preparation, Prepared}
use Rattle.questions.specs.declared.Refusal.{Refusal}
use Rattle.questions.specs.declared.Refusal.TheVariants.{BadPivot}
use Rattle.questions.specs.Refusals.{refusal_number, numbered}
use Rattle.questions.specs.Questions.{Asked, Lent, question}
use Rattle.questions.proofs.Refusals.{number_not_0}
use Rattle.fit.specs.Outputs.{outputs}
use Rattle.fit.specs.Fit.{refused, places, path, written, outcome, fit, after}
use Rattle.fit.specs.Ways.{sound_dd}
use Rattle.fit.proofs.Passed.{fit_passed, fit_refused}
use Rattle.closed_paths.specs.declared.Finding.{Finding}
use Rattle.closed_paths.specs.Trends.{path_area, path_marks, trend_of, found_of, reach, said, reached}
use Rattle.closed_paths.specs.Taken.{Took}
use Rattle.prepared_fit.specs.Begun.{Stops, Begins}
use Rattle.prepared_fit.specs.Fitted.{tallied, Fitted}

-- a question answered no
pub asked_refused : (a : Asked) (l : Lent) (w : List Float) (r : Refusal) → refusal_number r ≡ question a l → Stops a l w w (refusal_number r)
asked_refused a l w r e = record {
  refuses = fit_refused a l (refusal_number r) (sym e) (number_not_0 r);
  unused = λ h. refl;
  kept = kept_none 0 (preparation (length a.y)) w;
}

-- a bad pivot of D D'
pub unsound_fit : (a : Asked) (l : Lent) → question a l ≡ 0 → sound_dd a ≡ false → fit a l ≡ refused 10
unsound_fit a l e s = fit_passed a l e ∙ ap (λ (b : Bool). cond b (outcome a (path a)) (refused 10)) s

-- the preparation, whose answer is r
pub prepared_begins : (a : Asked) (l : Lent) (w₀ w : List Float) (r : Option Float) → question a l ≡ 0 → Prepared a.order a.y w₀ w r → Begins a l w₀ w (numbered (ok_or r BadPivot))
unfolding Begins
prepared_begins a l w₀ w None e d = record {
  refuses = unsound_fit a l e (sym d.good);
  unused = λ t. absurd (clash t refl);
  kept = d.kept;
}
prepared_begins a l w₀ w (Some top) e d = record {
  passes = e;
  sound = sym d.good;
  star = d.star refl;
  differences = d.differences;
  top_is = d.top top refl;
  kept = d.kept;
}

-- how far a found trend reaches
pub reach-found : (r : Option Finding) (f : Finding) (n w : ℕ) → r ≡ Some f → reached r n ≤ w → reach f.trend n ≤ w
unfolding reached
reach-found r f n w e h = subst (λ (p : Option Finding). reached p n ≤ w) e h

-- u over whatever stood in its places
put_kept : (n : ℕ) (s₀ s u : List Float) → Kept 0 n s₀ s → length u ≡ n → n ≤ length s₀ → put s 0 u ≡ put s₀ 0 u
put_kept n s₀ s u w e fits =
    let size = w.size in
    let h = put_start n s u (put s 0 u) refl e (omega arith) in
    start_put n s₀ u (put s 0 u) h.0 (kept_then 0 n w h.1 (omega arith) (omega arith) (omega arith) (omega arith)) fits

module _ {a : Asked} {w₀ w c₀ c₁ d₀ d : List Float} {r : Option Finding} {marks₀ marks : List ℕ} (t : Took (path a) a.order (path_area a.penalty (length a.y)) a.y w₀ w c₀ c₁ d₀ d r) (m : KeptOf 0 0 (path_marks a.penalty (length a.y)) marks₀ marks) where
  -- a path that was lost
  pub fitted_lost : (x : List Float) (i : List ℕ) → r ≡ None → Fitted a None (outputs x c₀ i d₀) (outputs x c₁ i d) w₀ w marks₀ marks
  unfolding said tallied outcome after
  fitted_lost x i e =
      let p : none ≡ path a = sym (ap (said a.order a.y w d) e) ∙ t.says in
      let l = t.lost (sym p) in
      record {
        tally = ap (tallied a) p;
        out = (λ j. outputs x (l.0 j) i (l.1 j)) ∙ ap (λ o. after (outcome a o) (outputs x c₀ i d₀)) p;
        work = t.changed.work;
        marked = m;
      }

  -- the trend of what was found was written out, over whatever the path left in cycle; there is room in cycle and in dual
  pub fitted_done : length a.y ≤ length c₀ → places a ≤ length d₀ → (f : Finding) (count : ℕ) (t₀ x c : List Float) (i₀ i : List ℕ) → r ≡ Some f
      → WroteOut a.order a.y (trend_of a.y w f.trend) count (decomposed t₀ c₁ i₀) (decomposed x c i)
      → Fitted a (Some (record { knots = count; numbers = f.numbers })) (outputs t₀ c₀ i₀ d₀) (outputs x c i d) w₀ w marks₀ marks
  unfolding said tallied outcome after written
  fitted_done long fits f count t₀ x c i₀ i e o =
      let p : some (found_of a.order a.y w d f) ≡ path a = sym (ap (said a.order a.y w d) e) ∙ t.says in
      let cycle-is = o.cycle ∙ put_kept (length a.y) c₀ c₁ (minus a.y (trend_of a.y w f.trend)) t.changed.cycle (length-minus a.y (trend_of a.y w f.trend)) long in
      let dual_is = start_put (places a) d₀ (part 0 (places a) d) d refl t.changed.dual fits in
      record {
        tally = ap (λ (q : ℕ). Some (record { knots = q; numbers = f.numbers })) o.count_is ∙ ap (tallied a) p;
        out = (λ j. outputs (o.trend j) (cycle-is j) (o.knots j) (dual_is j)) ∙ ap (λ q. after (outcome a q) (outputs t₀ c₀ i₀ d₀)) p;
        work = t.changed.work;
        marked = m;
      }
