use Rattle.std.proofs.Common.{◌≡◌, ℕ, length, get_or, refl, sym, ap, ◌∙◌, arith}
use Rattle.std.proofs.lemmas.List.{get_or_read}
use Rattle.stored.specs.Words.{same_to}
use Rattle.stored.proofs.Same.{same_more, same_not}
use Rattle.stored.proofs.same_words.Goals as goal

pub loop-i-init : goal.loop-i-init
unfolding same_to
loop-i-init g c = refl

pub returns-then-as_word-word : goal.returns-then-as_word-word
returns-then-as_word-word g c =
    let v = get_or_read c.args.x.now c.loop-i.i c.index-x-i.result c.loop-i-test.true c.index-x-i.is g.T.Stored.beyond in
    let w = c.as_word.ensures ∙ ap g.T.Stored.word_of v in
    same_not (λ (k : ℕ). g.T.Stored.word_of (get_or c.args.x.now k g.T.Stored.beyond)) c.args.s.now c.args.a c.loop-i.i _ (rw (w, c.word.ensures) at c.if-as_word-word.true) c.loop-i-test.true

pub loop-i-preserved : goal.loop-i-preserved
loop-i-preserved g c =
    let v = get_or_read c.args.x.now c.loop-i.i c.index-x-i.result c.loop-i-test.true c.index-x-i.is g.T.Stored.beyond in
    let w = c.as_word.ensures ∙ ap g.T.Stored.word_of v in
    same_more (λ (k : ℕ). g.T.Stored.word_of (get_or c.args.x.now k g.T.Stored.beyond)) c.args.s.now c.args.a c.loop-i.i c.loop-i.invariant (sym w ∙ c.if-as_word-word.false ∙ c.word.ensures)

pub returns : goal.returns
returns g c = let e : c.loop-i.i ≡ length c.args.x.now = omega arith in sym (rw e at c.loop-i.invariant)
