use Rattle.std.proofs.Common.{◌≡◌, ℕ, ◌≤◌, sym, ◌∙◌, refl, ap, length, arith, eqb-true, []}
use borrow.Author.Tests.{eqb-false}
use Rattle.facts.specs.Table.{next_of}
use Rattle.facts.specs.State.{kids_in}
use Rattle.paths.specs.Lent.{facts_of}
use Rattle.paths.specs.Walking.{from_on}
use Rattle.paths.proofs.Chaining.{left_all, left_more, left_none, kid_after}
use Rattle.budget.proofs.WalkLaws.{Paying, paying_start, paying_last, paying_done, paying_none, paying_over, paying_seen}
use Rattle.budget.proofs.WalkLaws.{paying_unseen}
use Rattle.budget.proofs.WalkLaws.{cost_deep, leaf_left, leaf_over, in_state, childless, kid_range}
use Rattle.budget.proofs.walk.+left_below.Goals as goal
use Rattle.budget.proofs.walk.+left_below.Goals.{After-next-child, then-is_fact+else-depth-eq-DEPTH_MAX, else-is_fact}
use Rattle.budget.proofs.walk.+left_below.Goals.{then-child-eq0+in_ok-rest, else-child-eq0+in_ok-rest-2}

pub loop-child-init : goal.loop-child-init
loop-child-init t c =
    let p = c.requires.le_r in
    let L = c.args.facts.now.shaped.linked in (
      paying_start _ _ _ _ _ (left_all _ _ _ L p.0 p.1 _ c.child-child.ensures),
      λ n. kid_after _ _ _ L p.0 p.1 0 _ (λ m. absurd (m refl)) (λ z. c.child-child.ensures) (λ m. absurd (m refl)) n,
    )

pub loop-r-init : goal.loop-r-init
loop-r-init t c = (c.loop-child.invariant.0, c.loop-child.invariant.1 c.loop-child-test.true, omega arith)

pub is_fact-requires : goal.is_fact-requires
is_fact-requires t c = kid_range c.loop-r.invariant.1

pub child-requires : goal.child-requires
child-requires t c = kid_range c.loop-r.invariant.1

pub last_word-requires-clause-le_r : goal.last_word-requires-clause-le_r
last_word-requires-clause-le_r t c = kid_range c.loop-r.invariant.1

pub key-last_key-requires : goal.key-last_key-requires
key-last_key-requires t c = kid_range c.loop-r.invariant.1

pub next-child-requires : goal.next-child-requires
next-child-requires t c = kid_range c.loop-r.invariant.1

pub returns-then-depth-eq-DEPTH_MAX : goal.returns-then-depth-eq-DEPTH_MAX
returns-then-depth-eq-DEPTH_MAX t c =
    let I = c.loop-r.invariant in
    let p = c.requires.le_r in
    let s = left_more _ _ _ c.args.facts.now.shaped.linked p.0 p.1 _ _ I.1 refl in
    let o = eqb-true _ _ (sym c.is_fact.ensures ∙ c.if-is_fact.true) in
    paying_over I.0 s o p.0 p.2 c.requires.seen (cost_deep I.0 s o c.if-depth-eq-DEPTH_MAX.true)

pub last_word-requires-clause-last_value : goal.last_word-requires-clause-last_value
last_word-requires-clause-last_value t c =
    let I = c.loop-r.invariant in
    let p = c.requires.le_r in
    let s = left_more _ _ _ c.args.facts.now.shaped.linked p.0 p.1 _ _ I.1 refl in
    let f = childless _ _ I.0 s c.args.facts.now.shaped c.child.ensures c.if-child-eq0.true in
    paying_last (paying_start _ _ 0 0 [] (sym f)) refl

pub returns-in_err-rest : goal.returns-in_err-rest
returns-in_err-rest t c =
    let I = c.loop-r.invariant in
    let p = c.requires.le_r in
    let s = left_more _ _ _ c.args.facts.now.shaped.linked p.0 p.1 _ _ I.1 refl in
    let o = eqb-true _ _ (sym c.is_fact.ensures ∙ c.if-is_fact.true) in
    let f = childless _ _ I.0 s c.args.facts.now.shaped c.child.ensures c.if-child-eq0.true in
    rw c.from_residual.ensures
    (paying_over I.0 s o p.0 p.2 c.requires.seen
    (leaf_over I.0 s o p.2 c.if-depth-eq-DEPTH_MAX.false f c.last_word.ensures c.in_err-rest.ensures))

pub left_below-requires : goal.left_below-requires
left_below-requires t c =
    let K = c.loop-r.invariant.1 in
    let a = K.above in
    let b = K.used in
    let q = c.decreases in
    let d = c.if-depth-eq-DEPTH_MAX.false in
    let h = c.requires.le_r.2 in
    (omega arith, ((omega arith, b, omega arith), eqb-true _ _ (sym c.is_fact.ensures ∙ c.if-is_fact.true)))

pub returns-in_err-rest-2 : goal.returns-in_err-rest-2
returns-in_err-rest-2 t c =
    let I = c.loop-r.invariant in
    let p = c.requires.le_r in
    let s = left_more _ _ _ c.args.facts.now.shaped.linked p.0 p.1 _ _ I.1 refl in
    let o = eqb-true _ _ (sym c.is_fact.ensures ∙ c.if-is_fact.true) in
    rw c.from_residual-in_err-rest-2.ensures
    (paying_over I.0 s o p.0 p.2 c.requires.seen c.in_err-rest-2.ensures)

-- the turn is paid, and the next child, if there is one, stands where the chain says
turned : (t : ℕ) (c : After-next-child t) (d : ℕ) → d ≡ next_of c.args.facts.now.table.now c.loop-r.c
    → Paying (facts_of c.args.facts.now) c.args.r c.args.depth c.args.left c.if-is_fact.rest c.if-is_fact.last_key
    (from_on d (kids_in (facts_of c.args.facts.now) c.args.r))
turned t c d e =
    let I = c.loop-r.invariant in
    let p = c.requires.le_r in
    let s = left_more _ _ _ c.args.facts.now.shaped.linked p.0 p.1 _ _ I.1 e in
    elim c.if-is_fact.branch [
      | then-is_fact+else-depth-eq-DEPTH_MAX w ↦
          let o = eqb-true _ _ (sym c.is_fact.ensures ∙ w.if-is_fact.true) in
          let k = w.last_key-is ∙ w.key-last_key.ensures in
          elim w.if-child-eq0.branch [
            | then-child-eq0+in_ok-rest v ↦
                let f = childless _ _ I.0 s c.args.facts.now.shaped w.child.ensures v.if-child-eq0.true in
                paying_seen I.0 s o (leaf_left I.0 s o p.2 w.if-depth-eq-DEPTH_MAX.false f v.last_word.ensures v.in_ok-rest.ensures) (w.rest-is ∙ v.rest-is) k
            | else-child-eq0+in_ok-rest-2 v ↦
                paying_seen I.0 s o (v.in_ok-rest-2.ensures.0, v.in_ok-rest-2.ensures.1) (w.rest-is ∙ v.rest-is) k
          ]
      | else-is_fact w ↦ rw (w.rest-is, w.last_key-is) (paying_unseen I.0 s (eqb-false _ _ (sym c.is_fact.ensures ∙ w.if-is_fact.false)))
    ]

pub loop-child-smaller : goal.loop-child-smaller
loop-child-smaller t c =
    let I = c.loop-r.invariant in
    let p = c.requires.le_r in
    let s = ap length (left_more _ _ _ c.args.facts.now.shaped.linked p.0 p.1 _ _ I.1 c.next-child.ensures) in
    omega (arith, I.2)

pub loop-child-preserved : goal.loop-child-preserved
loop-child-preserved t c =
    let p = c.requires.le_r in
    let L = c.args.facts.now.shaped.linked in
    let K = c.loop-r.invariant.1 in
    (turned t c.before _ c.next-child.ensures, λ n. kid_after _ _ _ L p.0 p.1 _ _ (λ m. K) (λ z. let a = K.above in absurd (omega arith)) (λ m. c.next-child.ensures) n)

pub loop-r-smaller : goal.loop-r-smaller
loop-r-smaller t c =
    let I = c.loop-r.invariant in
    let p = c.requires.le_r in
    let e = sym c.if-child-follow.false ∙ c.next-child.ensures in
    let s = ap length (left_more _ _ _ c.args.facts.now.shaped.linked p.0 p.1 _ _ I.1 e) in
    omega arith

pub loop-r-preserved : goal.loop-r-preserved
loop-r-preserved t c =
    let p = c.requires.le_r in
    let L = c.args.facts.now.shaped.linked in
    let I = c.loop-r.invariant in
    let K = I.1 in
    let e = sym c.if-child-follow.false ∙ c.next-child.ensures in
    let l = loop-r-smaller t c in (
      turned t c.before _ e,
      kid_after _ _ _ L p.0 p.1 _ _ (λ m. K) (λ z. let a = K.above in absurd (omega arith)) (λ m. e) (λ z. absurd (omega arith)),
      omega (arith, I.2),
    )

pub last_word-last_word-requires-clause-last_value : goal.last_word-last_word-requires-clause-last_value
last_word-last_word-requires-clause-last_value t c =
    let p = c.requires.le_r in
    paying_last c.loop-child.invariant.0 (left_none _ _ _ c.args.facts.now.shaped.linked p.0 p.1 _ c.loop-child-test.false)

pub returns-in_err-left : goal.returns-in_err-left
returns-in_err-left t c =
    let p = c.requires.le_r in
    let e = left_none _ _ _ c.args.facts.now.shaped.linked p.0 p.1 _ c.loop-child-test.false in
    rw c.from_residual-in_err-left.ensures
    (paying_none c.loop-child.invariant.0 e p.0 (in_state _ _ p.1) p.2 c.requires.seen c.last_word-last_word.ensures c.in_err-left.ensures)

pub returns : goal.returns
returns t c =
    let p = c.requires.le_r in
    let e = left_none _ _ _ c.args.facts.now.shaped.linked p.0 p.1 _ c.loop-child-test.false in
    paying_done c.loop-child.invariant.0 e p.0 (in_state _ _ p.1) p.2 c.requires.seen c.last_word-last_word.ensures c.in_ok-left.ensures
