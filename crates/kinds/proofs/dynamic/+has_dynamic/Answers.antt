use Rattle.std.proofs.Common.{sym, ap, ◌∙◌, arith}
use Rattle.paths.specs.Walking.{chain_left}
use Rattle.paths.proofs.Chaining.{left_kid}
use Rattle.kinds.proofs.DynamicLaws.{dynamic_unseen, dynamic_here, dynamic_kids, seeking_start, seeking_kid, seeking_found, seeking_next, seeking_done}
use Rattle.kinds.proofs.dynamic.+has_dynamic.Goals as goal

pub returns-then-not-is_seen : goal.returns-then-not-is_seen
returns-then-not-is_seen t c = dynamic_unseen _ _ _ c.requires.0 c.requires.1 (sym c.is_seen.ensures ∙ c.if-not-is_seen.true)

pub returns-then-kind-ne0 : goal.returns-then-kind-ne0
returns-then-kind-ne0 t c =
    dynamic_here _ _ _ c.requires.0 c.requires.1 (sym c.is_seen.ensures ∙ c.if-not-is_seen.false) (λ z. c.if-kind-ne0.true (c.kind.ensures ∙ z))

pub loop-c-init : goal.loop-c-init
loop-c-init t c = seeking_start _ _ _ (ap chain_left c.into_iter-c-iterator.ensures.into_iter_gives ∙ c.children-c-items.ensures)

pub has_dynamic-requires : goal.has_dynamic-requires
has_dynamic-requires t c =
    let K = left_kid _ _ _ _ (seeking_kid _ _ _ _ _ c.loop-c.invariant c.in-Some.ensures.steps) in
    let q = c.decreases in
    let a = K.above in
    let b = K.used in
    (omega arith, (omega arith, b))

pub returns-then-has_dynamic : goal.returns-then-has_dynamic
returns-then-has_dynamic t c =
    dynamic_kids _ _ _ c.requires.0 c.requires.1 _ (sym c.is_seen.ensures ∙ c.if-not-is_seen.false) (sym c.kind.ensures ∙ c.if-kind-ne0.false)
    (seeking_found _ _ _ _ _ c.loop-c.invariant c.in-Some.ensures.steps _ c.has_dynamic.ensures c.if-has_dynamic.true)

pub loop-c-preserved : goal.loop-c-preserved
loop-c-preserved t c = seeking_next _ _ _ _ _ c.loop-c.invariant c.in-Some.ensures.steps _ c.has_dynamic.ensures c.if-has_dynamic.false

pub returns : goal.returns
returns t c =
    dynamic_kids _ _ _ c.requires.0 c.requires.1 _ (sym c.is_seen.ensures ∙ c.if-not-is_seen.false) (sym c.kind.ensures ∙ c.if-kind-ne0.false)
    (seeking_done _ _ _ c.loop-c.invariant c.in-None.ensures.steps.0)
