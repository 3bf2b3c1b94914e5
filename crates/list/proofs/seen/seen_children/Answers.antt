use Rattle.std.proofs.Common.{sym, ap, ◌∙◌, refl, arith, eqb-true}
use borrow.Author.Tests.{eqb-false}
use Rattle.facts.proofs.Encode.{length_nodes}
use Rattle.paths.specs.Walking.{chain_left}
use Rattle.paths.proofs.Chaining.{left_kid}
use Rattle.list.proofs.ChildrenLaws.{looking_start, looking_kid, looking_fits, looking_seen, looking_unseen, looking_done}
use Rattle.list.proofs.seen.seen_children.Goals as goal

pub loop-c-init : goal.loop-c-init
loop-c-init c = looking_start _ _ _ (ap chain_left c.into_iter-c-iterator.ensures.into_iter_gives ∙ c.children-c-items.ensures)

pub is_seen-requires : goal.is_seen-requires
is_seen-requires c =
    let K = left_kid _ _ _ _ (looking_kid _ _ _ _ _ _ c.loop-c.invariant _ _ c.in-Some.ensures.steps) in
    (let a = K.above in omega arith, K.used)

-- there are no more children than records
pub overflow_add-count : goal.overflow_add-count
overflow_add-count c =
    let h = c.args.facts.now in
    let l = length_nodes h.table.now h.used in
    let fits = looking_fits _ _ _ _ _ _ c.loop-c.invariant _ _ c.in-Some.ensures.steps (eqb-true _ _ (sym c.is_seen.ensures ∙ c.if-is_seen.true))
    (let a = h.shaped.most in let b = h.fits in omega arith) in
    omega arith

pub key-last_key-requires : goal.key-last_key-requires
key-last_key-requires c =
    let K = left_kid _ _ _ _ (looking_kid _ _ _ _ _ _ c.loop-c.invariant _ _ c.in-Some.ensures.steps) in
    (let a = K.above in omega arith, K.used)

pub kind-last_kind-requires : goal.kind-last_kind-requires
kind-last_kind-requires c =
    let K = left_kid _ _ _ _ (looking_kid _ _ _ _ _ _ c.loop-c.invariant _ _ c.in-Some.ensures.steps) in
    (let a = K.above in omega arith, K.used)

pub loop-c-preserved-then-is_seen : goal.loop-c-preserved-then-is_seen
loop-c-preserved-then-is_seen c =
    rw (c.key-last_key.ensures, c.kind-last_kind.ensures)
    (looking_seen _ _ _ _ _ _ c.loop-c.invariant _ _ c.in-Some.ensures.steps (eqb-true _ _ (sym c.is_seen.ensures ∙ c.if-is_seen.true)))

pub loop-c-preserved : goal.loop-c-preserved
loop-c-preserved c =
    looking_unseen _ _ _ _ _ _ c.loop-c.invariant _ _ c.in-Some.ensures.steps (eqb-false _ _ (sym c.is_seen.ensures ∙ c.if-is_seen.false))

pub returns : goal.returns
returns c = looking_done _ _ _ _ _ _ c.loop-c.invariant _ refl refl refl c.in-None.ensures.steps.0
