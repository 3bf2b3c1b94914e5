use Rattle.std.proofs.Common.{◌≡◌, sym, ◌∙◌, Bool, true, false, cond, refl, max, List}
use borrow.Author.Tests.{eq-eqb, ne_eqb}
use mir.Val.{bool_byte}
use Rattle.limits.specs.Confidences.{by_range}
use Rattle.facts.specs.State.{Node, node_of}
use Rattle.paths.specs.Lent.{facts_in}
use Rattle.paths.proofs.Lending.{becomes_then}
use Rattle.marks.specs.Names.{drop_name}
use Rattle.marks.proofs.hint.clear_at.Goals as goal

flag_is : (b : Bool) → bool_byte b ≡ cond b 1 0
flag_is true = refl
flag_is false = refl

pub returns-then-is_range : goal.returns-then-is_range
returns-then-is_range c =
    let n : Node = node_of (facts_in c.args.facts.now) c.args.r in
    let range = eq-eqb n.confidence by_range (sym (rw (c.read-read.ensures.0, c.read-read.ensures.2) at c.confidence-is_range.ensures) ∙ c.if-is_range.true) in
    let value : c.max.result ≡ max n.blocked (cond c.args.block 1 0) =
    c.max.ensures ∙ (λ i. max ((rw (c.read-read.ensures.0, c.read-read.ensures.2) at c.blocked-blocked.ensures) i) ((c.from.ensures ∙ flag_is c.args.block) i)) in
    rw range (becomes_then (λ (s : List Node). drop_name s c.args.r) _ _ _ _ (rw value at c.store.ensures) c.drop_name.ensures)

pub returns-else-is_range : goal.returns-else-is_range
returns-else-is_range c =
    let n : Node = node_of (facts_in c.args.facts.now) c.args.r in
    let range = ne_eqb n.confidence by_range (λ e. c.if-is_range.false ((rw (c.read-read.ensures.0, c.read-read.ensures.2) at c.confidence-is_range.ensures) ∙ e)) in
    let value : c.max.result ≡ max n.blocked (cond c.args.block 1 0) =
    c.max.ensures ∙ (λ i. max ((rw (c.read-read.ensures.0, c.read-read.ensures.2) at c.blocked-blocked.ensures) i) ((c.from.ensures ∙ flag_is c.args.block) i)) in
    rw range (rw value at c.store.ensures)
