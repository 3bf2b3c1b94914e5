use Rattle.std.proofs.Common.{◌∙◌, ◌/◌, max, arith}
use Rattle.limits.specs.Limits.{word_bytes}
use Rattle.list.specs.Seen.{last_word}
use Rattle.list.proofs.seen.last_word.Goals as goal

pub returns : goal.returns
unfolding last_word
returns c =
    let same = c.max.ensures ∙ (λ i. max (c.count.ensures i) (c.requires.last_value i / word_bytes)) in
    omega arith
