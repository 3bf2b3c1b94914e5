-- The loop of `measure`, turn by turn.
use mathlib.Core.Path.{◌≡◌, sym, subst, ◌∙◌}
use mathlib.Core.List.{List}
use Prim.Native.Nat.{ℕ, ◌+◌, ◌-◌, ◌<◌}
use lib.ListN.{length, get_or}
use Rattle.types.specs.Tree.{AbiTypes}
use Rattle.types.specs.Codes.{Spells}
use Rattle.std.specs.Prelude.{Option, Some, None}
use Rattle.text.specs.declared.count.Tally.{Tally}
use Rattle.text.specs.Weight.{tallied}
use Rattle.text.proofs.Lengths.{Counting, counting_unknown, counting_more}
use Rattle.text.proofs.Tallies.{tally_follow, no_tally}

module _ (cs : List ℕ) (w l i : ℕ) (so_far : Counting cs w l i) (more : i < length cs)
    (c : ℕ) (ec : c ≡ get_or cs i 0) (next : Option Tally) (en : next ≡ tallied c w l) where
  pub count_stop : next ≡ None → (ts : AbiTypes) → Spells ts cs → ⊥
  count_stop e = let (u, k) = no_tally c w l (sym e ∙ en) in counting_unknown cs w l i c more ec so_far u k

  pub count_again : c < 65536 → (t : Tally) → next ≡ Some t → Counting cs t.wanted t.length (i + 1)
  count_again h t e =
      let s = tally_follow c w l t h (sym e ∙ en) in
      let x = counting_more cs w l i c more ec so_far s.parts s.follows s.few s.short in
      subst (λ (n : ℕ). Counting cs n t.length (i + 1)) (sym s.wanted)
      (subst (λ (n : ℕ). Counting cs (w - 1 + s.parts) n (i + 1)) (sym s.length) x)
