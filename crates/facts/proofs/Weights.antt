-- What records and links weigh, test by test.
use Prim.Native.Nat.{ℕ, ◌+◌, ◌≤◌, ◌<◌}
use mathlib.Core.Path.{◌≡◌, refl, sym, ◌∙◌}
use mathlib.Core.List.{List}
use native.Mathlib.Omega.{arith}
use borrow.Author.Tests.{eq-eqb, ne_eqb}
use Rattle.facts.specs.Table.{key_of, parent_of}
use Rattle.std.specs.Prelude.{Some}
use Rattle.facts.specs.Weights.{link_weight, weight_end, weight, link_to, Leads, Weighs}

module _ (t : List ℕ) (c : ℕ) where
  pub weight_is : weight t c ≡ link_weight + key_of t c
  unfolding weight
  weight_is = refl

  pub link_none : c ≡ 0 → link_to t c ≡ 0
  unfolding link_to
  link_none z = rw (eq-eqb c 0 z) refl

  pub link_some : (c ≡ 0 → ⊥) → link_to t c ≡ weight t c
  unfolding link_to
  link_some n = rw (ne_eqb c 0 n) refl

-- a link that is added to the others
module _ (t : List ℕ) (u p b c x : ℕ) where
  pub lead_none : c ≡ 0 → Weighs (Some x) (Leads t u p b c) t c x
  lead_none z = let e = link_none t c z in ((λ n. absurd (n z)), omega arith, omega arith)

  pub lead_some : (c ≡ 0 → ⊥) → c ≤ u → (v : ℕ) → v ≡ parent_of t c → v ≡ p → (w : ℕ) → w ≡ weight t c → w < weight_end → b < w
      → Weighs (Some (x + w)) (Leads t u p b c) t c x
  lead_some n l v e d w q h k =
      let s = link_some t c n in
      ((λ _. (l, sym e ∙ d, omega arith)), omega arith, omega arith)
