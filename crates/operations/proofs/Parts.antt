-- A part of the nodes, as a store to another field leaves it.
use Prim.Native.Nat.{ℕ}
use mathlib.Core.Path.{◌≡◌, refl, ◌∙◌}
use mathlib.Core.List.{List}
use Rattle.limits.specs.Fields as field
use Rattle.facts.specs.State.{Node, node_of}
use Rattle.paths.specs.Update.{with_field, update}
use Rattle.paths.specs.Make.{make_seen}
use Rattle.paths.proofs.Kept.{seen_keeps}
use Rattle.paths.proofs.Sounds.{update_keeps}

-- a part of a node that a field is no part of
abbrev pub Spares : (Node → ℕ) → ℕ → Type 0
Spares g f = (v : ℕ) (n : Node) → g (with_field f v n) ≡ g n

pub part_update : (g : Node → ℕ) (s : List Node) (r f v q : ℕ) → Spares g f
    → g (node_of (update s r f v) q) ≡ g (node_of s q)
part_update g s r f v q e = update_keeps (λ n. g n ≡ g (node_of s q)) s r f v q (λ n h. e v n ∙ h) refl

-- a path made seen
pub part_seen : (g : Node → ℕ) (s : List Node) (r q : ℕ) → Spares g field.seen
    → g (node_of (make_seen s r) q) ≡ g (node_of s q)
part_seen g s r q e =
    seen_keeps (λ x. g (node_of x q) ≡ g (node_of s q)) (λ x c h. part_update g x c field.seen 1 q e ∙ h) s r refl
