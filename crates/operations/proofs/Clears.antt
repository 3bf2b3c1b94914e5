-- Hints cleared: what stays of each node as it was, and what is read off the facts then.
use Prim.Native.Nat.{ℕ, zero, suc, ◌+◌, max}
use mathlib.Core.Path.{◌≡◌, refl, ap, ◌∙◌}
use mathlib.Core.Bool.{Bool, true, false, cond}
use mathlib.Core.List.{List}
use lib.Dec.{eqb, leb}
use lib.ListN.{length}
use Rattle.limits.specs.Codes as code
use Rattle.limits.specs.Fields as field
use Rattle.limits.specs.Limits.{kind_array}
use Rattle.facts.specs.State.{Node, node_of}
use Rattle.paths.specs.Update.{with_field, update}
use Rattle.paths.specs.Find.{find_in, get_mut}
use Rattle.paths.specs.Depth.{depth_up, depth_of}
use Rattle.paths.specs.Adds.{SamePaths}
use Rattle.paths.proofs.Alike.{alike_refl, map_node}
use Rattle.paths.proofs.Adds.{alike_same}
use Rattle.marks.specs.Names.{is_range, drop_name}
use Rattle.marks.specs.Hints.{clear_at, clear_range_hint, without_range, clear_range_hints}
use Rattle.marks.proofs.Counts.{same_clear_range_hint}
use Rattle.marks.proofs.HintSounds.{same_clear_range_hints}
use Rattle.kinds.specs.Kinds.{arrays_up, arrays_in_path}
use Rattle.operations.specs.declared.Operation.{Operation}
use Rattle.operations.specs.declared.Operation.TheVariants.{Nothing, ClearRangeHint, ClearRangeHints}
use Rattle.operations.specs.declared.Operation.TheVariants.{MarkNotBool, InsertNotBool, GetOrCreate}
use Rattle.operations.specs.declared.Operation.TheVariants.{SetTname, SetDynamic, SetArray}
use Rattle.operations.specs.Run.{run}
use Rattle.operations.proofs.Parts.{Spares, part_update}

-- it clears hints at most
abbrev pub Clears : Operation → Type 0
Clears Nothing = Unit {0}
Clears (ClearRangeHint p k block) = Unit {0}
Clears ClearRangeHints = Unit {0}
Clears (MarkNotBool p k) = ⊥
Clears (InsertNotBool p k) = ⊥
Clears (GetOrCreate p k) = ⊥
Clears (SetTname p k name confidence) = ⊥
Clears (SetDynamic p k count) = ⊥
Clears (SetArray r count) = ⊥

-- what holds of the three that it can be
clear_cases : (P : Operation → Type 0) → P Nothing → ((p k : ℕ) (block : Bool) → P (ClearRangeHint p k block)) → P ClearRangeHints
    → (o : Operation) → Clears o → P o
clear_cases P none one all Nothing C = none
clear_cases P none one all (ClearRangeHint p k block) C = one p k block
clear_cases P none one all ClearRangeHints C = all
clear_cases P none one all (MarkNotBool p k) C = absurd C
clear_cases P none one all (InsertNotBool p k) C = absurd C
clear_cases P none one all (GetOrCreate p k) C = absurd C
clear_cases P none one all (SetTname p k name confidence) C = absurd C
clear_cases P none one all (SetDynamic p k count) C = absurd C
clear_cases P none one all (SetArray r count) C = absurd C

-- a part that a hint is no part of stays
module _ (g : Node → ℕ) (B : Spares g field.blocked) (N : Spares g field.name) (S : Spares g field.confidence) where
  part_dropped : (s : List Node) (r q : ℕ) → g (node_of (drop_name s r) q) ≡ g (node_of s q)
  part_dropped s r q =
      part_update g (update s r field.name code.no_name) r field.confidence 0 q S
      ∙ part_update g s r field.name code.no_name q N

  part_cleared : (s : List Node) (r : ℕ) (block : Bool) (q : ℕ) → g (node_of (clear_at s r block) q) ≡ g (node_of s q)
  part_cleared s r block q = go (is_range (node_of s r))
    where
      s' : List Node
      s' = update s r field.blocked (max (node_of s r).blocked (cond block 1 0))

      once : g (node_of s' q) ≡ g (node_of s q)
      once = part_update g s r field.blocked (max (node_of s r).blocked (cond block 1 0)) q B

      go : (b : Bool) → g (node_of (cond b (drop_name s' r) s') q) ≡ g (node_of s q)
      go true = part_dropped s' r q ∙ once
      go false = once

  part_hint : (s : List Node) (p k : ℕ) (block : Bool) (q : ℕ) → g (node_of (clear_range_hint s p k block) q) ≡ g (node_of s q)
  unfolding clear_range_hint
  part_hint s p k block q = go (eqb (get_mut s p k) 0)
    where
      go : (b : Bool) → g (node_of (cond b s (clear_at s (get_mut s p k) block)) q) ≡ g (node_of s q)
      go true = refl
      go false = part_cleared s (get_mut s p k) block q

  part_hints : (s : List Node) (q : ℕ) → g (node_of (clear_range_hints s) q) ≡ g (node_of s q)
  unfolding clear_range_hints with_field
  part_hints s q = ap g (map_node without_range refl s q) ∙ go (is_range (node_of s q))
    where
      dropped : Node
      dropped = with_field field.confidence 0 (with_field field.name code.no_name (node_of s q))

      go : (b : Bool) → g (cond b dropped (node_of s q)) ≡ g (node_of s q)
      go true = S 0 (with_field field.name code.no_name (node_of s q)) ∙ N code.no_name (node_of s q)
      go false = refl

  pub clear_part : (s : List Node) (o : Operation) → Clears o → (q : ℕ) → g (node_of (run s o) q) ≡ g (node_of s q)
  unfolding run
  clear_part s o C q =
      clear_cases (λ (x : Operation). g (node_of (run s x) q) ≡ g (node_of s q)) refl (λ p k block. part_hint s p k block q) (part_hints s q) o C

-- numbers, paths and lookups
pub clear_same : (s : List Node) (o : Operation) → Clears o → SamePaths s (run s o)
unfolding run
clear_same s o C =
    clear_cases (λ (x : Operation). SamePaths s (run s x)) (alike_same s s (alike_refl s)) (λ p k block. same_clear_range_hint s p k block)
    (same_clear_range_hints s) o C

module _ (s : List Node) (o : Operation) (C : Clears o) where
  -- the parts of each node
  pub clear_key : (q : ℕ) → (node_of (run s o) q).key ≡ (node_of s q).key
  unfolding with_field
  clear_key = clear_part (λ n. n.key) (λ v n. refl) (λ v n. refl) (λ v n. refl) s o C

  pub clear_parent : (q : ℕ) → (node_of (run s o) q).parent ≡ (node_of s q).parent
  unfolding with_field
  clear_parent = clear_part (λ n. n.parent) (λ v n. refl) (λ v n. refl) (λ v n. refl) s o C

  pub clear_seen : (q : ℕ) → (node_of (run s o) q).seen ≡ (node_of s q).seen
  unfolding with_field
  clear_seen = clear_part (λ n. n.seen) (λ v n. refl) (λ v n. refl) (λ v n. refl) s o C

  pub clear_not_bool : (q : ℕ) → (node_of (run s o) q).not_bool ≡ (node_of s q).not_bool
  unfolding with_field
  clear_not_bool = clear_part (λ n. n.not_bool) (λ v n. refl) (λ v n. refl) (λ v n. refl) s o C

  pub clear_kind : (q : ℕ) → (node_of (run s o) q).kind ≡ (node_of s q).kind
  unfolding with_field
  clear_kind = clear_part (λ n. n.kind) (λ v n. refl) (λ v n. refl) (λ v n. refl) s o C

  pub clear_count : (q : ℕ) → (node_of (run s o) q).count ≡ (node_of s q).count
  unfolding with_field
  clear_count = clear_part (λ n. n.count) (λ v n. refl) (λ v n. refl) (λ v n. refl) s o C

  -- what is read off them
  pub clear_size : length (run s o) ≡ length s
  clear_size = (clear_same s o C).size

  pub clear_find : (p k : ℕ) → find_in (run s o) p k ≡ find_in s p k
  clear_find = (clear_same s o C).find

  pub clear_got : (p k : ℕ) → get_mut (run s o) p k ≡ get_mut s p k
  unfolding get_mut
  clear_got p k =
      let e = clear_find p k in
      let y = ap (λ (r : ℕ). (node_of (run s o) r).seen) e ∙ clear_seen (find_in s p k) in
      λ i. cond (eqb (y i) 1) (e i) 0

-- depths and arrays on a path go by parents and kinds alone
depth_same : (s s' : List Node) → ((q : ℕ) → (node_of s' q).parent ≡ (node_of s q).parent) → (n r : ℕ)
    → depth_up n s' r ≡ depth_up n s r
unfolding depth_up
depth_same s s' e zero r = refl
depth_same s s' e (suc n) r =
    ap (λ (x : ℕ). cond (leb r 1) 0 (suc x)) (ap (depth_up n s') (e r) ∙ depth_same s s' e n (node_of s r).parent)

arrays_same : (s s' : List Node) → ((q : ℕ) → (node_of s' q).parent ≡ (node_of s q).parent)
    → ((q : ℕ) → (node_of s' q).kind ≡ (node_of s q).kind) → (n r : ℕ) → arrays_up n s' r ≡ arrays_up n s r
unfolding arrays_up
arrays_same s s' e k zero r = refl
arrays_same s s' e k (suc n) r =
    let up = ap (arrays_up n s') (e r) ∙ arrays_same s s' e k n (node_of s r).parent in
    λ i. cond (eqb r 0) 0 (cond (eqb (k r i) kind_array) 1 0 + up i)

module _ (s : List Node) (o : Operation) (C : Clears o) (r : ℕ) where
  pub clear_depth : depth_of (run s o) r ≡ depth_of s r
  unfolding depth_of
  clear_depth = depth_same s (run s o) (clear_parent s o C) r r

  pub clear_arrays : arrays_in_path (run s o) r ≡ arrays_in_path s r
  unfolding arrays_in_path
  clear_arrays = arrays_same s (run s o) (clear_parent s o C) (clear_kind s o C) r r
