-- A path made dynamic and then named: where it is found, and what its kind is.
use Prim.Native.Nat.{ℕ}
use mathlib.Core.Path.{◌≡◌, refl, sym, ap, ◌∙◌}
use mathlib.Core.Bool.{Bool, true, false, cond, ◌&&◌, ◌||◌, and-eq-true_iff}
use mathlib.Core.List.{List}
use native.Mathlib.Omega.{arith}
use lib.Dec.{eqb, ltb}
use Rattle.limits.specs.Codes as code
use Rattle.limits.specs.Fields as field
use Rattle.limits.specs.Limits.{kind_dynamic, kind_array}
use Rattle.limits.specs.Confidences.{by_range}
use Rattle.facts.specs.State.{Node, bare, node_of}
use Rattle.paths.specs.Update.{with_field, update}
use Rattle.paths.specs.Find.{find_in}
use Rattle.paths.specs.Make.{Made, ensure, make_seen, get_or_create}
use Rattle.paths.proofs.Reach.{ensure_range, last_node}
use Rattle.paths.proofs.Lookups.{ensure_there, ensure_new}
use Rattle.paths.proofs.Sounds.{update_keeps}
use Rattle.marks.specs.Names.{give_name, is_not_bool, name_at, set_tname}
use Rattle.marks.proofs.Counts.{marked_there, adds_set_tname}
use Rattle.marks.proofs.NameLaws.{stops, keeps, bars}
use Rattle.kinds.specs.Kinds.{give_kind, dynamic_at, set_dynamic}
use Rattle.operations.specs.declared.Operation.TheVariants.{SetTname, SetDynamic}
use Rattle.operations.specs.Run.{run}
use Rattle.operations.proofs.Changes.{adds_dynamic}
use Rattle.operations.proofs.Parts.{Spares, part_update, part_seen}

-- is the node's kind an array's?
abbrev pub is_array : Node → Bool
is_array n = eqb n.kind kind_array

-- a kind set to dynamic leaves an array, and makes none
module _ (s : List Node) (r count : ℕ) where
  array_dynamic : is_array (node_of (dynamic_at s r count) r) ≡ is_array (node_of s r)
  unfolding with_field
  array_dynamic = go (is_array (node_of s r)) refl (eqb (node_of s r).kind kind_dynamic && ltb count (node_of s r).count)
    where
      go : (a : Bool) → is_array (node_of s r) ≡ a → (b : Bool)
          → is_array (node_of (cond a s (cond b s (give_kind s r kind_dynamic count))) r) ≡ is_array (node_of s r)
      go true e b = refl
      go false e true = refl
      go false e false =
          update_keeps (λ n. is_array n ≡ false) (update s r field.kind kind_dynamic) r field.count count r (λ n h. h)
          (update_keeps (λ n. is_array n ≡ false) s r field.kind kind_dynamic r (λ n h. refl) e)
          ∙ sym e

module _ (s : List Node) (r count : ℕ) where
  array_set : is_array (node_of (set_dynamic s r count) r) ≡ is_array (node_of s r)
  unfolding set_dynamic with_field
  array_set = go (eqb r 1)
    where
      seen : is_array (node_of (make_seen s r) r) ≡ is_array (node_of s r)
      seen = ap (λ (kind : ℕ). eqb kind kind_array) (part_seen (λ n. n.kind) s r r (λ v n. refl))

      go : (b : Bool) → is_array (node_of (cond b s (dynamic_at (make_seen s r) r count)) r) ≡ is_array (node_of s r)
      go true = refl
      go false = array_dynamic (make_seen s r) r count ∙ seen

-- a part that neither seen nor a name is part of stays when a name is set
module _ (g : Node → ℕ) (Y : Spares g field.seen) (N : Spares g field.name) (S : Spares g field.confidence) where
  part_given : (s : List Node) (r v w q : ℕ) → g (node_of (give_name s r v w) q) ≡ g (node_of s q)
  part_given s r v w q =
      part_update g (update s r field.name v) r field.confidence w q S ∙ part_update g s r field.name v q N

  part_name_at : (s : List Node) (r v w q : ℕ) → g (node_of (name_at s r v w) q) ≡ g (node_of s q)
  part_name_at s r v w q = go (stops s r w) (keeps s r w)
    where
      go : (a b : Bool) → g (node_of (cond a s (cond b s (give_name s r v w))) q) ≡ g (node_of s q)
      go true b = refl
      go false true = refl
      go false false = part_given s r v w q

  pub part_named : (s : List Node) (p k v w q : ℕ)
      → g (node_of (set_tname s p k v w) q) ≡ g (node_of (ensure s p k).state q)
  unfolding set_tname get_or_create
  part_named s p k v w q = go (bars s p k v w) refl
    where
      m : Made
      m = ensure s p k

      go : (b : Bool) → bars s p k v w ≡ b
          → g (node_of (cond b s (name_at (make_seen m.state m.number) m.number v w)) q) ≡ g (node_of m.state q)
      go true e =
          let marked = ((and-eq-true_iff (eqb v code.bool || eqb w by_range) (is_not_bool s p k)).0 e).1 in
          sym (ap (λ (x : Made). g (node_of x.state q)) (ensure_there s p k (marked_there s p k marked)))
      go false e =
          part_name_at (make_seen m.state m.number) m.number v w q ∙ part_seen g m.state m.number q Y

-- a path that is there keeps its kind and its number when it is named
module _ (s : List Node) (p k name confidence : ℕ) (there : find_in s p k ≡ 0 → ⊥) where
  pub named_kind : (q : ℕ) → (node_of (run s (SetTname p k name confidence)) q).kind ≡ (node_of s q).kind
  unfolding run with_field
  named_kind q =
      part_named (λ n. n.kind) (λ v n. refl) (λ v n. refl) (λ v n. refl) s p k name confidence q
      ∙ ap (λ (x : Made). (node_of x.state q).kind) (ensure_there s p k there)

  pub named_found : find_in (run s (SetTname p k name confidence)) p k ≡ find_in s p k
  unfolding run
  named_found = (adds_set_tname s p k name confidence).find ∙ ap (λ (x : Made). x.number) (ensure_there s p k there)

-- made dynamic: it is there, under the number that it was made under
module _ (s : List Node) (p k count : ℕ) where
  abbrev After : List Node
  After = run s (SetDynamic p k count)

  pub dynamic_found : find_in After p k ≡ (ensure s p k).number
  dynamic_found = (adds_dynamic s p k count).find

  pub dynamic_there : find_in After p k ≡ 0 → ⊥
  dynamic_there z = let e = dynamic_found in let h = (ensure_range s p k).0 in omega arith

  -- and an array exactly if it was one
  pub dynamic_array : is_array (node_of After (ensure s p k).number)
      ≡ is_array (node_of (ensure s p k).state (ensure s p k).number)
  unfolding run
  dynamic_array = array_set (ensure s p k).state (ensure s p k).number count

  pub dynamic_array_there : (find_in s p k ≡ 0 → ⊥)
      → is_array (node_of After (find_in After p k)) ≡ is_array (node_of s (find_in s p k))
  dynamic_array_there n =
      ap (λ (r : ℕ). is_array (node_of After r)) dynamic_found ∙ dynamic_array
      ∙ ap (λ (x : Made). is_array (node_of x.state x.number)) (ensure_there s p k n)

  pub dynamic_array_new : find_in s p k ≡ 0 → is_array (node_of After (find_in After p k)) ≡ false
  dynamic_array_new z =
      ap (λ (r : ℕ). is_array (node_of After r)) dynamic_found ∙ dynamic_array
      ∙ ap (λ (x : Made). is_array (node_of x.state x.number)) (ensure_new s p k z)
      ∙ ap is_array (last_node s (bare p k))

  -- and so it stays when it is named
  module _ (name confidence : ℕ) where
    pub dynamic_named_found : find_in (run After (SetTname p k name confidence)) p k ≡ (ensure s p k).number
    dynamic_named_found = named_found After p k name confidence dynamic_there ∙ dynamic_found

    pub dynamic_named_kind : (q : ℕ) → (node_of (run After (SetTname p k name confidence)) q).kind ≡ (node_of After q).kind
    dynamic_named_kind = named_kind After p k name confidence dynamic_there
