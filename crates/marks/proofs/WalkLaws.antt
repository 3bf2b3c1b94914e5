-- The walk that clears a record and all below it, one child a turn.
use Prim.Native.Nat.{ℕ, ◌+◌, ◌≤◌, ◌<◌}
use mathlib.Core.Path.{◌≡◌, sym, ap, ◌∙◌}
use mathlib.Core.Bool.{true, ◌||◌}
use mathlib.Core.Logic.{⊎_elim}
use mathlib.Core.List.{List}
use native.Mathlib.Omega.{arith}
use native.Mathlib.Nat.{eq-or-lt_of_le}
use lib.Dec.{leb}
use lib.ListN.{length}
use borrow.Author.Tests.{ne_eqb}
use Rattle.limits.specs.Confidences.{by_range}
use Rattle.limits.specs.Codes as code
use Rattle.limits.specs.Fields as field
use Rattle.facts.specs.Table.{key_of, parent_of, next_of}
use Rattle.facts.specs.Links.{Kid}
use Rattle.facts.specs.Linked.{First}
use Rattle.facts.specs.State.{Node, nodes, node_of}
use Rattle.facts.specs.Fact.{is_bare}
use Rattle.facts.specs.Checks.{is_record}
use Rattle.facts.proofs.Chains.{top, key_le}
use Rattle.facts.proofs.Encode.{length_nodes, nodes_get}
use Rattle.facts.proofs.Whole.{fact_parts, bare_zeros}
use Rattle.paths.specs.Shape.{Shaped}
use Rattle.paths.specs.Update.{with_field}
use Rattle.paths.specs.Represents.{Represents}
use Rattle.paths.proofs.Reach.{shaped_ordered}
use Rattle.paths.proofs.Walk.{left}
use Rattle.paths.proofs.Tail.{next_less}
use Rattle.marks.specs.Names.{is_range}
use Rattle.marks.specs.Hints.{without_range, clear_range_hints}
use Rattle.marks.specs.Dropping.{drop_range}
use Rattle.marks.specs.Below.{ClearsBelow}
use Rattle.marks.proofs.NameLaws.{case_no}
use Rattle.marks.proofs.BelowLaws.{Either, either_key, either_parent, Child, Partly, partly_next}
use Rattle.marks.proofs.BelowLaws.{partly_done, all_cleared}

-- the walk has come to c: the branches of the children with keys below low are cleared, and t₁ is the table that it
-- began with
pub record Clearing (t₁ : List ℕ) (used N p : ℕ) (t : List ℕ) (c : ℕ) : Type 0 where
  pub begun : Shaped t₁ used N
  pub shaped : Shaped t used N
  pub low : ℕ
  pub first : First t used p low c
  pub partly : Partly (nodes t₁ used) p low (nodes t used)

module _ (t : List ℕ) (u k : ℕ) (k1 : 1 ≤ k) (ku : k ≤ u) where
  key_at : (node_of (nodes t u) k).key ≡ key_of t k
  key_at = ap (λ (n : Node). n.key) (nodes_get t u k k1 ku)

  parent_at : (node_of (nodes t u) k).parent ≡ parent_of t k
  parent_at = ap (λ (n : Node). n.parent) (nodes_get t u k k1 ku)

  -- a node that is as it was but for its name has its key and its parent
  key_kept : (t' : List ℕ) → Either (node_of (nodes t u) k) (node_of (nodes t' u) k) → key_of t' k ≡ key_of t k
  key_kept t' e =
      sym (ap (λ (n : Node). n.key) (nodes_get t' u k k1 ku)) ∙ either_key (node_of (nodes t u) k) (node_of (nodes t' u) k) e ∙ key_at

  parent_kept : (t' : List ℕ) → Either (node_of (nodes t u) k) (node_of (nodes t' u) k) → parent_of t' k ≡ parent_of t k
  parent_kept t' e =
      sym (ap (λ (n : Node). n.parent) (nodes_get t' u k k1 ku)) ∙ either_parent (node_of (nodes t u) k) (node_of (nodes t' u) k) e ∙ parent_at

module _ (t₁ : List ℕ) (used N p : ℕ) (t : List ℕ) (c : ℕ) (C : Clearing t₁ used N p t c) (p1 : 1 ≤ p) where
  kept : (k : ℕ) → 1 ≤ k → k ≤ used → Either (node_of (nodes t₁ used) k) (node_of (nodes t used) k)
  kept k k1 ku = C.partly.either k k1 (let l = length_nodes t₁ used in omega arith)

  -- a child in the state is one in the table
  child_kid : (k : ℕ) → Child (nodes t₁ used) p k → Kid t used p k
  child_kid k K =
      let l = length_nodes t₁ used in
      let ku : k ≤ used = omega (arith, K.most) in
      let e : parent_of t k ≡ p = parent_kept t₁ used k K.from ku t (kept k K.from ku) ∙ sym (parent_at t₁ used k K.from ku) ∙ K.parent in
      record { above = higher k K.from ku e; used = ku; parent = e }
    where
      higher : (k : ℕ) → 1 ≤ k → k ≤ used → parent_of t k ≡ p → p < k
      higher k k1 ku e = ⊎_elim
          (λ (q : 1 ≡ k). let z = ap (λ (x : ℕ). parent_of t x) q in let r = C.shaped.root_parent in absurd (omega arith))
          (λ (l : 1 < k). let h = C.shaped.linked.up k l ku in omega arith)
          (eq-or-lt_of_le k1)

  key_is : (k : ℕ) → 1 ≤ k → k ≤ used → key_of t k ≡ (node_of (nodes t₁ used) k).key
  key_is k k1 ku = key_kept t₁ used k k1 ku t (kept k k1 ku) ∙ sym (key_at t₁ used k k1 ku)

  kid_child : (k : ℕ) → Kid t used p k → Child (nodes t₁ used) p k
  kid_child k K =
      let l = length_nodes t₁ used in
      let k1 : 1 ≤ k = omega (arith, K.above) in
      record {
        from = k1;
        most = let h = K.used in omega arith;
        parent = parent_at t₁ used k k1 K.used ∙ sym (parent_kept t₁ used k k1 K.used t (kept k k1 K.used)) ∙ K.parent;
      }

  -- the branch of c has been cleared
  module _ (n : c ≡ 0 → ⊥) (t' : List ℕ) (S : Shaped t' used N) (D : ClearsBelow (nodes t used) c (nodes t' used)) where
    kid : Kid t used p c
    kid = C.first.kid n

    c1 : 1 ≤ c
    c1 = omega (arith, kid.above)

    same : Either (node_of (nodes t used) c) (node_of (nodes t' used) c)
    same = D.either c c1 (let l = length_nodes t used in omega (arith, kid.used))

    kid' : Kid t' used p c
    kid' = record { above = kid.above; used = kid.used; parent = parent_kept t used c c1 kid.used t' same ∙ kid.parent }

    pub clearing_less : (c' : ℕ) → p ≤ used → c' ≡ next_of t' c → left (top t₁) c' (key_of t' c') < left (top t₁) c (key_of t c)
    clearing_less c' pu e =
        let q = key_kept t used c c1 kid.used t' same in
        let h : key_of t' c ≤ top t₁ = rw (q, key_kept t₁ used c c1 kid.used t (kept c c1 kid.used)) (key_le t₁ c) in
        rw q at (next_less t' used p (top t₁) c c' S.linked p1 pu kid' h e)

    pub clearing_next : (c' : ℕ) → c' ≡ next_of t' c → Clearing t₁ used N p t' c'
    clearing_next c' e =
        let q : key_of t' c ≡ (node_of (nodes t₁ used) c).key = key_kept t used c c1 kid.used t' same ∙ key_is c c1 kid.used in
        let f : First t' used p (key_of t' c + 1) c' = rw e (S.linked.next p c p1 kid') in
        record {
          begun = C.begun;
          shaped = S;
          low = (node_of (nodes t₁ used) c).key + 1;
          first = rw q at f;
          partly = partly_next (nodes t₁ used) p C.low (nodes t used) (shaped_ordered t₁ used N C.begun) C.partly c (nodes t' used) (kid_child c kid)
              (let a = key_is c c1 kid.used in let b = C.first.from n in omega arith)
              (λ k K h. let J = child_kid k K in
              let a = key_is c c1 kid.used in
              let b = key_is k K.from J.used in
              let m = C.first.least k J (omega arith) in
              omega arith)
              (λ k K h. let J = child_kid k K in
              C.shaped.linked.distinct p k c p1 J kid (key_is k K.from J.used ∙ h ∙ sym (key_is c c1 kid.used)))
              D;
        }

  pub clearing_done : (t₀ : List ℕ) → p ≤ used → c ≡ 0 → Shaped t₀ used N → Represents t₁ used N (drop_range (nodes t₀ used) p) → ClearsBelow (nodes t₀ used) p (nodes t used)
  clearing_done t₀ pu z S₀ H =
      let l = length_nodes t₀ used in
      let l₁ = length_nodes t₁ used in
      let e = H.state in
      let O = shaped_ordered t₁ used N C.begun in
      let all : (k : ℕ) → Child (nodes t₁ used) p k → (node_of (nodes t₁ used) k).key < C.low = λ k K.
      let J = child_kid k K in let a = key_is k K.from J.used in let b = C.first.none z k J in omega arith in
      partly_done (nodes t₀ used) p C.low (nodes t used) (shaped_ordered t₀ used N S₀) p1 (omega arith)
      (sym (ap length e) ∙ l₁ ∙ sym l) (rw e at O) (rw e at C.partly) (rw e at all)

-- with as many records used
pub below_so : (s : List Node) (p : ℕ) (t : List ℕ) (u v : ℕ) → v ≡ u → ClearsBelow s p (nodes t u) → ClearsBelow s p (nodes t v)
below_so s p t u v e C = rw e C

pub root_cleared : (t t' : List ℕ) (used N : ℕ) → Shaped t used N → Shaped t' used N → ClearsBelow (nodes t used) 1 (nodes t' used)
    → Represents t' used N (clear_range_hints (nodes t used))
root_cleared t t' used N S S' D =
    record { shaped = S'; state = all_cleared (nodes t used) (nodes t' used) (shaped_ordered t used N S) D }

-- an unseen fact has no range name to drop, so that clearing all facts is clearing the seen ones
pub unseen_cleared : (n : Node) → is_record n ≡ true → n.seen ≡ 0 → without_range n ≡ n
unfolding with_field
unseen_cleared n f z =
    let b : is_bare n ≡ true = sym (ap (λ (v : ℕ). leb 1 v || is_bare n) z) ∙ (fact_parts n f).second in
    let e = ne_eqb n.confidence by_range (λ q. let c = (bare_zeros n b).confidence in omega arith) in
    sym (case_no (is_range n) (with_field field.confidence 0 (with_field field.name code.no_name n)) n e)
