-- Demand 3's terms are what the closing asks: an argument is known exactly if the root has a seen child, and no fact
-- lies deeper than 64 exactly if the depths say so.
use Prim.Native.Nat.{ℕ, zero, suc, ◌≤◌, ◌<◌}
use mathlib.Core.Path.{◌≡◌, refl, sym, ap, ◌∙◌}
use mathlib.Core.Bool.{Bool, true, false, true≢false, cond, not, ◌&&◌, ◌||◌, and-eq-true_iff}
use mathlib.Core.Logic.{◌⊎◌, inl, inr}
use mathlib.Core.List.{List, [], ◌∷◌}
use native.Mathlib.Omega.{arith}
use native.Mathlib.Nat.{eq-or-lt_of_le}
use lib.Dec.{eqb, leb}
use lib.ListN.{length, length-append}
use borrow.Author.Tests.{eqb-true, eqb-false, eq-eqb, leb-true, le-leb, lt-leb}
use Rattle.limits.specs.Limits.{depth_max}
use Rattle.facts.specs.Links.{In}
use Rattle.facts.specs.Formed.{Formed}
use Rattle.facts.specs.State.{Node, node_of, kids_in}
use Rattle.paths.specs.Depth.{depth_up, depth_of}
use Rattle.paths.specs.Path.{path_of}
use Rattle.paths.proofs.Reach.{path_of_lem}
use Rattle.paths.proofs.Sounds.{formed_ordered}
use Rattle.paths.proofs.PathLaws.{root_path}
use Rattle.list.specs.Seen.{seen_ones, children_in, is_empty}
use Rattle.list.specs.Budget.{shallow_to, shallow}
use Rattle.budget.proofs.KidLaws.{kid_child, child_kid}
use Rattle.calls.specs.Terms.{Fact, SomeArgument, NoneDeeper}

-- a seen one among them, and one among the seen
some_seen : (s : List Node) (q : ℕ) (ms : List ℕ) → In q ms → (node_of s q).seen ≡ 1 → is_empty (seen_ones s ms) ≡ false
unfolding seen_ones
some_seen s q [] i e = absurd i
some_seen s q (m ∷ ms) i e = go (eqb (node_of s m).seen 1) refl i (λ j. some_seen s q ms j e)
  where
    go : (b : Bool) → eqb (node_of s m).seen 1 ≡ b → (q ≡ m) ⊎ In q ms → (In q ms → is_empty (seen_ones s ms) ≡ false)
        → is_empty (cond b (m ∷ seen_ones s ms) (seen_ones s ms)) ≡ false
    go true h j f = refl
    go false h (inl k) f = absurd (eqb-false (node_of s m).seen 1 h (ap (λ (x : ℕ). (node_of s x).seen) (sym k) ∙ e))
    go false h (inr j) f = f j

record Seen (s : List Node) (ms : List ℕ) : Type 0 where
  one : ℕ
  among : In one ms
  seen : (node_of s one).seen ≡ 1

seen_some : (s : List Node) (ms : List ℕ) → is_empty (seen_ones s ms) ≡ false → Seen s ms
unfolding seen_ones
seen_some s [] e = absurd (true≢false e)
seen_some s (m ∷ ms) e = go (eqb (node_of s m).seen 1) refl e (seen_some s ms)
  where
    go : (b : Bool) → eqb (node_of s m).seen 1 ≡ b → is_empty (cond b (m ∷ seen_ones s ms) (seen_ones s ms)) ≡ false → (is_empty (seen_ones s ms) ≡ false → Seen s ms)
        → Seen s (m ∷ ms)
    go true h q f = record { one = m; among = inl refl; seen = eqb-true (node_of s m).seen 1 h }
    go false h q f = let S = f q in record { one = S.one; among = inr S.among; seen = S.seen }

module _ (s : List Node) (F : Formed s) where
  -- from a fact up to the root's child that begins its path
  climb : (n r : ℕ) → r ≤ n → 1 < r → Fact s r → is_empty (children_in s 1) ≡ false
  climb zero r rn l f = absurd (omega arith)
  climb (suc n) r rn l f = go (eq-or-lt_of_le (F.lower r l f.within).0) (λ g. climb n (node_of s r).parent (let b = (F.lower r l f.within).1 in omega arith) g (above g))
    where
      above : 1 < (node_of s r).parent → Fact s (node_of s r).parent
      above g = record {
        from = omega arith;
        within = let b = (F.lower r l f.within).1 in let w = f.within in omega arith;
        seen = F.seen_parent r l f.within f.seen;
      }

      go : (1 ≡ (node_of s r).parent) ⊎ (1 < (node_of s r).parent) → (1 < (node_of s r).parent → is_empty (children_in s 1) ≡ false) → is_empty (children_in s 1) ≡ false
      go (inl e) k = some_seen s r (kids_in s 1) (child_kid s 1 r (record { above = l; within = f.within; parent = sym e })) f.seen
      go (inr g) k = k g

  -- "none (the root has no seen child)"; "Some argument is known if a fact isn't the root."
  pub argument_child : SomeArgument s → is_empty (children_in s 1) ≡ false
  argument_child A = climb A.number A.number (omega arith) A.not_root A.fact

  pub child_argument : is_empty (children_in s 1) ≡ false → SomeArgument s
  child_argument e =
      let S = seen_some s (kids_in s 1) e in
      let C = kid_child s 1 S.one S.among in
      let a = C.above in
      record { number = S.one; fact = record { from = omega arith; within = C.within; seen = S.seen }; not_root = a }

  -- the keys of a path, counted from its end
  depth_up_lem : (n r : ℕ) → 1 ≤ r → r ≤ n → r ≤ length s → depth_up n s r ≡ length (path_of s r)
  unfolding depth_up
  depth_up_lem zero r r1 rn rl = absurd (omega arith)
  depth_up_lem (suc n) r r1 rn rl = go (eq-or-lt_of_le r1) (λ l. depth_up_lem n (node_of s r).parent (F.lower r l rl).0 (lower l).0 (lower l).1)
    where
      lower : 1 < r → ((node_of s r).parent ≤ n) × ((node_of s r).parent ≤ length s)
      lower l = let b = (F.lower r l rl).1 in (omega arith, omega arith)

      go : (1 ≡ r) ⊎ (1 < r) → (1 < r → depth_up n s (node_of s r).parent ≡ length (path_of s (node_of s r).parent))
          → cond (leb r 1) 0 (suc (depth_up n s (node_of s r).parent)) ≡ length (path_of s r)
      go (inl e) f = rw (le-leb r 1 (omega arith)) (ap (λ (p : List ℕ). length p) (sym (ap (path_of s) (sym e) ∙ root_path s)))
      go (inr l) f =
          let p = ap (λ (q : List ℕ). length q) (path_of_lem s r (formed_ordered s F) l rl) ∙ length-append (path_of s (node_of s r).parent) ((node_of s r).key ∷ []) in
          let g = f l in
          rw (lt-leb r 1 l) (omega arith)

  depth_path : (r : ℕ) → 1 ≤ r → r ≤ length s → depth_of s r ≡ length (path_of s r)
  unfolding depth_of
  depth_path r r1 rl = depth_up_lem r r r1 (omega arith) rl

  -- "no fact lies deeper than 64"
  shallow_to_lem : (n : ℕ) → n ≤ length s → shallow_to s n ≡ true → (r : ℕ) → r ≤ n → Fact s r → length (path_of s r) ≤ depth_max
  unfolding shallow_to
  shallow_to_lem zero h e r rn f = absurd (let a = f.from in omega arith)
  shallow_to_lem (suc n) h e r rn f =
      let p = (and-eq-true_iff (shallow_to s n) (not (eqb (node_of s (suc n)).seen 1) || leb (depth_of s (suc n)) depth_max)).0 e in
      go (eq-or-lt_of_le rn) (λ l. shallow_to_lem n (omega arith) p.0 r (omega arith) f) p.1
    where
      go : (r ≡ suc n) ⊎ (r < suc n) → (r < suc n → length (path_of s r) ≤ depth_max) → not (eqb (node_of s (suc n)).seen 1) || leb (depth_of s (suc n)) depth_max ≡ true
          → length (path_of s r) ≤ depth_max
      go (inr l) g q = g l
      go (inl i) g q =
          let z : eqb (node_of s (suc n)).seen 1 ≡ true = eq-eqb (node_of s (suc n)).seen 1 (ap (λ (x : ℕ). (node_of s x).seen) (sym i) ∙ f.seen) in
          let l = leb-true (depth_of s (suc n)) depth_max (rw z at q) in
          let d = depth_path r f.from f.within in
          let k = ap (depth_of s) i in
          omega arith

  deeper_to : NoneDeeper s → (n : ℕ) → n ≤ length s → shallow_to s n ≡ true
  unfolding shallow_to
  deeper_to D zero h = refl
  deeper_to D (suc n) h = (λ i. deeper_to D n (omega arith) i && go (eqb (node_of s (suc n)).seen 1) refl i)
    where
      go : (b : Bool) → eqb (node_of s (suc n)).seen 1 ≡ b → not b || leb (depth_of s (suc n)) depth_max ≡ true
      go false e = refl
      go true e =
          let f : Fact s (suc n) = record { from = omega arith; within = h; seen = eqb-true (node_of s (suc n)).seen 1 e } in
          let d = depth_path (suc n) (omega arith) h in
          let l = D (suc n) f in
          le-leb (depth_of s (suc n)) depth_max (omega arith)

  pub shallow_deeper : shallow s ≡ true → NoneDeeper s
  unfolding shallow
  shallow_deeper e r f = shallow_to_lem (length s) (omega arith) e r f.within f

  pub deeper_shallow : NoneDeeper s → shallow s ≡ true
  unfolding shallow
  deeper_shallow D = deeper_to D (length s) (omega arith)
