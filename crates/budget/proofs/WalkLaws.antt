-- Taking the cost of all below a record and of the record itself off what is left, one child a turn.
use Prim.Native.Nat.{ℕ, suc, ◌+◌, ◌-◌, ◌≤◌, ◌<◌}
use mathlib.Core.Path.{◌≡◌, refl, sym, ap, ◌∙◌}
use mathlib.Core.Bool.{Bool, true, false, cond, ◌&&◌}
use mathlib.Core.Logic.{inl, inr}
use mathlib.Core.List.{List, [], ◌∷◌}
use native.Mathlib.Numerals.{add-one}
use native.Mathlib.Omega.{arith}
use lib.Dec.{leb}
use lib.ListN.{length}
use borrow.Author.Tests.{eq-eqb, ne_eqb, le-leb, lt-leb, leb-true, leb-false}
use Rattle.limits.specs.Limits.{depth_max}
use Rattle.facts.specs.Table.{child_of}
use Rattle.facts.specs.Links.{In, Kid}
use Rattle.facts.specs.State.{Node, nodes, node_of, kids_in}
use Rattle.facts.proofs.Encode.{length_nodes}
use Rattle.paths.specs.Shape.{Shaped}
use Rattle.paths.proofs.Chaining.{left_kid, left_all, left_none}
use Rattle.list.specs.Seen.{seen_ones, last_from, last_key, last_word}
use Rattle.list.specs.Walk.{sum_of, all_of, spend_below, shallow_below}
use Rattle.list.proofs.ChildrenLaws.{seen_yes, seen_no}
use Rattle.budget.specs.Below.{leaves, budget_below, Paid}
use Rattle.std.specs.Prelude.{Some, None}
use Rattle.std.specs.declared.option.Option.{Option}
use Rattle.budget.proofs.LevelLaws.{spend_is, shallow_is}
use Rattle.budget.proofs.KidLaws.{Child, kid_child}

-- a first sum and a second one
module _ (b : Bool) (sum left : ℕ) where
  -- what is over after the first stays over
  leaves_over : (a : Bool) (g : ℕ) → leaves a g left ≡ None → leaves (a && b) (g + sum) left ≡ None
  unfolding leaves
  leaves_over false g e = refl
  leaves_over true g e = go (leb g left) refl e
    where
      go : (y : Bool) → leb g left ≡ y → cond y (Some (left - g)) None ≡ None → cond (b && leb (g + sum) left) (Some (left - (g + sum))) None ≡ None
      go true q x = let z : ◌≡◌ {A = ℕ} 0 1 = cc in absurd (omega arith)
      go false q x = none b
        where
          none : (b : Bool) → cond (b && leb (g + sum) left) (Some (left - (g + sum))) None ≡ None
          none true = let h = leb-false g left q in rw (lt-leb (g + sum) left (omega arith)) refl
          none false = refl

  -- the second is taken off what the first leaves
  leaves_left : (a : Bool) (g x : ℕ) → leaves a g left ≡ Some x → leaves (a && b) (g + sum) left ≡ leaves b sum x
  unfolding leaves
  leaves_left false g x e = let z : ◌≡◌ {A = ℕ} 0 1 = cc in absurd (omega arith)
  leaves_left true g x e = go (leb g left) refl e
    where
      go : (y : Bool) → leb g left ≡ y → cond y (Some (left - g)) None ≡ Some x
          → cond (b && leb (g + sum) left) (Some (left - (g + sum))) None ≡ cond (b && leb sum x) (Some (x - sum)) None
      go false q w = let z : ◌≡◌ {A = ℕ} 0 1 = cc in absurd (omega arith)
      go true q w = both b (leb sum x) refl
        where
          is : left - g ≡ x
          is = cc

          both : (b y : Bool) → leb sum x ≡ y → cond (b && leb (g + sum) left) (Some (left - (g + sum))) None ≡ cond (b && leb sum x) (Some (x - sum)) None
          both false y p = refl
          both true true p =
              let h = leb-true g left q in let k = leb-true sum x p in let e = is in
              let v : left - (g + sum) ≡ x - sum = omega arith in
              rw (le-leb (g + sum) left (omega arith), p) (ap Some v)
          both true false p =
              let h = leb-true g left q in let k = leb-false sum x p in let e = is in
              rw (lt-leb (g + sum) left (omega arith), p) refl

pub leaves_some : (g left : ℕ) → g ≤ left → leaves true g left ≡ Some (left - g)
unfolding leaves
leaves_some g left h = rw (le-leb g left h) refl

pub leaves_none : (g left : ℕ) → left < g → leaves true g left ≡ None
unfolding leaves
leaves_none g left h = rw (lt-leb g left h) refl

leaves_deep : (g left : ℕ) → leaves false g left ≡ None
unfolding leaves
leaves_deep g left = refl

-- what children of a fact at that depth leave of a number
unfoldable pub kids_leave : List Node → ℕ → List ℕ → ℕ → Option ℕ
kids_leave s depth ns left = leaves (all_of (shallow_below (length s) s (suc depth)) ns) (sum_of (spend_below (length s) s) ns) left

-- one child after the other
module _ (s : List Node) (depth c : ℕ) (ns : List ℕ) (rest : ℕ) where
  first_over : budget_below s c (depth + 1) rest ≡ None → kids_leave s depth (c ∷ ns) rest ≡ None
  unfolding kids_leave budget_below
  first_over e = leaves_over (all_of (shallow_below (length s) s (suc depth)) ns) (sum_of (spend_below (length s) s) ns) rest _ _ (rw add-one at e)

  first_left : (x : ℕ) → budget_below s c (depth + 1) rest ≡ Some x → kids_leave s depth (c ∷ ns) rest ≡ kids_leave s depth ns x
  unfolding kids_leave budget_below
  first_left x e = leaves_left (all_of (shallow_below (length s) s (suc depth)) ns) (sum_of (spend_below (length s) s) ns) rest _ _ x (rw add-one at e)

and_last : (b : Bool) → b ≡ b && true
and_last true = refl
and_last false = refl

-- no more is left than before
leaves_most : (b : Bool) (sum left x : ℕ) → leaves b sum left ≡ Some x → x ≤ left
unfolding leaves
leaves_most b sum left x = go (b && leb sum left)
  where
    go : (b : Bool) → cond b (Some (left - sum)) None ≡ Some x → x ≤ left
    go true e = let q : left - sum ≡ x = cc in omega arith
    go false e = absurd (cc)

-- a fact of a state, standing at a depth
module _ (s : List Node) (r depth left : ℕ) (r1 : 1 ≤ r) (rl : r ≤ length s) where
  unseen_leaves : ((node_of s r).seen ≡ 1 → ⊥) → budget_below s r depth left ≡ Some left
  unfolding budget_below
  unseen_leaves n =
      let q = ne_eqb (node_of s r).seen 1 n in
      let a : shallow_below (length s) s depth r ≡ true = shallow_is s r r1 rl depth ∙ rw q refl in
      let b : spend_below (length s) s r ≡ 0 = spend_is s r r1 rl ∙ rw q refl in
      let w : left - 0 ≡ left = omega arith in
      rw (a, b) (leaves_some 0 left (omega arith)) ∙ ap Some w

  module _ (o : (node_of s r).seen ≡ 1) where
    deep_leaves : depth_max < depth → budget_below s r depth left ≡ None
    unfolding budget_below
    deep_leaves h =
        let a : shallow_below (length s) s depth r ≡ false =
        shallow_is s r r1 rl depth ∙ rw (eq-eqb (node_of s r).seen 1 o, lt-leb depth depth_max h) refl in
        rw a (leaves_deep (spend_below (length s) s r) left)

    module _ (h : depth ≤ depth_max) where
      -- the cost of the children is taken, and then the record's own
      kids_first : budget_below s r depth left
          ≡ leaves (all_of (shallow_below (length s) s (suc depth)) (kids_in s r) && true) (sum_of (spend_below (length s) s) (kids_in s r) + suc (last_word s r)) left
      unfolding budget_below
      kids_first =
          let q = eq-eqb (node_of s r).seen 1 o in
          let a : shallow_below (length s) s depth r ≡ all_of (shallow_below (length s) s (suc depth)) (kids_in s r) && true =
          shallow_is s r r1 rl depth ∙ (rw (q, le-leb depth depth_max h) (and_last (all_of (shallow_below (length s) s (suc depth)) (kids_in s r)))) in
          let b : spend_below (length s) s r ≡ suc (last_word s r) + sum_of (spend_below (length s) s) (kids_in s r) = spend_is s r r1 rl ∙ rw q refl in
          let d : suc (last_word s r) + sum_of (spend_below (length s) s) (kids_in s r) ≡ sum_of (spend_below (length s) s) (kids_in s r) + suc (last_word s r) = omega arith in
          (λ i. leaves (a i) ((b ∙ d) i) left)

      kids_over : kids_leave s depth (kids_in s r) left ≡ None → budget_below s r depth left ≡ None
      unfolding kids_leave
      kids_over e = kids_first ∙ leaves_over true (suc (last_word s r)) left _ _ e

      own_last : (rest : ℕ) → kids_leave s depth (kids_in s r) left ≡ Some rest → budget_below s r depth left ≡ leaves true (suc (last_word s r)) rest
      unfolding kids_leave
      own_last rest k = kids_first ∙ leaves_left true (suc (last_word s r)) left _ _ rest k

-- a walk of r's children has ns before it: what is left for them gives what all of them leave, and the last key so far
-- the last of all
pub record Paying (s : List Node) (r depth left rest last : ℕ) (ns : List ℕ) : Type 0 where
  pub kids : (m : ℕ) → In m ns → In m (kids_in s r)
  pub same : kids_leave s depth ns rest ≡ kids_leave s depth (kids_in s r) left
  pub key : last_from s last (seen_ones s ns) ≡ last_key s r
  pub most : rest ≤ left

pub paying_start : (s : List Node) (r depth left : ℕ) (ns : List ℕ) → ns ≡ kids_in s r → Paying s r depth left left 0 ns
paying_start s r depth left ns e = rw e (record { kids = λ m i. i; same = refl; key = refl; most = omega arith })

module _ {s : List Node} {r depth left rest last : ℕ} {ms : List ℕ} (I : Paying s r depth left rest last ms) (e : ms ≡ []) where
  pub paying_last : last ≡ last_key s r
  unfolding seen_ones last_from
  paying_last = rw e at I.key

  -- all children are paid
  all_paid : kids_leave s depth (kids_in s r) left ≡ Some rest
  unfolding kids_leave
  all_paid =
      let x : rest - 0 ≡ rest = omega arith in
      sym (rw e at I.same) ∙ leaves_some 0 rest (omega arith) ∙ ap Some x

  module _ (r1 : 1 ≤ r) (rl : r ≤ length s) (h : depth ≤ depth_max) (o : (node_of s r).seen ≡ 1) {w : ℕ} (q : w ≡ last_word s r) where
    -- the record itself comes last
    own_cost : budget_below s r depth left ≡ leaves true (suc w) rest
    own_cost = own_last s r depth left r1 rl o h rest all_paid ∙ ap (λ (y : ℕ). leaves true (suc y) rest) (sym q)

    pub paying_done : {x : ℕ} → Some x ≡ leaves true (suc w) rest → Paid s r depth left (Some (record { left = x; last_word = w }))
    paying_done {x} f = (own_cost ∙ sym f, (let a = leaves_most true (suc w) rest x (sym f) in let b = I.most in omega arith), q)

    pub paying_none : None ≡ leaves true (suc w) rest → Paid s r depth left None
    paying_none f = own_cost ∙ sym f

-- c is the next child, and stands one level deeper
module _ {s : List Node} {r depth left rest last : ℕ} {ms : List ℕ} (I : Paying s r depth left rest last ms) {c : ℕ} {ns : List ℕ} (is : ms ≡ c ∷ ns) where
  paying_kid : In c (kids_in s r)
  paying_kid = I.kids c (rw is (inl refl))

  child : Child s r c
  child = kid_child s r c paying_kid

  child_some : 1 ≤ c
  child_some = let a = child.above in omega arith

  whole : kids_leave s depth (c ∷ ns) rest ≡ kids_leave s depth (kids_in s r) left
  whole = ap (λ (ls : List ℕ). kids_leave s depth ls rest) (sym is) ∙ I.same

  after : (rest' last' : ℕ) → budget_below s c (depth + 1) rest ≡ Some rest' → rest' ≤ rest
      → last_from s last' (seen_ones s ns) ≡ last_key s r → Paying s r depth left rest' last' ns
  after rest' last' b m k = record {
    kids = λ m i. I.kids m (rw is (inr i));
    same = sym (first_left s depth c ns rest rest' b) ∙ whole;
    key = k;
    most = let m' = I.most in omega arith;
  }

  -- an unseen child costs nothing
  pub paying_unseen : ((node_of s c).seen ≡ 1 → ⊥) → Paying s r depth left rest last ns
  paying_unseen o =
      let z : seen_ones s ms ≡ seen_ones s ns = ap (seen_ones s) is ∙ seen_no s c ns o in
      after rest last (unseen_leaves s c (depth + 1) rest child_some child.within o) (omega arith) (rw z at I.key)

  module _ (o : (node_of s c).seen ≡ 1) where
    -- a seen one, too deep
    pub cost_deep : depth ≡ depth_max → budget_below s c (depth + 1) rest ≡ None
    cost_deep d = deep_leaves s c (depth + 1) rest child_some child.within o (omega arith)

    -- with no child of its own
    module _ (d : depth ≤ depth_max) (e : depth ≡ depth_max → ⊥) (f : kids_in s c ≡ []) {w : ℕ} (q : w ≡ last_word s c) where
      cost_leaf : budget_below s c (depth + 1) rest ≡ leaves true (suc w) rest
      cost_leaf = own_cost (paying_start s c (depth + 1) rest [] (sym f)) refl child_some child.within (omega arith) o q

      pub leaf_left : {x : ℕ} → Some x ≡ leaves true (suc w) rest → (budget_below s c (depth + 1) rest ≡ Some x) × (x ≤ rest)
      leaf_left {x} h = (cost_leaf ∙ sym h, leaves_most true (suc w) rest x (sym h))

      pub leaf_over : None ≡ leaves true (suc w) rest → budget_below s c (depth + 1) rest ≡ None
      leaf_over h = cost_leaf ∙ sym h

    -- it is over, and so is the record
    pub paying_over : 1 ≤ r → depth ≤ depth_max → (node_of s r).seen ≡ 1 → budget_below s c (depth + 1) rest ≡ None → Paid s r depth left None
    paying_over r1 h z x =
        let a = child.above in let b = child.within in
        kids_over s r depth left r1 (omega arith) z h (sym whole ∙ first_over s depth c ns rest x)

    pub paying_seen : {x : ℕ} → (budget_below s c (depth + 1) rest ≡ Some x) × (x ≤ rest) → {rest' last' : ℕ} → rest' ≡ x → last' ≡ (node_of s c).key
        → Paying s r depth left rest' last' ns
    unfolding last_from
    paying_seen {x} C p q =
        let z : seen_ones s ms ≡ c ∷ seen_ones s ns = ap (seen_ones s) is ∙ seen_yes s c ns o in
        rw (p, q) (after x (node_of s c).key C.0 C.1 (rw z at I.key))

pub kid_range : {t : List ℕ} {u r c : ℕ} → Kid t u r c → (1 ≤ c) × (c ≤ u)
kid_range K = (let a = K.above in omega arith, K.used)

-- numbers of a table's records
module _ (t : List ℕ) (u : ℕ) where
  pub in_state : {r : ℕ} → r ≤ u → r ≤ length (nodes t u)
  in_state h = let l = length_nodes t u in omega arith

  module _ {r depth left rest last : ℕ} {ms : List ℕ} (I : Paying (nodes t u) r depth left rest last ms) {c : ℕ} {ns : List ℕ} (is : ms ≡ c ∷ ns) where
    pub child_above : r < c
    child_above = (left_kid t u r c (paying_kid I is)).above

    pub child_range : (1 ≤ c) × (c ≤ u)
    child_range = (let a = child_above in omega arith, (left_kid t u r c (paying_kid I is)).used)

    -- with an empty chain it has no children
    pub childless : {N : ℕ} → Shaped t u N → {d : ℕ} → d ≡ child_of t c → d ≡ 0 → kids_in (nodes t u) c ≡ []
    childless S {d} e z = sym (left_all t u c S.linked child_range.0 child_range.1 d e) ∙ left_none t u c S.linked child_range.0 child_range.1 d z
