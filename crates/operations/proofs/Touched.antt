-- A node at one path changed, field by field: nothing else changes but on the way to it.
use Prim.Native.Nat.{ℕ, ◌≤◌, ◌<◌}
use mathlib.Core.Path.{◌≡◌, ap, ◌∙◌, subst}
use mathlib.Core.Bool.{Bool, true, false, cond}
use mathlib.Core.List.{List, [], ◌∷◌, ◌++◌}
use native.Mathlib.Omega.{arith}
use lib.ListN.{length}
use Rattle.limits.specs.Fields as field
use Rattle.facts.specs.State.{Node, node_of}
use Rattle.paths.specs.Update.{update}
use Rattle.paths.specs.Find.{find_in, get_mut}
use Rattle.paths.specs.Make.{ensure, make_seen, get_or_create}
use Rattle.paths.specs.Order.{Ordered}
use Rattle.paths.specs.Path.{path_of}
use Rattle.paths.specs.Changes.{Toward, ChangesOnly}
use Rattle.paths.proofs.Kept.{seen_keeps}
use Rattle.paths.proofs.Reach.{ordered_update, ordered_ensure, ensure_node}
use Rattle.paths.proofs.Lookups.{found_node, found_above, got_node, ensure_above}
use Rattle.paths.proofs.PathLaws.{Stands, root_stands, child_path}
use Rattle.paths.proofs.Changing.{changes_none, changes_then, stands_after, node_same}
use Rattle.paths.proofs.Changing.{only_update, only_ensure, only_seen, ensure_stands}

-- what changes at one path and on the way to it is ordered still
pub record Frames (path : List ℕ) (s t : List Node) : Type 0 where
  pub ordered : Ordered t
  pub only : ChangesOnly path s t

-- and r, which is not the root, is the node at that path
pub record Touches (path : List ℕ) (s t : List Node) (r : ℕ) : Type 0 where
  pub ordered : Ordered t
  pub only : ChangesOnly path s t
  pub stands : Stands t path r
  pub above : 1 < r

module _ (path : List ℕ) where
  pub only_none : (s : List Node) → ChangesOnly path s s
  only_none = changes_none (Toward path) (λ p. p ≡ path)

  pub only_then : (s t u : List Node) → ChangesOnly path s t → ChangesOnly path t u → ChangesOnly path s u
  only_then = changes_then (Toward path) (λ p. p ≡ path)

  pub frames_none : (s : List Node) → Ordered s → Frames path s s
  frames_none s O = record { ordered = O; only = only_none s }

  pub frames_then : (s t u : List Node) → Frames path s t → Frames path t u → Frames path s u
  frames_then s t u A B = record { ordered = B.ordered; only = only_then s t u A.only B.only }

  pub frames_cond : (s : List Node) (b : Bool) (x y : List Node) → Frames path s x → Frames path s y
      → Frames path s (cond b x y)
  frames_cond s true x y A B = A
  frames_cond s false x y A B = B

  -- the root is as it was
  pub only_root : (s t : List Node) → 1 ≤ length s → ChangesOnly path s t → node_of t 1 ≡ node_of s 1
  only_root s t h C =
      node_same (Toward path) (λ p. p ≡ path) s t C [] (λ T. T.not_root (λ i. [])) 1 (root_stands s h)

  module _ (s : List Node) (r : ℕ) where
    pub framed : (t : List Node) → Touches path s t r → Frames path s t
    framed t T = record { ordered = T.ordered; only = T.only }

    -- a change at the path goes on from what was changed there
    goes_on : (t u : List Node) → Touches path s t r → Ordered u → ChangesOnly (path_of t r) t u → Touches path s u r
    goes_on t u T O C =
        let D = subst (λ (x : List ℕ). ChangesOnly x t u) T.stands.path C in
        record {
          ordered = O;
          only = only_then s t u T.only D;
          stands = stands_after (Toward path) (λ p. p ≡ path) t u D path r T.stands;
          above = T.above;
        }

    pub touch_update : (t : List Node) (f v : ℕ) → Touches path s t r → Touches path s (update t r f v) r
    touch_update t f v T =
        goes_on t (update t r f v) T (ordered_update t r f v T.ordered)
        (only_update t T.ordered r f v T.above T.stands.within)

    -- two fields
    pub touch_twice : (t : List Node) (f v g w : ℕ) → Touches path s t r
        → Touches path s (update (update t r f v) r g w) r
    touch_twice t f v g w T = touch_update (update t r f v) g w (touch_update t f v T)

    pub touch_seen : (t : List Node) → (node_of t 1).seen ≡ 1 → Touches path s t r → Touches path s (make_seen t r) r
    touch_seen t y T =
        goes_on t (make_seen t r) T
        (seen_keeps Ordered (λ x q O. ordered_update x q field.seen 1 O) t r T.ordered)
        (only_seen t T.ordered y r T.stands.within)

    pub touch_cond : (b : Bool) (x y : List Node) → Touches path s x r → Touches path s y r
        → Touches path s (cond b x y) r
    touch_cond true x y A B = A
    touch_cond false x y A B = B

-- a record that is there
pub touch_record : (s : List Node) → Ordered s → (r : ℕ) → 1 < r → r ≤ length s → Touches (path_of s r) s s r
touch_record s O r r1 rs = record {
  ordered = O;
  only = only_none (path_of s r) s;
  stands = record { from = omega arith; within = rs; path = λ i. path_of s r };
  above = r1;
}

-- the path of p with the key k at its end: got, made, made seen
module _ (s : List Node) (O : Ordered s) (p k : ℕ) (p1 : 1 ≤ p) (ps : p ≤ length s) where
  pub touch_got : (get_mut s p k ≡ 0 → ⊥) → Touches (path_of s p ++ k ∷ []) s s (get_mut s p k)
  touch_got n =
      let G = got_node s p k n in
      let N = found_node s p k G.there in
      let a = found_above s p k O p1 G.there in
      rw G.same (subst (λ (x : List ℕ). Touches x s s (find_in s p k))
      (child_path s O p k (find_in s p k) a N.high N.parent N.key)
      (touch_record s O (find_in s p k) a N.high))

  pub touch_ensure : Touches (path_of s p ++ k ∷ []) s (ensure s p k).state (ensure s p k).number
  touch_ensure = record {
    ordered = ordered_ensure s p k O p1 ps;
    only = only_ensure s O p k p1 ps;
    stands = ensure_stands s O p k p1 ps;
    above = ensure_above s p k O p1;
  }

  module _ (y : (node_of s 1).seen ≡ 1) where
    -- the root is seen in what is made
    pub ensure_root : (node_of (ensure s p k).state 1).seen ≡ 1
    ensure_root = ap (λ (n : Node). n.seen) (ensure_node s p k 1 (omega arith) O.some) ∙ y

    pub touch_create : Touches (path_of s p ++ k ∷ []) s (get_or_create s p k).state (get_or_create s p k).number
    unfolding get_or_create
    touch_create =
        touch_seen (path_of s p ++ k ∷ []) s (ensure s p k).number (ensure s p k).state ensure_root touch_ensure
