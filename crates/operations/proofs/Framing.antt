-- What an operation leaves alone: nothing changes but at the path that it names and on the way to it.
use Prim.Native.Nat.{ℕ, ◌≤◌, ◌<◌, max}
use mathlib.Core.Path.{◌≡◌, refl, ap, ◌∙◌, subst}
use mathlib.Core.Bool.{Bool, true, false, cond, ◌&&◌, ◌||◌}
use mathlib.Core.List.{List, [], ◌∷◌, ◌++◌}
use native.Mathlib.Omega.{arith}
use lib.Dec.{eqb, ltb}
use lib.ListN.{length}
use borrow.Author.Tests.{eqb-false}
use Rattle.limits.specs.Codes as code
use Rattle.limits.specs.Fields as field
use Rattle.limits.specs.Limits.{kind_dynamic, kind_array}
use Rattle.facts.specs.Formed.{Formed}
use Rattle.facts.specs.State.{Node, node_of}
use Rattle.paths.specs.Update.{update}
use Rattle.paths.specs.Find.{get_mut}
use Rattle.paths.specs.Make.{ensure, make_seen, get_or_create}
use Rattle.paths.specs.Order.{Ordered}
use Rattle.paths.specs.Path.{path_of}
use Rattle.paths.specs.Changes.{ChangesOnly}
use Rattle.paths.proofs.Sounds.{formed_ordered}
use Rattle.paths.proofs.Changing.{root_seen}
use Rattle.marks.specs.Names.{is_range, drop_name, give_name, name_at, set_tname, insert_not_bool, drop_bool_at, drop_bool}
use Rattle.marks.specs.Names.{mark_not_bool}
use Rattle.marks.specs.Hints.{clear_at, clear_range_hint}
use Rattle.marks.proofs.NameLaws.{stops, keeps, bars}
use Rattle.kinds.specs.Kinds.{give_kind, dynamic_at, array_at, set_dynamic, set_array}
use Rattle.operations.specs.declared.Operation.{Operation}
use Rattle.operations.specs.declared.Operation.TheVariants.{Nothing, ClearRangeHint, ClearRangeHints}
use Rattle.operations.specs.declared.Operation.TheVariants.{MarkNotBool, InsertNotBool, GetOrCreate}
use Rattle.operations.specs.declared.Operation.TheVariants.{SetTname, SetDynamic, SetArray}
use Rattle.operations.specs.Run.{dynamic_made, run}
use Rattle.operations.specs.Asks.{Reaches}
use Rattle.operations.specs.Frame.{named_path, AtPath}
use Rattle.operations.proofs.Touched.{Frames, Touches, frames_none, frames_then, frames_cond, only_root}
use Rattle.operations.proofs.Touched.{framed}
use Rattle.operations.proofs.Touched.{touch_update, touch_twice, touch_seen, touch_cond, touch_record}
use Rattle.operations.proofs.Touched.{touch_got, touch_ensure, touch_create, ensure_root}

-- at the node r of that path: a name, a hint, a kind
module _ (path : List ℕ) (s t : List Node) (r : ℕ) (T : Touches path s t r) where
  touch_dropped : Touches path s (drop_name t r) r
  touch_dropped = touch_twice path s r t field.name code.no_name field.confidence 0 T

  touch_named : (name confidence : ℕ) → Touches path s (name_at t r name confidence) r
  touch_named name confidence =
      let G = give_name t r name confidence in
      touch_cond path s r (stops t r confidence) t (cond (keeps t r confidence) t G) T
      (touch_cond path s r (keeps t r confidence) t G T
      (touch_twice path s r t field.name name field.confidence confidence T))

  touch_drop_bool : Touches path s (drop_bool_at t r) r
  touch_drop_bool =
      touch_cond path s r (eqb (node_of t r).name code.bool || is_range (node_of t r)) (drop_name t r) t touch_dropped T

  touch_dynamic : (count : ℕ) → Touches path s (dynamic_at t r count) r
  touch_dynamic count =
      let G = give_kind t r kind_dynamic count in
      let low = eqb (node_of t r).kind kind_dynamic && ltb count (node_of t r).count in
      touch_cond path s r (eqb (node_of t r).kind kind_array) t (cond low t G) T
      (touch_cond path s r low t G T (touch_twice path s r t field.kind kind_dynamic field.count count T))

  touch_array : (count : ℕ) → Touches path s (array_at t r count) r
  touch_array count =
      touch_cond path s r (eqb (node_of t r).kind kind_array && ltb count (node_of t r).count) t
      (give_kind t r kind_array count) T (touch_twice path s r t field.kind kind_array field.count count T)

touch_cleared : (path : List ℕ) (s t : List Node) (r : ℕ) → Touches path s t r → (block : Bool)
    → Touches path s (clear_at t r block) r
touch_cleared path s t r T block =
    let u = update t r field.blocked (max (node_of t r).blocked (cond block 1 0)) in
    let U = touch_update path s r t field.blocked (max (node_of t r).blocked (cond block 1 0)) T in
    touch_cond path s r (is_range (node_of t r)) (drop_name u r) u (touch_dropped path s u r U) U

-- `set_info` of a record; the root stays as it is
module _ (path : List ℕ) (s t : List Node) (r : ℕ) (y : (node_of t 1).seen ≡ 1) (T : Touches path s t r) where
  frames_set_dynamic : (count : ℕ) → Frames path s (set_dynamic t r count)
  unfolding set_dynamic
  frames_set_dynamic count =
      let M = make_seen t r in
      frames_cond path s (eqb r 1) t (dynamic_at M r count) (framed path s r t T)
      (framed path s r (dynamic_at M r count) (touch_dynamic path s M r (touch_seen path s r t y T) count))

  frames_set_array_at : (count : ℕ) → Frames path s (array_at (make_seen t r) r count)
  frames_set_array_at count =
      let M = make_seen t r in
      framed path s r (array_at M r count) (touch_array path s M r (touch_seen path s r t y T) count)

module _ (s : List Node) (O : Ordered s) (y : (node_of s 1).seen ≡ 1) where
  pub frames_set_array : (r count : ℕ) → 1 ≤ r → r ≤ length s → Frames (path_of s r) s (set_array s r count)
  unfolding set_array
  frames_set_array r count r1 rs = go (eqb r 1) refl
    where
      go : (b : Bool) → eqb r 1 ≡ b → Frames (path_of s r) s (cond b s (array_at (make_seen s r) r count))
      go true e = frames_none (path_of s r) s O
      go false e =
          let n = eqb-false r 1 e in
          let l : 1 < r = omega arith in
          frames_set_array_at (path_of s r) s s r y (touch_record s O r l rs) count

-- at the path of p with the key k at its end
module _ (s : List Node) (O : Ordered s) (p k : ℕ) (p1 : 1 ≤ p) (ps : p ≤ length s) where
  abbrev path : List ℕ
  path = path_of s p ++ k ∷ []

  -- where `get_mut` finds it
  frames_got : (x : List Node) → (Touches path s s (get_mut s p k) → Frames path s x)
      → Frames path s (cond (eqb (get_mut s p k) 0) s x)
  frames_got x f = go (eqb (get_mut s p k) 0) refl
    where
      go : (b : Bool) → eqb (get_mut s p k) 0 ≡ b → Frames path s (cond b s x)
      go true e = frames_none path s O
      go false e = f (touch_got s O p k p1 ps (eqb-false (get_mut s p k) 0 e))

  pub frames_clear_range_hint : (block : Bool) → Frames path s (clear_range_hint s p k block)
  unfolding clear_range_hint
  frames_clear_range_hint block =
      let r = get_mut s p k in
      frames_got (clear_at s r block) (λ T. framed path s r (clear_at s r block) (touch_cleared path s s r T block))

  frames_drop_bool : Frames path s (drop_bool s p k)
  frames_drop_bool =
      let r = get_mut s p k in
      frames_got (drop_bool_at s r) (λ T. framed path s r (drop_bool_at s r) (touch_drop_bool path s s r T))

  pub frames_insert_not_bool : Frames path s (insert_not_bool s p k)
  unfolding insert_not_bool
  frames_insert_not_bool =
      let m = ensure s p k in
      framed path s m.number (update m.state m.number field.not_bool 1)
      (touch_update path s m.number m.state field.not_bool 1 (touch_ensure s O p k p1 ps))

  module _ (y : (node_of s 1).seen ≡ 1) where
    pub frames_create : Frames path s (get_or_create s p k).state
    frames_create =
        let m = get_or_create s p k in framed path s m.number m.state (touch_create s O p k p1 ps y)

    pub frames_set_tname : (name confidence : ℕ) → Frames path s (set_tname s p k name confidence)
    unfolding set_tname
    frames_set_tname name confidence =
        let m = get_or_create s p k in
        let N = name_at m.state m.number name confidence in
        frames_cond path s (bars s p k name confidence) s N (frames_none path s O)
        (framed path s m.number N
        (touch_named path s m.state m.number (touch_create s O p k p1 ps y) name confidence))

    pub frames_make_dynamic : (count : ℕ) → Frames path s (dynamic_made (ensure s p k) count)
    frames_make_dynamic count =
        let m = ensure s p k in
        frames_set_dynamic path s m.state m.number (ensure_root s O p k p1 ps y)
        (touch_ensure s O p k p1 ps) count

-- a name is dropped first, and the path of p stays
pub frames_mark_not_bool : (s : List Node) → Ordered s → (p k : ℕ) → 1 ≤ p → p ≤ length s
    → Frames (path_of s p ++ k ∷ []) s (mark_not_bool s p k)
unfolding mark_not_bool
frames_mark_not_bool s O p k p1 ps =
    let D = drop_bool s p k in
    let A = frames_drop_bool s O p k p1 ps in
    let g = A.only.grown in
    frames_then (path_of s p ++ k ∷ []) s D (insert_not_bool D p k) A
    (subst (λ (x : List ℕ). Frames (x ++ k ∷ []) D (insert_not_bool D p k)) (A.only.path p p1 ps)
    (frames_insert_not_bool D A.ordered p k p1 (omega arith)))

-- what an operation needs of the facts: nodes in order, below a root that is seen
pub record Rooted (s : List Node) : Type 0 where
  pub ordered : Ordered s
  pub seen : (node_of s 1).seen ≡ 1

pub formed_rooted : (s : List Node) → Formed s → Rooted s
formed_rooted s F = record { ordered = formed_ordered s F; seen = root_seen s F }

module _ (s : List Node) (H : Rooted s) where
  run_frames : (o : Operation) → Reaches (length s) o → AtPath o → Frames (named_path s o) s (run s o)
  unfolding run
  run_frames Nothing R A = frames_none [] s H.ordered
  run_frames (ClearRangeHint p k block) R A =
      frames_clear_range_hint s H.ordered p k R.from R.to block
  run_frames ClearRangeHints R A = absurd A
  run_frames (MarkNotBool p k) R A = frames_mark_not_bool s H.ordered p k R.from R.to
  run_frames (InsertNotBool p k) R A = frames_insert_not_bool s H.ordered p k R.from R.to
  run_frames (GetOrCreate p k) R A = frames_create s H.ordered p k R.from R.to H.seen
  run_frames (SetTname p k name confidence) R A =
      frames_set_tname s H.ordered p k R.from R.to H.seen name confidence
  run_frames (SetDynamic p k count) R A = frames_make_dynamic s H.ordered p k R.from R.to H.seen count
  run_frames (SetArray r count) R A = frames_set_array s H.ordered H.seen r count R.from R.to

  pub rooted_only : (o : Operation) → Reaches (length s) o → AtPath o → ChangesOnly (named_path s o) s (run s o)
  rooted_only o R A = (run_frames o R A).only

  -- it leaves them so
  pub run_rooted : (o : Operation) → Reaches (length s) o → AtPath o → Rooted (run s o)
  run_rooted o R A =
      let r = only_root (named_path s o) s (run s o) H.ordered.some (rooted_only o R A) in
      record { ordered = (run_frames o R A).ordered; seen = ap (λ (n : Node). n.seen) r ∙ H.seen }

-- nothing changes but the node at the path that it names and those on the way to it, and that path alone may be new
pub run_only : (s : List Node) (o : Operation) → Formed s → Reaches (length s) o → AtPath o
    → ChangesOnly (named_path s o) s (run s o)
run_only s o F R A = rooted_only s (formed_rooted s F) o R A
