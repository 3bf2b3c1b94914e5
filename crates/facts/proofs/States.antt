-- A table is sound just where it is the table of a formed state, which is then the one read off it.
use Prim.Native.Nat.{ℕ, zero, suc, ◌+◌, ◌-◌, ◌*◌, ◌≤◌, ◌<◌}
use mathlib.Core.Path.{◌≡◌, refl, sym, ap, ◌∙◌}
use mathlib.Core.Bool.{true}
use mathlib.Core.Logic.{◌⊎◌, inl, inr, ◌↔◌}
use mathlib.Core.List.{List, [], ◌∷◌, ◌++◌}
use native.Mathlib.Nat.{eq-or-lt_of_le}
use native.Mathlib.Omega.{arith}
use lib.ListN.{length, get_or, replicate, length-append, length-replicate, get_or-replicate, get_or-append}
use lib.Seq.{ext_get_or}
use borrow.Author.Tests.{eq-eqb, ne_eqb}
use Rattle.limits.specs.Limits.{record_width}
use Rattle.limits.specs.Fields as field
use Rattle.facts.specs.Table.{fld, key_of, parent_of, child_of, next_of, seen_of, Blank}
use Rattle.facts.specs.Links.{Kid, In, Seg, Rising}
use Rattle.facts.specs.Linked.{Linked, Chained}
use Rattle.facts.specs.State.{Node, bare, root, node_at, nodes, node_of, kids_in, head_or, after, next_in, row}
use Rattle.facts.specs.Linked.{kids_of}
use Rattle.facts.specs.State.{rows, encode}
use Rattle.facts.specs.Fact.{is_bare}
use Rattle.facts.specs.Checks.{is_record, is_under_seen}
use Rattle.facts.specs.Sound.{Root, Sound}
use Rattle.facts.specs.Formed.{Formed, TableOf}
use Rattle.facts.proofs.Chains.{rising_low, in_seg, chained_linked}
use Rattle.facts.proofs.Kids.{kids_in_lem, in_kids, kids_rising}
use Rattle.facts.proofs.Encode.{length_nodes, nodes_get, kids_ext, sound_encode}
use Rattle.facts.proofs.Whole.{fact_parts, bare_zeros, root_is, seen_under, seen_flag, blank_zero, parts_sound}
use Rattle.facts.proofs.Whole.{sound_chained, sound_fact}

-- the node with number i + 1 stands at place i
at : (s : List Node) (i : ℕ) → get_or s i (bare 0 0) ≡ node_of s (suc i)
unfolding node_of
at s i = refl

-- beyond the first of two lists
over : (xs ys : List ℕ) (i d : ℕ) → get_or (xs ++ ys) (length xs + i) d ≡ get_or ys i d
over [] ys i d = let e : length {A = ℕ} [] + i ≡ i = omega arith in ap (λ (j : ℕ). get_or ys j d) e
over (x ∷ xs) ys i d =
    let e : length (x ∷ xs) + i ≡ suc (length xs + i) = omega arith in
    ap (λ (j : ℕ). get_or (x ∷ (xs ++ ys)) j d) e ∙ over xs ys i d

module _ (s : List Node) where
  length_row : (r : ℕ) → length (row s r) ≡ record_width
  unfolding row
  length_row r = refl

  length_rows : (n : ℕ) → length (rows s n) ≡ n * record_width
  unfolding rows
  length_rows zero = refl
  length_rows (suc n) =
      length-append (rows s n) (row s (suc n)) ∙ (let e = length_rows n in let q = length_row (suc n) in omega arith)

  rows_get : (n r f : ℕ) → 1 ≤ r → r ≤ n → f < record_width → get_or (rows s n) ((r - 1) * record_width + f) 0 ≡ get_or (row s r) f 0
  unfolding rows
  rows_get zero r f r1 rn fl = absurd (omega arith)
  rows_get (suc n) r f r1 rn fl = go (rows_get n r f r1) (eq-or-lt_of_le rn)
    where
      go : (r ≤ n → f < record_width → get_or (rows s n) ((r - 1) * record_width + f) 0 ≡ get_or (row s r) f 0) → (r ≡ suc n) ⊎ (r < suc n) →
          get_or (rows s n ++ row s (suc n)) ((r - 1) * record_width + f) 0 ≡ get_or (row s r) f 0
      go h (inl e) =
          let l = length_rows n in
          let q : (r - 1) * record_width + f ≡ length (rows s n) + f = omega arith in
          ap (λ (j : ℕ). get_or (rows s n ++ row s (suc n)) j 0) q ∙ over (rows s n) (row s (suc n)) f 0 ∙ ap (λ (x : ℕ). get_or (row s x) f 0) (sym e)
      go h (inr l) =
          let q = length_rows n in
          get_or-append (rows s n) (row s (suc n)) 0 ((r - 1) * record_width + f) (omega arith) ∙ h (omega arith) fl

-- `after` in a list
after_here : (x : ℕ) (ms : List ℕ) → after x (x ∷ ms) ≡ head_or ms
unfolding after
after_here x ms = simp (eq-eqb x x refl)

after_skip : (x m : ℕ) (ms : List ℕ) → (x ≡ m → ⊥) → after m (x ∷ ms) ≡ after m ms
unfolding after
after_skip x m ms n = simp (ne_eqb x m n)

-- a list whose keys rise is a chain, where each record's next is the one after it
seg_of : (t : List ℕ) (b : ℕ) (ms : List ℕ) → Rising t b ms → ((m : ℕ) → In m ms → m ≡ 0 → ⊥) → ((m : ℕ) → In m ms → next_of t m ≡ after m ms) → Seg t (head_or ms) ms 0
seg_of t b [] R nz nx = refl
seg_of t b (x ∷ ms) R nz nx =
    let e : next_of t x ≡ head_or ms = nx x (inl refl) ∙ after_here x ms in
    (refl, nz x (inl refl), rw e (seg_of t (key_of t x + 1) ms R.1 (λ m i. nz m (inr i)) (λ m i. nx m (inr i) ∙ after_skip x m ms (other m i))))
  where
    other : (m : ℕ) → In m ms → x ≡ m → ⊥
    other m i e = let l = rising_low t (key_of t x + 1) ms m R.1 i in let a = ap (λ (y : ℕ). key_of t y) e in omega arith

-- the table of a state
module _ (N : ℕ) (s : List Node) (fit : length s ≤ N) where
  abbrev T : List ℕ
  T = encode N s

  length_encode : length (encode N s) ≡ N * record_width
  unfolding encode
  length_encode =
      let a = length_rows s (length s) in
      let b : length {A = ℕ} (replicate ((N - length s) * record_width) 0) ≡ (N - length s) * record_width = length-replicate ((N - length s) * record_width) 0 in
      length-append (rows s (length s)) (replicate ((N - length s) * record_width) 0) ∙ omega arith

  field_is : (r f : ℕ) → 1 ≤ r → r ≤ length s → f < record_width → fld (encode N s) r f ≡ get_or (row s r) f 0
  unfolding encode fld
  field_is r f r1 rl fl =
      let e = length_rows s (length s) in
      get_or-append (rows s (length s)) (replicate ((N - length s) * record_width) 0) 0 ((r - 1) * record_width + f) (omega arith)
      ∙ rows_get s (length s) r f r1 rl fl

  beyond : (r : ℕ) → length s < r → r ≤ N → Blank (encode N s) r
  unfolding encode fld
  beyond r h k = record {
    zeros = λ f fl.
        let e = length_rows s (length s) in
        let q : (r - 1) * record_width + f ≡ length (rows s (length s)) + ((r - 1 - length s) * record_width + f) = omega arith in
        ap (λ (j : ℕ). get_or (rows s (length s) ++ replicate ((N - length s) * record_width) 0) j 0) q
        ∙ over (rows s (length s)) (replicate ((N - length s) * record_width) 0) ((r - 1 - length s) * record_width + f) 0
        ∙ get_or-replicate ((N - length s) * record_width) ((r - 1 - length s) * record_width + f) 0 0 (omega arith);
  }

  module _ (r : ℕ) (r1 : 1 ≤ r) (rl : r ≤ length s) where
    node_is : node_at T r ≡ node_of s r
    unfolding row
    node_is = λ i. record {
      key = field_is r field.key r1 rl (omega arith) i;
      parent = field_is r field.parent r1 rl (omega arith) i;
      seen = field_is r field.seen r1 rl (omega arith) i;
      not_bool = field_is r field.not_bool r1 rl (omega arith) i;
      blocked = field_is r field.blocked r1 rl (omega arith) i;
      kind = field_is r field.kind r1 rl (omega arith) i;
      count = field_is r field.count r1 rl (omega arith) i;
      name = field_is r field.name r1 rl (omega arith) i;
      confidence = field_is r field.confidence r1 rl (omega arith) i;
    }

    child_is : child_of T r ≡ head_or (kids_in s r)
    unfolding row
    child_is = field_is r field.child r1 rl (omega arith)

    next_is : next_of T r ≡ next_in s r
    unfolding row
    next_is = field_is r field.next r1 rl (omega arith)

    key_is : key_of T r ≡ (node_of s r).key
    key_is = ap (λ (n : Node). n.key) node_is

    parent_is : parent_of T r ≡ (node_of s r).parent
    parent_is = ap (λ (n : Node). n.parent) node_is

  kids_same : (p : ℕ) → kids_in s p ≡ kids_of T (length s) p
  unfolding kids_in
  kids_same p =
      kids_ext (λ r. (node_of s r).key) (λ r. key_of T r) (λ r. (node_of s r).parent) (λ r. parent_of T r) p (length s)
      (λ r r1 rl. sym (key_is r r1 rl)) (λ r r1 rl. sym (parent_is r r1 rl))

  -- the state read off the table of a state is that state
  pub formed_state : nodes (encode N s) (length s) ≡ s
  formed_state =
      ext_get_or (bare 0 0) (nodes T (length s)) s (length_nodes T (length s))
      (λ i h. let l = length_nodes T (length s) in
      at (nodes T (length s)) i ∙ nodes_get T (length s) (suc i) (omega arith) (omega arith) ∙ node_is (suc i) (omega arith) (omega arith) ∙ sym (at s i))

  module _ (F : Formed s) where
    same : (p r q : ℕ) → 1 ≤ p → Kid T (length s) p r → Kid T (length s) p q → key_of T r ≡ key_of T q → r ≡ q
    same p r q p1 K J e =
        let a = K.above in let b = J.above in
        let r1 : 1 ≤ r = omega arith in let q1 : 1 ≤ q = omega arith in
        F.distinct r q (omega arith) K.used (omega arith) J.used
        (sym (parent_is r r1 K.used) ∙ K.parent ∙ sym J.parent ∙ parent_is q q1 J.used)
        (sym (key_is r r1 K.used) ∙ e ∙ key_is q q1 J.used)

    next_kid : (m : ℕ) → (m ≡ 1 → ⊥) → next_in s m ≡ after m (kids_in s (node_of s m).parent)
    unfolding next_in
    next_kid m n = simp (ne_eqb m 1 n)

    module _ (p : ℕ) (p1 : 1 ≤ p) where
      kid : (m : ℕ) → In m (kids_of T (length s) p) → Kid T (length s) p m
      kid m i = kids_in_lem T p (length s) m i

      rising : Rising T 0 (kids_of T (length s) p)
      rising = kids_rising T p (length s) (λ r q. same p r q p1) (length s) (omega arith)

      next : (m : ℕ) → In m (kids_of T (length s) p) → next_of T m ≡ after m (kids_of T (length s) p)
      next m i =
          let K = kid m i in let a = K.above in
          let m1 : 1 ≤ m = omega arith in
          next_is m m1 K.used ∙ next_kid m (λ e. omega arith)
          ∙ ap (λ (q : ℕ). after m (kids_in s q)) (sym (parent_is m m1 K.used) ∙ K.parent) ∙ ap (after m) (kids_same p)

      whole : p ≤ length s → Seg T (child_of T p) (kids_of T (length s) p) 0
      whole pu =
          let e : child_of T p ≡ head_or (kids_of T (length s) p) = child_is p p1 pu ∙ ap head_or (kids_same p) in
          rw e (seg_of T 0 (kids_of T (length s) p) rising (λ m i z. let K = kid m i in let a = K.above in omega arith) next)

    lower : (r : ℕ) → 1 < r → r ≤ length s → (1 ≤ parent_of T r) × (parent_of T r < r)
    lower r r1 rl = let e = parent_is r (omega arith) rl in let h = F.lower r r1 rl in (omega arith, omega arith)

    formed_chained : Chained T (length s)
    formed_chained = record {
      some = F.some;
      whole = let e = length_encode in omega arith;
      up = lower;
      chain = λ p p1 pu. record { members = kids_of T (length s) p; whole = whole p p1 pu; rising = rising p p1; kids = kid p p1 };
      placed = λ r r1 rl.
          let h = lower r r1 rl in
          in_seg T (child_of T (parent_of T r)) (kids_of T (length s) (parent_of T r)) 0 r (whole (parent_of T r) h.0 (omega arith))
          (in_kids T (parent_of T r) (length s) r (record { above = h.1; used = rl; parent = refl }));
    }

    root_node : node_at T 1 ≡ root
    root_node = node_is 1 (omega arith) F.some ∙ F.first

    root_next : next_in s 1 ≡ 0
    unfolding next_in
    root_next = refl

    formed_root : Root T
    formed_root = record {
      seen = ap (λ (n : Node). n.seen) root_node;
      key = ap (λ (n : Node). n.key) root_node;
      parent = ap (λ (n : Node). n.parent) root_node;
      next = next_is 1 (omega arith) F.some ∙ root_next;
      not_bool = ap (λ (n : Node). n.not_bool) root_node;
      last_five = ap is_bare root_node;
    }

    formed_fact : (r : ℕ) → 1 ≤ r → r ≤ length s → is_record (node_at T r) ≡ true
    formed_fact r r1 rl = ap is_record (node_is r r1 rl) ∙ F.fact r r1 rl

    formed_under_seen : (r : ℕ) → 1 < r → r ≤ length s → is_under_seen T r ≡ true
    formed_under_seen r r1 rl =
        let q1 : 1 ≤ r = omega arith in
        let h = F.lower r r1 rl in
        let p = (node_of s r).parent in
        let e : seen_of T (parent_of T r) ≡ (node_of s p).seen =
        ap (λ (x : ℕ). seen_of T x) (parent_is r q1 rl) ∙ ap (λ (n : Node). n.seen) (node_is p h.0 (omega arith)) in
        seen_under T r (seen_flag T r (fact_parts (node_at T r) (formed_fact r q1 rl)).first)
        (λ z. e ∙ F.seen_parent r r1 rl (sym (ap (λ (n : Node). n.seen) (node_is r q1 rl)) ∙ z))

    -- the table of a formed state is sound
    pub formed_sound : Sound (encode N s) (length s) N
    formed_sound =
        parts_sound T (length s) N length_encode F.some fit (root_is T formed_root) formed_chained (record { fact = formed_fact; under_seen = formed_under_seen })
        (blank_zero T (length s) N length_encode beyond)

-- the state read off a sound table is formed
module _ (t : List ℕ) (u N : ℕ) (S : Sound t u N) where
  got : (r : ℕ) → 1 ≤ r → r ≤ length (nodes t u) → node_of (nodes t u) r ≡ node_at t r
  got r r1 rl = let e = length_nodes t u in nodes_get t u r r1 (omega arith)

  was_root : node_at t 1 ≡ root
  was_root =
      let b = bare_zeros (node_at t 1) S.root.last_five in
      λ i. record {
        key = S.root.key i;
        parent = S.root.parent i;
        seen = S.root.seen i;
        not_bool = S.root.not_bool i;
        blocked = b.blocked i;
        kind = b.kind i;
        count = b.count i;
        name = b.name i;
        confidence = b.confidence i;
      }

  pub sound_formed : Formed (nodes t u)
  sound_formed = record {
    some = let e = length_nodes t u in let h = S.some in omega arith;
    first = nodes_get t u 1 (omega arith) S.some ∙ was_root;
    lower = λ r r1 rl. let e = length_nodes t u in rw (got r (omega arith) rl) (S.lower r r1 (omega arith));
    distinct = λ r q r1 rl q1 ql e k. apart r q r1 rl q1 ql
        (sym (ap (λ (n : Node). n.parent) (got r (omega arith) rl)) ∙ e ∙ ap (λ (n : Node). n.parent) (got q (omega arith) ql))
        (sym (ap (λ (n : Node). n.key) (got r (omega arith) rl)) ∙ k ∙ ap (λ (n : Node). n.key) (got q (omega arith) ql));
    fact = λ r r1 rl. let e = length_nodes t u in ap is_record (got r r1 rl) ∙ sound_fact t u N S r r1 (omega arith);
    seen_parent = λ r r1 rl e. under r r1 rl e;
  }
    where
      L : Linked t u
      L = chained_linked t u (sound_chained t u N S)

      apart : (r q : ℕ) → 1 < r → r ≤ length (nodes t u) → 1 < q → q ≤ length (nodes t u) → parent_of t r ≡ parent_of t q → key_of t r ≡ key_of t q → r ≡ q
      apart r q r1 rl q1 ql e k =
          let l = length_nodes t u in
          let h = S.lower r r1 (omega arith) in
          let g = S.lower q q1 (omega arith) in
          L.distinct (parent_of t r) r q h.0
          (record { above = h.1; used = omega arith; parent = refl })
          (record { above = omega arith; used = omega arith; parent = sym e }) k

      under : (r : ℕ) → 1 < r → r ≤ length (nodes t u) → (node_of (nodes t u) r).seen ≡ 1 → (node_of (nodes t u) (node_of (nodes t u) r).parent).seen ≡ 1
      under r r1 rl e =
          let l = length_nodes t u in
          let n = got r (omega arith) rl in
          let h = S.lower r r1 (omega arith) in
          ap (λ (x : ℕ). (node_of (nodes t u) x).seen) (ap (λ (m : Node). m.parent) n)
          ∙ ap (λ (m : Node). m.seen) (got (parent_of t r) h.0 (omega arith))
          ∙ S.seen_parent r r1 (omega arith) (sym (ap (λ (m : Node). m.seen) n) ∙ e)

-- a table is sound exactly when it is the table of a formed state
pub sound_exactly : (t : List ℕ) (u N : ℕ) → Sound t u N ↔ TableOf t u N
sound_exactly t u N = (there, back)
  where
    there : Sound t u N → TableOf t u N
    there S = record {
      state = nodes t u;
      formed = sound_formed t u N S;
      paths = length_nodes t u;
      fits = S.most;
      is = sound_encode t u N S;
    }

    back : TableOf t u N → Sound t u N
    back E =
        let e = E.paths in
        let S : Sound (encode N E.state) (length E.state) N = formed_sound N E.state (let h = E.fits in omega arith) E.formed in
        rw (E.is, ← e) S

-- and the state is the one read off it
pub state_is : (t : List ℕ) (u N : ℕ) (E : TableOf t u N) → E.state ≡ nodes t u
state_is t u N E =
    let e = E.paths in
    sym (formed_state N E.state (let h = E.fits in omega arith)) ∙ (λ i. nodes (sym E.is i) (e i))
