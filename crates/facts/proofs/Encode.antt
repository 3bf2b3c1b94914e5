-- A sound table is the one that its nodes stand for.
use Prim.Native.Nat.{ℕ, zero, suc, ◌+◌, ◌-◌, ◌*◌, ◌≤◌, ◌<◌}
use mathlib.Core.Path.{◌≡◌, refl, sym, ap, ◌∙◌}
use mathlib.Core.Bool.{Bool, true, false, cond}
use mathlib.Core.Logic.{◌⊎◌, inl, inr, ⊎_elim}
use mathlib.Core.List.{List, [], ◌∷◌, ◌++◌}
use native.Mathlib.Omega.{arith}
use native.Mathlib.Nat.{eq-or-lt_of_le}
use lib.Dec.{ltb, eqb}
use Prim.Native.Nat.{◌/◌, ◌%◌}
use lib.ListN.{length, get_or, take, drop, replicate, length-append, length-drop, length-replicate, get_or-replicate}
use lib.ListN.{take-append-drop, get_or-append}
use lib.Seq.{get_or-drop, take-add, ext_get_or, get_or_at, drop-cons}
use borrow.Author.Tests.{eqb-true, eqb-false}
use Rattle.facts.proofs.Laws.{column}
use Rattle.facts.proofs.Chains.{chained_linked}
use Rattle.facts.proofs.Whole.{sound_chained}
use Rattle.facts.proofs.Kids.{chain_kids, in_kids}
use Rattle.limits.specs.Limits.{record_width}
use Rattle.facts.specs.Table.{fld, parent_of, child_of, next_of, Blank}
use Rattle.facts.specs.Sound.{Sound}
use Rattle.facts.specs.Links.{In, Seg}
use Rattle.facts.specs.Linked.{Linked}
use Rattle.facts.specs.State.{Node, node_at, nodes, bare, ins, kids, node_of, kids_in, head_or, after, next_in}
use Rattle.facts.specs.Linked.{kids_of}
use Rattle.facts.specs.State.{row, rows, encode}

pub length_nodes : (t : List ℕ) (n : ℕ) → length (nodes t n) ≡ n
unfolding nodes
length_nodes t zero = refl
length_nodes t (suc n) = length-append (nodes t n) (node_at t (suc n) ∷ []) ∙ (let e = length_nodes t n in omega arith)

pub nodes_get : (t : List ℕ) (n r : ℕ) → 1 ≤ r → r ≤ n → node_of (nodes t n) r ≡ node_at t r
unfolding nodes node_of
nodes_get t n zero r1 rn = absurd (omega arith)
nodes_get t zero (suc i) r1 rn = absurd (omega arith)
nodes_get t (suc n) (suc i) r1 rn = go (nodes_get t n (suc i) r1) (eq-or-lt_of_le rn)
  where
    go : (suc i ≤ n → get_or (nodes t n) i (bare 0 0) ≡ node_at t (suc i)) → (suc i ≡ suc n) ⊎ (suc i < suc n)
        → get_or (nodes t n ++ node_at t (suc n) ∷ []) i (bare 0 0) ≡ node_at t (suc i)
    go f (inl e) = let h : i ≡ n = omega arith in rw h (get_or_at (nodes t n) (node_at t (suc n)) [] (bare 0 0) n (let q = length_nodes t n in omega arith))
    go f (inr l) = get_or-append (nodes t n) (node_at t (suc n) ∷ []) (bare 0 0) i (let q = length_nodes t n in omega arith) ∙ f (omega arith)

-- the children depend on the keys and the parents alone
module _ (key key' : ℕ → ℕ) (parent parent' : ℕ → ℕ) (p : ℕ) where
  ins_ext : (r : ℕ) (ms : List ℕ) → key r ≡ key' r → ((m : ℕ) → In m ms → key m ≡ key' m) → ins key r ms ≡ ins key' r ms
  unfolding ins
  ins_ext r [] e f = refl
  ins_ext r (m ∷ ms) e f = λ i. cond (ltb (e i) (f m (inl refl) i)) (r ∷ m ∷ ms) (m ∷ ins_ext r ms e (λ x j. f x (inr j)) i)

  ins_mem : (r z : ℕ) (ms : List ℕ) → In z (ins key r ms) → (z ≡ r) ⊎ In z ms
  unfolding ins
  ins_mem r z [] i = i
  ins_mem r z (m ∷ ms) i = go (ltb (key r) (key m)) (ins_mem r z ms) i
    where
      go : (b : Bool) → (In z (ins key r ms) → (z ≡ r) ⊎ In z ms) → In z (cond b (r ∷ m ∷ ms) (m ∷ ins key r ms)) → (z ≡ r) ⊎ In z (m ∷ ms)
      go true f j = j
      go false f (inl e) = inr (inl e)
      go false f (inr j) = ⊎_elim (λ (e : z ≡ r). inl e) (λ k. inr (inr k)) (f j)

  kids_low : (n z : ℕ) → In z (kids key parent p n) → (1 ≤ z) × (z ≤ n)
  unfolding kids
  kids_low zero z i = absurd i
  kids_low (suc n) z i = go (eqb (parent (suc n)) p) (ltb p (suc n)) (kids_low n z) i
    where
      go : (a b : Bool) → (In z (kids key parent p n) → (1 ≤ z) × (z ≤ n))
          → In z (cond a (cond b (ins key (suc n) (kids key parent p n)) (kids key parent p n)) (kids key parent p n)) → (1 ≤ z) × (z ≤ suc n)
      go true true f j = ⊎_elim (λ (w : z ≡ suc n). (omega arith, omega arith)) (λ k. let h = f k in (h.0, omega arith)) (ins_mem (suc n) z (kids key parent p n) j)
      go true false f j = let h = f j in (h.0, omega arith)
      go false b f j = let h = f j in (h.0, omega arith)

  pub kids_ext : (n : ℕ) → ((r : ℕ) → 1 ≤ r → r ≤ n → key r ≡ key' r) → ((r : ℕ) → 1 ≤ r → r ≤ n → parent r ≡ parent' r) → kids key parent p n ≡ kids key' parent' p n
  unfolding kids
  kids_ext zero f g = refl
  kids_ext (suc n) f g =
      let e = kids_ext n (λ r r1 rn. f r r1 (omega arith)) (λ r r1 rn. g r r1 (omega arith)) in
      let q : ins key (suc n) (kids key parent p n) ≡ ins key' (suc n) (kids key' parent' p n) =
      ins_ext (suc n) (kids key parent p n) (f (suc n) (omega arith) (omega arith)) (λ m i. let h = kids_low n m i in f m h.0 (omega arith)) ∙ ap (ins key' (suc n)) e in
      λ i. cond (eqb (g (suc n) (omega arith) (omega arith) i) p) (cond (ltb p (suc n)) (q i) (e i)) (e i)

pub kids_nodes : (t : List ℕ) (u p : ℕ) → kids_in (nodes t u) p ≡ kids_of t u p
unfolding kids_in
kids_nodes t u p =
    ap (kids (λ r. (node_of (nodes t u) r).key) (λ r. (node_of (nodes t u) r).parent) p) (length_nodes t u)
    ∙ kids_ext (λ r. (node_of (nodes t u) r).key) (λ r. fld t r 0) (λ r. (node_of (nodes t u) r).parent) (λ r. fld t r 1) p u
    (λ r r1 ru. ap (λ (n : Node). n.key) (nodes_get t u r r1 ru)) (λ r r1 ru. ap (λ (n : Node). n.parent) (nodes_get t u r r1 ru))

head_is : (t : List ℕ) (c : ℕ) (ms : List ℕ) → Seg t c ms 0 → c ≡ head_or ms
head_is t c [] s = s
head_is t c (m ∷ ms) s = s.0

after_is : (t : List ℕ) (c r : ℕ) (ms : List ℕ) → Seg t c ms 0 → In r ms → next_of t r ≡ after r ms
unfolding after
after_is t c r [] s i = elim i [ ]
after_is t c r (m ∷ ms) s i = go (eqb m r) refl (λ j. after_is t (next_of t m) r ms s.2 j) i
  where
    go : (b : Bool) → eqb m r ≡ b → (In r ms → next_of t r ≡ after r ms) → In r (m ∷ ms) → next_of t r ≡ cond b (head_or ms) (after r ms)
    go true e f j = rw (sym (eqb-true m r e)) (head_is t (next_of t m) ms s.2)
    go false e f (inl q) = absurd (eqb-false m r e (sym q))
    go false e f (inr j) = f j

module _ (t : List ℕ) (u : ℕ) (L : Linked t u) where
  child_is : (r : ℕ) → 1 ≤ r → r ≤ u → head_or (kids_in (nodes t u) r) ≡ child_of t r
  child_is r r1 ru = ap head_or (kids_nodes t u r) ∙ sym (head_is t (child_of t r) (kids_of t u r) (chain_kids t u r L r1 ru))

  next_is : (r : ℕ) → next_of t 1 ≡ 0 → 1 ≤ r → r ≤ u → next_in (nodes t u) r ≡ next_of t r
  unfolding next_in
  next_is r z r1 ru = go (eqb r 1) refl
    where
      parent_is : (node_of (nodes t u) r).parent ≡ parent_of t r
      parent_is = ap (λ (n : Node). n.parent) (nodes_get t u r r1 ru)

      go : (b : Bool) → eqb r 1 ≡ b → cond b 0 (after r (kids_in (nodes t u) (node_of (nodes t u) r).parent)) ≡ next_of t r
      go true e = sym (ap (λ (x : ℕ). next_of t x) (eqb-true r 1 e) ∙ z)
      go false e =
          let n = eqb-false r 1 e in
          let h = L.up r (omega arith) ru in
          ap (after r) (ap (kids_in (nodes t u)) parent_is ∙ kids_nodes t u (parent_of t r))
          ∙ sym (after_is t (child_of t (parent_of t r)) r (kids_of t u (parent_of t r)) (chain_kids t u (parent_of t r) L h.0 (omega arith))
          (in_kids t (parent_of t r) u r (record { above = h.1; used = ru; parent = refl })))

-- n numbers from field k of the record that starts at place i
abbrev fields : ℕ → ℕ → ℕ → List ℕ → List ℕ
fields zero k i l = []
fields (suc n) k i l = get_or l (i + k) 0 ∷ fields n (suc k) i l

window : (n k i : ℕ) (l : List ℕ) → i + k + n ≤ length l → take n (drop (i + k) l) ≡ fields n k i l
window zero k i l h = refl
window (suc n) k i l h =
    let e : suc (i + k) ≡ i + suc k = omega arith in
    ap (take (suc n)) (drop-cons l (i + k) 0 (omega arith))
    ∙ ap (λ (j : ℕ). get_or l (i + k) 0 ∷ take n (drop j l)) e
    ∙ ap (λ (r : List ℕ). get_or l (i + k) 0 ∷ r) (window n (suc k) i l (omega arith))

row_is : (t : List ℕ) (u n : ℕ) → Linked t u → next_of t 1 ≡ 0 → n < u → row (nodes t u) (suc n) ≡ take record_width (drop (n * record_width) t)
unfolding row fld
row_is t u n L z h =
    let g : node_of (nodes t u) (suc n) ≡ node_at t (suc n) = nodes_get t u (suc n) (omega arith) (omega arith) in
    let c = child_is t u L (suc n) (omega arith) (omega arith) in
    let x = next_is t u L (suc n) z (omega arith) (omega arith) in
    let w = L.whole in
    let e : (suc n - 1) * record_width + 0 ≡ n * record_width = omega arith in
    (λ i.
    (g i).key ∷ (g i).parent ∷ c i ∷ x i ∷ (g i).seen ∷ (g i).not_bool ∷ (g i).blocked ∷ (g i).kind ∷ (g i).count ∷ (g i).name ∷ (g i).confidence ∷ [])
    ∙ sym (window record_width 0 ((suc n - 1) * record_width) t (omega arith)) ∙ ap (λ (j : ℕ). take record_width (drop j t)) e

rows_are : (t : List ℕ) (u n : ℕ) → Linked t u → next_of t 1 ≡ 0 → n ≤ u → rows (nodes t u) n ≡ take (n * record_width) t
unfolding rows
rows_are t u zero L z h = refl
rows_are t u (suc n) L z h =
    let q : n * record_width + record_width ≡ suc n * record_width = omega arith in
    (λ i. rows_are t u n L z (omega arith) i ++ row_is t u n L z (omega arith) i)
    ∙ sym (take-add (n * record_width) record_width t) ∙ ap (λ (m : ℕ). take m t) q

-- all of the table: the used records are the nodes, and the others are zero
pub encode_is : (t : List ℕ) (u N : ℕ) → Linked t u → next_of t 1 ≡ 0 → length t ≡ N * record_width → ((r : ℕ) → u < r → r ≤ N → Blank t r) → t ≡ encode N (nodes t u)
unfolding encode
encode_is t u N L z e b =
    sym (take-append-drop (u * record_width) t)
    ∙ (λ i. sym (rows_are t u u L z (omega arith)) i ++ rest i)
    ∙ ap (λ (m : ℕ). rows (nodes t u) m ++ replicate ((N - m) * record_width) 0) (sym (length_nodes t u))
  where
    lens : length (drop (u * record_width) t) ≡ length {A = ℕ} (replicate ((N - u) * record_width) 0)
    lens =
        let w = L.whole in
        let q : length t - u * record_width ≡ (N - u) * record_width = omega arith in
        length-drop (u * record_width) t ∙ q ∙ sym (length-replicate ((N - u) * record_width) 0)

    rest : drop (u * record_width) t ≡ replicate ((N - u) * record_width) 0
    rest = ext_get_or 0 (drop (u * record_width) t) (replicate ((N - u) * record_width) 0) lens (λ i h.
        let l = lens in
        let m : length {A = ℕ} (replicate ((N - u) * record_width) 0) ≡ (N - u) * record_width = length-replicate ((N - u) * record_width) 0 in
        get_or-drop (u * record_width) t i 0 ∙ sym (column t (u + i / record_width) (i % record_width) (u * record_width + i) (omega arith))
        ∙ (b (suc (u + i / record_width)) (omega arith) (omega arith)).zeros (i % record_width) (omega arith)
        ∙ sym (get_or-replicate ((N - u) * record_width) i 0 0 (omega arith)))

-- a sound table is the table of the state read off it
pub sound_encode : (t : List ℕ) (u N : ℕ) → Sound t u N → t ≡ encode N (nodes t u)
sound_encode t u N S = encode_is t u N (chained_linked t u (sound_chained t u N S)) S.root.next S.size S.beyond
