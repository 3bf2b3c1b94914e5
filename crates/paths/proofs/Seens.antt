-- Making a path seen, one record a turn.
use Rattle.std.proofs.Common.{◌≡◌, ℕ, zero, suc, ◌<◌, ◌≤◌, List, sym, refl, ap, ◌∙◌, ⊎_elim, eq-or-lt_of_le, arith, eq-eqb, ne_eqb}
use Rattle.limits.specs.Fields as field
use Rattle.facts.specs.Table.{parent_of}
use Rattle.facts.specs.State.{Node, nodes, node_of}
use Rattle.facts.proofs.Encode.{nodes_get}
use Rattle.paths.specs.Shape.{Shaped}
use Rattle.paths.specs.Update.{update}
use Rattle.paths.specs.Make.{seen_up, make_seen, ensure, get_or_create}
use Rattle.paths.specs.Represents.{Represents, Makes}

-- the turns left at c come to what all of them came to
pub record Climb (s : List Node) (r : ℕ) (t : List ℕ) (used N c : ℕ) : Type 0 where
  pub shaped : Shaped t used N
  pub low : c ≤ used
  pub turns : ℕ
  pub enough : c ≤ turns
  pub same : seen_up turns (nodes t used) c ≡ make_seen s r

pub climb_start : (t : List ℕ) (used N r : ℕ) → Shaped t used N → r ≤ used → Climb (nodes t used) r t used N r
unfolding make_seen
climb_start t used N r S h = record { shaped = S; low = h; turns = r; enough = omega arith; same = refl }

-- a parent has a lower number
parent_low : (t : List ℕ) (used N c : ℕ) → Shaped t used N → 1 ≤ c → c ≤ used → parent_of t c < c
parent_low t used N c S c1 cu = ⊎_elim
    (λ (e : 1 ≡ c). let z = ap (λ (x : ℕ). parent_of t x) e in let q = S.root_parent in omega arith)
    (λ (l : 1 < c). (S.linked.up c l cu).1)
    (eq-or-lt_of_le c1)

seen_turn : (m : ℕ) (s : List Node) (c : ℕ) → (c ≡ 0 → ⊥) → seen_up (suc m) s c ≡ seen_up m (update s c field.seen 1) (node_of s c).parent
unfolding seen_up
seen_turn m s c n = rw (ne_eqb c 0 n) refl

seen_end : (m : ℕ) (s : List Node) (c : ℕ) → c ≡ 0 → seen_up m s c ≡ s
unfolding seen_up
seen_end zero s c z = refl
seen_end (suc m) s c z = rw (eq-eqb c 0 z) refl

pub climb_less : (s : List Node) (r : ℕ) (t : List ℕ) (used N c c' : ℕ) → Climb s r t used N c → (c ≡ 0 → ⊥) → c' ≡ parent_of t c → c' < c
climb_less s r t used N c c' C n e = let h = parent_low t used N c C.shaped (omega arith) C.low in omega arith

pub climb_next : (s : List Node) (r : ℕ) (t : List ℕ) (used N c : ℕ) (t' : List ℕ) (c' : ℕ) → Climb s r t used N c → (c ≡ 0 → ⊥) → c' ≡ parent_of t c
    → Represents t' used N (update (nodes t used) c field.seen 1) → Climb s r t' used N c'
climb_next s r t used N c t' c' C n e H = go C.turns C.enough C.same
  where
    less : c' < c
    less = climb_less s r t used N c c' C n e

    parent_is : (node_of (nodes t used) c).parent ≡ c'
    parent_is = ap (λ (x : Node). x.parent) (nodes_get t used c (omega arith) C.low) ∙ sym e

    go : (m : ℕ) → c ≤ m → seen_up m (nodes t used) c ≡ make_seen s r → Climb s r t' used N c'
    go zero h q = absurd (n (omega arith))
    go (suc m) h q = record {
      shaped = H.shaped;
      low = let l = C.low in let w = less in omega arith;
      turns = m;
      enough = let w = less in omega arith;
      same = (λ i. seen_up m (H.state i) (sym parent_is i)) ∙ sym (seen_turn m (nodes t used) c n) ∙ q;
    }

pub climb_done : (s : List Node) (r : ℕ) (t : List ℕ) (used N c : ℕ) → Climb s r t used N c → c ≡ 0 → Represents t used N (make_seen s r)
climb_done s r t used N c C z = record { shaped = C.shaped; state = sym (seen_end C.turns (nodes t used) c z) ∙ C.same }

-- made, then made seen
pub created : (u : ℕ) (s : List Node) (p k : ℕ) (t : List ℕ) (used N r : ℕ) (t' : List ℕ) → Makes u (ensure s p k) t used N r
    → Represents t' used N (make_seen (nodes t used) r) → Makes u (get_or_create s p k) t' used N r
unfolding get_or_create
created u s p k t used N r t' M H = record {
  shaped = H.shaped;
  state = H.state ∙ (λ i. make_seen (M.state i) (M.number i));
  number = M.number;
  range = M.range;
}
