-- The walk that looks for a key's place.
use Rattle.std.proofs.Common.{◌≡◌, ℕ, zero, suc, ◌+◌, ◌-◌, ◌<◌, ◌≤◌, List, refl, ⊎_elim, arith}
use native.Mathlib.Decide.{ℕ_discrete}
use Rattle.facts.specs.Table.{key_of, child_of, next_of}
use Rattle.facts.specs.Links.{Kid}
use Rattle.facts.specs.Linked.{First, Linked}
use Rattle.facts.proofs.Laws.{lt_or_ge}
use Rattle.paths.specs.Place.{Before, Place}
use Rattle.paths.proofs.Walk.{Found, At}

-- no child of p has the key k
pub record Absent (t : List ℕ) (u p k : ℕ) : Type 0 where
  pub none : (r : ℕ) → Kid t u p r → key_of t r ≡ k → ⊥

-- the walk has come to c, behind prev
pub record Spotting (t : List ℕ) (u p k prev c : ℕ) : Type 0 where
  pub at : At t u p k c
  pub head : prev ≡ 0 → c ≡ child_of t p
  pub zero_low : prev ≡ 0 → at.low ≡ 0
  pub before : Before t u p k prev
  pub link : (prev ≡ 0 → ⊥) → c ≡ next_of t prev
  pub prev_low : (prev ≡ 0 → ⊥) → at.low ≡ key_of t prev + 1

-- a place for a key that no child has: all from c on have a higher one
pub record Gap (t : List ℕ) (u p k prev c : ℕ) : Type 0 where
  pub first : First t u p (k + 1) c
  pub head : prev ≡ 0 → c ≡ child_of t p
  pub above : prev ≡ 0 → (r : ℕ) → Kid t u p r → k < key_of t r
  pub kid : (prev ≡ 0 → ⊥) → Kid t u p prev
  pub below : (prev ≡ 0 → ⊥) → key_of t prev < k
  pub link : (prev ≡ 0 → ⊥) → c ≡ next_of t prev
  pub last : (prev ≡ 0 → ⊥) → (r : ℕ) → Kid t u p r → key_of t r < k → key_of t r ≤ key_of t prev

pub gap : (t : List ℕ) (u p k prev c : ℕ) → Absent t u p k → Place t u p k prev c → Gap t u p k prev c
gap t u p k prev c A Q = record {
  first = record {
    none = λ z r K. let x = Q.first.none z r K in omega arith;
    kid = Q.first.kid;
    from = λ n. let x = over c (Q.first.kid n) (Q.first.from n) in omega arith;
    least = λ r K h. Q.first.least r K (omega arith);
  };
  head = Q.head;
  above = λ z r K. over r K (Q.above z r K);
  kid = Q.before.kid;
  below = Q.before.below;
  link = Q.link;
  last = Q.last;
}
  where
    over : (r : ℕ) → Kid t u p r → k ≤ key_of t r → k < key_of t r
    over r K h = let d = A.none r K in
        ⊎_elim (λ (l : k < key_of t r). l) (λ (l : key_of t r ≤ k). absurd (d (omega arith))) (lt_or_ge k (key_of t r))

-- at its place the key is found, or it is not there
module _ (t : List ℕ) (u p k prev c : ℕ) (Q : Place t u p k prev c) where
  pub place_found : (c ≡ 0 → ⊥) → key_of t c ≡ k → Found t u p k c
  place_found n e = record { none = λ z. absurd (n z); kid = Q.first.kid; key = λ _. e }

  pub place_other : (c ≡ 0 → ⊥) → (key_of t c ≡ k → ⊥) → Found t u p k 0
  place_other n d = record {
    none = λ _ s K e. let f = Q.first.from n in let l = Q.first.least s K (omega arith) in d (omega arith);
    kid = λ z. absurd (z refl);
    key = λ z. absurd (z refl);
  }

  pub place_end : c ≡ 0 → Found t u p k 0
  place_end z = record {
    none = λ _ s K e. let x = Q.first.none z s K in omega arith;
    kid = λ y. absurd (y refl);
    key = λ y. absurd (y refl);
  }

-- how many keys below k are higher than that of prev, 0 for none: a walk that looks for k has them before it
abbrev pub keys_left : (t : List ℕ) (k prev : ℕ) → ℕ
keys_left t k zero = k
keys_left t k (suc p) = k - (key_of t (suc p) + 1)

pub keys_fewer : (t : List ℕ) (u p k prev c : ℕ) → Spotting t u p k prev c → (c ≡ 0 → ⊥) → key_of t c < k
    → keys_left t k c < keys_left t k prev
keys_fewer t u p k prev zero S n lt = absurd (n refl)
keys_fewer t u p k zero (suc c) S n lt = omega arith
keys_fewer t u p k (suc q) (suc c) S n lt =
    let e = S.prev_low (λ z. absurd (omega arith)) in
    let f = S.at.first.from n in
    omega arith

pub before_none : (t : List ℕ) (u p k : ℕ) → Before t u p k 0
before_none t u p k = record { kid = λ n. absurd (n refl); below = λ n. absurd (n refl) }

module _ (t : List ℕ) (u p k : ℕ) (L : Linked t u) (p1 : 1 ≤ p) (pu : p ≤ u) where
  pub spotting_start : (prev c : ℕ) → Before t u p k prev → (prev ≡ 0 → c ≡ child_of t p) → ((prev ≡ 0 → ⊥) → c ≡ next_of t prev) → Spotting t u p k prev c
  spotting_start prev c B e q = go (ℕ_discrete prev 0)
    where
      go : Dec (prev ≡ 0) → Spotting t u p k prev c
      go (yes z) = record {
        at = record { low = 0; below = omega arith; first = rw (e z) (L.child p p1 pu) };
        head = e;
        zero_low = λ _. refl;
        before = B;
        link = q;
        prev_low = λ n. absurd (n z);
      }
      go (no n) = record {
        at = record { low = key_of t prev + 1; below = let b = B.below n in omega arith; first = rw (q n) (L.next p prev p1 (B.kid n)) };
        head = e;
        zero_low = λ z. absurd (n z);
        before = B;
        link = q;
        prev_low = λ _. refl;
      }

  -- the one behind is a child too, unless there is none
  pub kid_behind : (prev c : ℕ) → Before t u p k prev → (prev ≡ 0 → c ≡ child_of t p) → ((prev ≡ 0 → ⊥) → c ≡ next_of t prev)
      → (c ≡ 0 → ⊥) → Kid t u p c
  kid_behind prev c B e q n = (spotting_start prev c B e q).at.first.kid n

  pub spotting_next : (prev c c' : ℕ) → Spotting t u p k prev c → (c ≡ 0 → ⊥) → key_of t c < k → c' ≡ next_of t c → Spotting t u p k c c'
  spotting_next prev c c' S n lt e =
      let K = S.at.first.kid n in
      record {
        at = record { low = key_of t c + 1; below = omega arith; first = rw e (L.next p c p1 K) };
        head = λ z. absurd (n z);
        zero_low = λ z. absurd (n z);
        before = record { kid = λ _. K; below = λ _. lt };
        link = λ _. e;
        prev_low = λ _. refl;
      }

  pub spotted : (prev c : ℕ) → Spotting t u p k prev c → ((c ≡ 0 → ⊥) → k ≤ key_of t c) → Place t u p k prev c
  spotted prev c S f = record {
    first = record {
      none = λ z r K. let x = S.at.first.none z r K in let b = S.at.below in omega arith;
      kid = S.at.first.kid;
      from = f;
      least = λ r K h. let b = S.at.below in S.at.first.least r K (omega arith);
    };
    head = S.head;
    above = λ z r K. beyond r K (let q = S.zero_low z in omega arith);
    before = S.before;
    link = S.link;
    last = λ n r K h. let q = S.prev_low n in
        ⊎_elim (λ (l : key_of t r < key_of t prev + 1). omega arith) (λ (l : key_of t prev + 1 ≤ key_of t r). let x = beyond r K (omega arith) in absurd (omega arith))
        (lt_or_ge (key_of t r) (key_of t prev + 1));
  }
    where
      beyond : (r : ℕ) → Kid t u p r → S.at.low ≤ key_of t r → k ≤ key_of t r
      beyond r K h = go (ℕ_discrete c 0)
        where
          go : Dec (c ≡ 0) → k ≤ key_of t r
          go (yes z) = let x = S.at.first.none z r K in absurd (omega arith)
          go (no n) = let x = S.at.first.least r K h in let y = f n in omega arith
