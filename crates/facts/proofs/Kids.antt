-- The chain of p is the list of its children in the order of their keys.
use Prim.Native.Nat.{ℕ, zero, suc, ◌+◌, ◌≤◌, ◌<◌}
use mathlib.Core.Path.{◌≡◌, refl, sym, ap, ◌∙◌, subst}
use mathlib.Core.Bool.{Bool, true, false, cond}
use mathlib.Core.Logic.{◌⊎◌, inl, inr, ⊎_elim}
use mathlib.Core.List.{List, [], ◌∷◌}
use native.Mathlib.Omega.{arith}
use native.Mathlib.Nat.{eq-or-lt_of_le}
use lib.Dec.{ltb, eqb}
use borrow.Author.Tests.{ltb-true, ltb-false, eqb-true, eqb-false}
use Rattle.facts.proofs.Chains.{rising_low, linked_chained, rest}
use Rattle.facts.specs.Table.{key_of, parent_of, child_of}
use Rattle.facts.specs.Links.{Kid, In, Seg, Rising}
use Rattle.facts.specs.Linked.{Linked}
use Rattle.facts.specs.State.{ins, kids}
use Rattle.facts.specs.Linked.{kids_of}

-- two lists whose keys rise, with the same members, are equal
pub rising_eq : (t : List ℕ) (a b : ℕ) (l m : List ℕ) → Rising t a l → Rising t b m → ((x : ℕ) → In x l → In x m) → ((x : ℕ) → In x m → In x l) → l ≡ m
rising_eq t a b [] [] hl hm f g = refl
rising_eq t a b [] (y ∷ m) hl hm f g = absurd (g y (inl refl))
rising_eq t a b (x ∷ l) [] hl hm f g = absurd (f x (inl refl))
rising_eq t a b (x ∷ l) (y ∷ m) hl hm f g =
    λ i. e i ∷ rising_eq t (key_of t x + 1) (key_of t y + 1) l m hl.1 hm.1
    (λ z j. ⊎_elim (λ (q : z ≡ y). absurd (out l hl.1 (subst (λ (w : ℕ). In w l) (q ∙ sym e) j))) (λ k. k) (f z (inr j)))
    (λ z j. ⊎_elim (λ (q : z ≡ x). absurd (out' m hm.1 (subst (λ (w : ℕ). In w m) (q ∙ e) j))) (λ k. k) (g z (inr j))) i
  where
    e : x ≡ y
    e = ⊎_elim (λ q. q) (λ (j : In x m). ⊎_elim (λ q. sym q)
        (λ (k : In y l). let v = rising_low t (key_of t y + 1) m x hm.1 j in let w = rising_low t (key_of t x + 1) l y hl.1 k in absurd (omega arith))
        (g y (inl refl))) (f x (inl refl))

    out : (l : List ℕ) → Rising t (key_of t x + 1) l → In x l → ⊥
    out l h j = let v = rising_low t (key_of t x + 1) l x h j in omega arith

    out' : (l : List ℕ) → Rising t (key_of t y + 1) l → In y l → ⊥
    out' l h j = let v = rising_low t (key_of t y + 1) l y h j in omega arith

module _ (t : List ℕ) where
  pub ins_in : (r z : ℕ) (ms : List ℕ) → In z (ins (key_of t) r ms) → (z ≡ r) ⊎ In z ms
  unfolding ins
  ins_in r z [] i = i
  ins_in r z (m ∷ ms) i = go (ltb (key_of t r) (key_of t m)) (ins_in r z ms) i
    where
      go : (b : Bool) → (In z (ins (key_of t) r ms) → (z ≡ r) ⊎ In z ms) → In z (cond b (r ∷ m ∷ ms) (m ∷ ins (key_of t) r ms)) → (z ≡ r) ⊎ In z (m ∷ ms)
      go true f j = j
      go false f (inl e) = inr (inl e)
      go false f (inr j) = ⊎_elim (λ (e : z ≡ r). inl e) (λ k. inr (inr k)) (f j)

  pub in_ins : (r z : ℕ) (ms : List ℕ) → (z ≡ r) ⊎ In z ms → In z (ins (key_of t) r ms)
  unfolding ins
  in_ins r z [] i = i
  in_ins r z (m ∷ ms) i = go (ltb (key_of t r) (key_of t m)) (in_ins r z ms) i
    where
      go : (b : Bool) → ((z ≡ r) ⊎ In z ms → In z (ins (key_of t) r ms)) → (z ≡ r) ⊎ In z (m ∷ ms) → In z (cond b (r ∷ m ∷ ms) (m ∷ ins (key_of t) r ms))
      go true f j = j
      go false f (inl e) = inr (f (inl e))
      go false f (inr (inl e)) = inl e
      go false f (inr (inr j)) = inr (f (inr j))

  pub ins_rising : (b r : ℕ) (ms : List ℕ) → Rising t b ms → b ≤ key_of t r → ((m : ℕ) → In m ms → key_of t m ≡ key_of t r → ⊥) → Rising t b (ins (key_of t) r ms)
  unfolding ins
  ins_rising b r [] h k n = (k, tt)
  ins_rising b r (m ∷ ms) h k n = go (ltb (key_of t r) (key_of t m)) refl (λ l. ins_rising (key_of t m + 1) r ms h.1 l (λ x i. n x (inr i)))
    where
      go : (c : Bool) → ltb (key_of t r) (key_of t m) ≡ c → (key_of t m + 1 ≤ key_of t r → Rising t (key_of t m + 1) (ins (key_of t) r ms))
          → Rising t b (cond c (r ∷ m ∷ ms) (m ∷ ins (key_of t) r ms))
      go true e f = (k, (let l = ltb-true (key_of t r) (key_of t m) e in omega arith, h.1))
      go false e f = (h.0, f (let l = ltb-false (key_of t r) (key_of t m) e in let d = n m (inl refl) in omega arith))

  module _ (p : ℕ) where
    -- the children up to n
    pub kids_in_lem : (n z : ℕ) → In z (kids (key_of t) (parent_of t) p n) → Kid t n p z
    unfolding kids
    kids_in_lem zero z i = absurd i
    kids_in_lem (suc n) z i = go (eqb (parent_of t (suc n)) p) refl (ltb p (suc n)) refl (kids_in_lem n z) i
      where
        up : Kid t n p z → Kid t (suc n) p z
        up K = record { above = K.above; used = let h = K.used in omega arith; parent = K.parent }

        go : (a : Bool) → eqb (parent_of t (suc n)) p ≡ a → (b : Bool) → ltb p (suc n) ≡ b → (In z (kids (key_of t) (parent_of t) p n) → Kid t n p z)
            → In z (cond a (cond b (ins (key_of t) (suc n) (kids (key_of t) (parent_of t) p n)) (kids (key_of t) (parent_of t) p n)) (kids (key_of t) (parent_of t) p n)) → Kid t (suc n) p z
        go true e true q f j = ⊎_elim
            (λ (w : z ≡ suc n). rw w (record { above = ltb-true p (suc n) q; used = omega arith; parent = eqb-true (parent_of t (suc n)) p e }))
            (λ k. up (f k)) (ins_in (suc n) z (kids (key_of t) (parent_of t) p n) j)
        go true e false q f j = up (f j)
        go false e b q f j = up (f j)

    pub in_kids : (n z : ℕ) → Kid t n p z → In z (kids (key_of t) (parent_of t) p n)
    unfolding kids
    in_kids zero z K = let a = K.above in let b = K.used in absurd (omega arith)
    in_kids (suc n) z K = go (eqb (parent_of t (suc n)) p) refl (ltb p (suc n)) refl (in_kids n z) (eq-or-lt_of_le K.used)
      where
        dn : z < suc n → Kid t n p z
        dn l = record { above = K.above; used = omega arith; parent = K.parent }

        go : (a : Bool) → eqb (parent_of t (suc n)) p ≡ a → (b : Bool) → ltb p (suc n) ≡ b → (Kid t n p z → In z (kids (key_of t) (parent_of t) p n)) → (z ≡ suc n) ⊎ (z < suc n)
            → In z (cond a (cond b (ins (key_of t) (suc n) (kids (key_of t) (parent_of t) p n)) (kids (key_of t) (parent_of t) p n)) (kids (key_of t) (parent_of t) p n))
        go true e true q f (inl w) = in_ins (suc n) z (kids (key_of t) (parent_of t) p n) (inl w)
        go true e true q f (inr l) = in_ins (suc n) z (kids (key_of t) (parent_of t) p n) (inr (f (dn l)))
        go true e false q f (inl w) = let l = ltb-false p (suc n) q in let a = K.above in absurd (omega arith)
        go true e false q f (inr l) = f (dn l)
        go false e b q f (inl w) = absurd (eqb-false (parent_of t (suc n)) p e (ap (λ (x : ℕ). parent_of t x) (sym w) ∙ K.parent))
        go false e b q f (inr l) = f (dn l)

    -- they rise, if no two of the children up to u have one key
    pub kids_rising : (u : ℕ) → ((r s : ℕ) → Kid t u p r → Kid t u p s → key_of t r ≡ key_of t s → r ≡ s) → (n : ℕ) → n ≤ u →
        Rising t 0 (kids (key_of t) (parent_of t) p n)
    unfolding kids
    kids_rising u one zero h = tt
    kids_rising u one (suc n) h = go (eqb (parent_of t (suc n)) p) refl (ltb p (suc n)) refl (kids_rising u one n (omega arith))
      where
        go : (a : Bool) → eqb (parent_of t (suc n)) p ≡ a → (b : Bool) → ltb p (suc n) ≡ b → Rising t 0 (kids (key_of t) (parent_of t) p n)
            → Rising t 0 (cond a (cond b (ins (key_of t) (suc n) (kids (key_of t) (parent_of t) p n)) (kids (key_of t) (parent_of t) p n)) (kids (key_of t) (parent_of t) p n))
        go true e true q r = ins_rising 0 (suc n) (kids (key_of t) (parent_of t) p n) r (omega arith)
            (λ m i k. let K = kids_in_lem n m i in
            let J : Kid t u p m = record { above = K.above; used = let x = K.used in omega arith; parent = K.parent } in
            let M : Kid t u p (suc n) = record { above = ltb-true p (suc n) q; used = h; parent = eqb-true (parent_of t (suc n)) p e } in
            let w = one m (suc n) J M k in let x = K.used in omega arith)
        go true e false q r = r
        go false e b q r = r

-- the chain of p is the list of its children
pub chain_kids : (t : List ℕ) (u p : ℕ) → Linked t u → 1 ≤ p → p ≤ u → Seg t (child_of t p) (kids_of t u p) 0
chain_kids t u p L p1 pu =
    let S = linked_chained t u L in
    let C = S.chain p p1 pu in
    let R = rest t u S p p1 pu in
    let e : C.members ≡ kids_of t u p = rising_eq t 0 0 C.members (kids_of t u p) C.rising (kids_rising t p u (λ r s. L.distinct p r s p1) u (omega arith))
    (λ x i. in_kids t p u x (C.kids x i)) (λ x i. R.all x (kids_in_lem t p u x i) (omega arith)) in
    rw e at C.whole
