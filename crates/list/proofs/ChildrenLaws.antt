-- A fact's seen children, one record of the chain a turn.
use Prim.Native.Nat.{ℕ, zero, suc, ◌+◌, ◌≤◌, ◌<◌, ◌^◌}
use mathlib.Core.Path.{◌≡◌, refl, sym, ap, ◌∙◌}
use mathlib.Core.Bool.{Bool, true, false, ◌&&◌, cond}
use mathlib.Core.Logic.{inl, inr}
use mathlib.Core.List.{List, [], ◌∷◌}
use native.Mathlib.Omega.{arith}
use lib.Dec.{eqb, ltb}
use lib.ListN.{length}
use borrow.Author.Tests.{eq-eqb, ne_eqb}
use Rattle.facts.specs.Links.{In}
use Rattle.facts.specs.State.{Node, node_of, ins, kids, kids_in}
use Rattle.list.specs.Seen.{seen_ones, children_in, is_empty, is_lone_kindless, last_from, last_key}
use Rattle.list.specs.Looks.{kind_from, Looked}
use Rattle.list.specs.declared.Children.{Children}

ins_length : (key : ℕ → ℕ) (r : ℕ) (ms : List ℕ) → length (ins key r ms) ≡ suc (length ms)
unfolding ins
ins_length key r [] = refl
ins_length key r (m ∷ ms) = go (ltb (key r) (key m)) (ins_length key r ms)
  where
    go : (b : Bool) → length (ins key r ms) ≡ suc (length ms) → length (cond b (r ∷ m ∷ ms) (m ∷ ins key r ms)) ≡ suc (length (m ∷ ms))
    go true e = refl
    go false e = ap suc e

kids_length : (key parent : ℕ → ℕ) (p n : ℕ) → length (kids key parent p n) ≤ n
unfolding kids
kids_length key parent p zero = omega arith
kids_length key parent p (suc n) = go (eqb (parent (suc n)) p) (ltb p (suc n)) (kids_length key parent p n)
  where
    go : (a b : Bool) → length (kids key parent p n) ≤ n
        → length (cond a (cond b (ins key (suc n) (kids key parent p n)) (kids key parent p n)) (kids key parent p n)) ≤ suc n
    go true true h = let e = ins_length key (suc n) (kids key parent p n) in omega arith
    go true false h = omega arith
    go false b h = omega arith

seen_length : (s : List Node) (rs : List ℕ) → length (seen_ones s rs) ≤ length rs
unfolding seen_ones
seen_length s [] = omega arith
seen_length s (r ∷ rs) = go (eqb (node_of s r).seen 1) refl (seen_length s rs)
  where
    go : (b : Bool) → eqb (node_of s r).seen 1 ≡ b → length (seen_ones s rs) ≤ length rs → length (seen_ones s (r ∷ rs)) ≤ length (r ∷ rs)
    go true e h = rw e (omega arith)
    go false e h = rw e (omega arith)

pub seen_yes : (s : List Node) (r : ℕ) (rs : List ℕ) → (node_of s r).seen ≡ 1 → seen_ones s (r ∷ rs) ≡ r ∷ seen_ones s rs
unfolding seen_ones
seen_yes s r rs e = rw (eq-eqb (node_of s r).seen 1 e) refl

pub seen_no : (s : List Node) (r : ℕ) (rs : List ℕ) → ((node_of s r).seen ≡ 1 → ⊥) → seen_ones s (r ∷ rs) ≡ seen_ones s rs
unfolding seen_ones
seen_no s r rs n = rw (ne_eqb (node_of s r).seen 1 n) refl

-- a walk of r's children has ns before it: what was seen so far and they come to all of them
pub record Looking (s : List Node) (r count last kind : ℕ) (ns : List ℕ) : Type 0 where
  pub kids : (m : ℕ) → In m ns → In m (kids_in s r)
  pub counted : count + length (seen_ones s ns) ≡ length (children_in s r)
  pub key : last_from s last (seen_ones s ns) ≡ last_key s r
  pub kinds : kind_from s kind (seen_ones s ns) ≡ kind_from s 0 (children_in s r)

pub looking_start : (s : List Node) (r : ℕ) (ns : List ℕ) → ns ≡ kids_in s r → Looking s r 0 0 0 ns
looking_start s r ns e = rw e (record { kids = λ m i. i; counted = omega arith; key = refl; kinds = refl })

module _ (s : List Node) (r count last kind : ℕ) (ms : List ℕ) (I : Looking s r count last kind ms) where
  pub looking_done : (a : Children) → a.count ≡ count → a.last_key ≡ last → a.last_kind ≡ kind → ms ≡ [] → Looked s r a
  unfolding seen_ones last_from kind_from
  looking_done a p q w e = record {
    count = p ∙ (let h = rw e at I.counted in omega arith);
    last = q ∙ (rw e at I.key);
    kind = w ∙ (rw e at I.kinds);
  }

  module _ (ns : List ℕ) (c : ℕ) (is : ms ≡ c ∷ ns) where
    pub looking_kid : In c (kids_in s r)
    looking_kid = I.kids c (rw is (inl refl))

    -- there are no more of them than records
    pub looking_fits : (node_of s c).seen ≡ 1 → length s < 2 ^ 32 → count + 1 < 2 ^ 32
    unfolding kids_in
    looking_fits o h =
        let a = ap length (seen_yes s c ns o) in
        let b = ap (λ (l : List ℕ). length (seen_ones s l)) is in
        let d = I.counted in
        let f = seen_length s (kids_in s r) in
        let g = kids_length (λ x. (node_of s x).key) (λ x. (node_of s x).parent) r (length s) in
        omega arith

    pub looking_seen : (node_of s c).seen ≡ 1 → Looking s r (count + 1) (node_of s c).key (node_of s c).kind ns
    unfolding last_from kind_from
    looking_seen o =
        let y : seen_ones s ms ≡ c ∷ seen_ones s ns = ap (seen_ones s) is ∙ seen_yes s c ns o in
        record {
          kids = λ m i. I.kids m (rw is (inr i));
          counted = let a = ap length y in let b = I.counted in omega arith;
          key = rw y at I.key;
          kinds = rw y at I.kinds;
        }

    pub looking_unseen : ((node_of s c).seen ≡ 1 → ⊥) → Looking s r count last kind ns
    looking_unseen o =
        let y : seen_ones s ms ≡ seen_ones s ns = ap (seen_ones s) is ∙ seen_no s c ns o in
        record {
          kids = λ m i. I.kids m (rw is (inr i));
          counted = let a = ap length y in let b = I.counted in omega arith;
          key = rw y at I.key;
          kinds = rw y at I.kinds;
        }

-- none, and one alone, by how many there are
pub empty_is : (ms : List ℕ) → is_empty ms ≡ eqb (length ms) 0
empty_is [] = refl
empty_is (m ∷ ms) = sym (ne_eqb (suc (length ms)) 0 (λ e. omega arith))

pub lone_is : (s : List Node) (ms : List ℕ) → is_lone_kindless s ms ≡ (eqb (length ms) 1 && eqb (kind_from s 0 ms) 0)
unfolding kind_from
lone_is s [] = refl
lone_is s (m ∷ []) = refl
lone_is s (m ∷ q ∷ ms) = sym (rw (ne_eqb (suc (suc (length ms))) 1 (λ e. omega arith)) refl)

-- a walk of r's children has ns before it, and met no seen one
pub record Unmet (s : List Node) (r : ℕ) (ns : List ℕ) : Type 0 where
  pub kids : (m : ℕ) → In m ns → In m (kids_in s r)
  pub same : seen_ones s ns ≡ children_in s r

pub unmet_start : (s : List Node) (r : ℕ) (ns : List ℕ) → ns ≡ kids_in s r → Unmet s r ns
unmet_start s r ns e = rw e (record { kids = λ m i. i; same = refl })

module _ (s : List Node) (r : ℕ) (ms ns : List ℕ) (c : ℕ) (I : Unmet s r ms) (is : ms ≡ c ∷ ns) where
  pub unmet_kid : In c (kids_in s r)
  unmet_kid = I.kids c (rw is (inl refl))

  pub unmet_met : (node_of s c).seen ≡ 1 → false ≡ is_empty (children_in s r)
  unmet_met o = ap is_empty (sym (seen_yes s c ns o) ∙ sym (ap (seen_ones s) is) ∙ I.same)

  pub unmet_next : ((node_of s c).seen ≡ 1 → ⊥) → Unmet s r ns
  unmet_next o = record {
    kids = λ m i. I.kids m (rw is (inr i));
    same = sym (seen_no s c ns o) ∙ sym (ap (seen_ones s) is) ∙ I.same;
  }

pub unmet_done : (s : List Node) (r : ℕ) (ms : List ℕ) → Unmet s r ms → ms ≡ [] → true ≡ is_empty (children_in s r)
unfolding seen_ones
unmet_done s r ms I e = ap is_empty (sym (ap (seen_ones s) e) ∙ I.same)
