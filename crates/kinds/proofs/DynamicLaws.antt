-- Looking for a kind at a record and below it, child by child.
use Prim.Native.Nat.{ℕ, zero, suc, ◌-◌, ◌≤◌, ◌<◌}
use mathlib.Core.Path.{◌≡◌, refl, sym, ap, ◌∙◌}
use mathlib.Core.Bool.{Bool, true, false, not, ◌&&◌, ◌||◌}
use mathlib.Core.Logic.{inl, inr}
use mathlib.Core.List.{List, [], ◌∷◌}
use native.Mathlib.Omega.{arith}
use lib.Dec.{eqb}
use lib.ListN.{length}
use borrow.Author.Tests.{eq-eqb, ne_eqb}
use Rattle.facts.specs.Links.{In}
use Rattle.facts.specs.State.{Node, nodes, node_of, kids_in}
use Rattle.facts.proofs.Encode.{length_nodes, kids_nodes}
use Rattle.facts.proofs.Kids.{kids_in_lem}
use Rattle.kinds.specs.Kinds.{any_of, dynamic_below, has_dynamic}

-- two tests that agree on the list
any_same : (f g : ℕ → Bool) (ms : List ℕ) → ((m : ℕ) → In m ms → f m ≡ g m) → any_of f ms ≡ any_of g ms
any_same f g [] e = refl
any_same f g (m ∷ ms) e = λ i. e m (inl refl) i || any_same f g ms (λ x j. e x (inr j)) i

-- a walk of r's children has ns before it, and none that it passed has a kind at it or below it
pub record Seeking (s : List Node) (r : ℕ) (ns : List ℕ) : Type 0 where
  pub kids : (m : ℕ) → In m ns → In m (kids_in s r)
  pub same : any_of (has_dynamic s) ns ≡ any_of (has_dynamic s) (kids_in s r)

pub seeking_start : (s : List Node) (r : ℕ) (ns : List ℕ) → ns ≡ kids_in s r → Seeking s r ns
seeking_start s r ns e = rw e (record { kids = λ m i. i; same = refl })

module _ (s : List Node) (r : ℕ) (ms ns : List ℕ) (c : ℕ) (I : Seeking s r ms) (is : ms ≡ c ∷ ns) where
  pub seeking_kid : In c (kids_in s r)
  seeking_kid = I.kids c (rw is (inl refl))

  pub seeking_found : (b : Bool) → b ≡ has_dynamic s c → b ≡ true → any_of (has_dynamic s) (kids_in s r) ≡ true
  seeking_found b h w = sym I.same ∙ ap (any_of (has_dynamic s)) is ∙ ap (λ (a : Bool). a || any_of (has_dynamic s) ns) (sym h ∙ w)

  pub seeking_next : (b : Bool) → b ≡ has_dynamic s c → b ≡ false → Seeking s r ns
  seeking_next b h w = record {
    kids = λ m i. I.kids m (rw is (inr i));
    same = ap (λ (a : Bool). a || any_of (has_dynamic s) ns) (sym w ∙ h) ∙ sym (ap (any_of (has_dynamic s)) is) ∙ I.same;
  }

pub seeking_done : (s : List Node) (r : ℕ) (ms : List ℕ) → Seeking s r ms → ms ≡ [] → any_of (has_dynamic s) (kids_in s r) ≡ false
seeking_done s r ms I e = sym I.same ∙ ap (any_of (has_dynamic s)) e

module _ (t : List ℕ) (u : ℕ) where
  -- what r alone says, with the answer for its children
  abbrev told : ℕ → Bool → Bool
  told r b = eqb (node_of (nodes t u) r).seen 1 && (not (eqb (node_of (nodes t u) r).kind 0) || b)

  -- a child has a higher number, so that more levels than there are numbers above r tell nothing more
  levels : (d e r : ℕ) → u - r < d → u - r < e → dynamic_below d (nodes t u) r ≡ dynamic_below e (nodes t u) r
  unfolding dynamic_below
  levels zero e r hd he = absurd (omega arith)
  levels (suc d) zero r hd he = absurd (omega arith)
  levels (suc d) (suc e) r hd he =
      ap (told r) (any_same (dynamic_below d (nodes t u)) (dynamic_below e (nodes t u)) (kids_in (nodes t u) r)
      (λ m i. let K = kids_in_lem t r u m (rw (kids_nodes t u r) at i) in let a = K.above in let b = K.used in levels d e m (omega arith) (omega arith)))

  -- the Rust's line: a kind, or any of the children
  pub dynamic_is : (r : ℕ) → 1 ≤ r → r ≤ u → has_dynamic (nodes t u) r ≡ told r (any_of (has_dynamic (nodes t u)) (kids_in (nodes t u) r))
  unfolding has_dynamic dynamic_below
  dynamic_is r r1 ru =
      let l = length_nodes t u in
      levels (length (nodes t u)) (suc (length (nodes t u))) r (omega arith) (omega arith)

  module _ (r : ℕ) (r1 : 1 ≤ r) (ru : r ≤ u) where
    pub dynamic_unseen : eqb (node_of (nodes t u) r).seen 1 ≡ false → false ≡ has_dynamic (nodes t u) r
    dynamic_unseen n = sym (dynamic_is r r1 ru ∙ rw n refl)

    pub dynamic_here : eqb (node_of (nodes t u) r).seen 1 ≡ true → ((node_of (nodes t u) r).kind ≡ 0 → ⊥) → true ≡ has_dynamic (nodes t u) r
    dynamic_here z n = sym (dynamic_is r r1 ru ∙ rw (z, ne_eqb (node_of (nodes t u) r).kind 0 n) refl)

    -- else the children say it
    pub dynamic_kids : (b : Bool) → eqb (node_of (nodes t u) r).seen 1 ≡ true → (node_of (nodes t u) r).kind ≡ 0
        → any_of (has_dynamic (nodes t u)) (kids_in (nodes t u) r) ≡ b → b ≡ has_dynamic (nodes t u) r
    dynamic_kids b z y e = sym (dynamic_is r r1 ru ∙ rw (z, eq-eqb (node_of (nodes t u) r).kind 0 y) e)
