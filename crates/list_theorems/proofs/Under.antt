-- Nodes of two states that have one path, below which the facts agree: their fields are the same, and each seen child
-- has one beside it.
use Prim.Native.Nat.{ℕ}
use mathlib.Core.Path.{◌≡◌, sym, ap, ◌∙◌}
use mathlib.Core.List.{List, [], ◌∷◌, ◌++◌}
use native.Mathlib.Omega.{arith}
use Rattle.facts.specs.Formed.{Formed}
use Rattle.facts.specs.State.{Node, node_of}
use Rattle.paths.specs.Path.{AgreeUnder}
use Rattle.paths.proofs.Sounds.{formed_ordered}
use Rattle.paths.proofs.PathLaws.{Stands, child_path, stands_child}
use Rattle.paths.proofs.Agreeing.{fact_stands, fact_here, fact_there, agree_back}
use Rattle.budget.proofs.KidLaws.{Child}

-- r in s and r' in s' have the path p, are seen, and below it the facts agree
pub record Same (s s' : List Node) (p : List ℕ) (r r' : ℕ) : Type 0 where
  pub here : Stands s p r
  pub there : Stands s' p r'
  pub seen : (node_of s r).seen ≡ 1
  pub seen' : (node_of s' r').seen ≡ 1
  pub agree : AgreeUnder p s s'

-- c is a seen child of r at the key k
pub record SeenChild (s : List Node) (r k c : ℕ) : Type 0 where
  pub child : Child s r c
  pub seen : (node_of s c).seen ≡ 1
  pub key : (node_of s c).key ≡ k

-- r' has a child at k too, and its facts agree with those of c
pub record Beside (s s' : List Node) (p : List ℕ) (k r' c : ℕ) : Type 0 where
  pub number : ℕ
  pub at : SeenChild s' r' k number
  pub same : Same s s' (p ++ k ∷ []) c number

pub same_back : (s s' : List Node) (p : List ℕ) (r r' : ℕ) → Same s s' p r r' → Same s' s p r' r
same_back s s' p r r' S =
    record { here = S.there; there = S.here; seen = S.seen'; seen' = S.seen; agree = agree_back p s s' S.agree }

module _ (s s' : List Node) (F : Formed s) (F' : Formed s') where
  pub same_fields : (p : List ℕ) (r r' : ℕ) → Same s s' p r r'
      → ((node_of s r).kind ≡ (node_of s' r').kind) × ((node_of s r).count ≡ (node_of s' r').count) × ((node_of s r).name ≡ (node_of s' r').name)
  same_fields p r r' S =
      let f = fact_there s s' p r S.here S.seen S.agree in
      let h = fact_here s' F' p r' (node_of s r).kind (node_of s r).count (node_of s r).name S.there f in
      (sym h.has_kind, sym h.has_count, sym h.has_name)

  child_stands : (p : List ℕ) (r k c : ℕ) → Stands s p r → SeenChild s r k c → Stands s (p ++ k ∷ []) c
  child_stands p r k c T C =
      let a = C.child.above in let b = T.from in
      record {
        from = omega arith;
        within = C.child.within;
        path = child_path s (formed_ordered s F) r k c (omega arith) C.child.within C.child.parent C.key ∙ ap (λ (x : List ℕ). x ++ k ∷ []) T.path;
      }

  pub child_beside : (p : List ℕ) (r r' k c : ℕ) → Stands s p r → Stands s' p r' → AgreeUnder (p ++ k ∷ []) s s' → SeenChild s r k c → Beside s s' p k r' c
  child_beside p r r' k c T T' A C =
      let D = child_stands p r k c T C in
      let f = fact_there s s' (p ++ k ∷ []) c D C.seen A in
      let D' = fact_stands s' (p ++ k ∷ []) (node_of s c).kind (node_of s c).count (node_of s c).name f in
      let h = stands_child s' F' p r' k f.number T' D' in
      record {
        number = f.number;
        at = record { child = record { above = h.0; within = f.within; parent = h.1 }; seen = f.seen; key = h.2 };
        same = record { here = D; there = D'; seen = C.seen; seen' = f.seen; agree = A };
      }
