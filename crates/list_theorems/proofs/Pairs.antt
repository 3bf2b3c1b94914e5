-- Two lists of nodes whose keys rise, with the same keys and kinds: the walks see the same in both.
use Prim.Native.Nat.{ℕ, ◌+◌}
use mathlib.Core.Path.{◌≡◌, refl, sym, ap, ◌∙◌}
use mathlib.Core.Logic.{inl, inr}
use mathlib.Core.List.{List, [], ◌∷◌}
use native.Mathlib.Omega.{arith}
use lib.Dec.{eqb}
use Rattle.facts.specs.Links.{In}
use Rattle.facts.specs.State.{Node, node_of}
use Rattle.list.specs.Seen.{is_empty, is_lone_kindless, last_from}
use Rattle.list_theorems.proofs.ByKey.{ByKey, key_low}

-- one of the list has the key and the kind of m
pub record Match (s s' : List Node) (ms' : List ℕ) (m : ℕ) : Type 0 where
  pub number : ℕ
  pub within : In number ms'
  pub key : (node_of s m).key ≡ (node_of s' number).key
  pub kind : (node_of s m).kind ≡ (node_of s' number).kind

-- one beside the other, they have the same keys and kinds
abbrev pub Paired : List Node → List Node → List ℕ → List ℕ → Type 0
Paired s s' [] [] = Unit {0}
Paired s s' [] (m' ∷ ms') = ⊥
Paired s s' (m ∷ ms) [] = ⊥
Paired s s' (m ∷ ms) (m' ∷ ms') = ((node_of s m).key ≡ (node_of s' m').key) × ((node_of s m).kind ≡ (node_of s' m').kind) × Paired s s' ms ms'

module _ (s s' : List Node) (m m' : ℕ) (ms ms' : List ℕ) (B : ByKey s ((node_of s m).key + 1) ms) (B' : ByKey s' ((node_of s' m').key + 1) ms') where
  -- the one of the least key has the other beside it
  firsts : Match s s' (m' ∷ ms') m → Match s' s (m ∷ ms) m' → ((node_of s m).key ≡ (node_of s' m').key) × ((node_of s m).kind ≡ (node_of s' m').kind)
  firsts M N = go M.within N.within
    where
      go : In M.number (m' ∷ ms') → In N.number (m ∷ ms) → ((node_of s m).key ≡ (node_of s' m').key) × ((node_of s m).kind ≡ (node_of s' m').kind)
      go (inl e) j = (M.key ∙ ap (λ (x : ℕ). (node_of s' x).key) e, M.kind ∙ ap (λ (x : ℕ). (node_of s' x).kind) e)
      go (inr i) (inl e) =
          let a = key_low s' ((node_of s' m').key + 1) ms' M.number B' i in
          let b = N.key ∙ ap (λ (x : ℕ). (node_of s x).key) e in
          let c = M.key in
          absurd (omega arith)
      go (inr i) (inr j) =
          let a = key_low s' ((node_of s' m').key + 1) ms' M.number B' i in
          let b = key_low s ((node_of s m).key + 1) ms N.number B j in
          let c = M.key in let d = N.key in
          absurd (omega arith)

  -- a later one has a later one beside it
  later : (node_of s m).key ≡ (node_of s' m').key → (x : ℕ) → In x ms → Match s s' (m' ∷ ms') x → Match s s' ms' x
  later e x i M = go M.within
    where
      go : In M.number (m' ∷ ms') → Match s s' ms' x
      go (inl q) =
          let a = key_low s ((node_of s m).key + 1) ms x B i in
          let b = M.key ∙ ap (λ (y : ℕ). (node_of s' y).key) q in
          absurd (omega arith)
      go (inr j) = record { number = M.number; within = j; key = M.key; kind = M.kind }

pub paired : (s s' : List Node) (b b' : ℕ) (ms ms' : List ℕ) → ByKey s b ms → ByKey s' b' ms' → ((m : ℕ) → In m ms → Match s s' ms' m)
    → ((m : ℕ) → In m ms' → Match s' s ms m) → Paired s s' ms ms'
paired s s' b b' [] [] B B' f g = tt
paired s s' b b' [] (m' ∷ ms') B B' f g = (g m' (inl refl)).within
paired s s' b b' (m ∷ ms) [] B B' f g = (f m (inl refl)).within
paired s s' b b' (m ∷ ms) (m' ∷ ms') B B' f g =
    let e = firsts s s' m m' ms ms' B.1 B'.1 (f m (inl refl)) (g m' (inl refl)) in (
      e.0,
      e.1,
      paired s s' ((node_of s m).key + 1) ((node_of s' m').key + 1) ms ms' B.1 B'.1
          (λ x i. later s s' m m' ms ms' B.1 B'.1 e.0 x i (f x (inr i)))
          (λ x i. later s' s m' m ms' ms B'.1 B.1 (sym e.0) x i (g x (inr i))),
    )

module _ (s s' : List Node) where
  pub empty_same : (ms ms' : List ℕ) → Paired s s' ms ms' → is_empty ms ≡ is_empty ms'
  empty_same [] [] P = refl
  empty_same [] (m' ∷ ms') P = absurd P
  empty_same (m ∷ ms) [] P = absurd P
  empty_same (m ∷ ms) (m' ∷ ms') P = refl

  pub last_same : (k k' : ℕ) (ms ms' : List ℕ) → k ≡ k' → Paired s s' ms ms' → last_from s k ms ≡ last_from s' k' ms'
  unfolding last_from
  last_same k k' [] [] e P = e
  last_same k k' [] (m' ∷ ms') e P = absurd P
  last_same k k' (m ∷ ms) [] e P = absurd P
  last_same k k' (m ∷ ms) (m' ∷ ms') e P = last_same (node_of s m).key (node_of s' m').key ms ms' P.0 P.2

  pub lone_same : (ms ms' : List ℕ) → Paired s s' ms ms' → is_lone_kindless s ms ≡ is_lone_kindless s' ms'
  lone_same [] [] P = refl
  lone_same [] (m' ∷ ms') P = absurd P
  lone_same (m ∷ ms) [] P = absurd P
  lone_same (m ∷ []) (m' ∷ []) P = ap (λ (k : ℕ). eqb k 0) P.1
  lone_same (m ∷ []) (m' ∷ n' ∷ ms') P = absurd P.2
  lone_same (m ∷ n ∷ ms) (m' ∷ []) P = absurd P.2
  lone_same (m ∷ n ∷ ms) (m' ∷ n' ∷ ms') P = refl
