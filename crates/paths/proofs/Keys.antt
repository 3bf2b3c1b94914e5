-- Paths that begin with others, and the first key of a path: all on the way to it have it too, but for the root.
use Rattle.std.proofs.Common.{◌≡◌, ℕ, zero, suc, ◌<◌, ◌≤◌, ◌⊎◌, List, [], ◌∷◌, ◌++◌, length, sym, refl, ap, ◌∙◌, inl, inr, eq-or-lt_of_le, arith}
use Rattle.facts.specs.State.{Node, node_of}
use Rattle.paths.specs.Order.{Ordered}
use Rattle.paths.specs.Path.{path_of}
use Rattle.paths.specs.Changes.{Starts, Begins, Toward}
use Rattle.paths.proofs.Reach.{path_of_lem}
use Rattle.paths.proofs.PathLaws.{root_path, path_some}

pub starts_self : (p : List ℕ) → Starts p p
starts_self [] = tt
starts_self (k ∷ p) = (refl, starts_self p)

pub starts_more : (p path rest : List ℕ) → Starts p path → Starts p (path ++ rest)
starts_more [] path rest h = tt
starts_more (k ∷ p) [] rest h = absurd h
starts_more (k ∷ p) (j ∷ path) rest h = (h.0, starts_more p path rest h.1)

-- what begins with p is p with more keys
pub starts_rest : (p path : List ℕ) → Starts p path → (rest : List ℕ) × (path ≡ p ++ rest)
starts_rest [] path h = (path, refl)
starts_rest (k ∷ p) [] h = absurd h
starts_rest (k ∷ p) (j ∷ path) h = let r = starts_rest p path h.1 in (r.0, λ i. sym h.0 i ∷ r.1 i)

pub toward_self : (p : List ℕ) → (p ≡ [] → ⊥) → Toward p p
toward_self p n = record { starts = starts_self p; not_root = n }

-- all on the way to a path begin with its first key
pub toward_begins : (a : ℕ) (path p : List ℕ) → Begins a path → Toward path p → Begins a p
toward_begins a path [] h T = absurd (T.not_root refl)
toward_begins a [] (k ∷ p) h T = absurd h
toward_begins a (j ∷ path) (k ∷ p) h T = (h.0 ∙ sym T.starts.0, tt)

pub begins_once : (a b : ℕ) (path : List ℕ) → Begins a path → Begins b path → a ≡ b
begins_once a b [] h g = absurd h
begins_once a b (j ∷ path) h g = h.0 ∙ sym g.0

-- a child of the root begins with its own key, and every other one as its parent does
pub begins_root : (s : List Node) (k : ℕ) → Begins k (path_of s 1 ++ k ∷ [])
begins_root s k = rw (root_path s) (refl, tt)

pub begins_more : (a k : ℕ) (path : List ℕ) → Begins a path → Begins a (path ++ k ∷ [])
begins_more a k path h = starts_more (a ∷ []) path (k ∷ []) h

-- the child of the root on the way to r
pub record Branch (s : List Node) (r : ℕ) : Type 0 where
  pub number : ℕ
  pub above : 1 < number
  pub within : number ≤ r
  pub parent : (node_of s number).parent ≡ 1
  pub path : path_of s number ≡ (node_of s number).key ∷ []
  pub begins : Begins (node_of s number).key (path_of s r)

module _ (s : List Node) (O : Ordered s) where
  pub begins_parent : (a r : ℕ) → 1 < r → r ≤ length s → 1 < (node_of s r).parent → Begins a (path_of s r) → Begins a (path_of s (node_of s r).parent)
  begins_parent a r r1 h p1 b =
      let w = O.lower r r1 h in
      let p = path_of s (node_of s r).parent in
      toward_begins a (p ++ (node_of s r).key ∷ []) p (rw (path_of_lem s r O r1 h) at b) (record {
        starts = starts_more p p ((node_of s r).key ∷ []) (starts_self p);
        not_root = path_some s O (node_of s r).parent p1 (omega arith);
      })

  -- n bounds the numbers
  branch_to : (n r : ℕ) → r ≤ n → 1 < r → r ≤ length s → Branch s r
  branch_to zero r rn r1 h = absurd (omega arith)
  branch_to (suc n) r rn r1 h = go (eq-or-lt_of_le (O.lower r r1 h).0) (branch_to n (node_of s r).parent)
    where
      step : path_of s r ≡ path_of s (node_of s r).parent ++ (node_of s r).key ∷ []
      step = path_of_lem s r O r1 h

      go : (1 ≡ (node_of s r).parent) ⊎ (1 < (node_of s r).parent)
          → ((node_of s r).parent ≤ n → 1 < (node_of s r).parent → (node_of s r).parent ≤ length s → Branch s (node_of s r).parent) → Branch s r
      go (inl e) f =
          let q : path_of s r ≡ (node_of s r).key ∷ [] =
          step ∙ ap (λ (x : ℕ). path_of s x ++ (node_of s r).key ∷ []) (sym e)
          ∙ ap (λ (x : List ℕ). x ++ (node_of s r).key ∷ []) (root_path s) in
          record { number = r; above = r1; within = omega arith; parent = sym e; path = q; begins = rw q (refl, tt) }
      go (inr l) f =
          let w = O.lower r r1 h in
          let B = f (omega arith) l (omega arith) in
          record {
            number = B.number;
            above = B.above;
            within = let b = B.within in omega arith;
            parent = B.parent;
            path = B.path;
            begins = rw step (begins_more (node_of s B.number).key (node_of s r).key (path_of s (node_of s r).parent) B.begins);
          }

  pub branch : (r : ℕ) → 1 < r → r ≤ length s → Branch s r
  branch r r1 h = branch_to r r (omega arith) r1 h
