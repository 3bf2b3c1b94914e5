-- The fact at a path: what the node that a walk along the path finds says; and facts that agree.
use Rattle.std.proofs.Common.{◌≡◌, ℕ, List, [], ◌∷◌, ◌++◌, sym, refl, ap, ◌∙◌, append_assoc, append-nil, arith}
use Rattle.facts.specs.Formed.{Formed}
use Rattle.facts.specs.State.{Node, node_of}
use Rattle.paths.specs.Order.{Ordered}
use Rattle.paths.specs.Path.{FactAt, AgreeUnder}
use Rattle.paths.specs.Looking.{number_at}
use Rattle.paths.proofs.PathLaws.{Stands, number_stands, stands_number}

-- r is seen, with this kind, count and name
pub record Says (s : List Node) (r kind count name : ℕ) : Type 0 where
  pub seen : (node_of s r).seen ≡ 1
  pub has_kind : (node_of s r).kind ≡ kind
  pub has_count : (node_of s r).count ≡ count
  pub has_name : (node_of s r).name ≡ name

-- a node that is the same says the same
pub says_same : (s s' : List Node) (r kind count name : ℕ) → node_of s' r ≡ node_of s r → Says s r kind count name → Says s' r kind count name
says_same s s' r kind count name e S = record {
  seen = ap (λ (n : Node). n.seen) e ∙ S.seen;
  has_kind = ap (λ (n : Node). n.kind) e ∙ S.has_kind;
  has_count = ap (λ (n : Node). n.count) e ∙ S.has_count;
  has_name = ap (λ (n : Node). n.name) e ∙ S.has_name;
}

pub stands_fact : (s : List Node) (p : List ℕ) (r kind count name : ℕ) → Stands s p r → Says s r kind count name → FactAt s p kind count name
stands_fact s p r kind count name T S = record {
  number = r;
  from = T.from;
  within = T.within;
  seen = S.seen;
  has_path = T.path;
  has_kind = S.has_kind;
  has_count = S.has_count;
  has_name = S.has_name;
}

pub fact_stands : (s : List Node) (p : List ℕ) (kind count name : ℕ) (f : FactAt s p kind count name) → Stands s p f.number
fact_stands s p kind count name f = record { from = f.from; within = f.within; path = f.has_path }

pub fact_says : (s : List Node) (p : List ℕ) (kind count name : ℕ) (f : FactAt s p kind count name) → Says s f.number kind count name
fact_says s p kind count name f =
    record { seen = f.seen; has_kind = f.has_kind; has_count = f.has_count; has_name = f.has_name }

-- what r says, as a fact
pub fact_of : (s : List Node) (p : List ℕ) (r : ℕ) → Stands s p r → (node_of s r).seen ≡ 1 → FactAt s p (node_of s r).kind (node_of s r).count (node_of s r).name
fact_of s p r T y =
    stands_fact s p r (node_of s r).kind (node_of s r).count (node_of s r).name T (record { seen = y; has_kind = refl; has_count = refl; has_name = refl })

pub number_fact : (s : List Node) → Ordered s → (p : List ℕ) (kind count name : ℕ) → (number_at s p ≡ 0 → ⊥) → Says s (number_at s p) kind count name
    → FactAt s p kind count name
number_fact s O p kind count name n S = stands_fact s p (number_at s p) kind count name (number_stands s O p n) S

module _ (s : List Node) (F : Formed s) (p : List ℕ) where
  -- the node with the path of a fact says the fact
  pub fact_here : (r kind count name : ℕ) → Stands s p r → FactAt s p kind count name → Says s r kind count name
  fact_here r kind count name T f =
      rw (sym (stands_number s F p f.number (fact_stands s p kind count name f)) ∙ stands_number s F p r T) at (fact_says s p kind count name f)

  pub fact_number : (kind count name : ℕ) → FactAt s p kind count name → (number_at s p ≡ 0 → ⊥) × Says s (number_at s p) kind count name
  fact_number kind count name f =
      let e = stands_number s F p f.number (fact_stands s p kind count name f) in
      ((λ z. let h = f.from in omega arith), rw e (fact_says s p kind count name f))

  -- a path has one fact at most
  pub fact_once : (kind count name kind' count' name' : ℕ) → FactAt s p kind count name → FactAt s p kind' count' name'
      → (kind ≡ kind') × (count ≡ count') × (name ≡ name')
  fact_once kind count name kind' count' name' f g =
      let S = fact_here g.number kind count name (fact_stands s p kind' count' name' g) f in
      (sym S.has_kind ∙ g.has_kind, sym S.has_count ∙ g.has_count, sym S.has_name ∙ g.has_name)

-- facts that agree
pub agree_back : (p : List ℕ) (s s' : List Node) → AgreeUnder p s s' → AgreeUnder p s' s
agree_back p s s' A rest kind count name = ((A rest kind count name).1, (A rest kind count name).0)

pub agree_trans : (p : List ℕ) (s t u : List Node) → AgreeUnder p s t → AgreeUnder p t u → AgreeUnder p s u
agree_trans p s t u A B rest kind count name =
    ((λ f. (B rest kind count name).0 ((A rest kind count name).0 f)), (λ f. (A rest kind count name).1 ((B rest kind count name).1 f)))

-- what agrees below p agrees below each path that continues it
pub agree_down : (p : List ℕ) (k : ℕ) (s s' : List Node) → AgreeUnder p s s' → AgreeUnder (p ++ k ∷ []) s s'
agree_down p k s s' A rest kind count name = rw (append_assoc p (k ∷ []) rest) (A (k ∷ rest) kind count name)

-- the fact that the other state has at the path p
pub fact_there : (s s' : List Node) (p : List ℕ) (r : ℕ) → Stands s p r → (node_of s r).seen ≡ 1 → AgreeUnder p s s'
    → FactAt s' p (node_of s r).kind (node_of s r).count (node_of s r).name
fact_there s s' p r T y A =
    rw (append-nil p) at ((A [] (node_of s r).kind (node_of s r).count (node_of s r).name).0 (rw (append-nil p) (fact_of s p r T y)))
