-- The words that a closing fills, line by line of the code.
use Prim.Native.Nat.{ℕ, zero, suc, ◌≤◌}
use mathlib.Core.Path.{◌≡◌, refl, sym, ap, ◌∙◌}
use mathlib.Core.Bool.{Bool, true, false, cond, true≢false}
use mathlib.Core.Logic.{inl, inr, ⊎_elim}
use mathlib.Core.List.{List, [], ◌∷◌}
use native.Mathlib.Omega.{arith}
use lib.Dec.{eqb}
use lib.ListN.{length}
use Rattle.facts.specs.Links.{In}
use Rattle.facts.specs.State.{Node, nodes, node_of, kids_in}
use Rattle.facts.proofs.Encode.{kids_nodes}
use Rattle.facts.proofs.Kids.{kids_in_lem}
use Rattle.kinds.specs.Kinds.{dynamic_below, has_dynamic}
use Rattle.list.specs.Seen.{seen_ones}
use Rattle.closing.specs.declared.Dynamics.{Dynamics}
use Rattle.closing.specs.Words.{dynamic_ones, dynamic_args}
use Rattle.closing.specs.declared.Dynamics.TheVariants.{Nothing, One}
use Rattle.closing.specs.declared.Dynamics.TheVariants as met
use Rattle.closing.specs.Dynamics.{summary, resume}

-- an unseen record is no dynamic argument
plain_below : (n : ℕ) (s : List Node) (r : ℕ) → eqb (node_of s r).seen 1 ≡ false → dynamic_below n s r ≡ false
unfolding dynamic_below
plain_below zero s r e = refl
plain_below (suc n) s r e = rw e refl

unseen_plain : (s : List Node) (r : ℕ) → eqb (node_of s r).seen 1 ≡ false → has_dynamic s r ≡ false
unfolding has_dynamic
unseen_plain s r e = plain_below (length s) s r e

dynamic_seen : (s : List Node) (ms : List ℕ) → dynamic_ones s (seen_ones s ms) ≡ dynamic_ones s ms
unfolding dynamic_ones seen_ones
dynamic_seen s [] = refl
dynamic_seen s (m ∷ ms) = go (eqb (node_of s m).seen 1) refl (dynamic_seen s ms)
  where
    go : (b : Bool) → eqb (node_of s m).seen 1 ≡ b → dynamic_ones s (seen_ones s ms) ≡ dynamic_ones s ms
        → dynamic_ones s (cond b (m ∷ seen_ones s ms) (seen_ones s ms)) ≡ cond (has_dynamic s m) (m ∷ dynamic_ones s ms) (dynamic_ones s ms)
    go true h q = ap (λ (rs : List ℕ). cond (has_dynamic s m) (m ∷ rs) rs) q
    go false h q = rw (unseen_plain s m h) q

-- nothing is left
resume_none : (m : Dynamics) → resume m [] ≡ m
resume_none Nothing = refl
resume_none (One r) = refl
resume_none met.More = refl

-- one was met
resume_first : (c : ℕ) (rs : List ℕ) → resume (One c) rs ≡ summary (c ∷ rs)
resume_first c [] = refl
resume_first c (q ∷ rs) = refl

resume_second : (m : Dynamics) (c : ℕ) (rs : List ℕ) → (m ≡ Nothing → ⊥) → resume m (c ∷ rs) ≡ met.More
resume_second Nothing c rs n = absurd (n refl)
resume_second (One r) c rs n = refl
resume_second met.More c rs n = refl

-- a walk of the root's children has ns before it: what was met and what is left say it all
pub record Seeking (s : List Node) (seen : Dynamics) (ns : List ℕ) : Type 0 where
  pub kids : (m : ℕ) → In m ns → In m (kids_in s 1)
  pub same : resume seen (dynamic_ones s ns) ≡ summary (dynamic_args s)

pub seeking_start : (s : List Node) (ns : List ℕ) → ns ≡ kids_in s 1 → Seeking s Nothing ns
seeking_start s ns e = rw e (record { kids = λ m i. i; same = ap summary (sym (dynamic_seen s (kids_in s 1))) })

module _ (s : List Node) (seen : Dynamics) (ms ns : List ℕ) (c : ℕ) (I : Seeking s seen ms) (is : ms ≡ c ∷ ns) where
  left : resume seen (cond (has_dynamic s c) (c ∷ dynamic_ones s ns) (dynamic_ones s ns)) ≡ summary (dynamic_args s)
  unfolding dynamic_ones
  left = sym (ap (λ (l : List ℕ). resume seen (dynamic_ones s l)) is) ∙ I.same

  kids : (m : ℕ) → In m ns → In m (kids_in s 1)
  kids m i = I.kids m (rw is (inr i))

  pub seeking_kid : In c (kids_in s 1)
  seeking_kid = I.kids c (rw is (inl refl))

  pub seeking_second : has_dynamic s c ≡ true → (seen ≡ Nothing → ⊥) → met.More ≡ summary (dynamic_args s)
  seeking_second h k = sym (resume_second seen c (dynamic_ones s ns) k) ∙ (rw h at left)

  pub seeking_first : has_dynamic s c ≡ true → seen ≡ Nothing → Seeking s (One c) ns
  seeking_first h k = record {
    kids = kids;
    same = resume_first c (dynamic_ones s ns) ∙ ap (λ (m : Dynamics). resume m (c ∷ dynamic_ones s ns)) (sym k) ∙ (rw h at left);
  }

  pub seeking_next : has_dynamic s c ≡ false → Seeking s seen ns
  seeking_next h = record { kids = kids; same = rw h at left }

pub seeking_done : (s : List Node) (seen : Dynamics) (ms : List ℕ) → Seeking s seen ms → ms ≡ [] → seen ≡ summary (dynamic_args s)
unfolding dynamic_ones
seeking_done s seen ms I z = sym (resume_none seen) ∙ (rw z at I.same)

-- the only one that was met
first_of : Dynamics → ℕ
first_of Nothing = 0
first_of (One r) = r
first_of met.More = 0

is_one : Dynamics → Bool
is_one Nothing = false
is_one (One r) = true
is_one met.More = false

one_met : (l : List ℕ) (r : ℕ) → One r ≡ summary l → l ≡ r ∷ []
unfolding is_one first_of
one_met [] r e = absurd (true≢false (ap is_one e))
one_met (q ∷ []) r e = ap (λ (x : ℕ). x ∷ []) (sym (ap first_of e))
one_met (p ∷ q ∷ rs) r e = absurd (true≢false (ap is_one e))

in_dynamic : (s : List Node) (x : ℕ) (ms : List ℕ) → In x (dynamic_ones s ms) → In x ms
unfolding dynamic_ones
in_dynamic s x [] i = i
in_dynamic s x (m ∷ ms) i = go (has_dynamic s m) i (in_dynamic s x ms)
  where
    go : (b : Bool) → In x (cond b (m ∷ dynamic_ones s ms) (dynamic_ones s ms)) → (In x (dynamic_ones s ms) → In x ms) → In x (m ∷ ms)
    go true j f = ⊎_elim (λ (q : x ≡ m). inl q) (λ k. inr (f k)) j
    go false j f = inr (f j)

-- the one that was met is a used record
pub met_used : (t : List ℕ) (u r : ℕ) → One r ≡ summary (dynamic_args (nodes t u)) → (1 ≤ r) × (r ≤ u)
met_used t u r e =
    let i : In r (dynamic_ones (nodes t u) (kids_in (nodes t u) 1)) =
    rw (sym (dynamic_seen (nodes t u) (kids_in (nodes t u) 1)) ∙ one_met (dynamic_args (nodes t u)) r e) (inl refl) in
    let K = kids_in_lem t 1 u r (rw (kids_nodes t u 1) at (in_dynamic (nodes t u) r (kids_in (nodes t u) 1) i)) in
    let a = K.above in
    (omega arith, K.used)
