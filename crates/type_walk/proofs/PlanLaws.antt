-- What is written for a fact is its type's codes: `codes_plan`.
use Prim.Native.Nat.{ℕ, zero, suc, ◌+◌, ◌-◌, ◌*◌, ◌/◌, ◌≤◌, max}
use mathlib.Core.Path.{◌≡◌, refl, sym, ap, ◌∙◌}
use mathlib.Core.Bool.{Bool, true, false, false≢true, cond, not, ◌&&◌, ◌||◌, and-eq-true_iff}
use mathlib.Core.List.{List, [], ◌∷◌, ◌++◌, append-nil}
use native.Mathlib.Omega.{arith}
use lib.Dec.{eqb, leb}
use lib.ListN.{length}
use borrow.Author.Tests.{eqb-true, eq-eqb, le-leb, leb-true}
use Rattle.std.specs.Prelude.{None, Some}
use Rattle.limits.specs.Codes as code
use Rattle.limits.specs.Limits.{word_bytes, kind_dynamic, kind_array, array_count_max, dynamic_count_max}
use Rattle.names.specs.Elementary.{bytes, code_of, is_name}
use Rattle.names.proofs.Codes.{name_is_code}
use Rattle.types.specs.Tree.{AbiType, AbiTypes, elementary, array, count}
use Rattle.types.specs.Codes.{codes, all_codes}
use Rattle.facts.specs.State.{Node, node_of}
use Rattle.facts.specs.Fact.{is_count}
use Rattle.facts.specs.Checks.{is_record}
use Rattle.facts.proofs.Whole.{fact_parts}
use Rattle.paths.specs.Order.{Ordered}
use Rattle.list.specs.Seen.{children_in, is_empty, is_lone_kindless, last_key, last_word}
use Rattle.list.specs.Types.{uint256, name_holds, end_key, start_word, word_count, together, second, by_kind, words_with}
use Rattle.list.specs.Types.{type_of, word_types}
use Rattle.list.proofs.TypeLaws.{count_words, type_is}
use Rattle.type_walk.specs.declared.Plan.{Plan}
use Rattle.type_walk.specs.Plan.{plan, tuple_code, open_plan, kind_plan, plan_of, lead, leads}

-- the last word is the word of the end
end_word : (k c : ℕ) → max k (word_bytes * c) ≡ word_bytes → max (k / word_bytes) c ≡ 1
end_word k c e = omega arith

module _ (s : List Node) (r : ℕ) where
  ends : end_key s r ≡ word_bytes → last_word s r ≡ 1
  unfolding end_key last_word
  ends e = end_word (last_key s r) (node_of s r).count e

  -- the codes of a type are those of a plan at r
  abbrev Spelt : AbiType → Plan → Type 0
  Spelt x p = codes x ≡ leads p ++ all_codes (word_types s r p.start p.words)

  either : (b : Bool) (x y : AbiType) (p q : Plan) → (b ≡ true → Spelt x p) → (b ≡ false → Spelt y q) → Spelt (cond b x y) (cond b p q)
  either true x y p q f g = f refl
  either false x y p q f g = g refl

  -- two types and more are a tuple
  tuple_leads : (n w : ℕ) (cs : List ℕ) → 2 ≤ n → (code.tuple + n) ∷ cs ≡ leads (plan (tuple_code n) None w n) ++ cs
  tuple_leads n w cs h = rw (le-leb 2 n h) refl

  -- the types of one word and more, as one
  spelt_together : (w n : ℕ) → 1 ≤ n → Spelt (together (word_types s r w n)) (plan (tuple_code n) None w n)
  unfolding codes all_codes words_with count
  spelt_together w zero h = absurd (omega arith)
  spelt_together w (suc zero) h = sym (append-nil _)
  spelt_together w (suc (suc n)) h =
      ap (λ (k : ℕ). (code.tuple + suc (suc k)) ∷ all_codes (word_types s r w (suc (suc n)))) (count_words (type_of s) s r (suc (suc w)) n)
      ∙ tuple_leads (suc (suc n)) w (all_codes (word_types s r w (suc (suc n)))) (omega arith)

  spelt_array : (w n : ℕ) → 1 ≤ n → Spelt (array (together (word_types s r w n))) (plan (Some code.array) (tuple_code n) w n)
  unfolding codes
  spelt_array w n h =
      ap (λ (cs : List ℕ). code.array ∷ cs) (spelt_together w n h)
      ∙ ap (λ (cs : List ℕ). code.array ∷ (cs ++ all_codes (word_types s r w n))) (append-nil (lead (tuple_code n)))

  spelt_second : (n : ℕ) → n ≡ 1 → Spelt (array (second (word_types s r 0 (suc n)))) (plan (Some code.array) None 1 1)
  unfolding codes all_codes words_with
  spelt_second n e = rw e (ap (λ (cs : List ℕ). code.array ∷ cs) (sym (append-nil _)))

  -- the type of a fact that is no array, from its words' types
  abbrev open_type : AbiTypes → AbiType
  open_type q =
      cond (eqb (node_of s r).kind kind_dynamic && eqb (end_key s r) 0 && is_empty (children_in s r)) (elementary bytes)
      (cond (eqb (node_of s r).kind kind_dynamic && eqb (end_key s r) word_bytes && is_empty (children_in s r)) (array uint256)
      (cond (eqb (node_of s r).kind kind_dynamic && eqb (end_key s r) word_bytes && is_lone_kindless s (children_in s r)) (array (second q)) (together q)))

  spelt_open : Spelt (open_type (word_types s r 0 (suc (last_word s r))))
      (open_plan (node_of s r).kind (is_empty (children_in s r)) (is_lone_kindless s (children_in s r)) (end_key s r) (last_word s r))
  unfolding open_plan codes code_of all_codes words_with
  spelt_open =
      either (eqb (node_of s r).kind kind_dynamic && eqb (end_key s r) 0 && is_empty (children_in s r)) _ _ _ _ (λ _. refl)
      (λ _. either (eqb (node_of s r).kind kind_dynamic && eqb (end_key s r) word_bytes && is_empty (children_in s r)) _ _ _ _ (λ _. refl)
      (λ _. either (eqb (node_of s r).kind kind_dynamic && eqb (end_key s r) word_bytes && is_lone_kindless s (children_in s r)) _ _ _ _
      (λ h. spelt_second (last_word s r) (last_one h))
      (λ _. spelt_together 0 (suc (last_word s r)) (omega arith))))
    where
      last_one : eqb (node_of s r).kind kind_dynamic && eqb (end_key s r) word_bytes && is_lone_kindless s (children_in s r) ≡ true → last_word s r ≡ 1
      last_one h = ends (eqb-true (end_key s r) word_bytes ((and-eq-true_iff (eqb (node_of s r).kind kind_dynamic) (eqb (end_key s r) word_bytes)).0
          ((and-eq-true_iff (eqb (node_of s r).kind kind_dynamic && eqb (end_key s r) word_bytes) (is_lone_kindless s (children_in s r))).0 h).0).1)

  -- the words of an array and of another fact
  spelt_kind : ((node_of s r).kind ≡ kind_array → 1 ≤ last_word s r) → Spelt (by_kind s r (word_types s r (start_word (node_of s r)) (word_count s r))) (kind_plan s r)
  unfolding by_kind kind_plan
  spelt_kind some = go (eqb (node_of s r).kind kind_array) refl
    where
      go : (b : Bool) → eqb (node_of s r).kind kind_array ≡ b
          → Spelt
          (cond b (array (together (word_types s r (cond b 1 0) (suc (last_word s r) - cond b 1 0)))) (open_type (word_types s r (cond b 1 0) (suc (last_word s r) - cond b 1 0))))
          (cond b (plan (Some code.array) (tuple_code (last_word s r)) 1 (last_word s r))
          (open_plan (node_of s r).kind (is_empty (children_in s r)) (is_lone_kindless s (children_in s r)) (end_key s r) (last_word s r)))
      go true e =
          let l : suc (last_word s r) - 1 ≡ last_word s r = omega arith in
          rw l (spelt_array 1 (last_word s r) (some (eqb-true (node_of s r).kind kind_array e)))
      go false e =
          let l : suc (last_word s r) - 0 ≡ suc (last_word s r) = omega arith in
          rw l spelt_open

-- what question 2 says of a fact's count and name
array_some : (n : Node) → is_record n ≡ true → n.kind ≡ kind_array → 1 ≤ n.count
array_some n h e = go (fact_parts n h).fifth
  where
    go : is_count n ≡ true → 1 ≤ n.count
    go q = leb-true 1 n.count ((and-eq-true_iff (leb 1 n.count) (leb n.count array_count_max)).0 (rw (eq-eqb n.kind kind_array e) at q)).0

pub count_most : (n : Node) → is_record n ≡ true → n.count ≤ dynamic_count_max
count_most n h = go (eqb n.kind kind_array) (eqb n.kind kind_dynamic) (fact_parts n h).fifth
  where
    go : (a b : Bool) → cond a (leb 1 n.count && leb n.count array_count_max) (cond b (leb n.count dynamic_count_max) (eqb n.count 0)) ≡ true
        → n.count ≤ dynamic_count_max
    go true b q = let l = leb-true n.count array_count_max ((and-eq-true_iff (leb 1 n.count) (leb n.count array_count_max)).0 q).1 in omega arith
    go false true q = leb-true n.count dynamic_count_max q
    go false false q = let z = eqb-true n.count 0 q in omega arith

-- a name that holds is one
holds_name : (n : Node) (b : Bool) → is_record n ≡ true → name_holds n b ≡ true → is_name n.name ≡ true
unfolding name_holds
holds_name n b h q = go (eqb n.name code.no_name) refl (fact_parts n h).sixth
  where
    unnamed : n.name ≡ code.no_name → cond (eqb n.name code.bytes) (eqb n.kind 0 || (eqb n.kind kind_dynamic && eqb n.count 1))
        (not (eqb n.name code.no_name) && b && not (eqb n.kind kind_array)) ≡ true → ⊥
    unnamed z w = false≢true (rw z at w)

    go : (e : Bool) → eqb n.name code.no_name ≡ e → e || is_name n.name ≡ true → is_name n.name ≡ true
    go false y w = w
    go true y w = absurd (unnamed (eqb-true n.name code.no_name y) q)

module _ (s : List Node) (O : Ordered s) (r : ℕ) (r1 : 1 ≤ r) (rn : r ≤ length s) (F : is_record (node_of s r) ≡ true) where
  array_word : (node_of s r).kind ≡ kind_array → 1 ≤ last_word s r
  unfolding last_word
  array_word e = let c = array_some (node_of s r) F e in omega arith

  -- what is written is the codes of the type
  pub codes_plan : codes (type_of s r) ≡ leads (plan_of s r) ++ all_codes (word_types s r (plan_of s r).start (plan_of s r).words)
  unfolding plan_of codes all_codes words_with
  codes_plan =
      ap codes (type_is s O r r1 rn)
      ∙ either s r (name_holds (node_of s r) (is_empty (children_in s r))) _ _ _ _
      (λ q. let a = holds_name (node_of s r) (is_empty (children_in s r)) F q in
      ap (λ (c : ℕ). c ∷ []) (name_is_code (node_of s r).name a))
      (λ _. spelt_kind s r array_word)
