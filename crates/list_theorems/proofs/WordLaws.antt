-- The words below two nodes: where the facts below a word agree, both have a type there or neither has, and it is the
-- same.
use Prim.Native.Nat.{ℕ, zero, suc, ◌*◌, ◌≤◌, ◌<◌}
use mathlib.Core.Path.{◌≡◌, refl, sym, ap, ◌∙◌}
use mathlib.Core.Bool.{Bool, true, false, false≢true, cond, not, and-eq-true_iff}
use mathlib.Core.List.{List, [], ◌∷◌, ◌++◌}
use native.Mathlib.Omega.{arith}
use lib.Dec.{eqb}
use borrow.Author.Tests.{eqb-true, eq-eqb, ne_eqb}
use Rattle.limits.specs.Limits.{word_bytes}
use Rattle.types.specs.Tree.{AbiType, cons}
use Rattle.facts.specs.Formed.{Formed}
use Rattle.facts.specs.State.{Node, node_of}
use Rattle.paths.specs.Find.{find_in}
use Rattle.paths.specs.Path.{AgreeUnder}
use Rattle.paths.proofs.Lookups.{found_node}
use Rattle.paths.proofs.Sounds.{formed_ordered}
use Rattle.paths.proofs.PathLaws.{Stands, child_found}
use Rattle.paths.proofs.Agreeing.{agree_back, agree_down}
use Rattle.list.specs.Types.{uint256, has_word, words_with}
use Rattle.list.proofs.TypeLaws.{found_range, has_found}
use Rattle.list_theorems.proofs.Under.{Same, SeenChild, Beside, child_beside}

module _ (s : List Node) (F : Formed s) (r w : ℕ) (r1 : 1 ≤ r) where
  -- a word that has a type has it from a seen child
  word_child : has_word s r w ≡ true → SeenChild s r (word_bytes * w) (find_in s r (word_bytes * w))
  word_child h =
      let O = formed_ordered s F in
      let n = has_found s O r w h in
      let N = found_node s r (word_bytes * w) n in
      let R = found_range s O r (word_bytes * w) r1 n in
      record {
        child = record { above = R.0; within = R.1; parent = N.parent };
        seen = eqb-true (node_of s (find_in s r (word_bytes * w))).seen 1
            ((and-eq-true_iff (not (eqb (find_in s r (word_bytes * w)) 0)) (eqb (node_of s (find_in s r (word_bytes * w))).seen 1)).0 h).1;
        key = N.key;
      }

  module _ (c : ℕ) (C : SeenChild s r (word_bytes * w) c) where
    found_it : find_in s r (word_bytes * w) ≡ c
    found_it =
        let a = C.child.above in
        child_found s F r (word_bytes * w) c r1 (omega arith) C.child.within C.child.parent C.key

    child_word : has_word s r w ≡ true
    child_word =
        rw (ne_eqb (find_in s r (word_bytes * w)) 0 (λ z. let e = found_it in let a = C.child.above in omega arith))
        (eq-eqb (node_of s (find_in s r (word_bytes * w))).seen 1 (ap (λ (x : ℕ). (node_of s x).seen) found_it ∙ C.seen))

-- the type of a word, a child's by `type`
abbrev pub word_type : (ℕ → AbiType) → List Node → ℕ → ℕ → AbiType
word_type type s r w = cond (has_word s r w) (type (find_in s r (word_bytes * w))) uint256

-- f and f' are the same on nodes behind r with the path p and the key k whose facts agree
abbrev pub Alike : List Node → List Node → List ℕ → ℕ → (ℕ → AbiType) → (ℕ → AbiType) → ℕ → Type 0
Alike s s' p r f f' k = (c c' : ℕ) → r < c → Same s s' (p ++ k ∷ []) c c' → f c ≡ f' c'

module _ (s s' : List Node) (F : Formed s) (F' : Formed s') (p : List ℕ) (r r' : ℕ) (T : Stands s p r) (T' : Stands s' p r') (f f' : ℕ → AbiType) where
  pub word_same : (w : ℕ) → AgreeUnder (p ++ word_bytes * w ∷ []) s s' → Alike s s' p r f f' (word_bytes * w) → word_type f s r w ≡ word_type f' s' r' w
  word_same w A e = go (has_word s r w) refl (has_word s' r' w) refl
    where
      beside : has_word s r w ≡ true → Beside s s' p (word_bytes * w) r' (find_in s r (word_bytes * w))
      beside h = child_beside s s' F F' p r r' (word_bytes * w) (find_in s r (word_bytes * w)) T T' A (word_child s F r w T.from h)

      back : has_word s' r' w ≡ true → has_word s r w ≡ true
      back h =
          let B = child_beside s' s F' F p r' r (word_bytes * w) (find_in s' r' (word_bytes * w)) T' T (agree_back (p ++ word_bytes * w ∷ []) s s' A)
          (word_child s' F' r' w T'.from h) in
          child_word s F r w T.from B.number B.at

      go : (b : Bool) → has_word s r w ≡ b → (b' : Bool) → has_word s' r' w ≡ b'
          → cond b (f (find_in s r (word_bytes * w))) uint256 ≡ cond b' (f' (find_in s' r' (word_bytes * w))) uint256
      go true h true h' =
          let B = beside h in
          e (find_in s r (word_bytes * w)) B.number (word_child s F r w T.from h).child.above B.same
          ∙ ap f' (sym (found_it s' F' r' w T'.from B.number B.at))
      go true h false h' = let B = beside h in absurd (false≢true (sym h' ∙ child_word s' F' r' w T'.from B.number B.at))
      go false h true h' = absurd (false≢true (sym h ∙ back h'))
      go false h false h' = refl

  pub words_alike : AgreeUnder p s s' → ((k : ℕ) → Alike s s' p r f f' k) → (w n : ℕ) → words_with f s r w n ≡ words_with f' s' r' w n
  unfolding words_with
  words_alike A e w zero = refl
  words_alike A e w (suc n) =
      λ i. cons (word_same w (agree_down p (word_bytes * w) s s' A) (e (word_bytes * w)) i) (words_alike A e (suc w) n i)
