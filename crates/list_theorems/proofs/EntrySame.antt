-- "Entry k is the same in any two granted lists that have it and whose facts at and below argument word k agree."
use Prim.Native.Nat.{ℕ, zero, suc, ◌+◌, ◌≤◌, ◌<◌}
use mathlib.Core.Path.{◌≡◌, sym, ap, ◌∙◌}
use mathlib.Core.List.{List, []}
use native.Mathlib.Omega.{arith}
use Rattle.types.specs.Tree.{AbiType}
use Rattle.facts.specs.Formed.{Formed}
use Rattle.facts.specs.State.{Node}
use Rattle.paths.specs.Path.{AgreeAt}
use Rattle.paths.proofs.PathLaws.{root_stands}
use Rattle.list.specs.Seen.{last_word}
use Rattle.list.specs.Types.{words_with, type_of, list_of}
use Rattle.list_theorems.specs.Entry.{entry_of}
use Rattle.list_theorems.proofs.WordLaws.{word_type, word_same}
use Rattle.list_theorems.proofs.TypeSame.{type_same}

-- entry k of the words from w on is that of word w + k
entry_word : (f : ℕ → AbiType) (s : List Node) (r w n k j : ℕ) → w + k ≡ j → k < n → entry_of k (words_with f s r w n) ≡ word_type f s r j
unfolding entry_of words_with
entry_word f s r w zero k j e h = absurd (omega arith)
entry_word f s r w (suc n) zero j e h = let q : w ≡ j = omega arith in ap (word_type f s r) q
entry_word f s r w (suc n) (suc k) j e h = entry_word f s r (suc w) n k j (omega arith) (omega arith)

-- an entry of the list is the type of the root's word
list_word : (s : List Node) (k : ℕ) → k ≤ last_word s 1 → entry_of k (list_of s) ≡ word_type (type_of s) s 1 k
unfolding list_of
list_word s k h = entry_word (type_of s) s 1 0 (suc (last_word s 1)) k k (omega arith) (omega arith)

pub entry_same : (s s' : List Node) → Formed s → Formed s' → (k : ℕ) → k ≤ last_word s 1 → k ≤ last_word s' 1 → AgreeAt k s s'
    → entry_of k (list_of s) ≡ entry_of k (list_of s')
entry_same s s' F F' k h h' A =
    list_word s k h
    ∙ word_same s s' F F' [] 1 1 (root_stands s F.some) (root_stands s' F'.some) (type_of s) (type_of s') k A (λ c c' a S. type_same s s' F F' _ c c' S)
    ∙ sym (list_word s' k h')
