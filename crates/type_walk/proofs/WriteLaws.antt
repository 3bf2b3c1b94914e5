-- The codes of a fact's words, stored one word after the other: what is left to store before each.
use Prim.Native.Nat.{ℕ, zero, suc, ◌+◌, ◌-◌, ◌*◌, ◌/◌, ◌%◌, ◌≤◌, ◌<◌}
use mathlib.Core.Path.{◌≡◌, refl, sym, ap, ◌∙◌}
use mathlib.Core.Bool.{Bool, true, false, false≢true, cond, ◌&&◌, and-eq-true_iff}
use mathlib.Core.Logic.{inl, inr, ⊎_elim}
use mathlib.Core.List.{List, [], ◌∷◌, ◌++◌}
use native.Mathlib.Omega.{arith}
use native.Mathlib.Nat.{add-zero}
use lib.Dec.{eqb, leb}
use lib.ListN.{length, replicate, length-append, length-replicate}
use lib.Seq.{sets, length-sets}
use borrow.Author.Tests.{eq-eqb, ne_eqb, eqb-true, eqb-false, leb-true, leb-false}
use Rattle.limits.specs.Limits.{word_bytes, types_room}
use Rattle.spell.proofs.Stores.{sets_append}
use Rattle.names.specs.Elementary.{code_of}
use Rattle.types.specs.Codes.{codes, all_codes}
use Rattle.types.proofs.Sizes.{count_codes}
use Rattle.facts.specs.Table.{key_of, next_of, child_of}
use Rattle.facts.specs.Links.{Kid, In, Rising}
use Rattle.facts.specs.Sound.{Sound}
use Rattle.facts.specs.State.{Node, nodes, node_of, kids_in}
use Rattle.facts.proofs.Chains.{rising_low}
use Rattle.facts.proofs.Encode.{nodes_get, kids_nodes}
use Rattle.facts.proofs.Kids.{kids_rising, in_kids}
use Rattle.paths.specs.Find.{find_in}
use Rattle.paths.specs.Walking.{from_on}
use Rattle.paths.proofs.Chaining.{left_all, left_more, left_none, left_kid}
use Rattle.paths.proofs.Frame.{sound_shaped}
use Rattle.paths.proofs.Finds.{found_is}
use Rattle.list.specs.Types.{uint256, has_word, words_with, type_of, word_types}
use Rattle.list.proofs.TypeLaws.{count_words}
use Rattle.type_walk.specs.declared.Rest.{Rest}
use Rattle.type_walk.specs.Walk.{Led}
use Rattle.type_walk.specs.Plan.{word_code, word_type}

-- no fewer codes than words
pub words_codes : (s : List Node) (r w n : ℕ) → n ≤ length (all_codes (word_types s r w n))
words_codes s r w n = let e = count_words (type_of s) s r w n in let h = count_codes (word_types s r w n) in omega arith

-- the codes of a word
abbrev word_codes : List Node → ℕ → ℕ → List ℕ
word_codes s r w = codes (cond (has_word s r w) (type_of s (find_in s r (word_bytes * w))) uint256)

-- of one that has no child
no_codes : (s : List Node) (r w : ℕ) → 0 ≡ find_in s r (word_bytes * w) → word_codes s r w ≡ word_code ∷ []
unfolding codes code_of
no_codes s r w e = rw (eq-eqb (find_in s r (word_bytes * w)) 0 (sym e)) refl

-- of one at whose key the record c stands
kid_codes : (s : List Node) (r w c : ℕ) → c ≡ find_in s r (word_bytes * w) → (c ≡ 0 → ⊥) → word_codes s r w ≡ codes (word_type s c)
unfolding word_type
kid_codes s r w c e n = rw (ne_eqb (find_in s r (word_bytes * w)) 0 (λ z. n (e ∙ z)), ← e) refl

-- of the words from one up to another
abbrev pub codes_to : List Node → ℕ → ℕ → ℕ → List ℕ
codes_to s r w end = all_codes (word_types s r w (end - w))

first_codes : (s : List Node) (r w end : ℕ) → w < end → codes_to s r w end ≡ word_codes s r w ++ codes_to s r (w + 1) end
unfolding words_with all_codes
first_codes s r w end l =
    let e : end - w ≡ suc (end - (w + 1)) = omega arith in
    let k : w + 1 ≡ suc w = omega arith in
    rw (e, k) refl

-- no child stands at n words: each has uint256
gap_codes : (s : List Node) (r w n end : ℕ) → w + n ≤ end → ((v : ℕ) → w ≤ v → v < w + n → 0 ≡ find_in s r (word_bytes * v))
    → codes_to s r w end ≡ replicate n word_code ++ codes_to s r (w + n) end
gap_codes s r w zero end l none = ap (λ (k : ℕ). codes_to s r k end) (sym (add-zero w))
gap_codes s r w (suc n) end l none =
    let k : w + 1 + n ≡ w + suc n = omega arith in
    first_codes s r w end (omega arith)
    ∙ ap (λ (cs : List ℕ). cs ++ codes_to s r (w + 1) end) (no_codes s r w (none w (omega arith) (omega arith)))
    ∙ ap (λ (cs : List ℕ). word_code ∷ cs) (gap_codes s r (w + 1) n end (omega arith) (λ v a b. none v (omega arith) (omega arith)))
    ∙ ap (λ (m : ℕ). word_code ∷ (replicate n word_code ++ codes_to s r m end)) k

-- the children from c on
abbrev pub kids_from : List Node → ℕ → ℕ → List ℕ
kids_from s r c = from_on c (kids_in s r)

-- what is known of the call: the codes cs are to be stored in the list types₀ from index `at` on, and have room there
pub record Called (t : List ℕ) (u N r : ℕ) (types₀ : List ℕ) (at : ℕ) (cs : List ℕ) : Type 0 where
  pub sound : Sound t u N
  pub from : 1 ≤ r
  pub used : r ≤ u
  pub room : at + length cs ≤ types_room
  pub long : types_room ≤ length types₀

-- The words up to `next` are written: the codes of those from there to `end`, stored from index `to` on, give what all
-- of them give; and each child at the key of one of them is among ms, in the order of their keys.
pub record Writing (t : List ℕ) (u N r end : ℕ) (types₀ : List ℕ) (at : ℕ) (cs types : List ℕ) (to next : ℕ) (ms : List ℕ) : Type 0 where
  pub call : Called t u N r types₀ at cs
  pub most : next ≤ end
  pub left : sets types to (codes_to (nodes t u) r next end) ≡ sets types₀ at cs
  pub ends : to + length (codes_to (nodes t u) r next end) ≡ at + length cs
  pub kids : (m : ℕ) → In m ms → Kid t u r m
  pub low : ℕ
  pub rising : Rising t low ms
  pub rest : (m v : ℕ) → Kid t u r m → key_of t m ≡ word_bytes * v → next ≤ v → In m ms

pub writing_start : (t : List ℕ) (u N r start words : ℕ) (types : List ℕ) (at c : ℕ)
    → Called t u N r types at (all_codes (word_types (nodes t u) r start words)) → c ≡ child_of t r
    → Writing t u N r (start + words) types at (all_codes (word_types (nodes t u) r start words)) types at start (kids_from (nodes t u) r c)
    × ((c ≡ 0 → ⊥) → Kid t u r c)
writing_start t u N r start words types at c C e =
    let n : start + words - start ≡ words = omega arith in
    let L = (sound_shaped t u N C.sound).linked in
    let a = left_all t u r L C.from C.used c e in
    let q = a ∙ kids_nodes t u r in (
      record {
        call = C;
        most = omega arith;
        left = rw n refl;
        ends = rw n refl;
        kids = λ m i. left_kid t u r m (rw a at i);
        low = 0;
        rising = rw q (kids_rising t r u (λ a b. L.distinct r a b C.from) u (omega arith));
        rest = λ m v K d l. rw q (in_kids t r u m K);
      },
      λ n. rw e ((L.child r C.from C.used).kid (rw e at n)),
    )

-- the chain goes on behind a child
module _ {t : List ℕ} {u N r end : ℕ} {types₀ : List ℕ} {at : ℕ} {cs types : List ℕ} {to next c : ℕ}
    (W : Writing t u N r end types₀ at cs types to next (kids_from (nodes t u) r c)) where
  pub steps : Kid t u r c → {d : ℕ} → d ≡ next_of t c → kids_from (nodes t u) r c ≡ c ∷ kids_from (nodes t u) r d
  steps K e = left_more t u r (sound_shaped t u N W.call.sound).linked W.call.from W.call.used c _ K e

  pub fewer : Kid t u r c → {d : ℕ} → d ≡ next_of t c → length (kids_from (nodes t u) r d) < length (kids_from (nodes t u) r c)
  fewer K e = let l = ap (λ (l : List ℕ). length l) (steps K e) in omega arith

  pub next_kid : Kid t u r c → {d : ℕ} → d ≡ next_of t c → (d ≡ 0 → ⊥) → Kid t u r d
  next_kid K e n = rw e (((sound_shaped t u N W.call.sound).linked.next r c W.call.from K).kid (rw e at n))

  pub no_steps : c ≡ 0 → kids_from (nodes t u) r c ≡ []
  no_steps e = left_none t u r (sound_shaped t u N W.call.sound).linked W.call.from W.call.used c e

-- each record of the list has the key k or a higher one
abbrev pub Above : List ℕ → ℕ → List ℕ → Type 0
Above t k ms = (m : ℕ) → In m ms → k ≤ key_of t m

-- nothing is left
writing_done : {t : List ℕ} {u N r end : ℕ} {types₀ : List ℕ} {at : ℕ} {cs types : List ℕ} {to next : ℕ} {ms : List ℕ}
    → Writing t u N r end types₀ at cs types to next ms → next ≡ end → (types ≡ sets types₀ at cs) × (to ≡ at + length cs)
unfolding words_with all_codes
writing_done {end} {to} {next} W e =
    let z : end - next ≡ 0 = omega arith in
    (rw z at W.left, sym (add-zero to) ∙ (rw z at W.ends))

module _ {t : List ℕ} {u N r end : ℕ} {types₀ : List ℕ} {at : ℕ} {cs types : List ℕ} {to next : ℕ} {ms : List ℕ}
    (W : Writing t u N r end types₀ at cs types to next ms) where
  -- no node has the key of word v
  none_at : (v : ℕ) → ((m : ℕ) → Kid t u r m → key_of t m ≡ word_bytes * v → ⊥) → 0 ≡ find_in (nodes t u) r (word_bytes * v)
  none_at v f =
      let Z = sound_shaped t u N W.call.sound in
      (found_is t u r (word_bytes * v) Z.linked Z.root_parent W.call.from 0 (record {
        none = λ _ m K e. f m K e;
        kid = λ z. absurd (z refl);
        key = λ z. absurd (z refl);
      })).0

  size : length types ≡ length types₀
  size = sym (length-sets types to (codes_to (nodes t u) r next end)) ∙ ap (λ (l : List ℕ). length l) W.left ∙ length-sets types₀ at cs

  pub above_none : (k : ℕ) → ms ≡ [] → Above t k ms
  above_none k e m i = absurd (rw e at i)

  -- each child that is left stands at or behind word next + n
  module _ (n : ℕ) (within : next + n ≤ end) (high : Above t (word_bytes * (next + n)) ms) where
    gap_is : codes_to (nodes t u) r next end ≡ replicate n word_code ++ codes_to (nodes t u) r (next + n) end
    gap_is = gap_codes (nodes t u) r next n end within (λ v a b. none_at v (λ m K e. let h = high m (W.rest m v K e a) in omega arith))

    gap_length : length (codes_to (nodes t u) r next end) ≡ n + length (codes_to (nodes t u) r (next + n) end)
    gap_length =
        ap (λ (l : List ℕ). length l) gap_is ∙ length-append (replicate n word_code) _
        ∙ ap (λ (k : ℕ). k + length (codes_to (nodes t u) r (next + n) end)) (length-replicate n word_code)

    gap_fits : to + n ≤ length types
    gap_fits = let l = gap_length in let e = W.ends in let z = size in let a = W.call.room in let b = W.call.long in omega arith

    writing_gap : {types' : List ℕ} {to' : ℕ} → types' ≡ sets types to (replicate n word_code) → to' ≡ to + n
        → Writing t u N r end types₀ at cs types' to' (next + n) ms
    writing_gap e q = record {
      call = W.call;
      most = within;
      left = (λ k. sets (e k) ((q ∙ ap (λ (x : ℕ). to + x) (sym (length-replicate n word_code))) k) (codes_to (nodes t u) r (next + n) end))
          ∙ sym (sets_append types to (replicate n word_code) _) ∙ ap (sets types to) (sym gap_is) ∙ W.left;
      ends = let l = gap_length in let d = W.ends in omega arith;
      kids = W.kids;
      low = W.low;
      rising = W.rising;
      rest = λ m v K d l. W.rest m v K d (omega arith);
    }

  -- no child stands at a word that is left: the codes of all of them are stored
  module _ (high : Above t (word_bytes * (next + (end - next))) ms) where
    last_within : next + (end - next) ≤ end
    last_within = let m = W.most in omega arith

    pub last_fits : to + (end - next) ≤ length types
    last_fits = gap_fits (end - next) last_within high

    pub writing_last : {types' : List ℕ} {to' : ℕ} → types' ≡ sets types to (replicate (end - next) word_code) → to' ≡ to + (end - next)
        → (types' ≡ sets types₀ at cs) × (to' ≡ at + length cs)
    writing_last e q = let m = W.most in writing_done (writing_gap (end - next) last_within high e q) (omega arith)

  module _ {c : ℕ} {ns : List ℕ} (is : ms ≡ c ∷ ns) where
    pub writing_kid : Kid t u r c
    writing_kid = W.kids c (rw is (inl refl))

    writing_range : (1 ≤ c) × (c ≤ u)
    writing_range = (let a = writing_kid.above in omega arith, writing_kid.used)

    -- it is no higher than those of the children that follow
    above_first : (k : ℕ) → k ≤ key_of t c → Above t k ms
    above_first k l m i = ⊎_elim
        (λ (e : m ≡ c). rw e l)
        (λ (j : In m ns). let h = rising_low t (key_of t c + 1) ns m (rw is at W.rising).1 j in omega arith)
        (rw is at i)

    -- what is written up to word w, behind which c is not looked for, goes on with the children that follow
    behind_first : (w : ℕ) {types' : List ℕ} {to' : ℕ} → next ≤ w → w ≤ end
        → sets types' to' (codes_to (nodes t u) r w end) ≡ sets types₀ at cs → to' + length (codes_to (nodes t u) r w end) ≡ at + length cs
        → ((v : ℕ) → key_of t c ≡ word_bytes * v → w ≤ v → ⊥) → Writing t u N r end types₀ at cs types' to' w ns
    behind_first w a b left ends f = record {
      call = W.call;
      most = b;
      left = left;
      ends = ends;
      kids = λ m i. W.kids m (rw is (inr i));
      low = key_of t c + 1;
      rising = (rw is at W.rising).1;
      rest = λ m v K d l. ⊎_elim
          (λ (e : m ≡ c). absurd (f v (rw e at d) l))
          (λ (j : In m ns). j)
          (rw is at (W.rest m v K d (omega arith)));
    }

    -- at the next word it has that word's codes
    module _ (less : next < end) (key : key_of t c ≡ word_bytes * next) where
      here : word_codes (nodes t u) r next ≡ codes (word_type (nodes t u) c)
      here =
          let Z = sound_shaped t u N W.call.sound in
          let n : c ≡ 0 → ⊥ = λ z. let a = writing_range.0 in omega arith in
          kid_codes (nodes t u) r next c (found_is t u r (word_bytes * next) Z.linked Z.root_parent W.call.from c (record {
            none = λ z. absurd (n z);
            kid = λ _. writing_kid;
            key = λ _. key;
          })).0 n

      split : codes_to (nodes t u) r next end ≡ codes (word_type (nodes t u) c) ++ codes_to (nodes t u) r (next + 1) end
      split = first_codes (nodes t u) r next end less ∙ ap (λ (ds : List ℕ). ds ++ codes_to (nodes t u) r (next + 1) end) here

      split_length : length (codes_to (nodes t u) r next end) ≡ length (codes (word_type (nodes t u) c)) + length (codes_to (nodes t u) r (next + 1) end)
      split_length = ap (λ (l : List ℕ). length l) split ∙ length-append (codes (word_type (nodes t u) c)) _

      pub kid_fits : to + length (codes (word_type (nodes t u) c)) ≤ types_room
      kid_fits = let l = split_length in let e = W.ends in let a = W.call.room in omega arith

      -- what stands ahead is stored, and then the words that follow
      module _ {types₁ : List ℕ} {a : Rest} (L : Led (nodes t u) c types to types₁ a) where
        pub inner_call : Called t u N c types₁ a.to (all_codes (word_types (nodes t u) c a.start a.words))
        inner_call = record {
          sound = W.call.sound;
          from = writing_range.0;
          used = writing_range.1;
          room = let f = kid_fits in let e = L.ends in omega arith;
          long = let z = L.size ∙ size in let b = W.call.long in omega arith;
        }

        pub writing_next : {types₂ : List ℕ} {to₂ next₂ : ℕ} → types₂ ≡ sets types₁ a.to (all_codes (word_types (nodes t u) c a.start a.words))
            → to₂ ≡ a.to + length (all_codes (word_types (nodes t u) c a.start a.words)) → next₂ ≡ next + 1
            → Writing t u N r end types₀ at cs types₂ to₂ next₂ ns
        writing_next e q n = rw n
            (behind_first (next + 1) (omega arith) (omega arith)
            ((λ k. sets ((e ∙ L.left) k) ((q ∙ L.ends) k) (codes_to (nodes t u) r (next + 1) end))
            ∙ sym (sets_append types to (codes (word_type (nodes t u) c)) _) ∙ ap (sets types to) (sym split) ∙ W.left)
            (let l = split_length in let d = W.ends in let f = L.ends in omega arith)
            (λ v w l. omega arith))

    -- by the key k that the code reads
    module _ {k : ℕ} (e : k ≡ (node_of (nodes t u) c).key) where
      key_is : k ≡ key_of t c
      key_is = e ∙ ap (λ (n : Node). n.key) (nodes_get t u c writing_range.0 writing_range.1)

      -- c stands behind the words
      pub above_kid : end ≤ k / word_bytes → Above t (word_bytes * (next + (end - next))) ms
      above_kid l = above_first _ (let d = key_is in let m = W.most in omega arith)

      -- c stands at no word that is left
      pub writing_passed : (leb next (k / word_bytes) && eqb (k % word_bytes) 0) ≡ false
          → {types' : List ℕ} {to' next' : ℕ} → types' ≡ types → to' ≡ to → next' ≡ next → Writing t u N r end types₀ at cs types' to' next' ns
      writing_passed q a b n = rw (a, b, n)
          (behind_first next (omega arith) W.most W.left W.ends
          (λ v d l. go (leb next (k / word_bytes)) refl (eqb (k % word_bytes) 0) refl q v (key_is ∙ d) l))
        where
          go : (a : Bool) → leb next (k / word_bytes) ≡ a → (b : Bool) → eqb (k % word_bytes) 0 ≡ b → (a && b) ≡ false
              → (v : ℕ) → k ≡ word_bytes * v → next ≤ v → ⊥
          go true w true z q v d l = false≢true (sym q)
          go true w false z q v d l = eqb-false (k % word_bytes) 0 z (omega arith)
          go false w b z q v d l = let h = leb-false next (k / word_bytes) w in omega arith

      -- c stands at a word that is left
      module _ (less : k / word_bytes < end) (q : (leb next (k / word_bytes) && eqb (k % word_bytes) 0) ≡ true) where
        at_word : (next ≤ k / word_bytes) × (k % word_bytes ≡ 0)
        at_word =
            let e = (and-eq-true_iff (leb next (k / word_bytes)) (eqb (k % word_bytes) 0)).0 q in
            (leb-true next (k / word_bytes) e.0, eqb-true (k % word_bytes) 0 e.1)

        word_key : key_of t c ≡ word_bytes * (k / word_bytes)
        word_key = let d = key_is in let z = at_word.1 in omega arith

        before : next + (k / word_bytes - next) ≡ k / word_bytes
        before = let a = at_word.0 in omega arith

        before_high : Above t (word_bytes * (next + (k / word_bytes - next))) ms
        before_high = above_first _ (let d = word_key in let b = before in omega arith)

        pub before_fits : to + (k / word_bytes - next) ≤ length types
        before_fits = gap_fits (k / word_bytes - next) (let b = before in omega arith) before_high

        -- the words before it are stored
        pub writing_before : {types' : List ℕ} {to' : ℕ} → types' ≡ sets types to (replicate (k / word_bytes - next) word_code)
            → to' ≡ to + (k / word_bytes - next)
            → Writing t u N r end types₀ at cs types' to' (k / word_bytes) ms × (key_of t c ≡ word_bytes * (k / word_bytes))
        writing_before d z = (rw before at (writing_gap (k / word_bytes - next) (let b = before in omega arith) before_high d z), word_key)

-- nothing follows
pub led_none : {s : List Node} {c : ℕ} {types : List ℕ} {at : ℕ} {types₁ : List ℕ} {a : Rest} → Led s c types at types₁ a → a.words ≡ 0
    → (types₁ ≡ sets types₁ a.to (all_codes (word_types s c a.start a.words))) × (a.to ≡ a.to + length (all_codes (word_types s c a.start a.words)))
unfolding words_with all_codes
led_none {a} L z = rw z (refl, sym (add-zero a.to))
