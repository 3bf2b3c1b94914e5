-- A record that is not seen, and a fact with no child and no kind, have one code.
use Prim.Native.Nat.{ℕ, ◌*◌, ◌≤◌}
use mathlib.Core.Path.{◌≡◌, refl, sym, ap, ◌∙◌}
use mathlib.Core.Bool.{Bool, true, false, cond, not, ◌&&◌, ◌||◌, true≢false}
use mathlib.Core.List.{List, [], ◌∷◌, ◌++◌}
use native.Mathlib.Omega.{arith}
use native.Mathlib.Decide.{ℕ_discrete}
use lib.Dec.{eqb}
use lib.ListN.{length}
use borrow.Author.Tests.{eqb-true, eq-eqb, ne_eqb}
use Rattle.std.specs.Prelude.{Option, None, Some}
use Rattle.std.proofs.lemmas.Option.{none-some, same_Some}
use Rattle.limits.specs.Codes as code
use Rattle.limits.specs.Limits.{word_bytes}
use Rattle.names.specs.Elementary.{code_of}
use Rattle.types.specs.Codes.{codes, all_codes}
use Rattle.facts.specs.Table.{child_of, kind_of, name_of, seen_of}
use Rattle.facts.specs.Sound.{Sound}
use Rattle.facts.specs.State.{Node, node_at, nodes, node_of, kids_in}
use Rattle.facts.specs.Linked.{kids_of}
use Rattle.facts.specs.Checks.{is_record}
use Rattle.facts.proofs.Encode.{length_nodes, nodes_get, kids_nodes}
use Rattle.facts.proofs.States.{sound_formed}
use Rattle.facts.proofs.Whole.{fact_parts}
use Rattle.paths.specs.Shape.{Shaped}
use Rattle.paths.specs.Find.{find_in}
use Rattle.paths.proofs.Frame.{sound_shaped}
use Rattle.paths.proofs.Reach.{shaped_ordered}
use Rattle.paths.proofs.Tail.{Tail, tail_start, tail_more, tail_none}
use Rattle.paths.proofs.Walk.{at_start, at_none}
use Rattle.paths.proofs.Finds.{found_is}
use Rattle.list.specs.Seen.{seen_ones, children_in, is_empty, last_from, last_word}
use Rattle.list.specs.Types.{uint256, name_holds, has_word, words_with, type_of, word_types}
use Rattle.type_walk.specs.declared.Plan.{Plan}
use Rattle.type_walk.specs.Plan.{plan, word_code, open_plan, kind_plan, plan_of, word_type, leaf_code, leads}
use Rattle.type_walk.proofs.PlanLaws.{codes_plan}
use Rattle.type_walk.proofs.BoundLaws.{name_bound}

-- "Count is 1 to 99 for an array, at most 134,217,727 for dynamic, else 0."
count_none : (n : Node) → is_record n ≡ true → n.kind ≡ 0 → n.count ≡ 0
count_none n h e = eqb-true n.count 0 (rw e at (fact_parts n h).fifth)

-- the name of such a fact is its type
leaf_holds : (n : Node) → n.kind ≡ 0 → (n.name ≡ 0 → ⊥) → name_holds n true ≡ true
unfolding name_holds
leaf_holds n e h = rw e (go (eqb n.name code.bytes))
  where
    go : (b : Bool) → cond b true (not (eqb n.name code.no_name) && true && true) ≡ true
    go true = refl
    go false = rw (ne_eqb n.name code.no_name h) refl

leaf_fails : (n : Node) (b : Bool) → n.name ≡ 0 → name_holds n b ≡ false
unfolding name_holds
leaf_fails n b e = rw e refl

module _ (t : List ℕ) (u N c : ℕ) (S : Sound t u N) (c1 : 1 ≤ c) (cu : c ≤ u) where
  node_is : node_of (nodes t u) c ≡ node_at t c
  node_is = nodes_get t u c c1 cu

  long : c ≤ length (nodes t u)
  long = let l = length_nodes t u in omega arith

  fact_is : is_record (node_of (nodes t u) c) ≡ true
  fact_is = (sound_formed t u N S).fact c c1 long

  shaped : Shaped t u N
  shaped = sound_shaped t u N S

  -- a name is small
  name_small : (v : ℕ) → v ≡ name_of t c → v ≤ 3032
  name_small v e = let b = name_bound (node_of (nodes t u) c) fact_is in let q = ap (λ (n : Node). n.name) node_is in omega arith

  module _ (v : ℕ) (e : v ≡ name_of t c) (h k : ℕ) (he : h ≡ child_of t c) (h0 : h ≡ 0) (ke : k ≡ kind_of t c) (k0 : k ≡ 0) where
    kind_is : (node_of (nodes t u) c).kind ≡ 0
    kind_is = ap (λ (n : Node). n.kind) node_is ∙ sym ke ∙ k0

    name_is : (node_of (nodes t u) c).name ≡ v
    name_is = ap (λ (n : Node). n.name) node_is ∙ sym e

    no_kids : kids_in (nodes t u) c ≡ []
    no_kids = kids_nodes t u c ∙ tail_none t u c (child_of t c) _ (tail_start t u c shaped.linked c1 cu (child_of t c) refl) (sym he ∙ h0)

    no_children : children_in (nodes t u) c ≡ []
    unfolding seen_ones
    no_children = ap (seen_ones (nodes t u)) no_kids

    no_word : has_word (nodes t u) c 0 ≡ false
    no_word =
        let f = found_is t u c (word_bytes * 0) shaped.linked shaped.root_parent c1 0
        (at_none t u c shaped.linked c1 cu (word_bytes * 0) (child_of t c) (at_start t u c shaped.linked c1 cu (word_bytes * 0) (child_of t c) refl) (sym he ∙ h0)) in
        rw (eq-eqb (find_in (nodes t u) c (word_bytes * 0)) 0 (sym f.0)) refl

    no_words : last_word (nodes t u) c ≡ 0
    unfolding last_word last_from
    no_words = rw (no_children, count_none (node_of (nodes t u) c) fact_is kind_is) refl

    spelt : (p : Plan) → plan_of (nodes t u) c ≡ p → codes (type_of (nodes t u) c) ≡ leads p ++ all_codes (word_types (nodes t u) c p.start p.words)
    spelt p q =
        codes_plan (nodes t u) (shaped_ordered t u N shaped) c c1 long fact_is
        ∙ ap (λ (x : Plan). leads x ++ all_codes (word_types (nodes t u) c x.start x.words)) q

    named_codes : (v ≡ 0 → ⊥) → codes (type_of (nodes t u) c) ≡ v ∷ []
    unfolding plan_of words_with all_codes
    named_codes n =
        spelt (plan (Some v) None 0 0) (rw (no_children, leaf_holds (node_of (nodes t u) c) kind_is (λ z. n (sym name_is ∙ z)), name_is) refl)

    unnamed_codes : v ≡ 0 → codes (type_of (nodes t u) c) ≡ word_code ∷ []
    unfolding plan_of kind_plan open_plan words_with all_codes codes code_of
    unnamed_codes z =
        spelt (plan None None 0 1) (rw (leaf_fails (node_of (nodes t u) c) (is_empty (children_in (nodes t u) c)) (name_is ∙ z), kind_is, no_words) refl)
        ∙ rw no_word refl

  -- the record has a child exactly if the fact has one
  kids_empty : (h : ℕ) → h ≡ child_of t c → is_empty (kids_in (nodes t u) c) ≡ eqb h 0
  kids_empty h e = go (ℕ_discrete h 0)
    where
      start : Tail t u c h (kids_of t u c)
      start = tail_start t u c shaped.linked c1 cu h e

      go : Dec (h ≡ 0) → is_empty (kids_in (nodes t u) c) ≡ eqb h 0
      go (yes z) = rw (kids_nodes t u c, tail_none t u c h (kids_of t u c) start z, eq-eqb h 0 z) refl
      go (no n) = rw (kids_nodes t u c, (tail_more t u c h (kids_of t u c) start n).is, ne_eqb h 0 n) refl

  -- what the code answers
  leaf_unseen : (seen_of t c ≡ 1 → ⊥) → Some word_code ≡ leaf_code (nodes t u) c
  unfolding leaf_code
  leaf_unseen n = sym (rw (node_is, ne_eqb (seen_of t c) 1 n) refl)

  leaf_is : seen_of t c ≡ 1 → leaf_code (nodes t u) c
      ≡ cond (eqb (child_of t c) 0 && eqb (kind_of t c) 0) (Some (cond (eqb (name_of t c) code.no_name) word_code (name_of t c))) None
  unfolding leaf_code
  leaf_is w1 = rw (kids_empty (child_of t c) refl, node_is, eq-eqb (seen_of t c) 1 w1) refl

  -- by the child and the kind that the code reads
  module _ (h k : ℕ) (he : h ≡ child_of t c) (ke : k ≡ (node_of (nodes t u) c).kind) (b : Bool) (seen : b ≡ eqb (node_of (nodes t u) c).seen 1)
      (bt : b ≡ true) where
    leaf_by : leaf_code (nodes t u) c
        ≡ cond (eqb h 0 && eqb k 0) (Some (cond (eqb (node_of (nodes t u) c).name code.no_name) word_code (node_of (nodes t u) c).name)) None
    unfolding leaf_code
    leaf_by = rw (kids_empty h he, ← ke, ← seen, bt) refl

    pub leaf_else : (not (eqb h 0) || not (eqb k 0)) ≡ true → None ≡ leaf_code (nodes t u) c
    leaf_else q = sym (leaf_by ∙ none (eqb h 0) (eqb k 0) _ q)
      where
        none : (a d : Bool) (x : Option ℕ) → (not a || not d) ≡ true → cond (a && d) x None ≡ None
        none true true x q = absurd (true≢false (sym q))
        none true false x q = refl
        none false d x q = refl

    module _ (q : (not (eqb h 0) || not (eqb k 0)) ≡ false) (v : ℕ) (e : v ≡ (node_of (nodes t u) c).name) where
      some : (a d : Bool) (x : Option ℕ) → (not a || not d) ≡ false → cond (a && d) x None ≡ x
      some true true x q = refl
      some true false x q = absurd (true≢false q)
      some false d x q = absurd (true≢false q)

      pub leaf_unnamed : v ≡ 0 → Some word_code ≡ leaf_code (nodes t u) c
      leaf_unnamed z = sym (leaf_by ∙ some (eqb h 0) (eqb k 0) _ q ∙ rw (← e, z) refl)

      pub leaf_named : (v ≡ 0 → ⊥) → Some v ≡ leaf_code (nodes t u) c
      leaf_named n = sym (leaf_by ∙ some (eqb h 0) (eqb k 0) _ q ∙ rw (← e, ne_eqb v 0 n) refl)

  -- and what its answer says: none is a fact's
  pub leaf_none : None ≡ leaf_code (nodes t u) c → word_type (nodes t u) c ≡ type_of (nodes t u) c
  unfolding word_type leaf_code
  leaf_none e = go (eqb (node_of (nodes t u) c).seen 1) _ e
    where
      go : (b : Bool) (y : Option ℕ) → None ≡ cond b y (Some word_code) → cond b (type_of (nodes t u) c) uint256 ≡ type_of (nodes t u) c
      go true y q = refl
      go false y q = absurd (none-some _ q)

  module _ (x : ℕ) (e : Some x ≡ leaf_code (nodes t u) c) where
    answer_is : seen_of t c ≡ 1 → Some x
        ≡ cond (eqb (child_of t c) 0 && eqb (kind_of t c) 0) (Some (cond (eqb (name_of t c) code.no_name) word_code (name_of t c))) None
    answer_is w = e ∙ leaf_is w

    pub leaf_small : x ≤ 3032
    leaf_small = go (ℕ_discrete (seen_of t c) 1)
      where
        both : (a b : Bool) → Some x ≡ cond a (Some (cond b word_code (name_of t c))) None → x ≤ 3032
        both false b q = absurd (none-some _ (sym q))
        both true true q = let z = same_Some _ _ q in omega arith
        both true false q = let z = same_Some _ _ q in let l = name_small (name_of t c) refl in omega arith

        go : Dec (seen_of t c ≡ 1) → x ≤ 3032
        go (no n) = let q = same_Some _ _ (e ∙ sym (leaf_unseen n)) in omega arith
        go (yes w) = both (eqb (child_of t c) 0 && eqb (kind_of t c) 0) (eqb (name_of t c) code.no_name) (answer_is w)

    pub leaf_codes : codes (word_type (nodes t u) c) ≡ x ∷ []
    unfolding word_type codes code_of
    leaf_codes = go (ℕ_discrete (seen_of t c) 1) (ℕ_discrete (child_of t c) 0) (ℕ_discrete (kind_of t c) 0) (ℕ_discrete (name_of t c) 0)
      where
        seen_is : (node_of (nodes t u) c).seen ≡ seen_of t c
        seen_is = ap (λ (n : Node). n.seen) node_is

        fact : seen_of t c ≡ 1 → codes (word_type (nodes t u) c) ≡ codes (type_of (nodes t u) c)
        fact w = rw (eq-eqb (node_of (nodes t u) c).seen 1 (seen_is ∙ w)) refl

        alone : (y : ℕ) → Some x ≡ Some y → y ∷ [] ≡ x ∷ []
        alone y q = ap (λ (z : ℕ). z ∷ []) (sym (same_Some _ _ q))

        go : Dec (seen_of t c ≡ 1) → Dec (child_of t c ≡ 0) → Dec (kind_of t c ≡ 0) → Dec (name_of t c ≡ 0) → codes (word_type (nodes t u) c) ≡ x ∷ []
        go (no w) h k v =
            rw (ne_eqb (node_of (nodes t u) c).seen 1 (λ z. w (sym seen_is ∙ z))) (alone word_code (e ∙ sym (leaf_unseen w)))
        go (yes w) (no h) k v = absurd (none-some _ (sym (answer_is w ∙ rw (ne_eqb (child_of t c) 0 h) refl)))
        go (yes w) (yes h) (no k) v = absurd (none-some _ (sym (answer_is w ∙ rw (eq-eqb (child_of t c) 0 h, ne_eqb (kind_of t c) 0 k) refl)))
        go (yes w) (yes h) (yes k) (yes v) =
            fact w ∙ unnamed_codes (name_of t c) refl (child_of t c) (kind_of t c) refl h refl k v
            ∙ alone word_code (answer_is w ∙ rw (eq-eqb (child_of t c) 0 h, eq-eqb (kind_of t c) 0 k, eq-eqb (name_of t c) 0 v) refl)
        go (yes w) (yes h) (yes k) (no v) =
            fact w ∙ named_codes (name_of t c) refl (child_of t c) (kind_of t c) refl h refl k v
            ∙ alone (name_of t c) (answer_is w ∙ rw (eq-eqb (child_of t c) 0 h, eq-eqb (kind_of t c) 0 k, ne_eqb (name_of t c) 0 v) refl)
