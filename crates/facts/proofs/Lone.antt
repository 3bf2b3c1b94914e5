-- The table of a lone root is sound, and its state is the root.
use Prim.Native.Nat.{ℕ, ◌+◌, ◌-◌, ◌*◌, ◌≤◌, ◌<◌}
use mathlib.Core.Path.{◌≡◌, ap, ◌∙◌, subst}
use mathlib.Core.Bool.{true}
use mathlib.Core.List.{List, [], ◌∷◌}
use native.Mathlib.Omega.{arith}
use lib.ListN.{length, replicate, length-replicate, get_or-replicate}
use lib.Seq.{get_or-set_other}
use Rattle.limits.specs.Limits.{record_width}
use Rattle.limits.specs.Fields as field
use Rattle.facts.specs.Table.{fld, child_of}
use Rattle.facts.specs.Access.{put, ZeroFrom}
use Rattle.facts.specs.Count.{Counted}
use Rattle.facts.specs.Linked.{Chained}
use Rattle.facts.specs.State.{Node, root, node_at, nodes, encode}
use Rattle.facts.specs.Fact.{is_bare}
use Rattle.facts.specs.Checks.{is_record, AreRecords}
use Rattle.facts.specs.Sound.{Root, Sound}
use Rattle.facts.proofs.Laws.{length_put, put_same, put_else}
use Rattle.facts.proofs.Whole.{root_is, root_fact, parts_sound}
use Rattle.facts.proofs.Encode.{sound_encode}

module _ (N : ℕ) (N1 : 1 ≤ N) where
  -- all zero, and the root seen: what the code stores
  abbrev pub blank : List ℕ
  blank = replicate (N * record_width) 0

  pub lone : List ℕ
  lone = put blank 1 field.seen 1

  len : length blank ≡ N * record_width
  len = length-replicate (N * record_width) 0

  pub length_lone : length lone ≡ N * record_width
  unfolding lone
  length_lone = length_put blank 1 field.seen 1 ∙ len

  seen_is : fld lone 1 field.seen ≡ 1
  unfolding lone
  seen_is = put_same blank 1 field.seen 1 (omega arith) (let e = len in omega arith) (omega arith)

  blank_field : (f : ℕ) → f < record_width → fld blank 1 f ≡ 0
  unfolding fld
  blank_field f l = get_or-replicate (N * record_width) ((1 - 1) * record_width + f) 0 0 (omega arith)

  else_zero : (f : ℕ) → f < record_width → (f ≡ field.seen → ⊥) → fld lone 1 f ≡ 0
  unfolding lone
  else_zero f l n = put_else blank 1 field.seen 1 1 f (omega arith) (omega arith) (omega arith) l (λ _. n) ∙ blank_field f l

  node_is : node_at lone 1 ≡ root
  node_is = λ i. record {
    key = else_zero field.key (omega arith) (λ e. omega arith) i;
    parent = else_zero field.parent (omega arith) (λ e. omega arith) i;
    seen = seen_is i;
    not_bool = else_zero field.not_bool (omega arith) (λ e. omega arith) i;
    blocked = else_zero field.blocked (omega arith) (λ e. omega arith) i;
    kind = else_zero field.kind (omega arith) (λ e. omega arith) i;
    count = else_zero field.count (omega arith) (λ e. omega arith) i;
    name = else_zero field.name (omega arith) (λ e. omega arith) i;
    confidence = else_zero field.confidence (omega arith) (λ e. omega arith) i;
  }

  is_lone_root : Root lone
  is_lone_root = record {
    seen = seen_is;
    key = else_zero field.key (omega arith) (λ e. omega arith);
    parent = else_zero field.parent (omega arith) (λ e. omega arith);
    next = else_zero field.next (omega arith) (λ e. omega arith);
    not_bool = else_zero field.not_bool (omega arith) (λ e. omega arith);
    last_five = ap is_bare node_is;
  }

  chained : Chained lone 1
  chained = record {
    some = omega arith;
    whole = let e = length_lone in omega arith;
    up = λ r a b. absurd (omega arith);
    chain = λ p a b. record {
      members = [];
      whole = let e : 1 ≡ p = omega arith in subst (λ (q : ℕ). child_of lone q ≡ 0) e (else_zero field.child (omega arith) (λ z. omega arith));
      rising = tt;
      kids = λ m i. absurd i;
    };
    placed = λ r a b. absurd (omega arith);
  }

  zeros : ZeroFrom lone (1 * record_width)
  unfolding lone put
  zeros i h k =
      let l : i < N * record_width = let e = length_lone in omega arith in
      get_or-set_other blank ((1 - 1) * record_width + field.seen) i 1 0 (λ e. omega arith) ∙ get_or-replicate (N * record_width) i 0 0 l

  records : AreRecords lone 1
  records = record {
    fact = λ r a b. let e : 1 ≡ r = omega arith in subst (λ (x : ℕ). is_record (node_at lone x) ≡ true) e (root_fact lone is_lone_root);
    under_seen = λ r a b. absurd (omega arith);
  }

  lone_sound : Sound lone 1 N
  lone_sound = parts_sound lone 1 N length_lone (omega arith) N1 (root_is lone is_lone_root) chained records zeros

  lone_state : nodes lone 1 ≡ root ∷ []
  unfolding nodes
  lone_state = ap (λ (n : Node). n ∷ []) node_is

  pub lone_encode : lone ≡ encode N (root ∷ [])
  lone_encode = sound_encode lone 1 N lone_sound ∙ ap (encode N) lone_state

  -- a fresh table is sound with one record used
  pub fresh_sound : Sound (encode N (root ∷ [])) 1 N
  fresh_sound = rw lone_encode at lone_sound

  -- and its state is a lone root
  pub fresh_state : nodes (encode N (root ∷ [])) 1 ≡ root ∷ []
  fresh_state = rw lone_encode at lone_state

-- what the code leaves: zeros, and then the root's flag
pub fresh_is : (l N : ℕ) (a b : List ℕ) → Counted l N → a ≡ replicate l 0 → b ≡ put a 1 field.seen 1 → b ≡ encode N (root ∷ [])
unfolding lone
fresh_is l N a b C ea eb =
    let e : a ≡ replicate (N * record_width) 0 = ea ∙ ap (λ (n : ℕ). replicate n 0) C.is in
    eb ∙ ap (λ (x : List ℕ). put x 1 field.seen 1) e ∙ lone_encode N C.some
