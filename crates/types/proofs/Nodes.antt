-- The step of a reader that goes through the codes from the left and counts how many types are still wanted.
use mathlib.Core.Path.{◌≡◌, refl, sym, ap, ◌∙◌}
use mathlib.Core.Bool.{true}
use mathlib.Core.List.{List, [], ◌∷◌, head-eq_of_cons-eq, tail-eq_of_cons-eq, nil≢cons}
use Prim.Native.Nat.{ℕ, ◌+◌, ◌-◌, ◌≤◌}
use native.Mathlib.Omega.{arith}
use lib.ListN.{length}
use Rattle.types.specs.Tree.{AbiType, AbiTypes, nil, cons, count, append, well_formed}
use Rattle.types.specs.Codes.{codes, Spells}
use Rattle.types.specs.Kind.{kind_of}
use Rattle.std.specs.Prelude.{Err}
use Rattle.types.specs.declared.kind.UnknownCode.{UnknownCode}
use Rattle.types.proofs.Formed.{head_formed, tail_formed, cons_formed}
use Rattle.types.proofs.Append.{codes_append, count_append, formed_left, formed_right, formed_both, split}
use Rattle.types.proofs.Sizes.{count_codes}
use Rattle.types.specs.Root.{root, parts}
use Rattle.types.proofs.Roots.{codes_cons, Follows, follows_only, unknown_follows, root_follows, parts_formed}
use Rattle.types.proofs.Roots.{whole}

-- the codes are those of n types or more
pub record Wanted (n : ℕ) (cs : List ℕ) : Type 0 where
  pub types : AbiTypes
  pub spells : Spells types cs
  pub enough : n ≤ count types

-- ts have the codes c ∷ cs, and us those left when c is read, a code that k types follow: ts with the parts of the
-- first type in its place
pub record Step (c k : ℕ) (cs : List ℕ) (ts us : AbiTypes) : Type 0 where
  pub first : AbiType
  pub rest : AbiTypes
  pub before : ts ≡ cons first rest
  pub after : us ≡ append (parts first) rest
  pub code : root first ≡ c
  pub number : count (parts first) ≡ k
  pub formed : well_formed first ≡ true
  pub spelt_before : Spells ts (c ∷ cs)
  pub spelt_after : Spells us cs
  pub some : 1 ≤ count ts
  pub counts : count us + 1 ≡ count ts + k

-- types that have a code have a first type, and the first code says how many types follow it
pub opens : (c : ℕ) (cs : List ℕ) (ts : AbiTypes) → Spells ts (c ∷ cs)
    → (k : ℕ) × Follows c k × (us : AbiTypes) × Step c k cs ts us
unfolding codes count
opens c cs nil s = absurd (nil≢cons s.spelt)
opens c cs (cons t ts) s =
    let f = tail_formed t ts s.formed in
    let g = head_formed t ts s.formed in
    let e = sym (codes_cons t ts) ∙ s.spelt in
    let r = head-eq_of_cons-eq e in
    let p = parts_formed t g in (
      count (parts t),
      rw r at (root_follows t g),
      append (parts t) ts,
      record {
        first = t;
        rest = ts;
        before = refl;
        after = refl;
        code = r;
        number = refl;
        formed = g;
        spelt_before = s;
        spelt_after =
            record { formed = formed_both (parts t) ts p f; spelt = codes_append (parts t) ts ∙ tail-eq_of_cons-eq e };
        some = omega arith;
        counts = omega (arith, count_append (parts t) ts);
      },
    )

module _ (c k : ℕ) (cs : List ℕ) (follows : Follows c k) where
  -- the types left when c is read
  pub after : (ts : AbiTypes) → Spells ts (c ∷ cs) → (us : AbiTypes) × Step c k cs ts us
  after ts s =
      let o = opens c cs ts s in
      let e = follows_only c o.0 k o.1 follows in
      (o.2, rw e at o.3)

  -- and back: c and the first k types of the rest are a type
  pub before : (us : AbiTypes) → Spells us cs → k ≤ count us → (ts : AbiTypes) × Step c k cs ts us
  unfolding count
  before us s l =
      let (vs, ws, e, n) = split k us l in
      let h = rw e at s.formed in
      let w = whole c k vs follows n (formed_left vs ws h) in
      let f = cons_formed w.type ws w.formed (formed_right vs ws h) in (
        cons w.type ws,
        record {
          first = w.type;
          rest = ws;
          before = refl;
          after = cc;
          code = w.first;
          number = cc;
          formed = w.formed;
          spelt_before = record { formed = f; spelt = cc (codes_cons w.type ws, codes_append vs ws) };
          spelt_after = s;
          some = omega arith;
          counts = omega (arith, count_append vs ws, ap count e);
        },
      )

  -- if n types are wanted before c, after it one type fewer is, and k more
  pub wanted_step : (n : ℕ) → Wanted n (c ∷ cs) → Wanted (n - 1 + k) cs
  wanted_step n w =
      let (us, s) = after w.types w.spells in
      record { types = us; spells = s.spelt_after; enough = omega arith }

  -- and back
  pub step_wanted : (n : ℕ) → Wanted (n - 1 + k) cs → Wanted n (c ∷ cs)
  step_wanted n w =
      let (ts, s) = before w.types w.spells (omega arith) in
      record { types = ts; spells = s.spelt_before; enough = omega arith }

-- at the end no types are wanted
pub wanted_none : (n : ℕ) → Wanted n [] → n ≡ 0
wanted_none n w = omega (arith, count_codes w.types, ap length w.spells.spelt)

-- and there the codes are those of no types
pub none_wanted : Wanted 0 []
unfolding codes well_formed
none_wanted = record { types = nil; spells = record { formed = refl; spelt = refl }; enough = omega arith }

-- no types have codes that begin with a number of no kind
pub wanted_unknown : (c n : ℕ) (cs : List ℕ) (e : UnknownCode) → kind_of c ≡ Err e → Wanted n (c ∷ cs) → ⊥
wanted_unknown c n cs e is w = let o = opens c cs w.types w.spells in unknown_follows c e o.0 is o.1
