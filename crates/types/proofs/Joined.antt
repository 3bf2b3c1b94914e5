-- Lists of codes joined and split, as the codes of lists of types.
use mathlib.Core.Path.{◌≡◌, refl, sym, ap, ◌∙◌}
use mathlib.Core.Bool.{true}
use mathlib.Core.List.{List, ◌++◌, append_assoc, nil≢cons}
use Prim.Native.Nat.{ℕ}
use Rattle.types.specs.Tree.{AbiTypes, nil, cons, append, all_well_formed}
use Rattle.types.specs.Codes.{codes, all_codes, Spells}
use Rattle.types.proofs.Append.{codes_append, formed_both}
use Rattle.types.proofs.Formed.{head_formed, tail_formed}
use Rattle.types.proofs.Roots.{codes_cons}
use Rattle.types.proofs.Unique.{codes_prefix}

-- codes of types in a row are the codes of the types in a row
pub spells_append : (ts us : AbiTypes) (cs ds : List ℕ) → Spells ts cs → Spells us ds → Spells (append ts us) (cs ++ ds)
spells_append ts us cs ds s r =
    record {
      formed = formed_both ts us s.formed r.formed;
      spelt = codes_append ts us ∙ (λ i. s.spelt i ++ r.spelt i);
    }

rest : (us ts : AbiTypes) (ds : List ℕ) → all_well_formed us ≡ true → all_well_formed ts ≡ true
    → all_codes ts ≡ all_codes us ++ ds → (vs : AbiTypes) × (ts ≡ append us vs) × Spells vs ds
unfolding codes append
rest nil ts ds h i e = (ts, refl, record { formed = i; spelt = e })
rest (cons u us) nil ds h i e = absurd (nil≢cons (e ∙ ap (λ (l : List ℕ). l ++ ds) (codes_cons u us)))
rest (cons u us) (cons t ts) ds h i e =
    let f = e ∙ append_assoc (codes u) (all_codes us) ds in
    let a = codes_prefix t u (all_codes ts) (all_codes us ++ ds) (head_formed t ts i) (head_formed u us h) f in
    let (vs, g, s) = rest us ts ds (tail_formed u us h) (tail_formed t ts i) a.1 in
    (vs, (λ j. cons (a.0 j) (g j)), s)

-- and back: where codes begin with those of some types, the types begin with these, and the rest are the codes of the
-- rest
pub spells_rest : (us ts : AbiTypes) (cs ds : List ℕ) → Spells us cs → Spells ts (cs ++ ds)
    → (vs : AbiTypes) × (ts ≡ append us vs) × Spells vs ds
spells_rest us ts cs ds s r =
    rest us ts ds s.formed r.formed (r.spelt ∙ ap (λ (l : List ℕ). l ++ ds) (sym s.spelt))
