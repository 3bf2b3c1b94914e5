-- One code counted, kind by kind.
use mathlib.Core.Path.{◌≡◌, refl, sym, ap, ◌∙◌}
use Prim.Native.Nat.{ℕ, ◌+◌, ◌-◌, ◌≤◌, ◌<◌}
use native.Mathlib.Omega.{arith}
use borrow.Author.Tests.{ne_eqb}
use lib.ListN.{length}
use Rattle.names.specs.Elementary.{of_code}
use Rattle.names.specs.Text.{name_text}
use Rattle.names.proofs.Codes.{name_has_width}
use Rattle.names.proofs.Texts.{name_short}
use Rattle.std.specs.Prelude.{Some, None, Ok, Err}
use Rattle.types.specs.declared.kind.CodeKind.TheVariants.{Name, Array, Tuple}
use Rattle.types.specs.declared.kind.UnknownCode.{UnknownCode}
use Rattle.types.specs.Kind.{Kind, kind_of}
use Rattle.types.proofs.KindLaws.{kind_name, kind_tuple}
use Rattle.types.proofs.Roots.{Follows, name_follows, array_follows, tuple_follows}
use Rattle.text.specs.declared.count.Tally.{Tally}
use Rattle.text.specs.Weight.{own_by, own, comma_before, tallied_by, tallied}

pub comma_first : (w : ℕ) → w ≡ 0 → 1 ≡ comma_before w
comma_first w e = simp e

pub comma_none : (w : ℕ) → (w ≡ 0 → ⊥) → 0 ≡ comma_before w
comma_none w f = simp (ne_eqb w 0 f)

-- what a tally says of the code
pub record Follow (c w l : ℕ) (t : Tally) : Type 0 where
  pub parts : ℕ
  pub follows : Follows c parts
  pub few : parts ≤ 65535
  pub short : own c ≤ 65536
  pub wanted : t.wanted ≡ w - 1 + parts
  pub length : t.length ≡ l + comma_before w + own c

same_tally : (a b : Tally) → Some a ≡ Some b → a ≡ b
same_tally a b e = cc

own_is : (c : ℕ) (k : Kind) → kind_of c ≡ k → own c ≡ own_by k c
unfolding own
own_is c k e = ap (λ (j : Kind). own_by j c) e

-- a tally that was made says which types follow the code
pub tally_follow : (c w l : ℕ) (t : Tally) → c < 65536 → Some t ≡ tallied c w l → Follow c w l t
unfolding tallied
tally_follow c w l t h = go (kind_of c) refl
  where
    of : (k n : ℕ) → Follows c k → k ≤ 65535 → own c ≡ n → n ≤ 65536
        → Some t ≡ Some (record { wanted = w - 1 + k; length = l + comma_before w + n }) → Follow c w l t
    of k n f few e short q =
        let s = same_tally t (record { wanted = w - 1 + k; length = l + comma_before w + n }) q in
        record {
          parts = k;
          follows = f;
          few = few;
          short = omega arith;
          wanted = λ i. (s i).wanted;
          length = (λ i. (s i).length) ∙ ap (λ (m : ℕ). l + comma_before w + m) (sym e);
        }

    go : (k : Kind) → kind_of c ≡ k → Some t ≡ tallied_by k c w l → Follow c w l t
    go (Ok Name) e q =
        let z : w - 1 ≡ w - 1 + 0 = omega arith in
        let short = name_short (of_code c) (name_has_width c (kind_name c e)) in
        of 0 (length (name_text (of_code c))) (name_follows c e) (omega arith) (own_is c (Ok Name) e) (omega arith)
        (q ∙ (λ i. Some (record { wanted = z i; length = l + comma_before w + length (name_text (of_code c)) })))
    go (Ok Array) e q = of 1 2 (array_follows c e) (omega arith) (own_is c (Ok Array) e) (omega arith) q
    go (Ok (Tuple n)) e q =
        let s = kind_tuple c n e in
        of n (n + 1) (tuple_follows c n e) (omega arith) (own_is c (Ok (Tuple n)) e) (omega arith) q
    go (Err u) e q = let z : ◌≡◌ {A = ℕ} 0 1 = cc in absurd (omega arith)

-- one that was not made, that no type begins with the code
pub no_tally : (c w l : ℕ) → None ≡ tallied c w l → (u : UnknownCode) × (kind_of c ≡ Err u)
unfolding tallied
no_tally c w l = go (kind_of c) refl
  where
    go : (k : Kind) → kind_of c ≡ k → None ≡ tallied_by k c w l → (u : UnknownCode) × (kind_of c ≡ Err u)
    go (Ok Name) e q = let z : ◌≡◌ {A = ℕ} 0 1 = cc in absurd (omega arith)
    go (Ok Array) e q = let z : ◌≡◌ {A = ℕ} 0 1 = cc in absurd (omega arith)
    go (Ok (Tuple n)) e q = let z : ◌≡◌ {A = ℕ} 0 1 = cc in absurd (omega arith)
    go (Err u) e q = (u, e)
