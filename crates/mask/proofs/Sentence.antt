-- The definition is document 01's sentence: "zero gives none; low ones in whole bytes give uint, 160 of them address;
-- else leading ff bytes, the rest zero, give fixed bytes".
use Rattle.std.proofs.Common.{Option, Some, None}
use mathlib.Core.Path.{◌≡◌, refl, sym, ap, ◌∙◌, subst}
use mathlib.Core.Logic.{◌↔◌, ◌⊎◌, inl, inr}
use Prim.Native.Nat.{ℕ, ◌+◌, ◌-◌, ◌*◌, ◌^◌, ◌≤◌}
use native.Mathlib.Decide.{ℕ_discrete}
use native.Mathlib.Omega.{arith}
use Rattle.limits.specs.Codes.{no_name, address, uint, fixed_bytes}
use Rattle.mask.specs.Mask.{low_ones, leading_ff, low_bytes, leading_bytes, and_mask_to_type}
use Rattle.mask.proofs.ByteCounts.{Count, low_count, leading_count, low_counted, leading_counted}
use Rattle.mask.proofs.Names.{name_address, name_uint, name_bytes, name_none}

-- m is no low ones in whole bytes, and no leading ff bytes with the rest zero
abbrev pub NoLowOnes : ℕ → Type 0
NoLowOnes m = (k : ℕ) → 1 ≤ k → k ≤ 32 → m ≡ 2 ^ (8 * k) - 1 → ⊥

abbrev pub NoLeadingFf : ℕ → Type 0
NoLeadingFf m = (k : ℕ) → 1 ≤ k → k ≤ 32 → m ≡ 2 ^ 256 - 2 ^ (256 - 8 * k) → ⊥

-- the sentence: which masks give a name
pub data Gives (m : ℕ) : ℕ → Type 0 where
  to_address : m ≡ 2 ^ 160 - 1 → Gives m address
  to_uint : (n : ℕ) → 1 ≤ n → n ≤ 32 → (n ≡ 20 → ⊥) → m ≡ 2 ^ (8 * n) - 1 → Gives m (uint + 8 * n)
  to_bytes : (n : ℕ) → 1 ≤ n → n ≤ 32 → m ≡ 2 ^ 256 - 2 ^ (256 - 8 * n) → NoLowOnes m → Gives m (fixed_bytes + n)
  to_none : NoLowOnes m → NoLeadingFf m → Gives m no_name

module _ (m : ℕ) where
  -- a name that the sentence gives is the definition's
  pub gives_name : (name : ℕ) → Gives m name → name ≡ and_mask_to_type m
  unfolding low_ones leading_ff
  gives_name name (to_address e) = name_address m 20 (low_counted m (Some 20) (omega arith, omega arith, e)) refl
  gives_name name (to_uint n p q f e) = name_uint m n (low_counted m (Some n) (p, q, e)) (λ h. f (omega arith))
  gives_name name (to_bytes n p q e none) =
      name_bytes m (low_counted m None none) n (leading_counted m (Some n) (p, q, e))
  gives_name name (to_none none nowhere) = name_none m (low_counted m None none) (leading_counted m None nowhere)

  -- the sentence gives every mask a name
  pub some_name : (name : ℕ) × Gives m name
  unfolding low_ones leading_ff
  some_name = low (low_bytes m) (low_count m)
    where
      leading : NoLowOnes m → (o : Option ℕ) → Count leading_ff m 32 o → (name : ℕ) × Gives m name
      leading none (Some n) c = (_, to_bytes n c.0 c.1 c.2 none)
      leading none None c = (_, to_none none c)

      uints : (n : ℕ) → Count low_ones m 32 (Some n) → Dec (n ≡ 20) → (name : ℕ) × Gives m name
      uints n c (yes e) = (_, to_address (c.2 ∙ ap low_ones e))
      uints n c (no f) = (_, to_uint n c.0 c.1 f c.2)

      low : (o : Option ℕ) → Count low_ones m 32 o → (name : ℕ) × Gives m name
      low (Some n) c = uints n c (ℕ_discrete n 20)
      low None c = leading c (leading_bytes m) (leading_count m)

  -- so each name of the definition is one that the sentence gives
  pub name_given : Gives m (and_mask_to_type m)
  name_given = subst (Gives m) (gives_name some_name.0 some_name.1) some_name.1

-- uint of 8 n bits, but for 160, exactly for n whole bytes of low ones
pub uint_exactly : (m n : ℕ) → 1 ≤ n → n ≤ 32 → (n ≡ 20 → ⊥) → (and_mask_to_type m ≡ uint + 8 * n) ↔ (m ≡ 2 ^ (8 * n) - 1)
uint_exactly m n p q f = (λ e. go (and_mask_to_type m) (name_given m) e, λ e. sym (gives_name m _ (to_uint n p q f e)))
  where
    go : (name : ℕ) → Gives m name → name ≡ uint + 8 * n → m ≡ 2 ^ (8 * n) - 1
    go name (to_uint k _ _ _ e) h = e ∙ ap (λ (i : ℕ). 2 ^ (8 * i) - 1) (omega arith)
    go name (to_address _) h = absurd (omega arith)
    go name (to_bytes k _ _ _ _) h = absurd (omega arith)
    go name (to_none _ _) h = absurd (omega arith)

-- address exactly for 160 low ones
pub address_exactly : (m : ℕ) → (and_mask_to_type m ≡ address) ↔ (m ≡ 2 ^ 160 - 1)
address_exactly m = (λ e. go (and_mask_to_type m) (name_given m) e, λ e. sym (gives_name m _ (to_address e)))
  where
    go : (name : ℕ) → Gives m name → name ≡ address → m ≡ 2 ^ 160 - 1
    go name (to_address e) h = e
    go name (to_uint k _ _ _ _) h = absurd (omega arith)
    go name (to_bytes k _ _ _ _) h = absurd (omega arith)
    go name (to_none _ _) h = absurd (omega arith)

-- n fixed bytes exactly for n leading ff bytes, the rest zero, that are no low ones in whole bytes
pub bytes_exactly : (m n : ℕ) → 1 ≤ n → n ≤ 32 →
    (and_mask_to_type m ≡ fixed_bytes + n) ↔ ((m ≡ 2 ^ 256 - 2 ^ (256 - 8 * n)) × ((k : ℕ) → 1 ≤ k → k ≤ 32 → m ≡ 2 ^ (8 * k) - 1 → ⊥))
bytes_exactly m n p q = (λ e. go (and_mask_to_type m) (name_given m) e, λ e. sym (gives_name m _ (to_bytes n p q e.0 e.1)))
  where
    go : (name : ℕ) → Gives m name → name ≡ fixed_bytes + n → (m ≡ 2 ^ 256 - 2 ^ (256 - 8 * n)) × NoLowOnes m
    go name (to_bytes k _ _ e none) h = (e ∙ ap (λ (i : ℕ). 2 ^ 256 - 2 ^ (256 - 8 * i)) (omega arith), none)
    go name (to_address _) h = absurd (omega arith)
    go name (to_uint k l u _ _) h = absurd (omega arith)
    go name (to_none _ _) h = absurd (omega arith)

-- no name exactly for every other mask, zero among them
pub none_exactly : (m : ℕ) →
    (and_mask_to_type m ≡ no_name) ↔
    (((k : ℕ) → 1 ≤ k → k ≤ 32 → m ≡ 2 ^ (8 * k) - 1 → ⊥) × ((k : ℕ) → 1 ≤ k → k ≤ 32 → m ≡ 2 ^ 256 - 2 ^ (256 - 8 * k) → ⊥))
none_exactly m = (λ e. go (and_mask_to_type m) (name_given m) e, λ e. sym (gives_name m _ (to_none e.0 e.1)))
  where
    go : (name : ℕ) → Gives m name → name ≡ no_name → NoLowOnes m × NoLeadingFf m
    go name (to_none none nowhere) h = (none, nowhere)
    go name (to_address _) h = absurd (omega arith)
    go name (to_uint k _ _ _ _) h = absurd (omega arith)
    go name (to_bytes k _ _ _ _) h = absurd (omega arith)

-- the name is none, or a well-formed one: address, uint of 8 to 256 bits in eights, or 1 to 32 fixed bytes
pub mask_cases : (m : ℕ) →
    (and_mask_to_type m ≡ no_name) ⊎ (and_mask_to_type m ≡ address) ⊎
    ((n : ℕ) × (1 ≤ n) × (n ≤ 32) × (and_mask_to_type m ≡ uint + 8 * n)) ⊎ ((n : ℕ) × (1 ≤ n) × (n ≤ 32) × (and_mask_to_type m ≡ fixed_bytes + n))
mask_cases m = go (and_mask_to_type m) (name_given m)
  where
    go : (name : ℕ) → Gives m name →
        (name ≡ no_name) ⊎ (name ≡ address) ⊎
        ((n : ℕ) × (1 ≤ n) × (n ≤ 32) × (name ≡ uint + 8 * n)) ⊎ ((n : ℕ) × (1 ≤ n) × (n ≤ 32) × (name ≡ fixed_bytes + n))
    go name (to_none _ _) = inl refl
    go name (to_address _) = inr (inl refl)
    go name (to_uint n l u _ _) = inr (inr (inl (n, l, u, refl)))
    go name (to_bytes n l u _ _) = inr (inr (inr (n, l, u, refl)))
